-- What it is to do the steps of a call, and what the change is and the settings are that they need.
use Rattle.std.specs.Prelude.{ℕ, ◌≡◌, false, List, map, length, take, min, leb}
use Rattle.rules.specs.Flash.{Step, run}
use Rattle.rules.specs.Page.{Form, Page, size}
use Rattle.rules.specs.Store.{Setting, address_of, settings}
use Rattle.rules.specs.Call.{wrong_group, a_wrong_address, repeats, no_room}
use Rattle.changes.specs.declared.change.Change.{Change}
use Rattle.changes.specs.Read.{as_change}
use Rattle.steps.specs.declared.Steps.{Steps}
use Rattle.steps.specs.Done.{Done}
use Rattle.writing.specs.declared.Outcome.{Outcome}

-- the steps were done as far as the allowance went, and so many are answered, and whether these are all
pub record Does (fm : Form) (allowance : ℕ) (ss : List Step) (i : List ℕ) (o : Outcome) (j : List ℕ) : Type 0 where
  pub steps : o.steps ≡ min allowance (length ss)
  pub finished : o.finished ≡ leb (length ss) allowance
  pub image : j ≡ run (size fm) (take allowance ss) i

-- the steps were done as far as the allowance went, and there are so many in all
pub record Counted (s : Steps) (ss : List Step) (t : Steps) (total : ℕ) : Type 0 where
  pub done : Done s ss t
  pub many : total ≡ length ss

-- no test of GROUP refuses the change
abbrev pub Right : (edition : ℕ) → Change → Type 0
Right e c = wrong_group e (as_change c) ≡ false

-- a store's settings, into which those written are lawful, and there is room for them
pub record Tabled (held written : List Setting) : Type 0 where
  pub pages : List Page
  pub holds : held ≡ settings pages
  pub addressed : a_wrong_address written ≡ false
  pub distinct : repeats (map address_of written) ≡ false
  pub room : no_room written pages ≡ false
