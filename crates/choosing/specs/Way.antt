-- What a write does, in the code's terms: the rules' way of an accepted write, or a refusal.
use Rattle.std.specs.Prelude.{ℕ, ◌+◌, ◌≤◌, ◌<◌, ◌≡◌, false, cond, List, length, eqb, leb, Result, Ok, Err}
use Rattle.rules.specs.Page.{Form}
use Rattle.rules.specs.Store.{index, Setting}
use Rattle.rules.specs.Steps.{Change, words_of, Way as Write, stay, append_to, open_at, move_to, way}
use Rattle.rules.specs.Owner.{Owner, a_foreign}
use Rattle.rules.specs.Call.{pages, is_unclean, wrong_group, a_wrong_address, write_number, order_limit}
use Rattle.survey.specs.declared.Role.{Role}
use Rattle.survey.specs.declared.refusal.Refusal.{Refusal}
use Rattle.survey.specs.declared.refusal.Refusal.TheVariants.{OrderEnd}
use Rattle.survey.specs.Refusals.{number_of}
use Rattle.choosing.specs.declared.Way.{Way}
use Rattle.choosing.specs.declared.Way.TheVariants.{Stay, Append, Open, Move}
use Rattle.choosing.specs.Candidate.{chosen}

abbrev pub as_way : Write → Way
as_way stay = Stay
as_way (append_to p k) = Append p k
as_way (open_at p o) = Open p o
as_way (move_to p o) = Move p o

-- the form of two numbers, whatever they are
abbrev pub numbered : (slots edition : ℕ) → Form
numbered n e = record { slot_count = n; edition = e }

-- the pages, slots and orders in a way are such as there are
unfoldable pub Fitting : Form → Change → Way → Type 0
Fitting fm c Stay = Unit {0}
Fitting fm c (Append p k) = (p < 32) × (k + length (words_of c) ≤ fm.slot_count)
Fitting fm c (Open p o) = (p < 32) × (o < 4194304)
Fitting fm c (Move p o) = (p < 32) × (o < 4194304)

-- the way of an accepted write, or the number by which it is refused
abbrev pub Chosen : (form : Form) → Owner → Change → List ℕ → Result Way Refusal → Type 0
Chosen fm o c i (Ok w) = (write_number fm o c i ≡ 0) × (w ≡ as_way (way c (pages fm i))) × Fitting fm c w
Chosen fm o c i (Err e) = write_number fm o c i ≡ number_of e

-- what a write has passed where the table is to be asked, rs being the settings that the bytes are
pub record Passed (fm : Form) (o : Owner) (c : Change) (rs : List Setting) (i : List ℕ) : Type 0 where
  pub clean : is_unclean (pages fm i) ≡ false
  pub grouped : wrong_group fm.edition c ≡ false
  pub addressed : a_wrong_address rs ≡ false
  pub owned : a_foreign o rs ≡ false

-- what the tests before that tell, or the number by which they refuse it
abbrev pub Tested : (form : Form) → Owner → Change → (settings : List Setting) → List ℕ → Result (Unit {0}) Refusal → Type 0
Tested fm o c rs i (Ok u) = Passed fm o c rs i
Tested fm o c rs i (Err e) = write_number fm o c i ≡ number_of e

-- a new page, by the roles of the pages, how many are cleared, and the active order
unfoldable pub new_page_of : List Role → (cleared order : ℕ) → Result Way Refusal
new_page_of rs n o =
    let p = index (chosen rs) in
    cond (eqb o order_limit) (Err OrderEnd) (cond (leb 2 n) (Ok (Open p (o + 1))) (Ok (Move p (o + 1))))
