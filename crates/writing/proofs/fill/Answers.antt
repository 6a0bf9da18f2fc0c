-- The opening word, the copies, the done word.
use Prim.Native.Nat.{ℕ}
use mathlib.Core.Path.{◌≡◌, ap, ◌∙◌}
use mathlib.Core.List.{List, ◌++◌, map}
use lib.ListN.{length}
use Rattle.rules.specs.Flash.{Step}
use Rattle.rules.specs.Store.{Setting}
use Rattle.rules.specs.Word.{opening_word, done_word, word_steps}
use Rattle.rules.specs.Steps.{record_of, slots_steps, fill_steps}
use Rattle.rules.specs.Call.{triples}
use Rattle.settings.specs.declared.Setting.{Setting as Numbers}
use Rattle.settings.specs.Held.{taken}
use Rattle.steps.specs.Done.{Done}
use Rattle.steps.specs.Copied.{copied}
use Rattle.steps.proofs.Doing.{may_first, may_next, done_then}
use Rattle.writing.proofs.fill.Goals as goal
use Rattle.writing.proofs.fill.Goals.{Start, After-program_word, After-copy}

module _ (c : Start) where
  abbrev opening : List Step
  opening = word_steps c.args.page 1 (opening_word 2 c.args.order)

  abbrev copying : List Step
  copying = slots_steps c.args.page 0 (map record_of (copied c.args.table.now (triples c.args.entries.now)))

  abbrev ending : List Step
  ending = word_steps c.args.page 2 (done_word c.args.order)

-- the places that travel have what is held
held : (xs : List Numbers) (n : ℕ) (t : List Setting) → n ≡ length t → taken xs (length t) ≡ t → taken xs n ≡ t
held xs n t l is = ap (taken xs) l ∙ is

copied_held : (c : After-copy)
    → Done c.program_word.new.self (slots_steps c.args.page 0 (map record_of (copied c.args.table.now (triples c.args.entries.now)))) c.copy.new.self
copied_held c = rw (held c.places.result.now c.len.result c.args.table.now c.len.ensures.value c.places.ensures) at c.copy.ensures

-- what the opening word left, and what the copies
opened : (c : After-program_word) → Done c.args.steps.now (word_steps c.args.page 1 (opening_word 2 c.args.order)) c.program_word.new.self
opened c = rw c.opening_word.ensures at c.program_word.ensures

pub program_word-requires-clause-allowed : goal.program_word-requires-clause-allowed
unfolding fill_steps
program_word-requires-clause-allowed c =
    let s = (goal.at.program_word-requires-clause-allowed c).Start in
    let a = s.args.steps.now in
    rw c.opening_word.ensures (may_first a (opening s) (copying s) (may_first a (opening s ++ copying s) (ending s) s.requires.allowed))

pub copy-requires-clause-allowed : goal.copy-requires-clause-allowed
unfolding fill_steps
copy-requires-clause-allowed c =
    let s = (goal.at.copy-requires-clause-allowed c).Start in
    rw (held c.places.result.now c.len.result c.args.table.now c.len.ensures.value c.places.ensures)
    (may_next (opened (goal.at.copy-requires-clause-allowed c).After-program_word) (copying s)
    (may_first s.args.steps.now (opening s ++ copying s) (ending s) s.requires.allowed))

pub program_word-requires-2-clause-allowed : goal.program_word-requires-2-clause-allowed
unfolding fill_steps
program_word-requires-2-clause-allowed c =
    let at = goal.at.program_word-requires-2-clause-allowed c in
    let filled = done_then (opened at.After-program_word) (copied_held at.After-copy) in
    rw c.done_word.ensures (may_next filled (ending at.Start) at.Start.requires.allowed)

pub returns : goal.returns
unfolding fill_steps
returns c =
    let filled = done_then (opened (goal.at.returns c).After-program_word) (copied_held (goal.at.returns c).After-copy) in
    done_then filled (rw c.done_word.ensures at c.program_word-2.ensures)
