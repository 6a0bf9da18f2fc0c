-- The opening word, and then the change.
use Prim.Native.Nat.{◌≤◌}
use mathlib.Core.List.{List}
use native.Mathlib.Omega.{arith}
use lib.ListN.{length, length-append}
use Rattle.rules.specs.Flash.{Step}
use Rattle.rules.specs.Word.{opening_word, word_steps}
use Rattle.rules.specs.Steps.{words_of, append_steps, open_steps}
use Rattle.rules.proofs.Lengths.{word_length, slots_long}
use Rattle.changes.specs.Read.{as_change}
use Rattle.steps.specs.Done.{Done}
use Rattle.steps.proofs.Doing.{may_first, may_next, done_then}
use Rattle.writing.proofs.Changes.{words_few}
use Rattle.writing.proofs.open_page.Goals as goal
use Rattle.writing.proofs.open_page.Goals.{Start, After-program_word}

module _ (c : Start) where
  abbrev opening : List Step
  opening = word_steps c.args.page 1 (opening_word 1 c.args.order)

  abbrev changing : List Step
  changing = append_steps c.args.page 0 (as_change c.args.change.now)

  long : length changing ≤ 20
  unfolding append_steps
  long = omega (arith, slots_long c.args.page 0 (words_of (as_change c.args.change.now)), words_few _ c.args.change.now c.requires.right)

-- what the first word left
opened : (c : After-program_word) → Done c.args.steps.now (word_steps c.args.page 1 (opening_word 1 c.args.order)) c.program_word.new.self
opened c = rw c.opening_word.ensures at c.program_word.ensures

pub program_word-requires-clause-allowed : goal.program_word-requires-clause-allowed
unfolding open_steps append_steps
program_word-requires-clause-allowed c =
    let s = (goal.at.program_word-requires-clause-allowed c).Start in
    rw c.opening_word.ensures (may_first s.args.steps.now (opening s) (changing s) s.requires.allowed)

pub append-requires-clause-place : goal.append-requires-clause-place
append-requires-clause-place c =
    let p = (goal.at.append-requires-clause-place c).After-program_word in
    (c.requires.place.0, rw (opened p).same_form (omega (arith, words_few _ c.args.change.now c.requires.right, c.args.steps.now.form.fits)))

pub append-requires-clause-allowed : goal.append-requires-clause-allowed
unfolding open_steps append_steps
append-requires-clause-allowed c =
    let p = (goal.at.append-requires-clause-allowed c).After-program_word in
    may_next (opened p) (changing (goal.at.append-requires-clause-allowed c).Start) c.requires.allowed

pub overflow_add-result : goal.overflow_add-result
overflow_add-result c = omega (arith, c.append.ensures.many, long (goal.at.overflow_add-result c).Start)

pub returns : goal.returns
unfolding open_steps append_steps
returns c =
    let p = (goal.at.returns c).After-program_word in
    let s = (goal.at.returns c).Start in
    record {
      done = done_then (opened p) c.append.ensures.done;
      many = omega (arith, c.append.ensures.many, length-append (opening s) (changing s), word_length c.args.page 1 (opening_word 1 c.args.order));
    }
