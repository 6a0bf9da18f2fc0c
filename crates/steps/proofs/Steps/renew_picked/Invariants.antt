-- The invariant: the picked pages before this one are renewed, and the greatest wear is that of the image as it would be then.
use Prim.Native.Nat.{ℕ}
use mathlib.Core.Bool.{Bool}
use Rattle.steps.specs.Done.{HasPages}
use Rattle.steps.specs.Picked.{Answers}
use Rattle.steps.proofs.Picked.{Passed}
use Rattle.steps.proofs.Steps.renew_picked.Given as goal

abbrev pub invariant-loop-page : goal.invariant-loop-page
invariant-loop-page g l =
    record {
      pages : HasPages l.self l.n;
      passed : (test : ℕ → Bool) → Answers (goal.F-post g l.picks) l.n test → Passed l.initial.self l.n test l.page l.self l.greatest;
    }
