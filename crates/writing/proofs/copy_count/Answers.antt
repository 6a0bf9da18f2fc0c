-- What is held, and what is new.
use Prim.Native.Nat.{◌+◌}
use mathlib.Core.Path.{◌≡◌}
use native.Mathlib.Omega.{arith}
use lib.ListN.{length}
use Rattle.rules.specs.Call.{triples}
use Rattle.steps.specs.Copied.{copied}
use Rattle.writing.proofs.Moving.{copies_many, copies_few}
use Rattle.writing.proofs.copy_count.Goals as goal
use Rattle.writing.proofs.copy_count.Goals.{After-told_of}

counted : (c : After-told_of) → c.len.result + c.told_of.result.new ≡ length (copied c.args.table.now (triples c.args.entries.now))
counted c =
    let t = c.requires.tabled in
    rw c.len.ensures.value (copies_many t (c.told_of.ensures.knows t.pages t.holds t.addressed).new)

pub overflow_add-result : goal.overflow_add-result
overflow_add-result c = omega (arith, counted (goal.at.overflow_add-result c).After-told_of, copies_few c.requires.tabled)

pub overflow_cast-result : goal.overflow_cast-result
overflow_cast-result c = omega (arith, counted (goal.at.overflow_cast-result c).After-told_of, copies_few c.requires.tabled)

pub returns : goal.returns
returns c = let n = counted (goal.at.returns c).After-told_of in (n, omega (arith, n, copies_few c.requires.tabled))
