use mathlib.Core.Path.{ap, ◌∙◌}
use native.Mathlib.Omega.{arith}
use lib.ListN.{length}
use borrow.Author.Tests.{eq-eqb}
use Rattle.rules.specs.Store.{count}
use Rattle.rules.specs.Owner.{is_own}
use Rattle.owners.specs.Read.{as_owner}
use Rattle.choosing.proofs.Rooms.{too_many, none_new, by_owner}
use Rattle.choosing.proofs.is_full.Goals as goal

pub returns-then-is_over : goal.returns-then-is_over
returns-then-is_over c = λ ps rs e is. too_many ps (as_owner c.args.owner) rs is (omega (arith, ap length e))

pub returns-then-is_some_new : goal.returns-then-is_some_new
returns-then-is_some_new c =
    λ ps rs e is.
    let o = as_owner c.args.owner in
    by_owner ps o rs is (omega (arith, ap length e)) c.if-is_some_new.true c.most-most.ensures (c.held_by.ensures.value ∙ ap (count (is_own o)) e)

pub returns-else-is_some_new : goal.returns-else-is_some_new
returns-else-is_some_new c =
    let z = c.if-is_some_new.false in
    λ ps rs e is. rw (eq-eqb c.args.new 0 z) (none_new ps (as_owner c.args.owner) rs is (omega (arith, ap length e)) z)
