use native.Mathlib.Omega.{arith}
use borrow.Enum.Refused.{opened}
use Rattle.std.proofs.Common.{rules}
use Rattle.groups.proofs.Standing.{closes_rightly, closes_wrongly, no_group_closed}
use Rattle.groups.proofs.Place.closed.Goals as goal

pub returns-in-Inside : goal.returns-in-Inside
returns-in-Inside c =
    λ at xs h l.
    let i = c.in-Inside in
    closes_rightly at xs c.args.self h c.args.n i.number i.first c.args.k i.is l (omega arith) (omega arith)

pub returns-in_default : goal.returns-in_default
returns-in_default c =
    λ at xs h l.
    let i = c.in-Inside in
    closes_wrongly at xs c.args.self h c.args.n i.number i.first c.args.k i.is l (λ e d. omega arith)

pub returns-in_default-2 : goal.returns-in_default-2
returns-in_default-2 c =
    λ at xs h l.
    let i = c.in-Inside in
    closes_wrongly at xs c.args.self h c.args.n i.number i.first c.args.k i.is l (λ e d. omega arith)

pub returns-in_default-3 : goal.returns-in_default-3
returns-in_default-3 c = λ at xs h l. no_group_closed at xs c.args.self h c.args.n (search (rules, opened))
