use mathlib.Core.Path.{sym, subst}
use Rattle.std.proofs.Common.{rules}
use Rattle.groups.specs.Stands.{Stands}
use Rattle.groups.proofs.Standing.{record_behind, opens_behind, closes_behind, neither_behind, lost_behind, neither_told}
use Rattle.groups.proofs.Place.behind.Goals as goal

pub returns-in_default-Record : goal.returns-in_default-Record
returns-in_default-Record c =
    λ at xs w h e. rw c.in_default-Record.is-1 (record_behind at xs c.args.self h w)

pub returns-in_default-Closes : goal.returns-in_default-Closes
returns-in_default-Closes c = λ at xs w h e. rw c.in_default-Closes.is-1 (closes_behind at xs c.args.self h w _)

pub returns-in-Outside-Opens : goal.returns-in-Outside-Opens
returns-in-Outside-Opens c =
    λ at xs w h e.
    rw c.in-Outside-Opens.is-1 (opens_behind at xs c.args.self h w c.in-Outside-Opens.is-0 _ c.args.next e)

pub returns-in-Outside-default : goal.returns-in-Outside-default
returns-in-Outside-default c =
    λ at xs w h e.
    let n = neither_told w c.args.s (search rules) in
    let stays = neither_behind at xs c.args.self h w c.in-Outside-default.is-0 n.0 in
    rw n.1 (subst (Stands _ _) (sym c.in-Outside-default.is-0) stays)

pub returns-in_default : goal.returns-in_default
returns-in_default c =
    λ at xs w h e.
    let n = c.in_default in
    lost_behind at xs c.args.self h w n.not-Outside-0 c.args.s n.not-Record-1 n.not-Closes-1

pub returns-in_default-2 : goal.returns-in_default-2
returns-in_default-2 c =
    λ at xs w h e.
    let n = c.in_default in
    lost_behind at xs c.args.self h w n.not-Outside-0 c.args.s n.not-Record-1 n.not-Closes-1
