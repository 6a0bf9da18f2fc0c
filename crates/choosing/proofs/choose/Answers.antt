-- What refuses the image refuses the write.
use mathlib.Core.Path.{subst}
use mathlib.Core.List.{[]}
use Rattle.std.proofs.Common.{MatchResult, Ok, Err}
use Rattle.owners.specs.Read.{as_owner}
use Rattle.changes.specs.Read.{as_change}
use Rattle.store.specs.Opened.{Opens, Opened}
use Rattle.choosing.specs.Way.{numbered}
use Rattle.choosing.proofs.Ways.{refused_store}
use Rattle.choosing.proofs.choose.Goals as goal

pub choose_way-requires : goal.choose_way-requires
choose_way-requires c =
    let a = c.args in
    let fm = numbered a.slots a.edition in
    let o = subst (λ r. MatchResult r (λ both. Opened fm (Ok both.0.now) both.1.now) (λ e. Opened fm (Err e) [])) c.in-Ok.is c.requires in
    (o.image, o.opens)

pub returns-in-Ok : goal.returns-in-Ok
returns-in-Ok c =
    let a = c.args in
    let fm = numbered a.slots a.edition in
    λ i h. c.choose_way.ensures i
    (subst (λ r. MatchResult r (λ both. Opens fm i (Ok both.0.now) both.1.now) (λ e. Opens fm i (Err e) [])) c.in-Ok.is h)

pub returns-in-Err : goal.returns-in-Err
returns-in-Err c =
    let a = c.args in
    let fm = numbered a.slots a.edition in
    λ i h. refused_store fm (as_owner a.owner) i (as_change a.change.now) _
    (subst (λ r. MatchResult r (λ both. Opens fm i (Ok both.0.now) both.1.now) (λ e. Opens fm i (Err e) [])) c.in-Err.is h)
