-- The look, the settings of the used pages, and whether a group is open.
use Prim.Native.Nat.{ℕ, ◌<◌}
use mathlib.Core.Path.{◌≡◌, sym, ap, ◌∙◌, subst}
use mathlib.Core.Bool.{Bool, ◌&&◌}
use native.Mathlib.Omega.{arith}
use lib.ListN.{length}
use lib.Dec.{ltb}
use borrow.Author.Tests.{lt-ltb, le-ltb}
use Rattle.std.proofs.lemmas.Result.{err_from_is_err_and}
use Rattle.rules.specs.Store.{settings, held}
use Rattle.rules.specs.Call.{pages}
use Rattle.pages.specs.Read.{as_form}
use Rattle.survey.proofs.Refusals.{is_refusal}
use Rattle.survey.proofs.Looking.{told_few, told_line}
use Rattle.survey.specs.Look.{line_of}
use Rattle.store.specs.Gather.{Ends}
use Rattle.store.specs.Opened.{Holding}
use Rattle.store.proofs.Gathering.{passes, gathered_settings, group_told}
use Rattle.store.proofs.Opening.{refused_by_pages, refused_by_held, accepted_by_held}
use Rattle.store.proofs.open.Goals as goal
use Rattle.store.proofs.open.Goals.{After-len-held}

pub returns-in_err-look-clause-opens : goal.returns-in_err-look-clause-opens
returns-in_err-look-clause-opens c =
    let e = err_from_is_err_and c.from_residual.result c.from_residual.ensures.1 in
    rw (e.1, e.2) (refused_by_pages (as_form c.args.form) c.args.image.now _ c.in_err-look.ensures (is_refusal _))

pub gather-requires-clause-passes : goal.gather-requires-clause-passes
gather-requires-clause-passes c = let told = c.in_ok-look.ensures in passes told.0 told.1

pub gather-requires-clause-long : goal.gather-requires-clause-long
gather-requires-clause-long c = let told = c.in_ok-look.ensures in ((told_few told.0 told.1).1, told.1.long.0)

-- whatever is told of the group, if it is so
module _ (c : After-len-held) where
  opened : (group : Bool) → group ≡ (ltb c.in_ok-look.look.free c.args.form.slots && c.in-Ok.open_group)
      → Holding (as_form c.args.form) c.args.image.now (record { group = group; look = c.in_ok-look.look }) c.gather.new.table
  unfolding held
  opened group is =
      let fm = as_form c.args.form in
      let i = c.args.image.now in
      let told = c.in_ok-look.ensures in
      let few = c.len-held.ensures.few in
      let ends = subst (λ (n : ℕ). Ends fm i (line_of c.in_ok-look.look) n c.in-Ok.open_group) (sym (told_line told.0 told.1)) c.in-Ok.ensures.ends in
      let holds : c.gather.new.table ≡ settings (pages fm i) = c.in-Ok.ensures.value ∙ gathered_settings told.0 told.1 in
      record {
        accepted = accepted_by_held fm i told.0 (omega (arith, ap length holds, c.len-held.ensures.value, few));
        told = told.1;
        holds = holds;
        few = omega (arith, c.len-held.ensures.value, few);
        grouped = is ∙ group_told told.0 told.1 c.in-Ok.open_group ends;
      }

pub returns-then-look-form-clause-opens : goal.returns-then-look-form-clause-opens
returns-then-look-form-clause-opens c =
    let free = c.in_ok-look.look.free in
    opened (goal.at.returns-then-look-form-clause-opens c).After-len-held _
    (ap (λ (b : Bool). b && c.in-Ok.open_group) (sym (lt-ltb free c.args.form.slots (omega arith))))

pub returns-else-look-form-clause-opens : goal.returns-else-look-form-clause-opens
returns-else-look-form-clause-opens c =
    let free = c.in_ok-look.look.free in
    let full = le-ltb free c.args.form.slots (omega arith) in
    opened (goal.at.returns-else-look-form-clause-opens c).After-len-held (ltb free c.args.form.slots)
    (full ∙ ap (λ (b : Bool). b && c.in-Ok.open_group) (sym full))

pub returns-in-Err-clause-opens : goal.returns-in-Err-clause-opens
unfolding held
returns-in-Err-clause-opens c =
    let told = c.in_ok-look.ensures in
    let many : 192 < _ = c.in-Err.ensures.value in
    refused_by_held (as_form c.args.form) c.args.image.now told.0 (omega (arith, ap length (gathered_settings told.0 told.1), many))
