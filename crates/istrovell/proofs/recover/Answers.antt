-- The image is read by the form that it has at the page size.
use mathlib.Core.Path.{refl}
use Rattle.std.proofs.lemmas.Result.{err_from_is_err_and}
use Rattle.rules.specs.Call.{SIZE, refused_steps, recover}
use Rattle.rules.proofs.Named.{recover_wrong}
use Rattle.survey.proofs.Sizes.{sized_right, sized_wrong}
use Rattle.istrovell.proofs.recover.Goals as goal

pub returns-in_err-form : goal.returns-in_err-form
returns-in_err-form c =
    let a = c.args in
    let i = a.image.now in
    let p = err_from_is_err_and c.from_residual.result c.from_residual.ensures.1 in
    rw (p.1, p.2, c.in_err-form.ensures.1)
    (sized_wrong a.page_size i c.form_at.ensures (refused_steps SIZE i) (λ f. recover f a.allowance i) c.in_err-form.was
    (λ f w. recover_wrong f i w a.allowance) refl)

pub returns : goal.returns
returns c =
    let a = c.args in
    let i = a.image.now in
    sized_right a.page_size i c.form_at.ensures (refused_steps SIZE i) (λ f. recover f a.allowance i) c.in_ok-form.was
    (c.recover.ensures)
