-- The image is read by the form that it has at the page size.
use mathlib.Core.Path.{refl}
use Rattle.std.proofs.lemmas.Result.{err_from_is_err_and}
use Rattle.rules.specs.Call.{SIZE, refused_lookup, lookup}
use Rattle.rules.proofs.Named.{lookup_wrong}
use Rattle.survey.proofs.Sizes.{sized_right, sized_wrong}
use Rattle.istrovell.proofs.lookup.Goals as goal

pub returns-in_err-form : goal.returns-in_err-form
returns-in_err-form c =
    let a = c.args in
    let i = a.image.now in
    let p = err_from_is_err_and c.from_residual.result c.from_residual.ensures.1 in
    rw (p.1, p.2, c.in_err-form.ensures.1)
    (sized_wrong a.page_size i c.form_at.ensures (refused_lookup SIZE) (λ f. lookup f i) c.in_err-form.was
    (λ f w. lookup_wrong f i w) refl)

pub returns : goal.returns
returns c =
    let a = c.args in
    let i = a.image.now in
    sized_right a.page_size i c.form_at.ensures (refused_lookup SIZE) (λ f. lookup f i) c.in_ok-form.was
    (c.lookup.ensures)
