-- The image is read by the form that it has at the page size.
use mathlib.Core.Path.{refl, ap, ◌∙◌}
use Rattle.std.proofs.lemmas.Result.{err_from_is_err_and}
use Rattle.rules.specs.Owner.{Owner, named_owner}
use Rattle.rules.specs.Call.{SIZE, refused_reading, read}
use Rattle.rules.proofs.Named.{read_wrong}
use Rattle.pages.specs.Read.{as_form}
use Rattle.survey.proofs.Sizes.{sized_right, sized_wrong}
use Rattle.istrovell.proofs.read.Goals as goal

pub returns-in_err-form : goal.returns-in_err-form
returns-in_err-form c =
    let a = c.args in
    let i = a.image.now in
    let o = named_owner a.timer in
    let p = err_from_is_err_and c.from_residual.result c.from_residual.ensures.1 in
    rw (p.1, p.2, c.in_err-form.ensures.1)
    (sized_wrong a.page_size i c.form_at.ensures (refused_reading SIZE) (λ f. read f o a.address i) c.in_err-form.was
    (λ f w. read_wrong f i w o a.address) refl)

pub returns : goal.returns
returns c =
    let a = c.args in
    let i = a.image.now in
    let o = named_owner a.timer in
    sized_right a.page_size i c.form_at.ensures (refused_reading SIZE) (λ f. read f o a.address i) c.in_ok-form.was
    (c.read.ensures ∙ ap (λ (u : Owner). read (as_form c.in_ok-form.form) u a.address i) c.from-owner.ensures)
