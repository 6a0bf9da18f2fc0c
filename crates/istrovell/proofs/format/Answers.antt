-- The pages are of the edition that is told.
use mathlib.Core.Path.{◌≡◌, refl, sym, ap, ◌∙◌}
use Rattle.std.proofs.lemmas.Result.{err_from_is_err_and}
use Rattle.std.specs.Prelude.{Option, None, Some, Ok, Err}
use Rattle.std.specs.Option.{ok_or}
use Rattle.pages.specs.declared.form.Chip.{Chip}
use Rattle.survey.specs.declared.refusal.Refusal.{Refusal}
use Rattle.survey.specs.declared.refusal.Refusal.TheVariants.{Size}
use Rattle.rules.specs.Page.{Form, in_edition}
use Rattle.rules.specs.Call.{SIZE, refused_format, format}
use Rattle.rules.specs.Named.{chip_of, told_form}
use Rattle.rules.proofs.Named.{format_named, on_none}
use Rattle.pages.specs.Read.{as_chip, as_named}
use Rattle.istrovell.proofs.format.Goals as goal

-- a chip that is found is the one that is named, and without one SIZE is answered
found : (o : Option Chip) (x : Chip) → ok_or o Size ≡ Ok x → o ≡ Some x
found None x e = cc
found (Some y) x e = cc

missed : (o : Option Chip) (e : Refusal) → ok_or o Size ≡ Err e → (o ≡ None) × (e ≡ Size)
missed None e h = (refl, cc)
missed (Some y) e h = cc

pub returns-in_err-chip : goal.returns-in_err-chip
returns-in_err-chip c =
    let a = c.args in
    let i = a.image.now in
    let p = err_from_is_err_and c.from_residual.result c.from_residual.ensures.1 in
    let m = missed c.chip_of.result c.in_err-chip.field-0.0 (sym c.ok_or.ensures.value ∙ c.in_err-chip.was) in
    let none = sym c.chip_of.ensures ∙ ap as_named m.0 in
    rw (p.1, p.2, m.1) (sym (on_none (chip_of a.page_size) none (refused_format SIZE i) (λ chip. format (told_form chip a.second) i)))

pub returns : goal.returns
returns c =
    let a = c.args in
    let chip = as_chip c.in_ok-chip.chip in
    let e = sym c.chip_of.ensures ∙ ap as_named (found c.chip_of.result c.in_ok-chip.chip (sym c.ok_or.ensures.value ∙ c.in_ok-chip.was)) in
    let is = c.form.ensures ∙ ap (in_edition chip) c.told.ensures in
    c.format.ensures ∙ ap (λ (f : Form). format f a.image.now) is ∙ sym (format_named a.page_size chip e a.image.now a.second)
