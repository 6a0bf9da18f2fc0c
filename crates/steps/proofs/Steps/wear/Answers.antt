use Prim.Native.Nat.{ℕ}
use mathlib.Core.Path.{ap, ◌∙◌}
use mathlib.Core.List.{List}
use Rattle.rules.specs.Word.{words}
use Rattle.rules.specs.Page.{wear_in, page}
use Rattle.pages.specs.Read.{as_form}
use Rattle.pages.proofs.Forms.{part_is}
use Rattle.steps.proofs.Steps.wear.Goals as goal

pub returns : goal.returns
unfolding page
returns c =
    let a = c.args in
    let s = a.self.now in
    let n = c.size in
    let o = c.start-at in
    c.wear_of.ensures
    ∙ ap (λ (bytes : List ℕ). wear_in s.form.edition (words bytes)) (part_is (as_form s.form) a.page s.image.now o.result n.result o.ensures.value n.ensures)
