-- Steps that were done under an allowance, as a call answers them. Assumes nothing.
use Prim.Native.Nat.{ℕ, min}
use mathlib.Core.Path.{◌≡◌, sym, ap, ◌∙◌}
use mathlib.Core.List.{List}
use lib.ListN.{length-take}
use lib.Dec.{leb}
use Rattle.std.proofs.Common.{Ok}
use Rattle.rules.specs.Flash.{Step, AllAllowed}
use Rattle.rules.specs.Page.{Form, size}
use Rattle.rules.specs.Call.{stepped}
use Rattle.rules.proofs.Answers.{stepped_done}
use Rattle.rules.proofs.Plans.{allowed_take}
use Rattle.pages.specs.Read.{as_form}
use Rattle.steps.specs.declared.Steps.{Steps}
use Rattle.steps.specs.Done.{May}
use Rattle.writing.specs.declared.Outcome.{Outcome}
use Rattle.writing.specs.Answers.{as_stepped}
use Rattle.writing.specs.Plans.{Does, Counted}

-- what may be done without an allowance may be done under one
pub may_all : (s : Steps) (ss : List Step) → AllAllowed (size (as_form s.form)) ss s.image.now → May s ss
may_all s ss h = allowed_take (size (as_form s.form)) s.left ss s.image.now h

-- how many were done, and whether that is all
pub outcome : {s t : Steps} {ss : List Step} {total : ℕ} {o : Outcome} → Counted s ss t total
    → (o.steps ≡ min s.left total) × (o.finished ≡ leb total s.left) → Does (as_form s.form) s.left ss s.image.now o t.image.now
outcome {s} d told = record { steps = told.0 ∙ ap (min s.left) d.many; finished = told.1 ∙ ap (λ n. leb n s.left) d.many; image = d.done.image }

-- an accepted call answers that
pub answered : {fm : Form} {allowance : ℕ} {ss : List Step} {i : List ℕ} {o : Outcome} {j l : List ℕ} → (number : ℕ) → number ≡ 0
    → Does fm allowance ss i o j → l ≡ j → as_stepped (Ok o) l ≡ stepped fm number allowance ss i
answered {fm} {allowance} {ss} {i} number ok d last =
    rw (last, d.steps, d.finished, d.image)
    (sym (stepped_done fm number allowance ss i ok ∙ rw (length-take allowance ss)))
