-- Format, in the terms of the code. Assumes nothing.
use Prim.Native.Nat.{ℕ}
use mathlib.Core.Path.{◌≡◌, sym, ap, subst}
use mathlib.Core.Bool.{true}
use mathlib.Core.List.{List, ◌++◌}
use native.Mathlib.Omega.{arith}
use lib.ListN.{take}
use Rattle.std.proofs.Common.{Ok, Err}
use Rattle.rules.specs.Flash.{Step, AllAllowed, run}
use Rattle.rules.specs.Page.{Form, size}
use Rattle.rules.specs.Word.{Word, opening_word, word_steps}
use Rattle.rules.specs.Steps.{renew_all, format_steps}
use Rattle.rules.specs.Call.{page_count, wrong_size, format}
use Rattle.rules.proofs.Ready.{format_allowed}
use Rattle.rules.proofs.Answers.{format_refused, format_done}
use Rattle.rules.proofs.Lengths.{word_length}
use Rattle.rules.proofs.Plans.{run_append, allowed_split, allowed_take}
use Rattle.pages.specs.declared.form.Form.{Form as Numbers}
use Rattle.pages.specs.Read.{as_form}
use Rattle.survey.specs.declared.refusal.Refusal.{Refusal}
use Rattle.survey.specs.declared.refusal.Refusal.TheVariants.{Size}
use Rattle.survey.specs.States.{Paged}
use Rattle.steps.specs.declared.Steps.{Steps}
use Rattle.steps.specs.Done.{Done}
use Rattle.steps.proofs.Doing.{done_all}
use Rattle.writing.specs.Answers.{as_formatted}

abbrev opening : Word → List Step
opening w = word_steps 0 1 w

module _ (form : Numbers) {i j : List ℕ} {n : ℕ} (renewed : j ≡ run (size (as_form form)) (renew_all form.edition 0 n) i)
    (sized : Paged (as_form form) i n) where
  -- all the steps, by the pages that were counted
  plan : format_steps form.edition (page_count (as_form form) i) ≡ renew_all form.edition 0 n ++ opening (opening_word 1 0)
  unfolding format_steps
  plan = ap (λ (m : ℕ). renew_all form.edition 0 m ++ opening (opening_word 1 0)) (sym sized.count)

  pub opening_ready : {w : Word} → w ≡ opening_word 1 0 → (left : ℕ) → AllAllowed (size (as_form form)) (take left (opening w)) j
  opening_ready {w} made left =
      let fm = as_form form in
      let all = subst (λ (ss : List Step). AllAllowed (size fm) ss i) plan (format_allowed fm i sized.right) in
      let rest = (allowed_split (size fm) (renew_all fm.edition 0 n) (opening (opening_word 1 0)) i all).1 in
      rw (made, renewed) (allowed_take (size fm) left (opening (opening_word 1 0)) _ rest)

  pub formatted : {s u : Steps} {w : Word} {l : List ℕ} → s.form ≡ form → s.left ≡ 2 → s.image.now ≡ j → w ≡ opening_word 1 0
      → Done s (opening w) u → l ≡ u.image.now → as_formatted (Ok tt) l ≡ format (as_form form) i
  formatted {s} {u} {w} {l} same left on made opened last =
      let fm = as_form form in
      let all = run_append (size fm) (renew_all fm.edition 0 n) (opening (opening_word 1 0)) i in
      let here = done_all opened (omega (arith, word_length 0 1 w, left)) in
      rw (last, here, same, on, renewed, made, ← all, ← plan) (sym (format_done fm i sized.right))

pub not_formatted : (fm : Form) (i : List ℕ) {e : Refusal} → (wrong_size fm i ≡ true) × (e ≡ Size) → as_formatted (Err e) i ≡ format fm i
not_formatted fm i {e} w = rw w.1 (sym (format_refused fm i w.0))
