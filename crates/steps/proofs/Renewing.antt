-- A page that is erased and gets its wear word, under an allowance, in the terms of the code. Assumes nothing.
use Prim.Native.Nat.{ℕ, zero, suc, ◌+◌, ◌-◌, ◌*◌, ◌≤◌}
use mathlib.Core.Path.{◌≡◌, refl, sym, ap, ap₂, ◌∙◌, subst}
use mathlib.Core.List.{List, ◌++◌, append-nil, append_assoc}
use native.Mathlib.Nat.{zero-add}
use native.Mathlib.Numerals.{add-one}
use native.Mathlib.Omega.{arith}
use lib.ListN.{length, take, replicate}
use lib.Seq.{sets}
use Rattle.rules.specs.Flash.{Step, erase, offset, aim, after, run}
use Rattle.rules.specs.Word.{Word, wear_word, word_steps}
use Rattle.rules.specs.Steps.{renew, renew_all}
use Rattle.rules.proofs.Plans.{AllAllowed, allowed_take, erased_allowed}
use Rattle.steps.specs.declared.Steps.{Steps}
use Rattle.steps.specs.Done.{Done}
use Rattle.steps.proofs.Doing.{done_then}

-- the erase, at the offset and of the size that were computed
pub erased_page : (p size : ℕ) (i : List ℕ) {j : List ℕ} (start n : ℕ) → start ≡ p * size → n ≡ size → j ≡ sets i start (replicate n 255)
    → j ≡ sets i (p * size) (replicate size 255)
erased_page p size i start n e f h = h ∙ ap₂ (λ (o m : ℕ). sets i o (replicate m 255)) e f

module _ (size edition p wear : ℕ) (wide : 4 ≤ size) (i j : List ℕ) (w : Word) (erased : j ≡ sets i (p * size) (replicate size 255))
    (made : w ≡ wear_word edition wear) where
  is_erased : j ≡ after size (erase p) i
  unfolding after offset aim
  is_erased = erased

  pub renewing_allowed : (n : ℕ) → p * size + size ≤ length i → AllAllowed size (take n (word_steps p 0 w)) j
  renewing_allowed n h =
      subst (AllAllowed size (take n (word_steps p 0 w))) (sym is_erased)
      (allowed_take size n (word_steps p 0 w) (after size (erase p) i) (erased_allowed size p i h 0 w (omega arith)))

  pub renewing_done : (left : ℕ) (l : List ℕ) → (left ≡ 0 → ⊥) → l ≡ run size (take (left - 1) (word_steps p 0 w)) j
      → l ≡ run size (take left (renew edition p wear)) i
  unfolding run renew
  renewing_done zero l n h = absurd (n refl)
  renewing_done (suc left) l n h =
      let e : suc left - 1 ≡ left = omega arith in
      h ∙ ap (λ (x : ℕ). run size (take x (word_steps p 0 w)) j) e ∙ ap (run size (take left (word_steps p 0 w))) is_erased
      ∙ ap (λ (x : Word). run size (take left (word_steps p 0 x)) (after size (erase p) i)) made

-- ---- one page after the other

pub renew_all_next : (edition k n : ℕ) → renew_all edition k (suc n) ≡ renew_all edition k n ++ renew edition (k + n) 1
unfolding renew_all
renew_all_next edition k zero = let e : k ≡ k + 0 = omega arith in append-nil (renew edition k 1) ∙ ap (λ (x : ℕ). renew edition x 1) e
renew_all_next edition k (suc n) =
    let e : suc k + n ≡ k + suc n = omega arith in
    ap (λ (ss : List Step). renew edition k 1 ++ ss) (renew_all_next edition (suc k) n ∙ ap (λ (x : ℕ). renew_all edition (suc k) n ++ renew edition x 1) e)
    ∙ sym (append_assoc (renew edition k 1) (renew_all edition (suc k) n) (renew edition (k + suc n) 1))

pub renew_all_more : {s t u : Steps} (n : ℕ) → Done s (renew_all s.form.edition 0 n) t → Done t (renew t.form.edition n 1) u
    → Done s (renew_all s.form.edition 0 (n + 1)) u
renew_all_more {s} {t} {u} n d e =
    let more : renew_all s.form.edition 0 n ++ renew t.form.edition n 1 ≡ renew_all s.form.edition 0 (n + 1) =
    rw (d.same_form, add-one) (sym (renew_all_next s.form.edition 0 n ∙ rw zero-add)) in
    subst (λ (ss : List Step). Done s ss u) more (done_then d e)
