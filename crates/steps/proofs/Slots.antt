-- Words in the slots of a page, one after the other under an allowance, in the terms of the code. Assumes nothing.
use Prim.Native.Nat.{ℕ, suc, ◌+◌}
use mathlib.Core.Path.{◌≡◌, sym, ap, ◌∙◌, subst}
use mathlib.Core.List.{List, [], ◌∷◌, ◌++◌, append-nil, append_assoc}
use native.Mathlib.Omega.{arith}
use lib.ListN.{length}
use Rattle.rules.specs.Flash.{Step}
use Rattle.rules.specs.Word.{Word, word_steps}
use Rattle.rules.specs.Page.{slot_place}
use Rattle.rules.specs.Steps.{slots_steps}
use Rattle.steps.specs.declared.Steps.{Steps}
use Rattle.steps.specs.Done.{May, Done}
use Rattle.steps.proofs.Doing.{done_then, may_first, may_next}

slots_append : (p k : ℕ) (xs ys : List Word) → slots_steps p k (xs ++ ys) ≡ slots_steps p k xs ++ slots_steps p (k + length xs) ys
unfolding slots_steps
slots_append p k [] ys = let e : k ≡ k + 0 = omega arith in ap (λ (x : ℕ). slots_steps p x ys) e
slots_append p k (w ∷ xs) ys =
    let e : suc k + length xs ≡ k + suc (length xs) = omega arith in
    let first = word_steps p (slot_place k) w in
    ap (λ (ss : List Step). first ++ ss) (slots_append p (suc k) xs ys ∙ ap (λ (x : ℕ). slots_steps p (suc k) xs ++ slots_steps p x ys) e)
    ∙ sym (append_assoc first (slots_steps p (suc k) xs) (slots_steps p (k + suc (length xs)) ys))

one_slot : (p k : ℕ) (w : Word) → slots_steps p k (w ∷ []) ≡ word_steps p (slot_place k) w
unfolding slots_steps
one_slot p k w = append-nil (word_steps p (slot_place k) w)

module _ {s t : Steps} (p k : ℕ) (ws : List Word) (d : Done s (slots_steps p k ws) t) where
  -- behind ws, which have been programmed from slot k on, more may be, where all may
  pub slots_ready : (vs more : List Word) → May s (slots_steps p k (ws ++ (vs ++ more))) → May t (slots_steps p (k + length ws) vs)
  slots_ready vs more h =
      let e = slots_append p k ws (vs ++ more) ∙ ap (λ (ss : List Step). slots_steps p k ws ++ ss) (slots_append p (k + length ws) vs more) in
      may_first t (slots_steps p (k + length ws) vs) (slots_steps p (k + length ws + length vs) more)
      (may_next d (slots_steps p (k + length ws) vs ++ slots_steps p (k + length ws + length vs) more) (subst (May s) e h))

  -- and are
  pub slots_more : (vs : List Word) {u : Steps} → Done t (slots_steps p (k + length ws) vs) u → Done s (slots_steps p k (ws ++ vs)) u
  slots_more vs {u} e = subst (λ (ss : List Step). Done s ss u) (sym (slots_append p k ws vs)) (done_then d e)

  -- the same of one word, in its place
  module _ (w : Word) (place : ℕ) (at : place ≡ slot_place (k + length ws)) where
    steps_are : slots_steps p (k + length ws) (w ∷ []) ≡ word_steps p place w
    steps_are = one_slot p (k + length ws) w ∙ ap (λ (x : ℕ). word_steps p x w) (sym at)

    pub word_ready : (more : List Word) → May s (slots_steps p k (ws ++ w ∷ more)) → May t (word_steps p place w)
    word_ready more h = subst (May t) steps_are (slots_ready (w ∷ []) more h)

    pub word_more : {u : Steps} → Done t (word_steps p place w) u → Done s (slots_steps p k (ws ++ w ∷ [])) u
    word_more {u} e = slots_more (w ∷ []) (subst (λ (ss : List Step). Done t ss u) (sym steps_are) e)
