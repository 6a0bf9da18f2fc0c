-- The two halves of a word under an allowance, in the terms of the code: an offset, and the bytes stored there. Assumes nothing.
use Prim.Native.Nat.{ℕ, zero, suc, ◌+◌, ◌*◌}
use mathlib.Core.Path.{◌≡◌, refl, sym, ap, ◌∙◌}
use mathlib.Core.List.{List, [], ◌∷◌}
use native.Mathlib.Omega.{arith}
use lib.ListN.{take, drop}
use lib.Seq.{sets}
use Rattle.rules.specs.Flash.{Step, program, first, second, offset, aim, bytes_at, Allowed, after, run}
use Rattle.rules.specs.Word.{word, word_steps}
use Rattle.rules.proofs.Plans.{AllAllowed}

module _ (size p k start : ℕ) (begins : start ≡ p * size) (a b c d : ℕ) (i : List ℕ) where
  -- where the code programs
  abbrev at : ℕ
  at = start + k * 4

  abbrev steps : List Step
  steps = word_steps p k (word a b c d)

  at_first : offset size (program p k first a b) ≡ at
  unfolding offset
  at_first = omega (arith, begins)

  at_second : offset size (program p k second c d) ≡ at + 2
  unfolding offset
  at_second = omega (arith, begins)

  after_first : after size (program p k first a b) i ≡ sets i at (a ∷ b ∷ [])
  unfolding after aim
  after_first = ap (λ (o : ℕ). sets i o (a ∷ b ∷ [])) at_first

  after_second : (j : List ℕ) → after size (program p k second c d) j ≡ sets j (at + 2) (c ∷ d ∷ [])
  unfolding after aim
  after_second j = ap (λ (o : ℕ). sets j o (c ∷ d ∷ [])) at_second

  pub first_allowed : (left : ℕ) → (left ≡ 0 → ⊥) → AllAllowed size (take left steps) i → take 2 (drop at i) ≡ 255 ∷ 255 ∷ []
  unfolding AllAllowed Allowed bytes_at word_steps
  first_allowed zero n h = absurd (n refl)
  first_allowed (suc left) n h = ap (λ (o : ℕ). take 2 (drop o i)) (sym at_first) ∙ h.0

  pub one_done : (left : ℕ) (j : List ℕ) → left ≡ 1 → j ≡ sets i at (a ∷ b ∷ []) → j ≡ run size (take left steps) i
  unfolding run word_steps
  one_done left j e s = rw e (s ∙ sym after_first)

  pub second_allowed : (left : ℕ) (j : List ℕ) → (left ≡ 0 → ⊥) → (left ≡ 1 → ⊥) → AllAllowed size (take left steps) i → j ≡ sets i at (a ∷ b ∷ [])
      → take 2 (drop (at + 2) j) ≡ 255 ∷ 255 ∷ []
  unfolding AllAllowed Allowed bytes_at word_steps
  second_allowed zero j n m h s = absurd (n refl)
  second_allowed (suc zero) j n m h s = absurd (m refl)
  second_allowed (suc (suc left)) j n m h s =
      ap (λ (l : List ℕ). take 2 (drop (at + 2) l)) (s ∙ sym after_first)
      ∙ ap (λ (o : ℕ). take 2 (drop o (after size (program p k first a b) i))) (sym at_second) ∙ h.1.0

  pub both_done : (left : ℕ) (j l : List ℕ) → (left ≡ 0 → ⊥) → (left ≡ 1 → ⊥) → j ≡ sets i at (a ∷ b ∷ []) → l ≡ sets j (at + 2) (c ∷ d ∷ [])
      → l ≡ run size (take left steps) i
  unfolding run word_steps
  both_done zero j l n m s t = absurd (n refl)
  both_done (suc zero) j l n m s t = absurd (m refl)
  both_done (suc (suc left)) j l n m s t =
      t ∙ sym (after_second j) ∙ ap (after size (program p k second c d)) (s ∙ sym after_first) ∙ done left
    where
      done : (left : ℕ)
          → after size (program p k second c d) (after size (program p k first a b) i) ≡ run size (take left [])
          (after size (program p k second c d) (after size (program p k first a b) i))
      done zero = refl
      done (suc left) = refl
