-- What a broken word tells, and how many there can be. Assumes nothing.
use Prim.Native.Nat.{ℕ, ◌/◌, ◌%◌, ◌<◌}
use mathlib.Core.Path.{◌≡◌, sym}
use mathlib.Core.Bool.{Bool, true, false, ◌&&◌}
use native.Mathlib.Nat.{div-add-mod'}
use native.Mathlib.Omega.{arith}
use lib.Dec.{eqb}
use lib.ListN.{length}
use borrow.Author.Tests.{eqb-true}
use Rattle.rules.specs.Flash.{Rises}
use Rattle.rules.specs.Word.{Word, word, check, sound, blank, second_blank, HalfWritten, Spoiled, condition, low16, checked, record_word}
use Rattle.rules.specs.Word.{recorded, neither, slot}
use Rattle.rules.specs.Page.{size, word_count}
use Rattle.rules.specs.Store.{states, base}
use Rattle.rules.specs.Listing.{used_conditions, half, spoiled}
use Rattle.rules.specs.Call.{cut, page_count, pages}
use Rattle.rules.proofs.Truth.{is_false, and_left, and_right}
use Rattle.rules.proofs.Words.{half_not_sound, torn_sound, record_sound, split16}
use Rattle.rules.proofs.Conditions.{record_told, other_told}
use Rattle.rules.proofs.Cut.{cut_all_length}
use Rattle.rules.proofs.Broken.{broken_few, used_many}
use Rattle.promise.specs.Corollaries.{a_cut_record_says_how_far_it_came, no_slot_counts_twice}

-- two tests, of which not both hold
not_both_255 : (a b : ℕ) (rest : Bool) → (a ≡ 255 → b ≡ 255 → ⊥) → (eqb a 255 && (eqb b 255 && rest)) ≡ false
not_both_255 a b rest h =
    is_false (eqb a 255 && (eqb b 255 && rest))
    (λ t. h (eqb-true a 255 (and_left (eqb a 255) _ t)) (eqb-true b 255 (and_left (eqb b 255) _ (and_right (eqb a 255) _ t))))

not_begun : (e low high : ℕ) → (low ≡ 255 → high ≡ 255 → ⊥) → slot e (word low high 255 255) ≡ neither HalfWritten
unfolding slot condition blank second_blank
not_begun e low high h = rw (half_not_sound low high 255, not_both_255 low high true h)

whole : (e a v : ℕ) → a < 65535 → slot e (record_word a v) ≡ recorded a v
whole e a v few = sym (record_told e a v (λ z. omega arith))

module _ (e a v c d : ℕ) (few : a < 65535) (pc : Rises 8 v c) (pd : Rises 8 (check (a % 256) (a / 256) v) d) where
  abbrev left : Word
  left = word (a % 256) (a / 256) c d

  -- it is sound only if it is the record
  torn : (record_word a v ≡ left → ⊥) → sound left ≡ false
  unfolding record_word checked
  torn h =
      is_false (sound left)
      (λ s. h (torn_sound (a % 256) (a / 256) v (check (a % 256) (a / 256) v) c d (record_sound a v) pc pd s))

  broke_later : (c ≡ 255 → d ≡ 255 → ⊥) → (record_word a v ≡ left → ⊥) → slot e left ≡ neither Spoiled
  unfolding low16 second_blank
  broke_later n h =
      let begun : second_blank left ≡ false =
      is_false (second_blank left) (λ t. n (eqb-true c 255 (and_left (eqb c 255) _ t)) (eqb-true d 255 (and_right (eqb c 255) _ t))) in
      sym (other_told e left (λ z. omega (arith, split16 a)) (torn h) begun)

pub how_far : a_cut_record_says_how_far_it_came
how_far e = record { not_begun = not_begun e; broke_later = broke_later e; whole = whole e }

pub counted_once : no_slot_counts_twice
unfolding half spoiled used_conditions pages page_count
counted_once fm i =
    let ps = pages fm i in
    let b = base (states ps) in
    omega (
      arith,
      broken_few (used_conditions ps),
      used_many fm.edition fm.slot_count b (cut (size fm) (page_count fm i) i)
          (cut_all_length (word_count fm) (page_count fm i) i (omega (arith, div-add-mod' (length i) (size fm)))),
    )
