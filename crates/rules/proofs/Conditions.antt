-- What a word in a slot is, by the tests that the definition is made of. Assumes nothing.
use Prim.Native.Nat.{ℕ, ◌-◌, ◌≤◌, ◌<◌}
use mathlib.Core.Path.{◌≡◌, refl, sym, ap, ◌∙◌}
use mathlib.Core.Bool.{Bool, true, false, cond, ◌&&◌}
use lib.Dec.{eqb, leb}
use native.Mathlib.Omega.{arith}
use borrow.Author.Tests.{eq-eqb, ne_eqb, eqb-false, le-leb, lt-leb}
use Rattle.rules.specs.Word.{Word, word, sound, blank, second_blank, Blank, HalfWritten, Spoiled, condition, low16, third}
use Rattle.rules.specs.Word.{record_word, mark_word, Slot, recorded, opens, closes, neither, mark, has_groups, sound_slot, slot}
use Rattle.rules.proofs.Truth.{is_false, by_cases}
use Rattle.rules.proofs.Words.{blank_is, blank_not_sound, record_address, record_value, record_sound}

-- ---- marks, by their values

pub mark_zero : closes 0 ≡ mark 0
unfolding mark
mark_zero = refl

pub mark_opens : (v : ℕ) → (v ≡ 0 → ⊥) → v ≤ 8 → opens v ≡ mark v
unfolding mark
mark_opens v n l = rw (ne_eqb v 0 n, le-leb v 8 l)

pub mark_closes : (v : ℕ) → 129 ≤ v → v ≤ 136 → closes (v - 128) ≡ mark v
unfolding mark
mark_closes v l m = rw (ne_eqb v 0 (omega arith), lt-leb v 8 (omega arith), le-leb 129 v l, le-leb v 136 m)

pub mark_between : (v : ℕ) → 8 < v → v < 129 → neither Spoiled ≡ mark v
unfolding mark
mark_between v l m = rw (ne_eqb v 0 (omega arith), lt-leb v 8 l, lt-leb 129 v m)

pub mark_beyond : (v : ℕ) → 136 < v → neither Spoiled ≡ mark v
unfolding mark
mark_beyond v l = rw (ne_eqb v 0 (omega arith), lt-leb v 8 (omega arith), le-leb 129 v (omega arith), lt-leb v 136 l)

module _ (edition : ℕ) where
  -- ---- sound or not

  -- what a word is that is not sound
  pub unsound_told : (w : Word) → sound w ≡ false → neither (condition w) ≡ slot edition w
  unfolding slot
  unsound_told w s = rw s

  pub blank_told : (w : Word) → blank w ≡ true → neither Blank ≡ slot edition w
  unfolding slot condition
  blank_told w b = rw (b, ap sound (blank_is w b) ∙ blank_not_sound)

  -- ---- without an address

  -- a mark, if there are marks
  abbrev pub mark_or_spoiled : (value : ℕ) → Slot
  mark_or_spoiled v = cond (has_groups edition) (mark v) (neither Spoiled)

  pub mark_told : (w : Word) → low16 w ≡ 65535 → sound w ≡ true → mark_or_spoiled (third w) ≡ slot edition w
  unfolding slot sound_slot
  mark_told w e s = rw (s, eq-eqb (low16 w) 65535 e)

  pub spoiled_told : (c d : ℕ) → blank (word 255 255 c d) ≡ false → sound (word 255 255 c d) ≡ false → neither Spoiled ≡ slot edition (word 255 255 c d)
  unfolding slot condition blank second_blank
  spoiled_told c d b s = rw (s, b)

  pub unmarked_told : has_groups edition ≡ false → (c d : ℕ) → blank (word 255 255 c d) ≡ false → neither Spoiled ≡ slot edition (word 255 255 c d)
  unfolding low16
  unmarked_told h c d b =
      by_cases (sound (word 255 255 c d)) (λ s. rw h at (mark_told (word 255 255 c d) refl s)) (λ s. spoiled_told c d b s)

  -- ---- with an address

  module _ (w : Word) (n : low16 w ≡ 65535 → ⊥) where
    not_blank : blank w ≡ false
    unfolding low16
    not_blank = is_false (blank w) (λ b. n (ap low16 (blank_is w b)))

    pub sound_told : sound w ≡ true → recorded (low16 w) (third w) ≡ slot edition w
    unfolding slot sound_slot
    sound_told s = rw (s, ne_eqb (low16 w) 65535 n)

    pub half_told : sound w ≡ false → second_blank w ≡ true → neither HalfWritten ≡ slot edition w
    unfolding slot condition
    half_told s h = rw (s, not_blank, h)

    pub other_told : sound w ≡ false → second_blank w ≡ false → neither Spoiled ≡ slot edition w
    unfolding slot condition
    other_told s h = rw (s, not_blank, h)

  -- ---- words that are made

  pub record_told : (a v : ℕ) → (a ≡ 65535 → ⊥) → recorded a v ≡ slot edition (record_word a v)
  record_told a v h =
      rw (record_address a v, record_value a v) at (sound_told (record_word a v) (λ e. h (sym (record_address a v) ∙ e)) (record_sound a v))

  pub mark_made : (v : ℕ) → has_groups edition ≡ true → mark v ≡ slot edition (mark_word v)
  mark_made v g = rw (record_value 65535 v, g) at (mark_told (mark_word v) (record_address 65535 v) (record_sound 65535 v))

-- ---- what is a record has an address

unfoldable pub Addressed : Slot → Type 0
Addressed (recorded a v) = a ≡ 65535 → ⊥
Addressed (opens n) = Unit {0}
Addressed (closes n) = Unit {0}
Addressed (neither c) = Unit {0}

-- whatever a test tells
either_addressed : (b : Bool) (s t : Slot) → Addressed s → Addressed t → Addressed (cond b s t)
either_addressed true s t p q = p
either_addressed false s t p q = q

pub slot_addressed : (edition : ℕ) (w : Word) → Addressed (slot edition w)
unfolding slot sound_slot mark Addressed
slot_addressed edition w =
    let v = third w in
    let marked : Addressed (mark v) =
    either_addressed (eqb v 0) _ _ tt (either_addressed (leb v 8) _ _ tt (either_addressed (leb 129 v && leb v 136) _ _ tt tt)) in
    let sound_one : Addressed (sound_slot edition w) =
    by_cases (eqb (low16 w) 65535) (λ t. rw t (either_addressed (has_groups edition) _ _ marked tt)) (λ t. rw t (eqb-false (low16 w) 65535 t)) in
    either_addressed (sound w) _ _ sound_one tt
