-- Laws of any word: what the check finds of a torn one, and what is read of one that was made. Assumes nothing.
use Prim.Native.Nat.{ℕ, ◌+◌, ◌*◌, ◌/◌, ◌%◌, ◌≤◌, ◌<◌}
use mathlib.Core.Path.{◌≡◌, refl}
use mathlib.Core.Bool.{true, false}
use native.Mathlib.Omega.{arith}
use borrow.Author.Tests.{eqb-true, eq-eqb, ne_eqb}
use Rattle.rules.specs.Flash.{Rises}
use Rattle.rules.specs.Word.{Word, word, check, sound, blank, low16, low24, third, checked, wear_word, number_word, opening_word, done_word, record_word}
use lib.Dec.{eqb}
use Rattle.rules.specs.Page.{order_in, blank_word}
use Rattle.rules.proofs.Truth.{and_left, and_right}
use Rattle.rules.proofs.Bits.{rises_refl, rises_le, zeros_bound, zeros_fall, zeros_stay}

-- ---- torn words

-- Bits rise in a word where they rise in each of its bytes.
pub data WordRises : Word → Word → Type 0 where
  rise : {a b c d a' b' c' d' : ℕ} → Rises 8 a a' → Rises 8 b b' → Rises 8 c c' → Rises 8 d d' → WordRises (word a b c d) (word a' b' c' d')

-- A word is light if the zero count of its first three bytes is at most its fourth: every word that our steps can leave is.
unfoldable pub Light : Word → Type 0
Light (word a b c d) = check a b c ≤ d

pub check_bound : (a b c : ℕ) → check a b c ≤ 24
unfolding check
check_bound a b c = omega (arith, zeros_bound 8 a, zeros_bound 8 b, zeros_bound 8 c)

pub sound_check : (a b c d : ℕ) → sound (word a b c d) ≡ true → d ≡ check a b c
unfolding sound
sound_check a b c d s = eqb-true d (check a b c) s

pub sound_light : (w : Word) → sound w ≡ true → Light w
unfolding Light
sound_light (word a b c d) s = omega (arith, sound_check a b c d s)

-- bits that rise leave a light word light
pub light_rises : {v w : Word} → WordRises v w → Light v → Light w
unfolding Light check
light_rises (rise {a = a} {b = b} {c = c} {d = d} {a' = a'} {b' = b'} {c' = c'} {d' = d'} pa pb pc pd) l =
    omega (arith, zeros_fall 8 a a' pa, zeros_fall 8 b b' pb, zeros_fall 8 c c' pc, rises_le 8 d d' pd)

-- and make no sound word of it: what is sound afterwards is the very word that stood there
pub light_sound : {v w : Word} → WordRises v w → Light v → sound w ≡ true → v ≡ w
unfolding Light check
light_sound (rise {a = a} {b = b} {c = c} {d = d} {a' = a'} {b' = b'} {c' = c'} {d' = d'} pa pb pc pd) l s =
    let e = sound_check a' b' c' d' s in
    let fa = zeros_fall 8 a a' pa in
    let fb = zeros_fall 8 b b' pb in
    let fc = zeros_fall 8 c c' pc in
    let fd = rises_le 8 d d' pd in
    let ea : a ≡ a' = zeros_stay 8 a a' pa (omega arith) in
    let eb : b ≡ b' = zeros_stay 8 b b' pb (omega arith) in
    let ec : c ≡ c' = zeros_stay 8 c c' pc (omega arith) in
    let ed : d ≡ d' = omega arith in
    cc

-- a word of which nothing but the first half was programmed, well or not, is light and never sound
pub half_light : (a b : ℕ) → Light (word a b 255 255)
unfolding Light
half_light a b = omega (arith, check_bound a b 255)

pub half_not_sound : (a b c : ℕ) → sound (word a b c 255) ≡ false
unfolding sound
half_not_sound a b c = ne_eqb 255 (check a b c) (λ e. omega (arith, check_bound a b c))

-- a word whose second half failed is light, and sound only if it is the intended word
second_rises : (a b : ℕ) {c d c' d' : ℕ} → Rises 8 c c' → Rises 8 d d' → WordRises (word a b c d) (word a b c' d')
second_rises a b pc pd = rise (rises_refl 8 a) (rises_refl 8 b) pc pd

pub torn_light : (a b c d c' d' : ℕ) → sound (word a b c d) ≡ true → Rises 8 c c' → Rises 8 d d' → Light (word a b c' d')
torn_light a b c d c' d' s pc pd = light_rises (second_rises a b pc pd) (sound_light (word a b c d) s)

pub torn_sound : (a b c d c' d' : ℕ) → sound (word a b c d) ≡ true → Rises 8 c c' → Rises 8 d d' → sound (word a b c' d') ≡ true → word a b c d ≡ word a b c' d'
torn_sound a b c d c' d' s pc pd t = light_sound (second_rises a b pc pd) (sound_light (word a b c d) s) t

-- ---- blank words

pub blank_is : (w : Word) → blank w ≡ true → w ≡ blank_word
unfolding blank
blank_is (word a b c d) h =
    let hb = and_right (eqb a 255) _ h in
    let hc = and_right (eqb b 255) _ hb in
    let ea = eqb-true a 255 (and_left (eqb a 255) _ h) in
    let eb = eqb-true b 255 (and_left (eqb b 255) _ hb) in
    let ec = eqb-true c 255 (and_left (eqb c 255) _ hc) in
    let ed = eqb-true d 255 (and_right (eqb c 255) _ hc) in
    cc

pub blank_light : Light blank_word
blank_light = half_light 255 255

-- a blank word is not sound, and a sound one is not blank
pub blank_not_sound : sound blank_word ≡ false
blank_not_sound = half_not_sound 255 255 255

-- ---- making a word and reading it back

pub checked_sound : (a b c : ℕ) → sound (checked a b c) ≡ true
unfolding checked sound
checked_sound a b c = eq-eqb (check a b c) (check a b c) refl

-- the two bytes of a number, low byte first
pub split16 : (n : ℕ) → n % 256 + 256 * (n / 256) ≡ n
split16 n = omega arith

-- the three bytes of a number, low byte first
pub split24 : (n : ℕ) → n % 256 + 256 * (n / 256 % 256) + 65536 * (n / 65536) ≡ n
split24 n = omega arith

pub record_address : (a v : ℕ) → low16 (record_word a v) ≡ a
unfolding low16 record_word checked
record_address a v = split16 a

pub record_value : (a v : ℕ) → third (record_word a v) ≡ v
unfolding third record_word checked
record_value a v = refl

pub record_sound : (a v : ℕ) → sound (record_word a v) ≡ true
unfolding record_word
record_sound a v = checked_sound (a % 256) (a / 256) v

pub wear_is : (m n : ℕ) → low16 (wear_word m n) ≡ n
unfolding low16 wear_word checked
wear_is m n = split16 n

pub wear_edition : (m n : ℕ) → third (wear_word m n) ≡ m
unfolding third wear_word checked
wear_edition m n = refl

pub wear_sound : (m n : ℕ) → sound (wear_word m n) ≡ true
unfolding wear_word
wear_sound m n = checked_sound (n % 256) (n / 256) m

pub number_is : (n : ℕ) → low24 (number_word n) ≡ n
unfolding low24 number_word checked
number_is n = split24 n

pub number_sound : (n : ℕ) → sound (number_word n) ≡ true
unfolding number_word
number_sound n = checked_sound (n % 256) (n / 256 % 256) (n / 65536)

-- the order and the kind of an opening word
pub opening_order : (k o : ℕ) → k < 4 → order_in (opening_word k o) ≡ o
unfolding order_in opening_word
opening_order k o h = let e = number_is (o * 4 + k) in omega arith

pub opening_kind : (k o : ℕ) → k < 4 → low24 (opening_word k o) % 4 ≡ k
unfolding opening_word
opening_kind k o h = let e = number_is (o * 4 + k) in omega arith

pub opening_sound : (k o : ℕ) → sound (opening_word k o) ≡ true
unfolding opening_word
opening_sound k o = number_sound (o * 4 + k)

pub done_sound : (o : ℕ) → sound (done_word o) ≡ true
unfolding done_word
done_sound o = number_sound (o * 4 + 3)
