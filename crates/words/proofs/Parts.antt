-- The words of a list of bytes, one by one: the rules cut them all at once, the code reads one at its offset. Assumes nothing.
use Prim.Native.Nat.{ℕ, zero, suc, ◌+◌, ◌*◌, ◌/◌, ◌≤◌}
use mathlib.Core.Path.{◌≡◌, refl, ap}
use mathlib.Core.List.{List, [], ◌∷◌, ◌++◌, map}
use native.Mathlib.Omega.{arith}
use native.Mathlib.Nat.{add_assoc}
use native.Mathlib.Numerals.{add-one}
use lib.ListN.{length, get_or, take, drop}
use lib.Seq.{get_or-drop, take-suc, take_all}
use Rattle.std.specs.Simd.{first_chunks}
use Rattle.rules.specs.Word.{word, words}
use Rattle.rules.specs.Page.{blank_word}
use Rattle.rules.proofs.Cut.{next_words}
use Rattle.words.specs.Read.{word_in}

-- the word at an offset, past the first four bytes
past : (a b c d : ℕ) (s : List ℕ) (n : ℕ) → word_in (a ∷ b ∷ c ∷ d ∷ s) (suc (suc (suc (suc n)))) ≡ word_in s n
unfolding word_in
past a b c d s n =
    let e1 : suc (suc (suc (suc n))) + 1 ≡ suc (suc (suc (suc (n + 1)))) = omega arith in
    let e2 : suc (suc (suc (suc n))) + 2 ≡ suc (suc (suc (suc (n + 2)))) = omega arith in
    let e3 : suc (suc (suc (suc n))) + 3 ≡ suc (suc (suc (suc (n + 3)))) = omega arith in
    rw (e1, e2, e3)

-- the word k of a list begins at its byte 4 * k
pub word_of : (s : List ℕ) (k : ℕ) → 4 * k + 4 ≤ length s → get_or (words s) k blank_word ≡ word_in s (4 * k)
unfolding words word_in
word_of [] k h = absurd (omega arith)
word_of (a ∷ []) k h = absurd (omega arith)
word_of (a ∷ b ∷ []) k h = absurd (omega arith)
word_of (a ∷ b ∷ c ∷ []) k h = absurd (omega arith)
word_of (a ∷ b ∷ c ∷ d ∷ s) zero h = refl
word_of (a ∷ b ∷ c ∷ d ∷ s) (suc k) h = rw (next_words k, past a b c d s (4 * k)) (word_of s k (omega arith))

-- the word at an offset of a part is the one at both offsets of the whole
pub word_in_drop : (o at : ℕ) (s : List ℕ) → word_in (drop o s) at ≡ word_in s (o + at)
unfolding word_in
word_in_drop o at s = simp (get_or-drop, ← add_assoc)

-- there are as many as fours of bytes
pub length_words : (s : List ℕ) → length (words s) ≡ length s / 4
unfolding words
length_words [] = refl
length_words (a ∷ []) = refl
length_words (a ∷ b ∷ []) = refl
length_words (a ∷ b ∷ c ∷ []) = refl
length_words (a ∷ b ∷ c ∷ d ∷ s) = let e = length_words s in omega arith

-- one word more, and all of them
pub next_word : (s : List ℕ) (k : ℕ) → 4 * k + 4 ≤ length s → take (k + 1) (words s) ≡ take k (words s) ++ (word_in s (4 * k) ∷ [])
next_word s k l = rw (add-one k, take-suc (words s) k blank_word (omega (arith, length_words s)), word_of s k l)

pub all_words : (s : List ℕ) (k : ℕ) → length s / 4 ≤ k → take k (words s) ≡ words s
all_words s k l = take_all k (words s) (omega (arith, length_words s))

-- a cut between two words cuts the words
pub drop_words : (k : ℕ) (s : List ℕ) → words (drop (4 * k) s) ≡ drop k (words s)
unfolding words
drop_words zero s = refl
drop_words (suc k) [] = rw (next_words k)
drop_words (suc k) (a ∷ []) = rw (next_words k)
drop_words (suc k) (a ∷ b ∷ []) = rw (next_words k)
drop_words (suc k) (a ∷ b ∷ c ∷ []) = rw (next_words k)
drop_words (suc k) (a ∷ b ∷ c ∷ d ∷ s) = rw (next_words k) (drop_words k s)

-- the words, cut as the code cuts them
pub fours_are : (s : List ℕ) → map (λ b. word_in b 0) (first_chunks 4 (length s / 4) s) ≡ words s
unfolding words word_in
fours_are [] = refl
fours_are (a ∷ []) = refl
fours_are (a ∷ b ∷ []) = refl
fours_are (a ∷ b ∷ c ∷ []) = refl
fours_are (a ∷ b ∷ c ∷ d ∷ s) =
    let e : length (a ∷ b ∷ c ∷ d ∷ s) / 4 ≡ suc (length s / 4) = omega arith in
    rw e (ap (λ ws. word a b c d ∷ ws) (fours_are s))
