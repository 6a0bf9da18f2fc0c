-- The words of a list of bytes, met one by one from the front and from the back. Assumes nothing.
use Prim.Native.Nat.{ℕ, zero, suc, ◌+◌, ◌-◌, ◌*◌, ◌/◌, ◌≤◌, ◌<◌}
use mathlib.Core.Path.{◌≡◌, refl, sym, ap, ◌∙◌}
use mathlib.Core.Bool.{Bool, true, false}
use mathlib.Core.List.{List, [], ◌∷◌, map}
use Rattle.std.specs.List.{list_all}
use native.Mathlib.Omega.{arith}
use lib.ListN.{length, length-drop, get_or, take, drop}
use lib.Seq.{drop-drop}
use Rattle.rules.specs.Word.{Word, words, blank}
use Rattle.rules.specs.Page.{blank_word, all_blank}
use Rattle.rules.specs.Store.{past, free_slot}
use Rattle.words.specs.Read.{word_in}
use Rattle.words.proofs.Parts.{word_of, word_in_drop, length_words, all_words}

-- ---- from the front

-- fewer than four bytes have no word
pub no_words : (s : List ℕ) → length s < 4 → words s ≡ []
unfolding words
no_words [] h = refl
no_words (a ∷ []) h = refl
no_words (a ∷ b ∷ []) h = refl
no_words (a ∷ b ∷ c ∷ []) h = refl
no_words (a ∷ b ∷ c ∷ d ∷ s) h = absurd (omega arith)

first_word : (s : List ℕ) → 4 ≤ length s → words s ≡ word_in s 0 ∷ words (drop 4 s)
unfolding words word_in
first_word [] h = absurd (omega arith)
first_word (a ∷ []) h = absurd (omega arith)
first_word (a ∷ b ∷ []) h = absurd (omega arith)
first_word (a ∷ b ∷ c ∷ []) h = absurd (omega arith)
first_word (a ∷ b ∷ c ∷ d ∷ s) h = refl

-- the words from an offset on are the word there and those from four bytes further
pub words_from : (at : ℕ) (s : List ℕ) → at + 4 ≤ length s → words (drop at s) ≡ word_in s at ∷ words (drop (at + 4) s)
words_from at s h =
    let l : 4 ≤ length (drop at s) = rw length-drop (omega arith) in
    let z : at + 0 ≡ at = omega arith in
    first_word (drop at s) l ∙ rw (word_in_drop, z, drop-drop)

-- whether all are blank, of words as the code has them
pub all_blank_is : (bs : List (List ℕ)) → list_all (λ b. blank (word_in b 0)) bs ≡ all_blank (map (λ b. word_in b 0) bs)
unfolding all_blank
all_blank_is [] = refl
all_blank_is (b ∷ bs) = rw (all_blank_is bs)

-- ---- from the back

-- the free slot among the first n + 1, by the last of them
pub free_past : (n : ℕ) (ws : List Word) → n < length ws → blank (get_or ws n blank_word) ≡ true → free_slot (take (suc n) ws) ≡ free_slot (take n ws)
unfolding free_slot past
free_past n [] h b = absurd (omega arith)
free_past zero (w ∷ ws) h b = rw b
free_past (suc n) (w ∷ ws) h b = rw (free_past n ws (omega arith) b)

pub free_here : (n : ℕ) (ws : List Word) → n < length ws → blank (get_or ws n blank_word) ≡ false → free_slot (take (suc n) ws) ≡ suc n
unfolding free_slot past
free_here n [] h b = absurd (omega arith)
free_here zero (w ∷ ws) h b = rw b
free_here (suc n) (w ∷ ws) h b = rw (free_here n ws (omega arith) b) (past_suc (blank w) n)
  where
    past_suc : (b : Bool) (n : ℕ) → past b (suc n) ≡ suc (suc n)
    past_suc true n = refl
    past_suc false n = refl

-- the same of the bytes, n of whose words are still to be met
last_word : (s : List ℕ) (m : ℕ) → m < length s / 4 → word_in s (m * 4) ≡ get_or (words s) m blank_word
last_word s m h = let e : m * 4 ≡ 4 * m = omega arith in rw e (sym (word_of s m (omega arith)))

pub free_on : (s : List ℕ) (n : ℕ) → 0 < n → n ≤ length s / 4 → blank (word_in s ((n - 1) * 4)) ≡ true
    → free_slot (take n (words s)) ≡ free_slot (take (n - 1) (words s))
free_on s zero p h b = absurd (omega arith)
free_on s (suc m) p h b =
    let e : suc m - 1 ≡ m = omega arith in
    let b' : blank (get_or (words s) m blank_word) ≡ true = rw (e, last_word s m (omega arith)) at b in
    rw e (free_past m (words s) (omega (arith, length_words s)) b')

pub free_stop : (s : List ℕ) (n : ℕ) → 0 < n → n ≤ length s / 4 → blank (word_in s ((n - 1) * 4)) ≡ false → free_slot (take n (words s)) ≡ n
free_stop s zero p h b = absurd (omega arith)
free_stop s (suc m) p h b =
    let e : suc m - 1 ≡ m = omega arith in
    let b' : blank (get_or (words s) m blank_word) ≡ false = rw (e, last_word s m (omega arith)) at b in
    free_here m (words s) (omega (arith, length_words s)) b'

pub free_whole : (s : List ℕ) → free_slot (words s) ≡ free_slot (take (length s / 4) (words s))
free_whole s = ap free_slot (sym (all_words s (length s / 4) (omega arith)))

pub free_none : (n : ℕ) (ws : List Word) → n ≤ 0 → free_slot (take n ws) ≡ 0
unfolding free_slot
free_none zero ws h = refl
free_none (suc n) ws h = absurd (omega arith)
