-- The slots of the page at an index of an image: as the rules have them, and as the part of the image that the code lends. Assumes
-- nothing.
use Prim.Native.Nat.{ℕ, zero, suc, ◌+◌, ◌-◌, ◌*◌, ◌≤◌, ◌<◌}
use mathlib.Core.Path.{◌≡◌, refl, sym, ap, ◌∙◌}
use mathlib.Core.List.{List, [], ◌∷◌}
use native.Mathlib.Omega.{arith}
use lib.ListN.{length, take, drop, length-drop}
use lib.Seq.{take-take, take_all, drop-drop}
use Rattle.std.proofs.lemmas.List.{drop-take}
use Rattle.rules.specs.Flash.{bytes_at}
use Rattle.rules.specs.Word.{Word, word, words}
use Rattle.rules.specs.Page.{Form, word_count, size, Page, page, slots}
use Rattle.rules.specs.Store.{page_at}
use Rattle.rules.specs.Call.{page_count, page_in, pages}
use Rattle.rules.proofs.Cut.{words_length, bytes_at_length, next_words}
use Rattle.rules.proofs.Told.{page_cut}
use Rattle.pages.proofs.Header.{slots_at as slots_behind}
use Rattle.survey.specs.States.{slots_in}

-- ---- in the store

pub page_is : (fm : Form) (k : ℕ) (i : List ℕ) → k < page_count fm i → page_at k (pages fm i) ≡ page_in fm k i
unfolding pages
page_is fm k i l = page_cut fm (page_count fm i) k i l

pub slots_are : (fm : Form) (k : ℕ) (i : List ℕ) → k < page_count fm i → (page_at k (pages fm i)).slots ≡ slots_in fm k i
unfolding slots_in
slots_are fm k i l = ap (λ (p : Page). p.slots) (page_is fm k i l)

pub slots_many : (fm : Form) (k : ℕ) (i : List ℕ) → k * size fm + size fm ≤ length i → length (slots_in fm k i) ≡ fm.slot_count
unfolding slots_in page slots
slots_many fm k i l =
    let e : length (words (bytes_at (k * size fm) (size fm) i)) ≡ word_count fm = words_length (word_count fm) (bytes_at (k * size fm) (size fm) i)
    (bytes_at_length (k * size fm) (size fm) i l) in
    length-drop 3 (words (bytes_at (k * size fm) (size fm) i)) ∙ omega arith

-- ---- as the part that the code lends

take_words : (k : ℕ) (s : List ℕ) → words (take (4 * k) s) ≡ take k (words s)
unfolding words
take_words zero s = refl
take_words (suc k) [] = rw (next_words k)
take_words (suc k) (a ∷ []) = rw (next_words k)
take_words (suc k) (a ∷ b ∷ []) = rw (next_words k)
take_words (suc k) (a ∷ b ∷ c ∷ []) = rw (next_words k)
take_words (suc k) (a ∷ b ∷ c ∷ d ∷ s) = rw (next_words k) (ap (λ (ws : List Word). word a b c d ∷ ws) (take_words k s))

-- the slots are the words of the bytes behind the header
slots_from : (fm : Form) (k : ℕ) (i : List ℕ) → slots_in fm k i ≡ words (take (4 * fm.slot_count) (drop (k * size fm + 12) i))
unfolding slots_in page bytes_at
slots_from fm k i =
    let part = drop (k * size fm) i in
    let sized : size fm ≡ 12 + 4 * fm.slot_count = omega arith in
    sym (slots_behind (take (size fm) part))
    ∙ ap words
    (ap (λ (m : ℕ). drop 12 (take m part)) sized ∙ drop-take 12 (4 * fm.slot_count) part
    ∙ ap (take (4 * fm.slot_count)) (drop-drop 12 (k * size fm) i))

-- the first n of them
pub slots_part : (fm : Form) (k n : ℕ) (i : List ℕ) (from to : ℕ) → n ≤ fm.slot_count → from ≡ k * size fm + 12 → to ≡ from + n * 4
    → words (take (to - from) (drop from i)) ≡ take n (slots_in fm k i)
slots_part fm k n i from to h ef et =
    let part = drop (k * size fm + 12) i in
    let long : to - from ≡ 4 * n = omega arith in
    rw (long, ef)
    (ap words (sym (take-take (4 * n) (4 * fm.slot_count) part (omega arith))) ∙ take_words n (take (4 * fm.slot_count) part)
    ∙ ap (take n) (sym (slots_from fm k i)))

-- all of them
pub slots_all : (fm : Form) (k : ℕ) (i : List ℕ) → k * size fm + size fm ≤ length i → take fm.slot_count (slots_in fm k i) ≡ slots_in fm k i
slots_all fm k i l = take_all fm.slot_count (slots_in fm k i) (omega (arith, slots_many fm k i l))
