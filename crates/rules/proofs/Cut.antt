-- An image of bytes and its pages of words: what a step does to the bytes, `store_after` does to the pages. `k` is the number
-- of words in a page, so that a page has 4 * k bytes. Assumes nothing.
use Prim.Native.Nat.{ℕ, zero, suc, ◌+◌, ◌*◌, ◌≤◌, ◌<◌}
use mathlib.Core.Path.{◌≡◌, refl, sym, ap, ◌∙◌}
use mathlib.Core.List.{List, [], ◌∷◌}
use native.Mathlib.Nat.{add-suc, add_assoc, zero-mul, suc-mul, mul-le-mul_right}
use native.Mathlib.Omega.{arith}
use lib.ListN.{length, take, drop, get_or, set, replicate, length-drop, length-map, length-replicate}
use lib.Seq.{sets, take-set-le, take-set-lt, drop-set-lt, drop-set-add, drop-drop, length-sets, length-take-le}
use Rattle.rules.specs.Flash.{Half, first, second, half_offset, Step, program, erase, offset, aim, bytes_at, Allowed, after, AllRise, none}
use Rattle.rules.specs.Flash.{more, least, Fails}
use Rattle.rules.specs.Word.{Word, word, words}
use Rattle.rules.specs.Page.{Form, size, blank_word, page}
use Rattle.rules.specs.Call.{cut, page_count, pages}
use Rattle.rules.proofs.Bits.{rises_refl, rises_top}
use Rattle.rules.proofs.Words.{rise}
use Rattle.rules.proofs.Shape.{with_half, target, page_after, WordsRise, half_way, erasing, store_after, StoreFails, Within}

-- ---- runs of stores

module _ {ℓ} {A : Type ℓ} where
  -- a run that ends by m leaves the rest alone
  pub take_sets_below : (m : ℕ) (l : List A) (o : ℕ) (vs : List A) → o + length vs ≤ m → take m (sets l o vs) ≡ sets (take m l) o vs
  take_sets_below m l o [] h = refl
  take_sets_below m l o (a ∷ vs) h =
      take_sets_below m (set l o a) (suc o) vs (omega arith) ∙ ap (λ (r : List A). sets r (suc o) vs) (take-set-lt m l o a (omega arith))

  pub drop_sets_below : (m : ℕ) (l : List A) (o : ℕ) (vs : List A) → o + length vs ≤ m → drop m (sets l o vs) ≡ drop m l
  drop_sets_below m l o [] h = refl
  drop_sets_below m l o (a ∷ vs) h = drop_sets_below m (set l o a) (suc o) vs (omega arith) ∙ drop-set-lt m l o a (omega arith)

  -- one that starts at m or later leaves the front alone
  pub take_sets_above : (m : ℕ) (l : List A) (o : ℕ) (vs : List A) → m ≤ o → take m (sets l o vs) ≡ take m l
  take_sets_above m l o [] h = refl
  take_sets_above m l o (a ∷ vs) h = take_sets_above m (set l o a) (suc o) vs (omega arith) ∙ take-set-le m l o a h

  pub drop_sets_above : (m : ℕ) (l : List A) (o : ℕ) (vs : List A) → drop m (sets l (m + o) vs) ≡ sets (drop m l) o vs
  drop_sets_above m l o [] = refl
  drop_sets_above m l o (a ∷ vs) =
      rw (← add-suc m o) (drop_sets_above m (set l (m + o) a) (suc o) vs) ∙ ap (λ (r : List A). sets r (suc o) vs) (drop-set-add m l o a)

  pub sets_cons : (x : A) (l : List A) (o : ℕ) (vs : List A) → sets (x ∷ l) (suc o) vs ≡ x ∷ sets l o vs
  sets_cons x l o [] = refl
  sets_cons x l o (a ∷ vs) = sets_cons x (set l o a) (suc o) vs

  -- one over the whole list leaves what was stored
  pub sets_whole : (l vs : List A) → length vs ≡ length l → sets l 0 vs ≡ vs
  sets_whole [] [] e = refl
  sets_whole [] (v ∷ vs) e = absurd (omega arith)
  sets_whole (x ∷ l) [] e = absurd (omega arith)
  sets_whole (x ∷ l) (v ∷ vs) e = sets_cons v l 0 vs ∙ ap (λ (r : List A). v ∷ r) (sets_whole l vs (omega arith))

  pub sets_nil : (o : ℕ) (vs : List A) → sets [] o vs ≡ []
  sets_nil o [] = refl
  sets_nil o (a ∷ vs) = sets_nil (suc o) vs

  -- one of what stands there already changes nothing
  pub sets_same : (m o : ℕ) (l : List A) → sets l o (take m (drop o l)) ≡ l
  sets_same m o [] = sets_nil o (take m (drop o []))
  sets_same zero zero (x ∷ l) = refl
  sets_same (suc m) zero (x ∷ l) = sets_cons x l 0 (take m l) ∙ ap (λ (r : List A). x ∷ r) (sets_same m 0 l)
  sets_same m (suc o) (x ∷ l) = sets_cons x l o (take m (drop o l)) ∙ ap (λ (r : List A). x ∷ r) (sets_same m o l)

-- ---- words

next_word : (w j : ℕ) → 4 * suc w + j ≡ suc (suc (suc (suc (4 * w + j))))
next_word w j = omega arith

pub next_words : (k : ℕ) → 4 * suc k ≡ suc (suc (suc (suc (4 * k))))
next_words k = omega arith

pub words_length : (k : ℕ) (i : List ℕ) → length i ≡ 4 * k → length (words i) ≡ k
unfolding words
words_length k [] e = omega arith
words_length k (a ∷ []) e = omega arith
words_length k (a ∷ b ∷ []) e = omega arith
words_length k (a ∷ b ∷ c ∷ []) e = omega arith
words_length zero (a ∷ b ∷ c ∷ d ∷ i) e = omega arith
words_length (suc k) (a ∷ b ∷ c ∷ d ∷ i) e = ap suc (words_length k i (omega arith))

pub words_replicate : (k : ℕ) → words (replicate (4 * k) 255) ≡ replicate k blank_word
unfolding words
words_replicate zero = refl
words_replicate (suc k) = rw next_words (ap (λ (r : List Word). blank_word ∷ r) (words_replicate k))

-- a half-word that is stored is stored in its word
pub words_sets : (w : ℕ) (h : Half) (x y : ℕ) (i : List ℕ) → 4 * w + 4 ≤ length i
    → words (sets i (4 * w + half_offset h) (x ∷ y ∷ [])) ≡ set (words i) w (with_half h (get_or (words i) w blank_word) x y)
unfolding words with_half
words_sets w h x y [] l = absurd (omega arith)
words_sets w h x y (a ∷ []) l = absurd (omega arith)
words_sets w h x y (a ∷ b ∷ []) l = absurd (omega arith)
words_sets w h x y (a ∷ b ∷ c ∷ []) l = absurd (omega arith)
words_sets zero first x y (a ∷ b ∷ c ∷ d ∷ i) l = refl
words_sets zero second x y (a ∷ b ∷ c ∷ d ∷ i) l = refl
words_sets (suc w) h x y (a ∷ b ∷ c ∷ d ∷ i) l =
    rw (next_word w (half_offset h)) (ap (λ (r : List Word). word a b c d ∷ r) (words_sets w h x y i (omega arith)))

pub words_rise : {xs ys : List ℕ} → AllRise xs ys → WordsRise (words xs) (words ys)
unfolding words
words_rise none = WordsRise.none
words_rise (more p none) = WordsRise.none
words_rise (more p (more q none)) = WordsRise.none
words_rise (more p (more q (more r none))) = WordsRise.none
words_rise (more p (more q (more r (more s t)))) = WordsRise.more (rise p q r s) (words_rise t)

pub words_at : (w : ℕ) (i : List ℕ) → 4 * w + 4 ≤ length i
    → get_or (words i) w blank_word ≡ word (get_or i (4 * w) 0) (get_or i (4 * w + 1) 0) (get_or i (4 * w + 2) 0) (get_or i (4 * w + 3) 0)
unfolding words
words_at w [] l = absurd (omega arith)
words_at w (a ∷ []) l = absurd (omega arith)
words_at w (a ∷ b ∷ []) l = absurd (omega arith)
words_at w (a ∷ b ∷ c ∷ []) l = absurd (omega arith)
words_at zero (a ∷ b ∷ c ∷ d ∷ i) l = refl
words_at (suc w) (a ∷ b ∷ c ∷ d ∷ i) l = rw (next_word w 1, next_word w 2, next_word w 3, next_words) (words_at w i (omega arith))

-- ---- pages

-- where page p + 1 starts
next_page : (p size : ℕ) → suc p * size ≡ size + p * size
next_page p size = omega (arith, suc-mul p size)

-- page p + 1 of an image is page p of the rest
next_bytes : (p size : ℕ) (i : List ℕ) → bytes_at (p * size) size (drop size i) ≡ bytes_at (suc p * size) size i
unfolding bytes_at
next_bytes p size i = rw (next_page, drop-drop)

first_bytes : (size : ℕ) (i : List ℕ) → bytes_at (0 * size) size i ≡ take size i
unfolding bytes_at
first_bytes size i = rw zero-mul

pub cut_length : (size n : ℕ) (i : List ℕ) → length (cut size n i) ≡ n
unfolding cut
cut_length size zero i = refl
cut_length size (suc n) i = ap suc (cut_length size n (drop size i))

-- an image has as many pages as its length says
pub pages_long : (fm : Form) (i : List ℕ) → length (pages fm i) ≡ page_count fm i
unfolding pages
pages_long fm i = length-map (cut (size fm) (page_count fm i) i) (page fm.edition) ∙ cut_length (size fm) (page_count fm i) i

-- the words of page p
pub cut_page : (size n p : ℕ) (i : List ℕ) → p < n → get_or (cut size n i) p [] ≡ words (bytes_at (p * size) size i)
unfolding cut
cut_page size zero p i h = absurd (omega arith)
cut_page size (suc n) zero i h = ap words (sym (first_bytes size i))
cut_page size (suc n) (suc p) i h = cut_page size n p (drop size i) (omega arith) ∙ ap words (next_bytes p size i)

-- a page that is one of n lies in an image of n pages
pub page_within : (size n p : ℕ) → p < n → p * size + size ≤ n * size
page_within size n p h = omega (arith, suc-mul p size, mul-le-mul_right size h)

pub bytes_at_length : (o m : ℕ) (i : List ℕ) → o + m ≤ length i → length (bytes_at o m i) ≡ m
unfolding bytes_at
bytes_at_length o m i h = length-take-le m (drop o i) (rw length-drop (omega arith))

pub page_bytes_length : (k n p : ℕ) (i : List ℕ) → length i ≡ n * (4 * k) → p < n → length (bytes_at (p * (4 * k)) (4 * k) i) ≡ 4 * k
page_bytes_length k n p i e h = bytes_at_length (p * (4 * k)) (4 * k) i (rw e (page_within (4 * k) n p h))

-- every page has k words
pub cut_page_length : (k n p : ℕ) (i : List ℕ) → p < n → length i ≡ n * (4 * k) → length (get_or (cut (4 * k) n i) p []) ≡ k
cut_page_length k n p i h e = rw cut_page (words_length k (bytes_at (p * (4 * k)) (4 * k) i) (page_bytes_length k n p i e h))

-- the same of the whole list
unfoldable pub AllLength : ℕ → List (List Word) → Type 0
AllLength k [] = Unit {0}
AllLength k (pg ∷ F) = (length pg ≡ k) × AllLength k F

pub cut_all_length : (k n : ℕ) (i : List ℕ) → n * (4 * k) ≤ length i → AllLength k (cut (4 * k) n i)
unfolding cut AllLength
cut_all_length k zero i e = tt
cut_all_length k (suc n) i e =
    let m = suc-mul n (4 * k) in
    (words_length k (take (4 * k) i) (length-take-le (4 * k) i (omega arith)), cut_all_length k n (drop (4 * k) i) (rw length-drop (omega arith)))

-- what is stored within one page is stored in that page
pub cut_sets : (size n p o : ℕ) (vs i : List ℕ) → p < n → o + length vs ≤ size
    → cut size n (sets i (p * size + o) vs) ≡ set (cut size n i) p (words (sets (bytes_at (p * size) size i) o vs))
unfolding cut
cut_sets size zero p o vs i h l = absurd (omega arith)
cut_sets size (suc n) zero o vs i h l =
    let e : 0 * size + o ≡ o = omega arith in
    rw (e, take_sets_below, drop_sets_below, first_bytes)
cut_sets size (suc n) (suc p) o vs i h l =
    rw (← next_bytes p size i, next_page, add_assoc, take_sets_above size i (size + (p * size + o)) vs (omega arith), drop_sets_above)
    (ap (λ (r : List (List Word)). words (take size i) ∷ r) (cut_sets size n p o vs (drop size i) (omega arith) l))

-- ---- steps

-- a half-word that is stored in an image, and a page that is
pub cut_half : (k n p w : ℕ) (h : Half) (x y : ℕ) (i : List ℕ) → length i ≡ n * (4 * k) → p < n → w < k
    → cut (4 * k) n (sets i (p * (4 * k) + 4 * w + half_offset h) (x ∷ y ∷ []))
    ≡ set (cut (4 * k) n i) p (set (get_or (cut (4 * k) n i) p []) w (with_half h (get_or (get_or (cut (4 * k) n i) p []) w blank_word) x y))
cut_half k n p w h x y i e pn wk =
    let l = page_bytes_length k n p i e pn in
    let fits : half_offset h ≤ 2 = half_fits h in
    let at : p * (4 * k) + 4 * w + half_offset h ≡ p * (4 * k) + (4 * w + half_offset h) = omega arith in
    rw (
      at,
      cut_page (4 * k) n p i pn,
      cut_sets (4 * k) n p (4 * w + half_offset h) (x ∷ y ∷ []) i pn (omega arith),
      words_sets w h x y (bytes_at (p * (4 * k)) (4 * k) i) (omega arith),
    )
  where
    half_fits : (h : Half) → half_offset h ≤ 2
    half_fits first = omega arith
    half_fits second = omega arith

pub cut_whole : (k n p : ℕ) (vs i : List ℕ) → length i ≡ n * (4 * k) → p < n → length vs ≡ 4 * k
    → cut (4 * k) n (sets i (p * (4 * k)) vs) ≡ set (cut (4 * k) n i) p (words vs)
cut_whole k n p vs i e pn l =
    let l' = page_bytes_length k n p i e pn in
    let at : p * (4 * k) ≡ p * (4 * k) + 0 = omega arith in
    ap (λ (o : ℕ). cut (4 * k) n (sets i o vs)) at ∙ cut_sets (4 * k) n p 0 vs i pn (omega arith)
    ∙ ap (λ (r : List ℕ). set (cut (4 * k) n i) p (words r)) (sets_whole (bytes_at (p * (4 * k)) (4 * k) i) vs (cc))

-- a step does to the pages what `store_after` says
pub cut_after : (k n : ℕ) (s : Step) (i : List ℕ) → length i ≡ n * (4 * k) → Within n k s
    → cut (4 * k) n (after (4 * k) s i) ≡ store_after k s (cut (4 * k) n i)
unfolding after offset aim store_after target page_after Within
cut_after k n (program p w h low high) i e v = cut_half k n p w h low high i e v.0 v.1
cut_after k n (erase p) i e v =
    cut_whole k n p (replicate (4 * k) 255) i e v (length-replicate (4 * k) 255) ∙ ap (λ (pg : List Word). set (cut (4 * k) n i) p pg) (words_replicate k)

pub length_after : (size : ℕ) (s : Step) (i : List ℕ) → length (after size s i) ≡ length i
unfolding after
length_after size s i = length-sets i (offset size s) (aim size s)

pub all_rise_length : {xs ys : List ℕ} → AllRise xs ys → length ys ≡ length xs
all_rise_length none = refl
all_rise_length (more p r) = ap suc (all_rise_length r)

fails_half : (k n p w : ℕ) (h : Half) (low high : ℕ) (i j left : List ℕ) → length i ≡ n * (4 * k) → p < n → w < k
    → AllRise (low ∷ high ∷ []) left → j ≡ sets i (p * (4 * k) + 4 * w + half_offset h) left
    → StoreFails (program p w h low high) (cut (4 * k) n i) (cut (4 * k) n j)
unfolding target
fails_half k n p w h low high i j left e pn wk (more {b = x} r (more {b = y} r' none)) im =
    record { page = _; fails = half_way x y r r' refl; rest = ap (cut (4 * k) n) im ∙ cut_half k n p w h x y i e pn wk }

-- a step that fails does to the pages what `StoreFails` says
pub cut_fails : (k n : ℕ) (s : Step) (i j : List ℕ) → length i ≡ n * (4 * k) → Within n k s → Fails (4 * k) s i j
    → StoreFails s (cut (4 * k) n i) (cut (4 * k) n j)
unfolding offset least target Within
cut_fails k n (program p w h low high) i j e v f = fails_half k n p w h low high i j f.left e v.0 v.1 f.rises f.image
cut_fails k n (erase p) i j e v f =
    record {
      page = words f.left;
      fails = rw (cut_page (4 * k) n p i v) (erasing (words_rise f.rises));
      rest = ap (cut (4 * k) n) f.image ∙ cut_whole k n p f.left i e v (all_rise_length f.rises ∙ page_bytes_length k n p i e v);
    }

pub length_fails : {size : ℕ} {s : Step} {i j : List ℕ} → Fails size s i j → length j ≡ length i
length_fails {size} {s} {i} {j} f = ap length f.image ∙ length-sets i (offset size s) f.left

-- ---- a failing step may look complete, and it may look as if it never began

-- bytes are below 256
unfoldable pub AllBytes : List ℕ → Type 0
AllBytes [] = Unit {0}
AllBytes (b ∷ bs) = (b < 256) × AllBytes bs

pub all_rise_refl : (xs : List ℕ) → AllRise xs xs
all_rise_refl [] = none
all_rise_refl (x ∷ xs) = more (rises_refl 8 x) (all_rise_refl xs)

pub all_rise_top : (xs : List ℕ) → AllBytes xs → AllRise xs (replicate (length xs) 255)
unfolding AllBytes
all_rise_top [] b = none
all_rise_top (x ∷ xs) b = more (rises_top 8 x b.0) (all_rise_top xs b.1)

-- what a step must find so that its failure can look complete: a program step nothing, an erase a page of bytes
unfoldable pub FindsBytes : ℕ → Step → List ℕ → Type 0
FindsBytes size (program p w h low high) i = Unit {0}
FindsBytes size (erase p) i = (p * size + size ≤ length i) × AllBytes (bytes_at (p * size) size i)

pub complete : (size : ℕ) (s : Step) (i : List ℕ) → FindsBytes size s i → Fails size s i (after size s i)
unfolding after aim least FindsBytes offset
complete size (program p w h low high) i b = record { left = low ∷ high ∷ []; rises = all_rise_refl (low ∷ high ∷ []); image = refl }
complete size (erase p) i b =
    record {
      left = replicate size 255;
      rises = rw (bytes_at_length (p * size) size i b.0) at (all_rise_top (bytes_at (p * size) size i) b.1);
      image = refl;
    }

-- what a step must be so that its failure can look untouched: a program step one of bytes, an erase any
unfoldable pub MeansBytes : Step → Type 0
MeansBytes (program p w h low high) = (low < 256) × (high < 256)
MeansBytes (erase p) = Unit {0}

pub untouched : (size : ℕ) (s : Step) (i : List ℕ) → Allowed size s i → MeansBytes s → Fails size s i i
unfolding Allowed MeansBytes least offset bytes_at
untouched size (program p w h low high) i a b =
    let o : ℕ = offset size (program p w h low high) in
    record {
      left = 255 ∷ 255 ∷ [];
      rises = more (rises_top 8 low b.0) (more (rises_top 8 high b.1) none);
      image = sym (sets_same 2 o i) ∙ ap (sets i o) a;
    }
untouched size (erase p) i a b =
    record { left = bytes_at (p * size) size i; rises = all_rise_refl (bytes_at (p * size) size i); image = sym (sets_same size (p * size) i) }
