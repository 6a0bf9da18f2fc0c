-- Lists of steps, cut at an allowance: what they leave, and that each may be done. Assumes nothing.
use Prim.Native.Nat.{ℕ, zero, suc, ◌+◌, ◌-◌, ◌*◌, ◌≤◌, ◌<◌}
use mathlib.Core.Path.{◌≡◌, refl, sym, ap, ap₂, ◌∙◌, subst}
use mathlib.Core.List.{List, [], ◌∷◌, ◌++◌}
use native.Mathlib.Numerals.{add-one}
use native.Mathlib.Omega.{arith}
use lib.ListN.{length, get_or, take, drop, replicate, length-drop, length-replicate, get_or-replicate, get_or-append}
use lib.Seq.{get_or-take, get_or-drop, drop-cons, take-nil, sets, sets-eq}
use Rattle.rules.specs.Flash.{Half, first, second, Step, program, erase, half_offset, offset, aim, bytes_at, Allowed, after, run, Fails, Left}
use Rattle.rules.specs.Flash.{between, failing, later}
use Rattle.rules.specs.Word.{Word, word, word_steps}
use Rattle.rules.specs.Page.{blank_word}
use Rattle.rules.specs.Call.{cut}
use Rattle.rules.proofs.Shape.{Within}
use Rattle.rules.proofs.Cut.{drop_sets_above, drop_sets_below, cut_length, cut_page, cut_page_length, cut_after, length_after, cut_fails}
use Rattle.rules.proofs.Cut.{length_fails, page_within, page_bytes_length, words_at}
use Rattle.rules.proofs.Phases.{Pages, PagesLeft, BlankHalf, Fits, Through, end, step, store_run}
unfoldable pub use Rattle.rules.specs.Flash.{AllAllowed}

-- ---- runs

pub run_append : (size : ℕ) (xs ys : List Step) (i : List ℕ) → run size (xs ++ ys) i ≡ run size ys (run size xs i)
unfolding run
run_append size [] ys i = refl
run_append size (s ∷ xs) ys i = run_append size xs ys (after size s i)

-- what is left of an allowance after one list is what the next may take
pub take_append : {A : Type 0} (n : ℕ) (xs ys : List A) → take n (xs ++ ys) ≡ take n xs ++ take (n - length xs) ys
take_append n [] ys = let e : n ≡ n - 0 = omega arith in rw (take-nil n) (ap (λ (m : ℕ). take m ys) e)
take_append zero (x ∷ xs) ys = let e : 0 ≡ 0 - suc (length xs) = omega arith in ap (λ (m : ℕ). take m ys) e
take_append (suc n) (x ∷ xs) ys =
    let e : n - length xs ≡ suc n - suc (length xs) = omega arith in
    ap (λ (zs : List _). x ∷ zs) (take_append n xs ys ∙ ap (λ (m : ℕ). take n xs ++ take m ys) e)

pub cut_run : (size n : ℕ) (xs ys : List Step) (i : List ℕ) → run size (take n (xs ++ ys)) i ≡ run size (take (n - length xs) ys) (run size (take n xs) i)
cut_run size n xs ys i = ap (λ (ss : List Step). run size ss i) (take_append n xs ys) ∙ run_append size (take n xs) (take (n - length xs) ys) i

-- ---- steps that may be done

pub allowed_split : (size : ℕ) (xs ys : List Step) (i : List ℕ) → AllAllowed size (xs ++ ys) i → AllAllowed size xs i × AllAllowed size ys (run size xs i)
unfolding AllAllowed run
allowed_split size [] ys i h = (tt, h)
allowed_split size (s ∷ xs) ys i h = let t = allowed_split size xs ys (after size s i) h.1 in ((h.0, t.0), t.1)

pub allowed_take : (size n : ℕ) (ss : List Step) (i : List ℕ) → AllAllowed size ss i → AllAllowed size (take n ss) i
unfolding AllAllowed
allowed_take size zero ss i h = tt
allowed_take size (suc n) [] i h = tt
allowed_take size (suc n) (s ∷ ss) i h = (h.0, allowed_take size n ss (after size s i) h.1)

-- of two lists under one allowance
pub allowed_cut : (size n : ℕ) (xs ys : List Step) (i : List ℕ) → AllAllowed size (take n (xs ++ ys)) i
    → AllAllowed size (take n xs) i × AllAllowed size (take (n - length xs) ys) (run size (take n xs) i)
allowed_cut size n xs ys i h = allowed_split size (take n xs) (take (n - length xs) ys) i (rw take_append at h)

-- ---- from pages to bytes

pub two_bytes : (o : ℕ) (i : List ℕ) → o + 2 ≤ length i → take 2 (drop o i) ≡ get_or i o 0 ∷ get_or i (o + 1) 0 ∷ []
two_bytes o i l =
    let e : drop o i ≡ get_or i o 0 ∷ drop (suc o) i = drop-cons i o 0 (omega arith) in
    let f : drop (suc o) i ≡ get_or i (suc o) 0 ∷ drop (suc (suc o)) i = drop-cons i (suc o) 0 (omega arith) in
    rw (e, f, add-one)

same_word : {a b c d a' b' c' d' : ℕ} → a ≡ a' → b ≡ b' → c ≡ c' → d ≡ d' → word a b c d ≡ word a' b' c' d'
same_word p q r s = cc

module _ (k n : ℕ) where
  -- the image of n pages of k words, as words
  abbrev pub paged : List ℕ → Pages
  paged i = cut (4 * k) n i

  abbrev pub Sized : List ℕ → Type 0
  Sized i = length i ≡ n * (4 * k)

  pub fits_within : (s : Step) (i : List ℕ) → Sized i → Fits s (paged i) → Within n k s
  unfolding Fits Within
  fits_within (program p w h low high) i l f =
      let p_in : p < n = subst (λ (x : ℕ). p < x) (cut_length (4 * k) n i) f.0 in
      (p_in, subst (λ (x : ℕ). w < x) (cut_page_length k n p i p_in l) f.1)
  fits_within (erase p) i l f = subst (λ (x : ℕ). p < x) (cut_length (4 * k) n i) f

  -- the word at a place of a page, byte by byte
  page_word : (p w : ℕ) (i : List ℕ) → Sized i → p < n → w < k → let o = p * (4 * k) + 4 * w in
      get_or (get_or (paged i) p []) w blank_word ≡ word (get_or i o 0) (get_or i (o + 1) 0) (get_or i (o + 2) 0) (get_or i (o + 3) 0)
  unfolding bytes_at
  page_word p w i l p_in w_in =
      let B = bytes_at (p * (4 * k)) (4 * k) i in
      let long : length B ≡ 4 * k = page_bytes_length k n p i l p_in in
      let byte : (j : ℕ) → j < 4 * k → get_or B j 0 ≡ get_or i (p * (4 * k) + j) 0 =
      λ j h. get_or-take (4 * k) (drop (p * (4 * k)) i) j 0 h ∙ get_or-drop (p * (4 * k)) i j 0 in
      let c : (j m : ℕ) → p * (4 * k) + (4 * w + j) ≡ m → 4 * w + j < 4 * k → get_or B (4 * w + j) 0 ≡ get_or i m 0 =
      λ j m e h. byte (4 * w + j) h ∙ ap (λ (x : ℕ). get_or i x 0) e in
      let e₀ : get_or B (4 * w) 0 ≡ get_or i (p * (4 * k) + 4 * w) 0 = byte (4 * w) (omega arith) in
      let e₁ : get_or B (4 * w + 1) 0 ≡ get_or i (p * (4 * k) + 4 * w + 1) 0 = c 1 (p * (4 * k) + 4 * w + 1) (omega arith) (omega arith) in
      let e₂ : get_or B (4 * w + 2) 0 ≡ get_or i (p * (4 * k) + 4 * w + 2) 0 = c 2 (p * (4 * k) + 4 * w + 2) (omega arith) (omega arith) in
      let e₃ : get_or B (4 * w + 3) 0 ≡ get_or i (p * (4 * k) + 4 * w + 3) 0 = c 3 (p * (4 * k) + 4 * w + 3) (omega arith) (omega arith) in
      ap (λ (pg : List Word). get_or pg w blank_word) (cut_page (4 * k) n p i p_in) ∙ words_at w B (omega arith) ∙ same_word e₀ e₁ e₂ e₃

  -- the half-word of a step reads 65,535 if the half of its word does
  blank_bytes : (p w : ℕ) (h : Half) (i : List ℕ) → Sized i → p < n → w < k
      → BlankHalf h (get_or (get_or (paged i) p []) w blank_word) → take 2 (drop (p * (4 * k) + 4 * w + half_offset h) i) ≡ 255 ∷ 255 ∷ []
  unfolding BlankHalf
  blank_bytes p w first i l p_in w_in b =
      let o = p * (4 * k) + 4 * w in
      let b' = subst (BlankHalf first) (page_word p w i l p_in w_in) b in
      let in_page = page_within (4 * k) n p p_in in
      let e : o + 0 ≡ o = omega arith in
      ap (λ (x : ℕ). take 2 (drop x i)) e ∙ two_bytes o i (omega arith) ∙ ap₂ (λ (x y : ℕ). x ∷ y ∷ []) b'.0 b'.1
  blank_bytes p w second i l p_in w_in b =
      let o = p * (4 * k) + 4 * w in
      let b' = subst (BlankHalf second) (page_word p w i l p_in w_in) b in
      let in_page = page_within (4 * k) n p p_in in
      let e : o + 2 + 1 ≡ o + 3 = omega arith in
      two_bytes (o + 2) i (omega arith) ∙ ap₂ (λ (x y : ℕ). x ∷ y ∷ []) b'.0 (ap (λ (x : ℕ). get_or i x 0) e ∙ b'.1)

  pub fits_allowed : (s : Step) (i : List ℕ) → Sized i → Fits s (paged i) → Allowed (4 * k) s i
  unfolding Fits Allowed bytes_at offset Within
  fits_allowed (program p w h low high) i l f =
      let t = fits_within (program p w h low high) i l f in blank_bytes p w h i l t.0 t.1 f.2
  fits_allowed (erase p) i l f =
      let h = page_within (4 * k) n p (fits_within (erase p) i l f) in
      omega arith

  module _ {May : Type 0} {P : Pages → Type 0} where
    -- what holds through the steps on pages holds of the image
    pub run_pages : (ss : List Step) (i : List ℕ) → Through k May P ss (paged i) → Sized i
        → (paged (run (4 * k) ss i) ≡ store_run k ss (paged i)) × Sized (run (4 * k) ss i)
    unfolding run store_run
    run_pages [] i (end p) l = (refl, l)
    run_pages (s ∷ ss) i (step c p f t) l =
        let e = cut_after k n s i l (fits_within s i l c) in
        let y = run_pages ss (after (4 * k) s i) (subst (Through k May P ss) (sym e) t) (length_after (4 * k) s i ∙ l) in
        (y.0 ∙ ap (store_run k ss) e, y.1)

    pub through_allowed : (ss : List Step) (i : List ℕ) → Through k May P ss (paged i) → Sized i → AllAllowed (4 * k) ss i
    unfolding AllAllowed
    through_allowed [] i t l = tt
    through_allowed (s ∷ ss) i (step c p f t) l =
        let e = cut_after k n s i l (fits_within s i l c) in
        (fits_allowed s i l c, through_allowed ss (after (4 * k) s i) (subst (Through k May P ss) (sym e) t) (length_after (4 * k) s i ∙ l))

-- ---- what power may leave

-- what power may leave, of an image
abbrev pub BytesLeft : (size : ℕ) → ℕ → List Step → List ℕ → List ℕ → Type 0
BytesLeft size = Left (after size) (Fails size)

-- what the step after the first n leaves is what a failure after so many leaves
pub left_after : (size n : ℕ) (ss : List Step) (i j : List ℕ) → BytesLeft size 0 (drop (length (take n ss)) ss) (run size (take n ss) i) j
    → BytesLeft size (length (take n ss)) ss i j
unfolding run
left_after size zero ss i j h = h
left_after size (suc n) [] i j h = h
left_after size (suc n) (s ∷ ss) i j h = later (left_after size n ss (after size s i) j h)

-- of an image, it is what it may leave of its pages
pub left_pages : (k n : ℕ) {May : Type 0} {P : Pages → Type 0} {c : ℕ} {ss : List Step} {i j : List ℕ} → Through k May P ss (paged k n i) → Sized k n i
    → BytesLeft (4 * k) c ss i j → PagesLeft k c ss (paged k n i) (paged k n j) × Sized k n j
left_pages k n t l between = (between, l)
left_pages k n {i = i} {j = j} (step {s = s} c p f t) l (failing x) =
    (failing (cut_fails k n s i j l (fits_within k n s i l c) x), length_fails x ∙ l)
left_pages k n {May} {P} {i = i} {j = j} (step {s = s} {ss = ss} c p f t) l (later {n = d} x) =
    let e = cut_after k n s i l (fits_within k n s i l c) in
    let y = left_pages k n (subst (Through k May P ss) (sym e) t) (length_after (4 * k) s i ∙ l) x in
    (later (subst (λ (F : Pages). PagesLeft k d ss F (paged k n j)) e y.0), y.1)

-- ---- an erased page may be programmed anywhere

getD_sets_in : (o x : ℕ) (vs l : List ℕ) → o + length vs ≤ length l → x < length vs → get_or (sets l o vs) (o + x) 0 ≡ get_or vs x 0
getD_sets_in o x vs l h g =
    let e : o + 0 ≡ o = omega arith in
    let z : 0 + length vs ≤ length (drop o l) = (let d = length-drop o l in omega arith) in
    sym (get_or-drop o (sets l o vs) x 0)
    ∙ ap (λ (m : ℕ). get_or (drop o (sets l m vs)) x 0) (sym e)
    ∙ ap (λ (m : List ℕ). get_or m x 0) (drop_sets_above o l 0 vs ∙ sets-eq vs (drop o l) 0 z)
    ∙ get_or-append vs (drop (0 + length vs) (drop o l)) 0 x g

getD_sets_above : (o x : ℕ) (vs l : List ℕ) → o + length vs ≤ x → get_or (sets l o vs) x 0 ≡ get_or l x 0
getD_sets_above o x vs l h =
    let e : x + 0 ≡ x = omega arith in
    ap (λ (m : ℕ). get_or (sets l o vs) m 0) (sym e) ∙ sym (get_or-drop x (sets l o vs) 0 0)
    ∙ ap (λ (m : List ℕ). get_or m 0 0) (drop_sets_below x l o vs h) ∙ get_or-drop x l 0 0 ∙ ap (λ (m : ℕ). get_or l m 0) e

module _ (size p : ℕ) (i : List ℕ) (fits : p * size + size ≤ length i) where
  -- the first half of a word leaves what lies behind it
  first_keeps : (k a b x : ℕ) → p * size + 4 * k + 2 ≤ x
      → get_or (after size (program p k first a b) (after size (erase p) i)) x 0 ≡ get_or (after size (erase p) i) x 0
  unfolding after offset aim
  first_keeps k a b x g = getD_sets_above (p * size + 4 * k + 0) x (a ∷ b ∷ []) (after size (erase p) i) (two_more (p * size + 4 * k) x g)
    where
      two_more : (o x : ℕ) → o + 2 ≤ x → o + 0 + 2 ≤ x
      two_more o x h = omega arith

  erased_byte : (x : ℕ) → x < size → get_or (after size (erase p) i) (p * size + x) 0 ≡ 255
  unfolding after offset aim
  erased_byte x h =
      let blanks : List ℕ = replicate size 255 in
      let l : length blanks ≡ size = length-replicate size 255 in
      getD_sets_in (p * size) x blanks i (rw l fits) (rw l h) ∙ get_or-replicate size x 255 0 h

  erased_at : (x m : ℕ) → p * size + x ≡ m → x < size → get_or (after size (erase p) i) m 0 ≡ 255
  erased_at x m e g = subst (λ (m : ℕ). get_or (after size (erase p) i) m 0 ≡ 255) e (erased_byte x g)

  erased_length : length (after size (erase p) i) ≡ length i
  erased_length = length_after size (erase p) i

  first_blank : (k a b : ℕ) → 4 * k + 4 ≤ size → take 2 (drop (offset size (program p k first a b)) (after size (erase p) i)) ≡ 255 ∷ 255 ∷ []
  unfolding offset
  first_blank k a b h =
      let o = p * size + 4 * k + 0 in
      let l = erased_length in
      let e : p * size + (4 * k + 1) ≡ p * size + 4 * k + 0 + 1 = omega arith in
      two_bytes o (after size (erase p) i) (omega arith)
      ∙ ap₂ (λ (x y : ℕ). x ∷ y ∷ []) (erased_at (4 * k) o (omega arith) (omega arith)) (erased_at (4 * k + 1) (o + 1) e (omega arith))

  second_blank : (k a b c d : ℕ) → 4 * k + 4 ≤ size
      → take 2 (drop (offset size (program p k second c d)) (after size (program p k first a b) (after size (erase p) i))) ≡ 255 ∷ 255 ∷ []
  unfolding offset
  second_blank k a b c d h =
      let o = p * size + 4 * k + 2 in
      let j = after size (program p k first a b) (after size (erase p) i) in
      let l : length j ≡ length i = length_after size (program p k first a b) (after size (erase p) i) ∙ erased_length in
      two_bytes o j (omega arith)
      ∙ ap₂ (λ (x y : ℕ). x ∷ y ∷ []) (first_keeps k a b o (omega arith) ∙ erased_at (4 * k + 2) o (omega arith) (omega arith))
      (first_keeps k a b (o + 1) (omega arith) ∙ erased_at (4 * k + 3) (o + 1) (omega arith) (omega arith))

  pub erased_allowed : (k : ℕ) (w : Word) → 4 * k + 4 ≤ size → AllAllowed size (word_steps p k w) (after size (erase p) i)
  unfolding AllAllowed Allowed word_steps bytes_at
  erased_allowed k (word a b c d) h = (first_blank k a b h, (second_blank k a b c d h, tt))
