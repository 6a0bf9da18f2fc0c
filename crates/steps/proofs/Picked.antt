-- Picked pages, renewed one after the other, in the terms of the code. Assumes nothing.
use Prim.Native.Nat.{ℕ, zero, suc, ◌+◌, ◌*◌, ◌≤◌, ◌<◌, max}
use mathlib.Core.Path.{◌≡◌, refl, sym, ap, ap₂, ◌∙◌, subst}
use mathlib.Core.Bool.{Bool, true, false, cond}
use mathlib.Core.List.{List, [], ◌∷◌, ◌++◌, append-nil}
use native.Mathlib.Numerals.{add-one}
use native.Mathlib.Omega.{arith}
use lib.ListN.{length, take, drop, replicate, length-map, length-replicate}
use lib.Seq.{take-suc, take_all, length-take-le, drop-drop}
use Rattle.rules.specs.Flash.{Half, Step, program, erase, first, second, offset, aim, bytes_at, after, run}
use Rattle.rules.specs.Word.{Word, word, words, wear_word, word_steps}
use Rattle.rules.specs.Page.{Form, word_count, size, State, Page, page}
use Rattle.rules.specs.Store.{each, no_page}
use Rattle.rules.specs.Steps.{renew, renewed_wear, greatest_wear, Renewal, renewal, renewals, renew_by, renew_each, renew_picked}
use Rattle.rules.specs.Call.{cut, first_pages, page_in}
use Rattle.rules.proofs.Truth.{by_cases}
use Rattle.rules.proofs.Cut.{cut_length, drop_sets_below}
use Rattle.rules.proofs.Told.{page_cut}
use Rattle.rules.proofs.Stores.{each_append}
use Rattle.pages.specs.declared.form.Form.{Form as Numbers}
use Rattle.pages.specs.Read.{as_form}
use Rattle.steps.specs.declared.Steps.{Steps}
use Rattle.steps.specs.Done.{Done}
use Rattle.steps.specs.Picked.{picked_steps}
use Rattle.steps.proofs.Doing.{done_nothing, done_then}

-- a page whose bytes are as they were is as it was
same_page : (fm : Form) (p : ℕ) (i j : List ℕ) → drop (p * (size fm)) j ≡ drop (p * (size fm)) i → page_in fm p j ≡ page_in fm p i
unfolding bytes_at
same_page fm p i j e = ap (λ (l : List ℕ). page fm.edition (words (take (size fm) l))) e

-- ---- what lies behind a page stays as the page is renewed

behind_program : (k p w : ℕ) (l h : ℕ) (x : Half) (i : List ℕ) → w < k
    → drop (p * (4 * k) + (4 * k)) (after (4 * k) (program p w x l h) i) ≡ drop (p * (4 * k) + (4 * k)) i
unfolding after offset aim
behind_program k p w l h first i b = drop_sets_below (p * (4 * k) + (4 * k)) i (p * (4 * k) + 4 * w + 0) (l ∷ h ∷ []) (near (p * (4 * k)) w b)
  where
    near : (o w : ℕ) → w < k → o + 4 * w + 0 + 2 ≤ o + (4 * k)
    near o w b = omega arith
behind_program k p w l h second i b = drop_sets_below (p * (4 * k) + (4 * k)) i (p * (4 * k) + 4 * w + 2) (l ∷ h ∷ []) (near (p * (4 * k)) w b)
  where
    near : (o w : ℕ) → w < k → o + 4 * w + 2 + 2 ≤ o + (4 * k)
    near o w b = omega arith

behind_erase : (k p : ℕ) (i : List ℕ) → drop (p * (4 * k) + (4 * k)) (after (4 * k) (erase p) i) ≡ drop (p * (4 * k) + (4 * k)) i
unfolding after offset aim
behind_erase k p i = drop_sets_below (p * (4 * k) + (4 * k)) i (p * (4 * k)) (replicate (4 * k) 255)
    (near (p * (4 * k)) (replicate (4 * k) 255) (length-replicate {A = ℕ} (4 * k) 255))
  where
    near : (o : ℕ) (bs : List ℕ) → length bs ≡ (4 * k) → o + length bs ≤ o + (4 * k)
    near o bs e = omega arith

pub renew_behind : (k edition p wear n : ℕ) (i : List ℕ) → 0 < k
    → drop (p * (4 * k) + (4 * k)) (run (4 * k) (take n (renew edition p wear)) i) ≡ drop (p * (4 * k) + (4 * k)) i
unfolding renew run word_steps
renew_behind k edition p wear n i wide = steps n (wear_word edition wear)
  where
    none : (n : ℕ) (j : List ℕ) → run (4 * k) (take n []) j ≡ j
    none zero j = refl
    none (suc n) j = refl

    steps : (n : ℕ) (w : Word) → drop (p * (4 * k) + (4 * k)) (run (4 * k) (take n (erase p ∷ word_steps p 0 w)) i) ≡ drop (p * (4 * k) + (4 * k)) i
    steps zero (word a b c d) = refl
    steps (suc zero) (word a b c d) = behind_erase k p i
    steps (suc (suc zero)) (word a b c d) = behind_program k p 0 a b first (after (4 * k) (erase p) i) (omega arith) ∙ behind_erase k p i
    steps (suc (suc (suc n))) (word a b c d) =
        ap (drop (p * (4 * k) + (4 * k))) (none n (after (4 * k) (program p 0 second c d) (after (4 * k) (program p 0 first a b) (after (4 * k) (erase p) i))))
        ∙ behind_program k p 0 c d second (after (4 * k) (program p 0 first a b) (after (4 * k) (erase p) i)) (omega arith)
        ∙ behind_program k p 0 a b first (after (4 * k) (erase p) i) (omega arith) ∙ behind_erase k p i

-- ---- one page after the other

-- the greatest wear when the pages from the k-th on have had their turns
unfoldable pub reached : (ℕ → State → Bool) → (g k : ℕ) → List Page → ℕ
reached picks g k [] = g
reached picks g k (p ∷ ps) = reached picks (cond (picks k p.state) (max g (renewed_wear g p.wear)) g) (suc k) ps

reached_append : (picks : ℕ → State → Bool) (g k : ℕ) (xs ys : List Page)
    → reached picks g k (xs ++ ys) ≡ reached picks (reached picks g k xs) (k + length xs) ys
unfolding reached
reached_append picks g k [] ys = let e : k ≡ k + 0 = omega arith in ap (λ (x : ℕ). reached picks g x ys) e
reached_append picks g k (p ∷ xs) ys =
    let e : suc k + length xs ≡ k + suc (length xs) = omega arith in
    let m = cond (picks k p.state) (max g (renewed_wear g p.wear)) g in
    reached_append picks m (suc k) xs ys ∙ ap (λ (x : ℕ). reached picks (reached picks m (suc k) xs) x ys) e

renewals_append : (picks : ℕ → State → Bool) (g k : ℕ) (xs ys : List Page)
    → renewals picks g k (xs ++ ys) ≡ renewals picks g k xs ++ renewals picks (reached picks g k xs) (k + length xs) ys
unfolding renewals reached
renewals_append picks g k [] ys = let e : k ≡ k + 0 = omega arith in ap (λ (x : ℕ). renewals picks g x ys) e
renewals_append picks g k (p ∷ xs) ys =
    let e : suc k + length xs ≡ k + suc (length xs) = omega arith in
    let w = renewed_wear g p.wear in
    by_cases (picks k p.state)
    (λ t. rw (t, ← e) (ap (λ (rs : List Renewal). renewal k w ∷ rs) (renewals_append picks (max g w) (suc k) xs ys)))
    (λ t. rw (t, ← e) (renewals_append picks g (suc k) xs ys))

module _ (fm : Form) (n : ℕ) (i : List ℕ) where
  abbrev told : List Page
  told = first_pages fm n i

  pub told_long : length told ≡ n
  told_long = length-map (cut (size fm) n i) (page fm.edition) ∙ cut_length (size fm) n i

  pub told_all : take n told ≡ told
  told_all = take_all n told (omega (arith, told_long))

  told_next : (j : ℕ) → j < n → take (suc j) told ≡ take j told ++ (page_in fm j i ∷ [])
  told_next j l = take-suc told j no_page (omega (arith, told_long)) ∙ ap (λ (p : Page). take j told ++ (p ∷ [])) (page_cut fm n j i l)

  module _ (picks : ℕ → Bool) where
    abbrev chosen : ℕ → State → Bool
    chosen k s = picks k

    -- the steps for the first j pages, and the greatest wear then
    unfoldable pub upto : ℕ → List Step
    upto j = renew_each fm.edition (renewals chosen (greatest_wear told) 0 (take j told))

    unfoldable pub greatest_at : ℕ → ℕ
    greatest_at j = reached chosen (greatest_wear told) 0 (take j told)

    front : (j : ℕ) → j < n → 0 + length (take j told) ≡ j
    front j l = omega (arith, length-take-le j told (omega (arith, told_long)))

    upto_next : (j : ℕ) → j < n → upto (suc j) ≡ upto j ++ renew_each fm.edition (renewals chosen (greatest_at j) j (page_in fm j i ∷ []))
    unfolding upto greatest_at
    upto_next j l =
        let g = greatest_wear told in
        ap (λ (ps : List Page). renew_each fm.edition (renewals chosen g 0 ps)) (told_next j l)
        ∙ ap (renew_each fm.edition) (renewals_append chosen g 0 (take j told) (page_in fm j i ∷ []))
        ∙ each_append (renew_by fm.edition) (renewals chosen g 0 (take j told))
        (renewals chosen (greatest_at j) (0 + length (take j told)) (page_in fm j i ∷ []))
        ∙ ap (λ (x : ℕ). upto j ++ renew_each fm.edition (renewals chosen (greatest_at j) x (page_in fm j i ∷ []))) (front j l)

    greatest_next : (j : ℕ) → j < n → greatest_at (suc j) ≡ reached chosen (greatest_at j) j (page_in fm j i ∷ [])
    unfolding greatest_at
    greatest_next j l =
        let g = greatest_wear told in
        ap (reached chosen g 0) (told_next j l) ∙ reached_append chosen g 0 (take j told) (page_in fm j i ∷ [])
        ∙ ap (λ (x : ℕ). reached chosen (greatest_at j) x (page_in fm j i ∷ [])) (front j l)

    pub upto_none : upto 0 ≡ []
    unfolding upto renewals each
    upto_none = refl

    pub greatest_first : greatest_at 0 ≡ greatest_wear told
    unfolding greatest_at reached
    greatest_first = refl

    pub upto_all : upto n ≡ picked_steps fm n picks i
    unfolding upto picked_steps renew_picked
    upto_all = ap (λ (ps : List Page). renew_each fm.edition (renewals chosen (greatest_wear told) 0 ps)) told_all

    module _ (j : ℕ) (l : j < n) where
      pub upto_picked : picks j ≡ true → upto (j + 1) ≡ upto j ++ renew fm.edition j (renewed_wear (greatest_at j) (page_in fm j i).wear)
      unfolding renewals each
      upto_picked t =
          let here = renew fm.edition j (renewed_wear (greatest_at j) (page_in fm j i).wear) in
          rw add-one (upto_next j l ∙ ap (λ (ss : List Step). upto j ++ ss) (rw t (append-nil here)))

      pub greatest_picked : picks j ≡ true → greatest_at (j + 1) ≡ max (greatest_at j) (renewed_wear (greatest_at j) (page_in fm j i).wear)
      unfolding reached
      greatest_picked t = rw add-one (greatest_next j l ∙ rw t)

      pub upto_passed : picks j ≡ false → upto (j + 1) ≡ upto j
      unfolding renewals each
      upto_passed t = rw add-one (upto_next j l ∙ ap (λ (ss : List Step). upto j ++ ss) (rw t) ∙ append-nil (upto j))

      pub greatest_passed : picks j ≡ false → greatest_at (j + 1) ≡ greatest_at j
      unfolding reached
      greatest_passed t = rw add-one (greatest_next j l ∙ rw t)

-- what holds when the loop has passed j pages: the picked ones are renewed, and the pages from this one on are as they were
pub record Passed (s : Steps) (n : ℕ) (picks : ℕ → Bool) (j : ℕ) (t : Steps) (greatest : ℕ) : Type 0 where
  pub does : Done s (upto (as_form s.form) n s.image.now picks j) t
  pub is_greatest : greatest ≡ greatest_at (as_form s.form) n s.image.now picks j
  pub ahead : drop (j * size (as_form s.form)) t.image.now ≡ drop (j * size (as_form s.form)) s.image.now

module _ (s : Steps) (n : ℕ) (picks : ℕ → Bool) where
  abbrev fm : Form
  fm = as_form s.form

  abbrev i : List ℕ
  i = s.image.now

  pub passed_none : (greatest : ℕ) → greatest ≡ greatest_wear (first_pages fm n i) → Passed s n picks 0 s greatest
  passed_none greatest g =
      record {
        does = subst (λ (ss : List Step). Done s ss s) (sym (upto_none fm n i picks)) (done_nothing s);
        is_greatest = g ∙ sym (greatest_first fm n i picks);
        ahead = refl;
      }

  module _ {j : ℕ} {t : Steps} {greatest : ℕ} (h : Passed s n picks j t greatest) (in_range : j < n) where
    further : (l : List ℕ) → drop (j * size fm + size fm) l ≡ drop ((j + 1) * size fm) l
    further l = let e : j * size fm + size fm ≡ (j + 1) * size fm = omega arith in ap (λ (x : ℕ). drop x l) e

    ahead_next : drop (j * size fm + size fm) t.image.now ≡ drop (j * size fm + size fm) i
    ahead_next =
        sym (drop-drop (size fm) (j * size fm) t.image.now) ∙ ap (drop (size fm)) h.ahead ∙ drop-drop (size fm) (j * size fm) i

    pub passed_by : picks j ≡ false → Passed s n picks (j + 1) t greatest
    passed_by h₀ =
        record {
          does = subst (λ (ss : List Step). Done s ss t) (sym (upto_passed fm n i picks j in_range h₀)) h.does;
          is_greatest = h.is_greatest ∙ sym (greatest_passed fm n i picks j in_range h₀);
          ahead = sym (further t.image.now) ∙ ahead_next ∙ further i;
        }

    pub passed_picked : {u : Steps} {wear greatest' : ℕ} → picks j ≡ true → wear ≡ renewed_wear greatest (page_in (as_form t.form) j t.image.now).wear
        → Done t (renew t.form.edition j wear) u → greatest' ≡ max greatest wear → Passed s n picks (j + 1) u greatest'
    passed_picked {u} {wear} {greatest'} h₁ is d m =
        let w = renewed_wear (greatest_at fm n i picks j) (page_in fm j i).wear in
        let got : wear ≡ w =
        (rw h.does.same_form at is) ∙ ap₂ renewed_wear h.is_greatest (ap (λ (p : Page). p.wear) (same_page fm j i t.image.now h.ahead)) in
        let e : renew t.form.edition j wear ≡ renew s.form.edition j w =
        ap₂ (λ (f : Numbers) (x : ℕ). renew f.edition j x) h.does.same_form got in
        let d' = subst (λ (ss : List Step). Done t ss u) e d in
        record {
          does = subst (λ (ss : List Step). Done s ss u) (sym (upto_picked fm n i picks j in_range h₁)) (done_then h.does d');
          is_greatest = m ∙ ap₂ max h.is_greatest got ∙ sym (greatest_picked fm n i picks j in_range h₁);
          ahead = sym (further u.image.now) ∙ ap (drop (j * size fm + size fm)) (rw h.does.same_form at d'.image)
              ∙ renew_behind (word_count fm) s.form.edition j w t.left t.image.now (omega arith) ∙ ahead_next ∙ further i;
        }

  pub passed_all : {j : ℕ} {t : Steps} {greatest : ℕ} → Passed s n picks j t greatest → j ≡ n → Done s (picked_steps fm n picks i) t
  passed_all {t = t} h e = subst (λ (ss : List Step). Done s ss t) (ap (upto fm n i picks) e ∙ upto_all fm n i picks) h.does
