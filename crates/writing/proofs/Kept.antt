-- Steps that program words of one page, behind its wear word, change nothing of how other pages are renewed. Assumes nothing.
use Prim.Native.Nat.{ℕ, zero, suc, ◌+◌, ◌*◌, ◌≤◌, ◌<◌}
use mathlib.Core.Path.{◌≡◌, refl, sym, ap, ◌∙◌, subst}
use mathlib.Core.Bool.{Bool, false}
use mathlib.Core.List.{List, [], ◌∷◌, ◌++◌, map}
use mathlib.Core.Option.{Option}
use native.Mathlib.Omega.{arith}
use lib.ListN.{length, get_or, set, take, get_or-map}
use lib.Seq.{map-set_same}
use Rattle.std.proofs.lemmas.List.{map-set}
use Rattle.rules.specs.Flash.{Half, Step, program, erase, after, run}
use Rattle.rules.specs.Word.{Word, word, word_steps}
use Rattle.rules.specs.Page.{Form, word_count, size, wear_part, wear_in, Page, page, slot_place}
use Rattle.rules.specs.Store.{greatest, or_value}
use Rattle.rules.specs.Steps.{greatest_wear, renewals, renew_each, renew_picked, slots_steps}
use Rattle.rules.specs.Call.{cut, first_pages}
use Rattle.rules.proofs.Shape.{Within, target, page_after, store_after}
use Rattle.rules.proofs.Renewing.{renewals_set}
use Rattle.rules.proofs.Cut.{cut_after, length_after}

-- ---- steps that program words of one page

-- behind its wear word
unfoldable pub OnPage : (k p : ℕ) → List Step → Type 0
OnPage k p [] = Unit {0}
OnPage k p (program q w h low high ∷ ss) = (q ≡ p) × (0 < w) × (w < k) × OnPage k p ss
OnPage k p (erase q ∷ ss) = ⊥

pub on_take : (m p n : ℕ) (ss : List Step) → OnPage m p ss → OnPage m p (take n ss)
unfolding OnPage
on_take m p zero ss h = tt
on_take m p (suc n) [] h = tt
on_take m p (suc n) (program q w g low high ∷ ss) h = (h.0, h.1, h.2, on_take m p n ss h.3)
on_take m p (suc n) (erase q ∷ ss) h = absurd h

pub on_append : (m p : ℕ) (xs ys : List Step) → OnPage m p xs → OnPage m p ys → OnPage m p (xs ++ ys)
unfolding OnPage
on_append m p [] ys h g = g
on_append m p (program q w k low high ∷ ss) ys h g = (h.0, h.1, h.2, on_append m p ss ys h.3 g)
on_append m p (erase q ∷ ss) ys h g = absurd h

pub on_word : (m p at : ℕ) (w : Word) → 0 < at → at < m → OnPage m p (word_steps p at w)
unfolding OnPage word_steps
on_word m p at (word a b c d) z l = (refl, z, l, (refl, z, l, tt))

pub on_slots : (m p k : ℕ) (ws : List Word) → 3 + k + length ws ≤ m → OnPage m p (slots_steps p k ws)
unfolding OnPage slots_steps
on_slots m p k [] l = tt
on_slots m p k (w ∷ ws) l =
    on_append m p (word_steps p (slot_place k) w) (slots_steps p (suc k) ws)
    (on_word m p (slot_place k) w (omega arith) (omega arith)) (on_slots m p (suc k) ws (omega arith))

-- ---- and do not change how the other pages are renewed

greatest_set : (edition p : ℕ) (x : List Word) (F : List (List Word)) → wear_in edition x ≡ wear_in edition (get_or F p [])
    → greatest_wear (map (page edition) (set F p x)) ≡ greatest_wear (map (page edition) F)
unfolding greatest_wear page
greatest_set edition p x F e =
    let worn : Page → ℕ = λ q. or_value q.wear 0 in
    ap (λ (ps : List Page). greatest (map worn ps)) (map-set (page edition) F p x)
    ∙ ap greatest (map-set_same worn (map (page edition) F) p (page edition x) (page edition [])
    (ap (λ (w : Option ℕ). or_value w 0) e ∙ ap worn (sym (get_or-map (page edition) F p []))))

-- the wear word stays where another word is programmed
wear_stays : (edition k p w : ℕ) (h : Half) (low high : ℕ) (pg : List Word) → 0 < w
    → wear_in edition (page_after k (program p w h low high) pg) ≡ wear_in edition pg
unfolding page_after wear_in wear_part
wear_stays edition k p (suc w) h low high [] l = refl
wear_stays edition k p (suc w) h low high (x ∷ pg) l = refl
wear_stays edition k p zero h low high pg l = absurd (omega arith)

-- the pages that a test of the index picks, among the first n, but not that one
module _ (fm : Form) (n p : ℕ) (inside : p < n) (test : ℕ → Bool) (out : test p ≡ false) where
  abbrev pub renewing : List ℕ → List Step
  renewing i = renew_picked fm.edition (λ j s. test j) (first_pages fm n i)

  program_kept : (q w : ℕ) (g : Half) (low high : ℕ) (i : List ℕ) → q ≡ p → 0 < w → w < word_count fm → length i ≡ n * size fm
      → renewing (after (size fm) (program q w g low high) i) ≡ renewing i
  unfolding Within store_after target renew_picked
  program_kept q w g low high i e z v l =
      let s = program q w g low high in
      let F = cut (size fm) n i in
      let x = page_after (word_count fm) s (get_or F q []) in
      let same : 0 + q ≡ p = omega (arith, e) in
      let greatest = greatest_wear (first_pages fm n i) in
      ap (λ (G : List (List Word)). renew_picked fm.edition (λ j s. test j) (map (page fm.edition) G))
      (cut_after (word_count fm) n s i l (subst (λ (m : ℕ). m < n) (sym e) inside, v))
      ∙ ap (λ (m : ℕ). renew_each fm.edition (renewals (λ j s. test j) m 0 (map (page fm.edition) (set F q x))))
      (greatest_set fm.edition q x F (wear_stays fm.edition (word_count fm) q w g low high (get_or F q []) z))
      ∙ ap (renew_each fm.edition) (renewals_set fm.edition (λ j s. test j) greatest 0 q x F (λ t. ap test same ∙ out))

  pub renewing_kept : (ss : List Step) (i : List ℕ) → OnPage (word_count fm) p ss → length i ≡ n * size fm → renewing (run (size fm) ss i) ≡ renewing i
  unfolding OnPage run
  renewing_kept [] i h l = refl
  renewing_kept (program q w g low high ∷ ss) i h l =
      renewing_kept ss (after (size fm) (program q w g low high) i) h.3 (length_after (size fm) (program q w g low high) i ∙ l)
      ∙ program_kept q w g low high i h.0 h.1 h.2 l
  renewing_kept (erase q ∷ ss) i h l = absurd h
