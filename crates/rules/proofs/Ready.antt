-- What an accepted image has, whatever made it: a lawful size, a used page and only one of each order, and a cleared page that
-- can be taken. Its format may be done. Assumes nothing.
use Prim.Native.Nat.{ℕ, zero, suc, ◌+◌, ◌*◌, ◌/◌, ◌%◌, ◌≤◌, ◌<◌, max}
use mathlib.Core.Path.{◌≡◌, refl, sym, ap, ap₂, ◌∙◌, subst}
use mathlib.Core.Logic.{◌⊎◌, inl, inr, ⊎_elim}
use mathlib.Core.Bool.{Bool, true, false, cond, not}
use mathlib.Core.List.{List, [], ◌∷◌}
use native.Mathlib.Omega.{arith}
use native.Mathlib.Nat.{add-zero, div-add-mod'}
use lib.ListN.{length, length-append, length-map, drop}
use lib.Dec.{eqb, leb, ltb}
use borrow.Author.Tests.{eqb-true, eqb-false, ltb-false, leb-true, leb-false, le-leb, not-false}
use Rattle.rules.specs.Word.{Word}
use Rattle.rules.specs.Page.{Form, word_count, size, State, cleared, open₁, open₂, receiving, bad, page}
use Rattle.rules.specs.Store.{states, order₂, base, greatest, used, is_open, is_cleared, used_orders, used_pages, active_index, count}
use Rattle.rules.specs.Steps.{unclean, format_steps, taken}
use Rattle.rules.specs.Call.{page_count, cut, pages, wrong_size, no_store, repeats, all_used, damaged, is_unclean, store_number, OK}
use Rattle.rules.proofs.Rows.{store_fails}
use Rattle.rules.proofs.Truth.{by_cases, or_false_left, or_false_right}
use Rattle.rules.proofs.Cut.{cut_length, cut_all_length}
use Rattle.rules.proofs.Phases.{Pages}
use Rattle.rules.proofs.Plans.{AllAllowed, through_allowed}
use Rattle.rules.proofs.Stores.{length_states, orders, orders_used, count_used}
use Rattle.rules.proofs.Active.{Ordered, at_active, active_place, Takes, takes, taken_page, some_cleared}
use Rattle.rules.proofs.Building.{Doable}
use Rattle.rules.proofs.Renewing.{format_through}

-- ---- an image of a lawful size

pub record Sizes (fm : Form) (i : List ℕ) : Type 0 where
  pub sized : length i ≡ page_count fm i * size fm
  pub least : 2 ≤ page_count fm i
  pub most : page_count fm i ≤ 32

pub right_sizes : (fm : Form) (i : List ℕ) → wrong_size fm i ≡ false → Sizes fm i
unfolding wrong_size page_count
right_sizes fm i w =
    let whole : length i % size fm ≡ 0 = eqb-true (length i % size fm) 0 (not-false _ (or_false_left (not (eqb (length i % size fm) 0)) _ w)) in
    let rest = or_false_right (not (eqb (length i % size fm) 0)) _ w in
    record {
      sized = sym (div-add-mod' (length i) (size fm)) ∙ ap (λ (r : ℕ). length i / size fm * size fm + r) whole ∙ add-zero (length i / size fm * size fm);
      least = ltb-false (length i / size fm) 2 (or_false_left (ltb (length i / size fm) 2) _ rest);
      most = ltb-false 32 (length i / size fm) (or_false_right (ltb (length i / size fm) 2) _ rest);
    }

pub cut_cons : (size n : ℕ) (i : List ℕ) → 0 < n → (pg : List Word) × (r : Pages) × (cut size n i ≡ pg ∷ r) × (n ≡ suc (length r))
unfolding cut
cut_cons size zero i l = absurd (omega arith)
cut_cons size (suc n) i l = (_, _, refl, ap suc (sym (cut_length size n (drop size i))))

pub format_allowed : (fm : Form) (i : List ℕ) → wrong_size fm i ≡ false → AllAllowed (size fm) (format_steps fm.edition (page_count fm i)) i
format_allowed fm i w =
    let s = right_sizes fm i w in
    let l = s.least in
    let e = fm.edition in
    let p = cut_cons (size fm) (page_count fm i) i (omega arith) in
    let steps = format_steps e (suc (length p.1)) in
    subst (λ (n : ℕ). AllAllowed (size fm) (format_steps e n) i) (sym p.3)
    (through_allowed (word_count fm) (page_count fm i) steps i
    (subst (Doable (word_count fm) steps) (sym p.2) (format_through e fm.slot_count p.0 p.1)) s.sized)

-- ---- a store with an open page has a used one

positive : (n : ℕ) → (n ≡ 0 → ⊥) → 0 < n
positive n h = omega arith

makes_base : (b : ℕ) (s : State) → order₂ s ≡ b → 0 < b → used b s ≡ true
unfolding order₂ used
makes_base b (cleared n) e l = absurd (omega arith)
makes_base b (open₁ o) e l = absurd (omega arith)
makes_base b (open₂ o) e l = le-leb b o (omega arith)
makes_base b receiving e l = absurd (omega arith)
makes_base b bad e l = absurd (omega arith)

-- the base order is that of a used page, if it is not 0
base_used : (ss : List State) → (base ss ≡ 0) ⊎ (0 < count (used (base ss)) ss)
unfolding base greatest count
base_used [] = inl refl
base_used (s ∷ ss) =
    let rest = base_used ss in
    by_cases (leb (base ss) (order₂ s))
    (λ t.
    let l = leb-true (base ss) (order₂ s) t in
    let e : max (order₂ s) (base ss) ≡ order₂ s = omega arith in
    by_cases (eqb (order₂ s) 0) (λ z. inl (e ∙ eqb-true (order₂ s) 0 z))
    (λ z.
    let pos : 0 < order₂ s = positive (order₂ s) (eqb-false (order₂ s) 0 z) in
    inr (subst (λ (b : ℕ). 0 < count (used b) (s ∷ ss)) (sym e) (rw (makes_base (order₂ s) s refl pos) (omega arith)))))
    (λ t.
    let l = leb-false (base ss) (order₂ s) t in
    let e : max (order₂ s) (base ss) ≡ base ss = omega arith in
    ⊎_elim (λ (z : base ss ≡ 0). absurd (omega arith))
    (λ (c : 0 < count (used (base ss)) ss).
    inr (subst (λ (b : ℕ). 0 < count (used b) (s ∷ ss)) (sym e) (more (used (base ss) s) (count (used (base ss)) ss) c))) rest)
  where
    more : (b : Bool) (n : ℕ) → 0 < n → 0 < cond b 1 0 + n
    more true n h = omega arith
    more false n h = omega arith

open_used : (s : State) → is_open s ≡ used 0 s
unfolding is_open used
open_used (cleared n) = refl
open_used (open₁ o) = sym (le-leb 0 o (omega arith))
open_used (open₂ o) = sym (le-leb 0 o (omega arith))
open_used receiving = refl
open_used bad = refl

-- with base 0 the open pages are the used ones
all_open_used : (ss : List State) → count is_open ss ≡ count (used 0) ss
unfolding count
all_open_used [] = refl
all_open_used (s ∷ ss) = ap₂ (λ (b : Bool) (n : ℕ). cond b 1 0 + n) (open_used s) (all_open_used ss)

pub some_used : (ss : List State) → (count is_open ss ≡ 0 → ⊥) → 0 < count (used (base ss)) ss
some_used ss h =
    ⊎_elim (λ (z : base ss ≡ 0). rw z (positive (count (used 0) ss) (λ e. h (all_open_used ss ∙ e)))) (λ c. c) (base_used ss)

-- ---- an accepted image

module _ (fm : Form) (i : List ℕ) (ok : store_number fm i ≡ OK) where
  pub size_right : wrong_size fm i ≡ false
  size_right = (store_fails fm i ok).0

  pub stored : no_store (pages fm i) ≡ false
  stored = (store_fails fm i ok).1

  pub undamaged : damaged (pages fm i) ≡ false
  undamaged = (store_fails fm i ok).2

  abbrev pub words_of : Pages
  words_of = cut (size fm) (page_count fm i) i

  abbrev pub base_of : ℕ
  base_of = base (states (pages fm i))

  abbrev pub orders_of : List ℕ
  orders_of = orders (used_pages base_of (pages fm i))

  sizes : Sizes fm i
  sizes = right_sizes fm i size_right

  pub ordered : Ordered fm.edition (word_count fm) base_of orders_of words_of
  unfolding pages damaged no_store
  ordered =
      record {
        long = cut_all_length (word_count fm) (page_count fm i) i (let s = sizes.sized in omega arith);
        is_base = refl;
        has_orders = refl;
        apart = rw (← orders_used base_of (pages fm i)) (or_false_left (repeats (used_orders base_of (states (pages fm i)))) _ undamaged);
        some = rw (count_used base_of (pages fm i)) (some_used (states (pages fm i)) (eqb-false (count is_open (states (pages fm i))) 0 stored));
      }

  -- which page is active, within the image
  pub active_within : active_index (states (pages fm i)) < page_count fm i
  unfolding pages
  active_within =
      let p = at_active fm.edition (word_count fm) base_of orders_of words_of ordered in
      let e = active_place fm.edition (word_count fm) base_of orders_of words_of ordered in
      let l = ap length p.form in
      let m = length-append p.front (p.here ∷ p.rest) in
      let n = cut_length (size fm) (page_count fm i) i in
      omega arith

  module _ (clean : is_unclean (pages fm i) ≡ false) where
    pub cleared_there : length orders_of + count is_cleared (states (pages fm i)) ≡ page_count fm i
    unfolding pages is_unclean
    cleared_there =
        some_cleared fm.edition (word_count fm) base_of (page_count fm i) orders_of words_of ordered (cut_length (size fm) (page_count fm i) i)
        (eqb-true _ 0 (not-false _ (or_false_left (not (eqb (count (unclean base_of) (states (pages fm i))) 0)) _ clean)))

    one_spare : length orders_of < page_count fm i
    unfolding damaged all_used pages states
    one_spare =
        let rest = or_false_right (repeats (used_orders base_of (states (pages fm i)))) _ undamaged in
        let ne = eqb-false (count (used base_of) (states (pages fm i))) (length (states (pages fm i)))
        (or_false_left (all_used (states (pages fm i))) _ rest) in
        let u = count_used base_of (pages fm i) in
        let c = cleared_there in
        let l : length (states (pages fm i)) ≡ page_count fm i = length_states (pages fm i) ∙ length-map words_of (page fm.edition)
        ∙ cut_length (size fm) (page_count fm i) i in
        less (length orders_of) (count (used base_of) (states (pages fm i))) (count is_cleared (states (pages fm i))) (page_count fm i)
        (length (states (pages fm i))) u c l ne
      where
        less : (o u c n l : ℕ) → o ≡ u → o + c ≡ n → l ≡ n → (u ≡ l → ⊥) → o < n
        less o u c n l e f g ne = omega arith

    pub taking : Takes fm.edition fm.slot_count words_of
    unfolding pages
    taking = let c = cleared_there in let s = one_spare in takes fm.edition fm.slot_count words_of ordered.long (λ z. omega arith)

    pub taken_within : taken (pages fm i) < page_count fm i
    unfolding pages
    taken_within =
        let t = taking in
        let e = t.place in
        let l = ap length t.form in
        let m = length-append t.front (taken_page fm.slot_count t.first ∷ t.rest) in
        let n = cut_length (size fm) (page_count fm i) i in
        omega arith
