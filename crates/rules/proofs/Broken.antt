-- Laws of the broken words: they are counted page by page, whatever the order of the pages, and no slot twice. Assumes nothing.
use Prim.Native.Nat.{ℕ, suc, ◌+◌, ◌*◌, ◌≤◌}
use mathlib.Core.Path.{◌≡◌, refl, sym, ap, ◌∙◌}
use mathlib.Core.Bool.{Bool}
use mathlib.Core.List.{List, [], ◌∷◌, ◌++◌, map}
use native.Mathlib.Nat.{zero-mul, suc-mul}
use native.Mathlib.Omega.{arith}
use lib.ListN.{length, length-append, length-map, length-drop}
use lib.Dec.{leb}
use Rattle.rules.specs.Word.{Word, Condition, Sound, Blank, HalfWritten, Spoiled, Slot, slot}
use Rattle.rules.specs.Page.{Page, page, slots, state}
use Rattle.rules.specs.Store.{states, base, used, order, add_page, used_pages, insert, oldest_first, each, count}
use Rattle.rules.specs.Store.{Place, outside, behind, place_behind}
use Rattle.rules.specs.Listing.{is_half, is_spoiled, condition_at, conditions, conditions_in, used_conditions}
use Rattle.rules.proofs.Truth.{by_cases}
use Rattle.rules.proofs.Cut.{AllLength}
use Rattle.rules.proofs.Stores.{count_append}

-- ---- in any order

module _ {A : Type 0} (of : Page → List A) (test : A → Bool) where
  next_counted : (p : Page) (ps : List Page) → count test (each of (p ∷ ps)) ≡ count test (of p) + count test (each of ps)
  unfolding each
  next_counted p ps = count_append test (of p) (each of ps)

  insert_counted : (p : Page) (qs : List Page) → count test (each of (insert p qs)) ≡ count test (each of (p ∷ qs))
  unfolding insert
  insert_counted p [] = refl
  insert_counted p (q ∷ qs) =
      by_cases (leb (order p.state) (order q.state)) (λ t. rw t)
      (λ t.
      rw t
      (omega (arith, next_counted q (insert p qs), insert_counted p qs, next_counted p qs, next_counted p (q ∷ qs), next_counted q qs)))

  oldest_counted : (ps : List Page) → count test (each of (oldest_first ps)) ≡ count test (each of ps)
  unfolding oldest_first
  oldest_counted [] = refl
  oldest_counted (p ∷ ps) =
      omega (arith, insert_counted p (oldest_first ps), next_counted p (oldest_first ps), oldest_counted ps, next_counted p ps)

-- the used pages have so many, the oldest first or by index
pub used_counted : (test : Condition → Bool) (ps : List Page)
    → count test (each conditions_in (oldest_first (used_pages (base (states ps)) ps))) ≡ count test (used_conditions ps)
unfolding used_conditions
used_counted test ps = oldest_counted conditions_in test (used_pages (base (states ps)) ps)

-- ---- so many at most

pub broken_few : (cs : List Condition) → count is_half cs + count is_spoiled cs ≤ length cs
unfolding count is_half is_spoiled
broken_few [] = omega arith
broken_few (Sound ∷ cs) = omega (arith, broken_few cs)
broken_few (Blank ∷ cs) = omega (arith, broken_few cs)
broken_few (HalfWritten ∷ cs) = omega (arith, broken_few cs)
broken_few (Spoiled ∷ cs) = omega (arith, broken_few cs)

pub conditions_many : (at : Place) (ss : List Slot) → length (conditions at ss) ≡ length ss
unfolding conditions
conditions_many at [] = refl
conditions_many at (s ∷ ss) = ap suc (conditions_many (behind at s) ss)

pub conditions_append : (at : Place) (xs ys : List Slot) → conditions at (xs ++ ys) ≡ conditions at xs ++ conditions (place_behind at xs) ys
unfolding conditions place_behind
conditions_append at [] ys = refl
conditions_append at (s ∷ xs) ys = ap (λ (cs : List Condition). condition_at at s ∷ cs) (conditions_append (behind at s) xs ys)

-- every used page has n slots
pub used_many : (edition n b : ℕ) (F : List (List Word)) → AllLength (suc (suc (suc n))) F
    → length (each conditions_in (used_pages b (map (page edition) F))) ≡ count (used b) (states (map (page edition) F)) * n
unfolding AllLength used_pages add_page each states count page slots
used_many edition n b [] h = sym (zero-mul n)
used_many edition n b (pg ∷ F) h =
    let rest = used_many edition n b F h.1 in
    let behind = each conditions_in (used_pages b (map (page edition) F)) in
    let k = count (used b) (states (map (page edition) F)) in
    let cs = conditions outside (map (slot edition) (slots pg)) in
    let here : length cs ≡ n =
    conditions_many outside (map (slot edition) (slots pg)) ∙ length-map (slots pg) (slot edition) ∙ length-drop 3 pg ∙ (let l = h.0 in omega arith) in
    by_cases (used b (state edition pg))
    (λ u. rw u (omega (arith, length-append cs behind, suc-mul k n)))
    (λ u. let e : k ≡ 0 + k = omega arith in rw u (rest ∙ ap (λ (m : ℕ). m * n) e))
