-- The active page by the ranks of the pages: the greatest rank stands at its index, and is its order + 1. Assumes nothing.
use Prim.Native.Nat.{ℕ, ◌+◌, ◌<◌, max}
use mathlib.Core.Path.{◌≡◌, refl, sym, ap, ◌∙◌}
use mathlib.Core.List.{List, [], ◌∷◌, map}
use native.Mathlib.Omega.{arith}
use lib.ListN.{length, get_or, length-map}
use Rattle.rules.specs.Page.{State}
use Rattle.rules.specs.Store.{Under, base, used, order, add_order, used_orders, greatest, active_order, is_active, index_of, active_index}
use Rattle.rules.proofs.Truth.{by_cases}
use Rattle.survey.specs.Places.{greatest_below, place_of, newest, next_below}
use Rattle.survey.proofs.Greatest.{counted_in, greatest_in, place_within, newest_is, next_is}
use Rattle.survey.proofs.Ranks.{rank_in, rank_used, rank_unused, rank_is}

-- one more than the greatest of some orders, 0 of none
unfoldable next : List ℕ → ℕ
next [] = 0
next (o ∷ os) = greatest (o ∷ os) + 1

next_more : (o : ℕ) (os : List ℕ) → max (o + 1) (next os) ≡ next (o ∷ os)
unfolding greatest next
next_more o [] = omega arith
next_more o (p ∷ os) = omega arith

next_some : (os : List ℕ) → 0 < length os → next os ≡ greatest os + 1
unfolding next
next_some [] h = absurd (omega arith)
next_some (o ∷ os) h = refl

greatest_ranks : (m b : ℕ) (ss : List State) → Under m (map (rank_in b) ss) → greatest_below m (map (rank_in b) ss) ≡ next (used_orders b ss)
unfolding greatest_below greatest Under used_orders add_order next
greatest_ranks m b [] h = refl
greatest_ranks m b (s ∷ ss) h =
    let rest = greatest_ranks m b ss h.1 in
    let here = counted_in m (rank_in b s) h.0 in
    by_cases (used b s) (λ u. rw (u, here, rest, rank_used b s u) (next_more (order s) (used_orders b ss)))
    (λ u. rw (u, here, rest, rank_unused b s u) (omega arith))

place_ranks : (b o : ℕ) (ss : List State) → place_of (o + 1) (map (rank_in b) ss) ≡ index_of (is_active b o) ss
unfolding place_of index_of
place_ranks b o [] = refl
place_ranks b o (s ∷ ss) = rw (rank_is b s o, place_ranks b o ss)

-- in a store with a used page, of ranks that are all below the bound
module _ (m : ℕ) (ss : List State) (some : 0 < length (used_orders (base ss) ss)) (under : Under m (map (rank_in (base ss)) ss)) where
  abbrev rs : List ℕ
  rs = map (rank_in (base ss)) ss

  top : greatest_below m rs ≡ active_order ss + 1
  unfolding active_order
  top = greatest_ranks m (base ss) ss under ∙ next_some (used_orders (base ss) ss) some

  found : greatest_below m rs ≡ 0 → ⊥
  found z = omega (arith, top)

  pub active_newest : newest m rs ≡ active_index ss
  unfolding active_index
  active_newest = newest_is m rs found ∙ ap (λ (x : ℕ). place_of x rs) top ∙ place_ranks (base ss) (active_order ss) ss

  pub active_rank : get_or rs (active_index ss) 0 ≡ active_order ss + 1
  unfolding next_below
  active_rank = ap (λ (k : ℕ). get_or rs k 0) (sym active_newest) ∙ next_is m rs found ∙ top

  pub active_below : active_order ss + 1 < m
  active_below = let t = top in let l = (greatest_in m rs found).1 in omega arith

  pub active_inside : active_index ss < length ss
  active_inside =
      let e = newest_is m rs found in
      let l = place_within (greatest_below m rs) rs (greatest_in m rs found).0 in
      omega (arith, active_newest, length-map ss (rank_in (base ss)))
