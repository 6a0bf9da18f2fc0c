-- The roles of pages, and the ranks that they give. Assumes nothing.
use Prim.Native.Nat.{ℕ, zero, suc, ◌+◌, ◌<◌}
use mathlib.Core.Path.{◌≡◌, refl, ap₂}
use mathlib.Core.Bool.{true, false}
use mathlib.Core.List.{List, [], ◌∷◌, map}
use native.Mathlib.Omega.{arith}
use lib.ListN.{length, get_or}
use lib.Dec.{eqb}
use borrow.Author.Tests.{eqb-true, eqb-false, eq-eqb, ne_eqb}
use Rattle.rules.specs.Page.{State, cleared, open₁, open₂, receiving, bad}
use Rattle.rules.specs.Store.{Under, used, is_cleared, order, is_active}
use Rattle.rules.proofs.Truth.{by_cases, not_both}
use Rattle.survey.specs.declared.Role.{Role}
use Rattle.survey.specs.States.{OrdersFit}
use Rattle.survey.specs.Roles.{role, order_in, is_used as is_used_role, is_cleared as is_cleared_role, rank, ranks}

-- that of the page at an index
pub rank_at : (rs : List Role) (i : ℕ) (d : Role) → i < length rs → get_or (ranks rs) i 0 ≡ rank (order_in (get_or rs i d))
rank_at [] i d l = absurd (omega arith)
rank_at (r ∷ rs) zero d l = refl
rank_at (r ∷ rs) (suc i) d l = rank_at rs i d (omega arith)

-- ---- of a state

-- its rank in a store of that base order
abbrev pub rank_in : (base : ℕ) → State → ℕ
rank_in b s = rank (order_in (role b s))

-- the role is used or cleared exactly if the page is
pub used_role : (b : ℕ) (s : State) → is_used_role (role b s) ≡ used b s
unfolding role used
used_role b (cleared wear) = refl
used_role b (open₁ o) = by_cases (used b (open₁ o)) (λ u. rw u) (λ u. rw u)
used_role b (open₂ o) = by_cases (used b (open₂ o)) (λ u. rw u) (λ u. rw u)
used_role b receiving = refl
used_role b bad = refl

pub cleared_role : (b : ℕ) (s : State) → is_cleared_role (role b s) ≡ is_cleared s
unfolding role is_cleared
cleared_role b (cleared wear) = refl
cleared_role b (open₁ o) = by_cases (used b (open₁ o)) (λ u. rw u) (λ u. rw u)
cleared_role b (open₂ o) = by_cases (used b (open₂ o)) (λ u. rw u) (λ u. rw u)
cleared_role b receiving = refl
cleared_role b bad = refl

pub rank_used : (b : ℕ) (s : State) → used b s ≡ true → rank_in b s ≡ order s + 1
unfolding role order used
rank_used b (cleared wear) u = not_both u refl
rank_used b (open₁ o) u = rw u
rank_used b (open₂ o) u = rw u
rank_used b receiving u = not_both u refl
rank_used b bad u = not_both u refl

pub rank_unused : (b : ℕ) (s : State) → used b s ≡ false → rank_in b s ≡ 0
unfolding role used
rank_unused b (cleared wear) u = refl
rank_unused b (open₁ o) u = rw u
rank_unused b (open₂ o) u = rw u
rank_unused b receiving u = refl
rank_unused b bad u = refl

module _ (b : ℕ) (s : State) where
  -- the rank o + 1 is that of the used page of order o
  pub rank_is : (o : ℕ) → eqb (o + 1) (rank_in b s) ≡ is_active b o s
  unfolding is_active
  rank_is o =
      by_cases (used b s)
      (λ u.
      let r = rank_used b s u in
      by_cases (eqb (order s) o)
      (λ e. let q = eqb-true (order s) o e in rw (u, e) (eq-eqb (o + 1) (rank_in b s) (omega arith)))
      (λ e. rw (u, e) (ne_eqb (o + 1) (rank_in b s) (λ z. eqb-false (order s) o e (omega arith)))))
      (λ u. let r = rank_unused b s u in rw u (ne_eqb (o + 1) (rank_in b s) (λ z. omega arith)))

  rank_below : order s < 4194304 → rank_in b s < 4194305
  rank_below l = by_cases (used b s) (λ u. let r = rank_used b s u in omega arith) (λ u. let r = rank_unused b s u in omega arith)

-- ---- of all states

pub ranks_of : (b : ℕ) (ss : List State) → ranks (map (role b) ss) ≡ map (rank_in b) ss
ranks_of b [] = refl
ranks_of b (s ∷ ss) = ap₂ (λ (r : ℕ) (rs : List ℕ). r ∷ rs) refl (ranks_of b ss)

-- every rank is at most the limit of orders + 1
pub ranks_under : (b : ℕ) (ss : List State) → OrdersFit ss → Under 4194305 (map (rank_in b) ss)
unfolding OrdersFit Under
ranks_under b [] h = tt
ranks_under b (s ∷ ss) h = (rank_below b s h.0, ranks_under b ss h.1)
