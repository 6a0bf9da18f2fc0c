-- What a page is to its store. Used pages are compared by rank: the order + 1, so that a page that is not used has a rank too, 0.
use Rattle.std.specs.Prelude.{ℕ, ◌+◌, Bool, true, false, cond, List, map, Option, None, Some}
use Rattle.rules.specs.Page.{State, cleared, open₁, open₂, receiving, bad}
use Rattle.rules.specs.Store.{used}
use Rattle.survey.specs.declared.Role.{Role}
use Rattle.survey.specs.declared.Role.TheVariants.{Used, Cleared, Unclean}

-- S2, S9. used, cleared or unclean
unfoldable pub role : (base : ℕ) → State → Role
role b (cleared wear) = Cleared wear
role b (open₁ o) = cond (used b (open₁ o)) (Used o) Unclean
role b (open₂ o) = cond (used b (open₂ o)) (Used o) Unclean
role b receiving = Unclean
role b bad = Unclean

-- the order of a used page
abbrev pub order_in : Role → Option ℕ
order_in (Used o) = Some o
order_in (Cleared wear) = None
order_in Unclean = None

abbrev pub is_used : Role → Bool
is_used (Used o) = true
is_used (Cleared wear) = false
is_used Unclean = false

abbrev pub is_cleared : Role → Bool
is_cleared (Used o) = false
is_cleared (Cleared wear) = true
is_cleared Unclean = false

-- the rank of an order, and of no order
abbrev pub rank : Option ℕ → ℕ
rank None = 0
rank (Some o) = o + 1

abbrev pub ranks : List Role → List ℕ
ranks rs = map (λ (r : Role). rank (order_in r)) rs
