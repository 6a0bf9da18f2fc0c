-- How fast orders grow: the active order and the cleared pages together are more after a move, by one for each page but one, and the same
-- after any other write. Assumes nothing.
use Prim.Native.Nat.{ℕ, ◌+◌, ◌-◌, ◌*◌, ◌≤◌, ◌<◌, max}
use mathlib.Core.Path.{◌≡◌}
use mathlib.Core.Bool.{false, cond, not}
use mathlib.Core.List.{List, [], ◌∷◌}
use native.Mathlib.Nat.{suc-mul, zero-mul, mul-le-mul, mul-le-mul_left}
use native.Mathlib.Omega.{arith}
use lib.ListN.{length}
use borrow.Author.Tests.{leb-false, ne_eqb}
use Rattle.rules.specs.Page.{Page}
use Rattle.rules.specs.Store.{states, is_cleared, active_order, count, greatest, has_room, or_value}
use Rattle.rules.specs.Steps.{greatest_wear, Change, way, new_page, next_order}
use Rattle.rules.specs.Call.{order_end, order_limit}
use Rattle.rules.proofs.Truth.{and_second}
use Rattle.rules.proofs.Phases.{Pages}
use Rattle.rules.proofs.Good.{Frame}
use Rattle.promise.specs.Corollaries.{moves}
use Rattle.wear.specs.Wear.{sum, wears}
use Rattle.wear.proofs.Finished.{told_in, Wrote, stayed, appended, opened, moved}
use Rattle.wear.proofs.Level.{many_parted, same_states, cleared_before}
use Rattle.wear.proofs.Between.{all_cleared, cleared_now}

-- the active order and the cleared pages
abbrev pub ahead : List Page → ℕ
ahead ps = active_order (states ps) + count is_cleared (states ps)

module _ (c : Frame) (ch : Change) (F G : Pages) where
  abbrev ps : List Page
  ps = told_in c F

  abbrev qs : List Page
  qs = told_in c G

  pub ahead_then : Wrote c ch F G → ahead qs ≡ ahead ps + cond (moves (way ch ps)) (length ps - 1) 0
  unfolding way new_page moves next_order states
  ahead_then (stayed s e) = rw (s, e) (omega arith)
  ahead_then (appended {f} {r} {p} {q} l s free is same base_same taken) =
      rw (s, free, same_states c ch F G l same) (omega arith)
  ahead_then (opened l s full two n is least ordered base_same taken) =
      rw (s, full, two) (omega (arith, l.order_is, ordered, cleared_before c ch F G l is, cleared_now c ch F G l))
  ahead_then (moved {f} {r} {g} {t} {p} {q} l s full one n is least ordered all_f all_r taken) =
      let few = leb-false 2 (count is_cleared (states ps)) one in
      rw (s, full, one)
      (omega (
        arith,
        l.order_is,
        ordered,
        many_parted c ch F G l,
        cleared_before c ch F G l is,
        cleared_now c ch F G l,
        all_cleared f g all_f,
        all_cleared r t all_r,
      ))

-- ---- the greatest wear bounds what wears add up to, and so the orders

sum_upto : (ps : List Page) → wears ps ≤ length ps * greatest_wear ps
unfolding wears sum greatest_wear greatest
sum_upto [] = omega (arith, zero-mul 0)
sum_upto (p ∷ ps) =
    let g = greatest_wear ps in
    let top = max (or_value p.wear 0) g in
    omega (arith, sum_upto ps, suc-mul (length ps) top, mul-le-mul_left {m = g} {n = top} (length ps) (omega arith))

-- of a store of so many pages, whose wears add up as they should
pub orders_left : (n k len : ℕ) (ps : List Page) → length ps ≡ n → n ≤ 32 → ahead ps ≡ (n - 1) + k * (n - 1) → wears ps ≡ n + k * (n - 1)
    → greatest_wear ps < 65535 → order_end len ps ≡ false
unfolding order_end
orders_left n k len ps many few grows adds below =
    let bound : length ps * greatest_wear ps ≤ 32 * 65534 =
    mul-le-mul {n₁ = length ps} {m₁ = greatest_wear ps} {n₂ = 32} {m₂ = 65534} (omega arith) (omega arith) in
    and_second (not (has_room len ps)) (ne_eqb (active_order (states ps)) order_limit (λ e. omega (arith, bound, sum_upto ps, grows, adds, e)))
