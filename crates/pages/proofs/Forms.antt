-- Where a page begins, and the part of an image that it is: the one place in which a page's index meets its size. Assumes nothing.
use Prim.Native.Nat.{ℕ, ◌+◌, ◌-◌, ◌*◌, ◌≤◌}
use mathlib.Core.Path.{◌≡◌, ap₂, ◌∙◌}
use mathlib.Core.List.{List}
use native.Mathlib.Nat.{mul-le-mul}
use native.Mathlib.Omega.{arith}
use lib.ListN.{take, drop}
use Rattle.rules.specs.Flash.{bytes_at}
use Rattle.rules.specs.Page.{Form, size}

-- the code is for at most 32 pages of at most 2,048 bytes
pub start_small : (f : Form) (p : ℕ) → p ≤ 32 → f.slot_count ≤ 509 → p * size f ≤ 65536
start_small f p h l = mul-le-mul h (let w : size f ≤ 2048 = omega arith in w)

-- the part that the code lends, from an offset and of a size that were computed, is the page
pub part_is : (f : Form) (p : ℕ) (i : List ℕ) (start n : ℕ) → start ≡ p * size f → n ≡ size f
    → take (start + n - start) (drop start i) ≡ bytes_at (p * size f) (size f) i
unfolding bytes_at
part_is f p i start n e g =
    let h : start + n - start ≡ n = omega arith in
    ap₂ (λ (m o : ℕ). take m (drop o i)) (h ∙ g) e
