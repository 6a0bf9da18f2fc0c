-- The table of sixteen: the 0 bits of a half of a byte, and of a byte by its halves. Assumes nothing.
use Prim.Native.Nat.{ℕ, zero, suc, ◌+◌, ◌/◌, ◌%◌, ◌≤◌, ◌<◌}
use mathlib.Core.Path.{◌≡◌, ap, ◌∙◌}
use mathlib.Core.List.{List, [], ◌∷◌}
use native.Mathlib.Nat.{zero-add, suc-add, add-suc, add-zero, add_comm}
use native.Mathlib.Omega.{arith}
use lib.ListN.{get_or}
use Rattle.rules.proofs.Bits.{zeros_bound, zeros_parted}
use Rattle.rules.specs.Word.{zeros}

-- what `f` gives of n numbers, from i on
unfoldable listed : (f : ℕ → ℕ) (i n : ℕ) → List ℕ
listed f i zero = []
listed f i (suc n) = f i ∷ listed f (suc i) n

listed_at : (f : ℕ → ℕ) (i n k : ℕ) → k < n → get_or (listed f i n) k 0 ≡ f (i + k)
unfolding listed
listed_at f i zero k h = absurd (omega arith)
listed_at f i (suc n) zero h = rw (add-zero i)
listed_at f i (suc n) (suc k) h = rw (add-suc i k, ← suc-add i k) (listed_at f (suc i) n k (omega arith))

-- the table as the code has it
unfoldable pub table : List ℕ
table = 4 ∷ 3 ∷ 3 ∷ 2 ∷ 3 ∷ 2 ∷ 2 ∷ 1 ∷ 3 ∷ 2 ∷ 2 ∷ 1 ∷ 2 ∷ 1 ∷ 1 ∷ 0 ∷ []

-- The rule of the table: each place has the zero count of its index, of four bits.
rule : (k : ℕ) → k < 16 → get_or table k 0 ≡ zeros 4 k
unfolding table listed zeros
rule k h = listed_at (zeros 4) 0 16 k h ∙ ap (zeros 4) (zero-add k)

-- the 0 bits of a byte by two looks
unfoldable pub by_table : ℕ → ℕ
by_table b = get_or table (b / 16) 0 + get_or table (b % 16) 0

-- The two looks are the zero count of the byte, and so at most 8.
pub two_looks : (b : ℕ) → b < 256 → (by_table b ≡ zeros 8 b) × (by_table b ≤ 8)
unfolding by_table
two_looks b h =
    let sum : by_table b ≡ zeros 8 b = rw (rule (b / 16) (omega arith), rule (b % 16) (omega arith), zeros_parted 4 4 b, add_comm (zeros 4 (b / 16))) in
    (sum, omega (arith, sum, zeros_bound 8 b))
