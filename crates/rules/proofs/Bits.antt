-- Bits that only rise, and the zero count: each law over the width, by one induction. Assumes nothing.
use Prim.Native.Nat.{ℕ, zero, suc, ◌+◌, ◌-◌, ◌*◌, ◌/◌, ◌%◌, ◌^◌, ◌≤◌, ◌<◌}
use mathlib.Core.Path.{◌≡◌, refl}
use native.Mathlib.Nat.{pow-suc, zero-add, suc-add, add_assoc, mul_comm, div-one, div-div-eq-div-mul}
use lib.Arith.{mod-mul}
use lib.Pow.{pow_pos}
use native.Mathlib.Omega.{arith}
use Rattle.rules.specs.Flash.{Rises}
use Rattle.rules.specs.Word.{zeros}

-- a number is its lowest bit and its half
halves : (a b : ℕ) → a % 2 ≡ b % 2 → a / 2 ≡ b / 2 → a ≡ b
halves a b p q = omega arith

halves_le : (a b : ℕ) → a % 2 ≤ b % 2 → a / 2 ≤ b / 2 → a ≤ b
halves_le a b p q = omega arith

pub rises_refl : (k a : ℕ) → Rises k a a
unfolding Rises
rises_refl zero a = refl
rises_refl (suc k) a = (omega arith, rises_refl k (a / 2))

-- what rises does not fall
pub rises_le : (k a b : ℕ) → Rises k a b → a ≤ b
unfolding Rises
rises_le zero a b p = omega arith
rises_le (suc k) a b p = halves_le a b p.0 (rises_le k (a / 2) (b / 2) p.1)

-- there are at most as many zeros as bits
pub zeros_bound : (k a : ℕ) → zeros k a ≤ k
unfolding zeros
zeros_bound zero a = omega arith
zeros_bound (suc k) a = let h = zeros_bound k (a / 2) in omega arith

-- the zeros of m + n bits are those of the lowest m and those of the n above them
pub zeros_parted : (m n b : ℕ) → zeros (m + n) b ≡ zeros m (b % 2 ^ m) + zeros n (b / 2 ^ m)
unfolding zeros
zeros_parted zero n b = simp (zero-add, div-one)
zeros_parted (suc m) n b =
    let low : b % 2 ^ suc m ≡ b / 2 % 2 ^ m * 2 + b % 2 = rw (pow-suc 2 m) (mod-mul b (pow_pos m) (omega arith)) in
    let high : b / 2 ^ suc m ≡ b / 2 / 2 ^ m = rw (pow-suc 2 m, mul_comm (2 ^ m) 2, div-div-eq-div-mul b 2 (2 ^ m)) in
    let bit : b % 2 ^ suc m % 2 ≡ b % 2 = omega arith in
    let rest : b % 2 ^ suc m / 2 ≡ b / 2 % 2 ^ m = omega arith in
    rw (suc-add m n, bit, rest, high, zeros_parted m n (b / 2), add_assoc)

-- where bits rise, zeros go
pub zeros_fall : (k a b : ℕ) → Rises k a b → zeros k b ≤ zeros k a
unfolding Rises zeros
zeros_fall zero a b p = omega arith
zeros_fall (suc k) a b p = let h = zeros_fall k (a / 2) (b / 2) p.1 in let l : a % 2 ≤ b % 2 = p.0 in omega arith

-- where none goes, no bit has risen
pub zeros_stay : (k a b : ℕ) → Rises k a b → zeros k a ≤ zeros k b → a ≡ b
unfolding Rises zeros
zeros_stay zero a b p e = p
zeros_stay (suc k) a b p e =
    let h = zeros_fall k (a / 2) (b / 2) p.1 in
    let l : a % 2 ≤ b % 2 = p.0 in
    halves a b (omega arith) (zeros_stay k (a / 2) (b / 2) p.1 (omega arith))

-- within the width every number rises to the one with all bits set
pub rises_top : (k a : ℕ) → a < 2 ^ k → Rises k a (2 ^ k - 1)
unfolding Rises
rises_top zero a h = omega arith
rises_top (suc k) a h =
    let e : 2 ^ suc k ≡ 2 ^ k * 2 = pow-suc 2 k in
    let pos : 0 < 2 ^ k = pow_pos k in
    let half : (2 ^ suc k - 1) / 2 ≡ 2 ^ k - 1 = omega arith in
    (omega arith, rw half (rises_top k (a / 2) (omega arith)))
