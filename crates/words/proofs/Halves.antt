-- A word by its two halves. Assumes nothing.
use Prim.Native.Nat.{ℕ, ◌≤◌}
use mathlib.Core.Path.{◌≡◌, refl}
use native.Mathlib.Omega.{arith}
use borrow.Author.Tests.{eq-eqb}
use Rattle.rules.specs.Word.{word, blank, second_blank, low16}

-- behind a first half of 65,535 it is blank if the second half is
pub blank_by_half : (a b c d : ℕ) → a ≤ 255 → b ≤ 255 → low16 (word a b c d) ≡ 65535 → blank (word a b c d) ≡ second_blank (word a b c d)
unfolding blank second_blank low16
blank_by_half a b c d l m e = rw (eq-eqb a 255 (omega arith), eq-eqb b 255 (omega arith)) refl
