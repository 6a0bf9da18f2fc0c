-- The digits that the rules name are those that the library writes. Assumes nothing.
use Prim.Native.Nat.{ℕ, ◌<◌}
use mathlib.Core.Path.{◌≡◌}
use native.Mathlib.Omega.{arith}
use borrow.Author.Tests.{lt-ltb, le-ltb}
use Rattle.std.specs.Fmt.{decimal as digits_of}
use Rattle.std.proofs.lemmas.Fmt.{AppendsLastDigit, decimal_from_appends, length-decimal-le}
use Rattle.rules.specs.Listing.{decimal_in, decimal}

last_digit_last : AppendsLastDigit decimal_in
unfolding decimal_in
last_digit_last =
    record {
      one = λ k n l. rw (lt-ltb n 10 l);
      more = λ k n l. rw (le-ltb n 10 l);
    }

-- a number of at most eight digits
pub decimal_is : (n : ℕ) → n < 100000000 → decimal n ≡ digits_of n
unfolding decimal
decimal_is n l = decimal_from_appends decimal_in last_digit_last 8 n (omega arith) (length-decimal-le 8 n (omega arith) l (omega arith))
