-- The pairing that four digits are, as C has it. Assumes nothing.
use Prim.Native.Nat.{ℕ}
use mathlib.Core.Path.{◌≡◌, refl}
use mathlib.Core.Bool.{Bool, true, false, ◌&&◌}
use mathlib.Core.List.{List, [], ◌∷◌, map}
use mathlib.Core.Option.{Option as Optional}
use native.Mathlib.Omega.{arith}
use lib.ListN.{length, get_or}
use Rattle.std.specs.Prelude.{Option, None, Some}
use Rattle.std.specs.Option.{is_some, unwrap_or}
use Rattle.rules.specs.Call.{OK, is_held, all_held, blank_value, pairing}
use Rattle.rules.specs.Store.{or_value}
use Rattle.settings.specs.Held.{as_option}

told : (o : Option ℕ) → is_some o ≡ is_held (as_option o)
unfolding is_held
told None = refl
told (Some v) = refl

valued : (o : Option ℕ) → unwrap_or o 0 ≡ blank_value (as_option o)
unfolding blank_value or_value
valued None = refl
valued (Some v) = refl

all_four : (a b c d : Optional ℕ) → all_held (a ∷ b ∷ c ∷ d ∷ []) ≡ (((is_held a && is_held b) && is_held c) && is_held d)
unfolding all_held
all_four a b c d = four (is_held a) (is_held b) (is_held c) (is_held d)
  where
    four : (p q r s : Bool) → (p && (q && (r && (s && true)))) ≡ (((p && q) && r) && s)
    four true true true true = refl
    four true true true false = refl
    four true true false s = refl
    four true false r s = refl
    four false q r s = refl

abbrev digit : List (Option ℕ) → ℕ → Option ℕ
digit os k = get_or os k None

-- four tests and four values of a code of four
pub paired_is : (os : List (Option ℕ)) → length os ≡ 4 →
    record {
      number = OK;
      paired = is_some (digit os 0) && is_some (digit os 1) && is_some (digit os 2) && is_some (digit os 3);
      digits = unwrap_or (digit os 0) 0 ∷ unwrap_or (digit os 1) 0 ∷ unwrap_or (digit os 2) 0 ∷ unwrap_or (digit os 3) 0 ∷ [];
    } ≡ pairing (map as_option os)
unfolding pairing
paired_is [] h = absurd (omega arith)
paired_is (a ∷ []) h = absurd (omega arith)
paired_is (a ∷ b ∷ []) h = absurd (omega arith)
paired_is (a ∷ b ∷ c ∷ []) h = absurd (omega arith)
paired_is (a ∷ b ∷ c ∷ d ∷ []) h =
    rw (told a, told b, told c, told d, valued a, valued b, valued c, valued d, all_four (as_option a) (as_option b) (as_option c) (as_option d)) refl
paired_is (a ∷ b ∷ c ∷ d ∷ e ∷ os) h = absurd (omega arith)
