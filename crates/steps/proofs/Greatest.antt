-- The greatest wear of the first pages of an image, of those that have one. Assumes nothing.
use Prim.Native.Nat.{ℕ, zero, suc, ◌+◌, ◌*◌, max}
use mathlib.Core.Path.{◌≡◌, refl, sym, ap, ◌∙◌}
use mathlib.Core.Option.{Option, none, some}
use mathlib.Core.List.{List, [], ◌∷◌}
use native.Mathlib.Omega.{arith}
use lib.ListN.{drop}
use lib.Seq.{drop-drop}
use Rattle.std.specs.Prelude.{Option as Optional, None, Some}
use Rattle.std.specs.List.{fold, filter_map, cons_option, range_with_len, reduce}
use Rattle.std.specs.Option.{unwrap_or, option_map}
use Rattle.rules.specs.Flash.{bytes_at}
use Rattle.rules.specs.Page.{Form, size}
use Rattle.rules.specs.Store.{or_value, greatest}
use Rattle.rules.specs.Steps.{greatest_wear}
use Rattle.rules.specs.Call.{first_pages, page_in, cut}
use Rattle.pages.specs.Read.{as_option}

-- the code's value of an option, or another, is that of the rules
pub value_or : (o : Optional ℕ) (n : ℕ) → unwrap_or o n ≡ or_value (as_option o) n
unfolding or_value
value_or None n = refl
value_or (Some m) n = refl

-- the option as the code has it
abbrev pub in_code : Option ℕ → Optional ℕ
in_code none = None
in_code (some n) = Some n

pub in_code_is : (o : Optional ℕ) {m : Option ℕ} → as_option o ≡ m → o ≡ in_code m
in_code_is None e = rw (← e)
in_code_is (Some n) e = rw (← e)

-- the greatest of a list is its maximum, or 0
fold_max : (n : ℕ) (ns : List ℕ) → fold max n ns ≡ max n (greatest ns)
unfolding greatest
fold_max n [] = omega arith
fold_max n (m ∷ ns) = fold_max (max n m) ns ∙ regroup n m (greatest ns)
  where
    regroup : (a b c : ℕ) → max (max a b) c ≡ max a (max b c)
    regroup a b c = omega arith

pub greatest_is : (o : Optional ℕ) (ns : List ℕ) → option_map (λ n. n) o ≡ reduce max ns → unwrap_or o 0 ≡ greatest ns
unfolding greatest
greatest_is None [] e = refl
greatest_is None (n ∷ ns) e = absurd (cc)
greatest_is (Some m) [] e = absurd (cc)
greatest_is (Some m) (n ∷ ns) e = let same : m ≡ fold max n ns = cc in same ∙ fold_max n ns

module _ (fm : Form) (i : List ℕ) where
  -- the wear of the page at an index, if it has one
  abbrev pub wear_at : ℕ → Optional ℕ
  wear_at k = in_code (page_in fm k i).wear

  one_more_wear : (o : Option ℕ) (ns : List ℕ) → greatest (cons_option (in_code o) ns) ≡ max (or_value o 0) (greatest ns)
  unfolding greatest or_value
  one_more_wear none ns = omega arith
  one_more_wear (some n) ns = refl

  greatest_from : (n k : ℕ) → greatest (filter_map wear_at (range_with_len k n)) ≡ greatest_wear (first_pages fm n (drop (k * size fm) i))
  unfolding greatest_wear greatest cut bytes_at
  greatest_from zero k = refl
  greatest_from (suc n) k =
      let next : k * size fm + size fm ≡ (k + 1) * size fm = omega arith in
      let past = drop-drop (size fm) (k * size fm) i ∙ ap (λ (o : ℕ). drop o i) next in
      one_more_wear (page_in fm k i).wear (filter_map wear_at (range_with_len (k + 1) n))
      ∙ ap (max (or_value (page_in fm k i).wear 0))
      (greatest_from n (k + 1) ∙ ap (λ (l : List ℕ). greatest_wear (first_pages fm n l)) (sym past))

  pub greatest_all : (n : ℕ) → greatest (filter_map wear_at (range_with_len 0 n)) ≡ greatest_wear (first_pages fm n i)
  greatest_all n = let e : 0 * size fm ≡ 0 = omega arith in greatest_from n 0 ∙ ap (λ (o : ℕ). greatest_wear (first_pages fm n (drop o i))) e
