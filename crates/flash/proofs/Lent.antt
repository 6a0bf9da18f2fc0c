-- What a caller knows of a list when a part of it, lent to `program` or `erase`, is back: what the part became is written in
-- the whole at the part's offset. `mid_of o k xs` is the part of k elements from o on, `put_mid o k xs ys` the list with ys in
-- its place; `&mut xs[o..]` has the k of `length xs - o`, and `&mut xs[o..e]` that of `e - o`. Assumes nothing.
use Prim.Native.Nat.{ℕ, ◌+◌, ◌-◌, ◌≤◌}
use mathlib.Core.Path.{◌≡◌, sym, ap, ◌∙◌}
use mathlib.Core.List.{List, [], ◌∷◌, ◌++◌, append_assoc}
use native.Mathlib.Nat.{zero-add}
use native.Mathlib.Omega.{arith}
use lib.ListN.{length, take, drop, replicate, take-append-drop, length-take, length-drop, length-replicate}
use lib.Seq.{sets, sets-eq, drop-append-le, drop-drop, take-take, length-take-le}
use borrow.Rule.Slice.PartMut.{mid_of, put_mid}

module _ {A : Type 0} where
  -- what is left of the part behind n of its elements, with what lies after the part
  behind : (n k : ℕ) (ys : List A) → n ≤ k → k ≤ length ys → drop n (take k ys) ++ drop k ys ≡ drop n ys
  behind n k ys h g =
      let l : n ≤ length (take k ys) = omega (arith, length-take-le k ys g) in
      sym (drop-append-le n (take k ys) (drop k ys) l) ∙ ap (λ (zs : List A). drop n zs) (take-append-drop k ys)

  -- stores at the start of the part are stores at its offset
  pub lent_sets : (o k : ℕ) (xs vs : List A) → length vs ≤ k → o + k ≤ length xs → put_mid o k xs (sets (mid_of o k xs) 0 vs) ≡ sets xs o vs
  lent_sets o k xs vs h g =
      let fits : k ≤ length (drop o xs) = omega (arith, length-drop o xs) in
      let room : 0 + length vs ≤ length (mid_of o k xs) = omega (arith, length-take-le k (drop o xs) fits) in
      let part : sets (mid_of o k xs) 0 vs ≡ vs ++ drop (length vs) (mid_of o k xs) = sets-eq vs (mid_of o k xs) 0 room ∙ rw zero-add in
      let left = behind (length vs) k (drop o xs) h fits ∙ drop-drop (length vs) o xs in
      ap (λ (zs : List A). take o xs ++ (zs ++ drop k (drop o xs))) part
      ∙ ap (λ (zs : List A). take o xs ++ zs) (append_assoc vs (drop (length vs) (mid_of o k xs)) (drop k (drop o xs)) ∙ ap (λ (zs : List A). vs ++ zs) left)
      ∙ sym (append_assoc (take o xs) vs (drop (o + length vs) xs))
      ∙ sym (sets-eq vs xs o (omega arith))

  -- a part that was replaced as a whole is a run of stores at its offset
  pub lent_whole : (o k : ℕ) (xs vs : List A) → length vs ≡ k → o + k ≤ length xs → put_mid o k xs vs ≡ sets xs o vs
  lent_whole o k xs vs h g =
      let after : drop k (drop o xs) ≡ drop (o + length vs) xs = drop-drop k o xs ∙ ap (λ (n : ℕ). drop (o + n) xs) (sym h) in
      ap (λ (zs : List A). take o xs ++ (vs ++ zs)) after ∙ sym (append_assoc (take o xs) vs (drop (o + length vs) xs)) ∙ sym (sets-eq vs xs o (omega arith))

-- ---- for a caller of `program`

-- what begins with two bytes is that long, also past an offset
pub two_long : (xs : List ℕ) (a b : ℕ) → take 2 xs ≡ a ∷ b ∷ [] → 2 ≤ length xs
two_long xs a b h = let e : length (take 2 xs) ≡ 2 = ap (λ (zs : List ℕ). length zs) h in omega (arith, length-take 2 xs)

pub two_past : (o : ℕ) (xs : List ℕ) (a b : ℕ) → take 2 (drop o xs) ≡ a ∷ b ∷ [] → o + 2 ≤ length xs
two_past o xs a b h = omega (arith, two_long (drop o xs) a b h, length-drop o xs)

-- what `program` requires of the part, from what the caller knows of the image
pub may_program : (o k : ℕ) (xs : List ℕ) (a b : ℕ) → 2 ≤ k → take 2 (drop o xs) ≡ a ∷ b ∷ [] → take 2 (mid_of o k xs) ≡ a ∷ b ∷ []
may_program o k xs a b h e = take-take 2 k (drop o xs) h ∙ e

-- what `program` ensures of the part, said of the image
pub programmed : (o k : ℕ) (xs ys : List ℕ) (low high : ℕ) → 2 ≤ k → o + k ≤ length xs → ys ≡ sets (mid_of o k xs) 0 (low ∷ high ∷ [])
    → put_mid o k xs ys ≡ sets xs o (low ∷ high ∷ [])
programmed o k xs ys low high h g e = ap (λ (zs : List ℕ). put_mid o k xs zs) e ∙ lent_sets o k xs (low ∷ high ∷ []) h g

-- the same of `&mut xs[o..]`
pub may_program_rest : (o : ℕ) (xs : List ℕ) (a b : ℕ) → take 2 (drop o xs) ≡ a ∷ b ∷ [] → take 2 (mid_of o (length xs - o) xs) ≡ a ∷ b ∷ []
may_program_rest o xs a b e = may_program o (length xs - o) xs a b (omega (arith, two_past o xs a b e)) e

pub programmed_rest : (o : ℕ) (xs ys : List ℕ) (low high : ℕ) → o + 2 ≤ length xs → ys ≡ sets (mid_of o (length xs - o) xs) 0 (low ∷ high ∷ [])
    → put_mid o (length xs - o) xs ys ≡ sets xs o (low ∷ high ∷ [])
programmed_rest o xs ys low high h e = programmed o (length xs - o) xs ys low high (omega arith) (omega arith) e

-- ---- for a caller of `erase`

-- what `erase` ensures of the part, said of the image
pub erased : (o k : ℕ) (xs ys : List ℕ) → o + k ≤ length xs → ys ≡ replicate (length (mid_of o k xs)) 255 → put_mid o k xs ys ≡ sets xs o (replicate k 255)
erased o k xs ys g e =
    let fits : k ≤ length (drop o xs) = omega (arith, length-drop o xs) in
    let whole : ys ≡ replicate k 255 = e ∙ ap (λ (n : ℕ). replicate n 255) (length-take-le k (drop o xs) fits) in
    ap (λ (zs : List ℕ). put_mid o k xs zs) whole ∙ lent_whole o k xs (replicate k 255) (length-replicate k 255) g

-- the same of `&mut xs[o..o + n]`
pub erased_sized : (o n : ℕ) (xs ys : List ℕ) → o + n ≤ length xs → ys ≡ replicate (length (mid_of o (o + n - o) xs)) 255
    → put_mid o (o + n - o) xs ys ≡ sets xs o (replicate n 255)
erased_sized o n xs ys g e =
    let size : o + n - o ≡ n = omega arith in
    erased o (o + n - o) xs ys (omega arith) e ∙ ap (λ (k : ℕ). sets xs o (replicate k 255)) size
