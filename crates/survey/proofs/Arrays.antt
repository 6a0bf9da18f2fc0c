-- A list, one place after the other, and an array whose first places are written. Assumes nothing.
use Prim.Native.Nat.{ℕ, zero, suc, ◌+◌, ◌<◌}
use mathlib.Core.Path.{◌≡◌, refl, sym, ap, ◌∙◌}
use mathlib.Core.List.{List, [], ◌∷◌, ◌++◌, map, map-append}
use native.Mathlib.Omega.{arith}
use native.Mathlib.Numerals.{add-one}
use lib.ListN.{length, take, drop, get_or, set, length-map, get_or-map}
use lib.Seq.{take-suc, take_at}
use Rattle.std.proofs.lemmas.Slice.{drop-append-drop}

-- one more of a list
pub map_next : {A B : Type 0} (f : A → B) (xs : List A) (i : ℕ) (e : A) → i < length xs
    → map f (take (i + 1) xs) ≡ map f (take i xs) ++ (f (get_or xs i e) ∷ [])
map_next f xs i e h = rw (add-one, take-suc xs i e h) (map-append f (take i xs) (get_or xs i e ∷ []))

-- a list written over another one from the front, after one place more
over : {A : Type 0} (xs ys : List A) (i : ℕ) (e : A) → i < length xs → i < length ys
    → set (take i xs ++ drop i ys) i (get_or xs i e) ≡ take (suc i) xs ++ drop (suc i) ys
over [] ys i e h l = absurd (omega arith)
over (x ∷ xs) [] i e h l = absurd (omega arith)
over (x ∷ xs) (y ∷ ys) zero e h l = refl
over {A} (x ∷ xs) (y ∷ ys) (suc i) e h l = ap (λ (r : List A). x ∷ r) (over xs ys i e (omega arith) (omega arith))

-- the same of what two functions give of a list
pub map_over : {A B C : Type 0} (f : A → B) (g : B → C) (xs : List A) (ys : List C) (i : ℕ) (d : A) {zs : List C} {c : C}
    → zs ≡ take i (map g (map f xs)) ++ drop i ys → c ≡ g (f (get_or xs i d)) → i < length xs → i < length ys
    → set zs i c ≡ take (i + 1) (map g (map f xs)) ++ drop (i + 1) ys
map_over f g xs ys i d {zs} {c} so_far is h l =
    let e : c ≡ get_or (map g (map f xs)) i (g (f d)) = is ∙ ap g (sym (get_or-map f xs i d)) ∙ sym (get_or-map g (map f xs) i (f d)) in
    rw (so_far, e, add-one) (over (map g (map f xs)) ys i (g (f d)) (omega (arith, length-map xs f, length-map (map f xs) g)) l)

-- what stands in the places that were written, and behind them
module _ {A : Type 0} (xs ys : List A) {zs : List A} {n : ℕ} (e : zs ≡ xs ++ drop n ys) (l : length xs ≡ n) where
  pub front_is : take n zs ≡ xs
  front_is = ap (take n) e ∙ take_at xs (drop n ys) n l

  pub behind_is : drop n zs ≡ drop n ys
  behind_is = ap (drop n) e ∙ drop-append-drop n ys xs n (omega arith) l
