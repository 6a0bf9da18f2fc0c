-- What a Bool test tells of its parts. Assumes nothing.
use mathlib.Core.Path.{◌≡◌, refl}
use mathlib.Core.Bool.{Bool, true, false, ◌&&◌, ◌||◌, true≢false}

pub and_left : (a b : Bool) → (a && b) ≡ true → a ≡ true
and_left true b h = refl
and_left false b h = h

pub and_right : (a b : Bool) → (a && b) ≡ true → b ≡ true
and_right true b h = h
and_right false b h = absurd (true≢false (cc))

pub and-true : (a : Bool) → (a && true) ≡ a
and-true true = refl
and-true false = refl

pub and_second : (a : Bool) {b : Bool} → b ≡ false → (a && b) ≡ false
and_second true h = h
and_second false h = refl

pub and_both : {a b : Bool} → a ≡ true → b ≡ true → (a && b) ≡ true
and_both {a} {b} p q = rw (p, q)

-- a test that is not true is false
pub is_false : (a : Bool) → (a ≡ true → ⊥) → a ≡ false
is_false true h = absurd (h refl)
is_false false h = refl

-- the two cases of a test, each with its equation
pub by_cases : {A : Type 0} (a : Bool) → (a ≡ true → A) → (a ≡ false → A) → A
by_cases true yes' no' = yes' refl
by_cases false yes' no' = no' refl

pub not_both : {A : Type 0} {a : Bool} → a ≡ true → a ≡ false → A
not_both p q = absurd (true≢false (cc))

pub or_first : {a : Bool} (b : Bool) → a ≡ true → (a || b) ≡ true
or_first b p = rw p

pub or_second : (a : Bool) {b : Bool} → b ≡ true → (a || b) ≡ true
or_second true p = refl
or_second false p = p

pub or_false_left : (a b : Bool) → (a || b) ≡ false → a ≡ false
or_false_left true b h = h
or_false_left false b h = refl

pub or_false_right : (a b : Bool) → (a || b) ≡ false → b ≡ false
or_false_right true b h = not_both refl h
or_false_right false b h = h
