-- Whether there is room for new addresses, in the store and for their owner, by what the table tells. Assumes nothing.
use Prim.Native.Nat.{ℕ, ◌+◌, ◌-◌, ◌≤◌, ◌<◌}
use mathlib.Core.Path.{◌≡◌, refl, sym, ap₂, ◌∙◌}
use mathlib.Core.Bool.{Bool, true, false, not, ◌||◌}
use mathlib.Core.List.{List, [], ◌∷◌}
use native.Mathlib.Omega.{arith}
use lib.ListN.{length}
use lib.Dec.{ltb}
use borrow.Author.Tests.{eq-eqb, ne_eqb, lt-ltb}
use Rattle.rules.specs.Page.{Page}
use Rattle.rules.specs.Store.{Setting, address_of, settings, held, count}
use Rattle.rules.specs.Owner.{Owner, handset, timer, is_own, held_by}
use Rattle.rules.specs.Call.{held_limit, new_in, no_room, crowded}
use Rattle.rules.proofs.Truth.{by_cases, or_first}
use Rattle.rules.proofs.Stores.{count_alike}
use Rattle.rules.proofs.Held.{room_enough}
use Rattle.rules.proofs.Owners.{handset_owns}

-- ---- what each owner holds

-- those that pass a test and those that do not are all
both : {A : Type 0} (test : A → Bool) (xs : List A) → count test xs + count (λ x. not (test x)) xs ≡ length xs
unfolding count
both test [] = refl
both test (x ∷ xs) = let e = both test xs in by_cases (test x) (λ p. rw p (omega arith)) (λ p. rw p (omega arith))

-- the handset's are those below the timer's first address, and the others are the timer's
pub handsets : (t : List Setting) → count (λ s. ltb (address_of s) 32768) t ≡ count (is_own handset) t
handsets t = count_alike (λ s. ltb (address_of s) 32768) (is_own handset) (λ r. handset_owns (address_of r)) t

pub timers : (t : List Setting) → length t - count (λ s. ltb (address_of s) 32768) t ≡ count (is_own timer) t
timers t = omega (arith, handsets t, both (is_own handset) t)

pub handsets_few : (t : List Setting) → count (λ s. ltb (address_of s) 32768) t ≤ length t
handsets_few t = omega (arith, handsets t, both (is_own handset) t)

-- ---- the tests of NO ROOM, in the code's order

module _ (ps : List Page) (o : Owner) (rs : List Setting) {new : ℕ} (is : new ≡ new_in rs ps) where
  pub too_many : 192 < length (settings ps) + new → true ≡ (no_room rs ps || crowded o rs ps)
  unfolding no_room held
  too_many l = sym (or_first (crowded o rs ps) (lt-ltb held_limit (length (settings ps) + new_in rs ps) (omega arith)))

  module _ (l : length (settings ps) + new ≤ 192) where
    pub none_new : new ≡ 0 → false ≡ (no_room rs ps || crowded o rs ps)
    unfolding crowded held
    none_new z = let some_room = room_enough rs ps (omega arith) in rw (some_room, eq-eqb (new_in rs ps) 0 (sym is ∙ z))

    pub by_owner : (new ≡ 0 → ⊥) → {most own : ℕ} → most ≡ o.most → own ≡ count (is_own o) (settings ps)
        → ltb most (own + new) ≡ (no_room rs ps || crowded o rs ps)
    unfolding crowded held held_by
    by_owner ne m e =
        let some_room = room_enough rs ps (omega arith) in
        rw (some_room, ne_eqb (new_in rs ps) 0 (λ z. ne (is ∙ z))) (ap₂ ltb m (ap₂ ◌+◌ e is))
