-- What the two owners hold, and what a write leaves each of them. Assumes nothing.
use Prim.Native.Nat.{ℕ, ◌+◌, ◌≤◌}
use mathlib.Core.Path.{◌≡◌, refl, sym, ap, ap₂, ◌∙◌}
use mathlib.Core.Bool.{Bool, true, false, cond, not, ◌||◌}
use mathlib.Core.List.{List, [], ◌∷◌}
use mathlib.Core.Option.{none, some, some-injective}
use native.Mathlib.Omega.{arith}
use lib.ListN.{length}
use lib.Dec.{eqb, leb, ltb}
use borrow.Author.Tests.{eqb-true, eqb-false, leb-true, leb-false, ltb-false, le-leb, lt-leb, lt-ltb, le-ltb, not-false}
use Rattle.rules.specs.Page.{Page}
use Rattle.rules.specs.Store.{Setting, setting, or_else, last_of, put_all, journal, settings, held, value, count}
use Rattle.rules.specs.Owner.{Owner, handset, timer, anyone, named_owner, is_own, a_foreign, held_by}
use Rattle.rules.specs.Call.{new_in, no_room, crowded}
use Rattle.rules.proofs.Truth.{and_second, by_cases, not_both, or_false_left, or_false_right}
use Rattle.rules.proofs.Settings.{Rising, by_order, none_some, above_none, rising_none, last_of_first, last_of_rest, last_of_put_all}
use Rattle.rules.proofs.Settings.{put_all_rising, settings_rising, last_of_settings, all_pass, put_all_counts, put_all_passes_none}
use Rattle.rules.proofs.Held.{new_many}

-- ---- a rising table is fixed by its values

pub rising_same : (s t : List Setting) → Rising s → Rising t → ((x : ℕ) → last_of x s ≡ last_of x t) → s ≡ t
unfolding Rising last_of
rising_same [] [] p q e = refl
rising_same [] (setting b u ∷ t) p q e = none_some refl (e b ∙ last_of_first b b u t refl (above_none b b t (omega arith) q.0))
rising_same (setting a v ∷ s) [] p q e = none_some refl (sym (e a) ∙ last_of_first a a v s refl (above_none a a s (omega arith) p.0))
rising_same (setting a v ∷ s) (setting b u ∷ t) p q e =
    let here : last_of a (setting a v ∷ s) ≡ some v = last_of_first a a v s refl (above_none a a s (omega arith) p.0) in
    let there : last_of b (setting b u ∷ t) ≡ some u = last_of_first b b u t refl (above_none b b t (omega arith) q.0) in
    by_order a b (λ l. none_some (e a ∙ rising_none a b u t l q) here)
    (λ same.
    let v_is : v ≡ u = some-injective v u (sym here ∙ e a ∙ ap (λ (x : ℕ). last_of x (setting b u ∷ t)) same ∙ there) in
    ap₂ (λ (r : Setting) (rs : List Setting). r ∷ rs) (ap₂ setting same v_is)
    (rising_same s t p.1 q.1
    (λ x.
    by_cases (eqb x a)
    (λ y. let is = eqb-true x a y in above_none x a s (omega arith) p.0 ∙ sym (above_none x b t (omega arith) q.0))
    (λ y.
    let other = eqb-false x a y in
    sym (last_of_rest x a v s other) ∙ e x ∙ last_of_rest x b u t (λ z. other (z ∙ sym same))))))
    (λ l. none_some (sym (e b) ∙ rising_none b a v s l p) there)

-- ---- what a change of the values makes of what each holds

-- of pages whose values are those of others with these settings
module _ (rs : List Setting) (ps qs : List Page) (values : (x : ℕ) → value x qs ≡ or_else (last_of x rs) (value x ps)) where
  pub settings_after : settings qs ≡ put_all (settings ps) rs
  unfolding settings value
  settings_after =
      rising_same (settings qs) (put_all (settings ps) rs) (settings_rising (journal qs)) (put_all_rising (settings ps) rs (settings_rising (journal ps)))
      (λ x.
      last_of_settings x (journal qs) ∙ values x
      ∙ sym (last_of_put_all x (settings ps) rs (settings_rising (journal ps)) ∙ ap (or_else (last_of x rs)) (last_of_settings x (journal ps))))

  -- an owner holds at most those more that are new
  pub held_with_new : (o : Owner) → held_by o qs ≤ held_by o ps + new_in rs ps
  unfolding held_by settings
  held_with_new o =
      omega (arith, ap (count (is_own o)) settings_after, put_all_counts o.owns (settings ps) rs (settings_rising (journal ps)), new_many rs ps)

  -- and if none of them is its own, no more
  pub held_without : (o : Owner) → count (is_own o) rs ≡ 0 → held_by o qs ≤ held_by o ps
  unfolding held_by settings
  held_without o z =
      omega (arith, ap (count (is_own o)) settings_after, put_all_passes_none o.owns (settings ps) rs (settings_rising (journal ps)) z)

-- of pages that have the same values
pub held_same : (ps qs : List Page) → ((x : ℕ) → value x qs ≡ value x ps) → (o : Owner) → held_by o qs ≤ held_by o ps
unfolding or_else last_of count
held_same ps qs values o = held_without [] ps qs values o refl

-- ---- of the two

pub each_128 : (m : Bool) → (named_owner m).most ≡ 128
each_128 true = refl
each_128 false = refl

-- by the border, as the code asks for it
pub timer_owns : (a : ℕ) → leb 32768 a ≡ (named_owner true).owns a
timer_owns a =
    by_cases (leb a 32767) (λ e. rw e (lt-leb 32768 a (omega (arith, leb-true a 32767 e))))
    (λ e. rw e (le-leb 32768 a (omega (arith, leb-false a 32767 e))))

pub handset_owns : (a : ℕ) → ltb a 32768 ≡ (named_owner false).owns a
handset_owns a =
    by_cases (leb a 32767) (λ e. rw e (lt-ltb a 32768 (omega (arith, leb-true a 32767 e))))
    (λ e. rw e (le-ltb a 32768 (omega (arith, leb-false a 32767 e))))

pub of_both : (P : Bool → Type 0) (m : Bool) → P m → P (not m) → (b : Bool) → P b
of_both P true p q true = p
of_both P true p q false = q
of_both P false p q true = q
of_both P false p q false = p

-- what one owns is not the other's
other_owns : (m : Bool) (a : ℕ) → (named_owner m).owns a ≡ true → (named_owner (not m)).owns a ≡ false
other_owns true a h = by_cases (leb a 32767) (λ e. not_both h (rw e)) (λ e. e)
other_owns false a h = rw h

pub others_none : (m : Bool) (rs : List Setting) → a_foreign (named_owner m) rs ≡ false → count (is_own (named_owner (not m))) rs ≡ 0
unfolding a_foreign count
others_none m [] h = refl
others_none m (setting a v ∷ rs) h =
    let own = not-false ((named_owner m).owns a) (or_false_left (not ((named_owner m).owns a)) _ h) in
    let rest = others_none m rs (or_false_right (not ((named_owner m).owns a)) _ h) in
    rw (other_owns m a own) (omega arith)

-- what a list with none of an owner's has of its addresses
pub foreign_last : (o : Owner) (rs : List Setting) → count (is_own o) rs ≡ 0 → (x : ℕ) → o.owns x ≡ true → last_of x rs ≡ none
unfolding count last_of
foreign_last o [] z x own = refl
foreign_last o (setting a v ∷ rs) z x own =
    by_cases (o.owns a)
    (λ p. let one : ◌≡◌ {A = ℕ} (cond (o.owns a) 1 0) 1 = rw p in absurd (omega arith))
    (λ p. last_of_rest x a v rs (λ e. not_both own (ap o.owns e ∙ p)) ∙ foreign_last o rs (omega arith) x own)

-- together they hold all
both_count : (t : List Setting) → count (is_own handset) t + count (is_own timer) t ≡ length t
unfolding count
both_count [] = refl
both_count (setting a v ∷ t) =
    by_cases (leb a 32767)
    (λ p. rw p (omega (arith, both_count t)))
    (λ p. rw p (omega (arith, both_count t)))

pub both_hold : (m : Bool) (ps : List Page) → held_by (named_owner m) ps + held_by (named_owner (not m)) ps ≡ held ps
unfolding held_by held
both_hold true ps = omega (arith, both_count (settings ps))
both_hold false ps = both_count (settings ps)

-- what anyone holds is all that is held, so that its limit is the store's
pub anyone_as_before : (rs : List Setting) (ps : List Page) → (no_room rs ps || crowded anyone rs ps) ≡ no_room rs ps
unfolding no_room crowded held_by held
anyone_as_before rs ps =
    by_cases (ltb 192 (length (settings ps) + new_in rs ps)) (λ e. rw e)
    (λ e. rw (e, all_pass (settings ps), e) (and_second (not (eqb (new_in rs ps) 0)) refl))

pub none_foreign : (rs : List Setting) → a_foreign anyone rs ≡ false
unfolding a_foreign
none_foreign [] = refl
none_foreign (r ∷ rs) = none_foreign rs

-- ---- a write that was not told NO ROOM for its owner's sake

pub not_crowded : (o : Owner) (rs : List Setting) (ps : List Page) → held_by o ps ≤ o.most → crowded o rs ps ≡ false → held_by o ps + new_in rs ps ≤ o.most
unfolding crowded
not_crowded o rs ps few h =
    by_cases (eqb (new_in rs ps) 0) (λ z. omega (arith, eqb-true (new_in rs ps) 0 z))
    (λ z. ltb-false o.most (held_by o ps + new_in rs ps) (rw z at h))

pub uncrowded : (o : Owner) (rs : List Setting) (ps : List Page) → held_by o ps + new_in rs ps ≤ o.most → crowded o rs ps ≡ false
unfolding crowded
uncrowded o rs ps l = and_second (not (eqb (new_in rs ps) 0)) (le-ltb o.most (held_by o ps + new_in rs ps) l)
