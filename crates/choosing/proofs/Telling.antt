-- What the bytes and the table tell of a change, test by test. Assumes nothing.
use Prim.Native.Nat.{ℕ, ◌+◌, ◌*◌, ◌/◌, ◌%◌, ◌≤◌, ◌<◌}
use mathlib.Core.Path.{◌≡◌, refl, sym, ap, ◌∙◌}
use mathlib.Core.Bool.{Bool, true, false, not, ◌&&◌}
use mathlib.Core.List.{List, [], ◌∷◌, ◌++◌, map}
use mathlib.Core.Option.{Option, none, some}
use native.Mathlib.Omega.{arith}
use lib.ListN.{length, take}
use borrow.Author.Tests.{eq-eqb, ne_eqb, le-leb, lt-leb, lt-ltb, le-ltb}
use Rattle.rules.specs.Word.{has_groups}
use Rattle.rules.specs.Page.{Page}
use Rattle.rules.specs.Store.{Setting, setting, address_of, settings, journal, last_of, value, count}
use Rattle.rules.specs.Steps.{is_value, all_values}
use Rattle.rules.specs.Call.{repeats, wrong_group, is_held, is_new, triples, group_of}
use Rattle.changes.specs.Entries.{byte_address, byte_value}
use Rattle.rules.proofs.Truth.{or_second}
use Rattle.rules.proofs.Stores.{count_append}
use Rattle.rules.proofs.Settings.{last_of_settings}
use Rattle.changes.proofs.Entries.{entry, next_entry, length_triples}
use Rattle.choosing.specs.declared.Known.{Known}
use Rattle.choosing.specs.Known.{Adds, Knows}

-- ---- the tests of a group

module _ (e : ℕ) (s : List ℕ) where
  abbrev rs : List Setting
  rs = triples s

  pub no_groups : e < 2 → wrong_group e (group_of s) ≡ true
  unfolding wrong_group group_of has_groups
  no_groups l = rw (lt-leb 2 e l)

  pub cut_short : (length s % 3 ≡ 0 → ⊥) → wrong_group e (group_of s) ≡ true
  unfolding wrong_group group_of
  cut_short n = rw (ne_eqb (length s % 3) 0 n) (or_second (not (has_groups e)) refl)

  module _ (three : length s % 3 ≡ 0) where
    pub too_few : length s / 3 < 1 → wrong_group e (group_of s) ≡ true
    unfolding wrong_group group_of
    too_few l =
        rw (eq-eqb (length s % 3) 0 three, eq-eqb (length rs) 0 (omega (arith, length_triples s))) (or_second (not (has_groups e)) refl)

    pub too_many : 8 < length s / 3 → wrong_group e (group_of s) ≡ true
    unfolding wrong_group group_of
    too_many l =
        let t = length_triples s in
        rw (eq-eqb (length s % 3) 0 three, ne_eqb (length rs) 0 (λ z. omega arith), lt-ltb 8 (length rs) (omega arith)) (or_second (not (has_groups e)) refl)

    pub by_repeats : 2 ≤ e → 1 ≤ length s / 3 → length s / 3 ≤ 8 → repeats (map address_of rs) ≡ wrong_group e (group_of s)
    unfolding wrong_group group_of has_groups
    by_repeats has m l =
        let t = length_triples s in
        rw (le-leb 2 e has, eq-eqb (length s % 3) 0 three, ne_eqb (length rs) 0 (λ z. omega arith), le-ltb 8 (length rs) (omega arith))

-- what each test of the bytes tells
pub ruleset group_tests = (no_groups, cut_short, too_few, too_many, by_repeats)

-- ---- the settings passed

all_more : (rs : List Setting) (a v : ℕ) (ps : List Page) → all_values (rs ++ (setting a v ∷ [])) ps ≡ (is_value (value a ps) v && all_values rs ps)
unfolding all_values
all_more [] a v ps = refl
all_more (setting b u ∷ rs) a v ps =
    ap (λ (t : Bool). is_value (value b ps) u && t) (all_more rs a v ps) ∙ swapped (is_value (value b ps) u) (is_value (value a ps) v) (all_values rs ps)
  where
    swapped : (x y z : Bool) → (x && (y && z)) ≡ (y && (x && z))
    swapped true true z = refl
    swapped true false z = refl
    swapped false true z = refl
    swapped false false z = refl

-- a table of the settings of a store finds what it holds
pub found_value : (ps : List Page) {t : List Setting} (a : ℕ) → t ≡ settings ps → last_of a t ≡ value a ps
unfolding settings value
found_value ps a e = ap (last_of a) e ∙ last_of_settings a (journal ps)

module _ (s : List ℕ) (k : ℕ) (l : 3 * k + 3 ≤ length s) where
  pub knows_more : (ps : List Page) (x y : Known) {found : Option ℕ} {v : ℕ} → found ≡ value (byte_address s k) ps → v ≡ byte_value s k → Adds found v x y
      → Knows ps (take k (triples s)) x → Knows ps (take (k + 1) (triples s)) y
  unfolding is_new count
  knows_more ps x y f e d known =
      let rs = take k (triples s) in
      let last = entry s k ∷ [] in
      record {
        new =
            d.new ∙ rw (f, known.new, next_entry s k l) (let c = count_append (is_new ps) rs last in omega arith);
        same = d.same ∙ rw (f, e, known.same, next_entry s k l) (sym (all_more rs (byte_address s k) (byte_value s k) ps));
      }

pub knows_none : (s : List ℕ) (ps : List Page) → Knows ps (take 0 (triples s)) (record { new = 0; same = true })
unfolding all_values count
knows_none s ps = record { new = refl; same = refl }

pub new_few : (found : Option ℕ) {value : ℕ} {before after : Known} → Adds found value before after → after.new ≤ before.new + 1
unfolding is_held
new_few none d = omega (arith, d.new)
new_few (some u) d = omega (arith, d.new)
