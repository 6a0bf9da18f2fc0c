-- What an accepted image holds. Assumes nothing.
use Prim.Native.Nat.{ℕ, ◌+◌, ◌≤◌}
use mathlib.Core.Path.{◌≡◌, sym, ap}
use mathlib.Core.Bool.{false, not}
use mathlib.Core.List.{List}
use mathlib.Core.Option.{Option}
use native.Mathlib.Omega.{arith}
use lib.ListN.{length}
use borrow.Author.Tests.{ltb-false, le-ltb}
use Rattle.rules.specs.Page.{Form, Page}
use Rattle.rules.specs.Store.{Rising, states, base, used_orders, Setting, setting, last_of, settings, journal, value, held, count}
use Rattle.rules.specs.Call.{pages, store_number, repeats, all_used, damaged, held_limit, is_held, is_new, new_in, no_room}
use Rattle.rules.proofs.Truth.{or_false_right}
use Rattle.rules.proofs.Settings.{is_missing, settings_rising, last_of_settings}
use Rattle.rules.proofs.Stores.{count_alike}
use Rattle.rules.proofs.Ready.{undamaged}

module _ (fm : Form) (i : List ℕ) where
  pub held_rising : Rising (settings (pages fm i))
  unfolding settings
  held_rising = settings_rising (journal (pages fm i))

  pub held_few : store_number fm i ≡ 0 → length (settings (pages fm i)) ≤ 192
  unfolding damaged held
  held_few ok =
      let d = undamaged fm i ok in
      let rest = or_false_right (repeats (used_orders (base (states (pages fm i))) (states (pages fm i)))) _ d in
      ltb-false held_limit (length (settings (pages fm i))) (or_false_right (all_used (states (pages fm i))) _ rest)

  pub value_is : (a : ℕ) → last_of a (settings (pages fm i)) ≡ value a (pages fm i)
  unfolding settings value
  value_is a = last_of_settings a (journal (pages fm i))

-- an address that is new is one that the table has not, so that with those that are new no more are held than may be
new_missing : (ps : List Page) (r : Setting) → is_new ps r ≡ is_missing (settings ps) r
unfolding is_new is_missing value settings
new_missing ps (setting a v) = ap (λ (o : Option ℕ). not (is_held o)) (sym (last_of_settings a (journal ps)))

pub new_many : (rs : List Setting) (ps : List Page) → count (is_new ps) rs ≡ count (is_missing (settings ps)) rs
new_many rs ps = count_alike (is_new ps) (is_missing (settings ps)) (new_missing ps) rs

pub room_for : (rs : List Setting) (ps : List Page) → no_room rs ps ≡ false → length (settings ps) + count (is_missing (settings ps)) rs ≤ held_limit
unfolding no_room held
room_for rs ps h =
    let l = ltb-false held_limit (length (settings ps) + count (is_new ps) rs) h in
    omega (arith, new_many rs ps)

pub room_enough : (rs : List Setting) (ps : List Page) → held ps + new_in rs ps ≤ held_limit → no_room rs ps ≡ false
unfolding no_room
room_enough rs ps l = le-ltb held_limit (held ps + new_in rs ps) l
