-- The order of the tests: a call answers OK exactly if every test of its table fails. Assumes nothing.
use Prim.Native.Nat.{ℕ, zero, suc}
use mathlib.Core.Path.{◌≡◌, refl, sym}
use mathlib.Core.Bool.{Bool, true, false, not, ◌&&◌, ◌||◌, true≢false}
use mathlib.Core.List.{List, [], ◌∷◌, ◌++◌}
use mathlib.Core.Option.{Option}
use native.Mathlib.Omega.{arith}
use lib.ListN.{length}
use lib.Dec.{eqb}
use borrow.Author.Tests.{eq-eqb}
use Rattle.rules.specs.Page.{Form}
use Rattle.rules.specs.Store.{value}
use Rattle.rules.specs.Steps.{Change, settings_of, words_of, all_values}
use Rattle.rules.specs.Owner.{Owner, a_foreign}
use Rattle.rules.specs.Call.{Row, row, first_of, pages, wrong_size, no_store, damaged, is_unclean, wrong_group, wrong_address, a_wrong_address}
use Rattle.rules.specs.Call.{is_held, no_room, crowded}
use Rattle.rules.specs.Call.{order_end, store_rows, store_number, blank_read_rows, blank_read_number, read_rows, read_number, write_only_rows}
use Rattle.rules.specs.Call.{write_rows, write_number, OK, ADDRESS, OWNER, NO_ROOM, ORDER_END, NOT_HELD}
use Rattle.rules.proofs.Truth.{and_both, not_both, or_first, or_false_left, or_false_right}

-- every test fails, up to a row of OK whose test holds
unfoldable pub AllFail : List Row → Type 0
AllFail [] = Unit {0}
AllFail (row zero t ∷ rows) = t ≡ false → AllFail rows
AllFail (row (suc n) t ∷ rows) = (t ≡ false) × AllFail rows

pub all_fail : (rows : List Row) → first_of rows ≡ OK → AllFail rows
unfolding first_of AllFail
all_fail [] e = tt
all_fail (row zero true ∷ rows) e = λ f. absurd (true≢false f)
all_fail (row zero false ∷ rows) e = λ f. all_fail rows e
all_fail (row (suc n) true ∷ rows) e = absurd (let z : suc n ≡ 0 = e in omega arith)
all_fail (row (suc n) false ∷ rows) e = (refl, all_fail rows e)

pub none_given : (rows : List Row) → AllFail rows → first_of rows ≡ OK
unfolding first_of AllFail
none_given [] h = refl
none_given (row zero true ∷ rows) h = refl
none_given (row zero false ∷ rows) h = none_given rows (h refl)
none_given (row (suc n) t ∷ rows) h = rw h.0 (none_given rows h.1)

-- a number that is not OK and of no row whose test holds is not given
unfoldable pub may_give : (number : ℕ) → List Row → Bool
may_give number [] = eqb number OK
may_give number (row n t ∷ rows) = (eqb number n && t) || may_give number rows

pub not_given : (number : ℕ) (rows : List Row) → may_give number rows ≡ false → first_of rows ≡ number → ⊥
unfolding may_give first_of
not_given number [] h e = not_both (eq-eqb number OK (sym e)) h
not_given number (row n true ∷ rows) h e =
    not_both (or_first (may_give number rows) (and_both (eq-eqb number n (sym e)) refl)) h
not_given number (row n false ∷ rows) h e = not_given number rows (or_false_right (eqb number n && false) (may_give number rows) h) e

-- the next number, unless one is given already
unfoldable pub then : ℕ → ℕ → ℕ
then zero next = next
then (suc n) next = suc n

-- a table that goes on behind rows that all refuse
unfoldable pub Refusing : List Row → Type 0
Refusing [] = Unit {0}
Refusing (row zero t ∷ rows) = ⊥
Refusing (row (suc n) t ∷ rows) = Refusing rows

pub goes_on : (rows more : List Row) → Refusing rows → first_of (rows ++ more) ≡ then (first_of rows) (first_of more)
unfolding first_of Refusing then
goes_on [] more h = refl
goes_on (row zero t ∷ rows) more h = absurd h
goes_on (row (suc n) true ∷ rows) more h = refl
goes_on (row (suc n) false ∷ rows) more h = goes_on rows more h

-- ---- what each call's OK tells

-- what a read tests of its owner and address
abbrev pub address_rows : Owner → ℕ → List Row
address_rows o a = row ADDRESS (wrong_address a) ∷ row OWNER (not (o.owns a)) ∷ []

abbrev pub held_row : Option ℕ → List Row
held_row found = row NOT_HELD (not (is_held found)) ∷ []

module _ (fm : Form) (i : List ℕ) where
  pub store_fails : store_number fm i ≡ OK → (wrong_size fm i ≡ false) × (no_store (pages fm i) ≡ false) × (damaged (pages fm i) ≡ false)
  unfolding store_number store_rows AllFail
  store_fails ok = let h = all_fail (store_rows fm i) ok in (h.0, h.1.0, h.1.1.0)

  pub store_passes : wrong_size fm i ≡ false → no_store (pages fm i) ≡ false → damaged (pages fm i) ≡ false → store_number fm i ≡ OK
  unfolding store_number store_rows AllFail
  store_passes s n d = none_given (store_rows fm i) (s, (n, (d, tt)))

  store_refuses : Refusing (store_rows fm i)
  unfolding store_rows Refusing
  store_refuses = tt

  module _ (o : Owner) where
    pub blank_read_goes_on : (a : ℕ) → blank_read_number fm o a i ≡ then (store_number fm i) (first_of (address_rows o a))
    unfolding blank_read_number blank_read_rows store_number
    blank_read_goes_on a = goes_on (store_rows fm i) (address_rows o a) store_refuses

    pub read_goes_on : (a : ℕ) → read_number fm o a i ≡ then (blank_read_number fm o a i) (first_of (held_row (value a (pages fm i))))
    unfolding read_number read_rows blank_read_number blank_read_rows store_rows Refusing
    read_goes_on a = goes_on (blank_read_rows fm o a i) (held_row (value a (pages fm i))) tt

    pub write_goes_on : (c : Change) → write_number fm o c i ≡ then (store_number fm i) (first_of (write_only_rows fm.edition o c (pages fm i)))
    unfolding write_number write_rows store_number
    write_goes_on c = goes_on (store_rows fm i) (write_only_rows fm.edition o c (pages fm i)) store_refuses

    -- a write is told NO ROOM only if there is none for it, in the store or for its owner
    pub not_for_room : (c : Change) → no_room (settings_of c) (pages fm i) ≡ false → crowded o (settings_of c) (pages fm i) ≡ false
        → write_number fm o c i ≡ NO_ROOM → ⊥
    unfolding write_number write_rows store_rows may_give
    not_for_room c room own_room e = not_given NO_ROOM (write_rows fm o c i) (rw (room, own_room)) e

    -- and ORDER END only if the orders are used up
    pub not_for_order : (c : Change) → order_end (length (words_of c)) (pages fm i) ≡ false → write_number fm o c i ≡ ORDER_END → ⊥
    unfolding write_number write_rows store_rows may_give
    not_for_order c order e = not_given ORDER_END (write_rows fm o c i) (rw order) e

    -- an accepted write passed each test
    pub record WriteFails (c : Change) : Type 0 where
      pub stored : store_number fm i ≡ OK
      pub clean : is_unclean (pages fm i) ≡ false
      pub grouped : wrong_group fm.edition c ≡ false
      pub addressed : a_wrong_address (settings_of c) ≡ false
      pub owned : a_foreign o (settings_of c) ≡ false
      pub room : all_values (settings_of c) (pages fm i) ≡ false → no_room (settings_of c) (pages fm i) ≡ false
      pub own_room : all_values (settings_of c) (pages fm i) ≡ false → crowded o (settings_of c) (pages fm i) ≡ false
      pub order : all_values (settings_of c) (pages fm i) ≡ false → order_end (length (words_of c)) (pages fm i) ≡ false

    pub write_fails : (c : Change) → write_number fm o c i ≡ OK → WriteFails c
    unfolding write_number write_rows store_rows AllFail
    write_fails c ok =
        let h = all_fail (write_rows fm o c i) ok in
        let more = h.1.1.1 in
        let full = no_room (settings_of c) (pages fm i) in
        record {
          stored = store_passes h.0 h.1.0 h.1.1.0;
          clean = more.0;
          grouped = more.1.0;
          addressed = more.1.1.0;
          owned = more.1.1.1.0;
          room = λ new. or_false_left full _ (more.1.1.1.1 new).0;
          own_room = λ new. or_false_right full _ (more.1.1.1.1 new).0;
          order = λ new. (more.1.1.1.1 new).1.0;
        }
