-- What each call answers, test by test: the laws that the calls in code cite. Assumes nothing.
use Prim.Native.Nat.{ℕ, zero, suc, ◌≤◌, ◌<◌}
use mathlib.Core.Path.{◌≡◌, refl, sym, ap, ◌∙◌}
use mathlib.Core.Bool.{true, false, ◌||◌}
use mathlib.Core.List.{List, [], ◌∷◌}
use mathlib.Core.Option.{Option, none, some}
use native.Mathlib.Omega.{arith}
use lib.ListN.{length, take}
use lib.Dec.{leb}
use borrow.Author.Tests.{le-leb, lt-leb, ne_eqb}
use Rattle.rules.specs.Flash.{Step, run}
use Rattle.rules.specs.Page.{Form, size}
use Rattle.rules.specs.Store.{value, or_value}
use Rattle.rules.specs.Steps.{format_steps, Change, settings_of, words_of, all_values}
use Rattle.rules.specs.Owner.{Owner, a_foreign}
use Rattle.rules.proofs.Truth.{is_false}
use Rattle.rules.proofs.Rows.{may_give, not_given, then, held_row, blank_read_goes_on, read_goes_on, write_goes_on}
use Rattle.rules.specs.Call.{first_of, page_count, pages, wrong_size, store_number, write_only_rows, write_number, blank_read_number, read_number}
use Rattle.rules.specs.Call.{store_rows, blank_read_rows, is_unclean, wrong_group, wrong_address, a_wrong_address, is_held, no_room}
use Rattle.rules.specs.Call.{crowded, order_end, accepted}
use Rattle.rules.specs.Call.{Formatted, format, stepped, reading, read, blank_value, blank_read, code, pairing, lookup}
use Rattle.rules.specs.Call.{OK, SIZE, ADDRESS, OWNER, NOT_HELD, UNCLEAN, NO_ROOM, ORDER_END, GROUP}

-- ---- numbers

pub not_accepted : (n : ℕ) → (n ≡ 0 → ⊥) → accepted n ≡ false
unfolding accepted
not_accepted n h = ne_eqb n 0 h

pub then_refused : (n next : ℕ) → (n ≡ 0 → ⊥) → then n next ≡ n
unfolding then
then_refused zero next h = absurd (h refl)
then_refused (suc n) next h = refl

pub then_ok : (n next : ℕ) → n ≡ 0 → then n next ≡ next
unfolding then
then_ok n next e = rw e

pub last_address : (a : ℕ) → a ≡ 65535 → wrong_address a ≡ true
unfolding wrong_address
last_address a e = le-leb 65535 a (omega arith)

pub other_address : (a : ℕ) → a < 65535 → wrong_address a ≡ false
unfolding wrong_address
other_address a l = lt-leb 65535 a l

-- ---- format

pub format_refused : (fm : Form) (i : List ℕ) → wrong_size fm i ≡ true → format fm i ≡ record { number = SIZE; image = i }
unfolding format
format_refused fm i w = rw w

pub format_done : (fm : Form) (i : List ℕ) → wrong_size fm i ≡ false
    → format fm i ≡ record { number = OK; image = run (size fm) (format_steps fm.edition (page_count fm i)) i }
unfolding format
format_done fm i w = rw w

-- one that is accepted is of a right size
pub format_right : (fm : Form) (i : List ℕ) → (format fm i).number ≡ OK → wrong_size fm i ≡ false
format_right fm i ok =
    is_false (wrong_size fm i)
    (λ w. let z : ◌≡◌ {A = ℕ} SIZE OK = sym (ap (λ (f : Formatted). f.number) (format_refused fm i w)) ∙ ok in omega arith)

-- ---- read

module _ (fm : Form) (i : List ℕ) (o : Owner) (a : ℕ) where
  pub read_refused : (store_number fm i ≡ 0 → ⊥) → read fm o a i ≡ record { number = store_number fm i; value = 0 }
  unfolding read reading
  read_refused h =
      let e : blank_read_number fm o a i ≡ store_number fm i = blank_read_goes_on fm i o a ∙ then_refused (store_number fm i) _ h in
      let f : read_number fm o a i ≡ store_number fm i = read_goes_on fm i o a ∙ rw e (then_refused (store_number fm i) _ h) in
      rw (f, not_accepted (store_number fm i) h)

  module _ (ok : store_number fm i ≡ 0) where
    pub read_last : a ≡ 65535 → read fm o a i ≡ record { number = ADDRESS; value = 0 }
    unfolding read reading then accepted first_of
    read_last e = rw (read_goes_on fm i o a, blank_read_goes_on fm i o a, ok, last_address a e)

    module _ (l : a < 65535) where
      pub read_foreign : o.owns a ≡ false → read fm o a i ≡ record { number = OWNER; value = 0 }
      unfolding read reading then accepted first_of
      read_foreign f = rw (read_goes_on fm i o a, blank_read_goes_on fm i o a, ok, other_address a l, f)

      module _ (own : o.owns a ≡ true) where
        pub read_found : (v : ℕ) → value a (pages fm i) ≡ some v → read fm o a i ≡ record { number = OK; value = v }
        unfolding read reading then accepted is_held or_value first_of
        read_found v e = rw (read_goes_on fm i o a, blank_read_goes_on fm i o a, ok, other_address a l, own, e)

        pub read_nothing : value a (pages fm i) ≡ none → read fm o a i ≡ record { number = NOT_HELD; value = 0 }
        unfolding read reading then accepted is_held or_value first_of
        read_nothing e = rw (read_goes_on fm i o a, blank_read_goes_on fm i o a, ok, other_address a l, own, e)

  -- ---- blank read: it is the read, but of an address that is not held

  pub blank_read_nothing : (read fm o a i).number ≡ NOT_HELD → blank_read fm o a i ≡ record { number = OK; value = 0 }
  unfolding read blank_read reading accepted blank_value or_value then is_held blank_read_number blank_read_rows store_rows may_give first_of
  blank_read_nothing e =
      let h =
      told (blank_read_number fm o a i) (value a (pages fm i)) (not_given NOT_HELD (blank_read_rows fm o a i) refl) (sym (read_goes_on fm i o a) ∙ e)
      in
      rw (h.0, h.1)
    where
      told : (b : ℕ) (v : Option ℕ) → (b ≡ NOT_HELD → ⊥) → then b (first_of (held_row v)) ≡ NOT_HELD → (b ≡ OK) × (v ≡ none)
      told zero none nb e = (refl, refl)
      told zero (some v) nb e = absurd (omega arith)
      told (suc n) v nb e = absurd (nb e)

  pub blank_read_else : ((read fm o a i).number ≡ NOT_HELD → ⊥) → blank_read fm o a i ≡ read fm o a i
  unfolding read blank_read reading blank_value then is_held first_of
  blank_read_else ne =
      rw (read_goes_on fm i o a ∙ other (blank_read_number fm o a i) (value a (pages fm i)) (λ e. ne (read_goes_on fm i o a ∙ e)))
    where
      other : (b : ℕ) (v : Option ℕ) → (then b (first_of (held_row v)) ≡ NOT_HELD → ⊥) → then b (first_of (held_row v)) ≡ b
      other zero none ne = absurd (ne refl)
      other zero (some v) ne = refl
      other (suc n) v ne = refl

-- ---- lookup

-- a code is by its four values alone
pub same_code : (f g : ℕ → Option ℕ) → ((x : ℕ) → 16 ≤ x → x ≤ 19 → f x ≡ g x) → code f ≡ code g
unfolding code
same_code f g e =
    rw (
      e 16 (omega arith) (omega arith),
      e 17 (omega arith) (omega arith),
      e 18 (omega arith) (omega arith),
      e 19 (omega arith) (omega arith),
    )

pub lookup_refused : (fm : Form) (i : List ℕ) → (store_number fm i ≡ 0 → ⊥)
    → lookup fm i ≡ record { number = store_number fm i; paired = false; digits = 0 ∷ 0 ∷ 0 ∷ 0 ∷ [] }
unfolding lookup
lookup_refused fm i h = rw (not_accepted (store_number fm i) h)

pub lookup_done : (fm : Form) (i : List ℕ) → store_number fm i ≡ 0 → lookup fm i ≡ pairing (code (λ a. value a (pages fm i)))
unfolding lookup accepted
lookup_done fm i ok = rw ok

-- ---- recovery and write

module _ (fm : Form) (number n : ℕ) (ss : List Step) (i : List ℕ) where
  pub stepped_refused : (number ≡ 0 → ⊥) → stepped fm number n ss i ≡ record { number = number; steps = 0; finished = false; image = i }
  unfolding stepped
  stepped_refused h = rw (not_accepted number h)

  pub stepped_done : number ≡ 0
      → stepped fm number n ss i ≡ record { number = OK; steps = length (take n ss); finished = leb (length ss) n; image = run (size fm) (take n ss) i }
  unfolding stepped accepted
  stepped_done e = rw e

-- the number of a write, test by test
module _ (fm : Form) (o : Owner) (c : Change) (i : List ℕ) where
  pub write_store : (store_number fm i ≡ 0 → ⊥) → write_number fm o c i ≡ store_number fm i
  write_store h = write_goes_on fm i o c ∙ then_refused (store_number fm i) _ h

  module _ (ok : store_number fm i ≡ 0) where
    further : write_number fm o c i ≡ first_of (write_only_rows fm.edition o c (pages fm i))
    further = write_goes_on fm i o c ∙ then_ok (store_number fm i) _ ok

    pub write_unclean : is_unclean (pages fm i) ≡ true → write_number fm o c i ≡ UNCLEAN
    unfolding first_of
    write_unclean u = further ∙ rw u

    module _ (clean : is_unclean (pages fm i) ≡ false) where
      pub write_group : wrong_group fm.edition c ≡ true → write_number fm o c i ≡ GROUP
      unfolding first_of
      write_group g = further ∙ rw (clean, g)

      module _ (grouped : wrong_group fm.edition c ≡ false) where
        pub write_last : a_wrong_address (settings_of c) ≡ true → write_number fm o c i ≡ ADDRESS
        unfolding first_of
        write_last e = further ∙ rw (clean, grouped, e)

        module _ (far : a_wrong_address (settings_of c) ≡ false) where
          pub write_foreign : a_foreign o (settings_of c) ≡ true → write_number fm o c i ≡ OWNER
          unfolding first_of
          write_foreign e = further ∙ rw (clean, grouped, far, e)

          module _ (own : a_foreign o (settings_of c) ≡ false) where
            pub write_same : all_values (settings_of c) (pages fm i) ≡ true → write_number fm o c i ≡ OK
            unfolding first_of
            write_same e = further ∙ rw (clean, grouped, far, own, e)

            module _ (new : all_values (settings_of c) (pages fm i) ≡ false) where
              pub write_full : (no_room (settings_of c) (pages fm i) || crowded o (settings_of c) (pages fm i)) ≡ true → write_number fm o c i ≡ NO_ROOM
              unfolding first_of
              write_full e = further ∙ rw (clean, grouped, far, own, new, e)

              module _ (room : (no_room (settings_of c) (pages fm i) || crowded o (settings_of c) (pages fm i)) ≡ false) where
                pub write_end : order_end (length (words_of c)) (pages fm i) ≡ true → write_number fm o c i ≡ ORDER_END
                unfolding first_of
                write_end e = further ∙ rw (clean, grouped, far, own, new, room, e)

                pub write_ok : order_end (length (words_of c)) (pages fm i) ≡ false → write_number fm o c i ≡ OK
                unfolding first_of
                write_ok e = further ∙ rw (clean, grouped, far, own, new, room, e)
