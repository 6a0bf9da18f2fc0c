-- The three demands hold of the exported calls. Assumes nothing.
use Prim.Native.Nat.{ℕ, ◌+◌, ◌*◌}
use mathlib.Core.Path.{◌≡◌, refl, sym, ap, ap₂, ◌∙◌}
use mathlib.Core.Logic.{inl, inr}
use mathlib.Core.Bool.{Bool, true, false, cond}
use mathlib.Core.List.{List}
use mathlib.Core.Option.{Option, none, some, some-injective}
use native.Mathlib.Omega.{arith}
use lib.ListN.{length, get_or, take}
use lib.Dec.{eqb, leb}
use borrow.Author.Tests.{eqb-true, eqb-false, le-leb}
use Rattle.rules.specs.Flash.{Step, run}
use Rattle.rules.specs.Page.{Form, size, Chip, in_edition}
use Rattle.rules.specs.Store.{value, or_value}
use Rattle.rules.specs.Steps.{format_steps, Change, single, group, settings_of}
use Rattle.rules.specs.Owner.{Owner, anyone, named_owner}
use Rattle.rules.specs.Call.{RoomyChip, form_of, has_edition, page_count, wrong_size, store_number, write_number, read_number, blank_read_number, OK}
use Rattle.rules.specs.Call.{SIZE, Stepped, Reading, Pairing, Formatted, format, group_of, stepped, recover, write, pages, read, blank_value, blank_read}
use Rattle.rules.specs.Call.{refused_steps, refused_reading, refused_lookup, reading, code, pairing, lookup}
use Rattle.rules.specs.Named.{chip_of, on_chip, told_form, write_at, read_at, blank_read_at, lookup_at, number_at}
use Rattle.rules.proofs.Truth.{by_cases, and_both}
use Rattle.rules.proofs.Answers.{not_accepted, format_refused, format_done, format_right, stepped_refused, stepped_done, lookup_refused, lookup_done}
use Rattle.rules.proofs.Named.{named_roomy, format_named, recover_named, write_named, read_named, blank_read_named, lookup_named}
use Rattle.rules.proofs.Lengths.{format_long}
use Rattle.promise.specs.Calls.{Question, value_at, blank_value_at, pairing_code, Answer, finds, EachOf, answer, Obeys}
use Rattle.promise.specs.History.{recovery_of, write_of}
use Rattle.promise.proofs.Answers.{each_map₂, each_owned}
use Rattle.promise.proofs.Kept.{called_number, passed, kept}
use Rattle.promise.proofs.Counts.{not_longer}
use Rattle.istrovell.specs.declared.answers.Reading.{Reading as Read}
use Rattle.istrovell.specs.declared.answers.Pairing.{Pairing as Pair}
use Rattle.istrovell.specs.Answers.{as_reading, as_pairing}
use Rattle.istrovell.specs.declared.answers.Stepped.{Stepped as Done}
use Rattle.istrovell.specs.Answers.{as_stepped}
use Rattle.istrovell.specs.Demands.{Formats, Reads, Unchanged, Gives, Did, formatted, wrote, wrote_as, replies, all_naming}
use Rattle.istrovell.specs.Demands.{every_call_answers_by_number}
use Rattle.istrovell.specs.Demands.{only_one_outcome, every_step_follows_the_rules, a_store_keeps_its_word, every_question_is_answered}

-- ---- recovery and write: an answer with steps

module _ (number n : ℕ) (ss : List Step) (i : List ℕ) (r : Done) (j : List ℕ) (fm : Form)
    (h : as_stepped r j ≡ stepped fm number n ss i) where
  its_number : r.number ≡ number
  its_number = called_number fm number n ss i (as_stepped r j) h

  its_refusal : Unchanged i r j
  its_refusal ne =
      let e = h ∙ stepped_refused fm number n ss i (λ z. ne (its_number ∙ z)) in
      (ap (λ (s : Stepped). s.image) e, ap (λ (s : Stepped). s.steps) e, ap (λ (s : Stepped). s.finished) e)

  its_steps : r.number ≡ OK → (j ≡ run (size fm) (take n ss) i) × (r.steps ≡ length (take n ss)) × (r.finished ≡ leb (length ss) n)
  its_steps ok =
      let e = h ∙ stepped_done fm number n ss i (sym its_number ∙ ok) in
      (ap (λ (s : Stepped). s.image) e, ap (λ (s : Stepped). s.steps) e, ap (λ (s : Stepped). s.finished) e)

-- ---- format: its number and its image, as one

as_formatted : {r : ℕ} {j : List ℕ} {f : Formatted} → (r ≡ f.number) × (j ≡ f.image) → record { number = r; image = j } ≡ f
as_formatted h = ap₂ (λ (n : ℕ) (k : List ℕ). record { number = n; image = k }) h.0 h.1

-- ---- read and blank read: an answer with a value

read_so : (n v : ℕ) (r : Read) → as_reading r ≡ reading n v → (r.number ≡ n) × ((r.number ≡ OK → ⊥) → r.value ≡ 0)
unfolding reading
read_so n v r h =
    let e = ap (λ (q : Reading). q.number) h in
    (e, λ ne. ap (λ (q : Reading). q.value) h ∙ rw (not_accepted n (λ z. ne (e ∙ z))))

-- ---- demand 1

-- what is so of a call on each chip, and of one that is refused as SIZE, is so at a page size
at_chip : {A : Type 0} (G : ℕ → Type 0) (o : Option Chip) {x refused : A} {call : Chip → A} {table : Chip → ℕ} → (x ≡ refused → G SIZE)
    → ((c : Chip) → x ≡ call c → G (table c)) → x ≡ on_chip o refused call → G (on_chip o SIZE table)
unfolding on_chip
at_chip G none no' on h = no' h
at_chip G (some c) no' on h = on c h

module _ (i : List ℕ) where
  format_number : (fm : Form) (f : Formatted) → f ≡ format fm i → (f.number ≡ cond (wrong_size fm i) SIZE OK) × ((f.number ≡ OK → ⊥) → f.image ≡ i)
  format_number fm f h =
      by_cases (wrong_size fm i)
      (λ t. let e = h ∙ format_refused fm i t in (rw t (ap (λ (x : Formatted). x.number) e), λ ne. ap (λ (x : Formatted). x.image) e))
      (λ t. let e = ap (λ (x : Formatted). x.number) (h ∙ format_done fm i t) in (rw t e, λ ne. absurd (ne e)))

  look_number : (fm : Form) (r : Pair) → as_pairing r ≡ lookup fm i
      → (r.number ≡ store_number fm i) × ((r.number ≡ OK → ⊥) → as_pairing r ≡ refused_lookup r.number)
  unfolding pairing
  look_number fm r h =
      let e : r.number ≡ store_number fm i =
      by_cases (eqb (store_number fm i) 0)
      (λ t. let z = eqb-true (store_number fm i) 0 t in ap (λ (q : Pairing). q.number) (h ∙ lookup_done fm i z) ∙ sym z)
      (λ t. ap (λ (q : Pairing). q.number) (h ∙ lookup_refused fm i (eqb-false (store_number fm i) 0 t))) in
      (e, λ ne. h ∙ lookup_refused fm i (λ z. ne (e ∙ z)) ∙ rw e)

  -- refused as SIZE
  no_steps : (r : Done) (j : List ℕ) → as_stepped r j ≡ refused_steps SIZE i → (r.number ≡ SIZE) × Unchanged i r j
  no_steps r j h = (
    ap (λ (s : Stepped). s.number) h,
    λ ne. (ap (λ (s : Stepped). s.image) h, ap (λ (s : Stepped). s.steps) h, ap (λ (s : Stepped). s.finished) h),
  )

  no_value : (r : Read) → as_reading r ≡ refused_reading SIZE → (r.number ≡ SIZE) × ((r.number ≡ OK → ⊥) → r.value ≡ 0)
  no_value r h = (ap (λ (q : Reading). q.number) h, λ ne. ap (λ (q : Reading). q.value) h)

  no_code : (r : Pair) → as_pairing r ≡ refused_lookup SIZE → (r.number ≡ SIZE) × ((r.number ≡ OK → ⊥) → as_pairing r ≡ refused_lookup r.number)
  no_code r h = let e = ap (λ (q : Pairing). q.number) h in (e, λ ne. h ∙ ap refused_lookup (sym e))

  -- of a single setting or of a group
  write_number_is : (P : ℕ) (timer : Bool) (c : Change) (n : ℕ) (r : Done) (j : List ℕ) → as_stepped r j ≡ write_at P timer c n i
      → (r.number ≡ number_at P (λ f. write_number f (named_owner timer) c) i) × Unchanged i r j
  unfolding write
  write_number_is P timer c n r j =
      at_chip (λ k. (r.number ≡ k) × Unchanged i r j) (chip_of P) (no_steps r j)
      (λ chip h.
      let fm = form_of chip i in
      let k = write_number fm (named_owner timer) c i in
      (its_number k n (write_of fm c i) i r j fm h, its_refusal k n (write_of fm c i) i r j fm h))

pub answers_by_number : every_call_answers_by_number
unfolding recover read blank_read
answers_by_number P i =
    record {
      formats = λ second r j h.
          at_chip (λ k. (r ≡ k) × ((r ≡ OK → ⊥) → j ≡ i)) (chip_of P)
          (λ e. (ap (λ (f : Formatted). f.number) e, λ ne. ap (λ (f : Formatted). f.image) e))
          (λ chip e. format_number i (told_form chip second) (record { number = r; image = j }) e) (as_formatted h);
      recovers = λ n r j.
          at_chip (λ k. (r.number ≡ k) × Unchanged i r j) (chip_of P) (no_steps i r j)
          (λ chip h.
          let fm = form_of chip i in
          (its_number (store_number fm i) n (recovery_of fm i) i r j fm h, its_refusal (store_number fm i) n (recovery_of fm i) i r j fm h));
      writes = λ m a v n r j h. write_number_is i P m (single a v) n r j h;
      writes_group = λ m b n r j h. write_number_is i P m (group_of b) n r j h;
      reads = λ m a r.
          at_chip (λ k. (r.number ≡ k) × ((r.number ≡ OK → ⊥) → r.value ≡ 0)) (chip_of P) (no_value i r)
          (λ chip h. let fm = form_of chip i in read_so (read_number fm (named_owner m) a i) (or_value (value a (pages fm i)) 0) r h);
      blank_reads = λ m a r.
          at_chip (λ k. (r.number ≡ k) × ((r.number ≡ OK → ⊥) → r.value ≡ 0)) (chip_of P) (no_value i r)
          (λ chip h. let fm = form_of chip i in read_so (blank_read_number fm (named_owner m) a i) (blank_value (value a (pages fm i))) r h);
      looks = λ r.
          at_chip (λ k. (r.number ≡ k) × ((r.number ≡ OK → ⊥) → as_pairing r ≡ refused_lookup r.number)) (chip_of P) (no_code i r)
          (λ chip h. look_number i (form_of chip i) r h);
    }

-- ---- only one outcome

-- the structs of the code, by their fields
same_stepped : (r s : Done) (j k : List ℕ) → as_stepped r j ≡ as_stepped s k → (r ≡ s) × (j ≡ k)
same_stepped r s j k h = (ap to h, ap (λ (x : Stepped). x.image) h)
  where
    to : Stepped → Done
    to x = record { number = x.number; finished = x.finished; steps = x.steps }

abbrev read_of : Reading → Read
read_of x = record { number = x.number; value = x.value }

pub same_reading : (r s : Read) → as_reading r ≡ as_reading s → r ≡ s
same_reading r s h = ap read_of h

abbrev pair_of : Pairing → Pair
pair_of x =
    record {
      number = x.number;
      paired = x.paired;
      digit0 = get_or x.digits 0 0;
      digit1 = get_or x.digits 1 0;
      digit2 = get_or x.digits 2 0;
      digit3 = get_or x.digits 3 0;
    }

same_pairing : (r s : Pair) → as_pairing r ≡ as_pairing s → r ≡ s
same_pairing r s h = ap pair_of h

pub one_outcome : only_one_outcome
one_outcome P i =
    record {
      formats = λ second r s j k h g. (h.0 ∙ sym g.0, h.1 ∙ sym g.1);
      recovers = λ n r s j k h g. same_stepped r s j k (h ∙ sym g);
      writes = λ m a v n r s j k h g. same_stepped r s j k (h ∙ sym g);
      writes_group = λ m b n r s j k h g. same_stepped r s j k (h ∙ sym g);
      reads = λ m a r s h g. same_reading r s (h ∙ sym g);
      blank_reads = λ m a r s h g. same_reading r s (h ∙ sym g);
      looks = λ r s h g. same_pairing r s (h ∙ sym g);
    }

-- ---- demand 3

told_had : (chip : Chip) → RoomyChip chip → (second : Bool) → has_edition chip (told_form chip second).edition ≡ true
unfolding has_edition
told_had chip roomy true = and_both (le-leb chip.first chip.last roomy.1) (le-leb chip.last chip.last (omega arith))
told_had chip roomy false = and_both (le-leb chip.first chip.first (omega arith)) (le-leb chip.first chip.last roomy.1)

-- the calls that name a page size are those of its chip
module _ (P : ℕ) (chip : Chip) (named : chip_of P ≡ some chip) where
  pub obey : Obeys chip (all_naming P)
  unfolding answer
  obey = record { formats = formats; recovers = λ n i s h. h.2 ∙ h.1 ∙ recover_named P chip named i n; writes = writes; answers = answers }
    where
      formats : (e : ℕ) (i : List ℕ) (f : Formatted) → formatted P e i f → (has_edition chip e ≡ true) × (f ≡ format (in_edition chip e) i)
      formats e i f h =
          let second = h.0 in
          let same : h.1 ≡ chip = some-injective h.1 chip (sym h.2 ∙ named) in
          let is : e ≡ (told_form chip second).edition = h.3 ∙ ap (λ (c : Chip). (told_form c second).edition) same in (
            ap (has_edition chip) is ∙ told_had chip (named_roomy P chip named) second,
            as_formatted h.4 ∙ format_named P chip named i second ∙ ap (λ (x : ℕ). format (in_edition chip x) i) (sym is),
          )

      by_one : (m : Bool) (c : Change) (n : ℕ) (i : List ℕ) (s : Stepped) → wrote P m c n i s → s ≡ write (form_of chip i) (named_owner m) c n i
      by_one m (single a v) n i s h = h.2 ∙ h.1 ∙ write_named P chip named i m (single a v) n
      by_one m (group rs) n i s h = h.4 ∙ h.3 ∙ ap (λ (c : Change). write_at P m c n i) h.2 ∙ write_named P chip named i m (group rs) n

      writes : (o : Owner) (c : Change) (n : ℕ) (i : List ℕ) (s : Stepped) → wrote_as P o c n i s → s ≡ write (form_of chip i) o c n i
      writes o c n i s (inl h) = by_one h.0 c n i s h.2 ∙ ap (λ (p : Owner). write (form_of chip i) p c n i) (sym h.1)
      writes o c n i s (inr h) =
          h.1.2
          ∙ ap (λ (d : Chip). write (form_of d i) anyone c n i) (some-injective h.1.0 chip (sym h.1.1 ∙ named))
          ∙ ap (λ (p : Owner). write (form_of chip i) p c n i) (sym h.0)

      answers : (q : Question) (i : List ℕ) (r : Answer q) → replies P q i r → r ≡ answer (form_of chip i) q i
      answers (value_at m x) i r h = h.2 ∙ h.1 ∙ read_named P chip named i m x
      answers (blank_value_at m x) i r h = h.2 ∙ h.1 ∙ blank_read_named P chip named i m x
      answers pairing_code i r h = h.2 ∙ h.1 ∙ lookup_named P chip named i

pub keeps_its_word : a_store_keeps_its_word
keeps_its_word P chip named = kept chip (named_roomy P chip named) (all_naming P) (obey P chip named)

-- a lookup has four digits, as the struct of the code has
four_digits : (fm : Form) (i : List ℕ) → as_pairing (pair_of (lookup fm i)) ≡ lookup fm i
unfolding pairing code
four_digits fm i =
    by_cases (eqb (store_number fm i) 0)
    (λ t. rw (lookup_done fm i (eqb-true (store_number fm i) 0 t)))
    (λ t. rw (lookup_refused fm i (eqb-false (store_number fm i) 0 t)))

four_at : (o : Option Chip) (i : List ℕ) → let r = on_chip o (refused_lookup SIZE) (λ c. lookup (form_of c i) i) in as_pairing (pair_of r) ≡ r
unfolding on_chip
four_at none i = refl
four_at (some c) i = four_digits (form_of c i) i

pub answered : every_question_is_answered
answered P i = (given, each)
  where
    given : (q : Question) → Answer q
    given (value_at m x) = read_at P m x i
    given (blank_value_at m x) = blank_read_at P m x i
    given pairing_code = lookup_at P i

    each : (q : Question) → replies P q i (given q)
    each (value_at m x) = (read_of (read_at P m x i), refl, refl)
    each (blank_value_at m x) = (read_of (blank_read_at P m x i), refl, refl)
    each pairing_code = (pair_of (lookup_at P i), four_at (chip_of P) i, sym (four_at (chip_of P) i))

-- ---- demand 2

-- what its owner finds at an address, told of the rules' readings, is so of the code's
gives : (P : ℕ) (timer : Bool) (j : List ℕ) (a v : ℕ)
    → ((m : Bool) → (named_owner m).owns a ≡ true → (r : Reading) → replies P (value_at m a) j r → r ≡ finds v)
    → (named_owner timer).owns a ≡ true → (q : Read) → Reads P timer a j q → Gives q v
gives P timer j a v found own q g =
    let e = found timer own (as_reading q) (q, g, refl) in
    (ap (λ (x : Reading). x.number) e, ap (λ (x : Reading). x.value) e)

module _ (P : ℕ) (chip : Chip) (named : chip_of P ≡ some chip) (i : List ℕ) (timer : Bool) where
  did : (c : Change) (n : ℕ) (r : Done) (j : List ℕ) → as_stepped r j ≡ write_at P timer c n i → r.number ≡ OK → Did (form_of chip i) c n i r j
  unfolding write
  did c n r j h =
      let fm = form_of chip i in
      its_steps (write_number fm (named_owner timer) c i) n (write_of fm c i) i r j fm (h ∙ write_named P chip named i timer c n)

  found : (c : Change) (n : ℕ) (r : Done) (j : List ℕ) → wrote P timer c n i (as_stepped r j) → r.number ≡ OK → r.finished ≡ true
      → EachOf (λ a v. (q : Read) → Reads P timer a j q → Gives q v) (settings_of c)
  found c n r j h ok fin =
      let o = named_owner timer in
      let s = as_stepped r j in
      let x : wrote_as P o c n i s = inl (timer, refl, h) in
      let owned = (passed chip (named_roomy P chip named) (all_naming P) (obey P chip named) i o c n s x ok fin).owned in
      each_map₂ (gives P timer j) (settings_of c) ((keeps_its_word P chip named).finds_what_is_written i o c n s x ok fin).there
      (each_owned o (settings_of c) owned)

module _ (P : ℕ) (chip : Chip) (named : chip_of P ≡ some chip) (i : List ℕ) where
  format_steps_are : (second : Bool) (r : ℕ) (j : List ℕ) → Formats P second i r j → r ≡ OK
      → let fm = told_form chip second in
      let ss = format_steps fm.edition (page_count fm i) in
      (j ≡ run (size fm) ss i) × (length ss ≡ 3 * page_count fm i + 2)
  format_steps_are second r j h ok =
      let fm = told_form chip second in
      let is = as_formatted h ∙ format_named P chip named i second in
      let right = format_right fm i (sym (ap (λ (f : Formatted). f.number) is) ∙ ok) in
      (ap (λ (f : Formatted). f.image) (is ∙ format_done fm i right), format_long fm.edition (page_count fm i))

pub follows_the_rules : every_step_follows_the_rules
unfolding recover EachOf settings_of group_of
follows_the_rules P chip named i =
    let fm = form_of chip i in
    record {
      formats = format_steps_are P chip named i;
      recovers = λ n r j h. its_steps (store_number fm i) n (recovery_of fm i) i r j fm (h ∙ recover_named P chip named i n);
      writes = λ m a v n r j h. did P chip named i m (single a v) n r j h;
      writes_group = λ m b n r j h. did P chip named i m (group_of b) n r j h;
      longest = not_longer fm i;
      finds = λ m a v n r j h ok fin. (found P chip named i m (single a v) n r j (r, h, refl) ok fin).0;
      finds_each = λ m b n r j h ok fin. found P chip named i m (group_of b) n r j (b, r, refl, h, refl) ok fin;
    }
