-- The customer's three demands, of the exported calls: what their contracts allow, whatever the image.
use Rattle.std.specs.Prelude.{ℕ, ◌+◌, ◌*◌, ◌≤◌, ◌≡◌, ◌⊎◌, Bool, true, false, cond, List, length, take, leb}
use Rattle.std.proofs.Math.Option.{some}
use Rattle.rules.specs.Flash.{run}
use Rattle.rules.specs.Steps.{format_steps, Change, single, group, settings_of}
use Rattle.rules.specs.Page.{Form, size, Chip}
use Rattle.rules.specs.Owner.{Owner, anyone, named_owner}
use Rattle.rules.specs.Call.{form_of, page_count, wrong_size, store_number, write_number, read_number, blank_read_number, OK, SIZE}
use Rattle.rules.specs.Call.{Formatted, Stepped as Outcome, refused_lookup, group_of, write}
use Rattle.rules.specs.Named.{chip_of, on_chip, told_form, format_at, recover_at, write_at, read_at, blank_read_at, lookup_at, number_at}
use Rattle.promise.specs.Calls.{Question, value_at, blank_value_at, pairing_code, Answer, EachAnswer, EachOf, Calls}
use Rattle.promise.specs.History.{recovery_of, write_of}
use Rattle.promise.specs.Promise.{KeepsItsWord}
use Rattle.promise.specs.Corollaries.{longest as longest_write}
use Rattle.istrovell.specs.declared.answers.Reading.{Reading}
use Rattle.istrovell.specs.declared.answers.Pairing.{Pairing}
use Rattle.istrovell.specs.Answers.{as_reading, as_pairing}
use Rattle.istrovell.specs.declared.answers.Stepped.{Stepped}
use Rattle.istrovell.specs.Answers.{as_stepped}

-- What the contracts say: P is the page size that the call names, timer which of the two owners, i the image at the call, r the answer,
-- j the image after it. A read leaves the image.
abbrev pub Formats : (P : ℕ) (second : Bool) (i : List ℕ) (r : ℕ) (j : List ℕ) → Type 0
Formats P second i r j = (r ≡ (format_at P second i).number) × (j ≡ (format_at P second i).image)

abbrev pub Recovers : (P allowance : ℕ) (i : List ℕ) (r : Stepped) (j : List ℕ) → Type 0
Recovers P n i r j = as_stepped r j ≡ recover_at P n i

abbrev pub Writes : (P : ℕ) (timer : Bool) (address value allowance : ℕ) (i : List ℕ) (r : Stepped) (j : List ℕ) → Type 0
Writes P timer a v n i r j = as_stepped r j ≡ write_at P timer (single a v) n i

abbrev pub WritesGroup : (P : ℕ) (timer : Bool) (bytes : List ℕ) (allowance : ℕ) (i : List ℕ) (r : Stepped) (j : List ℕ) → Type 0
WritesGroup P timer b n i r j = as_stepped r j ≡ write_at P timer (group_of b) n i

abbrev pub Reads : (P : ℕ) (timer : Bool) (address : ℕ) (i : List ℕ) (r : Reading) → Type 0
Reads P timer a i r = as_reading r ≡ read_at P timer a i

abbrev pub BlankReads : (P : ℕ) (timer : Bool) (address : ℕ) (i : List ℕ) (r : Reading) → Type 0
BlankReads P timer a i r = as_reading r ≡ blank_read_at P timer a i

abbrev pub LooksUp : (P : ℕ) (i : List ℕ) (r : Pairing) → Type 0
LooksUp P i r = as_pairing r ≡ lookup_at P i

-- D1. Answers by number, the first demand. Each call takes any flash image, any page size, either owner, any address and any bytes of a
-- group. A call that can't be done answers by number, given exactly when the table of the rules says so, and every byte of the image
-- stays. That nothing outside the image is touched and that every call ends is proved of each function by the toolchain.
abbrev pub Unchanged : (i : List ℕ) (r : Stepped) (j : List ℕ) → Type 0
Unchanged i r j = (r.number ≡ OK → ⊥) → (j ≡ i) × (r.steps ≡ 0) × (r.finished ≡ false)

pub record AnswersByNumber (P : ℕ) (i : List ℕ) : Type 0 where
  pub formats : (second : Bool) (r : ℕ) (j : List ℕ) → Formats P second i r j
      → (r ≡ on_chip (chip_of P) SIZE (λ c. cond (wrong_size (told_form c second) i) SIZE OK)) × ((r ≡ OK → ⊥) → j ≡ i)
  pub recovers : (n : ℕ) (r : Stepped) (j : List ℕ) → Recovers P n i r j → (r.number ≡ number_at P store_number i) × Unchanged i r j
  pub writes : (timer : Bool) (a v n : ℕ) (r : Stepped) (j : List ℕ) → Writes P timer a v n i r j
      → (r.number ≡ number_at P (λ f. write_number f (named_owner timer) (single a v)) i) × Unchanged i r j
  pub writes_group : (timer : Bool) (b : List ℕ) (n : ℕ) (r : Stepped) (j : List ℕ) → WritesGroup P timer b n i r j
      → (r.number ≡ number_at P (λ f. write_number f (named_owner timer) (group_of b)) i) × Unchanged i r j
  pub reads : (timer : Bool) (a : ℕ) (r : Reading) → Reads P timer a i r
      → (r.number ≡ number_at P (λ f. read_number f (named_owner timer) a) i) × ((r.number ≡ OK → ⊥) → r.value ≡ 0)
  pub blank_reads : (timer : Bool) (a : ℕ) (r : Reading) → BlankReads P timer a i r
      → (r.number ≡ number_at P (λ f. blank_read_number f (named_owner timer) a) i) × ((r.number ≡ OK → ⊥) → r.value ≡ 0)
  pub looks : (r : Pairing) → LooksUp P i r → (r.number ≡ number_at P store_number i)
      × ((r.number ≡ OK → ⊥) → as_pairing r ≡ refused_lookup r.number)

abbrev pub every_call_answers_by_number : Type 0
every_call_answers_by_number = (P : ℕ) (i : List ℕ) → AnswersByNumber P i

-- From the same image and arguments only one outcome is possible.
pub record OneOutcome (P : ℕ) (i : List ℕ) : Type 0 where
  pub formats : (second : Bool) (r s : ℕ) (j k : List ℕ) → Formats P second i r j → Formats P second i s k → (r ≡ s) × (j ≡ k)
  pub recovers : (n : ℕ) (r s : Stepped) (j k : List ℕ) → Recovers P n i r j → Recovers P n i s k → (r ≡ s) × (j ≡ k)
  pub writes : (timer : Bool) (a v n : ℕ) (r s : Stepped) (j k : List ℕ) → Writes P timer a v n i r j → Writes P timer a v n i s k
      → (r ≡ s) × (j ≡ k)
  pub writes_group : (timer : Bool) (b : List ℕ) (n : ℕ) (r s : Stepped) (j k : List ℕ) → WritesGroup P timer b n i r j
      → WritesGroup P timer b n i s k → (r ≡ s) × (j ≡ k)
  pub reads : (timer : Bool) (a : ℕ) (r s : Reading) → Reads P timer a i r → Reads P timer a i s → r ≡ s
  pub blank_reads : (timer : Bool) (a : ℕ) (r s : Reading) → BlankReads P timer a i r → BlankReads P timer a i s → r ≡ s
  pub looks : (r s : Pairing) → LooksUp P i r → LooksUp P i s → r ≡ s

abbrev pub only_one_outcome : Type 0
only_one_outcome = (P : ℕ) (i : List ℕ) → OneOutcome P i

-- an accepted answer with that value
abbrev pub Gives : Reading → ℕ → Type 0
Gives r v = (r.number ≡ OK) × (r.value ≡ v)

-- a call did the steps of the change as far as its allowance goes, and says so
abbrev pub Did : (form : Form) (change : Change) (allowance : ℕ) (i : List ℕ) (r : Stepped) (j : List ℕ) → Type 0
Did fm c n i r j =
    let ss = write_of fm c i in
    (j ≡ run (size fm) (take n ss) i) × (r.steps ≡ length (take n ss)) × (r.finished ≡ leb (length ss) n)

-- D2. Every step follows the rules, the second demand. The image after each flash step is the one that the rules give; a format has 3 x
-- pages + 2 steps, and no write is longer than 388 + 3 x (pages - 1) (that one is so long: `a_longest_write` of promise). What a finished
-- write puts at an address, a read that names the same size and the same owner finds, and of a group each: of every image.
pub record FollowsTheRules (P : ℕ) (chip : Chip) (i : List ℕ) : Type 0 where
  pub formats : (second : Bool) (r : ℕ) (j : List ℕ) → Formats P second i r j → r ≡ OK
      → let fm = told_form chip second in
      let ss = format_steps fm.edition (page_count fm i) in
      (j ≡ run (size fm) ss i) × (length ss ≡ 3 * page_count fm i + 2)
  pub recovers : (n : ℕ) (r : Stepped) (j : List ℕ) → Recovers P n i r j → r.number ≡ OK
      → let fm = form_of chip i in
      let ss = recovery_of fm i in
      (j ≡ run (size fm) (take n ss) i) × (r.steps ≡ length (take n ss)) × (r.finished ≡ leb (length ss) n)
  pub writes : (timer : Bool) (a v n : ℕ) (r : Stepped) (j : List ℕ) → Writes P timer a v n i r j → r.number ≡ OK
      → Did (form_of chip i) (single a v) n i r j
  pub writes_group : (timer : Bool) (b : List ℕ) (n : ℕ) (r : Stepped) (j : List ℕ) → WritesGroup P timer b n i r j → r.number ≡ OK
      → Did (form_of chip i) (group_of b) n i r j
  pub longest : (o : Owner) (c : Change) → let fm = form_of chip i in write_number fm o c i ≡ OK → length (write_of fm c i) ≤ longest_write (page_count fm i)
  pub finds : (timer : Bool) (a v n : ℕ) (r : Stepped) (j : List ℕ) → Writes P timer a v n i r j → r.number ≡ OK → r.finished ≡ true
      → (q : Reading) → Reads P timer a j q → Gives q v
  pub finds_each : (timer : Bool) (b : List ℕ) (n : ℕ) (r : Stepped) (j : List ℕ) → WritesGroup P timer b n i r j → r.number ≡ OK → r.finished ≡ true
      → EachOf (λ a v. (q : Reading) → Reads P timer a j q → Gives q v) (settings_of (group_of b))

abbrev pub every_step_follows_the_rules : Type 0
every_step_follows_the_rules = (P : ℕ) (chip : Chip) → chip_of P ≡ some chip → (i : List ℕ) → FollowsTheRules P chip i

-- The exported calls that name one page size, as the promise sees them: an outcome is possible if a contract allows it. A group is
-- written by the bytes that are it. A write of firmware from before there were owners is one by the rules, by anyone.
module _ (P : ℕ) where
  abbrev pub formatted : (edition : ℕ) (i : List ℕ) → Formatted → Type 0
  formatted e i f =
      (second : Bool) × (chip : Chip) × (chip_of P ≡ some chip) × (e ≡ (told_form chip second).edition) × Formats P second i f.number f.image

  abbrev pub wrote : (timer : Bool) → Change → (allowance : ℕ) (i : List ℕ) → Outcome → Type 0
  wrote timer (single a v) n i s = (r : Stepped) × Writes P timer a v n i r s.image × (s ≡ as_stepped r s.image)
  wrote timer (group rs) n i s =
      (b : List ℕ) × (r : Stepped) × (group_of b ≡ group rs) × WritesGroup P timer b n i r s.image × (s ≡ as_stepped r s.image)

  abbrev pub wrote_before : Change → (allowance : ℕ) (i : List ℕ) → Outcome → Type 0
  wrote_before c n i s = (chip : Chip) × (chip_of P ≡ some chip) × (s ≡ write (form_of chip i) anyone c n i)

  abbrev pub wrote_as : Owner → Change → (allowance : ℕ) (i : List ℕ) → Outcome → Type 0
  wrote_as o c n i s = ((timer : Bool) × (o ≡ named_owner timer) × wrote timer c n i s) ⊎ ((o ≡ anyone) × wrote_before c n i s)

  abbrev pub replies : (q : Question) → List ℕ → Answer q → Type 0
  replies (value_at timer x) i r = (s : Reading) × Reads P timer x i s × (r ≡ as_reading s)
  replies (blank_value_at timer x) i r = (s : Reading) × BlankReads P timer x i s × (r ≡ as_reading s)
  replies pairing_code i r = (s : Pairing) × LooksUp P i s × (r ≡ as_pairing s)

  abbrev pub all_naming : Calls
  all_naming =
      record {
        Formats = formatted;
        Recovers = λ n i s. (r : Stepped) × Recovers P n i r s.image × (s ≡ as_stepped r s.image);
        Writes = wrote_as;
        Answers = replies;
      }

-- D3. Nothing is lost when power fails, the third demand, and what else a store promises: what a finished write puts at its addresses is
-- found by every call, and changes nothing else; a power failure in a write loses nothing, and shows no group by half; a recovery changes
-- no answer, and mends. `KeepsItsWord` of promise has the clauses. They are of calls that all name the page size P, which the store's
-- last format named: records of a page of 2,048 bytes can pass for a header at 1,024, and of what a call finds that names another size
-- nothing is said.
abbrev pub a_store_keeps_its_word : Type 0
a_store_keeps_its_word = (P : ℕ) (chip : Chip) → chip_of P ≡ some chip → KeepsItsWord chip (all_naming P)

-- That is not about nothing: of every image each question has an answer, whatever size is named.
abbrev pub every_question_is_answered : Type 0
every_question_is_answered = (P : ℕ) (i : List ℕ) → (before : EachAnswer) × ((q : Question) → (all_naming P).Answers q i (before q))
