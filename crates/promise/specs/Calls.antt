-- The calls as the promise sees them: which outcomes of each are possible. The rules are one such set of calls, the exported
-- functions are another. Each is of one chip.
use Rattle.std.specs.Prelude.{ℕ, ◌≤◌, ◌≡◌, Bool, true, false, cond, ◌&&◌, List, [], ◌∷◌, eqb}
use Rattle.std.proofs.Math.Option.{Option, none, some}
use Rattle.rules.specs.Page.{Form, Chip, in_edition}
use Rattle.rules.specs.Store.{Setting, setting}
use Rattle.rules.specs.Steps.{Change}
use Rattle.rules.specs.Owner.{Owner, named_owner}
use Rattle.rules.specs.Call.{OK, Formatted, Stepped, Reading, Pairing, accepted, format, recover, write, read, blank_read, code, pairing, lookup}
use Rattle.rules.specs.Call.{has_edition, form_of}

abbrev pub Image : Type 0
Image = List ℕ

-- The calls that only look, as questions: read and blank read, each by one of the two owners, and pairing lookup.
pub data Question : Type 0 where
  value_at blank_value_at : (timer : Bool) (address : ℕ) → Question
  pairing_code : Question

abbrev pub Answer : Question → Type 0
Answer (value_at timer x) = Reading
Answer (blank_value_at timer x) = Reading
Answer pairing_code = Pairing

-- the addresses that a question asks for
abbrev pub Asks : Question → ℕ → Type 0
Asks (value_at timer x) a = x ≡ a
Asks (blank_value_at timer x) a = x ≡ a
Asks pairing_code a = (16 ≤ a) × (a ≤ 19)

-- the answer of a read that finds v; and what a read found, if it was not refused
abbrev pub finds : ℕ → Reading
finds v = record { number = OK; value = v }

unfoldable pub found_value : Reading → Option ℕ
found_value r = cond (accepted r.number) (some r.value) none

-- an answer to each question
abbrev pub EachAnswer : Type 0
EachAnswer = (q : Question) → Answer q

-- a question of a by the one that owns it
unfoldable pub its_own : (a : ℕ) (timer : Bool) (x : ℕ) → Bool
its_own a timer x = eqb x a && (named_owner timer).owns x

-- The answers with v in them as the value of a, for its owner, and otherwise as before. Which addresses of the pairing code are held, an
-- answer of the lookup does not tell; the reads of the handset, which owns them, do.
unfoldable pub with_value : (a v : ℕ) → EachAnswer → EachAnswer
with_value a v before (value_at timer x) = cond (its_own a timer x) (finds v) (before (value_at timer x))
with_value a v before (blank_value_at timer x) = cond (its_own a timer x) (finds v) (before (blank_value_at timer x))
with_value a v before pairing_code = pairing (code (λ x. cond (eqb x a) (some v) (found_value (before (value_at false x)))))

-- the answers with all of these settings in them
unfoldable pub with_values : List Setting → EachAnswer → EachAnswer
with_values [] before = before
with_values (setting a v ∷ rs) before = with_values rs (with_value a v before)

-- of each of these settings
unfoldable pub EachOf : (address_and_value : ℕ → ℕ → Type 0) → List Setting → Type 0
EachOf P [] = Unit {0}
EachOf P (setting a v ∷ rs) = P a v × EachOf P rs

-- a question that asks for no address of these settings
abbrev pub AsksNone : Question → List Setting → Type 0
AsksNone q rs = EachOf (λ a v. Asks q a → ⊥) rs

-- Which outcome of a call is possible, by the image at the call. Format is told an edition; a write, by an owner, is one of a single
-- setting or one of a group.
pub record Calls : Type 1 where
  pub Formats : (edition : ℕ) → Image → Formatted → Type 0
  pub Recovers : (allowance : ℕ) → Image → Stepped → Type 0
  pub Writes : (owner : Owner) (change : Change) (allowance : ℕ) → Image → Stepped → Type 0
  pub Answers : (q : Question) → Image → Answer q → Type 0

-- what the rules answer
unfoldable pub answer : (form : Form) (q : Question) → Image → Answer q
answer fm (value_at timer x) i = read fm (named_owner timer) x i
answer fm (blank_value_at timer x) i = blank_read fm (named_owner timer) x i
answer fm pairing_code i = lookup fm i

-- An image is read by the edition that it has; format can be told those that the chip has.
abbrev pub by_the_rules : Chip → Calls
by_the_rules chip =
    record {
      Formats = λ e i f. (has_edition chip e ≡ true) × (f ≡ format (in_edition chip e) i);
      Recovers = λ n i s. s ≡ recover (form_of chip i) n i;
      Writes = λ o c n i s. s ≡ write (form_of chip i) o c n i;
      Answers = λ q i r. r ≡ answer (form_of chip i) q i;
    }

-- calls that do only what the rules say
pub record Obeys (chip : Chip) (C : Calls) : Type 0 where
  pub formats : (e : ℕ) (i : Image) (f : Formatted) → C.Formats e i f → (has_edition chip e ≡ true) × (f ≡ format (in_edition chip e) i)
  pub recovers : (n : ℕ) (i : Image) (s : Stepped) → C.Recovers n i s → s ≡ recover (form_of chip i) n i
  pub writes : (o : Owner) (c : Change) (n : ℕ) (i : Image) (s : Stepped) → C.Writes o c n i s → s ≡ write (form_of chip i) o c n i
  pub answers : (q : Question) (i : Image) (r : Answer q) → C.Answers q i r → r ≡ answer (form_of chip i) q i
