-- What a store promises, of any calls that obey the rules: the customer's second and third demand.
use Rattle.std.specs.Prelude.{ℕ, ◌<◌, ◌≡◌, ◌⊎◌, Bool, true, false, List}
use Rattle.rules.specs.Page.{Chip}
use Rattle.rules.specs.Store.{Setting}
use Rattle.rules.specs.Steps.{Change, settings_of}
use Rattle.rules.specs.Owner.{Owner, named_owner}
use Rattle.rules.specs.Call.{RoomyChip, form_of, pages, is_unclean, OK, NO_STORE, DAMAGED, UNCLEAN, Stepped, Reading}
use Rattle.promise.specs.Calls.{Image, Question, value_at, Answer, AsksNone, finds, EachAnswer, with_values, EachOf, Calls, Obeys}
use Rattle.promise.specs.History.{InUse, Recoveries, Interrupted}

module _ (chip : Chip) (C : Calls) where
  -- k answers a question as i does
  abbrev pub Same : (q : Question) (i k : Image) → Type 0
  Same q i k = (before after : Answer q) → C.Answers q i before → C.Answers q k after → after ≡ before

  -- before is what i answers to each question
  abbrev pub AnswersEach : (i : Image) → EachAnswer → Type 0
  AnswersEach i before = (q : Question) → C.Answers q i (before q)

  -- k answers a question as i does, with these settings
  abbrev pub Changed : List Setting → (q : Question) (i k : Image) → Type 0
  Changed rs q i k = (before : EachAnswer) (after : Answer q) → AnswersEach i before → C.Answers q k after → after ≡ with_values rs before q

  -- What a finished write puts at an address, a read by the owner of it finds, of a group each. This is so of every image that the
  -- write accepts.
  pub record Found (rs : List Setting) (i j : Image) : Type 0 where
    pub there : EachOf (λ a v. (timer : Bool) → (named_owner timer).owns a ≡ true → (r : Reading) → C.Answers (value_at timer a) j r → r ≡ finds v) rs
    -- every other address answers as before
    pub elsewhere : (q : Question) → AsksNone q rs → Same q i j
    -- and whatever shows the addresses shows the new values there
    pub everywhere : (q : Question) → Changed rs q i j

  -- Power fails anywhere in the next accepted write of a store in use, and perhaps in the recoveries after it.
  pub record NothingLost (o : Owner) (c : Change) (i : Image) : Type 0 where
    -- Every other address answers as before.
    pub others : {n : ℕ} {k : Image} → Interrupted chip C o c i n k → (q : Question) → AsksNone q (settings_of c) → Same q i k
    -- The written addresses answer all as before the write, or all with the new values; and it is the one or the other for every
    -- question.
    pub old_or_new : {n : ℕ} {k : Image} → Interrupted chip C o c i n k
        → ((q : Question) → Same q i k) ⊎ ((q : Question) → Changed (settings_of c) q i k)
    -- If a failure at one step leaves the new values, a failure at any later step leaves them too.
    pub new_stays : {n m : ℕ} {k l : Image} → Interrupted chip C o c i n k → Interrupted chip C o c i m l → n < m
        → (q : Question) (old : EachAnswer) (one later : Answer q) → AnswersEach i old → C.Answers q k one → C.Answers q l later
        → one ≡ with_values (settings_of c) old q → later ≡ with_values (settings_of c) old q
    -- The store is in use again.
    pub still_in_use : {n : ℕ} {k : Image} → Interrupted chip C o c i n k → InUse chip C k

  -- What a recovery makes of a store in use.
  pub record Mended (i : Image) : Type 0 where
    -- Wherever it was stopped, and however often, every answer is as before.
    pub answers : {k : Image} → Recoveries chip C i k → (q : Question) → Same q i k
    -- It is accepted.
    pub accepted : (n : ℕ) (s : Stepped) → C.Recovers n i s → s.number ≡ OK
    -- When it has finished, no page is unclean and no group open, and a write is not refused as NO STORE, DAMAGED or UNCLEAN.
    pub clean : (n : ℕ) (s : Stepped) → C.Recovers n i s → s.finished ≡ true → is_unclean (pages (form_of chip s.image) s.image) ≡ false
    pub writable : (n : ℕ) (s : Stepped) → C.Recovers n i s → s.finished ≡ true → (o : Owner) (c : Change) (m : ℕ) (w : Stepped)
        → C.Writes o c m s.image w
        → (w.number ≡ NO_STORE → ⊥) × (w.number ≡ DAMAGED → ⊥) × (w.number ≡ UNCLEAN → ⊥)

  pub record KeepsItsWord : Type 0 where
    pub finds_what_is_written : (i : Image) (o : Owner) (c : Change) (n : ℕ) (s : Stepped) → C.Writes o c n i s → s.number ≡ OK
        → s.finished ≡ true → Found (settings_of c) i s.image
    pub loses_nothing : (i : Image) → InUse chip C i → (o : Owner) (c : Change) → NothingLost o c i
    pub mends : (i : Image) → InUse chip C i → Mended i

-- whatever the chip, if a page has more slots than addresses may be held
abbrev pub the_promise : Type 1
the_promise = (chip : Chip) → RoomyChip chip → (C : Calls) → Obeys chip C → KeepsItsWord chip C
