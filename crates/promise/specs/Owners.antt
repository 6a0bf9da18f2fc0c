-- What the two programs that share a store are promised: neither crowds out the other, and neither shows in what the other reads. Of any
-- calls that obey the rules.
use Rattle.std.specs.Prelude.{ℕ, ◌+◌, ◌≤◌, ◌≡◌, Bool, true, false, not, ◌||◌, List, [], ◌∷◌}
use Rattle.rules.specs.Page.{Chip, Page}
use Rattle.rules.specs.Store.{Setting, value}
use Rattle.rules.specs.Steps.{Change, settings_of}
use Rattle.rules.specs.Owner.{anyone, named_owner, a_foreign, held_by}
use Rattle.rules.specs.Call.{RoomyChip, new_in, no_room, crowded, OK, NO_ROOM, Stepped}
use Rattle.promise.specs.Calls.{Image, Question, value_at, blank_value_at, Answer, Calls, Obeys}
use Rattle.promise.specs.History.{pages_of, RecoveryLeaves, WriteLeaves, InUse}

-- how many addresses one of the two holds, and how many a write of it would leave it with
abbrev pub holds : Chip → (timer : Bool) → Image → ℕ
holds chip timer i = held_by (named_owner timer) (pages_of chip i)

abbrev pub would_hold : Chip → (timer : Bool) → Change → Image → ℕ
would_hold chip timer c i = holds chip timer i + new_in (settings_of c) (pages_of chip i)

abbrev pub NeitherOver128 : Chip → Image → Type 0
NeitherOver128 chip i = (timer : Bool) → holds chip timer i ≤ 128

module _ (chip : Chip) (C : Calls) where
  -- What may befall a store by a write of one of the two: it is accepted, and finishes, is stopped by its allowance or fails in any
  -- step; or it is refused.
  pub data WriteOf (timer : Bool) : (before left : Image) → Type 0 where
    accepted : {i j : Image} {n : ℕ} (c : Change) → WriteLeaves chip C (named_owner timer) c i n j → WriteOf timer i j
    refused : {i : Image} (c : Change) (n : ℕ) (s : Stepped) → C.Writes (named_owner timer) c n i s → (s.number ≡ OK → ⊥) → WriteOf timer i s.image

  -- any sequence of both programs' writes and of recoveries, each finished or stopped anywhere
  pub data Shared : (before left : Image) → Type 0 where
    nothing : {i : Image} → Shared i i
    written : {i j k : Image} (timer : Bool) → Shared i j → WriteOf timer j k → Shared i k
    recovered : {i j k : Image} → Shared i j → RecoveryLeaves chip C j k → Shared i k

  -- From a store in use in which neither holds more than 128, over any such sequence: neither ever does, and a write that leaves its
  -- owner with at most 64 is never told NO ROOM.
  pub record NeitherCrowds (i : Image) : Type 0 where
    pub never_over_128 : {k : Image} → Shared i k → NeitherOver128 chip k
    pub always_64 : {k : Image} → Shared i k → (timer : Bool) (c : Change) (n : ℕ) (s : Stepped) → C.Writes (named_owner timer) c n k s
        → would_hold chip timer c k ≤ 64 → s.number ≡ NO_ROOM → ⊥

  -- A store as one of the two sees it: its own writes, the last first, all accepted and finished; and between them any writes of the
  -- other and any recoveries.
  pub data Run (timer : Bool) : (own : List Change) (before left : Image) → Type 0 where
    begins : {i : Image} → Run timer [] i i
    own : {cs : List Change} {i j : Image} → Run timer cs i j → (c : Change) (n : ℕ) (s : Stepped) → C.Writes (named_owner timer) c n j s
        → s.number ≡ OK → s.finished ≡ true → Run timer (c ∷ cs) i s.image
    other : {cs : List Change} {i j k : Image} → Run timer cs i j → WriteOf (not timer) j k → Run timer cs i k
    recovery : {cs : List Change} {i j k : Image} → Run timer cs i j → RecoveryLeaves chip C j k → Run timer cs i k

-- two stores that agree on the addresses of one of the two, whatever the other's have
abbrev pub AgreeOn : (timer : Bool) (one two : Chip) (i j : Image) → Type 0
AgreeOn timer one two i j = (a : ℕ) → (named_owner timer).owns a ≡ true → value a (pages_of one i) ≡ value a (pages_of two j)

-- the reads and blank reads by one of the two, of whatever address
pub data AsksAs (timer : Bool) : Question → Type 0 where
  reads : (a : ℕ) → AsksAs timer (value_at timer a)
  blank_reads : (a : ℕ) → AsksAs timer (blank_value_at timer a)

-- "Does the firmware from before notice anything?" No: of a write by anyone the two tests that came with the owners refuse nothing.
abbrev pub anyone_writes_as_before : Type 0
anyone_writes_as_before = (rs : List Setting) (ps : List Page) → (a_foreign anyone rs ≡ false) × ((no_room rs ps || crowded anyone rs ps) ≡ no_room rs ps)

-- "Can the timer fill the store, so that the potter's settings don't go in?" No.
abbrev pub neither_crowds_out_the_other : Type 1
neither_crowds_out_the_other = (chip : Chip) → RoomyChip chip → (C : Calls) → Obeys chip C → (i : Image) → InUse chip C i → NeitherOver128 chip i
    → NeitherCrowds chip C i

-- "Can what the timer writes show in what the handset reads?" No. Two stores in use, perhaps on different chips, agree on the addresses of
-- one owner, and it makes the same writes in the same order to both: then every read and blank read by it answers the same.
abbrev pub neither_shows_in_the_others_reads : Type 1
neither_shows_in_the_others_reads = (one two : Chip) → RoomyChip one → RoomyChip two → (C D : Calls) → Obeys one C → Obeys two D
    → (timer : Bool) (own : List Change) (i j : Image) → InUse one C i → InUse two D j → AgreeOn timer one two i j
    → (k l : Image) → Run one C timer own i k → Run two D timer own j l
    → (q : Question) → AsksAs timer q → (r s : Answer q) → C.Answers q k r → D.Answers q l s → r ≡ s
