-- What the two programs that share a store are promised, of the exported calls. Each statement is of calls that all name the page size that
-- the store's last format named; firmware from before there were owners may have written to it too.
use Rattle.std.specs.Prelude.{ℕ, ◌≡◌, Bool, List}
use Rattle.std.proofs.Math.Option.{some}
use Rattle.rules.specs.Page.{Chip}
use Rattle.rules.specs.Steps.{Change}
use Rattle.rules.specs.Named.{chip_of}
use Rattle.promise.specs.Calls.{Image}
use Rattle.promise.specs.History.{InUse}
use Rattle.promise.specs.Owners.{NeitherOver128, NeitherCrowds, AgreeOn, Run}
use Rattle.istrovell.specs.declared.answers.Reading.{Reading}
use Rattle.istrovell.specs.Demands.{Reads, BlankReads, all_naming}

-- D5. Neither owner crowds out the other. Where neither holds more than 128, neither ever does, over any sequence of both programs'
-- writes and of recoveries; and a write that leaves its owner with at most 64 is never told NO ROOM.
abbrev pub neither_owner_crowds_out_the_other : Type 0
neither_owner_crowds_out_the_other = (P : ℕ) (chip : Chip) → chip_of P ≡ some chip → (i : Image) → InUse chip (all_naming P) i
    → NeitherOver128 chip i → NeitherCrowds chip (all_naming P) i

-- D6. Neither owner shows in the other's reads. Two stores, perhaps of different page sizes, agree on the addresses of one owner. It
-- makes the same writes in the same order to both, all accepted and finished, whatever the other writes, wherever that fails, and
-- whatever recoveries there are. Then every read and every blank read by it answers the same, number and value.
pub record ReadsTheSame (P Q : ℕ) (timer : Bool) (k l : Image) : Type 0 where
  pub reads : (a : ℕ) (r s : Reading) → Reads P timer a k r → Reads Q timer a l s → r ≡ s
  pub blank_reads : (a : ℕ) (r s : Reading) → BlankReads P timer a k r → BlankReads Q timer a l s → r ≡ s

abbrev pub neither_owner_shows_in_the_others_reads : Type 0
neither_owner_shows_in_the_others_reads = (P Q : ℕ) (one two : Chip) → chip_of P ≡ some one → chip_of Q ≡ some two
    → (timer : Bool) (own : List Change) (i j : Image) → InUse one (all_naming P) i → InUse two (all_naming Q) j → AgreeOn timer one two i j
    → (k l : Image) → Run one (all_naming P) timer own i k → Run two (all_naming Q) timer own j l → ReadsTheSame P Q timer k l
