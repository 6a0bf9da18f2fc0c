-- The invariant: the words before those that were met decide.
use Prim.Native.Nat.{◌≤◌, ◌/◌}
use mathlib.Core.Path.{◌≡◌}
use lib.ListN.{length, take}
use Rattle.rules.specs.Word.{words}
use Rattle.rules.specs.Store.{free_slot}
use Rattle.pages.proofs.free_slot.Given as goal

abbrev pub invariant-loop-last : goal.invariant-loop-last
invariant-loop-last l = (l.last ≤ length l.slots / 4) × (free_slot (words l.slots) ≡ free_slot (take l.last (words l.slots)))
