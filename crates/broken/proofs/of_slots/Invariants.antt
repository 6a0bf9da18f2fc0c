-- The invariant: the slots passed are counted, and the next one stands at the place.
use Prim.Native.Nat.{◌+◌, ◌≤◌}
use lib.ListN.{take}
use Rattle.rules.specs.Word.{words}
use Rattle.groups.specs.Stands.{Stands}
use Rattle.groups.proofs.Standing.{place_at}
use Rattle.broken.specs.Counts.{Counts}
use Rattle.broken.proofs.Counting.{first_slots}
use Rattle.broken.proofs.of_slots.Given as goal

abbrev pub invariant-loop-k : goal.invariant-loop-k
invariant-loop-k l =
    (l.broken.half + l.broken.spoiled ≤ l.k) × Counts (first_slots l.edition l.slots l.k) l.broken
    × Stands (place_at l.edition l.slots l.k) (take l.k (words l.slots)) l.place
