-- The invariant: the pages passed, of the line of used ones, are counted.
use Prim.Native.Nat.{◌+◌, ◌*◌, ◌≤◌}
use Rattle.pages.specs.Read.{as_form}
use Rattle.survey.specs.Look.{line_of}
use Rattle.broken.specs.Counts.{Counts}
use Rattle.broken.proofs.Counting.{first_conditions}
use Rattle.broken.proofs.count.Given as goal

abbrev pub invariant-loop-page : goal.invariant-loop-page
invariant-loop-page l =
    (l.broken.half + l.broken.spoiled ≤ l.page-index * 509)
    × Counts (first_conditions (as_form l.form) l.image (line_of l.look) l.page-index) l.broken
