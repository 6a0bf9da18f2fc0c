-- The invariant: it is the best of the pages passed.
use mathlib.Core.Path.{◌≡◌}
use lib.ListN.{take}
use Rattle.choosing.specs.Candidate.{as_candidate, least}
use Rattle.choosing.proofs.least_worn.Given as goal

abbrev pub invariant-loop-index : goal.invariant-loop-index
invariant-loop-index l = as_candidate l.best ≡ least 0 (take l.index l.roles)
