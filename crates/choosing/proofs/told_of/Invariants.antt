-- The invariant: it is known of the settings passed.
use Prim.Native.Nat.{◌≤◌}
use mathlib.Core.Path.{◌≡◌}
use mathlib.Core.Bool.{false}
use mathlib.Core.List.{List}
use lib.ListN.{take}
use Rattle.rules.specs.Page.{Page}
use Rattle.rules.specs.Store.{settings}
use Rattle.rules.specs.Call.{a_wrong_address, triples}
use Rattle.choosing.specs.Known.{Knows}
use Rattle.choosing.proofs.told_of.Given as goal

abbrev pub invariant-loop-k : goal.invariant-loop-k
invariant-loop-k l = record {
  few : l.known.new ≤ l.k;
  knows : (ps : List Page) → l.table ≡ settings ps → a_wrong_address (triples l.entries) ≡ false → Knows ps (take l.k (triples l.entries)) l.known;
}
