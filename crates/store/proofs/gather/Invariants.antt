-- The invariant: the table holds the records of the pages passed.
use mathlib.Core.Path.{◌≡◌}
use mathlib.Core.List.{[]}
use lib.ListN.{take}
use Rattle.rules.specs.Store.{put_all}
use Rattle.pages.specs.Read.{as_form}
use Rattle.survey.specs.Look.{line_of}
use Rattle.store.specs.Gather.{gathered, Ends}
use Rattle.store.proofs.gather.Given as goal

abbrev pub invariant-loop-k : goal.invariant-loop-k
invariant-loop-k l = record {
  puts : l.table ≡ put_all [] (gathered (as_form l.form) l.image (take l.k (line_of l.look)));
  ends : Ends (as_form l.form) l.image (line_of l.look) l.k l.open_group;
}
