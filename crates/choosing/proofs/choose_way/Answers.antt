-- What comes behind the first tests is the rules', of any image that the store was opened from.
use Prim.Native.Nat.{ℕ}
use mathlib.Core.Path.{sym, subst}
use mathlib.Core.List.{List}
use native.Mathlib.Omega.{arith}
use Rattle.rules.specs.Call.{pages, triples}
use Rattle.owners.specs.Read.{as_owner}
use Rattle.changes.proofs.Entries.{length_triples}
use Rattle.changes.specs.Read.{as_change}
use Rattle.survey.proofs.Looking.{told_few}
use Rattle.store.specs.Opened.{Holding}
use Rattle.store.proofs.Values.{pages_told}
use Rattle.choosing.specs.Known.{Knows}
use Rattle.choosing.specs.Way.{numbered, Passed, Chosen}
use Rattle.choosing.proofs.Ways.{used_few, some_taken, short, stays, refused_room, programs, takes_page}
use Rattle.choosing.proofs.choose_way.Goals as goal
use Rattle.choosing.proofs.choose_way.Goals.{After-told_of-known, After-is_full}

-- what the table told, and what is told of the room, is so in any image that the store was opened from
module _ (c : After-told_of-known) {i : List ℕ} (h : Holding (numbered c.args.slots c.args.edition) i c.args.store.now c.args.table.now) where
  passed : Passed (numbered c.args.slots c.args.edition) (as_owner c.args.owner) (as_change c.args.change.now) (triples c.args.change.now.entries.now) i
  passed = c.in_ok-first_tests.ensures i _ h

  knows : Knows (pages (numbered c.args.slots c.args.edition) i) (triples c.args.change.now.entries.now) c.told_of-known.result
  knows = c.told_of-known.ensures.knows (pages (numbered c.args.slots c.args.edition) i) h.holds passed.addressed

pub first_tests-requires : goal.first_tests-requires
first_tests-requires c = used_few c.requires.1.told c.requires.1.accepted

pub told_of-known-requires : goal.told_of-known-requires
told_of-known-requires c =
    omega (arith, short c.requires.1 c.args.change.now (c.in_ok-first_tests.ensures c.requires.0 _ c.requires.1))

pub returns-then-known : goal.returns-then-known
returns-then-known c =
    let at = (goal.at.returns-then-known c).After-told_of-known in
    λ i h. stays h c.args.change.now (passed at h) (knows at h) c.if-known.true

pub is_full-requires : goal.is_full-requires
is_full-requires c =
    omega (
      arith,
      short c.requires.1 c.args.change.now (c.in_ok-first_tests.ensures c.requires.0 _ c.requires.1),
      c.told_of-known.ensures.result_in_bounds,
      length_triples c.args.change.now.entries.now,
    )

pub returns-then-is_full : goal.returns-then-is_full
returns-then-is_full c =
    let at = (goal.at.returns-then-is_full c).After-told_of-known in
    λ i h.
    let room = c.is_full.ensures (pages (numbered c.args.slots c.args.edition) i) (triples c.args.change.now.entries.now) h.holds (knows at h).new in
    refused_room h c.args.change.now (passed at h) (knows at h) c.if-known.false room c.if-is_full.true

pub returns-then-has_room : goal.returns-then-has_room
returns-then-has_room c =
    let at = (goal.at.returns-then-has_room c).After-told_of-known in
    λ i h.
    let room = c.is_full.ensures (pages (numbered c.args.slots c.args.edition) i) (triples c.args.change.now.entries.now) h.holds (knows at h).new in
    programs h c.args.change.now (passed at h) (knows at h) c.if-known.false room c.if-is_full.false c.slots-takes.ensures (omega arith)

pub new_page-requires-clause-fits : goal.new_page-requires-clause-fits
new_page-requires-clause-fits c = let h = c.requires.1 in (h.told.fits, (told_few (pages_told h) h.told).0)

pub new_page-requires-clause-cleared : goal.new_page-requires-clause-cleared
new_page-requires-clause-cleared c =
    let h = c.requires.1 in
    some_taken h.told h.accepted (passed (goal.at.new_page-requires-clause-cleared c).After-told_of-known h).clean

pub returns : goal.returns
returns c =
    let at = (goal.at.returns c).After-told_of-known in
    λ i h.
    let room = c.is_full.ensures (pages (numbered c.args.slots c.args.edition) i) (triples c.args.change.now.entries.now) h.holds (knows at h).new in
    subst (Chosen (numbered c.args.slots c.args.edition) (as_owner c.args.owner) (as_change c.args.change.now) i) (sym c.new_page.ensures)
    (takes_page h c.args.change.now (passed at h) (knows at h) c.if-known.false room c.if-is_full.false c.slots-takes.ensures (omega arith))
