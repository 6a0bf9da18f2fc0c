-- Each arm does the steps of the way that was chosen.
use Rattle.writing.proofs.Changes.{entries_few}
use Rattle.writing.proofs.Ways.{right, stayed, append_fits, append_allowed, appended, open_fits, open_allowed, opened}
use Rattle.writing.proofs.Ways.{tabled, move_fits, move_allowed, moved_all}
use Rattle.writing.proofs.follow.Goals as goal

pub append-requires-clause-right : goal.append-requires-clause-right
append-requires-clause-right c =
    right c.args.steps.now c.args.change.now c.requires.chosen.0 c.requires.opened c.requires.chosen.1

pub append-requires-clause-place : goal.append-requires-clause-place
append-requires-clause-place c =
    let g = c.in-Append in
    append_fits c.args.steps.now c.args.change.now c.requires.chosen.0 c.requires.opened c.requires.chosen.1 g.page g.slot g.is

pub append-requires-clause-allowed : goal.append-requires-clause-allowed
append-requires-clause-allowed c =
    let g = c.in-Append in
    append_allowed c.args.steps.now c.args.change.now c.requires.chosen.0 c.requires.opened c.requires.chosen.1 g.page g.slot g.is

pub open_page-requires-clause-right : goal.open_page-requires-clause-right
open_page-requires-clause-right c =
    right c.args.steps.now c.args.change.now c.requires.chosen.0 c.requires.opened c.requires.chosen.1

pub open_page-requires-clause-place : goal.open_page-requires-clause-place
open_page-requires-clause-place c =
    let g = c.in-Open in
    open_fits c.args.steps.now c.args.change.now c.requires.chosen.0 c.requires.opened c.requires.chosen.1 g.page g.order g.is

pub open_page-requires-clause-allowed : goal.open_page-requires-clause-allowed
open_page-requires-clause-allowed c =
    let g = c.in-Open in
    open_allowed c.args.steps.now c.args.change.now c.requires.chosen.0 c.requires.opened c.requires.chosen.1 g.page g.order g.is

pub move_to-requires-clause-place : goal.move_to-requires-clause-place
move_to-requires-clause-place c =
    let g = c.in-Move in
    move_fits c.args.steps.now c.args.change.now c.requires.chosen.0 c.requires.opened c.requires.chosen.1 g.page g.order g.is

pub move_to-requires-clause-short : goal.move_to-requires-clause-short
move_to-requires-clause-short c =
    let b = c.args.change.now in
    entries_few _ b (right c.args.steps.now b c.requires.chosen.0 c.requires.opened c.requires.chosen.1)

pub move_to-requires-clause-tabled : goal.move_to-requires-clause-tabled
move_to-requires-clause-tabled c =
    let g = c.in-Move in
    tabled c.args.steps.now c.args.change.now c.requires.chosen.0 c.requires.opened c.requires.chosen.1 g.page g.order g.is

pub move_to-requires-clause-allowed : goal.move_to-requires-clause-allowed
move_to-requires-clause-allowed c =
    let g = c.in-Move in
    move_allowed c.args.steps.now c.args.change.now c.requires.chosen.0 c.requires.opened c.requires.chosen.1 g.page g.order g.is

pub returns-in-Stay : goal.returns-in-Stay
returns-in-Stay c =
    stayed c.args.steps.now c.args.change.now c.requires.chosen.0 c.requires.opened c.requires.chosen.1 c.in-Stay.is

pub returns-in-Append : goal.returns-in-Append
returns-in-Append c =
    let g = c.in-Append in
    appended c.args.steps.now c.args.change.now c.requires.chosen.0 c.requires.opened c.requires.chosen.1 g.page g.slot g.is c.append.ensures

pub returns-in-Open : goal.returns-in-Open
returns-in-Open c =
    let g = c.in-Open in
    opened c.args.steps.now c.args.change.now c.requires.chosen.0 c.requires.opened c.requires.chosen.1 g.page g.order g.is c.open_page.ensures

pub returns-in-Move : goal.returns-in-Move
returns-in-Move c =
    let g = c.in-Move in
    moved_all c.args.steps.now c.args.change.now c.requires.chosen.0 c.requires.opened c.requires.chosen.1 g.page g.order g.is c.move_to.ensures
