-- A mark, the records, a mark.
use Rattle.steps.proofs.Groups.{opening_ready, records_ready, closing_ready, group_done}
use Rattle.steps.proofs.Steps.program_group.Goals as goal

pub program_word-requires-clause-allowed : goal.program_word-requires-clause-allowed
program_word-requires-clause-allowed c =
    let a = c.args in
    rw c.mark_word.ensures (opening_ready a.page a.slot a.entries.now a.self.now c.requires.allowed)

pub program_records-requires-clause-allowed : goal.program_records-requires-clause-allowed
program_records-requires-clause-allowed c =
    let a = c.args in
    records_ready a.page a.slot a.entries.now a.self.now c.requires.allowed (rw c.mark_word.ensures at c.program_word.ensures)

pub program_word-requires-2-clause-allowed : goal.program_word-requires-2-clause-allowed
program_word-requires-2-clause-allowed c =
    let a = c.args in
    rw c.mark_word-2.ensures
    (closing_ready a.page a.slot a.entries.now a.self.now c.requires.allowed (rw c.mark_word.ensures at c.program_word.ensures)
    c.program_records.ensures)

pub returns : goal.returns
returns c =
    let a = c.args in
    group_done a.page a.slot a.entries.now a.self.now c.requires.allowed (rw c.mark_word.ensures at c.program_word.ensures)
    c.program_records.ensures (rw c.mark_word-2.ensures at c.program_word-2.ensures)
