use native.Mathlib.Omega.{arith}
use Rattle.rules.specs.Steps.{append_steps}
use Rattle.writing.proofs.Changes.{append_long, slots_few, group_words, group_many, group_few, single_words, single_many}
use Rattle.writing.proofs.append.Goals as goal
use Rattle.writing.proofs.append.Goals.{then-change, else-change}

pub program_group-requires-clause-room : goal.program_group-requires-clause-room
program_group-requires-clause-room c =
    let r = c.requires.right in
    let b = c.args.change.now in
    (c.requires.place.0, omega (arith, c.requires.place.1, group_many _ b r c.if-change.true), group_few _ b r)

pub program_group-requires-clause-allowed : goal.program_group-requires-clause-allowed
unfolding append_steps
program_group-requires-clause-allowed c = rw (← group_words _ c.args.change.now c.requires.right c.if-change.true) c.requires.allowed

pub program_records-requires-clause-room : goal.program_records-requires-clause-room
program_records-requires-clause-room c =
    (c.requires.place.0, omega (arith, c.requires.place.1, single_many _ c.args.change.now c.requires.right c.if-change.false))

pub program_records-requires-clause-allowed : goal.program_records-requires-clause-allowed
unfolding append_steps
program_records-requires-clause-allowed c = rw (← single_words _ c.args.change.now c.requires.right c.if-change.false) c.requires.allowed

pub overflow_cast-result : goal.overflow_cast-result
overflow_cast-result c = omega (arith, slots_few _ c.args.change.now c.requires.right c.slots.ensures)

pub overflow_mul-result : goal.overflow_mul-result
overflow_mul-result c = omega (arith, slots_few _ c.args.change.now c.requires.right c.slots.ensures)

pub returns : goal.returns
unfolding append_steps
returns c =
    let b = c.args.change.now in
    let r = c.requires.right in
    record {
      done = elim c.if-change.branch [
        | then-change w ↦ rw (w.steps-is, group_words _ b r w.if-change.true) w.program_group.ensures
        | else-change w ↦ rw (w.steps-is, single_words _ b r w.if-change.false) w.program_records.ensures
      ];
      many = append_long _ b r c.args.page c.args.slot c.slots.result c.slots.ensures;
    }
