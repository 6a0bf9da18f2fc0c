-- The invariant: the first k records are programmed.
use Rattle.rules.specs.Steps.{slots_steps}
use Rattle.changes.proofs.Entries.{first_words}
use Rattle.steps.specs.Done.{Done}
use Rattle.steps.proofs.Steps.program_records.Given as goal

abbrev pub invariant-loop-k : goal.invariant-loop-k
invariant-loop-k l = Done l.initial.self (slots_steps l.page l.slot (first_words l.entries l.k)) l.self
