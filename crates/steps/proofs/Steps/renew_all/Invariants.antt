-- The invariant: the pages before this one are renewed.
use Rattle.rules.specs.Steps.{renew_all}
use Rattle.steps.specs.Done.{Done}
use Rattle.steps.proofs.Steps.renew_all.Given as goal

abbrev pub invariant-loop-page : goal.invariant-loop-page
invariant-loop-page l = Done l.initial.self (renew_all l.initial.self.form.edition 0 l.page) l.self
