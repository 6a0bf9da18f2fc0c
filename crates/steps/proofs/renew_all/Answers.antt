-- There is room for all the steps.
use mathlib.Core.Path.{◌∙◌}
use native.Mathlib.Omega.{arith}
use borrow.Author.Rules.{rules}
use Rattle.rules.proofs.Lengths.{renew_all_long}
use Rattle.steps.proofs.Doing.{done_all}
use Rattle.steps.proofs.renew_all.Goals as goal

pub returns : goal.returns
returns c = search rules ∙ done_all c.renew_all.ensures (omega (arith, renew_all_long c.args.form.edition 0 c.args.n))
