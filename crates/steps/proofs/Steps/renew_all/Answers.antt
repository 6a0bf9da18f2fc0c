use Rattle.rules.specs.Steps.{renew_all}
use Rattle.steps.proofs.Doing.{done_nothing}
use Rattle.steps.proofs.Renewing.{renew_all_more}
use Rattle.steps.proofs.Steps.renew_all.Goals as goal

pub loop-page-init : goal.loop-page-init
unfolding renew_all
loop-page-init c = done_nothing c.args.self.now

pub loop-page-preserved : goal.loop-page-preserved
loop-page-preserved c = renew_all_more c.loop-page.page c.loop-page.invariant c.renew.ensures
