use mathlib.Core.Path.{◌≡◌, sym, ap, ◌∙◌}
use native.Mathlib.Omega.{arith}
use Rattle.rules.specs.Steps.{one_more, renewed_wear}
use Rattle.pages.specs.Read.{as_form}
use Rattle.rules.specs.Store.{or_value}
use Rattle.rules.specs.Call.{page_in}
use Rattle.steps.proofs.Doing.{pages_kept}
use Rattle.steps.proofs.Greatest.{value_or}
use Rattle.steps.proofs.Picked.{passed_none, passed_by, passed_picked, passed_all}
use Rattle.steps.proofs.Steps.renew_picked.Goals as goal
use Rattle.steps.proofs.Steps.renew_picked.Goals.{In-loop-page, then-picks, else-picks}

pub loop-page-init : goal.loop-page-init
loop-page-init g c =
    let s = c.args.self.now in
    record {
      pages = c.requires.pages;
      passed = λ test h. passed_none s c.args.n test c.greatest_wear-greatest.result c.greatest_wear-greatest.ensures;
    }

pub loop-page-preserved : goal.loop-page-preserved
unfolding renewed_wear
loop-page-preserved g c =
    let l = c.loop-page in
    let s = c.args.self.now in
    elim c.if-picks.branch [
      | then-picks w ↦
          let d = w.renew.ensures in
          let wear_is : w.one_more-wear.result ≡ one_more (or_value (page_in (as_form l.self.form) l.page l.self.image.now).wear l.greatest) =
          w.one_more-wear.ensures ∙ ap one_more (w.unwrap_or.ensures ∙ value_or w.wear.result l.greatest ∙ ap (λ o. or_value o l.greatest) w.wear.ensures) in
          rw (w.self-is, w.greatest-is) (record {
            pages = pages_kept d c.args.n l.invariant.pages;
            passed = λ test h. passed_picked s c.args.n test (l.invariant.passed test h) (omega arith)
                (sym (h l.page c.picks.result (omega arith) c.picks.ensures) ∙ w.if-picks.true) wear_is d w.max-greatest.ensures;
          })
      | else-picks w ↦
          rw (w.self-is, w.greatest-is) (record {
            pages = l.invariant.pages;
            passed = λ test h. passed_by s c.args.n test (l.invariant.passed test h) (omega arith)
                (sym (h l.page c.picks.result (omega arith) c.picks.ensures) ∙ w.if-picks.false);
          })
    ]

pub returns : goal.returns
returns g c test h = passed_all c.args.self.now c.args.n test (c.loop-page.invariant.passed test h) (omega arith)
