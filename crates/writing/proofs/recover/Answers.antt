-- The pages that the look told as unclean are the rules', so many.
use mathlib.Core.Path.{refl}
use native.Mathlib.Omega.{arith}
use borrow.Author.Rules.{rules}
use Rattle.rules.specs.Call.{recover}
use Rattle.survey.proofs.Looking.{counted}
use Rattle.steps.proofs.Doing.{pages_kept}
use Rattle.writing.proofs.Outcomes.{outcome, answered}
use Rattle.writing.proofs.Recovering.{look_few, look_sized, roles_long, abandon_few, unclean_at, recovered}
use Rattle.writing.proofs.Ways.{not_recovered}
use Rattle.writing.proofs.recover.Goals as goal

pub returns-in_err-store : goal.returns-in_err-store
returns-in_err-store c = search (rules, not_recovered)

pub overflow_sub-renewed : goal.overflow_sub-renewed
overflow_sub-renewed c = omega (arith, counted c.in_ok-store.ensures.opens.told)

pub overflow_sub-renewed-2 : goal.overflow_sub-renewed-2
overflow_sub-renewed-2 c = omega (arith, counted c.in_ok-store.ensures.opens.told)

pub renew_picked-requires-clause-pages : goal.renew_picked-requires-clause-pages
renew_picked-requires-clause-pages c =
    let h = c.in_ok-store.ensures.opens in pages_kept c.abandon-abandoned.ensures.done c.in_ok-store.store.look.count (look_few h, omega (arith, look_sized h))

pub renew_picked-requires-clause-callable : goal.renew_picked-requires-clause-callable
renew_picked-requires-clause-callable c = λ page l. let e = roles_long c.in_ok-store.ensures.opens in search rules

pub overflow_cast-renewed : goal.overflow_cast-renewed
overflow_cast-renewed c = omega (arith, look_few c.in_ok-store.ensures.opens)

pub overflow_mul-renewed : goal.overflow_mul-renewed
overflow_mul-renewed c = omega (arith, look_few c.in_ok-store.ensures.opens)

pub overflow_add-abandoned : goal.overflow_add-abandoned
overflow_add-abandoned c =
    let h = c.in_ok-store.ensures.opens in omega (arith, look_few h, c.abandon-abandoned.ensures.many, abandon_few h)

pub returns : goal.returns
unfolding recover
returns c =
    let h = c.in_ok-store.ensures.opens in
    let look = c.in_ok-store.store.look in
    let renewed = c.renew_picked.ensures (unclean_at look) (λ k b l w. search rules) in
    let all = recovered _ h refl c.abandon-abandoned.ensures renewed in
    answered _ h.accepted (outcome all c.of.ensures) (search rules)
