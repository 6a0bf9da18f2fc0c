use borrow.Author.Rules.{rules}
use Rattle.rules.specs.Call.{write}
use Rattle.writing.proofs.Outcomes.{answered}
use Rattle.writing.proofs.Ways.{not_opened, not_written}
use Rattle.writing.proofs.write_change.Goals as goal

pub returns-in_err-store : goal.returns-in_err-store
returns-in_err-store c = search (rules, not_opened)

pub returns-in_err-way : goal.returns-in_err-way
returns-in_err-way c = let n = c.in_err-way.ensures c.args.image.now c.in_ok-store.ensures.opens in search (rules, not_written)

pub returns : goal.returns
unfolding write
returns c =
    let chosen = c.in_ok-way.ensures c.args.image.now c.in_ok-store.ensures.opens in
    answered _ chosen.0 c.take.ensures.does (search rules)
