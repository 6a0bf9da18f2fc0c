use borrow.Author.Rules.{rules}
use Rattle.writing.proofs.Recovering.{abandoned, not_abandoned}
use Rattle.writing.proofs.abandon.Goals as goal

pub returns-then-not-is_open : goal.returns-then-not-is_open
returns-then-not-is_open c = search (rules, not_abandoned)

pub returns : goal.returns
returns c = search (rules, abandoned)
