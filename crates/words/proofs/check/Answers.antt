use borrow.Author.Rules.{rules}
use Rattle.rules.specs.Word.{check}
use Rattle.words.proofs.check.Goals as goal

pub returns : goal.returns
unfolding check
returns c = record { value = search rules; upper_bound = search rules }
