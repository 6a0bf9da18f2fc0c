use borrow.Author.Rules.{rules}
use Rattle.rules.specs.Word.{checked}
use Rattle.words.proofs.checked.Goals as goal

pub returns : goal.returns
unfolding checked
returns c = search rules
