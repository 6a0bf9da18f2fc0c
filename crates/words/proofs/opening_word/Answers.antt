use borrow.Author.Rules.{rules}
use Rattle.rules.specs.Word.{opening_word}
use Rattle.words.proofs.opening_word.Goals as goal

pub returns : goal.returns
unfolding opening_word
returns c = search rules
