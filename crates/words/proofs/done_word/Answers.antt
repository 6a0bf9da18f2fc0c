use borrow.Author.Rules.{rules}
use Rattle.rules.specs.Word.{done_word}
use Rattle.words.proofs.done_word.Goals as goal

pub returns : goal.returns
unfolding done_word
returns c = search rules
