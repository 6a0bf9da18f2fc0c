use Rattle.rules.specs.Word.{sound}
use Rattle.words.proofs.is_sound.Goals as goal

pub returns : goal.returns
unfolding sound
returns c = rw c.check.ensures.value
