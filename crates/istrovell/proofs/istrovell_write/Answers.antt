use mathlib.Core.Path.{◌∙◌}
use Rattle.istrovell.proofs.istrovell_write.Goals as goal

pub returns : goal.returns
returns c = c.into.ensures c.write.new.image ∙ c.write.ensures
