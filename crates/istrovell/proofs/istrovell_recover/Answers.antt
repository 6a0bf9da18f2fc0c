use mathlib.Core.Path.{◌∙◌}
use Rattle.istrovell.proofs.istrovell_recover.Goals as goal

pub returns : goal.returns
returns c = c.into.ensures c.recover.new.image ∙ c.recover.ensures
