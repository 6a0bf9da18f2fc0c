use mathlib.Core.Path.{◌∙◌}
use Rattle.istrovell.proofs.istrovell_blank_read.Goals as goal

pub returns : goal.returns
returns c = c.into.ensures ∙ c.blank_read.ensures
