use mathlib.Core.Path.{◌∙◌}
use Rattle.istrovell.proofs.istrovell_write_group.Goals as goal

pub returns : goal.returns
returns c = c.into.ensures c.write_group.new.image ∙ c.write_group.ensures
