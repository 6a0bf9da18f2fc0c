use Rattle.changes.specs.Entries.{change_of}
use Rattle.writing.proofs.write_group.Goals as goal

pub returns : goal.returns
unfolding change_of
returns c = c.write_change.ensures
