-- What a lent change is in the rules' terms.
use Rattle.rules.specs.Steps.{Change}
use Rattle.changes.specs.declared.change.Change.{Change as Bytes}
use Rattle.changes.specs.Entries.{change_of}

abbrev pub as_change : Bytes → Change
as_change c = change_of c.marks c.entries.now
