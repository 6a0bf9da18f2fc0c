-- The records that a move copies, out of a table.
use Rattle.std.specs.Prelude.{List}
use Rattle.rules.specs.Store.{Setting}
use Rattle.rules.specs.Steps.{move_records}

-- C12. the records of a move, of that table
abbrev pub copied : (table written : List Setting) → List Setting
copied t rs = move_records rs t
