-- The settings that lent bytes are, one by one, and the change that they are together.
use Rattle.std.specs.Prelude.{ℕ, ◌+◌, ◌*◌, ◌≡◌, Bool, true, false, List, length, get_or}
use Rattle.rules.specs.Steps.{Change, single}
use Rattle.rules.specs.Call.{group_of}

abbrev pub byte_address : List ℕ → ℕ → ℕ
byte_address s k = get_or s (3 * k) 0 + 256 * get_or s (3 * k + 1) 0

abbrev pub byte_value : List ℕ → ℕ → ℕ
byte_value s k = get_or s (3 * k + 2) 0

-- the change that lent bytes are: with marks a group, and without them a single setting, which has three bytes
unfoldable pub change_of : (marks : Bool) → List ℕ → Change
change_of true bytes = group_of bytes
change_of false bytes = single (byte_address bytes 0) (byte_value bytes 0)

abbrev pub Lent : (marks : Bool) → List ℕ → Type 0
Lent marks bytes = marks ≡ false → length bytes ≡ 3
