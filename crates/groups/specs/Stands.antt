-- Where a slot stands, as the code has it.
use Rattle.std.specs.Prelude.{ℕ, ◌≤◌, ◌≡◌, Bool, false, List, map, length, drop}
use Rattle.rules.specs.Word.{Word, low16, third}
use Rattle.rules.specs.Store.{Setting, setting, Place, outside, inside, lost, rightly_closed}
use Rattle.groups.specs.declared.Place.{Place as Code}
use Rattle.groups.specs.declared.Place.TheVariants.{Outside, Inside, Lost}

-- what words are if they are records
abbrev pub as_records : List Word → List Setting
as_records ws = map (λ (w : Word). setting (low16 w) (third w)) ws

-- where the slot behind these stands: in a group those from its first record on are its records
unfoldable pub Stands : Place → List Word → Code → Type 0
Stands outside xs Outside = Unit {0}
Stands (inside n rs) xs (Inside number first) = (number ≡ n) × (first ≤ length xs) × (as_records (drop first xs) ≡ rs)
Stands lost xs Lost = Unit {0}
Stands _ xs _ = ⊥

-- whether the records of a group count by a mark that closes so many
unfoldable pub is_closed : Place → (closing : ℕ) → Bool
is_closed outside m = false
is_closed (inside n rs) m = rightly_closed n m rs
is_closed lost m = false
