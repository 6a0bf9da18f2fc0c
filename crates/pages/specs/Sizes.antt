-- The sizes of pages that the code is for.
use Rattle.std.specs.Prelude.{ℕ, ◌≤◌, ◌<◌}

-- a page takes all that may be held, 192 addresses, and has at most 2,048 bytes
abbrev pub Fits : (slots : ℕ) → Type 0
Fits slots = (192 < slots) × (slots ≤ 509)
