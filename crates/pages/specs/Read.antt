-- What the code's states and forms are in the rules' terms.
use Rattle.std.specs.Prelude.{ℕ, ◌≤◌}
use Rattle.std.specs.Prelude.{Option as Optional, None, Some}
use Rattle.std.proofs.Math.Option.{Option, none, some}
use Rattle.rules.specs.Page.{Form, Chip, State, cleared, open₁, open₂, receiving, bad}
use Rattle.rules.specs.Call.{Roomy, RoomyChip}
use Rattle.pages.specs.declared.form.Form.{Form as Numbers}
use Rattle.pages.specs.declared.form.Chip.{Chip as ChipNumbers}
use Rattle.pages.specs.declared.State.{State as Answer}
use Rattle.pages.specs.declared.State.TheVariants.{Cleared, Open1, Open2, Receiving, Bad}

-- the state that each case names
abbrev pub as_state : Answer → State
as_state (Cleared wear) = cleared wear
as_state (Open1 order) = open₁ order
as_state (Open2 order) = open₂ order
as_state Receiving = receiving
as_state Bad = bad

-- the form of two numbers
abbrev pub as_form : Numbers → Form
as_form f = record { slot_count = f.slots; edition = f.edition }

-- the forms that the code is for: a page takes all that may be held, and has at most 2,048 bytes
abbrev pub Lawful : Numbers → Type 0
Lawful f = Roomy (as_form f) × (f.slots ≤ 509)

-- the chip of three numbers; 0 is no edition
abbrev pub as_chip : ChipNumbers → Chip
as_chip c = record { slot_count = c.slots; first = c.first; last = c.last }

abbrev pub LawfulChip : ChipNumbers → Type 0
LawfulChip c = RoomyChip (as_chip c) × (c.slots ≤ 509) × (1 ≤ c.first)

-- a number, if there is one
abbrev pub as_option : Optional ℕ → Option ℕ
as_option None = none
as_option (Some n) = some n

-- the chip that a page size names
abbrev pub as_named : Optional ChipNumbers → Option Chip
as_named None = none
as_named (Some c) = some (as_chip c)
