-- The exported calls wear the flash evenly, and it lasts as it is rated. Assumes nothing.
use Prim.Native.Nat.{ℕ}
use mathlib.Core.Path.{◌≡◌}
use mathlib.Core.Option.{some}
use Rattle.rules.specs.Page.{Chip}
use Rattle.rules.specs.Named.{chip_of}
use Rattle.rules.proofs.Named.{named_roomy}
use Rattle.wear.specs.Wear.{BoxSays}
use Rattle.wear.proofs.Box.{box}
use Rattle.istrovell.specs.Demands.{all_naming}
use Rattle.istrovell.specs.Wear.{flash_wears_evenly, the_first_move_is_late, moves_come_seldom, flash_lasts_as_rated}
use Rattle.istrovell.proofs.Demands.{obey}

box_says : (P : ℕ) (chip : Chip) → chip_of P ≡ some chip → BoxSays chip (all_naming P)
box_says P chip named = box chip (named_roomy P chip named) (all_naming P) (obey P chip named)

pub wears_flash_evenly : flash_wears_evenly
wears_flash_evenly P chip named = (box_says P chip named).evenly

pub first_move_late : the_first_move_is_late
first_move_late P chip named = (box_says P chip named).first_move

pub moves_seldom : moves_come_seldom
moves_seldom P chip named = (box_says P chip named).far_apart

pub lasts : flash_lasts_as_rated
lasts P chip named = (box_says P chip named).as_rated
