-- What the box may say of the exported calls: how evenly they wear the flash while power does not fail, and how many changes it lasts. Each
-- statement is of calls that all name the page size that the store's format named.
use Rattle.std.specs.Prelude.{ℕ, ◌≡◌}
use Rattle.std.proofs.Math.Option.{some}
use Rattle.rules.specs.Page.{Chip}
use Rattle.rules.specs.Named.{chip_of}
use Rattle.wear.specs.Wear.{wears_evenly, the_first_move_comes_late, moves_are_far_apart, lasts_as_rated}
use Rattle.istrovell.specs.Demands.{all_naming}

-- D7. Even wear. From a finished format on, after each accepted and finished write, single or group, by either owner: every page has a
-- sound wear word, any two wears differ by at most 1, and no page has been erased more than one time more than its even share.
abbrev pub flash_wears_evenly : Type 0
flash_wears_evenly = (P : ℕ) (chip : Chip) → chip_of P ≡ some chip → wears_evenly chip (all_naming P)

-- D8. How long flash lasts. Before the first move, and between two, come as many single writes of new values as there are free slots, but
-- for those of the last cleared page.
abbrev pub the_first_move_is_late : Type 0
the_first_move_is_late = (P : ℕ) (chip : Chip) → chip_of P ≡ some chip → the_first_move_comes_late chip (all_naming P)

abbrev pub moves_come_seldom : Type 0
moves_come_seldom = (P : ℕ) (chip : Chip) → chip_of P ≡ some chip → moves_are_far_apart chip (all_naming P)

-- D8. Flash that is rated for so many erases of a page lasts at least so many changes (`changes_rated` of wear; docs/WEAR.md has the
-- table).
abbrev pub flash_lasts_as_rated : Type 0
flash_lasts_as_rated = (P : ℕ) (chip : Chip) → chip_of P ≡ some chip → lasts_as_rated chip (all_naming P)
