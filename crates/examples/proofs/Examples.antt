-- The examples, computed. Assumes nothing.
use Prim.Native.Nat.{ℕ, ◌*◌}
use mathlib.Core.Path.{◌≡◌, refl, subst⁻¹}
use mathlib.Core.List.{List}
use lib.Dec.{T}
use Rattle.rules.specs.Flash.{offset, aim, bytes_at, after, run}
use Rattle.rules.specs.Word.{zeros, check, sound, blank, condition, low16, low24, third, checked, wear_word, number_word, opening_word, done_word}
use Rattle.rules.specs.Word.{second_blank, record_word, mark, has_groups, sound_slot, slot, word_steps, words}
use Rattle.rules.specs.Page.{wear_part, opening_part, done_part, slots, is_wear, wear_in, is_opening, order_in, is_done, all_blank, state_after_wear}
use Rattle.rules.specs.Page.{Form, size, state_by, state, page}
use Rattle.rules.specs.Store.{states, order₂, base, used, is_cleared, is_open, order, add_order, used_orders, greatest, active_order, is_active}
use Rattle.rules.specs.Store.{index_of, active_index, add_page, used_pages, insert, oldest_first, behind, closed, counted, scan, place_behind, records}
use Rattle.rules.specs.Store.{each, journal, or_else, last_of, value, put, put_all, settings, held, past, free_slot, active_page, active_slots}
use Rattle.rules.specs.Store.{has_room, in_group, open_group, count, better, offered, least_worn, index, or_value}
use Rattle.rules.specs.Steps.{way, way_steps, new_page, next_order, fill_steps, other, renew, renew_all, format_steps, renewed_wear, greatest_wear}
use Rattle.rules.specs.Steps.{renewals, renew_picked, unclean, slots_steps, abandon_steps, recovery_steps, settings_of, words_of, append_steps, taken}
use Rattle.rules.specs.Steps.{open_steps, but, but_all, move_steps, is_value, all_values, write_steps}
use Rattle.rules.specs.Owner.{a_foreign, held_by}
use Rattle.rules.specs.Call.{first_of, store_rows, blank_read_rows, read_rows, write_rows, cut, page_count, pages, wrong_size, no_store}
use Rattle.rules.specs.Call.{has_edition, own_edition, opens_itself, edition_of, form_of, triples, group_of}
use Rattle.rules.specs.Call.{among, repeats, all_used, damaged, is_unclean, wrong_group, wrong_address, a_wrong_address, is_held, is_new, no_room, crowded}
use Rattle.rules.specs.Call.{order_end, store_number, write_number, blank_read_number, read_number, accepted, format, stepped, recover, write, read}
use Rattle.rules.specs.Call.{reading, blank_value, blank_read, code, all_held, pairing, lookup}
use Rattle.rules.specs.Named.{chip_of, on_chip}
use Rattle.rules.specs.Listing.{is_half, is_spoiled, condition_at, conditions, used_conditions, half, spoiled}
use Rattle.rules.proofs.Laid.{laid, laid_all, within, format_laid}
use Rattle.examples.specs.Examples.{same, holds, bytes, told, kind, said, yes_no, did, showed, done_by, broken, stands, form₁, form₂}
use Rattle.examples.specs.Examples.{form₃, empty_flash, numbers, written, grouped, with_word, reads_of, write_of, filled}
use Rattle.examples.specs.Examples.{told_by, rows, table, the_examples_hold}

-- two formatted pages of a form, computed in one pass for each step
abbrev two_pages : Form → List ℕ
two_pages fm = laid_all (size fm) (format_steps fm.edition 2) (empty_flash (2 * size fm))

record Formatted_each : Type 0 where
  first_edition : (format form₁ (empty_flash 2048)).image ≡ two_pages form₁
  second_edition : (format form₂ (empty_flash 2048)).image ≡ two_pages form₂
  third_edition : (format form₃ (empty_flash 4096)).image ≡ two_pages form₃

each_formatted : Formatted_each
unfolding within format_steps renew_all renew word_steps wear_word opening_word number_word checked offset aim wrong_size page_count
each_formatted =
    record {
      first_edition = format_laid form₁ 2 (empty_flash 2048) refl refl refl;
      second_edition = format_laid form₂ 2 (empty_flash 2048) refl refl refl;
      third_edition = format_laid form₃ 2 (empty_flash 4096) refl refl refl;
    }

computed : T (holds (rows (two_pages form₁) (two_pages form₂) (two_pages form₃)))
unfolding same holds bytes told kind said yes_no did showed done_by broken stands laid laid_all numbers written grouped with_word rows reads_of
    write_of filled told_by chip_of on_chip offset aim bytes_at after run zeros check sound blank second_blank condition is_half is_spoiled
    condition_at conditions used_conditions half spoiled low16 low24 third checked wear_word number_word opening_word done_word record_word mark
    has_groups sound_slot slot word_steps words wear_part opening_part done_part slots is_wear wear_in is_opening order_in is_done all_blank
    state_after_wear state_by state page states order₂ base used is_cleared is_open order add_order used_orders greatest active_order is_active
    index_of active_index add_page used_pages insert oldest_first behind closed counted scan place_behind records each journal or_else last_of value
    put put_all settings held past free_slot active_page active_slots has_room in_group open_group count better offered least_worn index renew
    renew_all format_steps renewed_wear greatest_wear renewals renew_picked unclean slots_steps abandon_steps recovery_steps settings_of words_of
    append_steps taken open_steps but but_all move_steps is_value all_values write_steps first_of store_rows blank_read_rows read_rows write_rows way
    way_steps new_page next_order fill_steps other cut page_count pages wrong_size has_edition own_edition opens_itself edition_of form_of triples
    group_of no_store among repeats all_used damaged is_unclean wrong_group wrong_address a_wrong_address a_foreign held_by is_held is_new no_room
    crowded order_end store_number write_number blank_read_number read_number accepted format stepped recover write or_value reading read blank_value
    blank_read code all_held pairing lookup
computed = tt

pub examples : the_examples_hold
unfolding table
examples =
    subst⁻¹ (λ (i : List ℕ). T (holds (rows i (format form₂ (empty_flash 2048)).image (format form₃ (empty_flash 4096)).image)))
    each_formatted.first_edition
    (subst⁻¹ (λ (i : List ℕ). T (holds (rows (two_pages form₁) i (format form₃ (empty_flash 4096)).image))) each_formatted.second_edition
    (subst⁻¹ (λ (i : List ℕ). T (holds (rows (two_pages form₁) (two_pages form₂) i))) each_formatted.third_edition computed))
