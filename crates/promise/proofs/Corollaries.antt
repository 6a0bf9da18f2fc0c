-- The corollaries, proved. Assumes nothing.
use Prim.Native.Nat.{ℕ}
use mathlib.Core.Path.{◌≡◌, refl, sym, ap, ap₂, ◌∙◌, subst⁻¹}
use mathlib.Core.Logic.{inl, inr, ⊎_elim}
use mathlib.Core.Bool.{true, false}
use mathlib.Core.List.{List, [], ◌∷◌, ◌++◌, map}
use mathlib.Core.Option.{Option, none, some}
use native.Mathlib.Omega.{arith}
use lib.ListN.{length, get_or, take, drop}
use lib.Seq.{sets}
use Rattle.rules.specs.Flash.{Step, program, first, second, offset, aim, after, run, bytes_at, Rises, none as no_bytes, more as byte, least, failing}
use Rattle.rules.specs.Word.{Word, zeros, check, sound, blank, condition, low16, low24, third, checked, wear_word, number_word, opening_word}
use Rattle.rules.specs.Word.{record_word, second_blank, Slot, recorded, opens, closes, neither, slot, sound_slot, has_groups, word_steps, words}
use Rattle.rules.specs.Page.{Form, size, Chip, wear_part, opening_part, done_part, slots, is_wear, wear_in, is_opening, order_in, is_done, all_blank}
use Rattle.rules.specs.Page.{state_after_wear, state_by, state, page}
use Rattle.rules.specs.Store.{states, order₂, base, used, is_cleared, is_open, order, add_order, used_orders, greatest, active_order, is_active}
use Rattle.rules.specs.Store.{index_of, active_index, add_page, used_pages, insert, oldest_first, Setting, Place, outside, behind, counted, scan}
use Rattle.rules.specs.Store.{place_behind, records, each, journal, or_else, last_of, value, put, put_all, settings, held, past, free_slot, active_page}
use Rattle.rules.specs.Store.{active_slots, has_room, in_group, open_group, count, or_value}
use Rattle.rules.specs.Steps.{Change, single, group, settings_of, words_of, way, way_steps, new_page, next_order, fill_steps, other, renew, renew_all}
use Rattle.rules.specs.Steps.{format_steps, unclean, slots_steps, abandon_steps, recovery_steps, append_steps, is_value, all_values, write_steps}
use Rattle.rules.specs.Owner.{handset, a_foreign, held_by}
use Rattle.rules.specs.Call.{Formatted, Stepped, stepped, write, first_of, store_rows, blank_read_rows, read_rows, write_rows, RoomyChip}
use Rattle.rules.specs.Call.{OK, cut, page_count, pages, own_edition, has_edition, opens_itself, edition_of, form_of, wrong_size, no_store, among, repeats}
use Rattle.rules.specs.Call.{all_used, damaged, is_unclean, wrong_group, wrong_address, a_wrong_address, is_held, is_new, no_room, crowded, order_end}
use Rattle.rules.specs.Call.{store_number, write_number, blank_read_number, read_number, accepted, format, reading, read, blank_value, code, all_held}
use Rattle.rules.specs.Call.{pairing}
use Rattle.rules.specs.Named.{smaller_chip, larger_chip}
use Rattle.rules.proofs.Bits.{rises_refl}
use Rattle.rules.proofs.Laid.{laid, laid_all, within, format_laid}
use Rattle.rules.proofs.Plans.{BytesLeft}
use Rattle.rules.proofs.Rows.{write_fails}
use Rattle.rules.proofs.Groups.{stays_out, none_open}
use Rattle.rules.proofs.Good.{changed}
use Rattle.rules.proofs.Ready.{format_allowed}
use Rattle.rules.proofs.Answers.{format_done, stepped_done}
use Rattle.promise.specs.Calls.{Image, pairing_code, finds, by_the_rules, Obeys}
use Rattle.promise.specs.History.{write_of, FailsAfter, formatted, none as no_more, Interrupted}
use Rattle.promise.specs.Corollaries.{Used, the_code_survives, never_half_a_code, a_paired_handset_stays_paired, an_edition_stays}
use Rattle.promise.specs.Corollaries.{orders_differ, a_page_is_spare, never_over_full, recorded_in, the_first_edition_is_as_it_was}
use Rattle.promise.specs.Corollaries.{every_step_may_be_done, first_form, new_flash, fresh_store, finds_nothing, SuchAStore, not_about_nothing}
use Rattle.rules.proofs.Healthy.{Healthy, few_here, apart_here, spare_here, accepted_healthy, recovery_allowed, write_allowed}
use Rattle.promise.proofs.Answers.{lookup_is, paired_if, still_held}
use Rattle.promise.proofs.Kept.{Well, in_use_healthy, either, form_stays, kept}

obeyed : (chip : Chip) → Obeys chip (by_the_rules chip)
obeyed chip = record { formats = λ e i f p. p; recovers = λ n i s e. e; writes = λ o c n i s e. e; answers = λ q i r e. e }

pub code_survives : the_code_survives
code_survives chip roomy i u o c n k x =
    ⊎_elim (λ same. inl (same pairing_code)) (λ new. inr (new pairing_code))
    (((kept chip roomy (by_the_rules chip) (obeyed chip)).loses_nothing i u o c).old_or_new x)

holds : (chip : Chip) (roomy : RoomyChip chip) → {i : Image} → Used chip i
    → (t : ℕ → Option ℕ) × Well chip roomy (by_the_rules chip) (obeyed chip) t i
holds chip roomy u = in_use_healthy chip roomy (by_the_rules chip) (obeyed chip) u

-- a group that has all four digits gives them, whatever was there
digits_given : (rs : List Setting) (t : ℕ → Option ℕ) (d₀ d₁ d₂ d₃ : ℕ) → code (λ a. last_of a rs) ≡ some d₀ ∷ some d₁ ∷ some d₂ ∷ some d₃ ∷ []
    → pairing (code (changed rs t)) ≡ record { number = OK; paired = true; digits = d₀ ∷ d₁ ∷ d₂ ∷ d₃ ∷ [] }
unfolding pairing code all_held is_held blank_value or_value or_else
digits_given rs t d₀ d₁ d₂ d₃ all =
    let digit : (k : ℕ) → get_or (code (λ a. last_of a rs)) k none ≡ get_or (some d₀ ∷ some d₁ ∷ some d₂ ∷ some d₃ ∷ []) k none =
    λ k. ap (λ (os : List (Option ℕ)). get_or os k none) all in
    rw (digit 0, digit 1, digit 2, digit 3)

pub never_half : never_half_a_code
unfolding settings_of holds
never_half chip roomy i u rs d₀ d₁ d₂ d₃ all o n k x =
    let h = holds chip roomy u in
    ⊎_elim (λ g. inl (lookup_is g ∙ sym (lookup_is h.1))) (λ g. inr (lookup_is g ∙ digits_given rs h.0 d₀ d₁ d₂ d₃ all))
    (either chip roomy (by_the_rules chip) (obeyed chip) i u o (group rs) x)

pub stays_paired : a_paired_handset_stays_paired
unfolding holds
stays_paired chip roomy i u p o c n k x =
    let h = holds chip roomy u in
    let was = sym (paired_if h.1) ∙ p in
    ⊎_elim (λ g. paired_if g ∙ was) (λ g. paired_if g ∙ still_held (settings_of c) h.0 was) (either chip roomy (by_the_rules chip) (obeyed chip) i u o c x)

pub edition_stays : an_edition_stays
edition_stays chip roomy i u o c n k x = form_stays chip roomy (by_the_rules chip) (obeyed chip) i u o c x

pub differing : orders_differ
differing chip roomy i u = apart_here (holds chip roomy u).1

pub spared : a_page_is_spare
spared chip roomy i u = spare_here (holds chip roomy u).1

pub not_over_full : never_over_full
not_over_full chip roomy i u = few_here (holds chip roomy u).1

pub may_be_done : every_step_may_be_done
may_be_done fm roomy i =
    let healthy : store_number fm i ≡ OK → Healthy fm ⊥ ⊥ (λ x. value x (pages fm i)) i = λ ok. accepted_healthy fm roomy ⊥ i ok (λ z. absurd z) in
    record {
      format_steps_may = format_allowed fm i;
      recovery_steps_may = λ ok. recovery_allowed (healthy ok);
      write_steps_may = λ o c ok. write_allowed (healthy (write_fails fm i o c ok).stored) o c ok;
    }

-- ---- where there are no groups

one_by_one : (e : ℕ) → has_groups e ≡ false → (ws : List Word) → records e ws ≡ each recorded_in (map (slot e) ws)
unfolding records scan each counted recorded_in
one_by_one e h [] = refl
one_by_one e h (w ∷ ws) =
    ap₂ (λ (rs ts : List Setting). rs ++ ts) (alone (slot e w))
    (ap (λ (at : Place). scan at (map (slot e) ws)) (stays_out e w h) ∙ one_by_one e h ws)
  where
    alone : (s : Slot) → counted outside s ≡ recorded_in s
    alone (recorded a v) = refl
    alone (opens n) = refl
    alone (closes n) = refl
    alone (neither c) = refl

pub as_it_was : the_first_edition_is_as_it_was
unfolding pages recovery_steps abandon_steps
as_it_was fm h i =
    let none = none_open fm.edition (cut (size fm) (page_count fm i) i) h in
    record { records_one_by_one = one_by_one fm.edition h; none_open = none; renews_only = rw none }

-- ---- a store, and a write whose power fails

abbrev change : Change
change = single 5 65

module _ (chip : Chip) where
  abbrev fm : Form
  fm = first_form chip

  -- the fresh store, computed in one pass for each step of the format
  laid_out : List ℕ
  laid_out = laid_all (size fm) (format_steps fm.edition 2) (new_flash chip)

  -- it with two bytes in the second half of slot 0 of page 0, after the first half of the record
  with_second : (c d : ℕ) → List ℕ
  with_second c d = sets (after (size fm) (program 0 3 first 5 0) laid_out) (offset (size fm) (program 0 3 second 65 20)) (c ∷ d ∷ [])

  -- what the rules compute of it
  record Computed : Type 0 where
    lawful : wrong_size fm (new_flash chip) ≡ false
    two : page_count fm (new_flash chip) ≡ 2
    has_first : has_edition chip chip.first ≡ true
    all_within : within (size fm) (length (new_flash chip)) (format_steps fm.edition 2) ≡ true
    edition : form_of chip laid_out ≡ fm
    accepted : write_number fm handset change laid_out ≡ OK
    steps : write_of fm change laid_out ≡ program 0 3 first 5 0 ∷ program 0 3 second 65 20 ∷ []
    torn : bytes_at 12 4 (with_second 67 20) ≡ 0x05 ∷ 0x00 ∷ 0x43 ∷ 0x14 ∷ []
    torn_reads : read (form_of chip (with_second 67 20)) handset 5 (with_second 67 20) ≡ finds_nothing
    whole : bytes_at 12 4 (with_second 65 20) ≡ 0x05 ∷ 0x00 ∷ 0x41 ∷ 0x14 ∷ []
    whole_reads : read (form_of chip (with_second 65 20)) handset 5 (with_second 65 20) ≡ finds 65

computed : Computed smaller_chip × Computed larger_chip
unfolding within with_second laid_out laid laid_all offset aim after run zeros check sound blank second_blank condition low16 low24 third checked
    wear_word number_word opening_word record_word slot sound_slot word_steps words wear_part opening_part done_part slots is_wear wear_in is_opening
    order_in is_done all_blank state_after_wear state_by state page states order₂ base used is_cleared is_open order add_order used_orders greatest
    active_order is_active index_of active_index add_page used_pages insert oldest_first scan counted behind place_behind records each journal or_else
    last_of value put put_all settings held past free_slot active_page active_slots has_room in_group open_group count renew renew_all format_steps
    unclean slots_steps settings_of words_of append_steps is_value all_values write_steps first_of store_rows blank_read_rows read_rows write_rows way
    way_steps new_page next_order fill_steps other cut page_count pages own_edition has_edition opens_itself edition_of form_of wrong_size no_store
    among repeats all_used damaged is_unclean wrong_group wrong_address a_wrong_address a_foreign is_held is_new no_room held_by crowded order_end
    store_number write_number blank_read_number read_number accepted format or_value reading read bytes_at
computed = (
  record {
    lawful = refl;
    two = refl;
    has_first = refl;
    all_within = refl;
    edition = refl;
    accepted = refl;
    steps = refl;
    torn = refl;
    torn_reads = refl;
    whole = refl;
    whole_reads = refl;
  },
  record {
    lawful = refl;
    two = refl;
    has_first = refl;
    all_within = refl;
    edition = refl;
    accepted = refl;
    steps = refl;
    torn = refl;
    torn_reads = refl;
    whole = refl;
    whole_reads = refl;
  },
)

value_rises : Rises 8 65 67
unfolding Rises
value_rises = (omega arith, (omega arith, (omega arith, (omega arith, (omega arith, (omega arith, (omega arith, (omega arith, refl))))))))

module _ (chip : Chip) (is : Computed chip) where
  fresh_is : fresh_store chip ≡ laid_out chip
  unfolding laid_out
  fresh_is = format_laid (fm chip) 2 (new_flash chip) is.lawful is.two is.all_within

  -- a write that is stopped after n of its steps ss, and what is left when the next fails
  stopped : (n : ℕ) (ss : List Step) (i j : Image) → form_of chip i ≡ fm chip → write_number (fm chip) handset change i ≡ OK → write_of (fm chip) change i ≡ ss
      → BytesLeft (size (fm chip)) 0 (drop (length (take n ss)) ss) (run (size (fm chip)) (take n ss) i) j
      → Interrupted chip (by_the_rules chip) handset change i (length (take n ss)) j
  unfolding write
  stopped n ss i j by ok is l =
      let done = write (fm chip) handset change n i in
      let e : done ≡ _ = ap (λ (xs : List Step). stepped (fm chip) (write_number (fm chip) handset change i) n xs i) is
      ∙ stepped_done (fm chip) (write_number (fm chip) handset change i) n ss i ok in
      record {
        after_write = j;
        then = no_more;
        write = record {
          allowance = n;
          done = done;
          called = rw by;
          accepted = ap (λ (s : Stepped). s.number) e;
          counted = ap (λ (s : Stepped). s.steps) e;
          fails = subst⁻¹ (λ (f : Form). FailsAfter f done (write_of f change i) j) by
              (subst⁻¹ (λ (xs : List Step). FailsAfter (fm chip) done xs j) is (subst⁻¹ (λ (s : Stepped). FailsAfter (fm chip) s ss j) e l));
        };
      }

  -- a failure in the second half of the record
  second_fails : (c d : ℕ) → Rises 8 65 c → Rises 8 20 d → Interrupted chip (by_the_rules chip) handset change (fresh_store chip) 1 (with_second chip c d)
  unfolding with_second least offset run
  second_fails c d p q =
      subst⁻¹ (λ (i : Image). Interrupted chip (by_the_rules chip) handset change i 1 (with_second chip c d)) fresh_is
      (stopped 1 (program 0 3 first 5 0 ∷ program 0 3 second 65 20 ∷ []) (laid_out chip) (with_second chip c d) is.edition is.accepted is.steps
      (failing (record { left = c ∷ d ∷ []; rises = byte p (byte q no_bytes); image = refl })))

  such : SuchAStore chip
  such =
      record {
        in_use = formatted chip.first (new_flash chip) (format (fm chip) (new_flash chip)) (is.has_first, refl)
            (ap (λ (f : Formatted). f.number) (format_done (fm chip) (new_flash chip) is.lawful));
        accepted = subst⁻¹ (λ (i : List ℕ). write_number (form_of chip i) handset change i ≡ OK) fresh_is
            (subst⁻¹ (λ (f : Form). write_number f handset change (laid_out chip) ≡ OK) is.edition is.accepted);
        torn = record {
          left = with_second chip 67 20;
          cut = second_fails 67 20 value_rises (rises_refl 8 20);
          record_left = is.torn;
          reads = is.torn_reads;
        };
        complete = record {
          left = with_second chip 65 20;
          cut = second_fails 65 20 (rises_refl 8 65) (rises_refl 8 20);
          record_left = is.whole;
          reads = is.whole_reads;
        };
      }

pub such_a_store : not_about_nothing
such_a_store = (such smaller_chip computed.0, such larger_chip computed.1)
