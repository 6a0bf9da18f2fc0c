-- How many steps the calls have, and how many of them are erases. Assumes nothing.
use Prim.Native.Nat.{ℕ, ◌+◌, ◌≤◌, ◌<◌}
use mathlib.Core.Path.{◌≡◌, refl, ◌∙◌}
use mathlib.Core.Bool.{true, false}
use mathlib.Core.List.{List, [], ◌∷◌}
use native.Mathlib.Omega.{arith}
use lib.ListN.{length}
use lib.Dec.{leb}
use Rattle.rules.specs.Flash.{Half, program}
use Rattle.rules.specs.Page.{Form, Page}
use Rattle.rules.specs.Store.{each, Setting, states, is_cleared, active_index, active_slots, free_slot, has_room, count, journal, settings}
use Rattle.rules.specs.Steps.{Way, stay, append_to, open_at, move_to, greatest_wear, Renewal, renewal, renewals, renew_each, renew_picked, other}
use Rattle.rules.specs.Steps.{Change, settings_of, words_of, all_values, move_records, append_steps, fill_steps}
use Rattle.rules.specs.Steps.{move_steps, taken, next_order, new_page, way, way_steps, write_steps}
use Rattle.rules.specs.Owner.{Owner}
use Rattle.rules.specs.Call.{pages, write_number, OK}
use Rattle.rules.proofs.Truth.{by_cases, not_both}
use Rattle.rules.proofs.Erasing.{none_before, slots_none, open_none, fill_none, renew_one}
use Rattle.rules.proofs.Lengths.{slots_long, renewals_others, open_long, move_long}
use Rattle.rules.proofs.Cut.{pages_long}
use Rattle.rules.proofs.Settings.{moved_length}
use Rattle.rules.proofs.Groups.{change_words, change_distinct}
use Rattle.rules.proofs.Rows.{write_fails}
use Rattle.rules.proofs.Ready.{taken_within}
use Rattle.rules.proofs.Held.{room_for}
use Rattle.promise.specs.Calls.{Image}
use Rattle.promise.specs.Corollaries.{is_erase, erases, moves, a_move_wears_all_but_one, another_write_wears_none, no_write_is_longer}

-- ---- erases

no_program : (p w : ℕ) (h : Half) (low high : ℕ) → is_erase (program p w h low high) ≡ false
unfolding is_erase
no_program p w h low high = refl

-- one for each page that is renewed
erases_each : (edition : ℕ) (rs : List Renewal) → erases (renew_each edition rs) ≡ length rs
unfolding erases is_erase count each
erases_each edition [] = refl
erases_each edition (renewal k n ∷ rs) =
    omega (arith, renew_one is_erase no_program edition k n (renew_each edition rs), erases_each edition rs)

-- a move to one of the pages
move_erases : (edition p o : ℕ) (rs : List Setting) (ps : List Page) → p < length ps → erases (move_steps edition p o rs ps) + 1 ≡ length ps
unfolding move_steps renew_picked erases
move_erases edition p o rs ps l =
    let others = renewals (λ j s. other p j) (greatest_wear ps) 0 ps in
    omega (
      arith,
      none_before is_erase no_program (fill_steps p o rs) (renew_each edition others) (fill_none is_erase no_program p o rs),
      erases_each edition others,
      renewals_others p (greatest_wear ps) 0 ps (omega arith) (omega arith),
    )

-- a write that moves, moves to the page that is taken
move_is : (c : Change) (ps : List Page) → moves (way c ps) ≡ true → way c ps ≡ move_to (taken ps) (next_order ps)
unfolding way new_page moves
move_is c ps m =
    by_cases (all_values (settings_of c) ps) (λ e. not_both m (rw e))
    (λ e. by_cases (has_room (length (words_of c)) ps) (λ f. not_both m (rw (e, f)))
    (λ f. by_cases (leb 2 (count is_cleared (states ps))) (λ d. not_both m (rw (e, f, d))) (λ d. rw (e, f, d))))

pub move_wears : a_move_wears_all_but_one
unfolding write_steps way_steps
move_wears fm i o c ok m =
    let fails = write_fails fm i o c ok in
    let l = taken_within fm i fails.stored fails.clean in
    let ps = pages fm i in
    rw (move_is c ps m) (move_erases fm.edition (taken ps) (next_order ps) (move_records (settings_of c) (settings ps)) ps (rw (pages_long fm i) l)
    ∙ pages_long fm i)

-- the other ways
way_erases : (edition : ℕ) (c : Change) (ps : List Page) (w : Way) → moves w ≡ false → erases (way_steps edition c ps w) ≡ 0
unfolding way_steps append_steps moves erases count
way_erases edition c ps stay m = refl
way_erases edition c ps (append_to p k) m = slots_none is_erase no_program p k (words_of c)
way_erases edition c ps (open_at p o) m = open_none is_erase no_program p o c
way_erases edition c ps (move_to p o) m = not_both refl m

pub others_wear_none : another_write_wears_none
unfolding write_steps
others_wear_none fm i c m = way_erases fm.edition c (pages fm i) (way c (pages fm i)) m

-- ---- lengths

-- no more is copied than may be held
moved_few : (fm : Form) (o : Owner) (c : Change) (i : Image) → write_number fm o c i ≡ OK → all_values (settings_of c) (pages fm i) ≡ false
    → length (move_records (settings_of c) (settings (pages fm i))) ≤ 192
unfolding settings
moved_few fm o c i ok s =
    let fails = write_fails fm i o c ok in
    moved_length (settings_of c) (journal (pages fm i)) 192 (room_for (settings_of c) (pages fm i) (fails.room s))
    (change_distinct fm.edition c fails.grouped)

pub not_longer : no_write_is_longer
unfolding write_steps way way_steps new_page append_steps
not_longer fm i o c ok =
    let ps = pages fm i in
    let fails = write_fails fm i o c ok in
    let few = (change_words fm.edition c fails.grouped).1 in
    by_cases (all_values (settings_of c) ps) (λ s. rw s (omega arith))
    (λ s.
    by_cases (has_room (length (words_of c)) ps)
    (λ f. rw (s, f) (omega (arith, slots_long (active_index (states ps)) (free_slot (active_slots ps)) (words_of c))))
    (λ f.
    by_cases (leb 2 (count is_cleared (states ps)))
    (λ d. rw (s, f, d) (omega (arith, open_long (taken ps) (next_order ps) c)))
    (λ d.
    let many = pages_long fm i in
    let inside = taken_within fm i fails.stored fails.clean in
    let long = move_long fm.edition (taken ps) (next_order ps) (move_records (settings_of c) (settings ps)) ps (omega arith) in
    rw (s, f, d) (omega (arith, long, moved_few fm o c i ok s)))))
