-- How many single writes of new values come before the next move: each of them leaves one less, a move comes where none is left, and gives
-- it anew. Assumes nothing.
use Prim.Native.Nat.{ℕ, suc, ◌+◌, ◌-◌, ◌*◌}
use mathlib.Core.Path.{◌≡◌, refl, ap, ◌∙◌, subst}
use mathlib.Core.Bool.{true, false, cond}
use mathlib.Core.List.{List, [], ◌∷◌}
use native.Mathlib.Nat.{zero-mul, suc-mul}
use native.Mathlib.Omega.{arith}
use lib.ListN.{length}
use lib.Dec.{leb}
use borrow.Author.Tests.{leb-true, leb-false}
use Rattle.rules.specs.Page.{Page, slots}
use Rattle.rules.specs.Store.{states, is_cleared, active_slots, free_slot, has_room, count, held, Setting}
use Rattle.rules.specs.Steps.{Change, settings_of, words_of, all_values, way, new_page}
use Rattle.rules.proofs.Truth.{by_cases, not_both}
use Rattle.rules.proofs.Stores.{used_not_cleared}
use Rattle.rules.proofs.Phases.{Pages}
use Rattle.rules.proofs.Cut.{AllLength}
use Rattle.rules.proofs.Told.{length_amid}
use Rattle.rules.proofs.Active.{slots_active}
use Rattle.rules.proofs.Good.{Frame, slots_in, words_in, Good, good_ordered}
use Rattle.rules.proofs.Appending.{at_active, slotted}
use Rattle.promise.specs.Corollaries.{moves}
use Rattle.wear.specs.Wear.{between_moves}
use Rattle.wear.proofs.Finished.{told_in, AllRenewed, Landed, Wrote, stayed, appended, opened, moved}
use Rattle.wear.proofs.Level.{count_amid, many_parted, same_states, cleared_before}

-- as many as the active page has free slots, and all cleared pages but one
abbrev pub before_move : (slots : ℕ) → List Page → ℕ
before_move s ps = (s - free_slot (active_slots ps)) + (count is_cleared (states ps) - 1) * s

-- the active page of a good store has all the slots of its form
pub active_long : (c : Frame) (J : List Setting) (F : Pages) → Good c J F → length (active_slots (told_in c F)) ≡ slots_in c
unfolding slots
active_long c J F g =
    let at = at_active c J F g in
    let hd = (slotted c J F g).header in
    let ordered = good_ordered c J F g in
    let whole = length_amid (words_in c) at.front at.here at.rest (subst (AllLength (words_in c)) at.form ordered.long) in
    let parts = ap length hd.form in
    ap length (slots_active c.form.edition (words_in c) g.base_order g.used_by F ordered ∙ ap slots hd.form) ∙ omega arith

-- as many pages are cleared as were renewed
pub all_cleared : (ps qs : List Page) → AllRenewed ps qs → count is_cleared (states qs) ≡ length ps
unfolding AllRenewed count states is_cleared
all_cleared [] [] h = refl
all_cleared [] (q ∷ qs) h = absurd h
all_cleared (p ∷ ps) [] h = absurd h
all_cleared (p ∷ ps) (q ∷ qs) h = rw h.0.is_cleared (omega (arith, all_cleared ps qs h.1))

-- where a single change moves, none is left
module _ (s : ℕ) (ch : Change) (one_word : length (words_of ch) ≡ 1) (ps : List Page) (long : length (active_slots ps) ≡ s) where
  no_free : has_room (length (words_of ch)) ps ≡ false → s - free_slot (active_slots ps) ≡ 0
  unfolding has_room
  no_free full = let l = leb-false (free_slot (active_slots ps) + length (words_of ch)) (length (active_slots ps)) full in omega arith

  pub none_left : moves (way ch ps) ≡ true → before_move s ps ≡ 0
  unfolding way new_page moves
  none_left m =
      by_cases (all_values (settings_of ch) ps) (λ e. not_both m (rw e))
      (λ e. by_cases (has_room (length (words_of ch)) ps) (λ f. not_both m (rw (e, f)))
      (λ f. by_cases (leb 2 (count is_cleared (states ps))) (λ d. not_both m (rw (e, f, d)))
      (λ d.
      let few = leb-false 2 (count is_cleared (states ps)) d in
      let none : count is_cleared (states ps) - 1 ≡ 0 = omega arith in
      rw (none, no_free f) (omega (arith, zero-mul s)))))

module _ (c : Frame) (ch : Change) (F G : Pages) where
  abbrev ps : List Page
  ps = told_in c F

  abbrev qs : List Page
  qs = told_in c G

  abbrev s : ℕ
  s = slots_in c

  -- the active page, and the cleared ones
  free_now : {f r g t : List Page} {p q : Page} → Landed c F G f p r g q t → free_slot (active_slots qs) ≡ free_slot q.slots
  unfolding active_slots
  free_now l = ap (λ (x : Page). free_slot x.slots) l.active

  pub cleared_now : {f r g t : List Page} {p q : Page} → Landed c F G f p r g q t
      → count is_cleared (states qs) ≡ count is_cleared (states g) + count is_cleared (states t)
  cleared_now {g = g} {t} {q = q} l =
      ap (λ (xs : List Page). count is_cleared (states xs)) l.after ∙ count_amid g q t
      ∙ (let z : ◌≡◌ {A = ℕ} (cond (is_cleared q.state) 1 0) 0 = rw (used_not_cleared _ q.state l.is_used) in omega arith)

  -- a write of one word that has not moved took one
  pub one_taken : length (words_of ch) ≡ 1 → length (active_slots ps) ≡ s → Wrote c ch F G → all_values (settings_of ch) ps ≡ false → moves (way ch ps) ≡ false
      → before_move s ps ≡ suc (before_move s qs)
  unfolding way new_page moves has_room active_slots
  one_taken one_word long (stayed st e) new m = not_both st new
  one_taken one_word long (appended {f} {r} {p} {q} l st free is same base_same taken) new m =
      let was : free_slot (active_slots ps) ≡ free_slot p.slots = ap (λ (x : Page). free_slot x.slots) is in
      let now = free_now l ∙ taken in
      let fits = leb-true (free_slot (active_slots ps) + length (words_of ch)) (length (active_slots ps)) free in
      rw (same_states c ch F G l same) (omega arith)
  one_taken one_word long (opened {f} {r} {p} {q} l st full two n is least ordered base_same taken) new m =
      let now = free_now l ∙ taken in
      let none = no_free s ch one_word ps long full in
      let some = leb-true 2 (count is_cleared (states ps)) two in
      let fewer = count is_cleared (states qs) - 1 in
      let one_more_page : count is_cleared (states ps) - 1 ≡ suc fewer = omega (arith, cleared_before c ch F G l is, cleared_now l) in
      let product : (count is_cleared (states ps) - 1) * s ≡ fewer * s + s = ap (λ (x : ℕ). x * s) one_more_page ∙ suc-mul fewer s in
      omega (arith, c.ten)
  one_taken one_word long (moved l st full one n is least ordered all_f all_r taken) new m = not_both (rw (st, full, one)) m

  -- a move leaves so much
  pub move_gives : Wrote c ch F G → moves (way ch ps) ≡ true → before_move s qs ≡ between_moves (length ps) s (held qs)
  unfolding way new_page moves
  move_gives (stayed st e) m = not_both m (rw st)
  move_gives (appended l st free is same base_same taken) m = not_both m (rw (st, free))
  move_gives (opened l st full two n is least ordered base_same taken) m = not_both m (rw (st, full, two))
  move_gives (moved {f} {r} {g} {t} {p} {q} l st full one n is least ordered all_f all_r taken) m =
      let cleared_left : count is_cleared (states qs) - 1 ≡ length ps - 2 =
      omega (arith, many_parted c ch F G l, cleared_now l, all_cleared f g all_f, all_cleared r t all_r) in
      rw (cleared_left, free_now l ∙ taken) refl
