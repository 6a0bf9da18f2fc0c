-- A write turns a good store, in one step, from the old values to the new. Assumes nothing.
use Prim.Native.Nat.{ℕ, ◌+◌, ◌≤◌}
use mathlib.Core.Path.{◌≡◌, refl, sym, ap, ◌∙◌, subst, subst⁻¹}
use mathlib.Core.Bool.{true, false}
use mathlib.Core.List.{List, [], ◌∷◌, ◌++◌, map}
use mathlib.Core.Option.{Option}
use native.Mathlib.Omega.{arith}
use lib.ListN.{length}
use lib.Dec.{leb}
use borrow.Author.Tests.{leb-true, le-leb}
use Rattle.rules.specs.Word.{Word}
use Rattle.rules.specs.Page.{is_wear, Page}
use Rattle.rules.specs.Store.{states, is_cleared, active_index, active_page, active_slots, free_slot, Setting, address_of, settings, value, or_else, last_of, put_all, count}
use Rattle.rules.specs.Store.{Place, outside, has_room, in_group, end_of, open_group}
use Rattle.rules.specs.Steps.{unclean, Change, settings_of, words_of, all_values, Way, append_to, open_at, move_to, way, way_steps, new_page}
use Rattle.rules.specs.Steps.{next_order, append_steps, open_steps, write_steps, taken, move_records, but_all}
use Rattle.rules.specs.Call.{among, repeats, wrong_group}
use Rattle.rules.proofs.Truth.{by_cases}
use Rattle.rules.proofs.Slots.{Lawful, put_all_lawful, but_all_lawful, lawful_append}
use Rattle.rules.proofs.Settings.{is_missing, last_of_more, same_values, append_few, moved_few, moved_length, moved_last}
use Rattle.rules.proofs.Groups.{Enters, change_enters, change_words, change_distinct, outside_is}
use Rattle.rules.proofs.Phases.{Pages, both, turns_map}
use Rattle.rules.proofs.Told.{told}
use Rattle.rules.proofs.Active.{taken_page, Takes, takes, some_cleared}
use Rattle.rules.proofs.Good.{Frame, slots_in, words_in, Turning, Keeps, Good, Has, changed, good_still, good_ordered, journal_is, journal_lawful}
use Rattle.rules.proofs.Appending.{free_place, end_is, entering_turns}
use Rattle.rules.proofs.Opening.{Taking, next, open_case}
use Rattle.rules.proofs.Moving.{move_turns}

-- what makes a write acceptable: the table's rows 4 to 6 and 9
pub record Accepted (c : Frame) (ch : Change) (t : ℕ → Option ℕ) (F : Pages) : Type 0 where
  pub has : Has c t F
  pub clean : count (unclean has.good.base_order) (states (told c.form.edition F)) ≡ 0
  pub ended : open_group (told c.form.edition F) ≡ false
  pub grouped : wrong_group c.form.edition ch ≡ false
  pub addressed : Lawful (settings_of ch)
  pub room : all_values (settings_of ch) (told c.form.edition F) ≡ false
      → length (put_all [] has.journal) + count (is_missing (put_all [] has.journal)) (settings_of ch) ≤ c.limit

module _ (c : Frame) (ch : Change) (t : ℕ → Option ℕ) where
  abbrev rs : List Setting
  rs = settings_of ch

  abbrev e : ℕ
  e = c.form.edition

  -- the steps of a way turn the store from the old values to the new
  abbrev Goes : (List Page → Way) → Pages → Type 0
  Goes which F = let ps = told e F in Turning c (Has c t) (Has c (changed rs t)) (way_steps e ch ps (which ps)) F

  module _ (F : Pages) (h : Accepted c ch t F) (fresh : all_values rs (told e F) ≡ false) where
    abbrev J : List Setting
    J = h.has.journal

    few : length (put_all [] (J ++ rs)) ≤ c.limit
    few = append_few rs J c.limit (h.room fresh)

    old : (G : Pages) → Good c J G → Has c t G
    old G g = record { journal = J; good = g; values = h.has.values }

    new : (G : Pages) → Good c (J ++ rs) G → Has c (changed rs t) G
    new G g = record { journal = J ++ rs; good = g; values = λ x. last_of_more x rs J (h.has.values x) }

    -- as many pages are cleared as are not used
    pub cleared_there : length h.has.good.used_by + count is_cleared (states (told e F)) ≡ c.pages
    cleared_there =
        let g = h.has.good in
        some_cleared e (words_in c) g.base_order c.pages g.used_by F (good_ordered c J F g) g.keeps.count h.clean

    pub enters : Enters e outside (words_of ch) rs
    enters = change_enters e ch h.grouped h.addressed

    -- the free slot stands outside a group
    pub is_outside : has_room (length (words_of ch)) (told e F) ≡ true → outside ≡ free_place c J F h.has.good
    unfolding has_room open_group
    is_outside free =
        let ps = told e F in
        let n = free_slot (active_slots ps) in
        let least = (change_words e ch h.grouped).0 in
        let l = leb-true (n + length (words_of ch)) (length (active_slots ps)) free in
        let one : leb (n + 1) (length (active_slots ps)) ≡ true = le-leb (n + 1) (length (active_slots ps)) (omega arith) in
        let out : in_group (end_of (active_page ps)) ≡ false = rw one at h.ended in
        sym (outside_is (free_place c J F h.has.good) (sym (end_is c J F h.has.good) ∙ out))

    appends : has_room (length (words_of ch)) (told e F) ≡ true → Goes (λ ps. append_to (active_index (states ps)) (free_slot (active_slots ps))) F
    unfolding way_steps append_steps
    appends free =
        let g = h.has.good in
        turns_map (λ G k. old G (good_still c J F g J g.few G k)) (λ G k. new G (good_still c J F g (J ++ rs) few G k))
        (entering_turns c J F g (words_of ch) free (subst (λ (at : Place). Enters e at (words_of ch) rs) (is_outside free) enters))

    pub some_taken : Takes e (slots_in c) F
    some_taken =
        let all = cleared_there in
        let sp = h.has.good.spare in
        takes e (slots_in c) F (good_ordered c J F h.has.good).long (λ z. omega arith)

  -- the page that is taken stands between the others
  module _ (f : Pages) (w : Word) (r : Pages) (h : Accepted c ch t (f ++ taken_page (slots_in c) w ∷ r))
      (fresh : all_values rs (told e (f ++ taken_page (slots_in c) w ∷ r)) ≡ false)
      (worn : is_wear e w ≡ true) (place : taken (told e (f ++ taken_page (slots_in c) w ∷ r)) ≡ length f) where
    abbrev F : Pages
    F = f ++ taken_page (slots_in c) w ∷ r

    abbrev K : List Setting
    K = h.has.journal

    abbrev pub taking : Taking c K f w r
    taking = record { worn = worn; good = h.has.good }

    opens : leb 2 (count is_cleared (states (told e F))) ≡ true → Goes (λ ps. open_at (taken ps) (next_order ps)) F
    unfolding way_steps open_steps
    opens two =
        let all = cleared_there F h fresh in
        let l = leb-true 2 (count is_cleared (states (told e F))) two in
        let most = (change_words e ch h.grouped).1 in
        let ten = c.ten in
        rw place
        (turns_map (old F h fresh) (new F h fresh) (open_case c K f w r taking (few F h fresh) (enters F h fresh) (omega arith) (omega arith)))

    abbrev pub copied : List Setting
    copied = move_records rs (put_all [] K)

    pub copied_lawful : Lawful copied
    unfolding Lawful
    copied_lawful =
        lawful_append (but_all rs (put_all [] K)) rs
        (but_all_lawful rs (put_all [] K) (put_all_lawful [] K tt (journal_lawful c K F h.has.good))) h.addressed

    abbrev distinct : repeats (map address_of rs) ≡ false
    distinct = change_distinct e ch h.grouped

    moved : (o : ℕ) (G : Pages) → Keeps c o (o ∷ []) copied G → Has c (changed rs t) G
    unfolding repeats among
    moved o G k =
        record {
          journal = copied;
          good = record {
            base_order = o;
            used_by = o ∷ [];
            keeps = k;
            apart = refl;
            spare = c.two;
            some = omega arith;
            few = moved_few rs K c.limit (h.room fresh) distinct;
          };
          values = λ x. moved_last x rs K ∙ last_of_more x rs K (h.has.values x);
        }

    moves : Goes (λ ps. move_to (taken ps) (next_order ps)) F
    unfolding way_steps settings
    moves =
        let g = h.has.good in
        let x = moved_length rs K c.limit (h.room fresh) distinct in
        let y = c.fits in
        rw (place, journal_is c K F g)
        (turns_map (λ G k. old F h fresh G (good_still c K F g K g.few G k)) (moved (next c K f w r taking))
        (move_turns c K f w r taking copied copied_lawful (omega arith)))

  value_is : (F : Pages) (h : Accepted c ch t F) (x : ℕ) → value x (told e F) ≡ t x
  unfolding value
  value_is F h x = ap (last_of x) (journal_is c h.has.journal F h.has.good) ∙ h.has.values x

  -- an accepted write
  pub write_turns : (F : Pages) → Accepted c ch t F → Turning c (Has c t) (Has c (changed rs t)) (write_steps e ch (told e F)) F
  unfolding write_steps way way_steps new_page
  write_turns F h =
      let J = h.has.journal in
      let is : (x : ℕ) → value x (told e F) ≡ t x = value_is F h in
      by_cases (all_values rs (told e F))
      (λ s.
      rw s
      (both h.has
      (record {
        journal = J;
        good = h.has.good;
        values = λ x. h.has.values x ∙ sym (subst (λ (o : Option ℕ). or_else (last_of x rs) o ≡ o) (is x) (same_values rs (told e F) s x));
      })))
      (λ s.
      let k = some_taken F h s in
      let h' = subst (Accepted c ch t) k.form h in
      let s' = subst (λ (G : Pages). all_values rs (told e G) ≡ false) k.form s in
      let p' = subst (λ (G : Pages). taken (told e G) ≡ length k.front) k.form k.place in
      rw s
      (by_cases (has_room (length (words_of ch)) (told e F)) (λ p. rw p (appends F h s p))
      (λ p.
      rw p
      (by_cases (leb 2 (count is_cleared (states (told e F))))
      (λ q.
      rw q
      (subst⁻¹ (Goes (λ ps. open_at (taken ps) (next_order ps))) k.form
      (opens k.front k.first k.rest h' s' k.worn p'
      (subst (λ (G : Pages). leb 2 (count is_cleared (states (told e G))) ≡ true) k.form q))))
      (λ q. rw q (subst⁻¹ (Goes (λ ps. move_to (taken ps) (next_order ps))) k.form (moves k.front k.first k.rest h' s' k.worn p')))))))
