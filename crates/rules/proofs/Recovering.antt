-- Recovery, and the tail of a move: pages that are not used are renewed, and the store keeps its journal. Assumes nothing.
use Prim.Native.Nat.{ℕ, suc, ◌+◌, ◌-◌, max}
use mathlib.Core.Path.{◌≡◌, refl, sym, ap, ◌∙◌, subst}
use mathlib.Core.Logic.{inr}
use mathlib.Core.Bool.{Bool, true, false, not, ◌&&◌}
use mathlib.Core.List.{List, [], ◌∷◌, ◌++◌, map-append, append-nil}
use native.Mathlib.Omega.{arith}
use lib.ListN.{length, get_or, replicate, length-replicate}
use lib.Seq.{append_snoc, get_or_at}
use lib.Dec.{eqb, leb}
use borrow.Author.Tests.{not-true, eq-eqb, eqb-true, eqb-false}
use Rattle.rules.specs.Flash.{Step, erase}
use Rattle.rules.specs.Word.{Word, wear_word, mark_word, Slot, slot, has_groups}
use Rattle.rules.specs.Page.{blank_word, State, Page, page, state, wear_part, wear_in, slots}
use Rattle.rules.specs.Store.{each, states, base, used, is_cleared, add_page, used_pages, count, Setting, Place, outside, place_behind, free_slot}
use Rattle.rules.specs.Store.{active_page, active_slots, has_room, in_group, end_of, open_group}
use Rattle.rules.specs.Steps.{renew, renewed_wear, greatest_wear, renewals, renew_each, renew_picked, unclean, abandon_steps, recovery_steps}
use Rattle.rules.specs.Call.{is_unclean}
use Rattle.rules.proofs.Truth.{by_cases, not_both, and_left, and_right, and_second, or_second, or_false_left}
use Rattle.rules.proofs.Words.{Light, sound_light, wear_sound, wear_edition}
use Rattle.rules.proofs.Shape.{target, WordsRise, PageFails, erasing}
use Rattle.rules.proofs.Pages.{AllLight, replicate_light, rise_light, rise_length, rise_fades, OfEdition, rise_edition, fresh_not_open, fresh_cleared, open_by_header}
use Rattle.rules.proofs.Phases.{Pages, end, step, store_run, store_run_append, through_end, through_append, through_map, turns_map, turns_through}
use Rattle.rules.proofs.Phases.{fails_amid, word_turns, Fits, here_fits}
use Rattle.rules.proofs.Told.{told}
use Rattle.rules.proofs.Slots.{blanks_unsound, as_slots, place_append, unsound_stays}
use Rattle.rules.proofs.Groups.{abandon_enters, abandon_ends, ungrouped}
use Rattle.rules.proofs.Stores.{used_open}
use Rattle.rules.proofs.Active.{Ordered, newest_active, same_active}
use Rattle.rules.proofs.Renewing.{fresh, renewed, next_length, erased, renew_run, renewals_run, renewals_alike, greatest_alike, rest_steps}
use Rattle.rules.proofs.Wears.{beside}
use Rattle.rules.proofs.Good.{Frame, words_in, Throughout, Keeps, Good, whole_amid, keeps_fade, good_still, whole_long}
use Rattle.rules.proofs.Appending.{at_active, taken_slots, free_slots, free_place, end_is, active_with, slots_now, active_form, active_newest_with}
use Rattle.rules.proofs.Appending.{entering, entering_run, entering_turns}

erase_fails : {p : ℕ} {pg qg : List Word} → PageFails (erase p) pg qg → WordsRise pg qg
erase_fails (erasing r) = r

-- the pages that are picked are not used
unfoldable pub Idle : (edition b : ℕ) → (ℕ → State → Bool) → ℕ → Pages → Type 0
Idle edition b picks i [] = Unit {0}
Idle edition b picks i (pg ∷ F) = (picks i (state edition pg) ≡ true → used b (state edition pg) ≡ false) × Idle edition b picks (suc i) F

module _ (c : Frame) (b : ℕ) (os : List ℕ) (J : List Setting) where
  -- the words of a page behind the first
  abbrev k' : ℕ
  k' = suc (suc c.form.slot_count)

  abbrev Keeping : Pages → Type 0
  Keeping = Keeps c b os J

  renew_through : (f : Pages) (pg : List Word) (r : Pages) (wear : ℕ) → used b (state c.form.edition pg) ≡ false → Keeping (f ++ pg ∷ r)
      → Throughout c Keeping (renew c.form.edition (length f) wear) (f ++ pg ∷ r)
  unfolding renew target AllLight Fits wear_part
  renew_through f pg r wear u h =
      let w = (whole_amid c f pg r h.whole).1 in
      let started : (v : Word) → Light v → OfEdition c.form.edition (v ∷ replicate k' blank_word) → Keeping (f ++ (v ∷ replicate k' blank_word) ∷ r) =
      λ v l one. keeps_fade c b os J f pg r h (v ∷ replicate k' blank_word) u (inr (fresh_not_open c.form.edition v k'))
      (ap suc (length-replicate k' blank_word), λ may. (l, replicate_light k'), λ o. one) in
      let word = wear_word c.form.edition wear in
      let rest = turns_through (word_turns (words_in c) f r [] (replicate k' blank_word) c.May Keeping Keeping word (wear_sound c.form.edition wear)
      (λ v p. started v p.light (λ s. not_both s p.not_sound))
      (started word (sound_light word (wear_sound c.form.edition wear)) (λ s. wear_edition c.form.edition wear))) in
      step (here_fits (words_in c) f pg r) h
      (λ may G x.
      let y = fails_amid (words_in c) f pg r (erase (length f)) G refl x in
      let rise = erase_fails y.1 in
      let light = w.1 may in
      subst Keeping (sym y.2)
      (keeps_fade c b os J f pg r h y.0 u (rise_fades c.form.edition rise light) (
        sym (rise_length rise) ∙ w.0,
        λ may. rise_light rise light,
        λ one. rise_edition c.form.edition rise light (w.2 one),
      )))
      (subst (Throughout c Keeping _) (sym (erased c.form.edition k' f pg r wear)) rest)

  module _ (picks : ℕ → State → Bool) where
    onward_through : (g : ℕ) (f : Pages) (qg : List Word) (F : Pages)
        → Throughout c Keeping (rest_steps c.form.edition k' picks g (length (f ++ qg ∷ [])) F) ((f ++ qg ∷ []) ++ F)
        → Throughout c Keeping (rest_steps c.form.edition k' picks g (suc (length f)) F) (f ++ qg ∷ F)
    onward_through g f qg F h = rw (next_length f qg, append_snoc f qg F) at h

    -- whatever the wears are
    pub renewals_through : (g : ℕ) (f F : Pages) → Idle c.form.edition b picks (length f) F → Keeping (f ++ F)
        → Throughout c Keeping (rest_steps c.form.edition k' picks g (length f) F) (f ++ F)
    unfolding renewals each page Idle
    renewals_through g f [] i h = end h
    renewals_through g f (pg ∷ F) i h =
        by_cases (picks (length f) (state c.form.edition pg))
        (λ t.
        let w = renewed_wear g (wear_in c.form.edition pg) in
        let qg = fresh c.form.edition k' w in
        let first = renew_through f pg F w (i.0 t) h in
        let done = renew_run c.form.edition k' f pg F w in
        let kept : Keeping ((f ++ qg ∷ []) ++ F) = rw append_snoc (subst Keeping done (through_end first)) in
        let rest = renewals_through (max g w) (f ++ qg ∷ []) F (rw (next_length f qg) i.1) kept in
        rw t (through_append (rest_steps c.form.edition k' picks (max g w) (suc (length f)) F) first
        (subst (Throughout c Keeping _) (sym done) (onward_through (max g w) f qg F rest))))
        (λ t.
        let rest = renewals_through g (f ++ pg ∷ []) F (rw (next_length f pg) i.1) (rw append_snoc h) in
        rw t (onward_through g f pg F rest))

-- ---- recovery

idle_all : (edition b : ℕ) (picks : ℕ → State → Bool) → ((i : ℕ) (s : State) → picks i s ≡ true → used b s ≡ false)
    → (i : ℕ) (F : Pages) → Idle edition b picks i F
unfolding Idle
idle_all edition b picks h i [] = tt
idle_all edition b picks h i (pg ∷ F) = (h i (state edition pg), idle_all edition b picks h (suc i) F)

-- no page is unclean once those are renewed that were
module _ (edition k' b : ℕ) where
  fresh_clean : (n : ℕ) → unclean b (state edition (fresh edition k' n)) ≡ false
  unfolding unclean is_cleared
  fresh_clean n = ap not (or_second (used b (state edition (fresh edition k' n))) (rw (fresh_cleared edition n k')))

  renewed_clean : (g i : ℕ) (F : Pages) → count (unclean b) (states (told edition (renewed edition k' (λ i s. unclean b s) g i F))) ≡ 0
  unfolding count states renewed page
  renewed_clean g i [] = refl
  renewed_clean g i (pg ∷ F) =
      by_cases (unclean b (state edition pg))
      (λ u.
      let w = renewed_wear g (wear_in edition pg) in
      let rest = renewed_clean (max g w) (suc i) F in
      rw (u, fresh_clean w) (omega arith))
      (λ u. let rest = renewed_clean g (suc i) F in rw (u, u) (omega arith))

-- the used pages are the same
module _ (edition k' b : ℕ) (picks : ℕ → State → Bool) where
  fresh_unused : (n : ℕ) → used b (state edition (fresh edition k' n)) ≡ false
  unfolding used
  fresh_unused n = rw (fresh_cleared edition n k')

  renewed_used : (g i : ℕ) (F : Pages) → Idle edition b picks i F
      → used_pages b (told edition (renewed edition k' picks g i F)) ≡ used_pages b (told edition F)
  unfolding Idle renewed used_pages add_page page
  renewed_used g i [] h = refl
  renewed_used g i (pg ∷ F) h =
      by_cases (picks i (state edition pg))
      (λ t.
      let w = renewed_wear g (wear_in edition pg) in
      rw (t, fresh_unused w, h.0 t) (renewed_used (max g w) (suc i) F h.1))
      (λ t. rw (t, renewed_used g (suc i) F h.1))

-- whether a group is open, the active page says
abbrev opened_in : Page → Bool
opened_in p = leb (free_slot p.slots + 1) (length p.slots) && in_group (end_of p)

open_in : (ps : List Page) → open_group ps ≡ opened_in (active_page ps)
unfolding open_group has_room active_slots
open_in ps = refl

module _ (c : Frame) (J : List Setting) (F : Pages) (g : Good c J F) where
  abbrev e : ℕ
  e = c.form.edition

  abbrev ps : List Page
  ps = told e F

  abbrev Kept : Pages → Type 0
  Kept = Keeps c g.base_order g.used_by J

  still : (G : Pages) → Kept G → Good c J G
  still = good_still c J F g J g.few

  kept_ordered : (G : Pages) → Kept G → Ordered e (words_in c) g.base_order g.used_by G
  kept_ordered G k = record { long = whole_long c G k.whole; is_base = k.is_base; has_orders = k.has_orders; apart = g.apart; some = g.some }

  -- ---- an open group is abandoned

  -- what the store is then: with the journal that it had, the same pages to be renewed, and no group open
  record Abandoned (G : Pages) : Type 0 where
    keeps : Kept G
    same : (picks : ℕ → State → Bool) (m : ℕ) → renewals picks m 0 (told e G) ≡ renewals picks m 0 ps
    wears : greatest_wear (told e G) ≡ greatest_wear ps
    elsewhere : (p : ℕ) → used g.base_order (state e (get_or G p [])) ≡ false → get_or G p [] ≡ get_or F p []
    ended : open_group (told e G) ≡ false

  module _ (is : open_group ps ≡ true) where
    free : has_room 1 ps ≡ true
    unfolding open_group
    free = and_left (has_room 1 ps) _ is

    mark_through : Throughout c Kept (entering c J F g (mark_word 0 ∷ []) free) F
    mark_through =
        turns_through (turns_map (λ G k. k) (λ G k. subst (λ (j : List Setting). Keeps c g.base_order g.used_by j G) (append-nil J) k)
        (entering_turns c J F g (mark_word 0 ∷ []) free (abandon_enters e (free_place c J F g))))

    -- the slots of the active page then
    abbrev marked : List Word
    marked = taken_slots c J F g ++ (mark_word 0 ∷ replicate (free_slots c J F g - 1) blank_word)

    abbrev after_mark : Pages
    after_mark = (at_active c J F g).front ++ active_with c J F g marked ∷ (at_active c J F g).rest

    mark_run : store_run (words_in c) (entering c J F g (mark_word 0 ∷ []) free) F ≡ after_mark
    mark_run = entering_run c J F g (mark_word 0 ∷ []) free

    has : has_groups e ≡ true
    unfolding open_group in_group
    has =
        by_cases (has_groups e) (λ h. h)
        (λ h. not_both (sym (end_is c J F g) ∙ and_right (has_room 1 ps) _ is) (ap in_group (ungrouped e (taken_slots c J F g) h)))

    mark_ends : in_group (place_behind outside (as_slots e marked)) ≡ false
    unfolding place_behind in_group
    mark_ends =
        let blanks = replicate (free_slots c J F g - 1) blank_word in
        ap (λ (ss : List Slot). in_group (place_behind outside ss)) (map-append (slot e) (taken_slots c J F g) (mark_word 0 ∷ blanks))
        ∙ ap in_group (place_append outside (as_slots e (taken_slots c J F g)) (as_slots e (mark_word 0 ∷ blanks)))
        ∙ ap (λ (at : Place). in_group (place_behind at (as_slots e blanks))) (abandon_ends e (free_place c J F g) has)
        ∙ unsound_stays e outside blanks (blanks_unsound (free_slots c J F g - 1))

    after_keeps : Kept after_mark
    after_keeps = subst Kept mark_run (through_end mark_through)

    marked_abandoned : Abandoned after_mark
    unfolding page slots wear_in wear_part
    marked_abandoned =
        let at = at_active c J F g in
        let was = active_with c J F g (slots_now c J F g) in
        let new = active_newest_with c J F g in
        let open_page = (used_open g.base_order (state e was) (new (slots_now c J F g)).is_used).0 in
        let same_state : state e (active_with c J F g marked) ≡ state e was =
        sym (open_by_header e _ _ _ (slots_now c J F g) marked open_page) in
        let is_active = newest_active e (words_in c) g.base_order g.used_by at.front (active_with c J F g marked) at.rest
        (kept_ordered after_mark after_keeps) (new marked).is_used (new marked).before (new marked).behind in
        record {
          keeps = after_keeps;
          same = λ picks m. renewals_alike e picks m 0 at.front (active_with c J F g marked) was at.rest same_state refl
              ∙ ap (λ (G : Pages). renewals picks m 0 (told e G)) (sym (active_form c J F g));
          wears = greatest_alike e at.front (active_with c J F g marked) was at.rest refl
              ∙ ap (λ (G : Pages). greatest_wear (told e G)) (sym (active_form c J F g));
          elsewhere = λ p u.
              by_cases (eqb p (length at.front))
              (λ q.
              not_both (subst (λ (pg : List Word). used g.base_order (state e pg) ≡ true)
              (sym (get_or_at at.front (active_with c J F g marked) at.rest [] p (sym (eqb-true p (length at.front) q)))) (new marked).is_used) u)
              (λ q.
              beside at.front (active_with c J F g marked) was at.rest p [] (eqb-false p (length at.front) q)
              ∙ ap (λ (G : Pages). get_or G p []) (sym (active_form c J F g)));
          ended = open_in (told e after_mark) ∙ ap opened_in is_active ∙ and_second (leb (free_slot marked + 1) (length marked)) mark_ends;
        }

  abandon_through : Throughout c Kept (abandon_steps ps) F
  unfolding abandon_steps
  abandon_through = by_cases (open_group ps) (λ is. rw is (mark_through is)) (λ is. rw is (end g.keeps))

  abandoned : Abandoned (store_run (words_in c) (abandon_steps ps) F)
  unfolding abandon_steps store_run
  abandoned =
      by_cases (open_group ps) (λ is. rw is (subst Abandoned (sym (mark_run is)) (marked_abandoned is)))
      (λ is. rw is (record { keeps = g.keeps; same = λ picks m. refl; wears = refl; elsewhere = λ p u. refl; ended = is }))

  -- ---- then the unclean pages are renewed

  -- the pages that a recovery renews, and the store when it begins to
  abbrev pub picks : ℕ → State → Bool
  picks k s = unclean (base (states ps)) s

  abbrev pub begun : Pages
  begun = store_run (words_in c) (abandon_steps ps) F

  abbrev k'' : ℕ
  k'' = suc (suc c.form.slot_count)

  -- none of them is used
  idle : Idle e g.base_order picks 0 begun
  unfolding unclean
  idle = idle_all e g.base_order _ (λ i s t. rw (← g.keeps.is_base) (or_false_left (used _ s) (is_cleared s) (not-true _ t))) 0 begun

  renewing_is : rest_steps e k'' picks (greatest_wear ps) 0 begun ≡ renew_picked e picks ps
  unfolding renew_picked
  renewing_is = ap (renew_each e) (abandoned.same picks (greatest_wear ps))

  keeping : Throughout c Kept (recovery_steps e ps) F
  unfolding recovery_steps
  keeping =
      through_append (renew_picked e picks ps) abandon_through
      (subst (λ (ss : List Step). Throughout c Kept ss begun) renewing_is
      (renewals_through c g.base_order g.used_by J picks (greatest_wear ps) [] begun idle abandoned.keeps))

  -- what those who follow a recovery step by step ask
  pub begins_as : recovery_steps e ps ≡ abandon_steps ps ++ rest_steps e k'' picks (greatest_wear ps) 0 begun
  unfolding recovery_steps
  begins_as = ap (λ (ss : List Step). abandon_steps ps ++ ss) (sym renewing_is)

  pub begun_wears : greatest_wear (told e begun) ≡ greatest_wear ps
  begun_wears = abandoned.wears

  pub begun_elsewhere : (p : ℕ) → picks p (state e (get_or begun p [])) ≡ true → get_or begun p [] ≡ get_or F p []
  unfolding unclean
  begun_elsewhere p t =
      let s = state e (get_or begun p []) in
      abandoned.elsewhere p (rw (← g.keeps.is_base) (or_false_left (used _ s) (is_cleared s) (not-true _ t)))

  pub begun_long : length begun ≡ length F
  begun_long = abandoned.keeps.count ∙ sym g.keeps.count

  pub recovery_through : Throughout c (Good c J) (recovery_steps e ps) F
  recovery_through = through_map still keeping

  -- the store when it has finished
  abbrev done : Pages
  done = renewed e k'' picks (greatest_wear ps) 0 begun

  recovery_run : store_run (words_in c) (recovery_steps e ps) F ≡ done
  unfolding recovery_steps
  recovery_run =
      store_run_append (words_in c) (abandon_steps ps) (renew_picked e picks ps) F
      ∙ ap (λ (ss : List Step). store_run (words_in c) ss begun) (sym renewing_is)
      ∙ renewals_run e k'' picks (greatest_wear ps) [] begun

  done_keeps : Kept done
  done_keeps = subst Kept recovery_run (through_end keeping)

  none_open : open_group (told e done) ≡ false
  none_open =
      open_in (told e done)
      ∙ ap opened_in (same_active e (words_in c) g.base_order g.used_by begun done (kept_ordered begun abandoned.keeps)
      (kept_ordered done done_keeps) (renewed_used e k'' g.base_order picks (greatest_wear ps) 0 begun idle))
      ∙ sym (open_in (told e begun)) ∙ abandoned.ended

  pub recovered_clean : is_unclean (told e (store_run (words_in c) (recovery_steps e ps) F)) ≡ false
  unfolding is_unclean
  recovered_clean =
      rw (recovery_run, none_open, done_keeps.is_base ∙ sym g.keeps.is_base)
      (rw (eq-eqb _ 0 (renewed_clean e k'' (base (states ps)) (greatest_wear ps) 0 begun)))
