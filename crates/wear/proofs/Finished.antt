-- What the pages are when a write has finished, by the way that it went. Assumes nothing.
use Prim.Native.Nat.{ℕ, zero, suc, ◌+◌, ◌-◌, ◌≤◌, ◌<◌, max}
use mathlib.Core.Path.{◌≡◌, refl, sym, ap, ◌∙◌, subst, subst⁻¹}
use mathlib.Core.Bool.{Bool, true, false}
use mathlib.Core.List.{List, [], ◌∷◌, ◌++◌, map, map-append}
use mathlib.Core.Option.{Option, some}
use native.Mathlib.Omega.{arith}
use lib.ListN.{length, length-map, replicate}
use lib.Seq.{get_or_at}
use lib.Dec.{leb}
use borrow.Author.Tests.{le-leb, eq-eqb, ne_eqb}
use Rattle.rules.specs.Flash.{Step}
use Rattle.rules.specs.Word.{Word, blank, slot, Slot, opening_word, done_word, word_steps}
use Rattle.rules.specs.Page.{blank_word, is_wear, wear_part, wear_in, cleared, open₂, Page, page, state, slots, opening_place}
use Rattle.rules.specs.Store.{states, base, used, order, is_cleared, active_order, active_page, used_pages, free_slot, past, has_room, count, or_else}
use Rattle.rules.specs.Store.{Setting, settings, held, value, last_of, put_all, outside, Place, place_behind, in_group, end_of, Candidate, least_worn}
use Rattle.rules.specs.Store.{index, journal, or_value, no_page, page_at}
use Rattle.rules.specs.Steps.{one_more, renewed_wear, other, slots_steps, record_of, Change, settings_of, words_of, all_values}
use Rattle.rules.specs.Steps.{taken, next_order, new_page, way, way_steps, append_steps, open_steps, move_steps, write_steps}
use Rattle.rules.proofs.Truth.{by_cases, not_both}
use Rattle.rules.proofs.Words.{blank_is, blank_not_sound}
use Rattle.rules.proofs.Pages.{fresh_cleared, open_by_header, opened_plain, opened_received}
use Rattle.rules.proofs.Slots.{Lawful, as_slots, place_append, unsound_stays, blanks_unsound}
use Rattle.rules.proofs.Groups.{Enters, last, more, change_ends, change_words, change_distinct, records_end}
use Rattle.rules.proofs.Settings.{settings_rising, moved_length, moved_held}
use Rattle.rules.proofs.Owners.{settings_after}
use Rattle.rules.proofs.Stores.{Below, NoneUsed, none_used_pages, used_open, taken_at}
use Rattle.rules.proofs.Phases.{Pages, store_run, store_run_append, turns_end}
use Rattle.rules.proofs.Told.{told, told_amid}
use Rattle.rules.proofs.Active.{taken_page, newest_active, page_active, order_active}
use Rattle.rules.proofs.Building.{AllSound, records_sound}
use Rattle.rules.proofs.Renewing.{fresh, renewed}
use Rattle.rules.proofs.Wears.{fresh_wear}
use Rattle.rules.proofs.Good.{Frame, slots_in, words_in, Keeps, Good, Has, changed, good_ordered, journal_is}
use Rattle.rules.proofs.Appending.{Newest, at_active, slotted, taken_slots, free_slots, active_with, slots_now, active_form, active_newest_with}
use Rattle.rules.proofs.Appending.{entering_run, entering_turns, enter_run, enter_turns, still_newest}
use Rattle.rules.proofs.Opening.{Taking, next, opened_newest, wider, opened_keeps, opened_run}
use Rattle.rules.proofs.Moving.{receives, greatest, move_run, move_turns}
use Rattle.rules.proofs.Writing.{Accepted, enters, is_outside, cleared_there, some_taken, taking, copied, copied_lawful, write_turns}

-- what the pages of a store say
abbrev pub told_in : Frame → Pages → List Page
told_in c F = told c.form.edition F

-- ---- the free slot

pub free_sound : (ws : List Word) (m : ℕ) → AllSound ws → free_slot (ws ++ replicate m blank_word) ≡ length ws
unfolding free_slot past AllSound blank
free_sound [] m h = none_free m
  where
    none_free : (m : ℕ) → free_slot (replicate m blank_word) ≡ 0
    none_free zero = refl
    none_free (suc m) = rw (none_free m)
free_sound (w ∷ ws) m h =
    let written : blank w ≡ false = by_cases (blank w) (λ b. not_both (rw (blank_is w b) at h.0) blank_not_sound) (λ b. b) in
    rw written (ap suc (free_sound ws m h.1))

free_behind : (xs ys : List Word) → 0 < free_slot ys → free_slot (xs ++ ys) ≡ length xs + free_slot ys
unfolding free_slot past
free_behind [] ys l = omega arith
free_behind (x ∷ xs) ys l =
    past_is (blank x) (free_slot (xs ++ ys)) (length xs + free_slot ys) (free_behind xs ys l) (omega arith) ∙ omega arith
  where
    past_is : (b : Bool) (n m : ℕ) → n ≡ m → 0 < m → past b n ≡ suc m
    past_is true zero m e l = absurd (omega arith)
    past_is true (suc n) m e l = ap suc e
    past_is false n m e l = ap suc e

enters_sound : {e : ℕ} {at : Place} {ws : List Word} {rs : List Setting} → Enters e at ws rs → AllSound ws
unfolding AllSound
enters_sound (last s counts) = (s, tt)
enters_sound (more s counts rest) = (s, enters_sound rest)

-- ---- every page but one is renewed

-- a page that is renewed: it is cleared, and has one more than its wear
pub record Renewed (p q : Page) : Type 0 where
  pub wear : ℕ
  pub is_cleared : q.state ≡ cleared wear
  pub has_wear : q.wear ≡ some wear
  pub one_more_than : (n : ℕ) → p.wear ≡ some n → wear ≡ one_more n

unfoldable pub AllRenewed : List Page → List Page → Type 0
AllRenewed [] [] = Unit {0}
AllRenewed [] (q ∷ qs) = ⊥
AllRenewed (p ∷ ps) [] = ⊥
AllRenewed (p ∷ ps) (q ∷ qs) = Renewed p q × AllRenewed ps qs

module _ (e k' : ℕ) where
  -- what becomes of a page that is not p
  abbrev others : (p g i : ℕ) → Pages → Pages
  others p g i F = renewed e k' (λ j s. other p j) g i F

  one_renewed : (g : ℕ) (pg : List Word) → Renewed (page e pg) (page e (fresh e k' (renewed_wear g (wear_in e pg))))
  unfolding page renewed_wear or_value
  one_renewed g pg =
      let w = renewed_wear g (wear_in e pg) in
      record { wear = w; is_cleared = fresh_cleared e w k'; has_wear = fresh_wear e k' w; one_more_than = λ n is. rw is }

  is_other : (p i : ℕ) → (i ≡ p → ⊥) → other p i ≡ true
  unfolding other
  is_other p i ne = rw (ne_eqb i p ne)

  all_behind : (p g i : ℕ) (F : Pages) → p < i → AllRenewed (told e F) (told e (others p g i F))
  unfolding AllRenewed renewed
  all_behind p g i [] l = tt
  all_behind p g i (pg ∷ F) l =
      rw (is_other p i (λ z. omega arith)) (one_renewed g pg, all_behind p (max g (renewed_wear g (wear_in e pg))) (suc i) F (omega arith))

  record Amid (p g i : ℕ) (f : Pages) (pg : List Word) (r : Pages) : Type 0 where
    before : Pages
    behind : Pages
    form : others p g i (f ++ pg ∷ r) ≡ before ++ pg ∷ behind
    all_before : AllRenewed (told e f) (told e before)
    all_after : AllRenewed (told e r) (told e behind)

  amid : (p g i : ℕ) (f : Pages) (pg : List Word) (r : Pages) → i + length f ≡ p → Amid p g i f pg r
  unfolding AllRenewed renewed other
  amid p g i [] pg r l =
      let here : i ≡ p = omega arith in
      record {
        before = [];
        behind = others p g (suc i) r;
        form = rw (eq-eqb i p here);
        all_before = tt;
        all_after = all_behind p g (suc i) r (omega arith);
      }
  amid p g i (x ∷ f) pg r l =
      let w = renewed_wear g (wear_in e x) in
      let rest = amid p (max g w) (suc i) f pg r (omega arith) in
      let ne : i ≡ p → ⊥ = λ z. omega arith in
      record {
        before = fresh e k' w ∷ rest.before;
        behind = rest.behind;
        form = rw (ne_eqb i p ne) (ap (λ (G : Pages). fresh e k' w ∷ G) rest.form);
        all_before = (one_renewed g x, rest.all_before);
        all_after = rest.all_after;
      }

-- such pages are not used
none_of_them : (b : ℕ) (ps qs : List Page) → AllRenewed ps qs → NoneUsed b qs
unfolding AllRenewed NoneUsed used
none_of_them b [] [] h = tt
none_of_them b [] (q ∷ qs) h = absurd h
none_of_them b (p ∷ ps) [] h = absurd h
none_of_them b (p ∷ ps) (q ∷ qs) h = (rw h.0.is_cleared, none_of_them b ps qs h.1)

renewed_unused : (b : ℕ) (ps qs : List Page) → AllRenewed ps qs → used_pages b qs ≡ []
renewed_unused b ps qs h = none_used_pages b qs (none_of_them b ps qs h)

-- ---- where a write has gone

-- The page that was written to, p, between the others, and what it is now, q: the active page, with no group open.
pub record Landed (c : Frame) (F G : Pages) (f : List Page) (p : Page) (r g : List Page) (q : Page) (t : List Page) : Type 0 where
  pub before : told_in c F ≡ f ++ p ∷ r
  pub after : told_in c G ≡ g ++ q ∷ t
  pub wear : q.wear ≡ p.wear
  pub is_used : used (base (states (told_in c G))) q.state ≡ true
  pub active : active_page (told_in c G) ≡ q
  pub order_is : order q.state ≡ active_order (states (told_in c G))
  pub ended : in_group (end_of q) ≡ false

-- What a finished write has made of the pages, by its way: with what makes it go this way, what it finds, and how many slots are taken then.
pub data Wrote (c : Frame) (ch : Change) (F G : Pages) : Type 0 where
  stayed : all_values (settings_of ch) (told_in c F) ≡ true → G ≡ F → Wrote c ch F G
  appended : {f r : List Page} {p q : Page} → Landed c F G f p r f q r → all_values (settings_of ch) (told_in c F) ≡ false
      → has_room (length (words_of ch)) (told_in c F) ≡ true
      → active_page (told_in c F) ≡ p → q.state ≡ p.state
      → base (states (told_in c G)) ≡ base (states (told_in c F))
      → free_slot q.slots ≡ free_slot p.slots + length (words_of ch) → Wrote c ch F G
  opened : {f r : List Page} {p q : Page} → Landed c F G f p r f q r → all_values (settings_of ch) (told_in c F) ≡ false
      → has_room (length (words_of ch)) (told_in c F) ≡ false
      → leb 2 (count is_cleared (states (told_in c F))) ≡ true → (n : ℕ) → p.state ≡ cleared n
      → least_worn 0 (states (told_in c F)) ≡ Candidate.page (length f) n → order q.state ≡ next_order (told_in c F)
      → base (states (told_in c G)) ≡ base (states (told_in c F))
      → free_slot q.slots ≡ length (words_of ch) → Wrote c ch F G
  moved : {f r g t : List Page} {p q : Page} → Landed c F G f p r g q t → all_values (settings_of ch) (told_in c F) ≡ false
      → has_room (length (words_of ch)) (told_in c F) ≡ false
      → leb 2 (count is_cleared (states (told_in c F))) ≡ false → (n : ℕ) → p.state ≡ cleared n
      → least_worn 0 (states (told_in c F)) ≡ Candidate.page (length f) n → order q.state ≡ next_order (told_in c F)
      → AllRenewed f g → AllRenewed r t
      → free_slot q.slots ≡ held (told_in c G) → Wrote c ch F G

module _ (c : Frame) (ch : Change) (t : ℕ → Option ℕ) where
  abbrev e : ℕ
  e = c.form.edition

  abbrev ws : List Word
  ws = words_of ch

  abbrev rs : List Setting
  rs = settings_of ch

  -- the pages when it has finished
  abbrev pub finished_pages : Pages → Pages
  finished_pages F = store_run (words_in c) (write_steps e ch (told e F)) F

  -- a page of a good store that is newer than every other used one is the active one
  newest_is : {K : List Setting} (f : Pages) (pg : List Word) (r : Pages) → Good c K (f ++ pg ∷ r) → (b : ℕ) → base (states (told e (f ++ pg ∷ r))) ≡ b
      → Newest e b f pg r → active_page (told e (f ++ pg ∷ r)) ≡ page e pg
  newest_is {K} f pg r g b is new =
      let G = f ++ pg ∷ r in
      let same : b ≡ g.base_order = sym is ∙ g.keeps.is_base in
      let new' = subst (λ (x : ℕ). Newest e x f pg r) same new in
      newest_active e (words_in c) g.base_order g.used_by f pg r (good_ordered c K G g) new'.is_used new'.before new'.behind

  newest_order : {K : List Setting} (f : Pages) (pg : List Word) (r : Pages) → Good c K (f ++ pg ∷ r) → (b : ℕ) → base (states (told e (f ++ pg ∷ r))) ≡ b
      → Newest e b f pg r → order (state e pg) ≡ active_order (states (told e (f ++ pg ∷ r)))
  unfolding page
  newest_order {K} f pg r g b is new =
      let G = f ++ pg ∷ r in
      ap (λ (p : Page). order p.state) (sym (newest_is f pg r g b is new))
      ∙ order_active e (words_in c) g.base_order g.used_by G (good_ordered c K G g)

  -- slots xs, then words behind which no group is open, then blank ones
  slots_end : (xs vs : List Word) (m : ℕ) → place_behind outside (as_slots e xs) ≡ outside → place_behind outside (as_slots e vs) ≡ outside
      → in_group (place_behind outside (as_slots e (xs ++ (vs ++ replicate m blank_word)))) ≡ false
  unfolding in_group
  slots_end xs vs m out ends =
      let blanks = replicate m blank_word in
      ap (λ (ss : List Slot). in_group (place_behind outside ss))
      (map-append (slot e) xs (vs ++ blanks) ∙ ap (λ (ss : List Slot). as_slots e xs ++ ss) (map-append (slot e) vs blanks))
      ∙ ap in_group (place_append outside (as_slots e xs) (as_slots e vs ++ as_slots e blanks))
      ∙ ap (λ (at : Place). in_group (place_behind at (as_slots e vs ++ as_slots e blanks))) out
      ∙ ap in_group (place_append outside (as_slots e vs) (as_slots e blanks))
      ∙ ap (λ (at : Place). in_group (place_behind at (as_slots e blanks))) ends
      ∙ unsound_stays e outside blanks (blanks_unsound m)

  -- ---- behind the last slot taken

  module _ (F : Pages) (h : Accepted c ch t F) (new : all_values rs (told e F) ≡ false) (free : has_room (length ws) (told e F) ≡ true) where
    abbrev J : List Setting
    J = h.has.journal

    abbrev g : Good c J F
    g = h.has.good

    abbrev b : ℕ
    b = g.base_order

    abbrev left_free : ℕ
    left_free = free_slots c J F g - length ws

    -- its slots then, the pages, and that the store keeps its journal with the records
    abbrev slots_then : List Word
    slots_then = taken_slots c J F g ++ (ws ++ replicate left_free blank_word)

    abbrev G : Pages
    G = (at_active c J F g).front ++ active_with c J F g slots_then ∷ (at_active c J F g).rest

    kept : Keeps c b g.used_by (J ++ rs) G
    kept =
        subst (Keeps c b g.used_by (J ++ rs)) (entering_run c J F g ws free)
        (turns_end (entering_turns c J F g ws free (subst (λ (at : Place). Enters e at ws rs) (is_outside c ch t F h new free) (enters c ch t F h new))))

    taken_are : free_slot (slots_now c J F g) ≡ length (taken_slots c J F g)
    taken_are = let fr = (slotted c J F g).free in ap free_slot (sym fr.form) ∙ sym fr.place

    append_wrote : {L : List Setting} → Good c L G → Wrote c ch F G
    unfolding page slots wear_in wear_part
    append_wrote good =
        let at = at_active c J F g in
        let was = active_with c J F g (slots_now c J F g) in
        let is = active_with c J F g slots_then in
        let hd = (slotted c J F g).header in
        let newest = active_newest_with c J F g in
        let least = (change_words e ch h.grouped).0 in
        let sounds = free_sound ws left_free (enters_sound (enters c ch t F h new)) in
        appended {f = told e at.front} {r = told e at.rest} {p = page e was} {q = page e is}
        (record {
          before = ap (told e) (active_form c J F g) ∙ told_amid e at.front was at.rest;
          after = told_amid e at.front is at.rest;
          wear = refl;
          is_used = rw kept.is_base (newest slots_then).is_used;
          active = newest_is at.front is at.rest good b kept.is_base (newest slots_then);
          order_is = newest_order at.front is at.rest good b kept.is_base (newest slots_then);
          ended = slots_end (taken_slots c J F g) ws left_free (sym (is_outside c ch t F h new free)) (change_ends e ch h.grouped h.addressed);
        })
        new free
        (page_active e (words_in c) b g.used_by F (good_ordered c J F g) ∙ ap (page e) (hd.form ∙ ap (active_with c J F g) (slotted c J F g).free.form))
        (sym (open_by_header e _ _ _ (slots_now c J F g) slots_then (used_open b (state e was) (newest (slots_now c J F g)).is_used).0))
        (kept.is_base ∙ sym g.keeps.is_base)
        (free_behind (taken_slots c J F g) (ws ++ replicate left_free blank_word) (omega arith)
        ∙ omega (arith, sounds, taken_are))

    goes_append : finished_pages F ≡ G
    unfolding write_steps way way_steps append_steps
    goes_append = rw (new, free) (entering_run c J F g ws free)

  -- ---- into a page that is taken

  -- the page stands between the others
  module _ (f : Pages) (w : Word) (r : Pages) (h : Accepted c ch t (f ++ taken_page (slots_in c) w ∷ r))
      (new : all_values rs (told e (f ++ taken_page (slots_in c) w ∷ r)) ≡ false)
      (full : has_room (length ws) (told e (f ++ taken_page (slots_in c) w ∷ r)) ≡ false)
      (worn : is_wear e w ≡ true) (place : taken (told e (f ++ taken_page (slots_in c) w ∷ r)) ≡ length f) where
    abbrev was : List Word
    was = taken_page (slots_in c) w

    abbrev F' : Pages
    F' = f ++ was ∷ r

    abbrev K : List Setting
    K = h.has.journal

    abbrev tk : Taking c K f w r
    tk = taking c ch t f w r h new worn place

    abbrev order_then : ℕ
    order_then = next c K f w r tk

    -- it is cleared, and of those the one worn least
    least : (n : ℕ) × ((page e was).state ≡ cleared n) × (least_worn 0 (states (told e F')) ≡ Candidate.page (length (told e f)) n)
    unfolding taken index page
    least =
        let all = cleared_there c ch t F' h new in
        let sp = h.has.good.spare in
        let tk = taken_at 0 (told e F') (λ z. omega arith) in
        let at : length tk.front ≡ length (told e f) =
        (let i : 0 + length tk.front ≡ length f = sym (ap index tk.place) ∙ place in omega (arith, length-map f (page e))) in
        let it : page e was ≡ tk.page =
        sym (get_or_at (told e f) (page e was) (told e r) no_page (length (told e f)) refl)
        ∙ ap (page_at (length (told e f))) (sym (told_amid e f was r) ∙ tk.form) ∙ get_or_at tk.front tk.page tk.rest no_page (length (told e f)) at in
        (tk.wear, ap (λ (p : Page). p.state) it ∙ tk.is_cleared, tk.place ∙ ap (λ (i : ℕ). Candidate.page i tk.wear) (omega arith))

    -- with the change, opened
    abbrev opened_with : List Word
    opened_with = w ∷ opening_word 1 order_then ∷ blank_word ∷ (ws ++ replicate (slots_in c - length ws) blank_word)

    abbrev G₁ : Pages
    G₁ = f ++ opened_with ∷ r

    fits : length ws ≤ slots_in c
    fits = omega (arith, (change_words e ch h.grouped).1, c.ten)

    open_run : store_run (words_in c) (open_steps (length f) order_then ch) F' ≡ G₁
    unfolding open_steps
    open_run =
        store_run_append (words_in c) (word_steps (length f) opening_place (opening_word 1 order_then)) (slots_steps (length f) 0 ws) F'
        ∙ ap (store_run (words_in c) (slots_steps (length f) 0 ws)) (opened_run c K f w r tk)
        ∙ enter_run c h.has.good.base_order (wider c K f w r tk) K f w (opening_word 1 order_then) blank_word [] (slots_in c) r ws fits

    opened_kept : Keeps c h.has.good.base_order (wider c K f w r tk) (K ++ rs) G₁
    unfolding place_behind
    opened_kept =
        let b = h.has.good.base_order in
        subst (Keeps c b (wider c K f w r tk) (K ++ rs))
        (enter_run c b (wider c K f w r tk) K f w (opening_word 1 order_then) blank_word [] (slots_in c) r ws fits)
        (turns_end (enter_turns c b (wider c K f w r tk) K f w (opening_word 1 order_then) blank_word [] (slots_in c) r (opened_newest c K f w r tk)
        (opened_keeps c K f w r tk) (enters c ch t F' h new) fits))

    open_wrote : {L : List Setting} → Good c L G₁ → leb 2 (count is_cleared (states (told e F'))) ≡ true → Wrote c ch F' G₁
    unfolding page slots wear_in wear_part place_behind order
    open_wrote good two =
        let b = h.has.good.base_order in
        let newest = still_newest c b (wider c K f w r tk) K f w (opening_word 1 order_then) blank_word [] (slots_in c) r (opened_newest c K f w r tk)
        (ws ++ replicate (slots_in c - length ws) blank_word) in
        let l = least in
        opened {f = told e f} {r = told e r} {p = page e was} {q = page e opened_with}
        (record {
          before = told_amid e f was r;
          after = told_amid e f opened_with r;
          wear = refl;
          is_used = rw opened_kept.is_base newest.is_used;
          active = newest_is f opened_with r good b opened_kept.is_base newest;
          order_is = newest_order f opened_with r good b opened_kept.is_base newest;
          ended = slots_end [] ws (slots_in c - length ws) refl (change_ends e ch h.grouped h.addressed);
        })
        new full two l.0 l.1 l.2 (ap order (opened_plain e w worn order_then _)) (opened_kept.is_base ∙ sym h.has.good.keeps.is_base)
        (free_sound ws (slots_in c - length ws) (enters_sound (enters c ch t F' h new)))

    -- with all that is held, moved to: what is copied, and the page with it
    abbrev records_then : List Setting
    records_then = copied c ch t f w r h new worn place

    copied_fits : length records_then ≤ slots_in c
    copied_fits =
        omega (arith, moved_length rs K c.limit (h.room new) (change_distinct e ch h.grouped), c.fits)

    abbrev lawful : Lawful records_then
    lawful = copied_lawful c ch t f w r h new worn place

    abbrev left_blank : ℕ
    left_blank = slots_in c - length (map record_of records_then)

    abbrev moved_with : List Word
    moved_with = receives c K f w r tk (done_word order_then) (map record_of records_then ++ replicate left_blank blank_word)

    -- every other page is renewed
    abbrev around : Amid e (suc (suc (slots_in c))) (length f) (greatest c K f w r tk records_then lawful copied_fits) 0 f moved_with r
    around = amid e (suc (suc (slots_in c))) (length f) (greatest c K f w r tk records_then lawful copied_fits) 0 f moved_with r (omega arith)

    abbrev G₂ : Pages
    G₂ = around.before ++ moved_with ∷ around.behind

    moving_run : store_run (words_in c) (move_steps e (length f) order_then records_then (told e F')) F' ≡ G₂
    moving_run = move_run c K f w r tk records_then lawful copied_fits ∙ around.form

    moved_kept : Keeps c order_then (order_then ∷ []) records_then G₂
    moved_kept =
        subst (Keeps c order_then (order_then ∷ []) records_then) moving_run (turns_end (move_turns c K f w r tk records_then lawful copied_fits))

    moved_newest : Newest e order_then around.before moved_with around.behind
    unfolding used order Below
    moved_newest =
        let o = order_then in
        let is : state e moved_with ≡ open₂ o = opened_received e w worn o _ in
        record {
          is_used = rw is (le-leb o o (omega arith));
          before = rw (is, renewed_unused o (told e f) (told e around.before) around.all_before) tt;
          behind = rw (is, renewed_unused o (told e r) (told e around.behind) around.all_after) tt;
        }

    -- as many are held then as were copied
    held_then : Has c (changed rs t) G₂ → held (told e G₂) ≡ length records_then
    unfolding held settings value
    held_then has =
        let ps = told e F' in
        let qs = told e G₂ in
        let was : journal ps ≡ K = journal_is c K F' h.has.good in
        let now : journal qs ≡ has.journal = journal_is c has.journal G₂ has.good in
        let after : (x : ℕ) → value x qs ≡ or_else (last_of x rs) (value x ps) =
        λ x. ap (last_of x) now ∙ has.values x ∙ ap (or_else (last_of x rs)) (sym (ap (last_of x) was ∙ h.has.values x)) in
        ap length (settings_after rs ps qs after ∙ ap (λ (j : List Setting). put_all (put_all [] j) rs) was)
        ∙ sym (moved_held rs (put_all [] K) (settings_rising K) (change_distinct e ch h.grouped))

    move_wrote : Has c (changed rs t) G₂ → leb 2 (count is_cleared (states (told e F'))) ≡ false → Wrote c ch F' G₂
    unfolding page slots wear_in wear_part place_behind order
    move_wrote has one =
        let l = least in
        moved {f = told e f} {r = told e r} {g = told e around.before} {t = told e around.behind} {p = page e was} {q = page e moved_with}
        (record {
          before = told_amid e f was r;
          after = told_amid e around.before moved_with around.behind;
          wear = refl;
          is_used = rw moved_kept.is_base moved_newest.is_used;
          active = newest_is around.before moved_with around.behind has.good order_then moved_kept.is_base moved_newest;
          order_is = newest_order around.before moved_with around.behind has.good order_then moved_kept.is_base moved_newest;
          ended = slots_end [] (map record_of records_then) left_blank refl (records_end e records_then lawful);
        })
        new full one l.0 l.1 l.2 (ap order (opened_received e w worn order_then _)) around.all_before around.all_after
        (free_sound (map record_of records_then) left_blank (records_sound records_then) ∙ length-map records_then record_of ∙ sym (held_then has))

    goes_open : leb 2 (count is_cleared (states (told e F'))) ≡ true → finished_pages F' ≡ G₁
    unfolding write_steps way way_steps new_page
    goes_open two = rw (new, full, two, place) open_run

    move_is : leb 2 (count is_cleared (states (told e F'))) ≡ false → write_steps e ch (told e F') ≡ move_steps e (length f) order_then records_then (told e F')
    unfolding write_steps way way_steps new_page settings
    move_is one = rw (new, full, one, place, journal_is c K F' h.has.good)

    goes_move : leb 2 (count is_cleared (states (told e F'))) ≡ false → finished_pages F' ≡ G₂
    goes_move one = ap (λ (ss : List Step). store_run (words_in c) ss F') (move_is one) ∙ moving_run

    into_new : Has c (changed rs t) (finished_pages F') → Wrote c ch F' (finished_pages F')
    into_new has =
        by_cases (leb 2 (count is_cleared (states (told e F'))))
        (λ two. subst⁻¹ (Wrote c ch F') (goes_open two) (open_wrote (subst (Has c (changed rs t)) (goes_open two) has).good two))
        (λ one. subst⁻¹ (Wrote c ch F') (goes_move one) (move_wrote (subst (Has c (changed rs t)) (goes_move one) has) one))

  -- ---- an accepted write

  goes_nowhere : (F : Pages) → all_values rs (told e F) ≡ true → finished_pages F ≡ F
  unfolding write_steps way way_steps store_run
  goes_nowhere F s = rw s

  pub wrote : (F : Pages) → Accepted c ch t F → Wrote c ch F (finished_pages F)
  wrote F h =
      let has : Has c (changed rs t) (finished_pages F) = turns_end (write_turns c ch t F h) in
      by_cases (all_values rs (told e F)) (λ s. stayed s (goes_nowhere F s))
      (λ s.
      by_cases (has_room (length ws) (told e F))
      (λ p.
      let goes = goes_append F h s p in
      subst⁻¹ (Wrote c ch F) goes (append_wrote F h s p (subst (Has c (changed rs t)) goes has).good))
      (λ p.
      let k = some_taken c ch t F h s in
      subst⁻¹ (λ (G : Pages). Wrote c ch G (finished_pages G)) k.form
      (into_new k.front k.first k.rest (subst (Accepted c ch t) k.form h)
      (subst (λ (G : Pages). all_values rs (told e G) ≡ false) k.form s) (subst (λ (G : Pages). has_room (length ws) (told e G) ≡ false) k.form p)
      k.worn (subst (λ (G : Pages). taken (told e G) ≡ length k.front) k.form k.place)
      (subst (λ (G : Pages). Has c (changed rs t) (finished_pages G)) k.form has))))
