-- Words are programmed into the slots of the newest page, from its free one on: the journal gains their records at the last of them,
-- and till then it stays. Assumes nothing.
use Prim.Native.Nat.{ℕ, suc, ◌+◌, ◌-◌, ◌≤◌, max}
use mathlib.Core.Path.{◌≡◌, refl, sym, ap, ◌∙◌, subst}
use mathlib.Core.Bool.{true}
use mathlib.Core.List.{List, [], ◌∷◌, ◌++◌, map-append, append-nil, append_assoc}
use native.Mathlib.Omega.{arith}
use lib.ListN.{length, replicate}
use lib.Seq.{append_snoc}
use borrow.Author.Tests.{leb-true}
use Rattle.rules.specs.Flash.{Step}
use Rattle.rules.specs.Word.{Word, sound, Slot, slot, word_steps}
use Rattle.rules.specs.Page.{blank_word, State, Page, page, state, slots, slot_place}
use Rattle.rules.specs.Store.{states, base, order, order₂, used, is_open, greatest, active_index, active_page, active_slots, used_pages, oldest_first, Setting}
use Rattle.rules.specs.Store.{Place, outside, behind, counted, scan, place_behind, records, all_records, free_slot, has_room, in_group, end_of}
use Rattle.rules.specs.Steps.{slots_steps}
use Rattle.rules.proofs.Words.{Light, sound_light}
use Rattle.rules.proofs.Pages.{open_by_header}
use Rattle.rules.proofs.Slots.{AllUnsound, blanks_unsound, as_slots, records_append, records_before, unsound_silent, unsound_stays, place_append}
use Rattle.rules.proofs.Groups.{Enters, last, more}
use Rattle.rules.proofs.Stores.{Below, ActiveAt, orders, orders_append, base_amid, used_amid, used_open, journal_amid}
use Rattle.rules.proofs.Phases.{Pages, Partial, store_run, word_turns, turns_map, turns_through, turns_after}
use Rattle.rules.proofs.Building.{room, room_unsound, room_is, slot_at, slot_run, slots_run, next_slot}
use Rattle.rules.proofs.Told.{told, Parted}
use Rattle.rules.proofs.Active as Active
use Rattle.rules.proofs.Active.{Slotted, active_slotted, active_place, page_active}
use Rattle.rules.proofs.Good.{Frame, slots_in, words_in, Turning, Whole, Keeps, Good, whole_amid, whole_word, keeps_base, keeps_orders}
use Rattle.rules.proofs.Good.{keeps_journal, keeps_with, good_ordered}

-- a page that is used and newer than every other used one
pub record Newest (edition b : ℕ) (f : Pages) (pg : List Word) (r : Pages) : Type 0 where
  pub is_used : used b (state edition pg) ≡ true
  pub before : Below (order (state edition pg)) (used_pages b (told edition f))
  pub behind : Below (order (state edition pg)) (used_pages b (told edition r))

-- the records of the other pages
abbrev pub others : (edition b : ℕ) (f r : Pages) → List Setting
others edition b f r = all_records (oldest_first (used_pages b (told edition f) ++ used_pages b (told edition r)))

module _ (c : Frame) (b : ℕ) (os : List ℕ) (f : Pages) (pg : List Word) (r : Pages) (new : Newest c.form.edition b f pg r) where
  abbrev fp : List Page
  fp = told c.form.edition f

  abbrev rp : List Page
  rp = told c.form.edition r

  module _ (J : List Setting) (h : Keeps c b os J (f ++ pg ∷ r)) where
    newest_journal : J ≡ others c.form.edition b f r ++ records c.form.edition (slots pg)
    unfolding page
    newest_journal = sym (keeps_journal c b os J f pg r h) ∙ journal_amid b fp (page c.form.edition pg) rp new.is_used new.before new.behind

    -- its slots change and its state does not
    newest_slots : (qg : List Word) → state c.form.edition pg ≡ state c.form.edition qg → Whole c qg
        → Keeps c b os (others c.form.edition b f r ++ records c.form.edition (slots qg)) (f ++ qg ∷ r)
    unfolding page orders
    newest_slots qg e w =
        let p = page c.form.edition pg in
        let q = page c.form.edition qg in
        let u : used b (state c.form.edition qg) ≡ true = rw e at new.is_used in
        keeps_with c b os J f pg r h qg w
        (base_amid fp q rp ∙ ap (λ (s : State). max (base (states fp)) (max (order₂ s) (base (states rp)))) (sym e)
        ∙ sym (base_amid fp p rp) ∙ keeps_base c b os J f pg r h)
        (ap orders (used_amid b fp q rp u) ∙ orders_append (used_pages b fp) (q ∷ used_pages b rp)
        ∙ ap (λ (s : State). orders (used_pages b fp) ++ order s ∷ orders (used_pages b rp)) (sym e)
        ∙ sym (orders_append (used_pages b fp) (p ∷ used_pages b rp)) ∙ sym (ap orders (used_amid b fp p rp new.is_used))
        ∙ keeps_orders c b os J f pg r h)
        (journal_amid b fp q rp u (rw e at new.before) (rw e at new.behind))

-- ---- slots of the newest page

module _ (c : Frame) (b : ℕ) (os : List ℕ) (J : List Setting) (f : Pages) (x y z : Word) (ss₀ : List Word) (r : Pages) where
  abbrev e : ℕ
  e = c.form.edition

  -- the page with these slots
  abbrev holding : List Word → List Word
  holding ss = x ∷ y ∷ z ∷ ss

  module _ (new : Newest e b f (holding ss₀) r) (h : Keeps c b os J (f ++ holding ss₀ ∷ r)) where
    -- the records of the store, those of this page being rs
    abbrev with_records : List Setting → List Setting
    with_records rs = others e b f r ++ rs

    with_slots : (ss : List Word) → Whole c (holding ss) → Keeps c b os (with_records (records e ss)) (f ++ holding ss ∷ r)
    unfolding slots
    with_slots ss w =
        let open_page = (used_open b (state e (holding ss₀)) new.is_used).0 in
        newest_slots c b os f (holding ss₀) r new J h (holding ss) (open_by_header e x y z ss₀ ss open_page) w

    pub journal_was : J ≡ with_records (records e ss₀)
    unfolding slots
    journal_was = newest_journal c b os f (holding ss₀) r new J h

    -- the journal with these records more
    abbrev Gained : List Setting → Pages → Type 0
    Gained rs = Keeps c b os (J ++ rs)

    -- one word more
    one_gained : (xs ys : List Word) → AllUnsound ys → J ≡ with_records (records e xs) → (w : Word) (rs : List Setting)
        → counted (place_behind outside (as_slots e xs)) (slot e w) ≡ rs → J ++ rs ≡ with_records (records e (xs ++ w ∷ ys))
    unfolding scan
    one_gained xs ys unsound was w rs counts =
        let at = place_behind outside (as_slots e xs) in
        ap (λ (j : List Setting). j ++ rs) was ∙ append_assoc (others e b f r) (records e xs) rs
        ∙ ap with_records
        (sym (records_append e xs (w ∷ ys)
        ∙ ap (λ (ts : List Setting). records e xs ++ (counted at (slot e w) ++ ts)) (unsound_silent e (behind at (slot e w)) ys unsound)
        ∙ ap (λ (ts : List Setting). records e xs ++ ts) (append-nil (counted at (slot e w)) ∙ counts)))

    module _ (xs ys : List Word) (unsound : AllUnsound ys) (was : J ≡ with_records (records e xs)) (whole : Whole c (holding (xs ++ blank_word ∷ ys))) where
      light_whole : (v : Word) → Light v → Whole c (holding (xs ++ v ∷ ys))
      light_whole v l = whole_word c x (y ∷ z ∷ xs) blank_word v ys whole l

      partial_keeps : (v : Word) → Partial v → Keeps c b os J (f ++ holding (xs ++ v ∷ ys) ∷ r)
      unfolding AllUnsound
      partial_keeps v p =
          subst (λ (j : List Setting). Keeps c b os j (f ++ holding (xs ++ v ∷ ys) ∷ r))
          (ap with_records (records_before e xs (v ∷ ys) (p.not_sound, unsound)) ∙ sym was)
          (with_slots (xs ++ v ∷ ys) (light_whole v p.light))

      one_turns : (w : Word) → sound w ≡ true → (rs : List Setting) → counted (place_behind outside (as_slots e xs)) (slot e w) ≡ rs
          → Turning c (Keeps c b os J) (Gained rs) (word_steps (length f) (slot_place (length xs)) w) (f ++ holding (xs ++ blank_word ∷ ys) ∷ r)
      one_turns w s rs counts =
          rw (slot_at (words_in c) f r x y z w xs)
          (word_turns (words_in c) f r (holding xs) ys c.May (Keeps c b os J) (Gained rs) w s partial_keeps
          (subst (λ (j : List Setting). Keeps c b os j (f ++ holding (xs ++ w ∷ ys) ∷ r)) (sym (one_gained xs ys unsound was w rs counts))
          (with_slots (xs ++ w ∷ ys) (light_whole w (sound_light w s)))))

    -- where the slot behind it stands
    one_behind : (xs : List Word) (w : Word) → place_behind outside (as_slots e (xs ++ w ∷ [])) ≡ behind (place_behind outside (as_slots e xs)) (slot e w)
    unfolding place_behind
    one_behind xs w = ap (place_behind outside) (map-append (slot e) xs (w ∷ [])) ∙ place_append outside (as_slots e xs) (slot e w ∷ [])

    -- all of them
    pub enters_turns : {at : Place} {ws : List Word} {rs : List Setting} → Enters e at ws rs → (xs ys : List Word)
        → place_behind outside (as_slots e xs) ≡ at → AllUnsound ys → J ≡ with_records (records e xs) → Whole c (holding (xs ++ room ws ys))
        → Turning c (Keeps c b os J) (Gained rs) (slots_steps (length f) (length xs) ws) (f ++ holding (xs ++ room ws ys) ∷ r)
    unfolding slots_steps room
    enters_turns {at} {ws} {rs} (last {w = w} s counts) xs ys is unsound was whole =
        let steps = word_steps (length f) (slot_place (length xs)) w in
        let F = f ++ holding (xs ++ blank_word ∷ ys) ∷ r in
        subst (λ (ss : List Step). Turning c (Keeps c b os J) (Gained rs) ss F) (sym (append-nil steps))
        (one_turns xs ys unsound was whole w s rs (ap (λ (p : Place). counted p (slot e w)) is ∙ counts))
    enters_turns {at} {ws} {rs} (more {w = w} {ws = vs} s counts en) xs ys is unsound was whole =
        let silent : AllUnsound (room vs ys) = room_unsound vs ys unsound in
        let none : counted (place_behind outside (as_slots e xs)) (slot e w) ≡ [] = ap (λ (p : Place). counted p (slot e w)) is ∙ counts in
        let first = turns_through (turns_map (λ G k. k) (λ G k. subst (λ (j : List Setting). Keeps c b os j G) (append-nil J) k)
        (one_turns xs (room vs ys) silent was whole w s [] none)) in
        let more_behind : place_behind outside (as_slots e (xs ++ w ∷ [])) ≡ behind at (slot e w) =
        one_behind xs w ∙ ap (λ (p : Place). behind p (slot e w)) is in
        let now : J ≡ with_records (records e (xs ++ w ∷ [])) = sym (append-nil J) ∙ one_gained xs [] (blanks_unsound 0) was w [] none in
        let whole' : Whole c (holding ((xs ++ w ∷ []) ++ room vs ys)) =
        rw append_snoc (light_whole xs (room vs ys) silent was whole w (sound_light w s)) in
        let rest = enters_turns en (xs ++ w ∷ []) ys more_behind unsound now whole' in
        let rest' : Turning c (Keeps c b os J) (Gained rs) (slots_steps (length f) (suc (length xs)) vs) (f ++ holding (xs ++ w ∷ room vs ys) ∷ r) =
        rw (next_slot (words_in c) f r x y z w xs, append_snoc xs w (room vs ys)) at rest in
        turns_after first (subst (Turning c (Keeps c b os J) (Gained rs) (slots_steps (length f) (suc (length xs)) vs))
        (sym (slot_run (words_in c) f r x y z w xs (room vs ys))) rest')

-- ---- words go into the newest page, wherever that is, behind its slots xs

module _ (c : Frame) (b : ℕ) (os : List ℕ) (J : List Setting) (f : Pages) (x y z : Word) (xs : List Word) (m : ℕ) (r : Pages) where
  abbrev edition : ℕ
  edition = c.form.edition

  -- the page with these slots
  abbrev pub newest_with : List Word → List Word
  newest_with ss = x ∷ y ∷ z ∷ ss

  -- and what is left blank behind ws
  abbrev pub entered : List Word → List Word
  entered ws = newest_with (xs ++ (ws ++ replicate (m - length ws) blank_word))

  room_there : (ws : List Word) → length ws ≤ m → xs ++ replicate m blank_word ≡ xs ++ room ws (replicate (m - length ws) blank_word)
  room_there ws fits = ap (λ (vs : List Word). xs ++ vs) (room_is ws m fits)

  pub enter_run : (ws : List Word) → length ws ≤ m
      → store_run (words_in c) (slots_steps (length f) (length xs) ws) (f ++ newest_with (xs ++ replicate m blank_word) ∷ r) ≡ f ++ entered ws ∷ r
  enter_run ws fits =
      ap (λ (vs : List Word). store_run (words_in c) (slots_steps (length f) (length xs) ws) (f ++ newest_with vs ∷ r)) (room_there ws fits)
      ∙ slots_run (words_in c) f r x y z ws xs (replicate (m - length ws) blank_word)

  module _ (new : Newest edition b f (newest_with (xs ++ replicate m blank_word)) r) where
    is_open_page : is_open (state edition (newest_with (xs ++ replicate m blank_word))) ≡ true
    is_open_page = (used_open b (state edition (newest_with (xs ++ replicate m blank_word))) new.is_used).0

    pub still_newest : (ss : List Word) → Newest edition b f (newest_with ss) r
    still_newest ss =
        let same = open_by_header edition x y z (xs ++ replicate m blank_word) ss is_open_page in
        record { is_used = rw same at new.is_used; before = rw same at new.before; behind = rw same at new.behind }

    pub enter_turns : (h : Keeps c b os J (f ++ newest_with (xs ++ replicate m blank_word) ∷ r)) {ws : List Word} {rs : List Setting}
        → Enters edition (place_behind outside (as_slots edition xs)) ws rs → length ws ≤ m
        → Turning c (Keeps c b os J) (Keeps c b os (J ++ rs)) (slots_steps (length f) (length xs) ws) (f ++ newest_with (xs ++ replicate m blank_word) ∷ r)
    enter_turns h {ws} {rs} en fits =
        let ss = xs ++ replicate m blank_word in
        let was = journal_was c b os J f x y z ss r new h
        ∙ ap (λ (rs : List Setting). others edition b f r ++ rs) (records_before edition xs (replicate m blank_word) (blanks_unsound m)) in
        let whole : Whole c (newest_with (xs ++ room ws (replicate (m - length ws) blank_word))) =
        rw (room_there ws fits) at (whole_amid c f (newest_with ss) r h.whole).1 in
        subst (Turning c (Keeps c b os J) (Keeps c b os (J ++ rs)) (slots_steps (length f) (length xs) ws))
        (sym (ap (λ (vs : List Word). f ++ newest_with vs ∷ r) (room_there ws fits)))
        (enters_turns c b os J f x y z ss r new h en xs (replicate (m - length ws) blank_word) refl (blanks_unsound (m - length ws)) was whole)

-- ---- words go into the active page of a good store

module _ (c : Frame) (J : List Setting) (F : Pages) (g : Good c J F) where
  abbrev e' : ℕ
  e' = c.form.edition

  abbrev active : ActiveAt g.base_order (greatest g.used_by) (told e' F)
  active = Active.active e' (words_in c) g.base_order g.used_by F (good_ordered c J F g)

  abbrev pub at_active : Parted e' F active.front active.page active.rest
  at_active = Active.at_active e' (words_in c) g.base_order g.used_by F (good_ordered c J F g)

  active_newest : Newest e' g.base_order at_active.front at_active.here at_active.rest
  unfolding page
  active_newest =
      let e : state e' at_active.here ≡ active.page.state = ap (λ (p : Page). p.state) at_active.here_told in
      let o : order (state e' at_active.here) ≡ greatest g.used_by = ap order e ∙ active.is_order in
      record {
        is_used = rw e active.is_used;
        before = rw (o, at_active.front_told) active.before;
        behind = rw (o, at_active.rest_told) active.behind;
      }

  abbrev pub slotted : Slotted e' (slots_in c) g.base_order g.used_by F (good_ordered c J F g)
  slotted = active_slotted e' (slots_in c) g.base_order g.used_by F (good_ordered c J F g)

  -- the slots of the active page before its free one, how many are free, and where the free one stands
  abbrev pub taken_slots : List Word
  taken_slots = slotted.free.front

  abbrev pub free_slots : ℕ
  free_slots = slotted.free.rest

  abbrev pub free_place : Place
  free_place = place_behind outside (as_slots e' taken_slots)

  pub end_is : in_group (end_of (active_page (told e' F))) ≡ in_group free_place
  unfolding page slots
  end_is =
      let hd = slotted.header in
      let t = slotted.free in
      let blanks = replicate t.rest blank_word in
      ap (λ (p : Page). in_group (end_of p)) (page_active e' (words_in c) g.base_order g.used_by F (good_ordered c J F g))
      ∙ ap (λ (ws : List Word). in_group (place_behind outside (as_slots e' (slots ws)))) hd.form
      ∙ ap (λ (ws : List Word). in_group (place_behind outside (as_slots e' ws))) t.form
      ∙ ap (λ (ss : List Slot). in_group (place_behind outside ss)) (map-append (slot e') t.front blanks)
      ∙ ap in_group (place_append outside (as_slots e' t.front) (as_slots e' blanks))
      ∙ unsound_stays e' free_place blanks (blanks_unsound t.rest)

  -- the active page with other slots
  abbrev pub active_with : List Word → List Word
  active_with ss = slotted.header.x ∷ slotted.header.y ∷ slotted.header.z ∷ ss

  abbrev pub slots_now : List Word
  slots_now = taken_slots ++ replicate free_slots blank_word

  active_is : at_active.here ≡ active_with slots_now
  active_is = slotted.header.form ∙ ap active_with slotted.free.form

  pub active_form : F ≡ at_active.front ++ active_with slots_now ∷ at_active.rest
  active_form = at_active.form ∙ ap (λ (q : List Word). at_active.front ++ q ∷ at_active.rest) active_is

  newest_now : Newest e' g.base_order at_active.front (active_with slots_now) at_active.rest
  newest_now = subst (λ (q : List Word). Newest e' g.base_order at_active.front q at_active.rest) active_is active_newest

  pub active_newest_with : (ss : List Word) → Newest e' g.base_order at_active.front (active_with ss) at_active.rest
  active_newest_with ss =
      still_newest c g.base_order g.used_by J at_active.front slotted.header.x slotted.header.y slotted.header.z taken_slots free_slots
      at_active.rest newest_now ss

  module _ (ws : List Word) (free : has_room (length ws) (told e' F) ≡ true) where
    fits : length ws ≤ free_slots
    unfolding has_room
    fits =
        let ps = told e' F in
        let l = leb-true (free_slot (active_slots ps) + length ws) (length (active_slots ps)) free in
        omega (arith, slotted.place, slotted.many)

    -- the steps that put them there
    abbrev pub entering : List Step
    entering = slots_steps (active_index (states (told e' F))) (free_slot (active_slots (told e' F))) ws

    entering_is : slots_steps (length at_active.front) (length taken_slots) ws ≡ entering
    entering_is = rw (active_place e' (words_in c) g.base_order g.used_by F (good_ordered c J F g), slotted.place)

    pub entering_run : store_run (words_in c) entering F
        ≡ at_active.front ++ active_with (taken_slots ++ (ws ++ replicate (free_slots - length ws) blank_word)) ∷ at_active.rest
    entering_run =
        rw (← entering_is)
        (ap (store_run (words_in c) (slots_steps (length at_active.front) (length taken_slots) ws)) active_form
        ∙ enter_run c g.base_order g.used_by J at_active.front slotted.header.x slotted.header.y slotted.header.z taken_slots free_slots
        at_active.rest ws fits)

    pub entering_turns : {rs : List Setting} → Enters e' free_place ws rs
        → Turning c (Keeps c g.base_order g.used_by J) (Keeps c g.base_order g.used_by (J ++ rs)) entering F
    entering_turns {rs} en =
        let Kept = Keeps c g.base_order g.used_by in
        subst (λ (ss : List Step). Turning c (Kept J) (Kept (J ++ rs)) ss F) entering_is
        (subst (Turning c (Kept J) (Kept (J ++ rs)) (slots_steps (length at_active.front) (length taken_slots) ws)) (sym active_form)
        (enter_turns c g.base_order g.used_by J at_active.front slotted.header.x slotted.header.y slotted.header.z taken_slots free_slots
        at_active.rest newest_now (subst (Kept J) active_form g.keeps) en fits))
