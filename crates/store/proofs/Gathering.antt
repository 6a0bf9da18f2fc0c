-- The records of the used pages, gathered page by page. Assumes nothing.
use Prim.Native.Nat.{ℕ, ◌+◌, ◌-◌, ◌≤◌, ◌<◌}
use mathlib.Core.Path.{◌≡◌, sym, ap, ap₂, ◌∙◌}
use mathlib.Core.Logic.{◌⊎◌, inl, inr}
use mathlib.Core.Bool.{Bool, ◌&&◌}
use mathlib.Core.List.{List, [], ◌++◌, map, map-append}
use native.Mathlib.Omega.{arith}
use native.Mathlib.Numerals.{add-one}
use lib.ListN.{length, get_or, take, drop, replicate, take-append-drop}
use lib.Seq.{take_all, take-append_seam, length-take-le}
use lib.Dec.{leb, ltb}
use Rattle.rules.specs.Word.{Word, Slot, slot}
use Rattle.rules.specs.Page.{Form, Page, page, blank_word}
use Rattle.rules.specs.Store.{outside, place_behind, records, records_in, all_records, free_slot, active_index, active_page, active_slots, has_room}
use Rattle.rules.specs.Store.{Setting, in_group, end_of, open_group, page_at, put_all, states, journal, settings}
use Rattle.rules.specs.Call.{page_in, pages}
use Rattle.rules.proofs.Settings.{put_all_append}
use Rattle.rules.proofs.Slots.{FreeAt, free_at, blanks_unsound, records_before, place_append, unsound_stays}
use Rattle.rules.proofs.Stores.{each_append}
use Rattle.survey.specs.States.{slots_in}
use Rattle.survey.specs.declared.Look.{Look}
use Rattle.survey.specs.Look.{pages_number, Told, line_of}
use Rattle.survey.proofs.Slots.{page_is, slots_are, slots_many}
use Rattle.survey.proofs.Looking.{line_next, line_pages, told_some, line_places, line_within}
use Rattle.store.specs.Gather.{gathered, Passes, standing, Ends}

-- ---- the slots before the free one

-- the slots before the free one, and that those behind them are blank
module _ (e : ℕ) (ws : List Word) where
  abbrev free : FreeAt ws
  free = free_at ws

  front_is : take (free_slot ws) ws ≡ free.front
  front_is =
      ap₂ (λ (n : ℕ) (vs : List Word). take n vs) (sym free.place) free.form ∙ take-append_seam free.front (replicate free.rest blank_word)

  -- a blank slot has no record: all are in the slots before the free one
  pub records_free : records e (take (free_slot ws) ws) ≡ records e ws
  records_free =
      ap (records e) front_is ∙ sym (records_before e free.front (replicate free.rest blank_word) (blanks_unsound free.rest))
      ∙ ap (records e) (sym free.form)

  -- nor does it end a group
  pub standing_free : in_group (standing e (take (free_slot ws) ws)) ≡ in_group (standing e ws)
  standing_free =
      let blanks = replicate free.rest blank_word in
      ap (λ (vs : List Word). in_group (standing e vs)) front_is
      ∙ sym (unsound_stays e (standing e free.front) blanks (blanks_unsound free.rest))
      ∙ ap in_group (sym (place_append outside (map (slot e) free.front) (map (slot e) blanks)))
      ∙ ap (λ (ss : List Slot). in_group (place_behind outside ss)) (sym (map-append (slot e) free.front blanks))
      ∙ ap (λ (vs : List Word). in_group (standing e vs)) (sym free.form)

-- the line has as many places as pages are used
pub line_long : (look : Look) → (look.used ≤ 32) × (length look.line ≡ 32) → length (line_of look) ≡ look.used
line_long look l = length-take-le look.used look.line (omega (arith, l.0, l.1))

-- what the look tells is what is to be passed
module _ {fm : Form} {i : List ℕ} {look : Look} (ok : pages_number fm i ≡ 0) (t : Told fm i look) where
  abbrev line : List ℕ
  line = line_of look

  pub passes : Passes fm i line look.free
  unfolding active_slots active_page
  passes =
      let place : (k : ℕ) → k + 1 ≡ length line → active_index (states (pages fm i)) ≡ get_or line k 0 =
      λ k e. sym t.line.last ∙ (let z : length line - 1 ≡ k = omega arith in rw z) in
      record {
        room = t.room;
        places = line_places ok t;
        within = line_within ok t;
        last = λ k e.
            let w = t.line.within k (omega arith) in
            t.free ∙ ap free_slot (ap (λ (j : ℕ). (page_at j (pages fm i)).slots) (place k e) ∙ slots_are fm (get_or line k 0) i w);
      }

  -- the line is that of the used pages, oldest first
  pub gathered_settings : put_all [] (gathered fm i line) ≡ settings (pages fm i)
  unfolding settings journal gathered
  gathered_settings = ap (λ (ps : List Page). put_all [] (all_records ps)) (line_pages fm i t.line)

  -- and the last of them is the active page
  pub group_told : (grouped : Bool) → Ends fm i line (length line) grouped → (ltb look.free fm.slot_count && grouped) ≡ open_group (pages fm i)
  unfolding open_group has_room active_slots active_page Ends page slots_in
  group_told grouped ends =
      let some = told_some ok t in
      let k = length line - 1 in
      let w = t.line.within k (omega arith) in
      let p = get_or line k 0 in
      let e = ends k (omega arith) in
      let it : active_page (pages fm i) ≡ page_in fm p i =
      ap (λ (j : ℕ). page_at j (pages fm i)) (sym t.line.last) ∙ page_is fm p i w in
      let many : length (active_slots (pages fm i)) ≡ fm.slot_count =
      ap (λ (q : Page). length q.slots) it ∙ slots_many fm p i (line_within ok t k (omega arith)) in
      ap₂ (λ (x y : Bool). x && y) (ap (λ (n : ℕ). leb n fm.slot_count) (sym (add-one look.free)) ∙ ap₂ (λ (x y : ℕ). leb (x + 1) y) t.free (sym many))
      (e ∙ ap (λ (q : Page). in_group (end_of q)) (sym it))

-- so many slots of the page at a place of the line are passed: all, or of the last one those before the free one
abbrev pub Passed : (form : Form) (used free k n : ℕ) → Type 0
Passed fm used free k n = ((k + 1 ≡ used) × (n ≡ free)) ⊎ (n ≡ fm.slot_count)

module _ {fm : Form} {i line : List ℕ} {free : ℕ} (p : Passes fm i line free) (k n : ℕ) (l : k < length line) where
  pub slots_few : Passed fm (length line) free k n → n ≤ fm.slot_count
  slots_few (inl w) = let e = w.1 in omega (arith, p.room)
  slots_few (inr e) = omega arith

  abbrev slots : List Word
  slots = slots_in fm (get_or line k 0) i

  all_taken : n ≡ fm.slot_count → take n slots ≡ slots
  all_taken e = take_all n slots (omega (arith, slots_many fm (get_or line k 0) i (p.within k l)))

  -- then no record is passed over, nor the end of a group
  pub all_passed : Passed fm (length line) free k n → records fm.edition (take n slots) ≡ records fm.edition slots
  all_passed (inl w) = rw (w.1 ∙ p.last k w.0) (records_free fm.edition slots)
  all_passed (inr e) = ap (records fm.edition) (all_taken e)

  pub all_ends : Passed fm (length line) free k n → in_group (standing fm.edition (take n slots)) ≡ in_group (standing fm.edition slots)
  all_ends (inl w) = rw (w.1 ∙ p.last k w.0) (standing_free fm.edition slots)
  all_ends (inr e) = ap (λ (ws : List Word). in_group (standing fm.edition ws)) (all_taken e)

-- ---- one page more

module _ (fm : Form) (i line : List ℕ) (k : ℕ) (l : k < length line) where
  pub gathered_next : gathered fm i (take (k + 1) line) ≡ gathered fm i (take k line) ++ records fm.edition (slots_in fm (get_or line k 0) i)
  unfolding gathered slots_in page
  gathered_next = line_next fm i records_in line k l

  -- its records put in behind those of the pages before it
  pub gather_more : put_all (put_all [] (gathered fm i (take k line))) (records fm.edition (slots_in fm (get_or line k 0) i))
      ≡ put_all [] (gathered fm i (take (k + 1) line))
  gather_more =
      sym (put_all_append [] (gathered fm i (take k line)) (records fm.edition (slots_in fm (get_or line k 0) i)))
      ∙ ap (put_all []) (sym gathered_next)

-- the pages behind some have more records
pub gathered_rest : (fm : Form) (i line : List ℕ) (k : ℕ) → (rs : List Setting) × (gathered fm i line ≡ gathered fm i (take k line) ++ rs)
unfolding gathered
gathered_rest fm i line k =
    let ps = λ (ks : List ℕ). map (λ (j : ℕ). page_in fm j i) ks in (
      all_records (ps (drop k line)),
      ap (λ ks. all_records (ps ks)) (sym (take-append-drop k line)) ∙ ap all_records (map-append (λ (j : ℕ). page_in fm j i) (take k line) (drop k line))
          ∙ each_append records_in (ps (take k line)) (ps (drop k line)),
    )
