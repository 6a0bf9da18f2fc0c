-- C: the steps of format, recovery and write, fixed by the image at the call.
use Rattle.std.specs.Prelude.{ℕ, zero, suc, ◌+◌, min, max, Bool, true, false, cond, not, ◌&&◌, ◌||◌, List, [], ◌∷◌, ◌++◌, map, length, eqb, leb}
use Rattle.std.proofs.Math.Option.{Option, none, some}
use Rattle.rules.specs.Flash.{Step, erase}
use Rattle.rules.specs.Word.{Word, word_steps, wear_word, opening_word, done_word, record_word, mark_word}
use Rattle.rules.specs.Page.{State, Page, wear_place, opening_place, done_place, slot_place}
use Rattle.rules.specs.Store.{each, states, base, used, is_cleared, active_order, active_index, active_slots, count, least_worn, index, Setting}
use Rattle.rules.specs.Store.{greatest, setting, settings, value, or_value, free_slot, has_room, open_group}

-- C3. Renewing a page: it is erased and gets a wear word.
unfoldable pub renew : (edition index wear : ℕ) → List Step
renew edition k n = erase k ∷ word_steps k wear_place (wear_word edition n)

-- C5. Format: each page is renewed with wear 1, then page 0 is opened with order 0.
unfoldable pub renew_all : (edition from pages : ℕ) → List Step
renew_all edition k zero = []
renew_all edition k (suc n) = renew edition k 1 ++ renew_all edition (suc k) n

unfoldable pub format_steps : (edition pages : ℕ) → List Step
format_steps edition n = renew_all edition 0 n ++ word_steps 0 opening_place (opening_word 1 0)

-- C4. New wear: one more than the page had or, if it had none, than the greatest in the image just before its erase; 65,535 at most.
abbrev pub one_more : (wear : ℕ) → ℕ
one_more n = min (n + 1) 65535

unfoldable pub renewed_wear : (greatest : ℕ) → Option ℕ → ℕ
renewed_wear greatest wear = one_more (or_value wear greatest)

-- the greatest wear that a page has, 0 if none has one
unfoldable pub greatest_wear : List Page → ℕ
greatest_wear ps = greatest (map (λ (p : Page). or_value p.wear 0) ps)

-- a page that is to be renewed, and its new wear
pub data Renewal : Type 0 where
  renewal : (page wear : ℕ) → Renewal

-- The pages that a test of index and state picks, in index order. `greatest` is that of the image when a page's turn comes: a new
-- wear counts for the pages behind it, and as it is never less than the old one, the greatest only grows.
unfoldable pub renewals : (ℕ → State → Bool) → (greatest from : ℕ) → List Page → List Renewal
renewals picks greatest k [] = []
renewals picks greatest k (p ∷ ps) =
    let wear = renewed_wear greatest p.wear in
    cond (picks k p.state) (renewal k wear ∷ renewals picks (max greatest wear) (suc k) ps) (renewals picks greatest (suc k) ps)

abbrev pub renew_by : (edition : ℕ) → Renewal → List Step
renew_by edition (renewal k wear) = renew edition k wear

abbrev pub renew_each : (edition : ℕ) → List Renewal → List Step
renew_each edition rs = each (renew_by edition) rs

unfoldable pub renew_picked : (edition : ℕ) → (ℕ → State → Bool) → List Page → List Step
renew_picked edition picks ps = renew_each edition (renewals picks (greatest_wear ps) 0 ps)

-- S9. Unclean: neither used nor cleared.
unfoldable pub unclean : (base : ℕ) → State → Bool
unclean b s = not (used b s || is_cleared s)

-- words in the slots of a page, one after the other
unfoldable pub slots_steps : (page slot : ℕ) → List Word → List Step
slots_steps p k [] = []
slots_steps p k (w ∷ ws) = word_steps p (slot_place k) w ++ slots_steps p (suc k) ws

-- C20. Abandoning: a mark in the free slot ends the open group, if there is one. C6. Recovery: that, then the unclean pages are renewed.
unfoldable pub abandon_steps : List Page → List Step
abandon_steps ps = cond (open_group ps) (slots_steps (active_index (states ps)) (free_slot (active_slots ps)) (mark_word 0 ∷ [])) []

unfoldable pub recovery_steps : (edition : ℕ) → List Page → List Step
recovery_steps edition ps = abandon_steps ps ++ renew_picked edition (λ k s. unclean (base (states ps)) s) ps

-- C22. A group is one write: what is written is a single setting, or several as one, and all that follows takes either.
pub data Change : Type 0 where
  single : (address value : ℕ) → Change
  group : List Setting → Change

unfoldable pub settings_of : Change → List Setting
settings_of (single a v) = setting a v ∷ []
settings_of (group rs) = rs

-- C21. What a write takes: in slots its record; of a group the opening mark, the records in the order given, the closing mark.
abbrev pub record_of : Setting → Word
record_of (setting a v) = record_word a v

unfoldable pub words_of : Change → List Word
words_of (single a v) = record_word a v ∷ []
words_of (group rs) = mark_word (length rs) ∷ (map record_of rs ++ (mark_word (128 + length rs) ∷ []))

-- C7. Write: which way. The change goes nowhere, each address having its value already; behind the last slot that is taken; into a
-- cleared page, which is opened with an order; or, with all that is held, into the last cleared page, which is moved to with an order.
pub data Way : Type 0 where
  stay : Way
  append_to : (page slot : ℕ) → Way
  open_at : (page order : ℕ) → Way
  move_to : (page order : ℕ) → Way

-- C8. Write of a held value: each address has its value already.
unfoldable pub is_value : Option ℕ → ℕ → Bool
is_value none v = false
is_value (some u) v = eqb u v

unfoldable pub all_values : List Setting → List Page → Bool
all_values [] ps = true
all_values (setting a v ∷ rs) ps = is_value (value a ps) v && all_values rs ps

-- the page that is taken, and its order: the active order + 1
unfoldable pub taken : List Page → ℕ
taken ps = index (least_worn 0 (states ps))

unfoldable pub next_order : List Page → ℕ
next_order ps = active_order (states ps) + 1

unfoldable pub new_page : List Page → Way
new_page ps = cond (leb 2 (count is_cleared (states ps))) (open_at (taken ps) (next_order ps)) (move_to (taken ps) (next_order ps))

unfoldable pub way : Change → List Page → Way
way c ps =
    cond (all_values (settings_of c) ps) stay
    (cond (has_room (length (words_of c)) ps) (append_to (active_index (states ps)) (free_slot (active_slots ps))) (new_page ps))

-- C9. Write from the free slot on.
unfoldable pub append_steps : (page slot : ℕ) → Change → List Step
append_steps p k c = slots_steps p k (words_of c)

-- C10. Write into a new page: its opening word, kind 1, then the change from slot 0 on.
unfoldable pub open_steps : (page order : ℕ) → Change → List Step
open_steps p o c = word_steps p opening_place (opening_word 1 o) ++ slots_steps p 0 (words_of c)

-- C12. Copies: each held address but the written ones, addresses rising. The records of a move: the copies, behind them the new ones
-- in the order given.
unfoldable pub but : (address : ℕ) → List Setting → List Setting
but a [] = []
but a (setting b u ∷ rs) = cond (eqb a b) (but a rs) (setting b u ∷ but a rs)

unfoldable pub but_all : (written : List Setting) → List Setting → List Setting
but_all [] held = held
but_all (setting a v ∷ rs) held = but_all rs (but a held)

abbrev pub move_records : (written held : List Setting) → List Setting
move_records rs held = but_all rs held ++ rs

-- C11. Move: the opening word, kind 2, the records from slot 0 on, the done word.
unfoldable pub fill_steps : (page order : ℕ) → List Setting → List Step
fill_steps p o rs =
    word_steps p opening_place (opening_word 2 o) ++ slots_steps p 0 (map record_of rs) ++ word_steps p done_place (done_word o)

-- C13. The end of a move is a recovery: every other page is renewed, none of them being used by then, and none cleared.
unfoldable pub other : (page index : ℕ) → Bool
other p k = not (eqb k p)

unfoldable pub move_steps : (edition page order : ℕ) → List Setting → List Page → List Step
move_steps edition p o rs ps = fill_steps p o rs ++ renew_picked edition (λ k s. other p k) ps

-- C2. Steps of a call: those of a write, by its way.
unfoldable pub way_steps : (edition : ℕ) → Change → List Page → Way → List Step
way_steps edition c ps stay = []
way_steps edition c ps (append_to p k) = append_steps p k c
way_steps edition c ps (open_at p o) = open_steps p o c
way_steps edition c ps (move_to p o) = move_steps edition p o (move_records (settings_of c) (settings ps)) ps

unfoldable pub write_steps : (edition : ℕ) → Change → List Page → List Step
write_steps edition c ps = way_steps edition c ps (way c ps)
