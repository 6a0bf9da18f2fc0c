-- How evenly a store wears its flash while power does not fail, and how many changes the flash lasts. Of any calls that obey the rules.
use Rattle.std.specs.Prelude.{ℕ, ◌+◌, ◌-◌, ◌*◌, ◌/◌, ◌≤◌, ◌<◌, min, ◌≡◌, Bool, true, false, cond, not, List, [], ◌∷◌, map, eqb}
use Rattle.std.proofs.Math.Option.{some}
use Rattle.rules.specs.Flash.{Step, program, erase}
use Rattle.rules.specs.Page.{Chip, Page}
use Rattle.rules.specs.Store.{states, base, used, is_cleared, page_at, count, or_value, held}
use Rattle.rules.specs.Steps.{greatest_wear, format_steps, Change, single, group, settings_of, all_values, way}
use Rattle.rules.specs.Owner.{Owner}
use Rattle.rules.specs.Call.{RoomyChip, form_of, page_count, OK, ORDER_END, Formatted, Stepped}
use Rattle.promise.specs.Calls.{Image, Calls, Obeys}
use Rattle.promise.specs.History.{pages_of, recovery_of, write_of}
use Rattle.promise.specs.Corollaries.{moves}

-- ---- what is counted

-- how many pages there are; a page and its wear, which a sound wear word of the store's edition says
abbrev pub pages_in : Chip → Image → ℕ
pages_in chip i = page_count (form_of chip i) i

abbrev pub Worn : Chip → (page wear : ℕ) → Image → Type 0
Worn chip p w i = (page_at p (pages_of chip i)).wear ≡ some w

-- a used page, and a cleared one
abbrev pub IsUsed : Chip → (page : ℕ) → Image → Type 0
IsUsed chip p i = used (base (states (pages_of chip i))) (page_at p (pages_of chip i)).state ≡ true

abbrev pub IsCleared : Chip → (page : ℕ) → Image → Type 0
IsCleared chip p i = is_cleared (page_at p (pages_of chip i)).state ≡ true

-- all wears added up
unfoldable pub sum : List ℕ → ℕ
sum [] = 0
sum (n ∷ ns) = n + sum ns

unfoldable pub wears : List Page → ℕ
wears ps = sum (map (λ (p : Page). or_value p.wear 0) ps)

-- how often steps erase a page
unfoldable pub erases_it : (page : ℕ) → Step → Bool
erases_it p (program q w h low high) = false
erases_it p (erase q) = eqb q p

unfoldable pub erases_of : (page : ℕ) → List Step → ℕ
erases_of p ss = count (erases_it p) ss

-- what a workshop notes down of the writes to a store: how many wrote a new value, how many moved, and how often they erased each page
pub record Tally : Type 0 where
  pub changes : ℕ
  pub moved : ℕ
  pub erased : (page : ℕ) → ℕ

abbrev pub nothing_yet : Tally
nothing_yet = record { changes = 0; moved = 0; erased = λ p. 0 }

abbrev pub is_new_value : Chip → Change → Image → Bool
is_new_value chip c i = not (all_values (settings_of c) (pages_of chip i))

abbrev pub is_move : Chip → Change → Image → Bool
is_move chip c i = moves (way c (pages_of chip i))

abbrev pub with_write : Chip → Change → Image → Tally → Tally
with_write chip c i t =
    record {
      changes = cond (is_new_value chip c i) 1 0 + t.changes;
      moved = cond (is_move chip c i) 1 0 + t.moved;
      erased = λ p. erases_of p (write_of (form_of chip i) c i) + t.erased p;
    }

-- what is asked of a write, and of the store that it leaves: nothing; that it is of a single setting; that besides no more are held
abbrev pub Any : Change → Image → Type 0
Any c j = Unit {0}

unfoldable pub is_single : Change → Bool
is_single (single a v) = true
is_single (group rs) = false

abbrev pub Single : Change → Image → Type 0
Single c j = is_single c ≡ true

abbrev pub SingleHolding : Chip → (most : ℕ) → Change → Image → Type 0
SingleHolding chip most c j = (is_single c ≡ true) × (held (pages_of chip j) ≤ most)

-- ---- the numbers on the box

-- Single writes of new values between two moves, h being held after the first: the slots that this leaves in the page that was moved to, and
-- those of every page but that and the last, to which the next one moves.
abbrev pub between_moves : (pages slots held : ℕ) → ℕ
between_moves n s h = (s - h) + (n - 2) * s

-- Of flash that is rated for so many erases of a page: so many moves it bears at least, and so many changes. Those are the ones that come
-- before the first move, and for each move the one that moves and those between it and the next.
abbrev pub moves_rated : (pages rated : ℕ) → ℕ
moves_rated n r = n * (r - 1) / (n - 1)

abbrev pub changes_rated : (pages slots held rated : ℕ) → ℕ
changes_rated n s h r = (n - 1) * s + moves_rated n r * (1 + between_moves n s h)

-- ---- what is promised

module _ (chip : Chip) (C : Calls) where
  -- a format that has finished
  pub data Fresh : Image → Type 0 where
    formatted : (e : ℕ) (i : Image) (f : Formatted) → C.Formats e i f → f.number ≡ OK → Fresh f.image

  -- a write, by whatever owner, that is accepted and has finished
  pub record Writes (c : Change) (i j : Image) : Type 0 where
    pub owner : Owner
    pub allowance : ℕ
    pub done : Stepped
    pub called : C.Writes owner c allowance i done
    pub accepted : done.number ≡ OK
    pub finished : done.finished ≡ true
    pub leaves : done.image ≡ j

  -- Power does not fail: any sequence of such writes, of writes that are refused, and of recoveries.
  pub data Steady (Such : Change → Image → Type 0) : Tally → (before left : Image) → Type 0 where
    begins : {i : Image} → Steady Such nothing_yet i i
    written : {t : Tally} {i j k : Image} (c : Change) → Steady Such t i j → Writes c j k → Such c k → Steady Such (with_write chip c j t) i k
    refused : {t : Tally} {i j : Image} → Steady Such t i j → (o : Owner) (c : Change) (n : ℕ) (s : Stepped) → C.Writes o c n j s → (s.number ≡ OK → ⊥)
        → Steady Such t i s.image
    recovered : {t : Tally} {i j : Image} → Steady Such t i j → (n : ℕ) (s : Stepped) → C.Recovers n j s → Steady Such t i s.image

  -- "Is one page worn out long before the others?" No. From a finished format on, whatever is written, after each write:
  pub record WearsEvenly (t : Tally) (i : Image) : Type 0 where
    -- Every page has a sound wear word. It says how often the page has been erased, once by the format; at 65,535 it stops.
    pub wear_counts_erases : (p : ℕ) → p < pages_in chip i → Worn chip p (min (1 + t.erased p) 65535) i
    -- Any two wears differ by at most 1.
    pub at_most_1_apart : (p q v w : ℕ) → Worn chip p v i → Worn chip q w i → v ≤ w + 1
    -- No used page is worn more than a cleared one.
    pub cleared_are_worn_most : (p q v w : ℕ) → Worn chip p v i → Worn chip q w i → IsUsed chip p i → IsCleared chip q i → v ≤ w
    -- Until one has reached 65,535, they add up to 1 for each page, by the format, and for each move 1 for each page but one.
    pub they_add_up : greatest_wear (pages_of chip i) < 65535 → wears (pages_of chip i) ≡ pages_in chip i + t.moved * (pages_in chip i - 1)
    -- Until then, too, the orders are not used up: no write is told ORDER END.
    pub orders_last : greatest_wear (pages_of chip i) < 65535 → (o : Owner) (c : Change) (n : ℕ) (s : Stepped) → C.Writes o c n i s → s.number ≡ ORDER_END
        → ⊥
    -- No wear is as much as one more than its even share of what they add up to.
    pub even_share : (p w : ℕ) → Worn chip p w i → pages_in chip i * w < pages_in chip i + t.moved * (pages_in chip i - 1) + pages_in chip i
    -- A recovery has nothing to do.
    pub nothing_to_recover : recovery_of (form_of chip i) i ≡ []

  abbrev pub wears_evenly : Type 0
  wears_evenly = (i : Image) → Fresh i → (t : Tally) (k : Image) → Steady Any t i k → WearsEvenly t k

  -- "How soon does it move?" After a format come single writes, and none of them moves; then one would. So many of them wrote a new value as
  -- there are slots, but for those of one page.
  abbrev pub the_first_move_comes_late : Type 0
  the_first_move_comes_late = (i : Image) → Fresh i → (u : Tally) (l : Image) → Steady Single u i l → u.moved ≡ 0
      → (a v : ℕ) → is_move chip (single a v) l ≡ true → u.changes ≡ (pages_in chip i - 1) * chip.slot_count

  -- "And how soon again?" The same behind a write that moves: so many, by what was held after it; as no more than 192 ever are, at least so many.
  pub record FarApart (after_move : Image) (t : Tally) : Type 0 where
    pub exactly : t.changes ≡ between_moves (pages_in chip after_move) chip.slot_count (held (pages_of chip after_move))
    pub at_least : between_moves (pages_in chip after_move) chip.slot_count 192 ≤ t.changes

  abbrev pub moves_are_far_apart : Type 0
  moves_are_far_apart = (i : Image) → Fresh i → (t : Tally) (j : Image) → Steady Any t i j
      → (c : Change) (k : Image) → Writes c j k → is_move chip c j ≡ true
      → (u : Tally) (l : Image) → Steady Single u k l → u.moved ≡ 0
      → (a v : ℕ) → is_move chip (single a v) l ≡ true → FarApart k u

  -- "How long does the flash last?" Single settings are written, and never are more than so many held. As long as no more than so many of
  -- the writes were of a new value, no page has been erased more often than it is rated for.
  abbrev pub lasts_as_rated : Type 0
  lasts_as_rated = (most rated : ℕ) → 1 ≤ rated → rated < 65535 → (i : Image) → Fresh i → (t : Tally) (k : Image) → Steady (SingleHolding chip most) t i k
      → t.changes ≤ changes_rated (pages_in chip k) chip.slot_count most rated → (p : ℕ) → p < pages_in chip k → 1 + t.erased p ≤ rated

  pub record BoxSays : Type 0 where
    pub evenly : wears_evenly
    pub first_move : the_first_move_comes_late
    pub far_apart : moves_are_far_apart
    pub as_rated : lasts_as_rated

-- whatever the chip, if a page has more slots than addresses may be held
abbrev pub what_the_box_may_say : Type 1
what_the_box_may_say = (chip : Chip) → RoomyChip chip → (C : Calls) → Obeys chip C → BoxSays chip C

-- and a format, of whatever edition, does erase each page once
abbrev pub a_format_erases_each_page_once : Type 0
a_format_erases_each_page_once = (e n p : ℕ) → p < n → erases_of p (format_steps e n) ≡ 1
