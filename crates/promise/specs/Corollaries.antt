-- What a workshop asks about its handsets, each answered from the promise.
use Rattle.std.specs.Prelude.{ℕ, ◌+◌, ◌-◌, ◌*◌, ◌/◌, ◌%◌, ◌≤◌, ◌<◌, ◌≡◌, ◌⊎◌, Bool, true, false, List, [], ◌∷◌, ◌++◌, map, length, replicate}
use Rattle.std.proofs.Math.Option.{none, some}
use Rattle.rules.specs.Flash.{Step, program, erase, AllAllowed, Rises, bytes_at, run}
use Rattle.rules.specs.Word.{Word, word, check, HalfWritten, Spoiled, Slot, recorded, opens, closes, neither, slot, has_groups, word_steps, wear_word}
use Rattle.rules.specs.Word.{record_word}
use Rattle.rules.specs.Page.{Form, size, Chip, in_edition, Page, wear_place}
use Rattle.rules.specs.Store.{states, base, used, is_cleared, page_at, count, used_orders, held, each, last_of, Setting, setting, records, open_group}
use Rattle.rules.specs.Steps.{renew, renewed_wear, greatest_wear, renew_picked, unclean, format_steps, Change, single, group, settings_of, Way, stay}
use Rattle.rules.specs.Steps.{append_to, open_at, move_to, taken, way}
use Rattle.rules.specs.Owner.{Owner, handset}
use Rattle.rules.specs.Call.{Roomy, RoomyChip, form_of, held_limit, page_count, pages, wrong_size, store_number, repeats, all_used}
use Rattle.rules.specs.Call.{write_number, OK, NOT_HELD, Reading, read, code, lookup, format}
use Rattle.rules.specs.Named.{smaller_chip, larger_chip}
use Rattle.rules.specs.Listing.{half, spoiled}
use Rattle.promise.specs.Calls.{Image, pairing_code, finds, by_the_rules}
use Rattle.promise.specs.History.{pages_of, recovery_of, write_of, InUse, Interrupted}
use Rattle.promise.specs.Promise.{Same, Changed}

-- Each is of any chip or any form of pages, if a page has more slots than addresses may be held.

-- a store in use, by the rules
abbrev pub Used : Chip → Image → Type 0
Used chip = InUse chip (by_the_rules chip)

-- "Does a handset forget its pairing code if the battery contact opens while a digit of it is being set?" No: the whole answer of
-- the lookup is as before, or it is as before with the new digits. The addresses may be any: a write elsewhere leaves the code.
abbrev pub the_code_survives : Type 0
the_code_survives = (chip : Chip) → RoomyChip chip → (i : Image) → Used chip i → (o : Owner) (c : Change) (n : ℕ) (k : Image)
    → Interrupted chip (by_the_rules chip) o c i n k
    → Same chip (by_the_rules chip) pairing_code i k ⊎ Changed chip (by_the_rules chip) (settings_of c) pairing_code i k

-- "Can a potter see half of a new code?" No: after a cut write of a group that has all four digits, in whatever order and whatever else
-- it has, the lookup gives the old code or the new one.
abbrev pub never_half_a_code : Type 0
never_half_a_code = (chip : Chip) → RoomyChip chip → (i : Image) → Used chip i → (rs : List Setting) (d₀ d₁ d₂ d₃ : ℕ)
    → code (λ a. last_of a rs) ≡ some d₀ ∷ some d₁ ∷ some d₂ ∷ some d₃ ∷ []
    → (o : Owner) (n : ℕ) (k : Image) → Interrupted chip (by_the_rules chip) o (group rs) i n k
    → (lookup (form_of chip k) k ≡ lookup (form_of chip i) i)
    ⊎ (lookup (form_of chip k) k ≡ record { number = OK; paired = true; digits = d₀ ∷ d₁ ∷ d₂ ∷ d₃ ∷ [] })

-- "Can a paired handset come unpaired?" No: whatever it writes, and wherever power fails in that, it is paired still.
abbrev pub a_paired_handset_stays_paired : Type 0
a_paired_handset_stays_paired = (chip : Chip) → RoomyChip chip → (i : Image) → Used chip i → (lookup (form_of chip i) i).paired ≡ true
    → (o : Owner) (c : Change) (n : ℕ) (k : Image) → Interrupted chip (by_the_rules chip) o c i n k → (lookup (form_of chip k) k).paired ≡ true

-- "Can a store change its edition?" Never, whatever is written and wherever power fails: it has the one that its format was told.
abbrev pub an_edition_stays : Type 0
an_edition_stays = (chip : Chip) → RoomyChip chip → (i : Image) → Used chip i → (o : Owner) (c : Change) (n : ℕ) (k : Image)
    → Interrupted chip (by_the_rules chip) o c i n k → form_of chip k ≡ form_of chip i

-- "Can there be two pages that both claim to be current?" No two used pages have one order.
abbrev pub orders_differ : Type 0
orders_differ = (chip : Chip) → RoomyChip chip → (i : Image) → Used chip i
    → repeats (used_orders (base (states (pages_of chip i))) (states (pages_of chip i))) ≡ false

-- "Can it run out of pages to move to?" There is always one that is not used.
abbrev pub a_page_is_spare : Type 0
a_page_is_spare = (chip : Chip) → RoomyChip chip → (i : Image) → Used chip i → all_used (states (pages_of chip i)) ≡ false

-- "Can it hold more than a page takes?" At most 192 addresses are held.
abbrev pub never_over_full : Type 0
never_over_full = (chip : Chip) → RoomyChip chip → (i : Image) → Used chip i → held (pages_of chip i) ≤ held_limit

-- "Do first-edition handsets notice anything?" No. Where the edition has no groups, the records that count are those of the sound
-- slots with an address, one by one; no group is open, so a recovery renews the unclean pages and does nothing else, and UNCLEAN
-- asks for nothing else.
unfoldable pub recorded_in : Slot → List Setting
recorded_in (recorded a v) = setting a v ∷ []
recorded_in (opens n) = []
recorded_in (closes n) = []
recorded_in (neither c) = []

pub record AsItWas (fm : Form) (i : Image) : Type 0 where
  pub records_one_by_one : (ws : List Word) → records fm.edition ws ≡ each recorded_in (map (slot fm.edition) ws)
  pub none_open : open_group (pages fm i) ≡ false
  pub renews_only : recovery_of fm i ≡ renew_picked fm.edition (λ k s. unclean (base (states (pages fm i))) s) (pages fm i)

abbrev pub the_first_edition_is_as_it_was : Type 0
the_first_edition_is_as_it_was = (fm : Form) → has_groups fm.edition ≡ false → (i : Image) → AsItWas fm i

-- "Is a half-word ever programmed that is not blank?" Never, whatever the image: each step of a format, of a recovery and of an
-- accepted write may be done when its turn comes.
pub record MayBeDone (fm : Form) (i : Image) : Type 0 where
  pub format_steps_may : wrong_size fm i ≡ false → AllAllowed (size fm) (format_steps fm.edition (page_count fm i)) i
  pub recovery_steps_may : store_number fm i ≡ OK → AllAllowed (size fm) (recovery_of fm i) i
  pub write_steps_may : (o : Owner) (c : Change) → write_number fm o c i ≡ OK → AllAllowed (size fm) (write_of fm c i) i

abbrev pub every_step_may_be_done : Type 0
every_step_may_be_done = (fm : Form) → Roomy fm → (i : Image) → MayBeDone fm i

-- "How much does a write wear the flash?" A move erases every page but the one that it moves to; any other write erases none.
unfoldable pub is_erase : Step → Bool
is_erase (program p w h low high) = false
is_erase (erase p) = true

unfoldable pub erases : List Step → ℕ
erases ss = count is_erase ss

unfoldable pub moves : Way → Bool
moves stay = false
moves (append_to p k) = false
moves (open_at p o) = false
moves (move_to p o) = true

abbrev pub a_move_wears_all_but_one : Type 0
a_move_wears_all_but_one = (fm : Form) (i : Image) (o : Owner) (c : Change) → write_number fm o c i ≡ OK → moves (way c (pages fm i)) ≡ true
    → erases (write_of fm c i) + 1 ≡ page_count fm i

abbrev pub another_write_wears_none : Type 0
another_write_wears_none = (fm : Form) (i : Image) (c : Change) → moves (way c (pages fm i)) ≡ false → erases (write_of fm c i) ≡ 0

-- "Which wear does a recovery give a page?" Whatever the image, whenever it erases a page: the page is as it was at the call, and the
-- next two steps program its wear word, with one more than its wear or, if it has none, than the greatest in the image just before the
-- erase; 65,535 at most.
pub record Rewears (fm : Form) (i : Image) (before : List Step) (p : ℕ) (after : List Step) : Type 0 where
  pub wear : ℕ
  pub rest : List Step
  pub wear_word_next : after ≡ word_steps p wear_place (wear_word fm.edition wear) ++ rest
  pub as_it_was : page_at p (pages fm (run (size fm) before i)) ≡ page_at p (pages fm i)
  pub by_the_rule : wear ≡ renewed_wear (greatest_wear (pages fm (run (size fm) before i))) (page_at p (pages fm i)).wear

abbrev pub each_wear_follows_the_rule : Type 0
each_wear_follows_the_rule = (fm : Form) → Roomy fm → (i : Image) → store_number fm i ≡ OK → (before : List Step) (p : ℕ) (after : List Step)
    → recovery_of fm i ≡ before ++ erase p ∷ after → Rewears fm i before p after

-- "Is a page that lost its wear word picked first again?" No, whatever the image. A recovery renews it, and at the moment that its new
-- wear word is whole, its wear is greater than that of every other page, and if another page is cleared too, another is taken; or
-- its wear is 65,535.
abbrev pub Greatest : (index wear : ℕ) → List Page → Type 0
Greatest p n ps = (q m : ℕ) → (q ≡ p → ⊥) → (page_at q ps).wear ≡ some m → m < n

abbrev pub PassedOver : (index : ℕ) → List Page → Type 0
PassedOver p ps = 2 ≤ count is_cleared (states ps) → taken ps ≡ p → ⊥

pub record ComesBack (fm : Form) (i : Image) (p : ℕ) : Type 0 where
  pub before : List Step
  pub after : List Step
  pub wear : ℕ
  pub steps : recovery_of fm i ≡ before ++ renew fm.edition p wear ++ after
  pub wears_most : let ps = pages fm (run (size fm) (before ++ renew fm.edition p wear) i) in
      ((page_at p ps).wear ≡ some wear) × ((wear ≡ 65535) ⊎ (Greatest p wear ps × PassedOver p ps))

abbrev pub a_lost_wear_comes_back_greatest : Type 0
a_lost_wear_comes_back_greatest = (fm : Form) → Roomy fm → (i : Image) → store_number fm i ≡ OK → (p : ℕ) → p < page_count fm i
    → (page_at p (pages fm i)).wear ≡ none → ComesBack fm i p

-- "How far did a record come that power cut?" Its slot says so. If power failed before the second half was begun, the slot is
-- half-written, whatever the first half has come to; only one of four bytes 255 is blank. If power failed in the second half, whatever
-- bits that leaves, the slot is spoiled, unless nothing of that half is there or all of it. A whole record is one. So in any edition.
pub record SaysHowFar (e : ℕ) : Type 0 where
  pub not_begun : (low high : ℕ) → (low ≡ 255 → high ≡ 255 → ⊥) → slot e (word low high 255 255) ≡ neither HalfWritten
  pub broke_later : (a v c d : ℕ) → a < 65535 → Rises 8 v c → Rises 8 (check (a % 256) (a / 256) v) d → (c ≡ 255 → d ≡ 255 → ⊥)
      → (record_word a v ≡ word (a % 256) (a / 256) c d → ⊥) → slot e (word (a % 256) (a / 256) c d) ≡ neither Spoiled
  pub whole : (a v : ℕ) → a < 65535 → slot e (record_word a v) ≡ recorded a v

abbrev pub a_cut_record_says_how_far_it_came : Type 0
a_cut_record_says_how_far_it_came = (e : ℕ) → SaysHowFar e

-- "How many broken words can a listing show?" No more than the used pages have slots, whatever the image.
abbrev pub no_slot_counts_twice : Type 0
no_slot_counts_twice = (fm : Form) (i : Image)
    → half (pages fm i) + spoiled (pages fm i) ≤ count (used (base (states (pages fm i)))) (states (pages fm i)) * fm.slot_count

-- C14. Length. "How long can a write take?" It has at most 388 steps, and 3 for each page but one, of whatever size; and in a store of
-- any number of pages, whatever their form, there is a write with so many.
abbrev pub longest : (pages : ℕ) → ℕ
longest n = 388 + 3 * (n - 1)

abbrev pub no_write_is_longer : Type 0
no_write_is_longer = (fm : Form) (i : Image) (o : Owner) (c : Change) → write_number fm o c i ≡ OK → length (write_of fm c i) ≤ longest (page_count fm i)

pub record Longest (fm : Form) (n : ℕ) : Type 0 where
  pub image : Image
  pub address : ℕ
  pub value : ℕ
  pub so_many : page_count fm image ≡ n
  pub accepted : write_number fm handset (single address value) image ≡ OK
  pub long : length (write_of fm (single address value) image) ≡ longest n

abbrev pub a_longest_write : Type 0
a_longest_write = (fm : Form) → Roomy fm → (n : ℕ) → 2 ≤ n → n ≤ 32 → Longest fm n

-- "Is there such a store at all?" On either chip: two freshly formatted pages are one, and accept the write of 65 at 5. A failure in
-- its second step, the second half of the record in slot 0 of page 0, may leave the record torn, as 05 00 43 14, and 5 is not held, as
-- before; or it may leave the record complete, and 5 holds 65.
abbrev pub first_form : Chip → Form
first_form chip = in_edition chip chip.first

abbrev pub new_flash : Chip → Image
new_flash chip = replicate (2 * size (first_form chip)) 255

abbrev pub fresh_store : Chip → Image
fresh_store chip = (format (first_form chip) (new_flash chip)).image

abbrev pub finds_nothing : Reading
finds_nothing = record { number = NOT_HELD; value = 0 }

pub record CutLeaving (chip : Chip) (record_bytes : List ℕ) (answer : Reading) : Type 0 where
  pub left : Image
  pub cut : Interrupted chip (by_the_rules chip) handset (single 5 65) (fresh_store chip) 1 left
  pub record_left : bytes_at 12 4 left ≡ record_bytes
  pub reads : read (form_of chip left) handset 5 left ≡ answer

pub record SuchAStore (chip : Chip) : Type 0 where
  pub in_use : Used chip (fresh_store chip)
  pub accepted : write_number (form_of chip (fresh_store chip)) handset (single 5 65) (fresh_store chip) ≡ OK
  pub torn : CutLeaving chip (0x05 ∷ 0x00 ∷ 0x43 ∷ 0x14 ∷ []) finds_nothing
  pub complete : CutLeaving chip (0x05 ∷ 0x00 ∷ 0x41 ∷ 0x14 ∷ []) (finds 65)

abbrev pub not_about_nothing : Type 0
not_about_nothing = SuchAStore smaller_chip × SuchAStore larger_chip
