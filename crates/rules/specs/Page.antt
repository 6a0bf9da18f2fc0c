-- P: pages and their states.
use Rattle.std.specs.Prelude.{ℕ, suc, ◌+◌, ◌*◌, ◌/◌, ◌%◌, Bool, true, cond, ◌&&◌, List, [], ◌∷◌, get_or, drop, eqb}
use Rattle.std.proofs.Math.Option.{Option, none, some}
use Rattle.rules.specs.Word.{Word, word, sound, blank, low16, low24, third}

-- P1. Form: how many slots a page has behind its three header words, and the third byte of its wear word, its edition. The words
-- of such a page, and its bytes.
pub record Form : Type 0 where
  pub slot_count : ℕ
  pub edition : ℕ

abbrev pub word_count : Form → ℕ
word_count f = suc (suc (suc f.slot_count))

abbrev pub size : Form → ℕ
size f = 4 * word_count f

-- P1. Form: a chip is how many slots its pages have, and the first and the last edition that they may be of. The form of its pages in an edition.
pub record Chip : Type 0 where
  pub slot_count : ℕ
  pub first : ℕ
  pub last : ℕ

abbrev pub in_edition : Chip → (edition : ℕ) → Form
in_edition c e = record { slot_count = c.slot_count; edition = e }

abbrev pub blank_word : Word
blank_word = word 255 255 255 255

-- P3. Layout: a page is the list of its words, three header words and then slots.
unfoldable pub wear_part : List Word → Word
wear_part p = get_or p 0 blank_word

unfoldable pub opening_part : List Word → Word
opening_part p = get_or p 1 blank_word

unfoldable pub done_part : List Word → Word
done_part p = get_or p 2 blank_word

unfoldable pub slots : List Word → List Word
slots p = drop 3 p

-- where each of them stands, by words
abbrev pub wear_place : ℕ
wear_place = 0

abbrev pub opening_place : ℕ
opening_place = 1

abbrev pub done_place : ℕ
done_place = 2

abbrev pub slot_place : ℕ → ℕ
slot_place k = 3 + k

-- P4. Wear of a page: a sound first word with the edition gives it.
unfoldable pub is_wear : (edition : ℕ) → Word → Bool
is_wear edition w = sound w && eqb (third w) edition

unfoldable pub wear_in : (edition : ℕ) → List Word → Option ℕ
wear_in edition p = cond (is_wear edition (wear_part p)) (some (low16 (wear_part p))) none

-- a sound opening word of a kind, and the order that it gives
unfoldable pub is_opening : (kind : ℕ) → Word → Bool
is_opening kind w = sound w && eqb (low24 w % 4) kind

unfoldable pub order_in : Word → ℕ
order_in w = low24 w / 4

-- W9. the done word that matches an order, sound
unfoldable pub is_done : (order : ℕ) → Word → Bool
is_done order w = sound w && eqb (low24 w) (order * 4 + 3)

unfoldable pub all_blank : List Word → Bool
all_blank [] = true
all_blank (w ∷ ws) = blank w && all_blank ws

-- P5 to P8. The states. A cleared page has its wear, an open one of kind 1 or 2 its order.
pub data State : Type 0 where
  cleared : (wear : ℕ) → State
  open₁ open₂ : (order : ℕ) → State
  receiving : State
  bad : State

-- of a page that has a wear: open with kind 1, whatever its third word is, or with kind 2 and the done word that matches; receiving
-- without that done word; cleared if the rest is blank; else bad
unfoldable pub state_after_wear : List Word → (wear : ℕ) → State
state_after_wear p wear =
    let opening = opening_part p in
    cond (is_opening 1 opening) (open₁ (order_in opening))
    (cond (is_opening 2 opening) (cond (is_done (order_in opening) (done_part p)) (open₂ (order_in opening)) receiving)
    (cond (all_blank (drop 1 p)) (cleared wear) bad))

unfoldable pub state_by : List Word → Option ℕ → State
state_by p none = bad
state_by p (some wear) = state_after_wear p wear

unfoldable pub state : (edition : ℕ) → List Word → State
state edition p = state_by p (wear_in edition p)

-- what the store knows of a page, and by which edition its slots are read
pub record Page : Type 0 where
  pub state : State
  pub wear : Option ℕ
  pub edition : ℕ
  pub slots : List Word

unfoldable pub page : (edition : ℕ) → List Word → Page
page edition p = record { state = state edition p; wear = wear_in edition p; edition = edition; slots = slots p }
