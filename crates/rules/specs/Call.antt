-- C and N: the whole outcome of each call on pages of a form, accepted or refused.
use Rattle.std.specs.Prelude.{ℕ, zero, suc, ◌+◌, ◌*◌, ◌/◌, ◌%◌, ◌≤◌, ◌<◌, Bool, true, false, cond, not, ◌&&◌, ◌||◌, List, [], ◌∷◌, ◌++◌, map, length, take, drop, eqb, leb, ltb}
use Rattle.std.proofs.Math.Option.{Option, none, some}
use Rattle.rules.specs.Flash.{Step, bytes_at, run}
use Rattle.rules.specs.Word.{Word, words, third, has_groups}
use Rattle.rules.specs.Page.{Form, size, Chip, in_edition, State, wear_part, state, Page, page}
use Rattle.rules.specs.Store.{states, base, used, is_open, used_orders, active_order, count, held, value, or_value, Setting, setting}
use Rattle.rules.specs.Store.{address_of, has_room, open_group}
use Rattle.rules.specs.Steps.{format_steps, recovery_steps, write_steps, unclean, Change, single, group, settings_of, words_of, all_values}
use Rattle.rules.specs.Owner.{Owner, a_foreign, held_by}

-- S7. how many addresses may be held; W8. the last order
abbrev pub held_limit : ℕ
held_limit = 192

abbrev pub order_limit : ℕ
order_limit = 4194303

-- a page of the form has more slots than addresses may be held
abbrev pub Roomy : Form → Type 0
Roomy f = held_limit < f.slot_count

-- the same of a chip, which has an edition
abbrev pub RoomyChip : Chip → Type 0
RoomyChip c = (held_limit < c.slot_count) × (c.first ≤ c.last)

-- N0 to N9, N11. the answers by number
abbrev pub OK : ℕ
OK = 0

abbrev pub SIZE : ℕ
SIZE = 1

abbrev pub NO_STORE : ℕ
NO_STORE = 2

abbrev pub DAMAGED : ℕ
DAMAGED = 3

abbrev pub UNCLEAN : ℕ
UNCLEAN = 4

abbrev pub ADDRESS : ℕ
ADDRESS = 5

abbrev pub NO_ROOM : ℕ
NO_ROOM = 6

abbrev pub ORDER_END : ℕ
ORDER_END = 7

abbrev pub NOT_HELD : ℕ
NOT_HELD = 8

abbrev pub GROUP : ℕ
GROUP = 9

abbrev pub OWNER : ℕ
OWNER = 11

-- P2. Pages of an image: n of them, each of `size` bytes.
unfoldable pub cut : (size n : ℕ) → List ℕ → List (List Word)
cut size zero i = []
cut size (suc n) i = words (take size i) ∷ cut size n (drop size i)

abbrev pub first_pages : (form : Form) (n : ℕ) → List ℕ → List Page
first_pages f n i = map (page f.edition) (cut (size f) n i)

-- the one at an index, by its bytes
abbrev pub page_in : (form : Form) (index : ℕ) → List ℕ → Page
page_in f k i = page f.edition (words (bytes_at (k * size f) (size f) i))

unfoldable pub page_count : Form → List ℕ → ℕ
page_count f i = length i / size f

unfoldable pub pages : Form → List ℕ → List Page
pages f i = first_pages f (page_count f i) i

-- P9. A page by itself: the third byte of its wear word is its edition. Whether it is open by that, which the chip must have.
unfoldable pub has_edition : Chip → (edition : ℕ) → Bool
has_edition c e = leb c.first e && leb e c.last

unfoldable pub own_edition : List Word → ℕ
own_edition p = third (wear_part p)

unfoldable pub opens_itself : Chip → List Word → Bool
opens_itself c p = has_edition c (own_edition p) && is_open (state (own_edition p) p)

-- P10. The store's edition: that of the open page of lowest index, and without one the first. By it all pages are read, so that one
-- of another edition is bad, and has no wear.
unfoldable pub edition_of : Chip → List (List Word) → ℕ
edition_of c [] = c.first
edition_of c (p ∷ ps) = cond (opens_itself c p) (own_edition p) (edition_of c ps)

-- the form by which an image is read
unfoldable pub form_of : Chip → List ℕ → Form
form_of c i =
    let f = in_edition c c.first in
    in_edition c (edition_of c (cut (size f) (page_count f i) i))

-- N1. SIZE: the page size does not divide the length, or there are fewer than 2 pages or more than 32.
unfoldable pub wrong_size : Form → List ℕ → Bool
wrong_size f i = not (eqb (length i % size f) 0) || (ltb (page_count f i) 2 || ltb 32 (page_count f i))

-- N2. NO STORE: no page is open.
unfoldable pub no_store : List Page → Bool
no_store ps = eqb (count is_open (states ps)) 0

-- N3. DAMAGED: two used pages have one order (S4), or all pages are used, or more than 192 addresses are held.
unfoldable pub among : ℕ → List ℕ → Bool
among o [] = false
among o (n ∷ ns) = eqb o n || among o ns

unfoldable pub repeats : List ℕ → Bool
repeats [] = false
repeats (o ∷ os) = among o os || repeats os

unfoldable pub all_used : List State → Bool
all_used ss = eqb (count (used (base ss)) ss) (length ss)

unfoldable pub damaged : List Page → Bool
damaged ps =
    repeats (used_orders (base (states ps)) (states ps)) || (all_used (states ps) || ltb held_limit (held ps))

-- N4. UNCLEAN: a page is unclean, or a group is open.
unfoldable pub is_unclean : List Page → Bool
is_unclean ps = not (eqb (count (unclean (base (states ps))) (states ps)) 0) || open_group ps

-- N9. GROUP: of a group, the edition has none, or it is not of 1 to 8 settings, or an address repeats.
unfoldable pub wrong_group : (edition : ℕ) → Change → Bool
wrong_group edition (single a v) = false
wrong_group edition (group rs) =
    not (has_groups edition) || (eqb (length rs) 0 || (ltb 8 (length rs) || repeats (map address_of rs)))

-- N5. ADDRESS: 65,535, the greatest that a caller can name.
unfoldable pub wrong_address : ℕ → Bool
wrong_address a = leb 65535 a

unfoldable pub a_wrong_address : List Setting → Bool
a_wrong_address [] = false
a_wrong_address (setting a v ∷ rs) = wrong_address a || a_wrong_address rs

-- N6. NO ROOM: with the addresses that aren't held, more than 192 would be; or there are such, and with them the owner would hold more
-- than it may.
unfoldable pub is_held : Option ℕ → Bool
is_held none = false
is_held (some v) = true

unfoldable pub is_new : List Page → Setting → Bool
is_new ps (setting a v) = not (is_held (value a ps))

abbrev pub new_in : List Setting → List Page → ℕ
new_in rs ps = count (is_new ps) rs

unfoldable pub no_room : List Setting → List Page → Bool
no_room rs ps = ltb held_limit (held ps + new_in rs ps)

unfoldable pub crowded : Owner → List Setting → List Page → Bool
crowded o rs ps = not (eqb (new_in rs ps) 0) && ltb o.most (held_by o ps + new_in rs ps)

-- N7. ORDER END: there are too few free slots, and the active order is the last.
unfoldable pub order_end : (slots : ℕ) → List Page → Bool
order_end n ps = not (has_room n ps) && eqb (active_order (states ps)) order_limit

-- A row of the table: its number, and whether it is to be given.
pub data Row : Type 0 where
  row : (number : ℕ) (given : Bool) → Row

-- N20. Order of the tests: the first row whose test holds gives the number, and OK is given if there is none.
unfoldable pub first_of : List Row → ℕ
first_of [] = OK
first_of (row n t ∷ rows) = cond t n (first_of rows)

-- N21. Which call gives which: recovery and lookup 1 to 3, blank read 5 and 11 besides, read 8 besides.
unfoldable pub store_rows : (form : Form) → List ℕ → List Row
store_rows f i = row SIZE (wrong_size f i) ∷ row NO_STORE (no_store (pages f i)) ∷ row DAMAGED (damaged (pages f i)) ∷ []

-- N11. OWNER: an address of the other owner's, of a group one of them.
unfoldable pub blank_read_rows : (form : Form) → Owner → (address : ℕ) → List ℕ → List Row
blank_read_rows f o a i = store_rows f i ++ (row ADDRESS (wrong_address a) ∷ row OWNER (not (o.owns a)) ∷ [])

unfoldable pub read_rows : (form : Form) → Owner → (address : ℕ) → List ℕ → List Row
read_rows f o a i = blank_read_rows f o a i ++ (row NOT_HELD (not (is_held (value a (pages f i)))) ∷ [])

-- Write gives 1 to 7 and 11, of a group also 9, behind 4. N23. The held value: it is not tested for 6 and 7, so a row of OK ends the
-- table there.
abbrev pub write_only_rows : (edition : ℕ) → Owner → Change → List Page → List Row
write_only_rows edition o c ps =
    row UNCLEAN (is_unclean ps)
    ∷ row GROUP (wrong_group edition c)
    ∷ row ADDRESS (a_wrong_address (settings_of c))
    ∷ row OWNER (a_foreign o (settings_of c))
    ∷ row OK (all_values (settings_of c) ps)
    ∷ row NO_ROOM (no_room (settings_of c) ps || crowded o (settings_of c) ps)
    ∷ row ORDER_END (order_end (length (words_of c)) ps)
    ∷ []

unfoldable pub write_rows : (form : Form) → Owner → Change → List ℕ → List Row
write_rows f o c i = store_rows f i ++ write_only_rows f.edition o c (pages f i)

unfoldable pub store_number : (form : Form) → List ℕ → ℕ
store_number f i = first_of (store_rows f i)

unfoldable pub write_number : (form : Form) → Owner → Change → List ℕ → ℕ
write_number f o c i = first_of (write_rows f o c i)

unfoldable pub blank_read_number : (form : Form) → Owner → (address : ℕ) → List ℕ → ℕ
blank_read_number f o a i = first_of (blank_read_rows f o a i)

unfoldable pub read_number : (form : Form) → Owner → (address : ℕ) → List ℕ → ℕ
read_number f o a i = first_of (read_rows f o a i)

-- N22. Refusal: what a call answers; refused, it answers nothing but its number and leaves the image.
pub record Formatted : Type 0 where
  pub number : ℕ
  pub image : List ℕ

pub record Stepped : Type 0 where
  pub number : ℕ
  pub steps : ℕ
  pub finished : Bool
  pub image : List ℕ

pub record Reading : Type 0 where
  pub number : ℕ
  pub value : ℕ

pub record Pairing : Type 0 where
  pub number : ℕ
  pub paired : Bool
  pub digits : List ℕ

unfoldable pub accepted : ℕ → Bool
accepted number = eqb number OK

abbrev pub refused_format : (number : ℕ) → List ℕ → Formatted
refused_format number i = record { number = number; image = i }

abbrev pub refused_steps : (number : ℕ) → List ℕ → Stepped
refused_steps number i = record { number = number; steps = 0; finished = false; image = i }

abbrev pub refused_reading : (number : ℕ) → Reading
refused_reading number = record { number = number; value = 0 }

abbrev pub refused_lookup : (number : ℕ) → Pairing
refused_lookup number = record { number = number; paired = false; digits = 0 ∷ 0 ∷ 0 ∷ 0 ∷ [] }

-- C5. Format does all its steps.
unfoldable pub format : (form : Form) → List ℕ → Formatted
format f i =
    cond (wrong_size f i) (refused_format SIZE i)
    (record { number = OK; image = run (size f) (format_steps f.edition (page_count f i)) i })

-- C15. Allowance: that many of the steps are done, or all if there are no more; finished if none is left.
unfoldable pub stepped : (form : Form) (number allowance : ℕ) → List Step → List ℕ → Stepped
stepped f number n ss i =
    cond (accepted number)
    (record { number = number; steps = length (take n ss); finished = leb (length ss) n; image = run (size f) (take n ss) i })
    (refused_steps number i)

-- C1. Arguments: the settings that lent bytes are, three for each, its address, low byte first, and its value. The group that they are: of no
-- settings if 3 does not divide their number.
unfoldable pub triples : List ℕ → List Setting
triples [] = []
triples (a ∷ []) = []
triples (a ∷ b ∷ []) = []
triples (a ∷ b ∷ v ∷ bytes) = setting (a + 256 * b) v ∷ triples bytes

unfoldable pub group_of : List ℕ → Change
group_of bytes = group (cond (eqb (length bytes % 3) 0) (triples bytes) [])

unfoldable pub recover : (form : Form) (allowance : ℕ) → List ℕ → Stepped
recover f n i = stepped f (store_number f i) n (recovery_steps f.edition (pages f i)) i

unfoldable pub write : (form : Form) → Owner → Change → (allowance : ℕ) → List ℕ → Stepped
write f o c n i = stepped f (write_number f o c i) n (write_steps f.edition c (pages f i)) i

-- a reading, accepted or refused
unfoldable pub reading : (number value : ℕ) → Reading
reading number v = record { number = number; value = cond (accepted number) v 0 }

-- C17. Read: the value of the address.
unfoldable pub read : (form : Form) → Owner → (address : ℕ) → List ℕ → Reading
read f o a i = reading (read_number f o a i) (or_value (value a (pages f i)) 0)

-- C18. Blank read: 0 for an address that isn't held.
unfoldable pub blank_value : Option ℕ → ℕ
blank_value o = or_value o 0

unfoldable pub blank_read : (form : Form) → Owner → (address : ℕ) → List ℕ → Reading
blank_read f o a i = reading (blank_read_number f o a i) (blank_value (value a (pages f i)))

-- C19. Pairing lookup: the blank reads of 16 to 19 are the digits, and it is paired if all four are held, whatever their values.
unfoldable pub code : (held : ℕ → Option ℕ) → List (Option ℕ)
code held = held 16 ∷ held 17 ∷ held 18 ∷ held 19 ∷ []

unfoldable pub all_held : List (Option ℕ) → Bool
all_held [] = true
all_held (o ∷ os) = is_held o && all_held os

unfoldable pub pairing : (code : List (Option ℕ)) → Pairing
pairing os = record { number = OK; paired = all_held os; digits = map blank_value os }

unfoldable pub lookup : (form : Form) → List ℕ → Pairing
lookup f i =
    cond (accepted (store_number f i)) (pairing (code (λ a. value a (pages f i))))
    (refused_lookup (store_number f i))
