-- S: the store. It is the list of its pages, by index.
use Rattle.std.specs.Prelude.{ℕ, zero, suc, ◌+◌, ◌<◌, max, Bool, true, false, cond, ◌&&◌, List, [], ◌∷◌, ◌++◌, map, length, get_or, eqb, leb, ltb}
use Rattle.std.proofs.Math.Option.{Option, none, some}
use Rattle.rules.specs.Word.{Word, blank, Slot, recorded, opens, closes, neither, slot}
use Rattle.rules.specs.Page.{State, cleared, open₁, open₂, receiving, bad, Page}

unfoldable pub states : List Page → List State
states [] = []
states (p ∷ ps) = p.state ∷ states ps

-- S1. Base order: the greatest order of an open page of kind 2, 0 without one.
unfoldable pub order₂ : State → ℕ
order₂ (cleared n) = 0
order₂ (open₁ o) = 0
order₂ (open₂ o) = o
order₂ receiving = 0
order₂ bad = 0

unfoldable pub greatest : List ℕ → ℕ
greatest [] = 0
greatest (o ∷ os) = max o (greatest os)

unfoldable pub base : List State → ℕ
base ss = greatest (map order₂ ss)

-- S2. Used: open, with the base order or a greater one.
unfoldable pub used : (base : ℕ) → State → Bool
used b (cleared n) = false
used b (open₁ o) = leb b o
used b (open₂ o) = leb b o
used b receiving = false
used b bad = false

unfoldable pub is_cleared : State → Bool
is_cleared (cleared n) = true
is_cleared (open₁ o) = false
is_cleared (open₂ o) = false
is_cleared receiving = false
is_cleared bad = false

unfoldable pub is_open : State → Bool
is_open (cleared n) = false
is_open (open₁ o) = true
is_open (open₂ o) = true
is_open receiving = false
is_open bad = false

unfoldable pub order : State → ℕ
order (cleared n) = 0
order (open₁ o) = o
order (open₂ o) = o
order receiving = 0
order bad = 0

-- the orders of the used pages
unfoldable pub add_order : Bool → ℕ → List ℕ → List ℕ
add_order true o os = o ∷ os
add_order false o os = os

unfoldable pub used_orders : (base : ℕ) → List State → List ℕ
used_orders b [] = []
used_orders b (s ∷ ss) = add_order (used b s) (order s) (used_orders b ss)

-- every number of a list is below m
unfoldable pub Under : ℕ → List ℕ → Type 0
Under m [] = Unit {0}
Under m (o ∷ os) = (o < m) × Under m os

-- S3. Active: the used page of greatest order. Its order, and its index.
unfoldable pub active_order : List State → ℕ
active_order ss = greatest (used_orders (base ss) ss)

unfoldable pub is_active : (base order : ℕ) → State → Bool
is_active b o s = used b s && eqb (order s) o

unfoldable pub index_of : (State → Bool) → List State → ℕ
index_of test [] = 0
index_of test (s ∷ ss) = cond (test s) 0 (suc (index_of test ss))

unfoldable pub active_index : List State → ℕ
active_index ss = index_of (is_active (base ss) (active_order ss)) ss

-- the used pages, the oldest first
unfoldable pub add_page : Bool → Page → List Page → List Page
add_page true p ps = p ∷ ps
add_page false p ps = ps

unfoldable pub used_pages : (base : ℕ) → List Page → List Page
used_pages b [] = []
used_pages b (p ∷ ps) = add_page (used b p.state) p (used_pages b ps)

unfoldable pub insert : Page → List Page → List Page
insert p [] = p ∷ []
insert p (q ∷ qs) = cond (leb (order p.state) (order q.state)) (p ∷ q ∷ qs) (q ∷ insert p qs)

unfoldable pub oldest_first : List Page → List Page
oldest_first [] = []
oldest_first (p ∷ ps) = insert p (oldest_first ps)

-- S7. an address with its value
pub data Setting : Type 0 where
  setting : (address value : ℕ) → Setting

abbrev pub address_of : Setting → ℕ
address_of (setting a v) = a

abbrev pub value_of : Setting → ℕ
value_of (setting a v) = v

-- S11. Group. Where a slot stands: outside a group; inside one of that number, with nothing but these records between it and the opening; or
-- inside one that has something else there, and so is lost.
pub data Place : Type 0 where
  outside : Place
  inside : (number : ℕ) → List Setting → Place
  lost : Place

-- All behind an opening is in its group until a mark that closes: where the next slot stands.
unfoldable pub behind : Place → Slot → Place
behind outside (recorded a v) = outside
behind outside (opens n) = inside n []
behind outside (closes n) = outside
behind outside (neither c) = outside
behind (inside n rs) (recorded a v) = inside n (rs ++ setting a v ∷ [])
behind (inside n rs) (opens m) = lost
behind (inside n rs) (closes m) = outside
behind (inside n rs) (neither c) = lost
behind lost (recorded a v) = lost
behind lost (opens m) = lost
behind lost (closes m) = outside
behind lost (neither c) = lost

-- S12. Records of a group: they count if it is closed with its own number and that is how many they are. What counts by a slot.
abbrev pub rightly_closed : (number closing : ℕ) → List Setting → Bool
rightly_closed n m rs = eqb m n && eqb (length rs) n

unfoldable pub closed : (number closing : ℕ) → List Setting → List Setting
closed n m rs = cond (rightly_closed n m rs) rs []

unfoldable pub counted : Place → Slot → List Setting
counted outside (recorded a v) = setting a v ∷ []
counted outside (opens n) = []
counted outside (closes n) = []
counted outside (neither c) = []
counted (inside n rs) (recorded a v) = []
counted (inside n rs) (opens m) = []
counted (inside n rs) (closes m) = closed n m rs
counted (inside n rs) (neither c) = []
counted lost s = []

-- S5. Records that count: of slots from a place on, in slot order. Where the slot behind them stands.
unfoldable pub scan : Place → List Slot → List Setting
scan at [] = []
scan at (s ∷ ss) = counted at s ++ scan (behind at s) ss

unfoldable pub place_behind : Place → List Slot → Place
place_behind at [] = at
place_behind at (s ∷ ss) = place_behind (behind at s) ss

-- of the slots of a page
unfoldable pub records : (edition : ℕ) → List Word → List Setting
records edition ws = scan outside (map (slot edition) ws)

-- what a function gives of each thing in a list, one after the other
unfoldable pub each : {A B : Type 0} → (A → List B) → List A → List B
each of [] = []
each of (x ∷ xs) = of x ++ each of xs

-- the records of a page, and of several pages
abbrev pub records_in : Page → List Setting
records_in p = records p.edition p.slots

abbrev pub all_records : List Page → List Setting
all_records ps = each records_in ps

-- the records of the used pages, from the first slot of the oldest to the last of the active one
unfoldable pub journal : List Page → List Setting
journal ps = all_records (oldest_first (used_pages (base (states ps)) ps))

-- S6. Value: the last that the journal has of the address.
unfoldable pub or_else : Option ℕ → Option ℕ → Option ℕ
or_else none o = o
or_else (some v) o = some v

unfoldable pub last_of : (address : ℕ) → List Setting → Option ℕ
last_of a [] = none
last_of a (setting b v ∷ rs) = or_else (last_of a rs) (cond (eqb a b) (some v) none)

unfoldable pub value : (address : ℕ) → List Page → Option ℕ
value a ps = last_of a (journal ps)

-- a number, or another where there is none
unfoldable pub or_value : Option ℕ → ℕ → ℕ
or_value none other = other
or_value (some v) other = v

-- S7. Held: the held addresses, rising, each with its value. A record takes the place of an earlier one of its address.
unfoldable pub put : Setting → List Setting → List Setting
put s [] = s ∷ []
put (setting a v) (setting b u ∷ rs) =
    cond (ltb a b) (setting a v ∷ setting b u ∷ rs)
    (cond (eqb a b) (setting a v ∷ rs) (setting b u ∷ put (setting a v) rs))

unfoldable pub put_all : List Setting → List Setting → List Setting
put_all held [] = held
put_all held (r ∷ rs) = put_all (put r held) rs

unfoldable pub settings : List Page → List Setting
settings ps = put_all [] (journal ps)

-- addresses rising: each is below those behind it
unfoldable pub Above : ℕ → List Setting → Type 0
Above a [] = Unit {0}
Above a (setting b u ∷ rs) = (a < b) × Above a rs

unfoldable pub Rising : List Setting → Type 0
Rising [] = Unit {0}
Rising (setting a v ∷ rs) = Above a rs × Rising rs

unfoldable pub held : List Page → ℕ
held ps = length (settings ps)

-- S8. Free slot: the one behind the last that isn't blank. How many slots come before it.
unfoldable pub past : Bool → ℕ → ℕ
past true zero = zero
past true (suc n) = suc (suc n)
past false n = suc n

unfoldable pub free_slot : List Word → ℕ
free_slot [] = 0
free_slot (w ∷ ws) = past (blank w) (free_slot ws)

-- the page at an index, if there is one, and the slots of the active page
abbrev pub no_page : Page
no_page = record { state = bad; wear = none; edition = 0; slots = [] }

abbrev pub page_at : (index : ℕ) → List Page → Page
page_at k ps = get_or ps k no_page

unfoldable pub active_page : List Page → Page
active_page ps = page_at (active_index (states ps)) ps

unfoldable pub active_slots : List Page → List Word
active_slots ps = (active_page ps).slots

-- how many slots the active page has from its free one on: so many at least
unfoldable pub has_room : (slots : ℕ) → List Page → Bool
has_room n ps = leb (free_slot (active_slots ps) + n) (length (active_slots ps))

-- S13. Open group: the free slot of the active page stands in a group. Those behind the free slot are blank and do not end one.
unfoldable pub in_group : Place → Bool
in_group outside = false
in_group (inside n rs) = true
in_group lost = true

abbrev pub end_of : Page → Place
end_of p = place_behind outside (map (slot p.edition) p.slots)

unfoldable pub open_group : List Page → Bool
open_group ps = has_room 1 ps && in_group (end_of (active_page ps))

-- how many of a list pass a test
unfoldable pub count : {A : Type 0} → (A → Bool) → List A → ℕ
count test [] = 0
count test (x ∷ xs) = cond (test x) 1 0 + count test xs

-- S10. The page that is taken: the cleared one of least wear, of several such the one of lowest index.
pub data Candidate : Type 0 where
  nobody : Candidate
  page : (index wear : ℕ) → Candidate

unfoldable pub better : Candidate → Candidate → Candidate
better nobody other = other
better (page k n) nobody = page k n
better (page k n) (page j m) = cond (leb n m) (page k n) (page j m)

unfoldable pub offered : (index : ℕ) → State → Candidate
offered k (cleared n) = page k n
offered k (open₁ o) = nobody
offered k (open₂ o) = nobody
offered k receiving = nobody
offered k bad = nobody

unfoldable pub least_worn : (index : ℕ) → List State → Candidate
least_worn k [] = nobody
least_worn k (s ∷ ss) = better (offered k s) (least_worn (suc k) ss)

unfoldable pub index : Candidate → ℕ
index nobody = 0
index (page k n) = k
