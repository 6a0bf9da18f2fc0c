-- L: the bytes that the listing program prints.
use Rattle.std.specs.Prelude.{ℕ, zero, suc, ◌+◌, ◌/◌, ◌%◌, Bool, true, false, cond, List, [], ◌∷◌, ◌++◌, map, length, ltb}
use Rattle.rules.specs.Word.{Condition, Sound, Blank, HalfWritten, Spoiled, Slot, recorded, opens, closes, neither, slot}
use Rattle.rules.specs.Page.{Form, Page}
use Rattle.rules.specs.Store.{states, base, used, is_cleared, active_order, used_pages, each, count, Setting, setting}
use Rattle.rules.specs.Store.{Place, outside, inside, lost, behind}
use Rattle.rules.specs.Store.{settings, held}
use Rattle.rules.specs.Call.{store_number, accepted, pages}

-- L4. Form of the lines: a number in decimal digits, no more than `places`, and none here has over seven.
unfoldable pub decimal_in : (places : ℕ) → ℕ → List ℕ
decimal_in zero n = []
decimal_in (suc k) n = cond (ltb n 10) ((48 + n) ∷ []) (decimal_in k (n / 10) ++ ((48 + n % 10) ∷ []))

unfoldable pub decimal : ℕ → List ℕ
decimal n = decimal_in 8 n

-- the texts "pages ", " used ", " cleared ", " order ", " held ", " half ", " spoiled ", "refused ", a space and a line feed
abbrev pub text_pages : List ℕ
text_pages = 112 ∷ 97 ∷ 103 ∷ 101 ∷ 115 ∷ 32 ∷ []

abbrev pub text_used : List ℕ
text_used = 32 ∷ 117 ∷ 115 ∷ 101 ∷ 100 ∷ 32 ∷ []

abbrev pub text_cleared : List ℕ
text_cleared = 32 ∷ 99 ∷ 108 ∷ 101 ∷ 97 ∷ 114 ∷ 101 ∷ 100 ∷ 32 ∷ []

abbrev pub text_order : List ℕ
text_order = 32 ∷ 111 ∷ 114 ∷ 100 ∷ 101 ∷ 114 ∷ 32 ∷ []

abbrev pub text_held : List ℕ
text_held = 32 ∷ 104 ∷ 101 ∷ 108 ∷ 100 ∷ 32 ∷ []

abbrev pub text_half : List ℕ
text_half = 32 ∷ 104 ∷ 97 ∷ 108 ∷ 102 ∷ 32 ∷ []

abbrev pub text_spoiled : List ℕ
text_spoiled = 32 ∷ 115 ∷ 112 ∷ 111 ∷ 105 ∷ 108 ∷ 101 ∷ 100 ∷ 32 ∷ []

abbrev pub text_refused : List ℕ
text_refused = 114 ∷ 101 ∷ 102 ∷ 117 ∷ 115 ∷ 101 ∷ 100 ∷ 32 ∷ []

abbrev pub space : List ℕ
space = 32 ∷ []

abbrev pub line_end : List ℕ
line_end = 10 ∷ []

-- L6. Broken words: how many slots of the used pages are half-written, and how many are spoiled.
unfoldable pub is_half : Condition → Bool
is_half Sound = false
is_half Blank = false
is_half HalfWritten = true
is_half Spoiled = false

unfoldable pub is_spoiled : Condition → Bool
is_spoiled Sound = false
is_spoiled Blank = false
is_spoiled HalfWritten = false
is_spoiled Spoiled = true

-- what a slot counts for: a record and a mark are sound, but an opening inside a group is spoiled
unfoldable pub condition_at : Place → Slot → Condition
condition_at at (recorded a v) = Sound
condition_at outside (opens n) = Sound
condition_at (inside n rs) (opens m) = Spoiled
condition_at lost (opens m) = Spoiled
condition_at at (closes m) = Sound
condition_at at (neither c) = c

unfoldable pub conditions : Place → List Slot → List Condition
conditions at [] = []
conditions at (s ∷ ss) = condition_at at s ∷ conditions (behind at s) ss

-- the conditions of the slots of a page, and of those of the used pages
abbrev pub conditions_in : Page → List Condition
conditions_in p = conditions outside (map (slot p.edition) p.slots)

unfoldable pub used_conditions : List Page → List Condition
used_conditions ps = each conditions_in (used_pages (base (states ps)) ps)

unfoldable pub half : List Page → ℕ
half ps = count is_half (used_conditions ps)

unfoldable pub spoiled : List Page → ℕ
spoiled ps = count is_spoiled (used_conditions ps)

-- L2. First line: the number of pages, of used and of cleared ones, the active order, the number held, of half-written slots and
-- of spoiled ones.
unfoldable pub first_line : List Page → List ℕ
first_line ps =
    text_pages ++ decimal (length ps) ++ text_used ++ decimal (count (used (base (states ps))) (states ps)) ++ text_cleared
    ++ decimal (count is_cleared (states ps)) ++ text_order ++ decimal (active_order (states ps)) ++ text_held
    ++ decimal (held ps) ++ text_half ++ decimal (half ps) ++ text_spoiled ++ decimal (spoiled ps) ++ line_end

-- L3. Settings: address and value, addresses rising.
unfoldable pub setting_line : Setting → List ℕ
setting_line (setting a v) = decimal a ++ space ++ decimal v ++ line_end

unfoldable pub setting_lines : List Setting → List ℕ
setting_lines rs = each setting_line rs

-- L5. Refusal: as recovery's, the number in one line.
unfoldable pub listing : (form : Form) → List ℕ → List ℕ
listing f i =
    cond (accepted (store_number f i)) (first_line (pages f i) ++ setting_lines (settings (pages f i)))
    (text_refused ++ decimal (store_number f i) ++ line_end)
