-- What one look at the pages of an image tells.
use Rattle.std.specs.Prelude.{ℕ, ◌-◌, ◌≤◌, ◌<◌, ◌≡◌, Bool, ◌||◌, List, [], ◌∷◌, map, length, get_or, take, drop, replicate, eqb, Result, Ok, Err}
use Rattle.rules.specs.Page.{Form}
use Rattle.rules.specs.Store.{states, base, used, is_cleared, used_orders, used_pages, oldest_first, count, active_index, active_order, active_slots, free_slot}
use Rattle.rules.specs.Call.{Row, row, first_of, page_count, pages, wrong_size, no_store, repeats, all_used, SIZE, NO_STORE, DAMAGED}
use Rattle.survey.specs.declared.Look.{Look}
use Rattle.survey.specs.declared.Role.{Role}
use Rattle.survey.specs.declared.Role.TheVariants.{Unclean}
use Rattle.survey.specs.declared.refusal.Refusal.{Refusal}
use Rattle.survey.specs.Refusals.{number_of}
use Rattle.survey.specs.Roles.{role}
use Rattle.survey.specs.Places.{at_places}

-- the tests 1 to 3, as far as the pages alone decide: the number held is not looked at
unfoldable pub pages_rows : (form : Form) → List ℕ → List Row
pages_rows fm i =
    row SIZE (wrong_size fm i)
    ∷ row NO_STORE (no_store (pages fm i))
    ∷ row DAMAGED (repeats (used_orders (base (states (pages fm i))) (states (pages fm i))) || all_used (states (pages fm i)))
    ∷ []

unfoldable pub pages_number : (form : Form) → List ℕ → ℕ
pages_number fm i = first_of (pages_rows fm i)

-- the same of what was counted, the size being right: the pages, the used ones, and whether an order repeats
unfoldable pub counted_number : (pages used : ℕ) → Bool → ℕ
counted_number n u twice = first_of (row NO_STORE (eqb u 0) ∷ row DAMAGED (eqb u n) ∷ row DAMAGED twice ∷ [])

-- what stands in the places that are taken: the places of the used pages, and the role of each page
abbrev pub line_of : Look → List ℕ
line_of r = take r.used r.line

abbrev pub roles_of : Look → List Role
roles_of r = take r.count r.roles

-- The places of the line are those of the used pages, the oldest first; the last is the active page's.
pub record Lines (fm : Form) (i : List ℕ) (line : List ℕ) : Type 0 where
  pub within : (k : ℕ) → k < length line → get_or line k 0 < page_count fm i
  pub used : at_places (pages fm i) line ≡ oldest_first (used_pages (base (states (pages fm i))) (pages fm i))
  pub last : get_or line (length line - 1) 0 ≡ active_index (states (pages fm i))

-- what is told of an image whose pages give no refusal
pub record Told (fm : Form) (i : List ℕ) (r : Look) : Type 0 where
  pub counts : r.count ≡ page_count fm i
  pub uses : r.used ≡ count (used (base (states (pages fm i)))) (states (pages fm i))
  pub clears : r.cleared ≡ count is_cleared (states (pages fm i))
  pub active : r.active ≡ active_index (states (pages fm i))
  pub order : r.order ≡ active_order (states (pages fm i))
  pub fits : r.order < 4194304
  pub free : r.free ≡ free_slot (active_slots (pages fm i))
  pub room : r.free ≤ fm.slot_count
  pub long : (length r.line ≡ 32) × (length r.roles ≡ 32)
  pub line : Lines fm i (line_of r)
  pub roles : roles_of r ≡ map (role (base (states (pages fm i)))) (states (pages fm i))

-- what stands in the places that are not taken, of a look that was made here: promised, and asked of nobody
abbrev pub Rest : Look → Type 0
Rest r = (drop r.used r.line ≡ replicate (32 - r.used) 0) × (drop r.count r.roles ≡ replicate (32 - r.count) Unclean)

-- what is told of the pages, or the number by which they are refused
abbrev pub Looks : (fm : Form) (i : List ℕ) → Result Look Refusal → Type 0
Looks fm i (Ok look) = (pages_number fm i ≡ 0) × Told fm i look × Rest look
Looks fm i (Err e) = pages_number fm i ≡ number_of e
