-- The records of the used pages, by their places in the line.
use Rattle.std.specs.Prelude.{ℕ, ◌+◌, ◌*◌, ◌≤◌, ◌<◌, ◌≡◌, Bool, List, map, length, get_or}
use Rattle.rules.specs.Page.{Form, size}
use Rattle.rules.specs.Word.{Word, slot}
use Rattle.rules.specs.Store.{Setting, all_records, free_slot, Place, outside, place_behind, in_group}
use Rattle.rules.specs.Call.{page_in}
use Rattle.survey.specs.States.{slots_in}

-- the records of the pages at those places of an image
unfoldable pub gathered : (form : Form) → List ℕ → (places : List ℕ) → List Setting
gathered f i ks = all_records (map (λ (k : ℕ). page_in f k i) ks)

-- the places are those of pages of the image, and `free` is the free slot of the last one
pub record Passes (fm : Form) (i line : List ℕ) (free : ℕ) : Type 0 where
  pub room : free ≤ fm.slot_count
  pub places : (k : ℕ) → k < length line → get_or line k 0 < 32
  pub within : (k : ℕ) → k < length line → get_or line k 0 * size fm + size fm ≤ length i
  pub last : (k : ℕ) → k + 1 ≡ length line → free ≡ free_slot (slots_in fm (get_or line k 0) i)

-- where the slot behind these slots stands
abbrev pub standing : (edition : ℕ) → List Word → Place
standing e ws = place_behind outside (map (slot e) ws)

-- whether the end of the last of so many pages stands in a group
unfoldable pub Ends : (form : Form) → (i line : List ℕ) → (pages : ℕ) → Bool → Type 0
Ends fm i line n grouped = (k : ℕ) → k + 1 ≡ n → grouped ≡ in_group (standing fm.edition (slots_in fm (get_or line k 0) i))
