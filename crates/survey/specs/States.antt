-- The pages of an image as the code meets them: their number, the form by which they are read, the slots of one of them.
use Rattle.std.specs.Prelude.{ℕ, ◌*◌, ◌≤◌, ◌<◌, ◌≡◌, true, false, List, [], ◌∷◌, length, Result, Ok, Err}
use Rattle.std.proofs.Math.Option.{some}
use Rattle.rules.specs.Word.{Word}
use Rattle.rules.specs.Page.{Form, size, Chip, in_edition, State}
use Rattle.rules.specs.Store.{order}
use Rattle.rules.specs.Call.{form_of, page_count, wrong_size, page_in}
use Rattle.rules.specs.Named.{chip_of}
use Rattle.pages.specs.Read.{as_form}
use Rattle.pages.specs.declared.form.Form.{Form as Numbers}
use Rattle.survey.specs.declared.refusal.Refusal.{Refusal}
use Rattle.survey.specs.declared.refusal.Refusal.TheVariants.{Size}

-- an image of n pages, of the right size
pub record Paged (fm : Form) (i : List ℕ) (n : ℕ) : Type 0 where
  pub right : wrong_size fm i ≡ false
  pub count : n ≡ page_count fm i
  pub least : 2 ≤ n
  pub most : n ≤ 32
  pub whole : length i ≡ n * size fm

-- The number of an image's pages, or that its size is wrong.
abbrev pub Counted : (fm : Form) (i : List ℕ) → Result ℕ Refusal → Type 0
Counted fm i (Ok n) = Paged fm i n
Counted fm i (Err e) = (wrong_size fm i ≡ true) × (e ≡ Size)

-- The form by which an image is read on a chip, if its size is right there; and at a page size, if that names a chip.
abbrev pub SizedOn : Chip → List ℕ → Result Numbers Refusal → Type 0
SizedOn c i (Ok form) = as_form form ≡ form_of c i
SizedOn c i (Err e) = ((edition : ℕ) → wrong_size (in_edition c edition) i ≡ true) × (e ≡ Size)

-- An image of a wrong size is read by no form.
abbrev pub OfRightSize : List ℕ → Result Numbers Refusal → Type 0
OfRightSize i (Ok form) = wrong_size (as_form form) i ≡ false
OfRightSize i (Err e) = Unit {0}

abbrev pub SizedAt : (page_size : ℕ) → List ℕ → Result Numbers Refusal → Type 0
SizedAt n i (Ok form) = (c : Chip) × (chip_of n ≡ some c) × SizedOn c i (Ok form)
SizedAt n i (Err e) = ((c : Chip) → chip_of n ≡ some c → SizedOn c i (Err e)) × (e ≡ Size)

-- the order of every page is at most 4,194,303
unfoldable pub OrdersFit : List State → Type 0
OrdersFit [] = Unit {0}
OrdersFit (s ∷ ss) = (order s < 4194304) × OrdersFit ss

-- the slots of the page at an index of the image
unfoldable pub slots_in : (form : Form) (index : ℕ) → List ℕ → List Word
slots_in f k i = (page_in f k i).slots
