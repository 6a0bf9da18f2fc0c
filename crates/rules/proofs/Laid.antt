-- The image after steps, laid out in parts: the same image as `run` gives, computed in one pass for each step rather than byte
-- by byte, for those who compute with a whole image. Assumes nothing.
use Prim.Native.Nat.{ℕ, ◌+◌, ◌≤◌}
use mathlib.Core.Path.{◌≡◌, refl, ap, ◌∙◌}
use mathlib.Core.Bool.{Bool, true, false, ◌&&◌}
use mathlib.Core.List.{List, [], ◌∷◌, ◌++◌}
use lib.ListN.{length, take, drop}
use lib.Seq.{sets-eq}
use lib.Dec.{leb}
use borrow.Author.Tests.{leb-true}
use Rattle.rules.specs.Flash.{Step, offset, aim, after, run}
use Rattle.rules.specs.Page.{Form, size}
use Rattle.rules.specs.Steps.{format_steps}
use Rattle.rules.specs.Call.{page_count, wrong_size, Formatted, format}
use Rattle.rules.proofs.Truth.{and_left, and_right}
use Rattle.rules.proofs.Cut.{length_after}
use Rattle.rules.proofs.Answers.{format_done}

unfoldable pub laid : ℕ → Step → List ℕ → List ℕ
laid size s i = take (offset size s) i ++ aim size s ++ drop (offset size s + length (aim size s)) i

unfoldable pub laid_all : ℕ → List Step → List ℕ → List ℕ
laid_all size [] i = i
laid_all size (s ∷ ss) i = laid_all size ss (laid size s i)

-- all steps work within an image of n bytes
unfoldable pub within : (size n : ℕ) → List Step → Bool
within size n [] = true
within size n (s ∷ ss) = leb (offset size s + length (aim size s)) n && within size n ss

pub run_laid : (size : ℕ) (ss : List Step) (i : List ℕ) → within size (length i) ss ≡ true → run size ss i ≡ laid_all size ss i
unfolding run laid_all laid within after
run_laid size [] i h = refl
run_laid size (s ∷ ss) i h =
    let o = offset size s in
    let here : o + length (aim size s) ≤ length i = leb-true (o + length (aim size s)) (length i) (and_left _ _ h) in
    run_laid size ss (after size s i) (rw (length_after size s i) (and_right (leb (o + length (aim size s)) (length i)) _ h))
    ∙ ap (laid_all size ss) (sets-eq (aim size s) i o here)

-- the image of a format of n pages
pub format_laid : (fm : Form) (n : ℕ) (i : List ℕ) → wrong_size fm i ≡ false → page_count fm i ≡ n
    → within (size fm) (length i) (format_steps fm.edition n) ≡ true → (format fm i).image ≡ laid_all (size fm) (format_steps fm.edition n) i
format_laid fm n i right many inside =
    ap (λ (f : Formatted). f.image) (format_done fm i right)
    ∙ ap (λ (m : ℕ). run (size fm) (format_steps fm.edition m) i) many
    ∙ run_laid (size fm) (format_steps fm.edition n) i inside
