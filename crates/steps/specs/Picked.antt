-- The steps that renew the pages that a test of the index picks, among the first n of an image, in index order.
use Rattle.std.specs.Prelude.{ℕ, ◌<◌, ◌≡◌, Bool, List}
use Rattle.rules.specs.Flash.{Step}
use Rattle.rules.specs.Page.{Form}
use Rattle.rules.specs.Steps.{renew_picked}
use Rattle.rules.specs.Call.{first_pages}

unfoldable pub picked_steps : (form : Form) (n : ℕ) (picks : ℕ → Bool) → List ℕ → List Step
picked_steps f n picks i = renew_picked f.edition (λ k s. picks k) (first_pages f n i)

-- of each index below n, what is answered is what the test says
abbrev pub Answers : (answered : ℕ → Bool → Type 0) (n : ℕ) (picks : ℕ → Bool) → Type 0
Answers answered n picks = (k : ℕ) (b : Bool) → k < n → answered k b → b ≡ picks k
