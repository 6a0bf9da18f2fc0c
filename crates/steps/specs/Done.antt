-- What it is to do steps under an allowance: as many of them as it allows, in their order.
use Rattle.std.specs.Prelude.{ℕ, ◌+◌, ◌-◌, ◌*◌, ◌≤◌, ◌<◌, ◌≡◌, List, length, take}
use Rattle.rules.specs.Flash.{Step, run, AllAllowed}
use Rattle.rules.specs.Page.{size}
use Rattle.pages.specs.Read.{as_form}
use Rattle.steps.specs.declared.Steps.{Steps}

-- a page lies in the image, which has 32 at most
abbrev pub HasPage : Steps → (page : ℕ) → Type 0
HasPage s k = (k < 32) × (k * size (as_form s.form) + size (as_form s.form) ≤ length s.image.now)

-- so do the first n pages
abbrev pub HasPages : Steps → (n : ℕ) → Type 0
HasPages s n = (n ≤ 32) × (n * size (as_form s.form) ≤ length s.image.now)

-- as many of them as the allowance has room for may be done, each when its turn comes
abbrev pub May : Steps → List Step → Type 0
May s ss = AllAllowed (size (as_form s.form)) (take s.left ss) s.image.now

-- they were done as far as the allowance went: on the same image of the same form, and so many are left
pub record Done (s : Steps) (ss : List Step) (t : Steps) : Type 0 where
  pub same_image : t.image.ghost_name ≡ s.image.ghost_name
  pub same_form : t.form ≡ s.form
  pub left : t.left ≡ s.left - length ss
  pub image : t.image.now ≡ run (size (as_form s.form)) (take s.left ss) s.image.now
