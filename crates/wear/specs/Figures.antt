-- The figures of docs/WEAR.md: how many changes flash lasts at least that is rated for 10,000 erases of a page.
use Rattle.std.specs.Prelude.{ℕ, ◌≡◌, List, [], ◌∷◌, map}
use Rattle.wear.specs.Wear.{changes_rated}

-- a store of so many pages, with so many slots each, in which at most so many are held; and how many changes it lasts
pub data Figure : Type 0 where
  figure : (pages slots held changes : ℕ) → Figure

abbrev pub as_printed : Figure → ℕ
as_printed (figure n s h changes) = changes

abbrev pub as_computed : (rated : ℕ) → Figure → ℕ
as_computed r (figure n s h changes) = changes_rated n s h r

abbrev pub figures : List Figure
figures =
    figure 2 253 10 4879765
    ∷ figure 2 253 64 3799873
    ∷ figure 2 253 192 1240129
    ∷ figure 4 253 10 9999759
    ∷ figure 4 253 64 9279831
    ∷ figure 4 253 192 7573335
    ∷ figure 8 253 10 20136145
    ∷ figure 8 253 64 19519087
    ∷ figure 8 253 192 18056431
    ∷ figure 16 253 10 40381485
    ∷ figure 16 253 64 39805575
    ∷ figure 16 253 192 38440455
    ∷ figure 32 253 10 80862557
    ∷ figure 32 253 64 80305223
    ∷ figure 32 253 192 78984135
    ∷ figure 2 509 10 9999509
    ∷ figure 2 509 64 8919617
    ∷ figure 2 509 192 6359873
    ∷ figure 4 509 10 20239503
    ∷ figure 4 509 64 19519575
    ∷ figure 4 509 192 17813079
    ∷ figure 8 509 10 40615121
    ∷ figure 8 509 64 39998063
    ∷ figure 8 509 192 38535407
    ∷ figure 16 509 10 81338925
    ∷ figure 16 509 64 80763015
    ∷ figure 16 509 192 79397895
    ∷ figure 32 509 10 162777949
    ∷ figure 32 509 64 162220615
    ∷ figure 32 509 192 160899527
    ∷ []

abbrev pub the_figures_are_right : Type 0
the_figures_are_right = map as_printed figures ≡ map (as_computed 10000) figures
