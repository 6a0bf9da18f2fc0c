-- The figures of docs/WEAR.md are those of the formula. Assumes nothing.
use mathlib.Core.Path.{refl}
use Rattle.wear.specs.Figures.{the_figures_are_right}

pub figures_right : the_figures_are_right
figures_right = refl
