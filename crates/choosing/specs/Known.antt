-- What a table tells of a change.
use Rattle.std.specs.Prelude.{ℕ, ◌+◌, ◌≡◌, cond, not, ◌&&◌, List}
use Rattle.std.proofs.Math.Option.{Option}
use Rattle.rules.specs.Page.{Page}
use Rattle.rules.specs.Store.{Setting}
use Rattle.rules.specs.Steps.{is_value, all_values}
use Rattle.rules.specs.Call.{is_held, new_in}
use Rattle.choosing.specs.declared.Known.{Known}

-- of one setting more, its address having that value and it being given this one
pub record Adds (found : Option ℕ) (value : ℕ) (before after : Known) : Type 0 where
  pub new : after.new ≡ before.new + cond (not (is_held found)) 1 0
  pub same : after.same ≡ (is_value found value && before.same)

-- of these settings, in the store of these pages
pub record Knows (ps : List Page) (rs : List Setting) (r : Known) : Type 0 where
  pub new : r.new ≡ new_in rs ps
  pub same : r.same ≡ all_values rs ps
