-- The three bytes are the setting.
use Prim.Native.Nat.{ℕ, ◌+◌, ◌*◌, ◌/◌, ◌%◌, ◌<◌}
use mathlib.Core.Path.{◌≡◌, ap, ◌∙◌}
use native.Mathlib.Omega.{arith}
use Rattle.rules.specs.Steps.{single}
use Rattle.rules.specs.Call.{write}
use Rattle.owners.specs.Read.{as_owner}
use Rattle.pages.specs.Read.{as_form}
use Rattle.changes.specs.Entries.{change_of}
use Rattle.writing.proofs.write.Goals as goal

whole : (a : ℕ) → a < 65536 → a % 256 + 256 * (a / 256 % 256) ≡ a
whole a l = omega arith

pub returns : goal.returns
unfolding change_of
returns c =
    let a = c.args in
    c.write_change.ensures
    ∙ ap (λ (x : ℕ). write (as_form a.form) (as_owner a.owner) (single x a.value) a.allowance a.image.now)
    (rw c.to_le_bytes.ensures (whole a.address (omega arith)))
