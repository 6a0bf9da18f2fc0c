use Prim.Native.Nat.{ℕ, ◌*◌, ◌≤◌}
use mathlib.Core.Path.{ap}
use borrow.Author.Rules.{rules}
use Rattle.pages.specs.Read.{as_form}
use Rattle.pages.proofs.Forms.{start_small}
use Rattle.pages.proofs.form.Form.start.Goals as goal
use Rattle.pages.proofs.form.Form.start.Goals.{After-size}

-- 32 pages at most, of 509 slots at most
small : (c : After-size) → c.args.page * c.size.result ≤ 65536
small c = let a = c.args in rw c.size.ensures (start_small (as_form a.self) a.page c.requires a.self.fits.1)

pub overflow_mul-result : goal.overflow_mul-result
overflow_mul-result c = let l = small (goal.at.overflow_mul-result c).After-size in search (rules, l)

pub returns : goal.returns
returns c = record { value = ap (λ (n : ℕ). c.args.page * n) c.size.ensures; upper_bound = small (goal.at.returns c).After-size }
