use mathlib.Core.Path.{sym, ◌∙◌}
use Rattle.std.proofs.Common.{rules}
use Rattle.rules.proofs.Truth.{by_cases}
use Rattle.groups.proofs.Standing.{is_open, not_open}
use Rattle.broken.proofs.Counting.{opening}
use Rattle.broken.proofs.of_slot.Goals as goal

pub returns-in-Opens : goal.returns-in-Opens
returns-in-Opens c =
    λ at xs w h.
    let p = c.args.place in
    let inside = by_cases c.ne.result (λ t. t ∙ sym (is_open at xs p h (search rules))) (λ f. f ∙ sym (not_open at xs p h (search rules))) in
    rw (c.in-Opens.is, c.from.ensures, inside) (opening at c.in-Opens.field-0)
