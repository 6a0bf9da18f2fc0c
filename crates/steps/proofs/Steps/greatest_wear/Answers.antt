use mathlib.Core.Path.{◌∙◌}
use native.Mathlib.Omega.{arith}
use borrow.Author.Rules.{rules}
use Rattle.std.specs.List.{filter_map, range_with_len}
use Rattle.std.proofs.lemmas.Iterator.{YieldsList-from_range}
use Rattle.std.proofs.lemmas.Iterator.Consumers.{YieldsList-from_filter_map, max_from_yields_List}
use Rattle.pages.specs.Read.{as_form}
use Rattle.steps.proofs.Greatest.{wear_at, greatest_is, greatest_all, in_code_is}
use Rattle.steps.proofs.Steps.greatest_wear.Goals as goal

pub returns : goal.returns
returns c =
    let s = c.args.self.now in
    let n = c.args.n in
    let h = wear_at (as_form s.form) s.image.now in
    let wears = filter_map h (range_with_len 0 n) in
    c.unwrap_or.ensures
    ∙ greatest_is c.max.result wears
    (max_from_yields_List c.filter_map.result c.max.result c.max.ensures.ran
    (YieldsList-from_filter_map _ h (YieldsList-from_range 0 n n c.filter_map.ensures.source (omega arith)) c.filter_map.ensures.closure
    (λ x r q k. (search rules, in_code_is r (search rules)))))
    ∙ greatest_all (as_form s.form) s.image.now n
