use Rattle.std.proofs.Common.{rules, of_calls, None}
use Rattle.reading.proofs.Readings.{lookup_none, digits}
use Rattle.reading.proofs.lookup.Goals as goal

pub returns-in_err-open : goal.returns-in_err-open
returns-in_err-open c = lookup_none _ _ c.from_residual.result _ c.from_residual.ensures.1 c.in_err-open.ensures.opens

pub returns : goal.returns
returns c =
    let all = c.map.ensures.items in
    digits _ _ _ _ c.in_ok-open.ensures.opens c.map.result all.long (λ k l. let call = (all.at k 0 None l).2 in search (rules, of_calls))
