use Prim.Native.Nat.{◌/◌}
use mathlib.Core.Path.{refl, sym, ap, ◌∙◌}
use mathlib.Core.Bool.{not}
use native.Mathlib.Omega.{arith}
use lib.ListN.{length}
use borrow.Author.Tests.{tests}
use Rattle.std.proofs.Common.{rules}
use Rattle.std.proofs.lemmas.Iterator.{YieldsList-from_range}
use Rattle.std.proofs.lemmas.Iterator.Search.{any_from_yields_List}
use Rattle.rules.specs.Owner.{a_foreign}
use Rattle.owners.specs.Read.{as_owner}
use Rattle.changes.specs.Entries.{byte_address}
use Rattle.changes.proofs.Entries.{entries_from, any_foreign}
use Rattle.changes.proofs.a_foreign.Goals as goal

pub returns : goal.returns
returns c =
    let s = c.args.entries.now in
    let o = as_owner c.args.owner in
    let n = length s / 3 in
    any_from_yields_List (λ k. not (o.owns (byte_address s k))) _ _ _ c.any.ensures.ran (YieldsList-from_range 0 n n refl (omega arith))
    (λ x b q k. search (rules, tests))
    ∙ any_foreign s o _ ∙ ap (a_foreign o) (sym (entries_from s 0 n (omega arith)))
