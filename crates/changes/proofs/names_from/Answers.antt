use Prim.Native.Nat.{◌-◌, ◌/◌}
use mathlib.Core.Path.{refl, sym, ap, ◌∙◌}
use mathlib.Core.List.{map}
use native.Mathlib.Omega.{arith}
use lib.ListN.{length}
use lib.Dec.{eqb}
use borrow.Author.Tests.{tests}
use Rattle.std.proofs.Common.{rules}
use Rattle.std.proofs.lemmas.Iterator.{YieldsList-from_range}
use Rattle.std.proofs.lemmas.Iterator.Search.{any_from_yields_List}
use Rattle.rules.specs.Store.{address_of}
use Rattle.rules.specs.Call.{among}
use Rattle.changes.specs.Entries.{byte_address}
use Rattle.changes.proofs.Entries.{entries_from, any_named}
use Rattle.changes.proofs.names_from.Goals as goal

pub returns : goal.returns
returns c =
    let a = c.args in
    let s = a.entries.now in
    let n = length s / 3 - a.k in
    any_from_yields_List (λ k. eqb (byte_address s k) a.address) _ _ _ c.any.ensures.ran (YieldsList-from_range a.k (length s / 3) n refl refl)
    (λ x b q k. search (rules, tests))
    ∙ any_named s a.address _ ∙ ap (λ rs. among a.address (map address_of rs)) (sym (entries_from s a.k n (omega arith)))
