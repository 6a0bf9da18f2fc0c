use Prim.Native.Nat.{◌/◌}
use mathlib.Core.Path.{refl, sym, ap, ◌∙◌}
use native.Mathlib.Omega.{arith}
use lib.ListN.{length}
use lib.Dec.{leb}
use borrow.Author.Tests.{tests}
use Rattle.std.proofs.Common.{rules}
use Rattle.std.proofs.lemmas.Iterator.{YieldsList-from_range}
use Rattle.std.proofs.lemmas.Iterator.Search.{any_from_yields_List}
use Rattle.rules.specs.Call.{a_wrong_address}
use Rattle.changes.specs.Entries.{byte_address}
use Rattle.changes.proofs.Entries.{entries_from, any_wrong}
use Rattle.changes.proofs.a_wrong_address.Goals as goal

pub returns : goal.returns
returns c =
    let s = c.args.entries.now in
    let n = length s / 3 in
    any_from_yields_List (λ k. leb 65535 (byte_address s k)) _ _ _ c.any.ensures.ran (YieldsList-from_range 0 n n refl (omega arith))
    (λ x b q k. search (rules, tests))
    ∙ any_wrong s _ ∙ ap a_wrong_address (sym (entries_from s 0 n (omega arith)))
