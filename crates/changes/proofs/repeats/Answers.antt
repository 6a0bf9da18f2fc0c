use Prim.Native.Nat.{◌/◌, ◌+◌}
use mathlib.Core.Path.{refl, ◌∙◌}
use native.Mathlib.Omega.{arith}
use lib.ListN.{length}
use borrow.Author.Tests.{tests}
use Rattle.std.proofs.Common.{rules}
use Rattle.std.proofs.lemmas.Iterator.{YieldsList-from_range}
use Rattle.std.proofs.lemmas.Iterator.Search.{any_from_yields_List}
use Rattle.rules.specs.Call.{among}
use Rattle.changes.specs.Entries.{byte_address}
use Rattle.changes.proofs.Entries.{addresses_from, any_again}
use Rattle.changes.proofs.repeats.Goals as goal

pub returns : goal.returns
returns c =
    let s = c.args.entries.now in
    let n = length s / 3 in
    any_from_yields_List (λ k. among (byte_address s k) (addresses_from s (k + 1))) _ _ _ c.any.ensures.ran (YieldsList-from_range 0 n n refl (omega arith))
    (λ x b q k. search (rules, tests))
    ∙ any_again s 0 n (omega arith)
