use Prim.Native.Nat.{◌+◌, ◌*◌, ◌≤◌}
use mathlib.Core.Path.{◌∙◌, ap, subst}
use mathlib.Core.List.{List}
use native.Mathlib.Omega.{arith}
use lib.ListN.{length}
use Rattle.rules.specs.Store.{Setting, last_of}
use Rattle.changes.proofs.Entries.{length_triples, all_entries}
use Rattle.changes.specs.Entries.{byte_address}
use Rattle.settings.specs.Held.{as_option}
use Rattle.choosing.specs.Known.{Knows}
use Rattle.choosing.proofs.Telling.{found_value, knows_none, knows_more, new_few}
use Rattle.choosing.proofs.told_of.Goals as goal

pub loop-k-init : goal.loop-k-init
loop-k-init c = record { few = omega arith; knows = λ ps e r. knows_none c.args.entries.now ps }

pub loop-k-preserved : goal.loop-k-preserved
loop-k-preserved c =
    let l = c.loop-k in
    let s = c.args.entries.now in
    let d = c.with-known.ensures in
    let f = c.value-found in
    let inside : 3 * l.k + 3 ≤ length s = omega arith in
    record {
      few = omega (arith, new_few (as_option f.result) d);
      knows = λ ps e right.
          knows_more s l.k inside ps l.known c.with-known.result
          (f.ensures ∙ ap (λ a. last_of a c.args.table.now) c.address_at.ensures ∙ found_value ps (byte_address s l.k) e)
          c.value_at.ensures d (l.invariant.knows ps e right);
    }

pub returns : goal.returns
returns c =
    let l = c.loop-k in
    let s = c.args.entries.now in
    let all = all_entries s l.k (omega arith) in
    record {
      knows = λ ps e right. subst (λ (rs : List Setting). Knows ps rs l.known) all (l.invariant.knows ps e right);
      result_in_bounds = omega (arith, length_triples s);
    }
