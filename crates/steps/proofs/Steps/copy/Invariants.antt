-- The invariant: those of the settings passed that are kept are copied.
use Prim.Native.Nat.{◌≤◌}
use mathlib.Core.Path.{◌≡◌}
use lib.ListN.{length}
use Rattle.rules.specs.Steps.{slots_steps}
use Rattle.rules.specs.Call.{triples}
use Rattle.settings.specs.Held.{taken}
use Rattle.steps.specs.Done.{Done}
use Rattle.steps.proofs.Copies.{kept}
use Rattle.steps.proofs.Steps.copy.Given as goal

abbrev pub invariant-loop-setting : goal.invariant-loop-setting
invariant-loop-setting l =
    let ws = kept (taken l.fn.settings l.fn.held) (triples l.entries) l.setting-index in
    record {
      behind : l.slot ≡ length ws;
      few : l.slot ≤ l.setting-index;
      copied : Done l.initial.self (slots_steps l.page 0 ws) l.self;
    }
