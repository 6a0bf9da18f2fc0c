use Prim.Native.Nat.{◌+◌, ◌-◌}
use mathlib.Core.Path.{◌≡◌, sym, ap, ◌∙◌}
use native.Mathlib.Omega.{arith}
use Rattle.rules.specs.Word.{blank}
use Rattle.pages.proofs.Scan.{free_whole, free_on, free_stop, free_none}
use Rattle.pages.proofs.free_slot.Goals as goal

pub loop-last-init : goal.loop-last-init
loop-last-init c = (omega arith, free_whole _)

pub returns-then-not-is_blank-clause-value : goal.returns-then-not-is_blank-clause-value
returns-then-not-is_blank-clause-value c =
    let here = c.loop-last in
    let b : blank _ ≡ _ = ap blank (sym c.word_at.ensures) ∙ sym c.is_blank.ensures ∙ c.if-not-is_blank.true in
    let n : here.last - 1 + 1 ≡ here.last = omega arith in
    n ∙ sym (here.invariant.1 ∙ free_stop _ here.last (omega arith) (omega arith) b)

pub loop-last-preserved : goal.loop-last-preserved
loop-last-preserved c =
    let here = c.loop-last in
    let b : blank _ ≡ _ = ap blank (sym c.word_at.ensures) ∙ sym c.is_blank.ensures ∙ c.if-not-is_blank.false in
    (omega arith, here.invariant.1 ∙ free_on _ here.last (omega arith) (omega arith) b)

pub returns-clause-value : goal.returns-clause-value
returns-clause-value c = let here = c.loop-last in sym (here.invariant.1 ∙ free_none here.last _ (omega arith))
