use mathlib.Core.Path.{sym, ap, ◌∙◌}
use native.Mathlib.Omega.{arith}
use Rattle.rules.specs.Page.{state_after_wear}
use Rattle.rules.specs.Store.{order}
use Rattle.pages.proofs.Header.{no_wear, with_wear}
use Rattle.pages.proofs.state_of.Goals as goal

pub returns-then-is_wear : goal.returns-then-is_wear
returns-then-is_wear c =
    let t = sym c.is_wear.ensures ∙ c.if-is_wear.true in
    let s = with_wear _ _ (omega arith) c.word_at-wear.ensures t in
    record {
      result_value = c.after_wear.ensures.result_value ∙ ap (state_after_wear _) c.low16.ensures ∙ sym s;
      result_bound = c.after_wear.ensures.result_bound;
    }

pub returns : goal.returns
unfolding order
returns c =
    let t = sym c.is_wear.ensures ∙ c.if-is_wear.false in
    record { result_value = sym (no_wear _ _ (omega arith) c.word_at-wear.ensures t); result_bound = omega arith }
