use mathlib.Core.Path.{◌≡◌, sym, ◌∙◌}
use native.Mathlib.Omega.{arith}
use borrow.Author.Rules.{part_to_end}
use Rattle.rules.specs.Word.{words}
use Rattle.rules.specs.Page.{all_blank}
use Rattle.rules.specs.Store.{order}
use Rattle.pages.proofs.Header.{plain, received, unfinished, unopened}
use Rattle.pages.proofs.after_wear.Goals as goal

pub returns-then-is_opening : goal.returns-then-is_opening
unfolding order
returns-then-is_opening c =
    let i = c.order_in-order.ensures in
    let t₁ = sym c.is_opening.ensures ∙ c.if-is_opening.true in
    record { result_value = sym (plain _ _ c.requires c.word_at-opening.ensures i.value t₁); result_bound = i.upper_bound }

pub returns-then-is_done : goal.returns-then-is_done
unfolding order
returns-then-is_done c =
    let i = c.order_in-order.ensures in
    let t₁ = sym c.is_opening.ensures ∙ c.if-is_opening.false in
    let t₂ = sym c.is_opening-2.ensures ∙ c.if-is_opening-2.true in
    let t = sym c.is_done.ensures ∙ c.if-is_done.true in
    record { result_value = sym (received _ _ c.requires c.word_at-opening.ensures i.value t₁ t₂ c.word_at.ensures t); result_bound = i.upper_bound }

pub returns-then-is_opening-2 : goal.returns-then-is_opening-2
unfolding order
returns-then-is_opening-2 c =
    let i = c.order_in-order.ensures in
    let t₁ = sym c.is_opening.ensures ∙ c.if-is_opening.false in
    let t₂ = sym c.is_opening-2.ensures ∙ c.if-is_opening-2.true in
    let t = sym c.is_done.ensures ∙ c.if-is_done.false in
    record { result_value = sym (unfinished _ _ c.requires c.word_at-opening.ensures i.value t₁ t₂ c.word_at.ensures t); result_bound = omega arith }

pub returns-then-all_blank : goal.returns-then-all_blank
unfolding order
returns-then-all_blank c =
    let t₁ = sym c.is_opening.ensures ∙ c.if-is_opening.false in
    let t₂ = sym c.is_opening-2.ensures ∙ c.if-is_opening-2.false in
    let b : all_blank (words _) ≡ _ = sym c.all_blank.ensures ∙ c.if-all_blank.true in
    record { result_value = sym (unopened _ _ c.requires c.word_at-opening.ensures t₁ t₂ ∙ rw (rw part_to_end at b)); result_bound = omega arith }

pub returns : goal.returns
unfolding order
returns c =
    let t₁ = sym c.is_opening.ensures ∙ c.if-is_opening.false in
    let t₂ = sym c.is_opening-2.ensures ∙ c.if-is_opening-2.false in
    let b : all_blank (words _) ≡ _ = sym c.all_blank.ensures ∙ c.if-all_blank.false in
    record { result_value = sym (unopened _ _ c.requires c.word_at-opening.ensures t₁ t₂ ∙ rw (rw part_to_end at b)); result_bound = omega arith }
