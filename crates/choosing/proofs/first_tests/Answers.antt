-- Each test is the rules', in their order, of any image that the store was opened from.
use mathlib.Core.Path.{sym, ◌∙◌}
use native.Mathlib.Omega.{arith}
use Rattle.owners.specs.Read.{as_owner}
use Rattle.choosing.proofs.Ways.{refused_unclean, refused_open, refused_group, refused_address, refused_owner, passed}
use Rattle.choosing.proofs.first_tests.Goals as goal
use Rattle.choosing.proofs.first_tests.Goals.{then-is_page_unclean-via-then-is_page_unclean, then-is_page_unclean-via-else-is_page_unclean+then-store}

pub returns-then-is_page_unclean : goal.returns-then-is_page_unclean
returns-then-is_page_unclean c =
    elim c.then-is_page_unclean.branch [
      | then-is_page_unclean-via-then-is_page_unclean w ↦ λ i t h. refused_unclean h (as_owner c.args.owner) c.args.change.now (omega arith)
      | then-is_page_unclean-via-else-is_page_unclean+then-store w ↦ λ i t h.
          refused_open h (as_owner c.args.owner) c.args.change.now (omega arith) w.if-store.true
    ]

pub returns-then-is_wrong : goal.returns-then-is_wrong
returns-then-is_wrong c =
    λ i t h. refused_group h (as_owner c.args.owner) c.args.change.now (omega arith) c.if-store.false (sym c.is_wrong.ensures ∙ c.if-is_wrong.true)

pub returns-then-a_wrong_address : goal.returns-then-a_wrong_address
returns-then-a_wrong_address c =
    λ i t h.
    refused_address h (as_owner c.args.owner) c.args.change.now (omega arith) c.if-store.false (sym c.is_wrong.ensures ∙ c.if-is_wrong.false)
    (sym c.a_wrong_address.ensures ∙ c.if-a_wrong_address.true)

pub returns-then-a_foreign : goal.returns-then-a_foreign
returns-then-a_foreign c =
    λ i t h.
    refused_owner h (as_owner c.args.owner) c.args.change.now (omega arith) c.if-store.false (sym c.is_wrong.ensures ∙ c.if-is_wrong.false)
    (sym c.a_wrong_address.ensures ∙ c.if-a_wrong_address.false) (sym c.a_foreign.ensures ∙ c.if-a_foreign.true)

pub returns : goal.returns
returns c =
    λ i t h.
    passed h (as_owner c.args.owner) c.args.change.now (omega arith) c.if-store.false (sym c.is_wrong.ensures ∙ c.if-is_wrong.false)
    (sym c.a_wrong_address.ensures ∙ c.if-a_wrong_address.false) (sym c.a_foreign.ensures ∙ c.if-a_foreign.false)
