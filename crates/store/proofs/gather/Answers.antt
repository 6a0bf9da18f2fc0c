use Prim.Native.Nat.{ℕ, ◌+◌, ◌<◌}
use mathlib.Core.Path.{◌≡◌, ap, ◌∙◌, subst}
use mathlib.Core.Logic.{inl, inr}
use mathlib.Core.List.{List, []}
use native.Mathlib.Omega.{arith}
use lib.ListN.{length, get_or, take}
use Rattle.std.proofs.lemmas.Result.{err_from_is_err_and}
use Rattle.rules.specs.Word.{Word}
use Rattle.rules.specs.Page.{Form}
use Rattle.rules.specs.Store.{Setting, each, records, put_all, in_group}
use Rattle.pages.specs.Read.{as_form}
use Rattle.survey.specs.States.{slots_in}
use Rattle.survey.specs.Look.{line_of}
use Rattle.settings.proofs.Slots.{many_more, puts_all, puts_too_many}
use Rattle.store.specs.Gather.{gathered, standing, Ends}
use Rattle.store.proofs.Gathering.{Passed, all_passed, all_ends, gather_more, gathered_rest, line_long}
use Rattle.store.proofs.gather.Goals as goal
use Rattle.store.proofs.gather.Goals.{After-put_page-passed, then-is_active, else-is_active}

pub loop-k-init : goal.loop-k-init
unfolding gathered each put_all Ends
loop-k-init c = record { puts = c.requires.empty; ends = λ j e. absurd (omega arith) }

-- with the records of one page more
module _ (c : After-put_page-passed) where
  abbrev form : Form
  form = as_form c.args.form

  abbrev image : List ℕ
  image = c.args.image.now

  abbrev line : List ℕ
  line = line_of c.args.look.now

  abbrev k : ℕ
  k = c.loop-k.k

  few : k < length line
  few = omega (arith, line_long c.args.look.now c.requires.long)

  -- so many slots are passed
  passed : Passed form (length line) c.args.look.now.free k c.if-is_active.n
  passed = elim c.if-is_active.branch [ then-is_active w ↦ inl (omega arith, w.n-is) | else-is_active w ↦ inr w.n-is ]

  abbrev recorded : ℕ → List Setting
  recorded p = records form.edition (take c.if-is_active.n (slots_in form p image))

  put_in : put_all c.loop-k.table (recorded (get_or line k 0)) ≡ put_all [] (gathered form image (take (k + 1) line))
  put_in =
      ap (put_all c.loop-k.table) (all_passed c.requires.passes k c.if-is_active.n few passed)
      ∙ ap (λ t. put_all t (records form.edition (slots_in form (get_or line k 0) image))) c.loop-k.invariant.puts
      ∙ gather_more form image line k few

pub returns-in_err-passed-clause-value : goal.returns-in_err-passed-clause-value
returns-in_err-passed-clause-value c =
    let b = (goal.at.returns-in_err-passed-clause-value c).After-put_page-passed in
    let e = err_from_is_err_and c.from_residual.result c.from_residual.ensures.1 in
    let rest = gathered_rest (form b) (image b) (line b) (k b + 1) in
    let many = puts_too_many _ _ _ _ c.in_err-passed.was b.put_page-passed.ensures.value in
    rw (e.1, rest.1) (many_more [] _ rest.0 (omega (arith, ap length (put_in b), many)))

pub loop-k-preserved : goal.loop-k-preserved
unfolding Ends
loop-k-preserved c =
    let b = (goal.at.loop-k-preserved c).After-put_page-passed in
    let ends = b.put_page-passed.ensures.group
    ∙ all_ends c.requires.passes (k b) b.if-is_active.n (few b) (passed b) in
    record {
      puts = puts_all _ _ _ _ c.in_ok-passed.was b.put_page-passed.ensures.value ∙ put_in b;
      ends = λ j e.
          let same : k b ≡ j = omega arith in
          let slots : ℕ → List Word = λ x. slots_in (form b) (get_or (line b) x 0) (image b) in
          subst (λ (x : ℕ). b.put_page-passed.result.group ≡ in_group (standing (form b).edition (slots x))) same ends;
    }
