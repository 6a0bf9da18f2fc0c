-- Page k of the line, behind those that are passed.
use Prim.Native.Nat.{ℕ}
use mathlib.Core.Path.{◌≡◌, subst}
use native.Mathlib.Omega.{arith}
use lib.ListN.{length}
use Rattle.std.proofs.Common.{rules}
use Rattle.rules.specs.Store.{each, count}
use Rattle.pages.specs.Read.{as_form}
use Rattle.survey.specs.Look.{line_of}
use Rattle.survey.proofs.Looking.{told_few}
use Rattle.broken.specs.Counts.{Counts}
use Rattle.broken.proofs.Counting.{first_conditions, line_counts, page_inside, page_few, page_more}
use Rattle.broken.proofs.count.Goals as goal

-- so that no number of pages is out of the line's places
pub shared_ref_as_front-page-items : goal.shared_ref_as_front-page-items
shared_ref_as_front-page-items c = omega (arith, told_few c.requires.0 c.requires.1)

pub loop-page-init : goal.loop-page-init
unfolding count each
loop-page-init c =
    let none = c.default-broken.ensures in
    (omega (arith, none.0, none.1), record { half = none.0; spoiled = none.1 })

pub of_page-requires : goal.of_page-requires
of_page-requires c = page_inside c.requires.0 c.requires.1 (search rules) c.loop-page.page-index (omega arith)

pub add_assign-requires : goal.add_assign-requires
add_assign-requires c =
    let here = page_few c.requires.0 c.requires.1 (search rules) c.loop-page.page-index (omega arith) c.of_page.ensures in
    let so_far = c.loop-page.invariant.0 in
    let most = c.args.form.fits.1 in
    (omega arith, omega arith)

pub loop-page-preserved : goal.loop-page-preserved
loop-page-preserved c =
    let here = page_few c.requires.0 c.requires.1 (search rules) c.loop-page.page-index (omega arith) c.of_page.ensures in
    let sum = c.add_assign.ensures.after in (
      omega (arith, here.0, here.1, c.args.form.fits.1, c.loop-page.invariant.0, sum.0, sum.1),
      page_more c.requires.0 c.requires.1 (search rules) c.loop-page.page-index (omega arith) c.of_page.ensures c.loop-page.invariant.1 sum,
    )

pub returns-clause-counts : goal.returns-clause-counts
returns-clause-counts c =
    let l = c.loop-page in
    let line = line_of c.args.look.now in
    let fm = as_form c.args.form in
    let image = c.args.image.now in
    let done : l.page-index ≡ length line = grind arith in
    line_counts fm image line c.requires.1.line (subst (λ (n : ℕ). Counts (first_conditions fm image line n) l.broken) done l.invariant.1)
