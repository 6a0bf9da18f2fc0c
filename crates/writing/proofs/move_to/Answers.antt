-- The page is filled, and then the others are renewed.
use mathlib.Core.Path.{sym}
use native.Mathlib.Omega.{arith}
use borrow.Author.Rules.{rules}
use Rattle.rules.specs.Steps.{other}
use Rattle.rules.specs.Call.{triples}
use Rattle.pages.specs.Read.{as_form}
use Rattle.steps.specs.Copied.{copied}
use Rattle.steps.proofs.Doing.{pages_kept}
use Rattle.writing.proofs.Moving.{copies_few, moved, move_total}
use Rattle.writing.proofs.move_to.Goals as goal

pub fill-requires-clause-place : goal.fill-requires-clause-place
fill-requires-clause-place c =
    (omega (arith, c.requires.place.0, c.requires.place.1), c.requires.place.3, omega (arith, copies_few c.requires.tabled, c.args.steps.now.form.fits))

pub renew_picked-requires-clause-pages : goal.renew_picked-requires-clause-pages
renew_picked-requires-clause-pages c = pages_kept c.fill.ensures c.args.n (c.requires.place.1, omega (arith, c.requires.place.2))

pub returns : goal.returns
unfolding other
returns c =
    let a = c.args in
    let f = as_form a.steps.now.form in
    let cs = copied a.table.now (triples a.entries.now) in
    let p = c.requires.place in
    let renewed = c.renew_picked.ensures (other a.page) (λ k b l h. search rules) in
    record {
      done = moved a.page a.order a.n cs p.0 p.2 (omega (arith, copies_few c.requires.tabled, a.steps.now.form.fits)) c.fill.ensures renewed;
      many = sym (move_total c.requires.tabled f a.page a.order a.n c.copy_count-copies.result a.steps.now.image.now p.0 c.copy_count-copies.ensures.0);
    }
