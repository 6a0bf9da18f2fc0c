use Prim.Native.Nat.{◌-◌}
use native.Mathlib.Omega.{arith}
use borrow.Author.Rules.{rules}
use Rattle.rules.specs.Page.{size}
use Rattle.rules.specs.Steps.{renew}
use Rattle.rules.proofs.Lengths.{word_length, renew_length}
use Rattle.words.specs.Read.{as_word}
use Rattle.pages.specs.Read.{as_form}
use Rattle.steps.proofs.Doing.{none_left}
use Rattle.steps.proofs.Renewing.{erased_page, renewing_allowed, renewing_done}
use Rattle.steps.proofs.Steps.renew.Goals as goal

pub returns-then-self-eq0 : goal.returns-then-self-eq0
returns-then-self-eq0 c =
    let a = c.args in
    none_left a.self.now (renew a.self.now.form.edition a.page a.wear) c.if-self-eq0.true

pub program_word-requires-clause-allowed : goal.program_word-requires-clause-allowed
program_word-requires-clause-allowed c =
    let a = c.args in
    let s = a.self.now in
    let e = c.erase_at in
    let w = c.wear_word-w in
    let o = c.start in
    let n = c.size in
    let k = size (as_form s.form) in
    let erased = erased_page a.page k s.image.now o.result n.result o.ensures.value n.ensures e.ensures in
    renewing_allowed k s.form.edition a.page a.wear (omega arith) s.image.now e.new.image (as_word w.result) erased w.ensures
    (s.left - 1) c.requires.1

pub returns : goal.returns
returns c =
    let a = c.args in
    let s = a.self.now in
    let e = c.erase_at in
    let w = c.wear_word-w in
    let o = c.start in
    let n = c.size in
    let p = c.program_word in
    let k = size (as_form s.form) in
    let erased = erased_page a.page k s.image.now o.result n.result o.ensures.value n.ensures e.ensures in
    record {
      same_image = p.ensures.same_image;
      same_form = p.ensures.same_form;
      left = omega (arith, p.ensures.left, word_length a.page 0 (as_word w.result), renew_length s.form.edition a.page a.wear);
      image = renewing_done k s.form.edition a.page a.wear (omega arith) s.image.now e.new.image (as_word w.result) erased w.ensures
          s.left p.new.self.image.now (search rules) p.ensures.image;
    }
