use mathlib.Core.Path.{refl}
use native.Mathlib.Omega.{arith}
use borrow.Author.Rules.{rules}
use Rattle.rules.specs.Page.{size}
use Rattle.words.specs.Read.{as_word}
use Rattle.rules.specs.Word.{word_steps}
use Rattle.rules.proofs.Lengths.{word_length}
use Rattle.pages.specs.Read.{as_form}
use Rattle.steps.proofs.Doing.{none_left}
use Rattle.steps.proofs.Halves.{first_allowed, one_done, second_allowed, both_done}
use Rattle.steps.proofs.Steps.program_word.Goals as goal

pub returns-then-self-eq0 : goal.returns-then-self-eq0
returns-then-self-eq0 c =
    let a = c.args in
    none_left a.self.now (word_steps a.page a.place (as_word a.w)) c.if-self-eq0.true

pub program_at-requires : goal.program_at-requires
program_at-requires c =
    let a = c.args in
    let s = a.self.now in
    first_allowed (size (as_form s.form)) a.page a.place c.start.result c.start.ensures.value
    a.w.a a.w.b a.w.c a.w.d s.image.now s.left (search rules) c.requires.allowed

pub returns-then-is_last : goal.returns-then-is_last
returns-then-is_last c =
    let a = c.args in
    let s = a.self.now in
    let o = c.start in
    let p = c.program_at in
    record {
      same_image = refl;
      same_form = refl;
      left = omega (arith, word_length a.page a.place (as_word a.w));
      image = one_done (size (as_form s.form)) a.page a.place o.result o.ensures.value a.w.a a.w.b a.w.c a.w.d
          s.image.now s.left p.new.image c.if-is_last.true p.ensures;
    }

pub program_at-requires-2 : goal.program_at-requires-2
program_at-requires-2 c =
    let a = c.args in
    let s = a.self.now in
    let o = c.start in
    let p = c.program_at in
    second_allowed (size (as_form s.form)) a.page a.place o.result o.ensures.value a.w.a a.w.b a.w.c a.w.d
    s.image.now s.left p.new.image (search rules) (search rules) c.requires.allowed p.ensures

pub returns : goal.returns
returns c =
    let a = c.args in
    let s = a.self.now in
    let o = c.start in
    let p = c.program_at in
    let q = c.program_at-2 in
    record {
      same_image = refl;
      same_form = refl;
      left = omega (arith, word_length a.page a.place (as_word a.w));
      image = both_done (size (as_form s.form)) a.page a.place o.result o.ensures.value a.w.a a.w.b a.w.c a.w.d
          s.image.now s.left p.new.image q.new.image (search rules) (search rules) p.ensures q.ensures;
    }
