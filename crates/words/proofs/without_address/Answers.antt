use Prim.Native.Nat.{◌+◌, ◌*◌}
use mathlib.Core.Path.{◌≡◌, sym, ◌∙◌}
use native.Mathlib.Omega.{arith}
use borrow.Author.Tests.{lt-leb, le-leb}
use Rattle.rules.specs.Word.{low16, third, has_groups}
use Rattle.rules.proofs.Conditions.{mark_told, unmarked_told, spoiled_told}
use Rattle.words.specs.Read.{as_word}
use Rattle.words.proofs.without_address.Goals as goal
use Rattle.words.proofs.without_address.Goals.{Start}

-- both bytes of the address are 255
module _ (c : Start) where
  sum : c.args.w.a + 256 * c.args.w.b ≡ 65535
  unfolding low16
  sum = c.requires.0

  low : c.args.w.a ≡ 255
  low = omega (arith, sum)

  high : c.args.w.b ≡ 255
  high = omega (arith, sum)

pub returns-then-has_no_groups : goal.returns-then-has_no_groups
unfolding has_groups
returns-then-has_no_groups c =
    let s = c.before in
    let w = s.args.w in
    let none = lt-leb 2 s.args.edition (omega arith) in
    rw (low s, high s) (unmarked_told s.args.edition none w.c w.d (rw (low s, high s) at s.requires.1))

pub returns-then-is_sound : goal.returns-then-is_sound
unfolding has_groups third
returns-then-is_sound c =
    let f = c.before in
    let s = f.before.before.before in
    let w = as_word s.args.w in
    let some = le-leb 2 s.args.edition (omega arith) in
    c.mark.ensures w ∙ (rw some at (mark_told s.args.edition w s.requires.0 (sym f.is_sound.ensures ∙ f.if-is_sound.true)))

pub returns : goal.returns
returns c =
    let s = c.before.before.before in
    let w = s.args.w in
    let unsound = sym c.is_sound.ensures ∙ c.if-is_sound.false in
    rw (low s, high s) (spoiled_told s.args.edition w.c w.d (rw (low s, high s) at s.requires.1) (rw (low s, high s) at unsound))
