use mathlib.Core.Path.{◌≡◌, sym, ◌∙◌}
use native.Mathlib.Omega.{arith}
use Rattle.rules.specs.Word.{Word, low16, blank}
use Rattle.rules.proofs.Conditions.{blank_told, sound_told, half_told, other_told}
use Rattle.words.specs.Read.{as_word}
use Rattle.words.proofs.Halves.{blank_by_half}
use Rattle.words.proofs.in_slot.Goals as goal
use Rattle.words.proofs.in_slot.Goals.{After-is_sound, After-is_second_blank}

-- a word with an address
module _ (c : After-is_sound) where
  abbrev word_there : Word
  word_there = as_word c.args.w

  addressed : low16 word_there ≡ 65535 → ⊥
  addressed e = c.if-has_no_address.false (c.low16-has_no_address.ensures ∙ e)

-- and one without: it is blank if its second half is
module _ (c : After-is_second_blank) where
  blank_there : blank (as_word c.args.w) ≡ c.is_second_blank.result
  blank_there =
      let w = c.args.w in
      blank_by_half w.a w.b w.c w.d (omega arith) (omega arith) (sym c.low16-has_no_address.ensures ∙ c.if-has_no_address.true) ∙ sym c.is_second_blank.ensures

pub returns-then-is_second_blank : goal.returns-then-is_second_blank
returns-then-is_second_blank c =
    let a = c.args in
    blank_told a.edition (as_word a.w) (blank_there (goal.at.returns-then-is_second_blank c).After-is_second_blank ∙ c.if-is_second_blank.true)

pub without_address-requires : goal.without_address-requires
without_address-requires c = (
  sym c.low16-has_no_address.ensures ∙ c.if-has_no_address.true,
  blank_there (goal.at.without_address-requires c).After-is_second_blank ∙ c.if-is_second_blank.false,
)

pub returns-then-is_sound : goal.returns-then-is_sound
returns-then-is_sound c =
    let w = c.before in
    sound_told w.args.edition (word_there w) (addressed w) (sym w.is_sound.ensures ∙ c.if-is_sound.true)

pub returns-then-is_second_blank-2 : goal.returns-then-is_second_blank-2
returns-then-is_second_blank-2 c =
    let w = c.before.before.before in
    half_told w.args.edition (word_there w) (addressed w) (sym w.is_sound.ensures ∙ c.if-is_sound.false)
    (sym c.is_second_blank-2.ensures ∙ c.if-is_second_blank-2.true)

pub returns : goal.returns
returns c =
    let w = c.before.before.before in
    other_told w.args.edition (word_there w) (addressed w) (sym w.is_sound.ensures ∙ c.if-is_sound.false)
    (sym c.is_second_blank-2.ensures ∙ c.if-is_second_blank-2.false)
