use mathlib.Core.Path.{sym, ◌∙◌}
use Rattle.rules.specs.Word.{third}
use Rattle.words.specs.Read.{as_word}
use Rattle.pages.proofs.Header.{itself_unsound, itself_plain, itself_done, itself_unopened}
use Rattle.pages.proofs.is_open_itself.Goals as goal

pub returns-then-is_opening : goal.returns-then-is_opening
unfolding third
returns-then-is_opening c =
    c.if-is_opening.true
    ∙ itself_plain c.args.page.now c.requires.0 (as_word c.args.wear) c.requires.1 (sym c.is_sound.ensures ∙ c.if-is_sound.true)
    c.word_at-opening.ensures (sym c.is_opening.ensures ∙ c.if-is_opening.true)

pub returns-then-is_opening-2 : goal.returns-then-is_opening-2
unfolding third
returns-then-is_opening-2 c =
    c.is_done.ensures
    ∙ itself_done c.args.page.now c.requires.0 (as_word c.args.wear) c.requires.1 (sym c.is_sound.ensures ∙ c.if-is_sound.true)
    c.word_at-opening.ensures (sym c.is_opening.ensures ∙ c.if-is_opening.false)
    (sym c.is_opening-else-is_opening.ensures ∙ c.if-is_opening-2.true) _ c.order_in.ensures.value _ c.word_at.ensures

pub returns-else-is_opening-2 : goal.returns-else-is_opening-2
unfolding third
returns-else-is_opening-2 c =
    c.if-is_opening-2.false
    ∙ itself_unopened c.args.page.now c.requires.0 (as_word c.args.wear) c.requires.1 (sym c.is_sound.ensures ∙ c.if-is_sound.true)
    c.word_at-opening.ensures (sym c.is_opening.ensures ∙ c.if-is_opening.false)
    (sym c.is_opening-else-is_opening.ensures ∙ c.if-is_opening-2.false)

pub returns-else-is_sound : goal.returns-else-is_sound
unfolding third
returns-else-is_sound c =
    c.if-is_sound.false
    ∙ itself_unsound c.args.page.now c.requires.0 (as_word c.args.wear) c.requires.1 (sym c.is_sound.ensures ∙ c.if-is_sound.false)
