use mathlib.Core.Path.{sym, ◌∙◌}
use Rattle.rules.specs.Word.{third}
use Rattle.words.specs.Read.{as_word}
use Rattle.pages.specs.Read.{as_chip}
use Rattle.pages.proofs.Header.{first_word, own_other, own_open, own_closed}
use Rattle.pages.proofs.own_edition.Goals as goal

pub returns-then-not-has_edition : goal.returns-then-not-has_edition
unfolding third
returns-then-not-has_edition c =
    own_other (as_chip c.args.chip) c.args.page.now c.requires (as_word c.word_at-wear.result) c.word_at-wear.ensures
    (sym c.has_edition.ensures ∙ c.if-not-has_edition.true)

pub is_open_itself-requires : goal.is_open_itself-requires
is_open_itself-requires c =
    (c.requires, first_word (as_chip c.args.chip) c.args.page.now c.requires (as_word c.word_at-wear.result) c.word_at-wear.ensures)

pub returns-then-is_open_itself : goal.returns-then-is_open_itself
unfolding third
returns-then-is_open_itself c =
    own_open (as_chip c.args.chip) c.args.page.now c.requires (as_word c.word_at-wear.result) c.word_at-wear.ensures
    (sym c.has_edition.ensures ∙ c.if-not-has_edition.false) (sym c.is_open_itself.ensures ∙ c.if-is_open_itself.true)

pub returns : goal.returns
unfolding third
returns c =
    own_closed (as_chip c.args.chip) c.args.page.now c.requires (as_word c.word_at-wear.result) c.word_at-wear.ensures
    (sym c.has_edition.ensures ∙ c.if-not-has_edition.false) (sym c.is_open_itself.ensures ∙ c.if-is_open_itself.false)
