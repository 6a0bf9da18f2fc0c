use mathlib.Core.Path.{sym, ap, ◌∙◌}
use Rattle.pages.specs.Read.{as_option}
use Rattle.pages.proofs.Header.{option_then, wear_is}
use Rattle.pages.proofs.wear_of.Goals as goal

pub returns : goal.returns
returns c =
    ap as_option c.then_some.ensures
    ∙ option_then c.is_wear.result c.low16.result
    ∙ rw (c.is_wear.ensures, c.low16.ensures) (sym (wear_is c.args.edition c.args.page.now c.requires c.word_at-w.ensures))
