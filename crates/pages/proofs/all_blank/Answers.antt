use borrow.Author.Tests.{tests}
use mathlib.Core.Path.{ap, ◌∙◌}
use Rattle.std.proofs.Common.{rules}
use Rattle.std.proofs.lemmas.Iterator.{YieldsList-from_slice}
use Rattle.std.proofs.lemmas.Iterator.Search.{all_from_yields_List}
use Rattle.rules.specs.Word.{blank}
use Rattle.rules.specs.Page.{all_blank}
use Rattle.words.specs.Read.{word_in}
use Rattle.pages.proofs.Scan.{all_blank_is}
use Rattle.pages.proofs.all_blank.Goals as goal

pub returns : goal.returns
returns c =
    all_from_yields_List (λ b. blank (word_in b 0)) _ _ _ c.all.ensures.ran (YieldsList-from_slice c.fours.result.now cc) (λ x b q k. search (rules, tests))
    ∙ all_blank_is _ ∙ ap all_blank c.fours.ensures.value
