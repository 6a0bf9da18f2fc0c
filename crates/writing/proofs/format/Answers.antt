-- Every page is renewed, and then page 0 is opened.
use mathlib.Core.Path.{refl}
use borrow.Author.Rules.{rules}
use Rattle.writing.proofs.Formatting.{opening_ready, formatted, not_formatted}
use Rattle.writing.proofs.format.Goals as goal

pub returns-in_err-n : goal.returns-in_err-n
returns-in_err-n c = search (rules, not_formatted)

pub program_word-requires-clause-allowed : goal.program_word-requires-clause-allowed
program_word-requires-clause-allowed c = opening_ready c.args.form c.renew_all.ensures c.in_ok-n.ensures c.opening_word.ensures 2

pub returns : goal.returns
returns c = formatted c.args.form c.renew_all.ensures c.in_ok-n.ensures refl refl refl c.opening_word.ensures c.program_word.ensures (search rules)
