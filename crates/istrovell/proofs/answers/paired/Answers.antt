use mathlib.Core.Path.{◌≡◌}
use lib.ListN.{length}
use Rattle.std.proofs.Common.{rules}
use Rattle.istrovell.proofs.Digits.{paired_is}
use Rattle.istrovell.proofs.answers.paired.Goals as goal

pub returns : goal.returns
returns c =
    let four : length c.args.code ≡ 4 = search rules in
    rw (
      c.is_some.ensures,
      c.is_some-2.ensures,
      c.is_some-3.ensures,
      c.is_some-4.ensures,
      c.unwrap_or.ensures,
      c.unwrap_or-2.ensures,
      c.unwrap_or-3.ensures,
      c.unwrap_or-4.ensures,
    ) (paired_is c.args.code four)
