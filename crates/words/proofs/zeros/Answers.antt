use native.Mathlib.Omega.{arith}
use Rattle.words.proofs.Table.{table, by_table, two_looks}
use Rattle.words.proofs.zeros.Goals as goal

pub returns : goal.returns
unfolding by_table table
returns c = let both = two_looks c.args.b (omega arith) in record { value = both.0; upper_bound = both.1 }

pub overflow_add-result : goal.overflow_add-result
unfolding by_table table
overflow_add-result c = omega (arith, (two_looks c.args.b (omega arith)).1)
