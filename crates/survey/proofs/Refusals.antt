-- No refusal has the number of an answer that is none.
use mathlib.Core.Path.{◌≡◌}
use native.Mathlib.Omega.{arith}
use Rattle.survey.specs.declared.refusal.Refusal.{Refusal}
use Rattle.survey.specs.declared.refusal.Refusal.TheVariants.{Size, NoStore, Damaged, Unclean, Address, NoRoom, OrderEnd, NotHeld, Group, Owner}
use Rattle.survey.specs.Refusals.{number_of}

pub is_refusal : (e : Refusal) → number_of e ≡ 0 → ⊥
is_refusal Size h = omega arith
is_refusal NoStore h = omega arith
is_refusal Damaged h = omega arith
is_refusal Unclean h = omega arith
is_refusal Address h = omega arith
is_refusal NoRoom h = omega arith
is_refusal OrderEnd h = omega arith
is_refusal NotHeld h = omega arith
is_refusal Group h = omega arith
is_refusal Owner h = omega arith
