use mathlib.Core.Path.{◌∙◌}
use native.Mathlib.Omega.{arith}
use Rattle.choosing.proofs.Rooms.{handsets, handsets_few, timers}
use Rattle.choosing.proofs.held_by.Goals as goal

pub overflow_sub-result : goal.overflow_sub-result
overflow_sub-result c = omega (arith, handsets_few c.args.table.now)

pub returns-in-Handset : goal.returns-in-Handset
returns-in-Handset c = rw c.in-Handset.is
    (record {
      value = c.below-handsets.ensures.value ∙ handsets c.args.table.now;
      upper_bound = omega (arith, handsets_few c.args.table.now);
    })

pub returns-in-Timer : goal.returns-in-Timer
returns-in-Timer c = rw c.in-Timer.is
    (record {
      value = rw (c.len-held.ensures.value, c.below-handsets.ensures.value) (timers c.args.table.now);
      upper_bound = omega arith;
    })
