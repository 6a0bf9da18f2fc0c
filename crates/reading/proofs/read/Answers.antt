use Rattle.reading.proofs.Readings.{read_none}
use Rattle.reading.proofs.read.Goals as goal

pub returns-in_err-open : goal.returns-in_err-open
returns-in_err-open c = read_none _ _ _ _ c.from_residual.result _ c.from_residual.ensures.1 c.in_err-open.ensures.opens
