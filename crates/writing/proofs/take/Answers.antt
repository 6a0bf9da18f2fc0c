use Rattle.writing.proofs.Outcomes.{outcome}
use Rattle.writing.proofs.take.Goals as goal

pub returns : goal.returns
returns c =
    let d = c.follow-total.ensures in
    record { same_image = d.done.same_image; does = outcome d c.of.ensures }
