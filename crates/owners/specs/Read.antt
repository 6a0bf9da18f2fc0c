-- What the code's owners are in the rules' terms.
use Rattle.rules.specs.Owner.{Owner, handset, timer}
use Rattle.owners.specs.declared.Owner.{Owner as Named}
use Rattle.owners.specs.declared.Owner.TheVariants.{Handset, Timer}

-- the owner that each case names
abbrev pub as_owner : Named → Owner
as_owner Handset = handset
as_owner Timer = timer
