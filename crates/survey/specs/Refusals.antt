-- The refusals in the rules' terms.
use Rattle.std.specs.Prelude.{ℕ, Result, Ok, Err}
use Rattle.rules.specs.Call.{OK, SIZE, NO_STORE, DAMAGED, UNCLEAN, ADDRESS, NO_ROOM, ORDER_END, NOT_HELD, GROUP, OWNER}
use Rattle.survey.specs.declared.refusal.Refusal.{Refusal}
use Rattle.survey.specs.declared.refusal.Refusal.TheVariants.{Size, NoStore, Damaged, Unclean, Address, NoRoom, OrderEnd, NotHeld, Group, Owner}

-- the number of each
abbrev pub number_of : Refusal → ℕ
number_of Size = SIZE
number_of NoStore = NO_STORE
number_of Damaged = DAMAGED
number_of Unclean = UNCLEAN
number_of Address = ADDRESS
number_of NoRoom = NO_ROOM
number_of OrderEnd = ORDER_END
number_of NotHeld = NOT_HELD
number_of Group = GROUP
number_of Owner = OWNER

-- the answer of what is given or refused
abbrev pub answer_of : {A : Type 0} → Result A Refusal → ℕ
answer_of (Ok a) = OK
answer_of (Err e) = number_of e
