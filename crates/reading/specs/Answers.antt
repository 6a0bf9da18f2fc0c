-- The rules' answers, for the results of the code.
use Rattle.std.specs.Prelude.{ℕ, List, map, Option, Result, Ok, Err}
use Rattle.rules.specs.Call.{Reading, Pairing, refused_reading, refused_lookup, pairing, OK}
use Rattle.survey.specs.declared.refusal.Refusal.{Refusal}
use Rattle.survey.specs.Refusals.{number_of}
use Rattle.settings.specs.Held.{as_option}

-- the value that is read, or the refusal
abbrev pub as_reading : Result ℕ Refusal → Reading
as_reading (Ok v) = record { number = OK; value = v }
as_reading (Err e) = refused_reading (number_of e)

-- the digits that are looked up, or the refusal
abbrev pub as_pairing : Result (List (Option ℕ)) Refusal → Pairing
as_pairing (Ok code) = pairing (map as_option code)
as_pairing (Err e) = refused_lookup (number_of e)
