-- The rules' answers, for the structs that C has.
use Rattle.std.specs.Prelude.{ℕ, List, [], ◌∷◌}
use Rattle.rules.specs.Call.{Reading, Pairing, Stepped}
use Rattle.istrovell.specs.declared.answers.Reading.{Reading as Read}
use Rattle.istrovell.specs.declared.answers.Pairing.{Pairing as Pair}
use Rattle.istrovell.specs.declared.answers.Stepped.{Stepped as Step}

abbrev pub as_reading : Read → Reading
as_reading r = record { number = r.number; value = r.value }

abbrev pub as_pairing : Pair → Pairing
as_pairing r =
    record { number = r.number; paired = r.paired; digits = r.digit0 ∷ r.digit1 ∷ r.digit2 ∷ r.digit3 ∷ [] }

abbrev pub as_stepped : Step → List ℕ → Stepped
as_stepped r image = record { number = r.number; steps = r.steps; finished = r.finished; image = image }
