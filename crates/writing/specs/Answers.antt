-- The rules' answers, for what the code answers and the image that it leaves.
use Rattle.std.specs.Prelude.{List, ℕ, Result, Ok, Err}
use Rattle.rules.specs.Call.{OK, Formatted, Stepped, refused_format, refused_steps}
use Rattle.survey.specs.declared.refusal.Refusal.{Refusal}
use Rattle.survey.specs.Refusals.{number_of}
use Rattle.writing.specs.declared.Outcome.{Outcome}

abbrev pub as_formatted : Result (Unit {0}) Refusal → List ℕ → Formatted
as_formatted (Ok u) image = record { number = OK; image = image }
as_formatted (Err e) image = refused_format (number_of e) image

abbrev pub as_stepped : Result Outcome Refusal → List ℕ → Stepped
as_stepped (Ok o) image = record { number = OK; steps = o.steps; finished = o.finished; image = image }
as_stepped (Err e) image = refused_steps (number_of e) image
