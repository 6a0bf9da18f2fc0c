-- What a call knows of an image when it has looked at it once.
use Rattle.std.specs.Prelude.{ℕ, ◌≡◌, ◌≤◌, List, length, Result, Ok, Err}
use Rattle.rules.specs.Page.{Form}
use Rattle.rules.specs.Store.{Setting, settings, open_group}
use Rattle.rules.specs.Call.{pages, store_number}
use Rattle.survey.specs.declared.refusal.Refusal.{Refusal}
use Rattle.survey.specs.Refusals.{number_of}
use Rattle.survey.specs.Look.{Told, Rest}
use Rattle.store.specs.declared.Store.{Store}

-- what is known of an image that is not refused: the pages, the settings, which the table has, and whether a group is open
pub record Holding (fm : Form) (i : List ℕ) (r : Store) (t : List Setting) : Type 0 where
  pub accepted : store_number fm i ≡ 0
  pub told : Told fm i r.look
  pub holds : t ≡ settings (pages fm i)
  pub few : length t ≤ 192
  pub grouped : r.group ≡ open_group (pages fm i)

-- that, or the number by which the image is refused
abbrev pub Opens : (fm : Form) (i : List ℕ) → Result Store Refusal → List Setting → Type 0
Opens fm i (Ok r) t = Holding fm i r t
Opens fm i (Err e) t = store_number fm i ≡ number_of e

-- what stands in the places of its look that are not taken
abbrev pub Rests : Result Store Refusal → Type 0
Rests (Ok r) = Rest r.look
Rests (Err e) = Unit {0}

-- a store and a table that were opened from some image, or what refused it
pub record Opened (fm : Form) (r : Result Store Refusal) (t : List Setting) : Type 0 where
  pub image : List ℕ
  pub opens : Opens fm image r t
