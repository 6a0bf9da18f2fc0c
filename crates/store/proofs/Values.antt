-- What a store that was opened from an image tells of the image's settings. Assumes nothing.
use Prim.Native.Nat.{ℕ}
use mathlib.Core.Path.{◌≡◌, ap, ◌∙◌}
use mathlib.Core.List.{List}
use Rattle.rules.specs.Page.{Form}
use Rattle.rules.specs.Store.{Setting, value, last_of}
use Rattle.rules.specs.Call.{pages}
use Rattle.rules.proofs.Held.{value_is}
use Rattle.survey.specs.Look.{pages_number}
use Rattle.store.specs.declared.Store.{Store}
use Rattle.store.specs.Opened.{Holding}
use Rattle.store.proofs.Opening.{pages_accepted}

module _ {fm : Form} {i : List ℕ} {s : Store} {t : List Setting} (h : Holding fm i s t) where
  pub pages_told : pages_number fm i ≡ 0
  pages_told = pages_accepted fm i h.accepted

  -- what the table finds of an address is its value
  pub value_told : (a : ℕ) → last_of a t ≡ value a (pages fm i)
  value_told a = ap (last_of a) h.holds ∙ value_is fm i a
