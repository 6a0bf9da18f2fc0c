-- The lines of the settings, one after the other. Assumes nothing.
use Prim.Native.Nat.{ℕ, ◌+◌, ◌<◌}
use mathlib.Core.Path.{◌≡◌, refl, sym, ap, ◌∙◌}
use mathlib.Core.List.{List, [], ◌∷◌, ◌++◌, map, map-append, append-nil}
use native.Mathlib.Numerals.{add-one}
use lib.ListN.{length, get_or, take}
use lib.Seq.{take-suc}
use Rattle.std.proofs.Common.{append_assoc}
use Rattle.rules.specs.Store.{each}
use Rattle.rules.specs.Listing.{setting_line, setting_lines}
use Rattle.rules.proofs.Stores.{each_append}
use Rattle.settings.specs.declared.Setting.{Setting}
use Rattle.settings.specs.Held.{as_setting}

pub no_line : (text : List ℕ) → text ≡ text ++ setting_lines []
unfolding setting_lines each
no_line text = sym (append-nil text)

module _ (text : List ℕ) (settings : List Setting) where
  -- a text with the lines of the first k behind it
  abbrev pub with_lines : ℕ → List ℕ
  with_lines k = text ++ setting_lines (map as_setting (take k settings))

  -- the line of the next one
  pub next_line : (k : ℕ) (d : Setting) → k < length settings → with_lines (k + 1) ≡ with_lines k ++ setting_line (as_setting (get_or settings k d))
  unfolding setting_lines each
  next_line k d l =
      let one = get_or settings k d in
      let lines = setting_lines (map as_setting (take k settings)) in
      let split : take (k + 1) settings ≡ take k settings ++ one ∷ [] = rw (add-one, take-suc settings k d l) refl in
      ap (λ xs. text ++ setting_lines (map as_setting xs)) split
      ∙ ap (λ rs. text ++ setting_lines rs) (map-append as_setting (take k settings) (one ∷ []))
      ∙ ap (λ line. text ++ line) (each_append setting_line (map as_setting (take k settings)) (as_setting one ∷ []))
      ∙ ap (λ line. text ++ (lines ++ line)) (append-nil (setting_line (as_setting one)))
      ∙ sym (append_assoc text lines (setting_line (as_setting one)))
