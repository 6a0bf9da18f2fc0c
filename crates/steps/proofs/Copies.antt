-- The settings of a table that a move copies, one after the other. Assumes nothing.
use Prim.Native.Nat.{ℕ, ◌+◌, ◌≤◌, ◌<◌}
use mathlib.Core.Path.{◌≡◌, refl, sym, ap, ◌∙◌}
use mathlib.Core.Bool.{true, false}
use mathlib.Core.List.{List, [], ◌∷◌, ◌++◌, map, map-append, append-nil, append_assoc}
use native.Mathlib.Numerals.{add-one}
use lib.ListN.{length, get_or, take, drop, length-map, get_or-map, take-append-drop}
use lib.Seq.{take_all, take-suc}
use lib.Dec.{eqb}
use borrow.Author.Tests.{eq-eqb, ne_eqb, eqb-true, eqb-false}
use Rattle.rules.proofs.Truth.{by_cases, not_both, or_false_left, or_false_right}
use Rattle.rules.specs.Word.{Word, record_word}
use Rattle.rules.specs.Store.{Setting, setting, address_of}
use Rattle.rules.specs.Steps.{but, but_all, move_records, record_of}
use Rattle.rules.specs.Call.{among}
use Rattle.settings.specs.declared.Setting.{Setting as Numbers}
use Rattle.settings.specs.Held.{as_setting}

but_append : (a : ℕ) (xs ys : List Setting) → but a (xs ++ ys) ≡ but a xs ++ but a ys
unfolding but
but_append a [] ys = refl
but_append a (setting b u ∷ xs) ys =
    let rest = but_append a xs ys in
    by_cases (eqb a b) (λ t. rw t rest) (λ t. rw t (ap (λ (zs : List Setting). setting b u ∷ zs) rest))

but_all_append : (rs xs ys : List Setting) → but_all rs (xs ++ ys) ≡ but_all rs xs ++ but_all rs ys
unfolding but_all
but_all_append [] xs ys = refl
but_all_append (setting a v ∷ rs) xs ys = ap (but_all rs) (but_append a xs ys) ∙ but_all_append rs (but a xs) (but a ys)

-- one setting is left out if its address is written, and else kept
but_all_none : (rs : List Setting) → but_all rs [] ≡ []
unfolding but_all but
but_all_none [] = refl
but_all_none (setting a v ∷ rs) = but_all_none rs

one_kept : (rs : List Setting) (b u : ℕ) → among b (map address_of rs) ≡ false → but_all rs (setting b u ∷ []) ≡ setting b u ∷ []
unfolding but_all but among
one_kept [] b u h = refl
one_kept (setting a v ∷ rs) b u h =
    let ne = eqb-false b a (or_false_left (eqb b a) _ h) in
    rw (ne_eqb a b (λ e. ne (sym e))) (one_kept rs b u (or_false_right (eqb b a) _ h))

one_left_out : (rs : List Setting) (b u : ℕ) → among b (map address_of rs) ≡ true → but_all rs (setting b u ∷ []) ≡ []
unfolding but_all but among
one_left_out [] b u h = not_both h refl
one_left_out (setting a v ∷ rs) b u h =
    by_cases (eqb b a)
    (λ t. rw (eq-eqb a b (sym (eqb-true b a t))) (but_all_none rs))
    (λ t. rw (ne_eqb a b (λ e. eqb-false b a t (sym e))) (one_left_out rs b u (rw t at h)))

module _ (table rs : List Setting) where
  -- the words of the first j settings of the table that are copied
  abbrev pub kept : ℕ → List Word
  kept j = map record_of (but_all rs (take j table))

  -- the setting at j
  module _ (j a v : ℕ) (here : take (j + 1) table ≡ take j table ++ (setting a v ∷ [])) where
    next_kept : kept (j + 1) ≡ kept j ++ map record_of (but_all rs (setting a v ∷ []))
    next_kept =
        ap (λ (zs : List Setting). map record_of (but_all rs zs)) here ∙ ap (map record_of) (but_all_append rs (take j table) (setting a v ∷ []))
        ∙ map-append record_of (but_all rs (take j table)) (but_all rs (setting a v ∷ []))

    pub is_kept : among a (map address_of rs) ≡ false → kept (j + 1) ≡ kept j ++ record_word a v ∷ []
    is_kept h = next_kept ∙ ap (λ (zs : List Setting). kept j ++ map record_of zs) (one_kept rs a v h)

    pub is_left_out : among a (map address_of rs) ≡ true → kept (j + 1) ≡ kept j
    is_left_out h = next_kept ∙ ap (λ (zs : List Setting). kept j ++ map record_of zs) (one_left_out rs a v h) ∙ append-nil (kept j)

  -- what is copied begins with what the first j settings keep, and ends with the new records
  pub copied_from : (j : ℕ) → (more : List Word) × (map record_of (move_records rs table) ≡ kept j ++ more)
  copied_from j =
      let rest = drop j table in (
        map record_of (but_all rs rest) ++ map record_of rs,
        ap (λ (zs : List Setting). map record_of (but_all rs zs ++ rs)) (sym (take-append-drop j table))
            ∙ ap (λ (zs : List Setting). map record_of (zs ++ rs)) (but_all_append rs (take j table) rest)
            ∙ map-append record_of (but_all rs (take j table) ++ but_all rs rest) rs
            ∙ ap (λ (ws : List Word). ws ++ map record_of rs) (map-append record_of (but_all rs (take j table)) (but_all rs rest))
            ∙ append_assoc (kept j) (map record_of (but_all rs rest)) (map record_of rs),
      )

  pub copied_all : (j : ℕ) → length table ≤ j → map record_of (move_records rs table) ≡ kept j ++ map record_of rs
  copied_all j h =
      ap (λ (zs : List Setting). map record_of (but_all rs zs ++ rs)) (sym (take_all j table h)) ∙ map-append record_of (but_all rs (take j table)) rs

  pub kept_none : kept 0 ≡ []
  kept_none = ap (map record_of) (but_all_none rs)

-- the setting at a place of the table, which the code has as its own
pub setting_here : (items : List Numbers) {table : List Setting} → map as_setting items ≡ table → (j : ℕ) (none : Numbers) → j < length items
    → take (j + 1) table ≡ take j table ++ (as_setting (get_or items j none) ∷ [])
setting_here items {table} e j none l =
    rw (← e, add-one)
    (take-suc (map as_setting items) j (as_setting none) (rw length-map l)
    ∙ ap (λ (s : Setting). take j (map as_setting items) ++ s ∷ []) (get_or-map as_setting items j none))
