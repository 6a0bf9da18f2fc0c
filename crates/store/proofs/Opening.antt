-- From the look at the pages and the settings to the answer. Assumes nothing.
use Prim.Native.Nat.{ℕ, ◌≤◌, ◌<◌}
use mathlib.Core.Path.{◌≡◌, refl, sym, ◌∙◌}
use mathlib.Core.Bool.{Bool, true, false, cond, ◌||◌}
use mathlib.Core.List.{List}
use lib.Dec.{eqb, ltb}
use borrow.Author.Tests.{eqb-true, eqb-false, lt-ltb, le-ltb}
use Rattle.rules.specs.Page.{Form}
use Rattle.rules.specs.Store.{states, base, used_orders, held}
use Rattle.rules.specs.Call.{first_of, store_rows, pages, wrong_size, no_store, repeats, all_used, damaged, store_number, held_limit, OK, SIZE}
use Rattle.rules.specs.Call.{NO_STORE, DAMAGED}
use Rattle.rules.proofs.Truth.{by_cases}
use Rattle.rules.proofs.Rows.{then}
use Rattle.rules.proofs.Answers.{then_refused, then_ok}
use Rattle.survey.specs.Look.{pages_rows, pages_number}

-- the last part of DAMAGED is tested behind the others
held_last : (w s x y z : Bool)
    → then (cond w SIZE (cond s NO_STORE (cond (x || y) DAMAGED OK))) (cond z DAMAGED OK) ≡ cond w SIZE (cond s NO_STORE (cond (x || (y || z)) DAMAGED OK))
unfolding then
held_last true s x y z = refl
held_last false true x y z = refl
held_last false false true y z = refl
held_last false false false true z = refl
held_last false false false false z = refl

module _ (fm : Form) (i : List ℕ) where
  abbrev pub too_many : Bool
  too_many = ltb held_limit (held (pages fm i))

  pages_then_held : then (pages_number fm i) (cond too_many DAMAGED OK) ≡ store_number fm i
  unfolding pages_number pages_rows store_number store_rows first_of damaged
  pages_then_held =
      let ss = states (pages fm i) in
      held_last (wrong_size fm i) (no_store (pages fm i)) (repeats (used_orders (base ss) ss)) (all_used ss) too_many

  -- an image is refused by its pages, or by how many addresses are held, or not
  pub refused_by_pages : (number : ℕ) → pages_number fm i ≡ number → (number ≡ 0 → ⊥) → store_number fm i ≡ number
  refused_by_pages number e ne =
      sym pages_then_held ∙ then_refused (pages_number fm i) (cond too_many DAMAGED OK) (λ z. ne (sym e ∙ z)) ∙ e

  pub told_by_held : pages_number fm i ≡ 0 → store_number fm i ≡ cond too_many DAMAGED OK
  told_by_held ok = sym pages_then_held ∙ then_ok (pages_number fm i) (cond too_many DAMAGED OK) ok

  pub refused_by_held : pages_number fm i ≡ 0 → 192 < held (pages fm i) → store_number fm i ≡ DAMAGED
  refused_by_held ok many = rw (told_by_held ok, lt-ltb held_limit (held (pages fm i)) many)

  pub accepted_by_held : pages_number fm i ≡ 0 → held (pages fm i) ≤ 192 → store_number fm i ≡ 0
  accepted_by_held ok few = rw (told_by_held ok, le-ltb held_limit (held (pages fm i)) few)

  -- a store that is accepted has pages that are
  pub pages_accepted : store_number fm i ≡ 0 → pages_number fm i ≡ 0
  pages_accepted ok =
      by_cases (eqb (pages_number fm i) 0) (λ z. eqb-true (pages_number fm i) 0 z)
      (λ z. sym (refused_by_pages (pages_number fm i) refl (eqb-false (pages_number fm i) 0 z)) ∙ ok)
