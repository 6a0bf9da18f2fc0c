-- The number of an image's pages, test by test; and what a call is at a page size, by whether the size is right. Assumes nothing.
use Prim.Native.Nat.{ℕ, ◌/◌, ◌%◌, ◌≤◌, ◌<◌}
use mathlib.Core.Path.{◌≡◌, sym, ap, ◌∙◌, subst}
use mathlib.Core.Bool.{Bool, true, false}
use mathlib.Core.List.{List}
use lib.ListN.{length}
use borrow.Author.Tests.{eq-eqb, ne_eqb, lt-ltb, le-ltb}
use Rattle.std.specs.Prelude.{Result, Ok, Err}
use Rattle.rules.specs.Page.{Form, size, Chip, in_edition}
use Rattle.rules.specs.Call.{form_of, page_count, wrong_size}
use Rattle.rules.proofs.Ready.{right_sizes}
use Rattle.rules.specs.Named.{chip_of, on_chip}
use Rattle.rules.proofs.Named.{on_named, on_wrong}
use Rattle.pages.specs.declared.form.Form.{Form as Numbers}
use Rattle.pages.specs.Read.{as_form}
use Rattle.survey.specs.declared.refusal.Refusal.{Refusal}
use Rattle.survey.specs.States.{Paged, SizedAt}

-- s is the page size, as it was computed
module _ (fm : Form) (i : List ℕ) {s : ℕ} (is : s ≡ size fm) where
  pub not_whole : (length i % s ≡ 0 → ⊥) → wrong_size fm i ≡ true
  unfolding wrong_size
  not_whole h = rw (← is, ne_eqb (length i % s) 0 h)

  pub too_few : length i % s ≡ 0 → length i / s < 2 → wrong_size fm i ≡ true
  unfolding wrong_size page_count
  too_few e h = rw (← is, eq-eqb (length i % s) 0 e, lt-ltb (length i / s) 2 h)

  pub too_many : length i % s ≡ 0 → 2 ≤ length i / s → 32 < length i / s → wrong_size fm i ≡ true
  unfolding wrong_size page_count
  too_many e h l = rw (← is, eq-eqb (length i % s) 0 e, le-ltb (length i / s) 2 h, lt-ltb 32 (length i / s) l)

  pub paged : length i % s ≡ 0 → 2 ≤ length i / s → length i / s ≤ 32 → Paged fm i (length i / s)
  unfolding wrong_size page_count
  paged e h l =
      let w : wrong_size fm i ≡ false = rw (← is, eq-eqb (length i % s) 0 e, le-ltb (length i / s) 2 h, le-ltb 32 (length i / s) l) in
      let n : length i / s ≡ page_count fm i = ap (λ (k : ℕ). length i / k) is in
      record { right = w; count = n; least = h; most = l; whole = rw n (right_sizes fm i w).sized }

-- a size is wrong or right whatever the edition
pub wrong_in_all : (chip : Chip) (e : ℕ) (f : Form) (i : List ℕ) {b : Bool} → f ≡ in_edition chip e → wrong_size f i ≡ b
    → (edition : ℕ) → wrong_size (in_edition chip edition) i ≡ b
unfolding wrong_size page_count
wrong_in_all chip e f i {b} is w edition = rw is at w

-- the form by which an image is read is that of a right size, if any on the chip is
pub form_right : (chip : Chip) (e : ℕ) (f g : Form) (i : List ℕ) → f ≡ in_edition chip e → wrong_size f i ≡ false → g ≡ form_of chip i
    → wrong_size g i ≡ false
unfolding form_of
form_right chip e f g i is w by = rw by (wrong_in_all chip e f i is w _)

-- what a call is then, of any outcome: that of the form, or a refusal
module _ (n : ℕ) (i : List ℕ) {r : Result Numbers Refusal} (h : SizedAt n i r) {A : Type 0} (refused : A) (call : Form → A) {x : A} where
  pub sized_right : {form : Numbers} → r ≡ Ok form → x ≡ call (as_form form) → x ≡ on_chip (chip_of n) refused (λ c. call (form_of c i))
  sized_right is e =
      let on = subst (SizedAt n i) is h in
      e ∙ ap call on.2 ∙ sym (on_named (chip_of n) on.0 on.1 refused (λ c. call (form_of c i)))

  pub sized_wrong : {e : Refusal} → r ≡ Err e → ((f : Form) → wrong_size f i ≡ true → call f ≡ refused) → x ≡ refused
      → x ≡ on_chip (chip_of n) refused (λ c. call (form_of c i))
  unfolding form_of
  sized_wrong is refuses e =
      let none = subst (SizedAt n i) is h in
      e ∙ sym (on_wrong (chip_of n) refused (λ c. call (form_of c i)) (λ c g. refuses (form_of c i) ((none.0 c g).0 _)))
