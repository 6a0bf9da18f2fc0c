-- The edition by which an image is read: a store that is in one edition is read by it. Assumes nothing.
use Prim.Native.Nat.{ℕ, ◌+◌, ◌/◌, ◌≤◌}
use mathlib.Core.Path.{◌≡◌, refl, ap}
use mathlib.Core.Bool.{true, false, not}
use mathlib.Core.List.{List, [], ◌∷◌}
use native.Mathlib.Omega.{arith}
use lib.ListN.{length}
use lib.Dec.{eqb}
use borrow.Author.Tests.{eqb-true, eqb-false, le-leb, not-false}
use Rattle.rules.specs.Word.{Word, sound, third}
use Rattle.rules.specs.Page.{Form, size, Chip, in_edition, wear_part, is_wear, state, page}
use Rattle.rules.specs.Store.{states, base, used, is_open, is_cleared, count}
use Rattle.rules.specs.Steps.{unclean}
use Rattle.rules.specs.Call.{has_edition, own_edition, opens_itself, edition_of, form_of, cut, page_count, pages, no_store, is_unclean}
use Rattle.rules.proofs.Truth.{is_false, by_cases, not_both, and_left, and_right, and_both, or_false_left}
use Rattle.rules.proofs.Pages.{OfEdition, AllOfEdition, open_has, no_wear}
use Rattle.rules.proofs.Phases.{Pages}
use Rattle.rules.proofs.Told.{told}

-- ---- an open page is of the edition by which it is open

pub open_edition : (e : ℕ) (P : List Word) → is_open (state e P) ≡ true → (sound (wear_part P) ≡ true) × (third (wear_part P) ≡ e)
unfolding is_wear
open_edition e P h =
    let w = (open_has e P h).wear in
    (and_left (sound (wear_part P)) _ w, eqb-true (third (wear_part P)) e (and_right (sound (wear_part P)) _ w))

-- ---- where no page is of another edition, and one is open

module _ (chip : Chip) where
  itself_edition : (P : List Word) → opens_itself chip P ≡ true → sound (wear_part P) ≡ true
  unfolding opens_itself
  itself_edition P t = (open_edition (own_edition P) P (and_right (has_edition chip (own_edition P)) _ t)).0

  module _ (e : ℕ) (has : has_edition chip e ≡ true) where
    opens_in : (P : List Word) → is_open (state e P) ≡ true → opens_itself chip P ≡ true
    unfolding opens_itself own_edition
    opens_in P h = let is = (open_edition e P h).1 in rw is (and_both has h)

    edition_is : (F : Pages) → AllOfEdition e F → (count is_open (states (told e F)) ≡ 0 → ⊥) → edition_of chip F ≡ e
    unfolding AllOfEdition edition_of own_edition count states page
    edition_is [] all some = absurd (some refl)
    edition_is (P ∷ F) all some =
        by_cases (opens_itself chip P) (λ t. rw t (all.0 (itself_edition P t)))
        (λ t.
        let closed : is_open (state e P) ≡ false = is_false (is_open (state e P)) (λ o. not_both (opens_in P o) t) in
        rw t (edition_is F all.1 (λ z. some (rw closed (omega arith)))))

    pub form_is : (i : List ℕ) → AllOfEdition e (cut (size (in_edition chip e)) (page_count (in_edition chip e) i) i)
        → no_store (pages (in_edition chip e) i) ≡ false → form_of chip i ≡ in_edition chip e
    unfolding form_of page_count pages no_store
    form_is i all some =
        let fm = in_edition chip e in
        ap (in_edition chip)
        (edition_is (cut (size fm) (length i / size fm) i) all (eqb-false (count is_open (states (told e (cut (size fm) (length i / size fm) i)))) 0 some))

-- ---- what is read by an edition is of it, unless it is unclean

clean_edition : (e b : ℕ) (P : List Word) → unclean b (state e P) ≡ false → OfEdition e P
unfolding unclean used is_cleared is_wear
clean_edition e b P h s =
    by_cases (is_wear e (wear_part P)) (λ w. eqb-true (third (wear_part P)) e (and_right (sound (wear_part P)) _ w))
    (λ w. not_both (rw (no_wear e P w)) h)

clean_editions : (e b : ℕ) (F : Pages) → count (unclean b) (states (told e F)) ≡ 0 → AllOfEdition e F
unfolding AllOfEdition count states page
clean_editions e b [] h = tt
clean_editions e b (P ∷ F) h =
    by_cases (unclean b (state e P)) (λ u. let z : 1 + count (unclean b) (states (told e F)) ≡ 0 = rw u at h in absurd (omega arith))
    (λ u. let z : 0 + count (unclean b) (states (told e F)) ≡ 0 = rw u at h in (clean_edition e b P u, clean_editions e b F (omega arith)))

pub accepted_editions : (fm : Form) (i : List ℕ) → is_unclean (pages fm i) ≡ false → AllOfEdition fm.edition (cut (size fm) (page_count fm i) i)
unfolding is_unclean pages
accepted_editions fm i clean =
    let F = cut (size fm) (page_count fm i) i in
    let b = base (states (told fm.edition F)) in
    clean_editions fm.edition b F
    (eqb-true _ 0 (not-false _ (or_false_left (not (eqb (count (unclean b) (states (told fm.edition F))) 0)) _ clean)))

-- ---- the edition of an accepted image is one that the chip has

pub edition_had : (chip : Chip) → chip.first ≤ chip.last → (F : Pages) → has_edition chip (edition_of chip F) ≡ true
unfolding edition_of opens_itself has_edition
edition_had chip l [] = first_had
  where
    first_had : has_edition chip chip.first ≡ true
    first_had = and_both (le-leb chip.first chip.first (omega arith)) (le-leb chip.first chip.last l)
edition_had chip l (P ∷ F) =
    by_cases (opens_itself chip P) (λ t. rw t (and_left (has_edition chip (own_edition P)) _ t)) (λ t. rw t (edition_had chip l F))
