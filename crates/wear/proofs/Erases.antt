-- Which pages a write erases, and that the wear of a page says how often it has been. Assumes nothing.
use Prim.Native.Nat.{ℕ, zero, suc, ◌+◌, ◌≤◌, ◌<◌, max}
use mathlib.Core.Path.{◌≡◌, refl, sym, ap, ◌∙◌, subst}
use mathlib.Core.Bool.{Bool, true, false, cond, not, ◌&&◌}
use mathlib.Core.List.{List, [], ◌∷◌, ◌++◌}
use mathlib.Core.Option.{some}
use native.Mathlib.Omega.{arith}
use lib.ListN.{length}
use lib.Dec.{eqb, leb}
use borrow.Author.Tests.{eq-eqb, ne_eqb, eqb-true, eqb-false}
use Rattle.rules.specs.Flash.{Half, Step, program}
use Rattle.rules.specs.Word.{opening_word, word_steps}
use Rattle.rules.specs.Page.{Page, opening_place}
use Rattle.rules.specs.Store.{each, states, is_cleared, count, has_room, page_at, index, Setting, settings}
use Rattle.rules.specs.Steps.{one_more, renew, renew_all, format_steps, renewed_wear, greatest_wear, renewals, renew_each, renew_picked, other}
use Rattle.rules.specs.Steps.{Change}
use Rattle.rules.specs.Steps.{settings_of, words_of, all_values, taken, next_order, move_records, append_steps}
use Rattle.rules.specs.Steps.{fill_steps, move_steps, new_page, way, way_steps, write_steps}
use Rattle.rules.proofs.Truth.{by_cases}
use Rattle.rules.proofs.Stores.{count_append}
use Rattle.rules.proofs.Erasing.{none_before, word_none, slots_none, open_none, fill_none, renew_one}
use Rattle.rules.proofs.Phases.{Pages}
use Rattle.rules.proofs.Good.{Frame}
use Rattle.promise.specs.Corollaries.{moves}
use Rattle.wear.specs.Wear.{erases_it, erases_of, a_format_erases_each_page_once}
use Rattle.wear.proofs.Finished.{told_in, Renewed, AllRenewed, Landed, Wrote, stayed, appended, opened, moved}

-- ---- how often steps erase a page

module _ (p : ℕ) where
  no_program : (q w : ℕ) (h : Half) (low high : ℕ) → erases_it p (program q w h low high) ≡ false
  unfolding erases_it
  no_program q w h low high = refl

  renew_once : (edition k wear : ℕ) (ss : List Step) → erases_of p (renew edition k wear ++ ss) ≡ cond (eqb k p) 1 0 + erases_of p ss
  unfolding erases_of erases_it
  renew_once edition k wear ss = renew_one (erases_it p) no_program edition k wear ss

  module _ (edition q : ℕ) where
    -- the steps that renew every page but q, from the k-th on
    abbrev renewing : (g k : ℕ) → List Page → List Step
    renewing g k ps = renew_each edition (renewals (λ j s. other q j) g k ps)

    not_behind : (g k : ℕ) (ps : List Page) → p < k → erases_of p (renewing g k ps) ≡ 0
    unfolding renewals each erases_of count
    not_behind g k [] l = refl
    not_behind g k (x ∷ ps) l =
        let w = renewed_wear g x.wear in
        by_cases (other q k)
        (λ o. rw o (renew_once edition k w (renewing (max g w) (suc k) ps)
        ∙ rw (ne_eqb k p (λ e. omega arith)) (omega (arith, not_behind (max g w) (suc k) ps (omega arith)))))
        (λ o. rw o (not_behind g (suc k) ps (omega arith)))

    once : (g k : ℕ) (ps : List Page) → k ≤ p → p < k + length ps → erases_of p (renewing g k ps) ≡ cond (other q p) 1 0
    unfolding renewals each
    once g k [] l m = absurd (omega arith)
    once g k (x ∷ ps) l m =
        let w = renewed_wear g x.wear in
        by_cases (eqb k p)
        (λ t.
        let here : k ≡ p = eqb-true k p t in
        by_cases (other q k)
        (λ o.
        rw (o, subst (λ (j : ℕ). other q j ≡ true) here o)
        (renew_once edition k w (renewing (max g w) (suc k) ps) ∙ rw t (omega (arith, not_behind (max g w) (suc k) ps (omega arith)))))
        (λ o. rw (o, subst (λ (j : ℕ). other q j ≡ false) here o) (not_behind g (suc k) ps (omega arith))))
        (λ t.
        let ne = eqb-false k p t in
        by_cases (other q k)
        (λ o.
        rw o (renew_once edition k w (renewing (max g w) (suc k) ps) ∙ rw t (omega (arith, once (max g w) (suc k) ps (omega arith) (omega arith)))))
        (λ o. rw o (once g (suc k) ps (omega arith) (omega arith))))

    move_erases : (o : ℕ) (rs : List Setting) (ps : List Page) → p < length ps → erases_of p (move_steps edition q o rs ps) ≡ cond (other q p) 1 0
    unfolding move_steps renew_picked erases_of
    move_erases o rs ps l =
        none_before (erases_it p) no_program (fill_steps q o rs) (renewing (greatest_wear ps) 0 ps) (fill_none (erases_it p) no_program q o rs)
        ∙ once (greatest_wear ps) 0 ps (omega arith) (omega arith)

  -- a write that moves erases each page but the one that is taken, another write none
  abbrev pub erased_by : Change → List Page → Bool
  erased_by c ps = moves (way c ps) && other (taken ps) p

  pub write_erases : (edition : ℕ) (c : Change) (ps : List Page) → p < length ps → erases_of p (write_steps edition c ps) ≡ cond (erased_by c ps) 1 0
  unfolding write_steps way way_steps new_page append_steps moves erases_of count
  write_erases edition c ps l =
      by_cases (all_values (settings_of c) ps) (λ s. rw s)
      (λ s. by_cases (has_room (length (words_of c)) ps) (λ f. rw (s, f) (slots_none (erases_it p) no_program _ _ (words_of c)))
      (λ f. by_cases (leb 2 (count is_cleared (states ps))) (λ d. rw (s, f, d) (open_none (erases_it p) no_program (taken ps) (next_order ps) c))
      (λ d. rw (s, f, d) (move_erases edition (taken ps) (next_order ps) (move_records (settings_of c) (settings ps)) ps l))))

-- a format erases each page once
all_behind : (p edition k n : ℕ) → p < k → erases_of p (renew_all edition k n) ≡ 0
unfolding renew_all erases_of count
all_behind p edition k zero l = refl
all_behind p edition k (suc n) l =
    renew_once p edition k 1 (renew_all edition (suc k) n) ∙ rw (ne_eqb k p (λ e. omega arith)) (omega (arith, all_behind p edition (suc k) n (omega arith)))

all_once : (p edition k n : ℕ) → k ≤ p → p < k + n → erases_of p (renew_all edition k n) ≡ 1
unfolding renew_all
all_once p edition k zero l m = absurd (omega arith)
all_once p edition k (suc n) l m =
    renew_once p edition k 1 (renew_all edition (suc k) n)
    ∙ by_cases (eqb k p)
    (λ t. let here = eqb-true k p t in rw t (omega (arith, all_behind p edition (suc k) n (omega arith))))
    (λ t. let ne = eqb-false k p t in rw t (omega (arith, all_once p edition (suc k) n (omega arith) (omega arith))))

pub format_erases : a_format_erases_each_page_once
unfolding format_steps erases_of
format_erases edition n p l =
    omega (
      arith,
      count_append (erases_it p) (renew_all edition 0 n) (word_steps 0 opening_place (opening_word 1 0)),
      word_none (erases_it p) (no_program p) 0 opening_place (opening_word 1 0),
      all_once p edition 0 n (omega arith) (omega arith),
    )

-- ---- the wear of a page then

same_at : (f : List Page) (p q : Page) (r : List Page) → q.wear ≡ p.wear → (j : ℕ) → (page_at j (f ++ q ∷ r)).wear ≡ (page_at j (f ++ p ∷ r)).wear
same_at [] p q r e zero = e
same_at [] p q r e (suc j) = refl
same_at (x ∷ f) p q r e zero = refl
same_at (x ∷ f) p q r e (suc j) = same_at f p q r e j

renewed_at : (ps qs : List Page) → AllRenewed ps qs → (j : ℕ) → j < length ps → Renewed (page_at j ps) (page_at j qs)
unfolding AllRenewed
renewed_at [] [] h j l = absurd (omega arith)
renewed_at [] (q ∷ qs) h j l = absurd h
renewed_at (p ∷ ps) [] h j l = absurd h
renewed_at (p ∷ ps) (q ∷ qs) h zero l = h.0
renewed_at (p ∷ ps) (q ∷ qs) h (suc j) l = renewed_at ps qs h.1 j (omega arith)

-- of pages parted at the one that was moved to: it keeps its wear, every other one is renewed
moved_at : (f g : List Page) (p q : Page) (r t : List Page) → AllRenewed f g → AllRenewed r t → q.wear ≡ p.wear → (j : ℕ) → j < length (f ++ p ∷ r)
    → (n : ℕ) → (page_at j (f ++ p ∷ r)).wear ≡ some n → (page_at j (g ++ q ∷ t)).wear ≡ some (cond (other (length f) j) (one_more n) n)
unfolding AllRenewed other
moved_at [] [] p q r t h k e zero l n is = e ∙ is
moved_at [] [] p q r t h k e (suc j) l n is =
    let one = renewed_at r t k j (omega arith) in
    rw (ne_eqb (suc j) 0 (λ z. omega arith)) (one.has_wear ∙ ap some (one.one_more_than n is))
moved_at [] (y ∷ g) p q r t h k e j l n is = absurd h
moved_at (x ∷ f) [] p q r t h k e j l n is = absurd h
moved_at (x ∷ f) (y ∷ g) p q r t h k e zero l n is =
    rw (ne_eqb 0 (suc (length f)) (λ z. omega arith)) (h.0.has_wear ∙ ap some (h.0.one_more_than n is))
moved_at (x ∷ f) (y ∷ g) p q r t h k e (suc j) l n is =
    moved_at f g p q r t h.1 k e j (omega arith) n is ∙ ap (λ (b : Bool). some (cond (not b) (one_more n) n)) (same_eqb j (length f))
  where
    same_eqb : (a b : ℕ) → eqb a b ≡ eqb (suc a) (suc b)
    same_eqb a b =
        by_cases (eqb a b) (λ t. rw t (sym (eq-eqb (suc a) (suc b) (ap suc (eqb-true a b t)))))
        (λ t. rw t (sym (ne_eqb (suc a) (suc b) (λ z. eqb-false a b t (omega arith)))))

module _ (c : Frame) (ch : Change) (F G : Pages) where
  abbrev ps : List Page
  ps = told_in c F

  abbrev qs : List Page
  qs = told_in c G

  unmoved : {f r : List Page} {p q : Page} → Landed c F G f p r f q r → (j n : ℕ) → (page_at j ps).wear ≡ some n → (page_at j qs).wear ≡ some n
  unmoved {f} {r} {p} {q} l j n is =
      ap (λ (xs : List Page). (page_at j xs).wear) l.after ∙ same_at f p q r l.wear j ∙ sym (ap (λ (xs : List Page). (page_at j xs).wear) l.before) ∙ is

  -- a page that it erases has one more, each other one its wear
  pub wear_after : Wrote c ch F G → (j : ℕ) → j < length ps → (n : ℕ) → (page_at j ps).wear ≡ some n
      → (page_at j qs).wear ≡ some (cond (erased_by j ch ps) (one_more n) n)
  unfolding way new_page moves taken index
  wear_after (stayed s e) j l n is = rw s (ap (λ (H : Pages). (page_at j (told_in c H)).wear) e ∙ is)
  wear_after (appended d s free at same base_same slots_taken) j l n is = rw (s, free) (unmoved d j n is)
  wear_after (opened d s full two m at least ordered base_same slots_taken) j l n is = rw (s, full, two) (unmoved d j n is)
  wear_after (moved {f} {r} {g} {t} {p} {q} d s full one m at least ordered all_f all_r slots_taken) j l n is =
      rw (s, full, one, least)
      (ap (λ (xs : List Page). (page_at j xs).wear) d.after
      ∙ moved_at f g p q r t all_f all_r d.wear j (omega (arith, ap length d.before)) n
      (sym (ap (λ (xs : List Page). (page_at j xs).wear) d.before) ∙ is))
