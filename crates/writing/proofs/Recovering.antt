-- Renewals by which pages are picked, and recovery in the terms of the code. Assumes nothing.
use Prim.Native.Nat.{ℕ, suc, ◌+◌, ◌-◌, ◌*◌, ◌≤◌, ◌<◌, max}
use mathlib.Core.Path.{◌≡◌, refl, sym, ap, ◌∙◌, subst}
use mathlib.Core.Bool.{Bool, true, false}
use mathlib.Core.List.{List, [], ◌∷◌, append-nil}
use native.Mathlib.Omega.{arith}
use lib.ListN.{length, get_or, take, length-append}
use Rattle.std.proofs.lemmas.List.{get_or-map, get_or-take}
use Rattle.rules.specs.Flash.{Step}
use Rattle.rules.specs.Word.{Word, mark_word, word_steps}
use Rattle.rules.specs.Page.{Form, word_count, size, State, cleared, open₁, open₂, receiving, bad, Page}
use Rattle.rules.specs.Store.{Setting, states, base, used, is_cleared, count, is_active, index_of, active_order, active_index}
use Rattle.rules.specs.Steps.{renewed_wear, greatest_wear, renewals, renew_each, renew_picked, unclean}
use Rattle.rules.specs.Steps.{slots_steps, abandon_steps, recovery_steps}
use Rattle.rules.specs.Call.{first_pages, pages}
use Rattle.rules.proofs.Truth.{by_cases, and_left}
use Rattle.rules.proofs.Stores.{length_states}
use Rattle.rules.proofs.Healthy.{accepted_healthy, recovery_allowed}
use Rattle.rules.proofs.Ready.{size_right, right_sizes, Sizes, active_within}
use Rattle.rules.proofs.Cut.{pages_long}
use Rattle.rules.proofs.Lengths.{each_long, word_length}
use Rattle.pages.specs.Read.{as_form}
use Rattle.survey.specs.declared.Role.{Role}
use Rattle.survey.specs.declared.Role.TheVariants.{Used, Cleared, Unclean}
use Rattle.survey.specs.declared.Look.{Look}
use Rattle.survey.specs.Roles.{role}
use Rattle.survey.proofs.Looking.{counted}
use Rattle.steps.specs.declared.Steps.{Steps}
use Rattle.steps.specs.Done.{May, Done}
use Rattle.steps.specs.Picked.{picked_steps}
use Rattle.steps.proofs.Doing.{done_nothing, done_then, may_first}
use Rattle.store.specs.declared.Store.{Store}
use Rattle.store.specs.Opened.{Holding}
use Rattle.choosing.proofs.Ways.{open_slot}
use Rattle.writing.specs.Plans.{Counted}
use Rattle.writing.proofs.Outcomes.{may_all}
use Rattle.writing.proofs.Kept.{OnPage, on_take, on_word, renewing_kept}

-- ---- renewals, by which pages are picked

-- two tests that agree on the pages there are pick the same
renewals_agree : (p q : ℕ → State → Bool) (g k : ℕ) (ps : List Page)
    → ((j : ℕ) → j < length ps → p (k + j) (get_or (states ps) j bad) ≡ q (k + j) (get_or (states ps) j bad)) → renewals p g k ps ≡ renewals q g k ps
unfolding renewals states
renewals_agree p q g k [] h = refl
renewals_agree p q g k (x ∷ ps) h =
    let first : k + 0 ≡ k = omega arith in
    let next : (j : ℕ) → k + suc j ≡ suc k + j = λ j. omega arith in
    let agree : (s : State) (m : ℕ) → Type 0 = λ s m. p m s ≡ q m s in
    let here : p k x.state ≡ q k x.state = subst (agree x.state) first (h 0 (omega arith)) in
    let rest : (m : ℕ) → renewals p m (suc k) ps ≡ renewals q m (suc k) ps =
    λ m. renewals_agree p q m (suc k) ps (λ j l. subst (agree (get_or (states ps) j bad)) (next j) (h (suc j) (omega arith))) in
    rw (here, rest g, rest (max g (renewed_wear g x.wear)))

picked_agree : (edition : ℕ) (p q : ℕ → State → Bool) (ps : List Page)
    → ((j : ℕ) → j < length ps → p j (get_or (states ps) j bad) ≡ q j (get_or (states ps) j bad)) → renew_picked edition p ps ≡ renew_picked edition q ps
unfolding renew_picked
picked_agree edition p q ps h =
    let z : (j : ℕ) → j ≡ 0 + j = λ j. omega arith in
    ap (renew_each edition) (renewals_agree p q (greatest_wear ps) 0 ps
    (λ j l. subst (λ (m : ℕ). p m (get_or (states ps) j bad) ≡ q m (get_or (states ps) j bad)) (z j) (h j l)))

-- as many as pass the test
renewals_count : (test : State → Bool) (g k : ℕ) (ps : List Page) → length (renewals (λ j s. test s) g k ps) ≡ count test (states ps)
unfolding renewals states count
renewals_count test g k [] = refl
renewals_count test g k (x ∷ ps) =
    by_cases (test x.state)
    (λ t. let rest = renewals_count test (max g (renewed_wear g x.wear)) (suc k) ps in rw t (omega arith))
    (λ t. let rest = renewals_count test g (suc k) ps in rw t (omega arith))

-- ---- the active page

index_there : (test : State → Bool) (ss : List State) → index_of test ss < length ss → test (get_or ss (index_of test ss) bad) ≡ true
unfolding index_of
index_there test [] l = absurd (omega arith)
index_there test (s ∷ ss) l =
    by_cases (test s) (λ e. rw e e) (λ e. let l' : suc (index_of test ss) < suc (length ss) = rw e at l in rw e (index_there test ss (omega arith)))

active_clean : (b o : ℕ) (s : State) → is_active b o s ≡ true → unclean b s ≡ false
unfolding is_active unclean
active_clean b o s h = rw (and_left (used b s) _ h)

-- ---- the unclean pages, by their roles

abbrev is_unclean : Role → Bool
is_unclean (Used o) = false
is_unclean (Cleared wear) = false
is_unclean Unclean = true

unclean_role : (b : ℕ) (s : State) → is_unclean (role b s) ≡ unclean b s
unfolding role unclean used is_cleared
unclean_role b (cleared wear) = refl
unclean_role b (open₁ o) = by_cases (used b (open₁ o)) (λ u. rw u) (λ u. rw u)
unclean_role b (open₂ o) = by_cases (used b (open₂ o)) (λ u. rw u) (λ u. rw u)
unclean_role b receiving = refl
unclean_role b bad = refl

-- whether the page at an index is
abbrev pub unclean_at : Look → ℕ → Bool
unclean_at look k = is_unclean (get_or look.roles k (Used 0))

-- ---- by what the store told

module _ {fm : Form} {i : List ℕ} {r : Store} {held : List Setting} (h : Holding fm i r held) where
  abbrev look : Look
  look = r.look

  abbrev all : List State
  all = states (pages fm i)

  sizes : Sizes fm i
  sizes = right_sizes fm i (size_right fm i h.accepted)

  pub look_few : look.count ≤ 32
  look_few = omega (arith, h.told.counts, sizes.most)

  pub look_sized : length i ≡ look.count * size fm
  look_sized = rw h.told.counts sizes.sized

  -- there are as many roles as pages
  pub roles_long : look.count ≤ length look.roles
  roles_long = omega (arith, look_few, h.told.long.1)

  active_few : look.active < look.count
  active_few = omega (arith, h.told.active, h.told.counts, active_within fm i h.accepted)

  -- the pages that are picked are the unclean ones
  pick_is : (k : ℕ) → k < look.count → unclean_at look k ≡ unclean (base all) (get_or all k bad)
  pick_is k l =
      ap is_unclean (sym (get_or-take look.count look.roles k (Used 0) l))
      ∙ ap (λ (rs : List Role). is_unclean (get_or rs k (Used 0))) h.told.roles
      ∙ ap is_unclean (get_or-map (role (base all)) all k bad (Used 0) (omega (arith, length_states (pages fm i), pages_long fm i, h.told.counts)))
      ∙ unclean_role (base all) (get_or all k bad)

  renewals_are : picked_steps fm look.count (unclean_at look) i ≡ renew_picked fm.edition (λ k s. unclean (base all) s) (pages fm i)
  unfolding picked_steps pages
  renewals_are =
      ap (λ (m : ℕ). renew_picked fm.edition (λ k s. unclean_at look k) (first_pages fm m i)) h.told.counts
      ∙ picked_agree fm.edition (λ k s. unclean_at look k) (λ k s. unclean (base all) s) (pages fm i)
      (λ j g. pick_is j (omega (arith, pages_long fm i, h.told.counts)))

  renewals_long : length (renew_picked fm.edition (λ k s. unclean (base all) s) (pages fm i)) ≡ 3 * count (unclean (base all)) all
  unfolding renew_picked
  renewals_long =
      let greatest = greatest_wear (pages fm i) in
      each_long fm.edition (renewals (λ k s. unclean (base all) s) greatest 0 (pages fm i))
      ∙ ap (λ (m : ℕ). 3 * m) (renewals_count (unclean (base all)) greatest 0 (pages fm i))

  -- the active page is used, and so not among them
  active_out : unclean_at look look.active ≡ false
  unfolding active_index
  active_out =
      let b = base all in
      let o = active_order all in
      let there = index_there (is_active b o) all (omega (arith, active_within fm i h.accepted, length_states (pages fm i), pages_long fm i)) in
      pick_is look.active active_few ∙ ap (λ (k : ℕ). unclean b (get_or all k bad)) h.told.active ∙ active_clean b o (get_or all (active_index all) bad) there

  -- ---- the mark of an open group

  abbrev mark : List Step
  mark = word_steps look.active (3 + look.free) (mark_word 0)

  abandons : r.group ≡ true → abandon_steps (pages fm i) ≡ mark
  unfolding abandon_steps slots_steps
  abandons g = rw (sym h.grouped ∙ g, h.told.active, h.told.free) (append-nil _)

  abandons_none : r.group ≡ false → abandon_steps (pages fm i) ≡ []
  unfolding abandon_steps
  abandons_none g = rw (sym h.grouped ∙ g)

  pub abandon_few : length (abandon_steps (pages fm i)) ≤ 2
  abandon_few =
      by_cases r.group (λ g. rw (abandons g) (omega (arith, word_length look.active (3 + look.free) (mark_word 0)))) (λ g. rw (abandons_none g) (omega arith))

  mark_place : r.group ≡ true → (look.active < 32) × (3 + look.free < word_count fm)
  mark_place g =
      let l : look.free < fm.slot_count = open_slot h.told h.accepted (sym h.grouped ∙ g) in
      (omega (arith, look_few, active_few), omega arith)

  -- it stands on the active page, behind its wear word
  on_mark : OnPage (word_count fm) look.active (abandon_steps (pages fm i))
  unfolding OnPage
  on_mark =
      by_cases r.group
      (λ g. rw (abandons g) (on_word (word_count fm) look.active (3 + look.free) (mark_word 0) (omega arith) (mark_place g).1))
      (λ g. rw (abandons_none g) tt)

-- ---- in steps under an allowance

module _ (s : Steps) {r : Store} {held : List Setting} (h : Holding (as_form s.form) s.image.now r held) where
  abbrev fm : Form
  fm = as_form s.form

  abbrev i : List ℕ
  i = s.image.now

  abbrev abandoning : List Step
  abandoning = abandon_steps (pages fm i)

  abbrev plan : List Step
  plan = recovery_steps fm.edition (pages fm i)

  pub mark_fits : r.group ≡ true → (r.look.active < 32) × (3 + r.look.free < word_count fm)
  mark_fits g = mark_place h g

  pub mark_allowed : {w : Word} → r.group ≡ true → w ≡ mark_word 0 → May s (word_steps r.look.active (3 + r.look.free) w)
  unfolding recovery_steps
  mark_allowed {w} g made =
      let whole = may_all s plan (recovery_allowed (accepted_healthy fm s.form.fits.0 ⊥ i h.accepted (λ z. absurd z))) in
      rw made (subst (May s) (abandons h g) (may_first s abandoning _ whole))

  pub abandoned : {t : Steps} {w : Word} → r.group ≡ true → w ≡ mark_word 0 → Done s (word_steps r.look.active (3 + r.look.free) w) t → Counted s abandoning t 2
  abandoned {t} {w} g made d =
      record {
        done = rw (abandons h g) (rw made at d);
        many = sym (ap length (abandons h g) ∙ word_length r.look.active (3 + r.look.free) (mark_word 0));
      }

  pub not_abandoned : r.group ≡ false → Counted s abandoning s 0
  not_abandoned g = rw (abandons_none h g) (record { done = done_nothing s; many = refl })

  -- and then the pages are renewed
  pub recovered : {t u : Steps} {a n : ℕ} → n ≡ r.look.count - r.look.used - r.look.cleared → Counted s abandoning t a
      → Done t (picked_steps (as_form t.form) r.look.count (unclean_at r.look) t.image.now) u
      → Counted s plan u (a + 3 * n)
  unfolding recovery_steps picked_steps
  recovered {t} {u} {a} {n} many marked renewed =
      let picked : Form → List ℕ → List Step = λ f j. picked_steps f r.look.count (unclean_at r.look) j in
      let kept : picked fm t.image.now ≡ picked fm i =
      ap (picked fm) marked.done.image
      ∙ renewing_kept fm r.look.count r.look.active (active_few h) (unclean_at r.look) (active_out h) (take s.left abandoning) i
      (on_take (word_count fm) r.look.active s.left abandoning (on_mark h)) (look_sized h) in
      let same : picked (as_form t.form) t.image.now ≡ renew_picked fm.edition (λ k s. unclean (base (all h)) s) (pages fm i) =
      ap (λ f. picked (as_form f) t.image.now) marked.done.same_form ∙ kept ∙ renewals_are h in
      record {
        done = done_then marked.done (subst (λ (ss : List Step). Done t ss u) same renewed);
        many = omega (
          arith,
          many,
          marked.many,
          renewals_long h,
          counted h.told,
          length-append abandoning (renew_picked fm.edition (λ k s. unclean (base (all h)) s) (pages fm i)),
        );
      }
