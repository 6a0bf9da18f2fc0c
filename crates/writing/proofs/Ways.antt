-- What each way of a write asks and does: its steps are the rules', and they may be done. Assumes nothing.
use Prim.Native.Nat.{ℕ, ◌+◌, ◌*◌, ◌≤◌, ◌<◌}
use mathlib.Core.Path.{◌≡◌, refl, sym, ap, ◌∙◌, subst}
use mathlib.Core.Bool.{false}
use mathlib.Core.List.{List, map}
use native.Mathlib.Omega.{arith}
use lib.ListN.{length}
use lib.Dec.{leb}
use Rattle.std.proofs.Common.{Ok, Err}
use Rattle.rules.specs.Flash.{Step}
use Rattle.rules.specs.Page.{Form, size}
use Rattle.rules.specs.Store.{Setting, address_of, states, is_cleared, count, has_room}
use Rattle.rules.specs.Steps.{Change, settings_of, words_of, all_values}
use Rattle.rules.specs.Steps.{Way as Write, stay, append_to, open_at, move_to, way, way_steps, new_page}
use Rattle.rules.specs.Steps.{append_steps, open_steps, fill_steps, move_steps, write_steps}
use Rattle.rules.specs.Owner.{Owner}
use Rattle.rules.specs.Call.{first_pages, page_count, pages, store_number, write_number, repeats, a_wrong_address, no_room, triples, recover, write}
use Rattle.rules.proofs.Truth.{by_cases}
use Rattle.rules.proofs.Rows.{WriteFails, write_fails}
use Rattle.rules.proofs.Groups.{change_distinct}
use Rattle.rules.proofs.Ready.{taken_within}
use Rattle.rules.proofs.Healthy.{accepted_healthy, write_allowed}
use Rattle.rules.proofs.Answers.{stepped_refused, write_store}
use Rattle.pages.specs.Read.{as_form}
use Rattle.changes.specs.declared.change.Change.{Change as Bytes}
use Rattle.changes.specs.Read.{as_change}
use Rattle.survey.specs.declared.refusal.Refusal.{Refusal}
use Rattle.survey.specs.Refusals.{number_of}
use Rattle.survey.proofs.Refusals.{is_refusal}
use Rattle.steps.specs.declared.Steps.{Steps}
use Rattle.steps.specs.Done.{May}
use Rattle.steps.specs.Copied.{copied}
use Rattle.steps.proofs.Doing.{done_nothing, may_first}
use Rattle.store.specs.declared.Store.{Store}
use Rattle.store.specs.Opened.{Holding}
use Rattle.choosing.specs.declared.Way.{Way}
use Rattle.choosing.specs.declared.Way.TheVariants.{Stay, Append, Open, Move}
use Rattle.choosing.specs.Way.{as_way, Fitting, Chosen}
use Rattle.choosing.proofs.Ways.{change_settings}
use Rattle.writing.specs.Answers.{as_stepped}
use Rattle.writing.specs.Plans.{Counted, Right, Tabled}
use Rattle.writing.proofs.Outcomes.{may_all}
use Rattle.writing.proofs.Recovering.{look_few, look_sized}

-- ---- the rules' way of an accepted write may be done

module _ (fm : Form) (c : Change) (i : List ℕ) where
  -- a page that is moved to is one of the image's, and there is something new
  unfoldable Inside : Write → Type 0
  Inside stay = Unit {0}
  Inside (append_to p k) = Unit {0}
  Inside (open_at p o) = Unit {0}
  Inside (move_to p o) = (p < page_count fm i) × (all_values (settings_of c) (pages fm i) ≡ false)

  way_inside : (by : Owner) → write_number fm by c i ≡ 0 → Inside (way c (pages fm i))
  unfolding way new_page Inside
  way_inside by ok =
      let w = write_fails fm i by c ok in
      by_cases (all_values (settings_of c) (pages fm i)) (λ s. rw s tt)
      (λ s.
      by_cases (has_room (length (words_of c)) (pages fm i)) (λ f. rw (s, f) tt)
      (λ f.
      by_cases (leb 2 (count is_cleared (states (pages fm i)))) (λ d. rw (s, f, d) tt)
      (λ d. rw (s, f, d) (taken_within fm i w.stored w.clean, s))))

  -- ---- what the code's way tells

  -- the write goes that way
  record Goes (w : Write) : Type 0 where
    steps : write_steps fm.edition c (pages fm i) ≡ way_steps fm.edition c (pages fm i) w
    inside : Inside w

  unfoldable Means : Way → Type 0
  Means Stay = Goes stay
  Means (Append p k) = Goes (append_to p k)
  Means (Open p o) = Goes (open_at p o)
  Means (Move p o) = Goes (move_to p o)

  goes : (w : Write) → Goes w → Means (as_way w)
  unfolding Means
  goes stay g = g
  goes (append_to p k) g = g
  goes (open_at p o) g = g
  goes (move_to p o) g = g

  way_means : (by : Owner) → write_number fm by c i ≡ 0 → Means (as_way (way c (pages fm i)))
  unfolding write_steps
  way_means by ok = goes (way c (pages fm i)) (record { steps = refl; inside = way_inside by ok })

-- ---- each way, as the call takes it

module _ (s : Steps) (c : Bytes) (by : Owner) {r : Store} {t : List Setting} {w : Way} (h : Holding (as_form s.form) s.image.now r t)
    (chosen : Chosen (as_form s.form) by (as_change c) s.image.now (Ok w)) where
  abbrev fm : Form
  fm = as_form s.form

  abbrev i : List ℕ
  i = s.image.now

  abbrev ch : Change
  ch = as_change c

  abbrev plan : List Step
  plan = write_steps fm.edition ch (pages fm i)

  passed : WriteFails fm i by ch
  passed = write_fails fm i by ch chosen.0

  means : {x : Way} → w ≡ x → Means fm ch i x
  means e = subst (Means fm ch i) (sym chosen.1 ∙ e) (way_means fm ch i by chosen.0)

  fits : {x : Way} → w ≡ x → Fitting fm ch x
  fits e = subst (Fitting fm ch) e chosen.2

  whole : May s plan
  whole = may_all s plan (write_allowed (accepted_healthy fm s.form.fits.0 ⊥ i h.accepted (λ z. absurd z)) by ch chosen.0)

  pub right : Right fm.edition c
  right = passed.grouped

  pub stayed : w ≡ Stay → Counted s plan s 0
  unfolding Means way_steps
  stayed e =
      let g : Goes fm ch i stay = means e in
      rw g.steps (record { done = done_nothing s; many = refl })

  module _ (p k : ℕ) (e : w ≡ Append p k) where
    appending : plan ≡ append_steps p k ch
    unfolding Means way_steps
    appending = let g : Goes fm ch i (append_to p k) = means e in g.steps

    pub append_fits : (p < 32) × (k + length (words_of ch) ≤ s.form.slots)
    unfolding Fitting
    append_fits = fits e

    pub append_allowed : May s (append_steps p k ch)
    append_allowed = subst (May s) appending whole

    pub appended : {u : Steps} {total : ℕ} → Counted s (append_steps p k ch) u total → Counted s plan u total
    appended {u} {total} d = subst (λ (ss : List Step). Counted s ss u total) (sym appending) d

  module _ (p o : ℕ) (e : w ≡ Open p o) where
    opening : plan ≡ open_steps p o ch
    unfolding Means way_steps
    opening = let g : Goes fm ch i (open_at p o) = means e in g.steps

    pub open_fits : (p < 32) × (o < 4194304)
    unfolding Fitting
    open_fits = fits e

    pub open_allowed : May s (open_steps p o ch)
    open_allowed = subst (May s) opening whole

    pub opened : {u : Steps} {total : ℕ} → Counted s (open_steps p o ch) u total → Counted s plan u total
    opened {u} {total} d = subst (λ (ss : List Step). Counted s ss u total) (sym opening) d

  module _ (p o : ℕ) (e : w ≡ Move p o) where
    moving : Goes fm ch i (move_to p o)
    unfolding Means
    moving = means e

    same_settings : settings_of ch ≡ triples c.entries.now
    same_settings = change_settings fm.edition c.marks c.entries.now c.lent right

    pub tabled : Tabled t (triples c.entries.now)
    unfolding Inside
    tabled =
        record {
          pages = pages fm i;
          holds = h.holds;
          addressed = ap a_wrong_address (sym same_settings) ∙ passed.addressed;
          distinct = ap (λ (rs : List Setting). repeats (map address_of rs)) (sym same_settings) ∙ change_distinct fm.edition ch passed.grouped;
          room = ap (λ (rs : List Setting). no_room rs (pages fm i)) (sym same_settings) ∙ passed.room moving.inside.1;
        }

    pub move_fits : (p < r.look.count) × (r.look.count ≤ 32) × (length i ≡ r.look.count * size fm) × (o < 4194304)
    unfolding Fitting Inside
    move_fits =
        let f : Fitting fm ch (Move p o) = fits e in
        let inside : p < page_count fm i = moving.inside.0 in
        (omega (arith, inside, h.told.counts), look_few h, look_sized h, f.1)

    moves : plan ≡ move_steps fm.edition p o (copied t (triples c.entries.now)) (first_pages fm r.look.count i)
    unfolding way_steps pages
    moves = rw (h.holds, ← same_settings, h.told.counts) moving.steps

    pub move_allowed : May s (fill_steps p o (copied t (triples c.entries.now)))
    unfolding move_steps
    move_allowed = may_first s (fill_steps p o (copied t (triples c.entries.now))) _ (subst (May s) moves whole)

    pub moved_all : {u : Steps} {total : ℕ}
        → Counted s (move_steps fm.edition p o (copied t (triples c.entries.now)) (first_pages fm r.look.count i)) u total → Counted s plan u total
    moved_all {u} {total} d = subst (λ (ss : List Step). Counted s ss u total) (sym moves) d

-- ---- refused

module _ (fm : Form) (i : List ℕ) (n : ℕ) (e : Refusal) where
  pub not_recovered : store_number fm i ≡ number_of e → as_stepped (Err e) i ≡ recover fm n i
  unfolding recover
  not_recovered q = rw q (sym (stepped_refused fm (number_of e) n _ i (is_refusal e)))

  pub not_written : (by : Owner) (c : Change) → write_number fm by c i ≡ number_of e → as_stepped (Err e) i ≡ write fm by c n i
  unfolding write
  not_written by c q = rw q (sym (stepped_refused fm (number_of e) n _ i (is_refusal e)))

  pub not_opened : (by : Owner) (c : Change) → store_number fm i ≡ number_of e → as_stepped (Err e) i ≡ write fm by c n i
  not_opened by c q = not_written by c (write_store fm by c i (λ z. is_refusal e (sym q ∙ z)) ∙ q)
