-- How far apart moves are, and how many changes flash of so many rated erases lasts. Assumes nothing.
use Prim.Native.Nat.{ℕ, zero, suc, ◌+◌, ◌-◌, ◌*◌, ◌≤◌, ◌<◌, min}
use mathlib.Core.Path.{◌≡◌, refl, sym, ap, ◌∙◌, subst}
use mathlib.Core.Bool.{true, false, cond, not}
use mathlib.Core.List.{List}
use native.Mathlib.Nat.{mul-suc, zero-mul, mul-le-mul_right, lt_of_mul-lt-mul_left, lt_of_mul-lt-mul_right, div-mul-le_self}
use native.Mathlib.Omega.{arith}
use lib.ListN.{length}
use borrow.Author.Tests.{not-true, not-false}
use Rattle.rules.specs.Page.{Chip, Page}
use Rattle.rules.specs.Store.{active_slots, held}
use Rattle.rules.specs.Steps.{Change, single, group, settings_of, words_of, all_values, way}
use Rattle.rules.specs.Call.{RoomyChip, form_of}
use Rattle.rules.proofs.Truth.{by_cases, not_both}
use Rattle.rules.proofs.Cut.{pages_long}
use Rattle.rules.proofs.Told.{told}
use Rattle.rules.proofs.Phases.{Pages}
use Rattle.rules.proofs.Good.{Frame, slots_in}
use Rattle.rules.proofs.Healthy.{few_here, c as frame_of, F as pages_as, pages_are}
use Rattle.promise.specs.Calls.{Image, Calls, Obeys}
use Rattle.promise.specs.History.{pages_of}
use Rattle.promise.specs.Corollaries.{moves}
use Rattle.promise.proofs.Owners.{stays}
use Rattle.wear.specs.Wear.{pages_in, Any, Tally, with_write, is_new_value, is_move, is_single, Single, SingleHolding, Fresh, Writes, Steady}
use Rattle.wear.specs.Wear.{begins, written, refused, recovered, between_moves, moves_rated, changes_rated}
use Rattle.wear.specs.Wear.{the_first_move_comes_late, moves_are_far_apart, lasts_as_rated, what_the_box_may_say}
use Rattle.wear.proofs.Finished.{told_in, Wrote, stayed, appended, opened, moved}
use Rattle.wear.proofs.Level.{Level}
use Rattle.wear.proofs.Between.{before_move, none_left, one_taken, move_gives, active_long}
use Rattle.wear.proofs.Fresh.{format_gives}
use Rattle.wear.proofs.Even.{one_or_none, Healthily, Done, done, done_well, level_then, recovery_leaves, Laid, laid, Counted, counted, even_share, evenly}

-- a single change is of one word
one_word : (ch : Change) → is_single ch ≡ true → length (words_of ch) ≡ 1
unfolding is_single words_of
one_word (single a v) e = refl
one_word (group rs) e = not_both e refl

-- what has no new value writes nothing
nothing_written : {c : Frame} {ch : Change} {F G : Pages} → Wrote c ch F G → all_values (settings_of ch) (told_in c F) ≡ true → G ≡ F
nothing_written (stayed old e) same = e
nothing_written (appended l new free is same_state base_same taken) same = not_both same new
nothing_written (opened l new full two n is least ordered base_same taken) same = not_both same new
nothing_written (moved l new full one n is least ordered all_f all_r taken) same = not_both same new

module _ (chip : Chip) (roomy : RoomyChip chip) (C : Calls) (obeys : Obeys chip C) where
  abbrev s : ℕ
  s = chip.slot_count

  -- how many single writes of new values come before the next move
  abbrev left : Image → ℕ
  left i = before_move s (pages_of chip i)

  active_here : {i : Image} → Healthily chip roomy C obeys i → length (active_slots (pages_of chip i)) ≡ s
  unfolding form_of
  active_here h =
      let x = h.1 in
      ap (λ (ps : List Page). length (active_slots ps)) (pages_are x) ∙ active_long (frame_of x) x.has.journal (pages_as x) x.has.good

  -- ---- what a write takes from it, of images

  module _ {ch : Change} {j k : Image} (d : Done chip roomy C obeys ch j k) where
    abbrev e : ℕ
    e = d.frame.form.edition

    took_one : is_single ch ≡ true → is_new_value chip ch j ≡ true → is_move chip ch j ≡ false → left j ≡ suc (left k)
    took_one one new still =
        rw (d.were, d.are, ← d.slots_are)
        (one_taken d.frame ch d.before d.after (one_word ch one) d.long d.went
        (not-true _ (subst (λ (ps : List Page). not (all_values (settings_of ch) ps) ≡ true) d.were new))
        (subst (λ (ps : List Page). moves (way ch ps) ≡ false) d.were still))

    gives_again : is_move chip ch j ≡ true → left k ≡ between_moves (pages_in chip j) s (held (pages_of chip k))
    gives_again is =
        subst (λ (n : ℕ). left k ≡ between_moves n s (held (pages_of chip k))) (pages_long (form_of chip j) j)
        (rw (d.were, d.are, ← d.slots_are)
        (move_gives d.frame ch d.before d.after d.went (subst (λ (ps : List Page). moves (way ch ps) ≡ true) d.were is)))

    -- a write of no new value leaves the pages
    same_pages : is_new_value chip ch j ≡ false → pages_of chip k ≡ pages_of chip j
    same_pages old =
        d.are ∙ ap (told e) (nothing_written d.went (not-false _ (subst (λ (ps : List Page). not (all_values (settings_of ch) ps) ≡ false) d.were old)))
        ∙ sym d.were

    -- and is no move
    old_stays : is_new_value chip ch j ≡ false → is_move chip ch j ≡ false
    unfolding way moves
    old_stays old = let same : all_values (settings_of ch) (pages_of chip j) ≡ true = not-false _ old in rw same

  -- where a single change would move, there is none left
  no_more : {i : Image} → Healthily chip roomy C obeys i → (ch : Change) → is_single ch ≡ true → is_move chip ch i ≡ true → left i ≡ 0
  no_more {i} h ch one is = none_left s ch (one_word ch one) (pages_of chip i) (active_here h) is

  -- ---- between two moves

  -- what each store of a history is
  abbrev Sane : Image → Type 0
  Sane i = Healthily chip roomy C obeys i × Level (pages_of chip i)

  sane_then : {ch : Change} {j k : Image} → Writes chip C ch j k → Sane j → Sane k
  sane_then w h = (done_well chip roomy C obeys w h.0, level_then chip roomy C obeys (done chip roomy C obeys w h.0) h.1)

  -- single writes of which none moves take one each, if their value is new
  pub record Took (u : Tally) (i j : Image) : Type 0 where
    pub sane : Sane j
    pub each_one : u.moved ≡ 0 → left i ≡ u.changes + left j

  took_write : (u : Tally) (ch : Change) {i j k : Image} → Writes chip C ch j k → is_single ch ≡ true → Took u i j → Took (with_write chip ch j u) i k
  took_write u ch {i} {j} {k} w one h =
      let d = done chip roomy C obeys w h.sane.0 in
      record {
        sane = sane_then w h.sane;
        each_one = λ none_moved.
            by_cases (is_move chip ch j) (λ m. absurd (let z : ◌≡◌ {A = ℕ} (cond (is_move chip ch j) 1 0) 1 = rw m in omega arith))
            (λ m.
            let before : u.moved ≡ 0 = omega arith in
            by_cases (is_new_value chip ch j)
            (λ new. rw new (omega (arith, h.each_one before, took_one d one new m)))
            (λ old. rw old (omega (arith, h.each_one before, ap (before_move s) (same_pages d old)))));
      }

  took : {u : Tally} {i j : Image} → Sane i → Steady chip C Single u i j → Took u i j
  took h begins = record { sane = h; each_one = λ none_moved. omega arith }
  took h (written ch before w one) = took_write _ ch w one (took h before)
  took {u} {i} h (refused before o ch n x y ne) = subst (Took u i) (sym (stays chip roomy C obeys o ch n x y ne)) (took h before)
  took {u} {i} h (recovered before n x y) =
      let t = took h before in subst (Took u i) (sym (recovery_leaves chip roomy C obeys _ t.sane.1 n x y)) t

  -- so where one would move, as many were made as were left
  all_made : {u : Tally} {i l : Image} → Sane i → Steady chip C Single u i l → u.moved ≡ 0 → (a v : ℕ) → is_move chip (single a v) l ≡ true
      → u.changes ≡ left i
  unfolding is_single
  all_made h singles none_moved a v would =
      let all = took h singles in
      let ends = no_more all.sane.0 (single a v) refl would in
      omega (arith, ends, all.each_one none_moved)

  -- after a format that is the slots of every page but one
  fresh_left : {i : Image} (l : Laid chip roomy C obeys i) → left i ≡ l.others * s
  fresh_left {i} l =
      subst (λ (x : ℕ). before_move x (pages_of chip i) ≡ l.others * x) l.slots_are
      (ap (before_move (slots_in l.frame)) l.are ∙ format_gives l.frame l.others l.some)

  pub first_move : the_first_move_comes_late chip C
  first_move i fresh u l singles none_moved a v would =
      let h = counted chip roomy C obeys {Such = Any} fresh begins in
      let whole = laid chip roomy C obeys fresh in
      let but_one : whole.others ≡ pages_in chip i - 1 = omega (arith, whole.many) in
      all_made (h.well, h.level) singles none_moved a v would ∙ fresh_left whole ∙ ap (λ (n : ℕ). n * s) but_one

  pub far_apart : moves_are_far_apart chip C
  far_apart i fresh t j run c k w is u l singles none_moved a v would =
      let h = counted chip roomy C obeys fresh run in
      let d = done chip roomy C obeys w h.well in
      let after = sane_then w (h.well, h.level) in
      let made = all_made after singles none_moved a v would in
      let began : left k ≡ between_moves (pages_in chip k) s (held (pages_of chip k)) = rw d.many (gives_again d is) in
      record { exactly = omega (arith, began, made); at_least = omega (arith, began, made, few_here after.0.1) }

  -- ---- as many changes as are rated

  module _ (most n : ℕ) where
    -- the changes from one move to the next, that one with them
    abbrev cycle : ℕ
    cycle = 1 + between_moves n s most

    -- Every move has been paid for: so many changes have been made, or are left, for each; and the last was made after so many.
    record Paid (t : Tally) (i : Image) : Type 0 where
      stands : Counted chip roomy C obeys t i
      many : pages_in chip i ≡ n
      enough : (n - 1) * s + t.moved * cycle ≤ t.changes + left i
      last_move : (m : ℕ) → t.moved ≡ suc m → (n - 1) * s + m * cycle < t.changes

    paid_write : (t : Tally) (ch : Change) {j k : Image} → Writes chip C ch j k → SingleHolding chip most ch k
        → Counted chip roomy C obeys (with_write chip ch j t) k → Paid t j → Paid (with_write chip ch j t) k
    paid_write t ch {j} {k} w such stands h =
        let d = done chip roomy C obeys w h.stands.well in
        let many = d.many ∙ h.many in
        by_cases (is_new_value chip ch j)
        (λ new.
        by_cases (is_move chip ch j)
        (λ is.
        let empty = no_more h.stands.well ch such.0 is in
        let again : left k ≡ between_moves n s (held (pages_of chip k)) = rw (← h.many) (gives_again d is) in
        let paid = h.enough in
        record {
          stands = stands;
          many = many;
          enough = rw (new, is, one_or_none true t.moved cycle) (omega (arith, such.1));
          last_move = λ m e.
              let it : m ≡ t.moved = (let f : 1 + t.moved ≡ suc m = rw is at e in omega arith) in
              rw (new, it) (omega arith);
        })
        (λ still.
        let took = took_one d such.0 new still in
        let paid = h.enough in
        record {
          stands = stands;
          many = many;
          enough = rw (new, still, one_or_none false t.moved cycle) (omega arith);
          last_move = λ m e. rw new (omega (arith, h.last_move m (let f : 0 + t.moved ≡ suc m = rw still at e in omega arith)));
        }))
        (λ old.
        let still = old_stays d old in
        record {
          stands = stands;
          many = many;
          enough = rw (old, still, one_or_none false t.moved cycle) (omega (arith, h.enough, ap (before_move s) (same_pages d old)));
          last_move = λ m e. rw old (omega (arith, h.last_move m (let f : 0 + t.moved ≡ suc m = rw still at e in omega arith)));
        })

    paid : {t : Tally} {i k : Image} → Fresh chip C i → pages_in chip i ≡ n → Steady chip C (SingleHolding chip most) t i k → Paid t k
    paid {i = i} fresh many begins =
        let l = laid chip roomy C obeys fresh in
        let gives = fresh_left l in
        let but_one : n - 1 ≡ l.others = omega (arith, l.many) in
        record {
          stands = counted chip roomy C obeys {Such = SingleHolding chip most} fresh begins;
          many = many;
          enough = rw (but_one, gives) (omega (arith, zero-mul cycle));
          last_move = λ m e. absurd (omega arith);
        }
    paid fresh many (written ch before w such) =
        paid_write _ ch w such (counted chip roomy C obeys fresh (written ch before w such)) (paid fresh many before)
    paid {t} fresh many (refused before o ch x y z ne) = subst (Paid t) (sym (stays chip roomy C obeys o ch x y z ne)) (paid fresh many before)
    paid {t} fresh many (recovered before x y z) =
        let h = paid fresh many before in subst (Paid t) (sym (recovery_leaves chip roomy C obeys _ h.stands.level x y z)) h

    -- so many changes make no more moves than are rated
    few_moves : (t : Tally) (i : Image) (rated : ℕ) → Paid t i → t.changes ≤ changes_rated n s most rated → t.moved ≤ moves_rated n rated
    few_moves t i rated h few = by_number t.moved refl
      where
        by_number : (k : ℕ) → t.moved ≡ k → k ≤ moves_rated n rated
        by_number zero e = omega arith
        by_number (suc m) e =
            let less : m * cycle < moves_rated n rated * cycle = omega (arith, h.last_move m e) in
            lt_of_mul-lt-mul_right cycle less

  pages_stay : {Such : Change → Image → Type 0} {t : Tally} {i k : Image} → Fresh chip C i → Steady chip C Such t i k → pages_in chip k ≡ pages_in chip i
  pages_stay fresh begins = refl
  pages_stay fresh (written ch before w such) =
      (done chip roomy C obeys w (counted chip roomy C obeys fresh before).well).many ∙ pages_stay fresh before
  pages_stay fresh (refused before o ch x y z ne) = ap (pages_in chip) (stays chip roomy C obeys o ch x y z ne) ∙ pages_stay fresh before
  pages_stay fresh (recovered before x y z) =
      ap (pages_in chip) (recovery_leaves chip roomy C obeys _ (counted chip roomy C obeys fresh before).level x y z) ∙ pages_stay fresh before

  -- as many moves as are rated wear no page further
  worn_as_rated : (n k w r : ℕ) → n * w < n + k * (n - 1) + n → k ≤ moves_rated n (suc r) → w ≤ suc r
  worn_as_rated n k w r less few =
      let times = mul-le-mul_right {m = k} {n = moves_rated n (suc r)} (n - 1) few in
      let part : moves_rated n (suc r) * (n - 1) ≤ n * r = (let z : suc r - 1 ≡ r = omega arith in rw z (div-mul-le_self (n * r) (n - 1))) in
      let whole : n * w < n * suc (suc r) = omega (arith, mul-suc n r, mul-suc n (suc r)) in
      omega (arith, lt_of_mul-lt-mul_left n whole)

  pub as_rated : lasts_as_rated chip C
  as_rated most rated least below i fresh t k run few p inside =
      let n = pages_in chip k in
      let h = paid most n fresh (sym (pages_stay fresh run)) run in
      let counts = h.stands in
      let wear = min (1 + t.erased p) 65535 in
      let r = rated - 1 in
      let is : rated ≡ suc r = omega arith in
      let worn : wear ≤ suc r =
      worn_as_rated n t.moved wear r (even_share chip roomy C obeys counts p wear (counts.counts p inside))
      (subst (λ (x : ℕ). t.moved ≤ moves_rated n x) is (few_moves most n t k rated h (omega (arith, few)))) in
      omega arith

pub box : what_the_box_may_say
box chip roomy C obeys =
    record {
      evenly = evenly chip roomy C obeys;
      first_move = first_move chip roomy C obeys;
      far_apart = far_apart chip roomy C obeys;
      as_rated = as_rated chip roomy C obeys;
    }
