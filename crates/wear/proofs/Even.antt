-- From a finished format on the flash wears evenly, whatever is written, while power does not fail. Assumes nothing.
use Prim.Native.Nat.{ℕ, zero, suc, ◌+◌, ◌-◌, ◌*◌, ◌≤◌, ◌<◌, min}
use mathlib.Core.Path.{◌≡◌, refl, sym, ap, ◌∙◌, subst, subst⁻¹}
use mathlib.Core.Bool.{Bool, true, false, cond}
use mathlib.Core.List.{List, [], ◌∷◌}
use mathlib.Core.Option.{Option, none, some}
use native.Mathlib.Nat.{mul-suc, suc-mul, zero-mul, mul-le-mul_left}
use native.Mathlib.Omega.{arith}
use lib.ListN.{length}
use lib.Seq.{take_all}
use lib.Dec.{leb}
use borrow.Author.Tests.{leb-true, leb-false}
use Rattle.rules.specs.Flash.{Step, run}
use Rattle.rules.specs.Page.{Form, size, Chip, in_edition, Page}
use Rattle.rules.specs.Store.{states, base, used, is_cleared, page_at, active_slots, or_value}
use Rattle.rules.specs.Steps.{one_more, greatest_wear, Change, settings_of, words_of, format_steps}
use Rattle.rules.specs.Call.{RoomyChip, form_of, page_count, pages, store_number, order_end, accepted, stepped, recover, Formatted, Stepped}
use Rattle.rules.proofs.Truth.{by_cases, not_both}
use Rattle.rules.proofs.Rows.{not_for_order}
use Rattle.rules.proofs.Stores.{used_not_cleared}
use Rattle.rules.proofs.Settings.{none_some}
use Rattle.rules.proofs.Cut.{pages_long}
use Rattle.rules.proofs.Phases.{Pages}
use Rattle.rules.proofs.Answers.{format_done, format_right}
use Rattle.rules.proofs.Good.{Frame, slots_in, changed}
use Rattle.rules.proofs.Healthy.{Healthy, c as frame_of, F as pages_as, pages_are, accepted_here, counted as counted_pages, write_run, write_pages, write_count}
use Rattle.rules.proofs.Healthy.{form_kept, form_told}
use Rattle.rules.proofs.Healthy.{format_pages, format_healthy}
use Rattle.promise.specs.Calls.{Image, Calls, Obeys}
use Rattle.promise.specs.History.{pages_of, write_of}
use Rattle.promise.specs.Corollaries.{moves}
use Rattle.promise.proofs.Owners.{stays}
use Rattle.promise.proofs.Kept.{Well, wrote_number, write_image, write_done}
use Rattle.wear.specs.Wear.{pages_in, Worn, wears, sum, erases_of, Tally, nothing_yet, with_write, is_move, Fresh, formatted, Writes, Steady, begins}
use Rattle.wear.specs.Wear.{written, refused, recovered, wears_evenly}
use Rattle.wear.proofs.Finished.{told_in, Wrote, wrote, finished_pages}
use Rattle.wear.proofs.Level.{Levelled, used_page, cleared_page, AllLevelled, Level, has_wear, stays_level, nothing_to_do}
use Rattle.wear.proofs.Sums.{Adds, adds}
use Rattle.wear.proofs.Between.{active_long}
use Rattle.wear.proofs.Orders.{ahead, ahead_then, orders_left}
use Rattle.wear.proofs.Erases.{erased_by, write_erases, wear_after}
use Rattle.wear.proofs.Fresh.{fresh_pages, fresh_level, fresh_worn, fresh_wears, fresh_ahead}

-- so often, and once more or not
pub one_or_none : (more : Bool) (k x : ℕ) → (cond more 1 0 + k) * x ≡ k * x + cond more x 0
one_or_none true k x = let e : 1 + k ≡ suc k = omega arith in ap (λ (y : ℕ). y * x) e ∙ suc-mul k x
one_or_none false k x = let e : 0 + k ≡ k = omega arith in ap (λ (y : ℕ). y * x) e ∙ omega arith

module _ (chip : Chip) (roomy : RoomyChip chip) (C : Calls) (obeys : Obeys chip C) where
  -- a healthy store
  abbrev pub Healthily : Image → Type 0
  Healthily i = (t : ℕ → Option ℕ) × Well chip roomy C obeys t i

  -- ---- a write that has finished

  -- the pages before it and after it, and which way it went
  pub record Done (ch : Change) (j k : Image) : Type 1 where
    pub frame : Frame
    pub before : Pages
    pub after : Pages
    pub were : pages_of chip j ≡ told_in frame before
    pub are : pages_of chip k ≡ told_in frame after
    pub went : Wrote frame ch before after
    pub slots_are : slots_in frame ≡ chip.slot_count
    pub long : length (active_slots (told_in frame before)) ≡ slots_in frame
    pub many : pages_in chip k ≡ pages_in chip j

  module _ {ch : Change} {j k : Image} (w : Writes chip C ch j k) where
    abbrev fm : Form
    fm = form_of chip j

    abbrev leaves : Image
    leaves = run (size fm) (write_of fm ch j) j

    left : leaves ≡ k
    left = sym (write_image chip roomy C obeys j w.owner ch w.allowance w.done w.called w.accepted w.finished) ∙ w.leaves

    pub done_well : Healthily j → Healthily k
    done_well h = (
      changed (settings_of ch) h.0,
      subst (Well chip roomy C obeys (changed (settings_of ch) h.0)) w.leaves
          (write_done chip roomy C obeys j w.owner ch w.allowance w.done w.called w.accepted w.finished h.1),
    )

    pub done : Healthily j → Done ch j k
    unfolding form_of
    done h =
        let x = h.1 in
        let ok = sym (wrote_number chip roomy C obeys j w.owner ch w.allowance w.done w.called) ∙ w.accepted in
        let same : form_of chip leaves ≡ fm = form_kept chip roomy.1 j (write_run x w.owner ch ok) in
        let F = pages_as x in
        subst (Done ch j) left
        (record {
          frame = frame_of x;
          before = F;
          after = finished_pages (frame_of x) ch h.0 F;
          were = pages_are x;
          are = ap (λ (f : Form). pages f leaves) same ∙ write_pages x w.owner ch ok;
          went = wrote (frame_of x) ch h.0 F (accepted_here x w.owner ch ok);
          slots_are = refl;
          long = active_long (frame_of x) x.has.journal F x.has.good;
          many = ap (λ (f : Form). page_count f leaves) same ∙ write_count x w.owner ch ok;
        })

  -- ---- a recovery between the writes

  -- where it has nothing to do, it leaves the image
  pub recovery_leaves : (i : Image) → Level (pages_of chip i) → (n : ℕ) (s : Stepped) → C.Recovers n i s → s.image ≡ i
  unfolding recover stepped run
  recovery_leaves i h n s x =
      let none = nothing_to_do (form_of chip i).edition (pages_of chip i) h in
      let idle : (recover (form_of chip i) n i).image ≡ i =
      by_cases (accepted (store_number (form_of chip i) i)) (λ a. rw (a, none, take_all {A = Step} n [] (omega arith))) (λ a. rw a) in
      ap (λ (r : Stepped). r.image) (obeys.recovers n i s x) ∙ idle

  -- ---- what is true after each write

  -- the pages, and what their wears should add up to
  abbrev n_of : Image → ℕ
  n_of i = pages_in chip i

  abbrev share : Tally → Image → ℕ
  share t i = n_of i + t.moved * (n_of i - 1)

  pub record Counted (t : Tally) (i : Image) : Type 0 where
    pub well : Healthily i
    pub level : Level (pages_of chip i)
    pub counts : (p : ℕ) → p < n_of i → Worn chip p (min (1 + t.erased p) 65535) i
    pub at_most : wears (pages_of chip i) ≤ share t i
    pub exactly : greatest_wear (pages_of chip i) < 65535 → wears (pages_of chip i) ≡ share t i
    pub grows : ahead (pages_of chip i) ≡ (n_of i - 1) + t.moved * (n_of i - 1)

  -- one move more, or none
  share_then : (n k : ℕ) (moves : Bool) → n + k * (n - 1) + cond moves (n - 1) 0 ≡ n + (cond moves 1 0 + k) * (n - 1)
  share_then n k moves = omega (arith, one_or_none moves k (n - 1))

  -- one erase more, or none
  wear_then : (b : Bool) (x m : ℕ) → m ≡ cond b 1 0 → cond b (one_more (min (1 + x) 65535)) (min (1 + x) 65535) ≡ min (1 + (m + x)) 65535
  wear_then true x m e = let f : m ≡ 1 = e in omega arith
  wear_then false x m e = let f : m ≡ 0 = e in omega arith

  -- the laws of a finished write, of images
  module _ {ch : Change} {j k : Image} (d : Done ch j k) where
    pub level_then : Level (pages_of chip j) → Level (pages_of chip k)
    level_then h = subst⁻¹ Level d.are (stays_level d.frame ch d.before d.after d.went (subst Level d.were h))

    adds_then : Level (pages_of chip j) → Adds (pages_of chip j) (pages_of chip k) (cond (is_move chip ch j) (n_of j - 1) 0)
    adds_then h =
        subst (λ (n : ℕ). Adds (pages_of chip j) (pages_of chip k) (cond (is_move chip ch j) (n - 1) 0)) (pages_long (form_of chip j) j)
        (rw (d.were, d.are) (adds d.frame ch d.before d.after d.went (subst Level d.were h)))

    ahead_after : ahead (pages_of chip k) ≡ ahead (pages_of chip j) + cond (is_move chip ch j) (n_of j - 1) 0
    ahead_after =
        subst (λ (n : ℕ). ahead (pages_of chip k) ≡ ahead (pages_of chip j) + cond (is_move chip ch j) (n - 1) 0) (pages_long (form_of chip j) j)
        (rw (d.were, d.are) (ahead_then d.frame ch d.before d.after d.went))

    worn_then : (p n : ℕ) → p < n_of j → Worn chip p n j → Worn chip p (cond (erased_by p ch (pages_of chip j)) (one_more n) n) k
    worn_then p n l is =
        rw (d.were, d.are)
        (wear_after d.frame ch d.before d.after d.went p (omega (arith, ap length d.were, pages_long (form_of chip j) j)) n
        (subst (λ (ps : List Page). (page_at p ps).wear ≡ some n) d.were is))

    counted_done : (t : Tally) → Healthily k → Counted t j → Counted (with_write chip ch j t) k
    counted_done t well h =
        let sums = adds_then h.level in
        let more = share_then (n_of j) t.moved (is_move chip ch j) in
        let many = d.many in
        record {
          well = well;
          level = level_then h.level;
          counts = λ p l.
              worn_then p (min (1 + t.erased p) 65535) (omega arith) (h.counts p (omega arith))
              ∙ ap some (wear_then (erased_by p ch (pages_of chip j)) (t.erased p) (erases_of p (write_of (form_of chip j) ch j))
              (write_erases p (form_of chip j).edition ch (pages_of chip j) (omega (arith, pages_long (form_of chip j) j))));
          at_most = rw many (omega (arith, sums.at_most, h.at_most));
          exactly = λ x. rw many (omega (arith, sums.exactly x, h.exactly (sums.none_had x)));
          grows = rw many (omega (arith, ahead_after, h.grows));
        }

  -- ---- a format that has finished

  -- its pages: the first, and one or more others
  pub record Laid (i : Image) : Type 1 where
    pub frame : Frame
    pub others : ℕ
    pub are : pages_of chip i ≡ fresh_pages frame others
    pub many : pages_in chip i ≡ suc others
    pub some : 1 ≤ others
    pub slots_are : slots_in frame ≡ chip.slot_count
    pub well : Healthily i

  pub laid : {i : Image} → Fresh chip C i → Laid i
  laid (formatted e i f x ok) =
      let is = obeys.formats e i f x in
      let fm = in_edition chip e in
      let w = format_right fm i (sym (ap (λ (g : Formatted). g.number) is.1) ∙ ok) in
      let image = run (size fm) (format_steps e (page_count fm i)) i in
      let h = format_healthy fm i w roomy.0 in
      let same : form_of chip image ≡ fm = form_told chip e is.0 h in
      let p = format_pages fm i w in
      subst Laid (sym (ap (λ (g : Formatted). g.image) (is.1 ∙ format_done fm i w)))
      (record {
        frame = frame_of h;
        others = p.0;
        are = ap (λ (g : Form). pages g image) same ∙ p.2;
        many = ap (λ (g : Form). page_count g image) same ∙ p.1;
        some = omega (arith, h.least, counted_pages h, p.1);
        slots_are = refl;
        well = ((λ x. none), subst (λ (g : Form). Healthy g (Unit {0}) (Unit {0}) (λ x. none) image) (sym same) h);
      })

  fresh_counted : {i : Image} → Fresh chip C i → Counted nothing_yet i
  fresh_counted {i} fresh =
      let l = laid fresh in
      let fr = l.frame in
      let none_moved = zero-mul (n_of i - 1) in
      let sum_is_lem = ap wears l.are ∙ fresh_wears fr l.others in
      record {
        well = l.well;
        level = subst⁻¹ Level l.are (fresh_level fr l.others);
        counts = λ p less. ap (λ (ps : List Page). (page_at p ps).wear) l.are ∙ fresh_worn fr l.others p (omega (arith, l.many));
        at_most = omega (arith, sum_is_lem, l.many);
        exactly = λ x. omega (arith, sum_is_lem, l.many);
        grows = omega (arith, ap ahead l.are ∙ fresh_ahead fr l.others, l.many);
      }

  pub counted : {Such : Change → Image → Type 0} {t : Tally} {i k : Image} → Fresh chip C i → Steady chip C Such t i k → Counted t k
  counted fresh begins = fresh_counted fresh
  counted fresh (written ch before w such) = let h = counted fresh before in counted_done (done w h.well) _ (done_well w h.well) h
  counted {t = t} fresh (refused before o ch n s x ne) = subst (Counted t) (sym (stays chip roomy C obeys o ch n s x ne)) (counted fresh before)
  counted {t = t} fresh (recovered before n s x) =
      let h = counted fresh before in subst (Counted t) (sym (recovery_leaves _ h.level n s x)) h

  -- ---- any two wears

  level_at : (b w t : ℕ) → w ≤ t → t ≤ w + 1 → (ps : List Page) → AllLevelled b w t ps → (p n : ℕ) → (page_at p ps).wear ≡ some n → (w ≤ n) × (n ≤ w + 1)
  unfolding AllLevelled
  level_at b w t l m [] h p n is = none_some refl is
  level_at b w t l m (x ∷ ps) h zero n is =
      let a = has_wear l m h.0 in
      let same : some n ≡ some a.0 = sym is ∙ a.1 in
      let it : n ≡ a.0 = cc in
      (omega (arith, a.2), omega (arith, a.3))
  level_at b w t l m (x ∷ ps) h (suc p) n is = level_at b w t l m ps h.1 p n is

  -- all together they are as many times the least, and what one page has more
  sum_from : (b w t : ℕ) → w ≤ t → t ≤ w + 1 → (ps : List Page) → AllLevelled b w t ps → length ps * w ≤ wears ps
  unfolding AllLevelled wears sum or_value
  sum_from b w t l m [] h = omega (arith, zero-mul w)
  sum_from b w t l m (x ∷ ps) h =
      let a = has_wear l m h.0 in
      let it : or_value x.wear 0 ≡ a.0 = ap (λ (o : Option ℕ). or_value o 0) a.1 in
      omega (arith, a.2, suc-mul (length ps) w, sum_from b w t l m ps h.1)

  sum_with : (b w t : ℕ) → w ≤ t → t ≤ w + 1 → (ps : List Page) → AllLevelled b w t ps → (p n : ℕ) → (page_at p ps).wear ≡ some n
      → length ps * w + n ≤ wears ps + w
  unfolding AllLevelled wears sum or_value
  sum_with b w t l m [] h p n is = none_some refl is
  sum_with b w t l m (x ∷ ps) h zero n is =
      let it : or_value x.wear 0 ≡ n = rw is in
      omega (arith, suc-mul (length ps) w, sum_from b w t l m ps h.1)
  sum_with b w t l m (x ∷ ps) h (suc p) n is =
      let a = has_wear l m h.0 in
      let it : or_value x.wear 0 ≡ a.0 = ap (λ (o : Option ℕ). or_value o 0) a.1 in
      omega (arith, a.2, suc-mul (length ps) w, sum_with b w t l m ps h.1 p n is)

  -- so none has more than one more than its even share
  below_share : (k w n s : ℕ) → 1 ≤ k → n ≤ w + 1 → k * w ≤ s → k * w + n ≤ s + w → k * n < s + k
  below_share k w n s there most all with_it =
      by_cases (leb n w)
      (λ l. omega (arith, mul-le-mul_left {m = n} {n = w} k (leb-true n w l)))
      (λ l.
      let one : n ≡ suc w = (let g = leb-false n w l in omega arith) in
      let product : k * n ≡ k * w + k = ap (λ (x : ℕ). k * x) one ∙ mul-suc k w in
      omega arith)

  pub even_share : {t : Tally} {i : Image} → Counted t i → (p w : ℕ) → Worn chip p w i → n_of i * w < share t i + n_of i
  even_share {t} {i} h p w is =
      let ps = pages_of chip i in
      let l = h.level in
      let b = base (states ps) in
      let many = pages_long (form_of chip i) i in
      let at = level_at b l.low l.top l.least l.most ps l.pages p w is in
      let there : 1 ≤ length ps = holds_some ps p w is in
      let below = below_share (length ps) l.low w (wears ps) there at.1 (sum_from b l.low l.top l.least l.most ps l.pages)
      (sum_with b l.low l.top l.least l.most ps l.pages p w is) in
      omega (arith, rw many at below, h.at_most)
    where
      holds_some : (ps : List Page) (p w : ℕ) → (page_at p ps).wear ≡ some w → 1 ≤ length ps
      holds_some [] p w is = none_some refl is
      holds_some (x ∷ ps) p w is = omega arith

  -- used pages are worn at most as the top, cleared ones at least
  used_at : (b w t : ℕ) (ps : List Page) → AllLevelled b w t ps → (p n : ℕ) → (page_at p ps).wear ≡ some n → used b (page_at p ps).state ≡ true → n ≤ t
  unfolding AllLevelled used
  used_at b w t [] h p n is u = none_some refl is
  used_at b w t (x ∷ ps) h zero n is u = one h.0
    where
      one : Levelled b w t x → n ≤ t
      one (used_page m has at l k) = let same : some n ≡ some m = sym is ∙ has in let it : n ≡ m = cc in omega arith
      one (cleared_page m has at l k c) = not_both (rw at at u) refl
  used_at b w t (x ∷ ps) h (suc p) n is u = used_at b w t ps h.1 p n is u

  cleared_at : (b w t : ℕ) (ps : List Page) → AllLevelled b w t ps → (p n : ℕ) → (page_at p ps).wear ≡ some n → is_cleared (page_at p ps).state ≡ true → t ≤ n
  unfolding AllLevelled
  cleared_at b w t [] h p n is u = none_some refl is
  cleared_at b w t (x ∷ ps) h zero n is u = one h.0
    where
      one : Levelled b w t x → t ≤ n
      one (used_page m has at l k) = not_both u (used_not_cleared b x.state at)
      one (cleared_page m has at l k c) = let same : some n ≡ some m = sym is ∙ has in let it : n ≡ m = cc in omega arith
  cleared_at b w t (x ∷ ps) h (suc p) n is u = cleared_at b w t ps h.1 p n is u

  -- the orders are not used up before a wear is
  orders_last : {t : Tally} {i : Image} → Counted t i → greatest_wear (pages_of chip i) < 65535 → (slots : ℕ) → order_end slots (pages_of chip i) ≡ false
  orders_last {t} {i} h below slots =
      let x = h.well.1 in
      orders_left (n_of i) t.moved slots (pages_of chip i) (pages_long (form_of chip i) i) (omega (arith, x.most, counted_pages x)) h.grows
      (h.exactly below) below

  pub evenly : wears_evenly chip C
  evenly i fresh t k steady =
      let h = counted fresh steady in
      let l = h.level in
      let ps = pages_of chip k in
      let b = base (states ps) in
      let at = level_at b l.low l.top l.least l.most ps l.pages in
      record {
        wear_counts_erases = h.counts;
        at_most_1_apart = λ p q v w x y. omega (arith, (at p v x).1, (at q w y).0);
        cleared_are_worn_most = λ p q v w x y u c.
            omega (arith, used_at b l.low l.top ps l.pages p v x u, cleared_at b l.low l.top ps l.pages q w y c);
        they_add_up = λ x. omega (arith, h.exactly x);
        even_share = λ p w x. omega (arith, even_share h p w x);
        orders_last = λ below o ch n s x told.
            not_for_order (form_of chip k) k o ch (orders_last h (omega (arith, below)) (length (words_of ch)))
            (sym (wrote_number chip roomy C obeys k o ch n s x) ∙ told);
        nothing_to_recover = nothing_to_do (form_of chip k).edition ps l;
      }
