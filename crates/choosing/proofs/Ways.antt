-- The way of a write by what the look told, test by test. Assumes nothing.
use Prim.Native.Nat.{ℕ, ◌+◌, ◌-◌, ◌%◌, ◌≤◌, ◌<◌}
use mathlib.Core.Path.{◌≡◌, refl, sym, ap, ◌∙◌, subst}
use mathlib.Core.Bool.{Bool, true, false, cond, not, ◌||◌}
use mathlib.Core.List.{List, [], ◌∷◌, map}
use native.Mathlib.Omega.{arith}
use lib.ListN.{length, length-append, length-map}
use lib.Dec.{eqb, leb}
use borrow.Author.Tests.{eqb-true, eqb-false, leb-true, not-false, eq-eqb, ne_eqb, le-leb, lt-leb}
use Rattle.std.proofs.Common.{Ok, Err, IsSome}
use Rattle.rules.specs.Word.{mark_word}
use Rattle.rules.specs.Page.{Form, size, State}
use Rattle.rules.specs.Store.{index, states, base, used, used_orders, active_index, active_page, active_slots, has_room, open_group, count, is_cleared, Setting}
use Rattle.rules.specs.Store.{setting, free_slot, least_worn}
use Rattle.rules.specs.Steps.{unclean, Change, group, settings_of, words_of, record_of, all_values, way, new_page, taken, next_order}
use Rattle.rules.specs.Owner.{Owner, a_foreign}
use Rattle.rules.specs.Call.{page_count, pages, wrong_size, store_number, write_number, is_unclean, wrong_group, a_wrong_address, no_room}
use Rattle.rules.specs.Call.{repeats, all_used, damaged, crowded, order_end, order_limit, UNCLEAN, ADDRESS, GROUP, OWNER, triples, group_of}
use Rattle.rules.proofs.Cut.{page_within, pages_long}
use Rattle.rules.proofs.Truth.{by_cases, and_left, or_false_left, or_false_right}
use Rattle.rules.proofs.Groups.{grouped}
use Rattle.rules.proofs.Stores.{length_states, taken_at, count_all}
use Rattle.rules.proofs.Ready.{right_sizes, size_right, undamaged, active_within, taken_within}
use Rattle.rules.proofs.Answers.{write_store, write_unclean, write_group, write_last, write_foreign, write_same, write_full, write_end, write_ok}
use Rattle.changes.specs.declared.change.Change.{Change as Bytes}
use Rattle.changes.specs.Read.{as_change}
use Rattle.changes.specs.Entries.{byte_address, byte_value, change_of, Lent}
use Rattle.changes.proofs.Entries.{entry, from_entry, none_behind, length_triples}
use Rattle.survey.specs.declared.Role.{Role}
use Rattle.survey.specs.declared.Look.{Look}
use Rattle.survey.specs.declared.refusal.Refusal.TheVariants.{NoRoom, OrderEnd}
use Rattle.survey.specs.Look.{Told, roles_of}
use Rattle.survey.proofs.Slots.{slots_are, slots_many}
use Rattle.survey.specs.declared.refusal.Refusal.{Refusal}
use Rattle.survey.specs.Refusals.{number_of}
use Rattle.survey.proofs.Refusals.{is_refusal}
use Rattle.survey.proofs.Looking.{counted}
use Rattle.store.specs.declared.Store.{Store}
use Rattle.store.specs.Opened.{Holding}
use Rattle.choosing.specs.declared.Known.{Known}
use Rattle.choosing.specs.declared.Way.TheVariants.{Stay, Append, Open, Move}
use Rattle.choosing.specs.Candidate.{chosen, index_in}
use Rattle.choosing.specs.Known.{Knows}
use Rattle.choosing.specs.Way.{Fitting, Chosen, Passed, new_page_of}
use Rattle.choosing.proofs.Candidates.{least_roles}

-- ---- a new page

module _ (rs : List Role) (n o : ℕ) where
  pub page_end : o ≡ 4194303 → Err OrderEnd ≡ new_page_of rs n o
  unfolding new_page_of
  page_end e = rw (eq-eqb o order_limit e)

  module _ (ne : o ≡ 4194303 → ⊥) (p : ℕ) (ep : p ≡ index (chosen rs)) where
    pub page_move : n < 2 → Ok (Move p (o + 1)) ≡ new_page_of rs n o
    unfolding new_page_of
    page_move l = rw (← ep, ne_eqb o order_limit ne, lt-leb 2 n l)

    pub page_open : 2 ≤ n → Ok (Open p (o + 1)) ≡ new_page_of rs n o
    unfolding new_page_of
    page_open l = rw (← ep, ne_eqb o order_limit ne, le-leb 2 n l)

-- ---- the change that lent bytes are

-- its settings, and how many words it takes, unless it is refused as GROUP
module _ (e : ℕ) (s : List ℕ) where
  grouped_three : wrong_group e (group_of s) ≡ false → eqb (length s % 3) 0 ≡ true
  unfolding group_of
  grouped_three g =
      by_cases (eqb (length s % 3) 0) (λ t. t)
      (λ t. absurd (none_there (grouped e [] (rw t at g)).least))
    where
      none_there : 1 ≤ length {A = Setting} [] → ⊥
      none_there l = omega arith

  pub group_is : wrong_group e (group_of s) ≡ false → group_of s ≡ group (triples s)
  unfolding group_of
  group_is g = rw (grouped_three g)

pub single_is : (s : List ℕ) → length s ≡ 3 → triples s ≡ setting (byte_address s 0) (byte_value s 0) ∷ []
single_is s l =
    from_entry s 0 (omega arith) ∙ ap (λ (rs : List Setting). entry s 0 ∷ rs) (none_behind s 1 (omega arith))

pub change_settings : (e : ℕ) (marks : Bool) (s : List ℕ) → Lent marks s → wrong_group e (change_of marks s) ≡ false
    → settings_of (change_of marks s) ≡ triples s
unfolding change_of settings_of
change_settings e true s l g = ap settings_of (group_is e s g)
change_settings e false s l g = sym (single_is s (l refl))

pub change_short : (e : ℕ) (marks : Bool) (s : List ℕ) → Lent marks s → wrong_group e (change_of marks s) ≡ false → length s ≤ 26
unfolding change_of
change_short e true s l g =
    let t = length_triples s in
    let m = (grouped e (triples s) (sym (ap (wrong_group e) (group_is e s g)) ∙ g)).most in
    omega arith
change_short e false s l g = omega (arith, l refl)

pub change_many : (e : ℕ) (marks : Bool) (s : List ℕ) → Lent marks s → wrong_group e (change_of marks s) ≡ false
    → length (words_of (change_of marks s)) ≡ cond marks (length (triples s) + 2) (length (triples s))
unfolding change_of words_of
change_many e true s l g =
    let rs = triples s in
    ap (λ (c : Change). length (words_of c)) (group_is e s g)
    ∙ (let a = length-append (map record_of rs) (mark_word (128 + length rs) ∷ []) in let b = length-map rs record_of in omega arith)
change_many e false s l g = ap length (sym (single_is s (l refl)))

-- ---- by what the look told

module _ {fm : Form} {i : List ℕ} {look : Look} (t : Told fm i look) (ok : store_number fm i ≡ 0) where
  abbrev all : List State
  all = states (pages fm i)

  sized : wrong_size fm i ≡ false
  sized = size_right fm i ok

  all_long : length all ≡ look.count
  all_long = length_states (pages fm i) ∙ pages_long fm i ∙ sym t.counts

  few : length all ≤ 32
  few = omega (arith, all_long, t.counts, (right_sizes fm i sized).most)

  pub used_few : look.used + look.cleared ≤ 32
  used_few = omega (arith, counted t, all_long, few)

  pub some_unclean : look.used + look.cleared < look.count → is_unclean (pages fm i) ≡ true
  unfolding is_unclean
  some_unclean l = let e = counted t in rw (ne_eqb (count (unclean (base all)) all) 0 (λ z. omega arith))

  pub by_group : (g : Bool) → g ≡ open_group (pages fm i) → look.count ≤ look.used + look.cleared → is_unclean (pages fm i) ≡ g
  unfolding is_unclean
  by_group g e l = let n = counted t in rw (eq-eqb (count (unclean (base all)) all) 0 (omega arith)) (sym e)

  -- ---- the slots of the active page

  slots_long : length (active_slots (pages fm i)) ≡ fm.slot_count
  unfolding active_slots active_page
  slots_long =
      let w = active_within fm i ok in
      let s = (right_sizes fm i sized).sized in
      let inside = page_within (size fm) (page_count fm i) (active_index all) w in
      ap length (slots_are fm (active_index all) i w) ∙ slots_many fm (active_index all) i (omega arith)

  there_is_room : (n : ℕ) → look.free + n ≤ fm.slot_count → has_room n (pages fm i) ≡ true
  unfolding has_room
  there_is_room n l = rw (← t.free, slots_long, le-leb (look.free + n) fm.slot_count l)

  no_slots : (n : ℕ) → fm.slot_count < look.free + n → has_room n (pages fm i) ≡ false
  unfolding has_room
  no_slots n l = rw (← t.free, slots_long, lt-leb (look.free + n) fm.slot_count l)

  -- an open group has a free slot behind it
  pub open_slot : open_group (pages fm i) ≡ true → look.free < fm.slot_count
  unfolding open_group has_room
  open_slot o =
      let l = leb-true (free_slot (active_slots (pages fm i)) + 1) (length (active_slots (pages fm i))) (and_left _ _ o) in
      omega (arith, slots_long, t.free)

  -- ---- the page of least wear

  cleared_some : is_unclean (pages fm i) ≡ false → count is_cleared all ≡ 0 → ⊥
  unfolding is_unclean damaged all_used
  cleared_some clean z =
      let rest = or_false_right (repeats (used_orders (base all) all)) _ (undamaged fm i ok) in
      let ne = eqb-false (count (used (base all)) all) (length all) (or_false_left (all_used all) _ rest) in
      let none = eqb-true (count (unclean (base all)) all) 0 (not-false _ (or_false_left (not (eqb (count (unclean (base all)) all) 0)) _ clean)) in
      ne (omega (arith, count_all (base all) all))

  pub some_taken : is_unclean (pages fm i) ≡ false → IsSome (index_in (chosen (roles_of look)))
  some_taken clean =
      subst (λ rs. IsSome (index_in (chosen rs))) (sym t.roles)
      (subst (λ a. IsSome (index_in a)) (sym (least_roles (base all) 0 all ∙ (taken_at 0 (pages fm i) (cleared_some clean)).place)) refl)

  taken_is : index (chosen (roles_of look)) ≡ index (least_worn 0 all)
  taken_is = ap (λ (rs : List Role). index (chosen rs)) t.roles ∙ ap index (least_roles (base all) 0 all)

  -- ---- new records

  module _ (owner : Owner) (c : Change) (clean : is_unclean (pages fm i) ≡ false) (right : wrong_group fm.edition c ≡ false)
      (far : a_wrong_address (settings_of c) ≡ false) (own : a_foreign owner (settings_of c) ≡ false)
      (new : all_values (settings_of c) (pages fm i) ≡ false)
      (room : (no_room (settings_of c) (pages fm i) || crowded owner (settings_of c) (pages fm i)) ≡ false) where
    pub appends : look.free + length (words_of c) ≤ fm.slot_count → Chosen fm owner c i (Ok (Append look.active look.free))
    unfolding way order_end Fitting
    appends l =
        let f = there_is_room (length (words_of c)) l in
        let w = active_within fm i ok in (
          write_ok fm owner c i ok clean right far own new room (rw f),
          rw (new, f, t.active, t.free),
          (omega (arith, t.active, (right_sizes fm i sized).most), l),
        )

    -- the page of least wear, opened or moved to
    pub opens_page : fm.slot_count < look.free + length (words_of c) → Chosen fm owner c i (new_page_of (roles_of look) look.cleared look.order)
    unfolding new_page_of way new_page taken next_order order_end Fitting
    opens_page l =
        let f = no_slots (length (words_of c)) l in
        let p = taken_is in
        let w = taken_within fm i ok clean in
        let most = (right_sizes fm i sized).most in
        let inside : index (chosen (roles_of look)) < 32 = omega arith in
        by_cases (eqb look.order order_limit)
        (λ o. rw o (write_end fm owner c i ok clean right far own new room (rw (f, ← t.order) o)))
        (λ o.
        let next : look.order + 1 < 4194304 = omega (arith, eqb-false look.order order_limit o, t.fits) in
        let accepted = write_ok fm owner c i ok clean right far own new room (rw (f, ← t.order) o) in
        by_cases (leb 2 look.cleared)
        (λ d. rw (o, d) (accepted, rw (new, f, ← t.clears, d, ← p, ← t.order), (inside, next)))
        (λ d. rw (o, d) (accepted, rw (new, f, ← t.clears, d, ← p, ← t.order), (inside, next))))

-- ---- what refuses the image

pub refused_store : (fm : Form) (o : Owner) (i : List ℕ) (c : Change) (e : Refusal) → store_number fm i ≡ number_of e → write_number fm o c i ≡ number_of e
refused_store fm o i c e is = write_store fm o c i (λ z. is_refusal e (sym is ∙ z)) ∙ is

-- ---- the tests before the table is asked, in the code's order

module _ {fm : Form} {i : List ℕ} {s : Store} {t : List Setting} (h : Holding fm i s t) (o : Owner) (ch : Bytes) where
  abbrev c : Change
  c = as_change ch

  abbrev bytes : List ℕ
  bytes = ch.entries.now

  pub refused_unclean : s.look.used + s.look.cleared < s.look.count → write_number fm o c i ≡ UNCLEAN
  refused_unclean l = write_unclean fm o c i h.accepted (some_unclean h.told h.accepted l)

  module _ (m : s.look.count ≤ s.look.used + s.look.cleared) where
    unclean_is : is_unclean (pages fm i) ≡ s.group
    unclean_is = by_group h.told h.accepted s.group h.grouped m

    pub refused_open : s.group ≡ true → write_number fm o c i ≡ UNCLEAN
    refused_open g = write_unclean fm o c i h.accepted (unclean_is ∙ g)

    module _ (closed : s.group ≡ false) where
      clean : is_unclean (pages fm i) ≡ false
      clean = unclean_is ∙ closed

      pub refused_group : wrong_group fm.edition c ≡ true → write_number fm o c i ≡ GROUP
      refused_group w = write_group fm o c i h.accepted clean w

      module _ (right : wrong_group fm.edition c ≡ false) where
        same_settings : settings_of c ≡ triples bytes
        same_settings = change_settings fm.edition ch.marks bytes ch.lent right

        pub refused_address : a_wrong_address (triples bytes) ≡ true → write_number fm o c i ≡ ADDRESS
        refused_address w = write_last fm o c i h.accepted clean right (ap a_wrong_address same_settings ∙ w)

        module _ (far : a_wrong_address (triples bytes) ≡ false) where
          pub refused_owner : a_foreign o (triples bytes) ≡ true → write_number fm o c i ≡ OWNER
          refused_owner w =
              write_foreign fm o c i h.accepted clean right (ap a_wrong_address same_settings ∙ far) (ap (a_foreign o) same_settings ∙ w)

          pub passed : a_foreign o (triples bytes) ≡ false → Passed fm o c (triples bytes) i
          passed own = record { clean = clean; grouped = right; addressed = far; owned = own }

-- ---- what comes behind them

module _ {fm : Form} {i : List ℕ} {s : Store} {t : List Setting} (h : Holding fm i s t) {o : Owner} (ch : Bytes)
    (p : Passed fm o (as_change ch) (triples ch.entries.now) i) where
  abbrev written : Change
  written = as_change ch

  abbrev rs : List Setting
  rs = triples ch.entries.now

  settings_same : settings_of written ≡ rs
  settings_same = change_settings fm.edition ch.marks ch.entries.now ch.lent p.grouped

  far : a_wrong_address (settings_of written) ≡ false
  far = ap a_wrong_address settings_same ∙ p.addressed

  own : a_foreign o (settings_of written) ≡ false
  own = ap (a_foreign o) settings_same ∙ p.owned

  pub short : length ch.entries.now ≤ 26
  short = change_short fm.edition ch.marks ch.entries.now ch.lent p.grouped

  module _ {k : Known} (knows : Knows (pages fm i) rs k) where
    same_is : all_values (settings_of written) (pages fm i) ≡ k.same
    same_is = ap (λ (qs : List Setting). all_values qs (pages fm i)) settings_same ∙ sym knows.same

    pub stays : k.same ≡ true → Chosen fm o written i (Ok Stay)
    unfolding way Fitting
    stays same =
        let e = same_is ∙ same in
        (write_same fm o written i h.accepted p.clean p.grouped far own e, rw e, tt)

    module _ (new : k.same ≡ false) {full : Bool} (told : full ≡ (no_room rs (pages fm i) || crowded o rs (pages fm i))) where
      other : all_values (settings_of written) (pages fm i) ≡ false
      other = same_is ∙ new

      room_is : (no_room (settings_of written) (pages fm i) || crowded o (settings_of written) (pages fm i)) ≡ full
      room_is = ap (λ (qs : List Setting). no_room qs (pages fm i) || crowded o qs (pages fm i)) settings_same ∙ sym told

      pub refused_room : full ≡ true → Chosen fm o written i (Err NoRoom)
      refused_room f = write_full fm o written i h.accepted p.clean p.grouped far own other (room_is ∙ f)

      module _ (room : full ≡ false) {n : ℕ} (many : n ≡ cond ch.marks (length rs + 2) (length rs)) where
        words_many : n ≡ length (words_of written)
        words_many = many ∙ sym (change_many fm.edition ch.marks ch.entries.now ch.lent p.grouped)

        pub programs : n ≤ fm.slot_count - s.look.free → Chosen fm o written i (Ok (Append s.look.active s.look.free))
        programs l =
            appends h.told h.accepted o written p.clean p.grouped far own other (room_is ∙ room) (omega (arith, words_many, h.told.room))

        pub takes_page : fm.slot_count - s.look.free < n → Chosen fm o written i (new_page_of (roles_of s.look) s.look.cleared s.look.order)
        takes_page l =
            opens_page h.told h.accepted o written p.clean p.grouped far own other (room_is ∙ room) (omega (arith, words_many, h.told.room))
