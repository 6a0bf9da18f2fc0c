-- The wear that a recovery gives a page, and that a page which lost its wear comes back with the greatest. Assumes nothing.
use Prim.Native.Nat.{ℕ, zero, suc, ◌+◌, ◌≤◌, ◌<◌}
use mathlib.Core.Path.{◌≡◌, refl, sym, ap, ap₂, ◌∙◌, subst}
use mathlib.Core.Logic.{◌⊎◌, inl, inr, ⊎_elim}
use mathlib.Core.Bool.{Bool, true}
use mathlib.Core.List.{List, [], ◌∷◌, ◌++◌, append_assoc}
use mathlib.Core.Option.{none, some}
use native.Mathlib.Omega.{arith}
use lib.ListN.{length, length-map}
use lib.Seq.{get_or_at}
use lib.Dec.{leb}
use borrow.Author.Tests.{leb-true, leb-false}
use Rattle.rules.specs.Flash.{Step, erase, run}
use Rattle.rules.specs.Word.{Word, mark_word}
use Rattle.rules.specs.Page.{Form, word_count, size, wear_part, wear_in, State, cleared, bad, Page, page, state_by, state}
use Rattle.rules.specs.Store.{states, greatest, base, used, is_cleared, no_page, page_at, count, or_value}
use Rattle.rules.specs.Store.{index, Setting, journal, active_index, active_slots, free_slot, open_group}
use Rattle.rules.specs.Steps.{renew, one_more, renewed_wear, greatest_wear, renew_picked, unclean, abandon_steps, recovery_steps, taken}
use Rattle.rules.specs.Call.{Roomy, cut, page_count, pages, store_number, OK}
use Rattle.rules.proofs.Truth.{by_cases}
use Rattle.rules.proofs.Settings.{none_some}
use Rattle.rules.proofs.Cut.{cut_length, pages_long}
use Rattle.rules.proofs.Phases.{Pages, store_run, store_run_append}
use Rattle.rules.proofs.Told.{told, told_amid, page_told}
use Rattle.rules.proofs.Pages.{cleared_is, fresh_cleared}
use Rattle.rules.proofs.Stores.{cleared_or_not, taken_at, bad_cleared, taken_least}
use Rattle.rules.proofs.Renewing.{fresh, renew_run, rest_steps}
use Rattle.rules.proofs.Wears.{fresh_wear, beside, Erased, erased_at, is_erased, past_slots}
use Rattle.rules.proofs.Good.{Frame, Good}
use Rattle.rules.proofs.Recovering.{picks, begun, begins_as, begun_wears, begun_elsewhere, begun_long}
use Rattle.rules.proofs.Healthy.{accepted_frame, accepted_good, recovery_part}
use Rattle.promise.specs.Calls.{Image}
use Rattle.promise.specs.History.{recovery_of}
use Rattle.promise.specs.Corollaries.{Rewears, each_wear_follows_the_rule, Greatest, PassedOver, ComesBack}
use Rattle.promise.specs.Corollaries.{a_lost_wear_comes_back_greatest}

-- ---- a page at its index

page_amid : (edition : ℕ) (f : Pages) (x : List Word) (r : Pages) (p : ℕ) → length f ≡ p → page_at p (told edition (f ++ x ∷ r)) ≡ page edition x
page_amid edition f x r p e =
    ap (page_at p) (told_amid edition f x r) ∙ get_or_at (told edition f) (page edition x) (told edition r) _ p (length-map f (page edition) ∙ e)

page_beside : (edition : ℕ) (f : Pages) (x y : List Word) (r : Pages) (q : ℕ) → (q ≡ length f → ⊥)
    → page_at q (told edition (f ++ x ∷ r)) ≡ page_at q (told edition (f ++ y ∷ r))
page_beside edition f x y r q ne =
    ap (page_at q) (told_amid edition f x r)
    ∙ beside (told edition f) (page edition x) (page edition y) (told edition r) q _ (λ e. ne (e ∙ length-map f (page edition)))
    ∙ ap (page_at q) (sym (told_amid edition f y r))

wear_upto : (q n : ℕ) (ps : List Page) → (page_at q ps).wear ≡ some n → n ≤ greatest_wear ps
unfolding greatest_wear greatest or_value
wear_upto q n [] e = none_some refl e
wear_upto zero n (p ∷ ps) e = let z : or_value p.wear 0 ≡ n = rw e in omega arith
wear_upto (suc q) n (p ∷ ps) e = let rest = wear_upto q n ps e in omega arith

-- ---- cleared pages

-- where one is
abbrev ClearedAt : List Page → ℕ → ℕ → Type 0
ClearedAt ps q n = (page_at q ps).state ≡ cleared n

wear_cleared : (edition : ℕ) (F : Pages) (q n : ℕ) → ClearedAt (told edition F) q n → (page_at q (told edition F)).wear ≡ some n
unfolding page wear_in wear_part
wear_cleared edition [] q n e = bad_cleared e
wear_cleared edition (x ∷ F) zero n e = let c = cleared_is edition x n e in rw (c.form, c.wear, c.worn)
wear_cleared edition (x ∷ F) (suc q) n e = wear_cleared edition F q n e

somewhere : (ps : List Page) → 1 ≤ count is_cleared (states ps) → (q : ℕ) × (n : ℕ) × ClearedAt ps q n
unfolding count states
somewhere [] h = absurd (omega arith)
somewhere (p ∷ ps) h =
    ⊎_elim (λ (c : (n : ℕ) × (p.state ≡ cleared n)). (0, c.0, c.1))
    (λ c. let rest = somewhere ps (let l = rw c.0 at h in omega arith) in (suc rest.0, rest.1, rest.2)) (cleared_or_not p.state)

-- of two, one is elsewhere
elsewhere : (k : ℕ) (ps : List Page) → 2 ≤ count is_cleared (states ps) → (q : ℕ) × (n : ℕ) × (q ≡ k → ⊥) × ClearedAt ps q n
unfolding count states
elsewhere k [] h = absurd (omega arith)
elsewhere zero (p ∷ ps) h =
    let rest = somewhere ps (by_cases (is_cleared p.state) (λ t. let l = rw t at h in omega arith) (λ t. let l = rw t at h in omega arith)) in
    (suc rest.0, rest.1, λ e. omega arith, rest.2)
elsewhere (suc k) (p ∷ ps) h =
    ⊎_elim (λ (c : (n : ℕ) × (p.state ≡ cleared n)). (0, c.0, λ e. omega arith, c.1))
    (λ c.
    let rest = elsewhere k ps (let l = rw c.0 at h in omega arith) in
    (suc rest.0, rest.1, λ e. rest.2 (omega arith), rest.3))
    (cleared_or_not p.state)

-- ---- the page that is taken is worn least

-- one that is worn more than every other page is passed over while another is cleared
passed_over : (edition : ℕ) (F : Pages) (p w : ℕ) → ClearedAt (told edition F) p w → Greatest p w (told edition F) → PassedOver p (told edition F)
unfolding taken index
passed_over edition F p w is most two e =
    let ps = told edition F in
    let o = elsewhere p ps two in
    let less : o.1 < w = most o.0 o.1 o.2 (wear_cleared edition F o.0 o.1 o.3) in
    let t = taken_at 0 ps (λ z. omega arith) in
    let least : t.wear ≤ o.1 = taken_least 0 (0 + length t.front) t.wear ps t.place o.0 o.1 o.3 in
    let here : length t.front ≡ p = (let i : 0 + length t.front ≡ p = sym (ap index t.place) ∙ e in omega arith) in
    let it : page_at p ps ≡ t.page = ap (page_at p) t.form ∙ get_or_at t.front t.page t.rest _ p here in
    let same : cleared t.wear ≡ cleared w = sym t.is_cleared ∙ ap (λ (q : Page). q.state) (sym it) ∙ is in
    let worn : t.wear ≡ w = cc in
    omega arith

-- ---- the wear that a recovery gives a page

-- to end a group nothing is erased
past_abandon : (ps : List Page) (rest before : List Step) (p : ℕ) (after : List Step) → abandon_steps ps ++ rest ≡ before ++ erase p ∷ after
    → (b : List Step) × (before ≡ abandon_steps ps ++ b) × (rest ≡ b ++ erase p ∷ after)
unfolding abandon_steps
past_abandon ps rest before p after e =
    by_cases (open_group ps)
    (λ o. rw o (past_slots (active_index (states ps)) (free_slot (active_slots ps)) (mark_word 0 ∷ []) rest before p after (rw o at e)))
    (λ o. rw o (before, refl, rw o at e))

module _ (fm : Form) (roomy : Roomy fm) (i : Image) (ok : store_number fm i ≡ OK) where
  abbrev edition : ℕ
  edition = fm.edition

  -- the words of a page behind the first
  abbrev k' : ℕ
  k' = suc (suc fm.slot_count)

  -- the pages as words, and that they are a good store
  abbrev F : Pages
  F = cut (size fm) (page_count fm i) i

  abbrev c : Frame
  c = accepted_frame fm roomy ⊥ i ok

  abbrev J : List Setting
  J = journal (pages fm i)

  abbrev good : Good c J F
  good = accepted_good fm roomy ⊥ i ok (λ z. absurd z)

  -- which pages are renewed, and the pages when that begins
  abbrev picked : ℕ → State → Bool
  picked = picks c J F good

  abbrev G : Pages
  G = begun c J F good

  -- what is programmed before, to end an open group
  abbrev abandon : List Step
  abandon = abandon_steps (told edition F)

  recovery_is : recovery_of fm i ≡ abandon ++ rest_steps edition k' picked (greatest_wear (told edition F)) 0 G
  unfolding pages
  recovery_is = begins_as c J F good

  module _ (before : List Step) (p : ℕ) (after : List Step) (e : recovery_of fm i ≡ before ++ erase p ∷ after) where
    later : (b : List Step) × (before ≡ abandon ++ b) × (rest_steps edition k' picked (greatest_wear (told edition F)) 0 G ≡ b ++ erase p ∷ after)
    later = past_abandon (told edition F) _ before p after (sym recovery_is ∙ e)

    erased : Erased edition k' picked G later.0 p after
    erased =
        (erased_at edition k' picked (greatest_wear (told edition F)) [] G (ap one_more (sym (begun_wears c J F good))) later.0 p after later.2).1

    -- the pages with x in its place, the others as they are by then
    abbrev with_page : List Word → Pages
    with_page x = erased.front ++ x ∷ erased.rest

    abbrev wear : ℕ
    wear = renewed_wear (greatest_wear (told edition (with_page erased.here))) (wear_in edition erased.here)

    steps : recovery_of fm i ≡ before ++ renew edition p wear ++ erased.behind
    unfolding renew
    steps =
        e ∙ ap (λ (ss : List Step). before ++ erase p ∷ ss) erased.gets
        ∙ sym (append_assoc before (renew edition p wear) erased.behind)

    run_then : store_run (word_count fm) before F ≡ with_page erased.here
    run_then =
        ap (λ (ss : List Step). store_run (word_count fm) ss F) later.1 ∙ store_run_append (word_count fm) abandon later.0 F ∙ erased.by_then

    -- the pages just before its erase, and when its wear word is whole
    pages_then : pages fm (run (size fm) before i) ≡ told edition (with_page erased.here)
    pages_then = recovery_part fm roomy i ok before (erase p ∷ after) e ∙ ap (told edition) run_then

    pages_next : pages fm (run (size fm) (before ++ renew edition p wear) i) ≡ told edition (with_page (fresh edition k' wear))
    pages_next =
        recovery_part fm roomy i ok (before ++ renew edition p wear) erased.behind steps
        ∙ ap (told edition) (store_run_append (word_count fm) before (renew edition p wear) F
        ∙ ap (store_run (word_count fm) (renew edition p wear)) run_then
        ∙ ap (λ (k : ℕ). store_run (word_count fm) (renew edition k wear) (with_page erased.here)) (sym erased.place)
        ∙ renew_run edition k' erased.front erased.here erased.rest wear)

    own : page_at p (pages fm i) ≡ page edition erased.here
    unfolding pages
    own =
        let there = erased.as_it_was in
        let same = begun_elsewhere c J F good p (subst (λ (x : List Word). picked p (state edition x) ≡ true) (sym there) erased.picked) in
        page_told edition F p (omega (arith, erased.inside, begun_long c J F good)) ∙ ap (page edition) (sym same ∙ there)

    rewears : Rewears fm i before p after
    unfolding page
    rewears =
        record {
          wear = wear;
          rest = erased.behind;
          wear_word_next = erased.gets;
          as_it_was = ap (page_at p) pages_then ∙ page_amid edition erased.front erased.here erased.rest p erased.place ∙ sym own;
          by_the_rule = ap₂ renewed_wear (ap greatest_wear (sym pages_then)) (ap (λ (q : Page). q.wear) (sym own));
        }

    -- of a page that has no wear
    module _ (lost : (page_at p (pages fm i)).wear ≡ none) where
      is_more : wear ≡ one_more (greatest_wear (told edition (with_page erased.here)))
      unfolding renewed_wear or_value page
      is_more = let e = sym (ap (λ (q : Page). q.wear) own) ∙ lost in rw e

      wears_most : let ps = told edition (with_page (fresh edition k' wear)) in (wear ≡ 65535) ⊎ (Greatest p wear ps × PassedOver p ps)
      unfolding page
      wears_most =
          let g = greatest_wear (told edition (with_page erased.here)) in
          let q = fresh edition k' wear in
          let w = is_more in
          by_cases (leb 65535 (g + 1)) (λ t. inl (let l = leb-true 65535 (g + 1) t in omega arith))
          (λ t.
          let l = leb-false 65535 (g + 1) t in
          let most : Greatest p wear (told edition (with_page q)) =
          λ x m ne e. (let b = page_beside edition erased.front erased.here q erased.rest x (λ z. ne (z ∙ erased.place)) in
          let h = wear_upto x m (told edition (with_page erased.here)) (ap (λ (q : Page). q.wear) b ∙ e) in
          omega arith) in
          let it = ap (λ (q : Page). q.state) (page_amid edition erased.front q erased.rest p erased.place) ∙ fresh_cleared edition wear k' in
          inr (most, passed_over edition (with_page q) p wear it most))

      comes_back : ComesBack fm i p
      unfolding page
      comes_back =
          let q = fresh edition k' wear in
          let it = ap (λ (q : Page). q.wear) (page_amid edition erased.front q erased.rest p erased.place) ∙ fresh_wear edition k' wear in
          record { before = before; after = erased.behind; wear = wear; steps = steps; wears_most = rw pages_next (it, wears_most) }

  -- and such a page is erased
  lost_erased : (p : ℕ) → p < page_count fm i → (page_at p (pages fm i)).wear ≡ none
      → (before : List Step) × (after : List Step) × (recovery_of fm i ≡ before ++ erase p ∷ after)
  unfolding recovery_steps renew_picked pages page state state_by unclean used is_cleared
  lost_erased p inside lost =
      let ps = pages fm i in
      let it = page_told edition F p (omega (arith, cut_length (size fm) (page_count fm i) i, inside)) in
      let none_there = sym (ap (λ (q : Page). q.wear) it) ∙ lost in
      let is_bad : (page_at p ps).state ≡ bad = ap (λ (q : Page). q.state) it ∙ rw none_there in
      let at = is_erased edition (λ k s. unclean (base (states ps)) s) (greatest_wear ps) 0 ps p p no_page
      (omega (arith, pages_long fm i, inside)) (omega arith) (rw is_bad) in (
        abandon_steps ps ++ at.0,
        at.1,
        ap (λ (ss : List Step). abandon_steps ps ++ ss) at.2 ∙ sym (append_assoc (abandon_steps ps) at.0 (erase p ∷ at.1)),
      )

pub wear_follows : each_wear_follows_the_rule
wear_follows fm roomy i ok before p after e = rewears fm roomy i ok before p after e

pub lost_wear : a_lost_wear_comes_back_greatest
lost_wear fm roomy i ok p inside lost = let s = lost_erased fm roomy i ok p inside lost in comes_back fm roomy i ok s.0 p s.1 s.2 lost
