-- A move: the held values are copied to a receiving page, and its done word makes it the store. Assumes nothing.
use Prim.Native.Nat.{ℕ, suc, ◌+◌, ◌-◌, ◌≤◌}
use mathlib.Core.Path.{◌≡◌, refl, sym, ap, ◌∙◌, subst}
use mathlib.Core.Bool.{Bool, true, false, not}
use mathlib.Core.List.{List, [], ◌∷◌, ◌++◌, map, append-nil}
use native.Mathlib.Omega.{arith}
use lib.ListN.{length, length-map, replicate}
use lib.Seq.{set-append_seam}
use borrow.Author.Tests.{le-leb, eq-eqb}
use Rattle.rules.specs.Flash.{Step}
use Rattle.rules.specs.Word.{Word, sound, opening_word, done_word, word_steps}
use Rattle.rules.specs.Page.{blank_word, opening_part, done_part, State, open₂, Page, page, state, slots, opening_place, done_place}
use Rattle.rules.specs.Store.{order, order₂, used, used_pages, oldest_first, insert, Setting, records, each, all_records}
use Rattle.rules.specs.Steps.{greatest_wear, renewals, renew_each, renew_picked, other, record_of, slots_steps, fill_steps}
use Rattle.rules.specs.Steps.{move_steps}
use Rattle.rules.proofs.Truth.{not_both}
use Rattle.rules.proofs.Words.{sound_light, blank_not_sound, done_sound}
use Rattle.rules.proofs.Pages.{undone_not_open, opened_received, opening_not_plain}
use Rattle.rules.proofs.Slots.{Lawful, blanks_unsound, copied_records}
use Rattle.rules.proofs.Stores.{orders, base_amid, used_amid, NoneUsed, none_used, none_used_pages}
use Rattle.rules.proofs.Phases.{Pages, word_turns, word_run, turns_through, through_append, through_end, turns_after, turns_before, store_run}
use Rattle.rules.proofs.Phases.{store_run_append}
use Rattle.rules.proofs.Told.{told}
use Rattle.rules.proofs.Active.{taken_page}
use Rattle.rules.proofs.Building.{room, room_is, records_sound, slots_run, slots_through}
use Rattle.rules.proofs.Good.{Frame, slots_in, words_in, Throughout, Turning, Whole, Keeps, whole_amid, whole_word, keeps_with}
use Rattle.rules.proofs.Renewing.{renewed, renewals_set, renewals_run}
use Rattle.rules.proofs.Recovering.{Idle, renewals_through}
use Rattle.rules.proofs.Opening.{Taking, pages_now, Kept, next, begun_whole, closed_keeps, opening_turns, base_below, base_apart, under_apart}

-- ---- the other pages are renewed

-- pages that are not used may be picked
idle_unused : (edition o : ℕ) (picks : ℕ → State → Bool) (i : ℕ) (F : Pages) → NoneUsed o (told edition F) → Idle edition o picks i F
unfolding NoneUsed Idle page
idle_unused edition o picks i [] h = tt
idle_unused edition o picks i (pg ∷ F) h = (λ t. h.0, idle_unused edition o picks (suc i) F h.1)

idle_amid : (edition o : ℕ) (picks : ℕ → State → Bool) (i : ℕ) (f : Pages) (pg : List Word) (r : Pages)
    → NoneUsed o (told edition f) → NoneUsed o (told edition r) → ((s : State) → picks (i + length f) s ≡ false) → Idle edition o picks i (f ++ pg ∷ r)
unfolding NoneUsed Idle page
idle_amid edition o picks i [] pg r a c h =
    let e : i + 0 ≡ i = omega arith in
    (λ t. not_both t (subst (λ (x : ℕ). picks x (state edition pg) ≡ false) e (h (state edition pg))), idle_unused edition o picks (suc i) r c)
idle_amid edition o picks i (x ∷ f) pg r a c h =
    let e : i + suc (length f) ≡ suc i + length f = omega arith in
    (λ t. a.0, idle_amid edition o picks (suc i) f pg r a.1 c (λ s. subst (λ (x : ℕ). picks x s ≡ false) e (h s)))

-- ---- the whole move

module _ (c : Frame) (J : List Setting) (f : Pages) (w : Word) (r : Pages) (t : Taking c J f w r) where
  abbrev o : ℕ
  o = next c J f w r t

  abbrev Old : Pages → Type 0
  Old = Kept c J f w r t

  -- the page while it receives, with d for its done word
  abbrev pub receives : Word → List Word → List Word
  receives d ws = w ∷ opening_word 2 o ∷ d ∷ ws

  -- the store while it does
  abbrev receiving : Word → List Word → Pages
  receiving d ws = f ++ receives d ws ∷ r

  receiving_keeps : (d : Word) (ws : List Word) → sound d ≡ false → Whole c (receives d ws) → Old (receiving d ws)
  unfolding opening_part done_part
  receiving_keeps d ws s q = closed_keeps c J f w r t (receives d ws) q (undone_not_open c.form.edition (receives d ws) (opening_not_plain o) s)

  -- the steps, part by part
  module _ (cs : List Setting) (lawful : Lawful cs) (fits : length cs ≤ slots_in c) where
    -- the records that are copied, as words
    abbrev ws : List Word
    ws = map record_of cs

    abbrev j : ℕ
    j = slots_in c - length ws

    abbrev filled : List Word
    filled = ws ++ replicate j blank_word

    abbrev New : Pages → Type 0
    New = Keeps c o (o ∷ []) cs

    abbrev opening : List Step
    opening = word_steps (length f) opening_place (opening_word 2 o)

    abbrev copying : List Step
    copying = slots_steps (length f) 0 ws

    abbrev doing : List Step
    doing = word_steps (length f) done_place (done_word o)

    -- every other page is renewed, by the greatest wear at the call
    abbrev pub greatest : ℕ
    greatest = greatest_wear (told c.form.edition (pages_now c J f w r t))

    abbrev renewing : Pages → List Step
    renewing F = renew_each c.form.edition (renewals (λ j s. other (length f) j) greatest 0 (told c.form.edition F))

    room_there : replicate (slots_in c) blank_word ≡ room ws (replicate j blank_word)
    room_there = room_is ws (slots_in c) (omega (arith, length-map cs record_of))

    started : Whole c (receives blank_word (room ws (replicate j blank_word)))
    started = subst (λ (ws : List Word). Whole c (receives blank_word ws)) room_there (begun_whole c J f w r t 2)

    opening_run : store_run (words_in c) opening (pages_now c J f w r t) ≡ receiving blank_word (room ws (replicate j blank_word))
    opening_run =
        word_run (words_in c) f r (w ∷ []) (replicate (suc (slots_in c)) blank_word) (opening_word 2 o) ∙ ap (receiving blank_word) room_there

    copies_through : Throughout c Old copying (receiving blank_word (room ws (replicate j blank_word)))
    copies_through =
        slots_through (words_in c) f r w (opening_word 2 o) blank_word c.May Old (λ vs. Whole c (receives blank_word vs))
        (λ vs q. receiving_keeps blank_word vs blank_not_sound q)
        (λ xs v zs l q. whole_word c w (opening_word 2 o ∷ blank_word ∷ xs) blank_word v zs q l) ws [] (replicate j blank_word) (records_sound cs) started

    copies_run : store_run (words_in c) copying (receiving blank_word (room ws (replicate j blank_word))) ≡ receiving blank_word filled
    copies_run = slots_run (words_in c) f r w (opening_word 2 o) blank_word ws [] (replicate j blank_word)

    full : Whole c (receives blank_word filled)
    full = (whole_amid c f (receives blank_word filled) r (subst Old copies_run (through_end copies_through)).whole).1

    -- with its done word the page is the store
    others_unused : NoneUsed o (told c.form.edition f) × NoneUsed o (told c.form.edition r)
    others_unused =
        let b = t.good.base_order in
        let l : b ≤ o = (let x = base_below c J f w r t in omega arith) in
        let u = under_apart c J f w r t in
        (none_used b o (told c.form.edition f) l u.0, none_used b o (told c.form.edition r) l u.1)

    filled_records : records c.form.edition filled ≡ cs
    filled_records = copied_records c.form.edition cs (replicate j blank_word) lawful (blanks_unsound j)

    done_keeps : New (receiving (done_word o) filled)
    unfolding page orders order order₂ used slots oldest_first insert each
    done_keeps =
        let qg = receives (done_word o) filled in
        let q = page c.form.edition qg in
        let e : state c.form.edition qg ≡ open₂ o = opened_received c.form.edition w t.worn o filled in
        let fp = told c.form.edition f in
        let rp = told c.form.edition r in
        let z : order₂ (state c.form.edition qg) ≡ o = rw e in
        let g = base_amid fp q rp in
        let a = base_apart c J f w r t in
        let l = base_below c J f w r t in
        let u : used o (state c.form.edition qg) ≡ true = rw e (le-leb o o (omega arith)) in
        let only : used_pages o (fp ++ q ∷ rp) ≡ q ∷ [] =
        used_amid o fp q rp u ∙ rw (none_used_pages o fp others_unused.0, none_used_pages o rp others_unused.1) in
        keeps_with c t.good.base_order t.good.used_by J f (taken_page (slots_in c) w) r t.good.keeps qg
        (whole_word c w (opening_word 2 o ∷ []) blank_word (done_word o) filled full (sound_light (done_word o) (done_sound o)))
        (omega arith) (ap orders only ∙ rw e)
        (ap (λ (ps : List Page). all_records (oldest_first ps)) only ∙ append-nil (records c.form.edition filled) ∙ filled_records)

    done_turns : Turning c Old New doing (receiving blank_word filled)
    done_turns =
        word_turns (words_in c) f r (w ∷ opening_word 2 o ∷ []) filled c.May Old New (done_word o) (done_sound o)
        (λ d p. receiving_keeps d filled p.not_sound (whole_word c w (opening_word 2 o ∷ []) blank_word d filled full p.light)) done_keeps

    done_run : store_run (words_in c) doing (receiving blank_word filled) ≡ receiving (done_word o) filled
    done_run = word_run (words_in c) f r (w ∷ opening_word 2 o ∷ []) filled (done_word o)

    -- the page that was taken is none of those renewed
    other_not : (s : State) → other (length f) (0 + length f) ≡ false
    unfolding other
    other_not s = let e : 0 + length f ≡ length f = omega arith in rw e (ap not (eq-eqb (length f) (length f) refl))

    renewing_same : renewing (receiving (done_word o) filled) ≡ renewing (pages_now c J f w r t)
    renewing_same =
        let was = taken_page (slots_in c) w in
        let is = receives (done_word o) filled in
        ap (renew_each c.form.edition)
        (ap (λ (F : Pages). renewals (λ j s. other (length f) j) greatest 0 (told c.form.edition F)) (sym (set-append_seam f was r is))
        ∙ renewals_set c.form.edition (λ j s. other (length f) j) greatest 0 (length f) is (f ++ was ∷ r) other_not)

    others_through : Throughout c New (renewing (pages_now c J f w r t)) (receiving (done_word o) filled)
    others_through =
        let G = receiving (done_word o) filled in
        subst (λ (ss : List Step). Throughout c New ss G) renewing_same
        (renewals_through c o (o ∷ []) cs (λ j s. other (length f) j) greatest [] G
        (idle_amid c.form.edition o (λ j s. other (length f) j) 0 f (receives (done_word o) filled) r others_unused.0 others_unused.1 other_not)
        done_keeps)

    -- the page with all that it is to have, and when every other one is renewed
    filled_run : store_run (words_in c) (opening ++ copying ++ doing) (pages_now c J f w r t) ≡ receiving (done_word o) filled
    filled_run =
        let F = pages_now c J f w r t in
        let k = words_in c in
        store_run_append k (opening ++ copying) doing F
        ∙ ap (store_run k doing) (store_run_append k opening copying F ∙ ap (store_run k copying) opening_run ∙ copies_run) ∙ done_run

    -- the steps of the move
    abbrev moving : List Step
    moving = move_steps c.form.edition (length f) o cs (told c.form.edition (pages_now c J f w r t))

    pub move_run : store_run (words_in c) moving (pages_now c J f w r t)
        ≡ renewed c.form.edition (suc (suc (slots_in c))) (λ j s. other (length f) j) greatest 0 (receiving (done_word o) filled)
    unfolding move_steps renew_picked fill_steps
    move_run =
        let F = pages_now c J f w r t in
        let k = words_in c in
        store_run_append k (opening ++ copying ++ doing) (renewing F) F ∙ ap (store_run k (renewing F)) filled_run
        ∙ ap (λ (ss : List Step). store_run k ss (receiving (done_word o) filled)) (sym renewing_same)
        ∙ renewals_run c.form.edition (suc (suc (slots_in c))) (λ j s. other (length f) j) greatest [] (receiving (done_word o) filled)

    pub move_turns : Turning c Old New moving (pages_now c J f w r t)
    unfolding move_steps renew_picked fill_steps
    move_turns =
        let F = pages_now c J f w r t in
        let k = words_in c in
        let opened = turns_through (opening_turns c J f w r t 2 Old
        (receiving_keeps blank_word (replicate (slots_in c) blank_word) blank_not_sound (begun_whole c J f w r t 2))) in
        let first = through_append copying opened (subst (Throughout c Old copying) (sym opening_run) copies_through) in
        let ran : store_run k (opening ++ copying) F ≡ receiving blank_word filled =
        store_run_append k opening copying F ∙ ap (store_run k copying) opening_run ∙ copies_run in
        let second = turns_after first (subst (Turning c Old New doing) (sym ran) done_turns) in
        turns_before (renewing F) second (subst (Throughout c New (renewing F)) (sym filled_run) others_through)
