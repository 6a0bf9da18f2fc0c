-- A move in the terms of the code: how many steps it has, and that its renewals are those of the image at the call, since no
-- step before them works on another page. Assumes nothing.
use Prim.Native.Nat.{ℕ, ◌+◌, ◌*◌, ◌≤◌, ◌<◌}
use mathlib.Core.Path.{◌≡◌, refl, sym, ap, ◌∙◌, subst}
use mathlib.Core.Bool.{false, not}
use mathlib.Core.List.{List, ◌++◌, map}
use native.Mathlib.Omega.{arith}
use lib.ListN.{length, take, length-append, length-map}
use borrow.Author.Tests.{eq-eqb}
use Rattle.rules.specs.Flash.{Step}
use Rattle.rules.specs.Word.{opening_word, done_word, word_steps}
use Rattle.rules.specs.Page.{Form, word_count, size, Page, page, opening_place, done_place}
use Rattle.rules.specs.Store.{Setting, address_of, settings, journal, count}
use Rattle.rules.specs.Steps.{renew_picked, other, but_all, record_of, slots_steps, fill_steps, move_steps}
use Rattle.rules.specs.Call.{cut, first_pages, repeats, is_new, new_in, no_room}
use Rattle.rules.proofs.Lengths.{move_long}
use Rattle.rules.proofs.Cut.{cut_length}
use Rattle.rules.proofs.Held.{new_many, room_for}
use Rattle.rules.proofs.Settings.{settings_rising, but_all_length}
use Rattle.pages.specs.Read.{as_form}
use Rattle.steps.specs.declared.Steps.{Steps}
use Rattle.steps.specs.Done.{Done}
use Rattle.steps.specs.Picked.{picked_steps}
use Rattle.steps.specs.Copied.{copied}
use Rattle.steps.proofs.Doing.{done_then}
use Rattle.writing.specs.Plans.{Tabled}
use Rattle.writing.proofs.Kept.{OnPage, on_take, on_append, on_word, on_slots, renewing_kept}

on_fill : (m p o : ℕ) (cs : List Setting) → 3 + length cs ≤ m → OnPage m p (fill_steps p o cs)
unfolding fill_steps
on_fill m p o cs l =
    let opening = word_steps p opening_place (opening_word 2 o) in
    let done = word_steps p done_place (done_word o) in
    on_append m p (opening ++ slots_steps p 0 (map record_of cs)) done
    (on_append m p opening (slots_steps p 0 (map record_of cs)) (on_word m p opening_place (opening_word 2 o) (omega arith) (omega arith))
    (on_slots m p 0 (map record_of cs) (omega (arith, length-map cs record_of))))
    (on_word m p done_place (done_word o) (omega arith) (omega arith))

itself : (p : ℕ) → other p p ≡ false
unfolding other
itself p = ap not (eq-eqb p p refl)

-- ---- what a move leaves: the page is filled, and then the others are renewed

pub moved : (p o n : ℕ) (cs : List Setting) {s t u : Steps} → p < n → length s.image.now ≡ n * size (as_form s.form) → length cs ≤ s.form.slots
    → Done s (fill_steps p o cs) t → Done t (picked_steps (as_form t.form) n (other p) t.image.now) u
    → Done s (move_steps s.form.edition p o cs (first_pages (as_form s.form) n s.image.now)) u
unfolding move_steps picked_steps
moved p o n cs {s} {t} {u} inside sized few filled renewed =
    let fm = as_form s.form in
    let ss = take s.left (fill_steps p o cs) in
    let others : Form → List ℕ → List Step = λ f j. renew_picked f.edition (λ k s. other p k) (first_pages f n j) in
    let same : others (as_form t.form) t.image.now ≡ others fm s.image.now =
    ap (λ f. others (as_form f) t.image.now) filled.same_form ∙ ap (others fm) filled.image
    ∙ renewing_kept fm n p inside (other p) (itself p) ss s.image.now
    (on_take (word_count fm) p s.left (fill_steps p o cs) (on_fill (word_count fm) p o cs (omega arith))) sized in
    done_then filled (subst (λ (xs : List Step). Done t xs u) same renewed)

-- ---- how many records a move has

module _ (rs : List Setting) (ps : List Page) (distinct : repeats (map address_of rs) ≡ false) where
  abbrev table : List Setting
  table = settings ps

  copies_long : length (copied table rs) ≡ length table + count (is_new ps) rs
  unfolding settings
  copies_long =
      let m = new_many rs ps in
      let b = but_all_length rs table (settings_rising (journal ps)) distinct in
      omega (arith, length-append (but_all rs table) rs)

  copies_within : no_room rs ps ≡ false → length (copied table rs) ≤ 192
  copies_within room = omega (arith, copies_long, new_many rs ps, room_for rs ps room)

module _ {held rs : List Setting} (h : Tabled held rs) where
  -- all that is held, and what is new
  pub copies_many : {new : ℕ} → new ≡ new_in rs h.pages → length held + new ≡ length (copied held rs)
  copies_many {new} e =
      rw e (subst (λ (t : List Setting). length t + new_in rs h.pages ≡ length (copied t rs)) (sym h.holds) (sym (copies_long rs h.pages h.distinct)))

  pub copies_few : length (copied held rs) ≤ 192
  copies_few = subst (λ (t : List Setting). length (copied t rs) ≤ 192) (sym h.holds) (copies_within rs h.pages h.distinct h.room)

  -- all the steps of a move, by the records counted
  pub move_total : (fm : Form) (p o n copies : ℕ) (i : List ℕ) → p < n → copies ≡ length (copied held rs)
      → length (move_steps fm.edition p o (copied held rs) (first_pages fm n i)) ≡ 2 * copies + 3 * n + 1
  move_total fm p o n copies i l e =
      let long : length (first_pages fm n i) ≡ n = length-map (cut (size fm) n i) (page fm.edition) ∙ cut_length (size fm) n i in
      omega (arith, move_long fm.edition p o (copied held rs) (first_pages fm n i) (omega arith))
