-- A change in slots: no word but its last makes a record count, and the last makes all of them count. Assumes nothing.
use Prim.Native.Nat.{ℕ, zero, suc, ◌+◌, ◌≤◌}
use mathlib.Core.Path.{◌≡◌, refl, sym, ap, ◌∙◌}
use mathlib.Core.Bool.{true, false, not, ◌&&◌}
use mathlib.Core.List.{List, [], ◌∷◌, ◌++◌, map, append-nil}
use native.Mathlib.Omega.{arith}
use lib.ListN.{length, length-append, length-map}
use lib.Seq.{append_snoc}
use lib.Dec.{eqb, ltb}
use borrow.Author.Tests.{eq-eqb, ne_eqb, eqb-true, eqb-false, ltb-false, not-false}
use Rattle.rules.specs.Word.{Word, sound, low16, Spoiled, opens, closes, slot, sound_slot, mark, has_groups, record_word, mark_word}
use Rattle.rules.specs.Store.{Setting, setting, address_of, Place, outside, inside, lost, behind, closed, counted, place_behind, in_group}
use Rattle.rules.specs.Store.{page_at, active_page, has_room, end_of, open_group}
use Rattle.rules.specs.Page.{slots, page}
use Rattle.rules.specs.Steps.{Change, single, group, settings_of, record_of, words_of}
use Rattle.rules.specs.Call.{among, repeats, wrong_group}
use Rattle.rules.proofs.Truth.{by_cases, not_both, and_second, or_false_left, or_false_right}
use Rattle.rules.proofs.Words.{record_address, record_sound}
use Rattle.rules.proofs.Conditions.{mark_opens, mark_closes, record_told, mark_told, mark_made}
use Rattle.rules.proofs.Slots.{Lawful, neither_counts}

-- words that make these records count, from a place on: all at the last of them
pub data Enters (edition : ℕ) : Place → List Word → List Setting → Type 0 where
  last : {at : Place} {w : Word} {rs : List Setting} → sound w ≡ true → counted at (slot edition w) ≡ rs → Enters edition at (w ∷ []) rs
  more : {at : Place} {w : Word} {ws : List Word} {rs : List Setting} → sound w ≡ true → counted at (slot edition w) ≡ []
      → Enters edition (behind at (slot edition w)) ws rs → Enters edition at (w ∷ ws) rs

-- ---- marks

opens_a_group : (n : ℕ) → 1 ≤ n → n ≤ 8 → mark n ≡ opens n
opens_a_group n l m = sym (mark_opens n (omega arith) m)

closes_a_group : (n : ℕ) → 1 ≤ n → n ≤ 8 → mark (128 + n) ≡ closes n
closes_a_group n l m = sym (mark_closes (128 + n) (omega arith) (omega arith)) ∙ ap closes (omega arith)

-- ---- a group

module _ (edition : ℕ) (has : has_groups edition ≡ true) (n : ℕ) (least : 1 ≤ n) (most : n ≤ 8) where
  all_closed : (rs : List Setting) → length rs ≡ n → closed n n rs ≡ rs
  unfolding closed
  all_closed rs e = rw (eq-eqb n n refl, eq-eqb (length rs) n e)

  rest_enters : (so_far rs : List Setting) → Lawful rs → length so_far + length rs ≡ n
      → Enters edition (inside n so_far) (map record_of rs ++ (mark_word (128 + n) ∷ [])) (so_far ++ rs)
  unfolding counted behind Lawful
  rest_enters so_far [] p e = last (record_sound 65535 (128 + n)) done
    where
      done : counted (inside n so_far) (slot edition (mark_word (128 + n))) ≡ so_far ++ []
      done = rw (← mark_made edition (128 + n) has, closes_a_group n least most) (all_closed so_far (omega arith) ∙ sym (append-nil so_far))
  rest_enters so_far (setting a v ∷ rs) p e =
      let is = record_told edition a v p.0 in
      let rest = rest_enters (so_far ++ setting a v ∷ []) rs p.1 (let l = length-append so_far (setting a v ∷ []) in omega arith) in
      let none : counted (inside n so_far) (slot edition (record_word a v)) ≡ [] = rw (← is) in
      let onward : Enters edition (behind (inside n so_far) (slot edition (record_word a v))) (map record_of rs ++ (mark_word (128 + n) ∷ []))
      (so_far ++ setting a v ∷ rs) = rw (← is) (rw append_snoc at rest) in
      more (record_sound a v) none onward

pub group_enters : (edition : ℕ) (rs : List Setting) → has_groups edition ≡ true → 1 ≤ length rs → length rs ≤ 8 → Lawful rs
    → Enters edition outside (words_of (group rs)) rs
unfolding counted behind words_of
group_enters edition rs has least most p =
    let is = sym (opens_a_group (length rs) least most) ∙ mark_made edition (length rs) has in
    let none : counted outside (slot edition (mark_word (length rs))) ≡ [] = rw (← is) in
    let onward : Enters edition (behind outside (slot edition (mark_word (length rs)))) (map record_of rs ++ (mark_word (128 + length rs) ∷ [])) rs =
    rw (← is) (rest_enters edition has (length rs) least most [] rs p (omega arith)) in
    more (record_sound 65535 (length rs)) none onward

pub single_enters : (edition a v : ℕ) → (a ≡ 65535 → ⊥) → Enters edition outside (words_of (single a v)) (setting a v ∷ [])
unfolding counted words_of
single_enters edition a v h =
    let one : counted outside (slot edition (record_word a v)) ≡ setting a v ∷ [] = rw (← record_told edition a v h) in last (record_sound a v) one

-- ---- what a group is that is not refused

pub record Grouped (edition : ℕ) (rs : List Setting) : Type 0 where
  pub has : has_groups edition ≡ true
  pub least : 1 ≤ length rs
  pub most : length rs ≤ 8
  pub distinct : repeats (map address_of rs) ≡ false

pub grouped : (edition : ℕ) (rs : List Setting) → wrong_group edition (group rs) ≡ false → Grouped edition rs
unfolding wrong_group
grouped edition rs h =
    let n = length rs in
    let rest = or_false_right (not (has_groups edition)) _ h in
    let some = or_false_right (eqb n 0) _ rest in
    record {
      has = not-false _ (or_false_left (not (has_groups edition)) _ h);
      least = (let z = eqb-false n 0 (or_false_left (eqb n 0) _ rest) in omega arith);
      most = ltb-false 8 n (or_false_left (ltb 8 n) _ some);
      distinct = or_false_right (ltb 8 n) _ some;
    }

pub change_enters : (edition : ℕ) (c : Change) → wrong_group edition c ≡ false → Lawful (settings_of c) → Enters edition outside (words_of c) (settings_of c)
unfolding settings_of Lawful
change_enters edition (single a v) g p = single_enters edition a v p.0
change_enters edition (group rs) g p = let is = grouped edition rs g in group_enters edition rs is.has is.least is.most p

-- what any change is that is not refused: so many words, and no address twice
pub change_words : (edition : ℕ) (c : Change) → wrong_group edition c ≡ false → (1 ≤ length (words_of c)) × (length (words_of c) ≤ 10)
unfolding words_of
change_words edition (single a v) g = (omega arith, omega arith)
change_words edition (group rs) g =
    let n = length-append (map record_of rs) (mark_word (128 + length rs) ∷ []) in
    let m = length-map rs record_of in
    let most = (grouped edition rs g).most in
    (omega arith, omega arith)

pub change_distinct : (edition : ℕ) (c : Change) → wrong_group edition c ≡ false → repeats (map address_of (settings_of c)) ≡ false
unfolding settings_of repeats among
change_distinct edition (single a v) g = refl
change_distinct edition (group rs) g = (grouped edition rs g).distinct

-- ---- behind a change, and behind records alone, no group is open

closes_any : (at : Place) (n : ℕ) → behind at (closes n) ≡ outside
unfolding behind
closes_any outside n = refl
closes_any (inside m rs) n = refl
closes_any lost n = refl

pub records_end : (edition : ℕ) (rs : List Setting) → Lawful rs → place_behind outside (map (slot edition) (map record_of rs)) ≡ outside
unfolding place_behind behind Lawful
records_end edition [] p = refl
records_end edition (setting a v ∷ rs) p = rw (← record_told edition a v p.0) (records_end edition rs p.1)

rest_ends : (edition n : ℕ) (so_far rs : List Setting) → Lawful rs → (w : Word) → behind (inside n (so_far ++ rs)) (slot edition w) ≡ outside
    → place_behind (inside n so_far) (map (slot edition) (map record_of rs ++ w ∷ [])) ≡ outside
unfolding place_behind behind Lawful
rest_ends edition n so_far [] p w e = ap (λ (s : List Setting). behind (inside n s) (slot edition w)) (sym (append-nil so_far)) ∙ e
rest_ends edition n so_far (setting a v ∷ rs) p w e =
    rw (← record_told edition a v p.0)
    (rest_ends edition n (so_far ++ setting a v ∷ []) rs p.1 w (rw append_snoc e))

pub change_ends : (edition : ℕ) (c : Change) → wrong_group edition c ≡ false → Lawful (settings_of c)
    → place_behind outside (map (slot edition) (words_of c)) ≡ outside
unfolding place_behind behind settings_of words_of Lawful
change_ends edition (single a v) g p = rw (← record_told edition a v p.0)
change_ends edition (group rs) g p =
    let is = grouped edition rs g in
    let opening = sym (opens_a_group (length rs) is.least is.most) ∙ mark_made edition (length rs) is.has in
    let closing = sym (closes_a_group (length rs) is.least is.most) ∙ mark_made edition (128 + length rs) is.has in
    rw (← opening)
    (rest_ends edition (length rs) [] rs p (mark_word (128 + length rs)) (rw (← closing) (closes_any (inside (length rs) rs) (length rs))))

-- ---- an abandon mark ends whatever group is open, and nothing counts by it

none_closed : (n : ℕ) (rs : List Setting) → closed n 0 rs ≡ []
unfolding closed
none_closed n [] = by_cases (eqb 0 n && eqb (length {A = Setting} []) n) (λ t. rw t) (λ t. rw t)
none_closed n (r ∷ rs) =
    by_cases (eqb 0 n) (λ z. rw (z, ne_eqb (length (r ∷ rs)) n (let e = eqb-true 0 n z in omega arith))) (λ z. rw z)

none_counts : (at : Place) → counted at (closes 0) ≡ []
unfolding counted
none_counts outside = refl
none_counts (inside n rs) = none_closed n rs
none_counts lost = refl

abandon_counts : (edition : ℕ) (at : Place) → counted at (slot edition (mark_word 0)) ≡ []
unfolding mark
abandon_counts edition at =
    by_cases (has_groups edition) (λ h. rw (← mark_made edition 0 h) (none_counts at))
    (λ h. rw (← mark_told edition (mark_word 0) (record_address 65535 0) (record_sound 65535 0), h) (neither_counts at Spoiled))

pub abandon_enters : (edition : ℕ) (at : Place) → Enters edition at (mark_word 0 ∷ []) []
abandon_enters edition at = last (record_sound 65535 0) (abandon_counts edition at)

pub abandon_ends : (edition : ℕ) (at : Place) → has_groups edition ≡ true → behind at (slot edition (mark_word 0)) ≡ outside
unfolding mark
abandon_ends edition at h = rw (← mark_made edition 0 h) (closes_any at 0)

-- without groups none is open
pub stays_out : (edition : ℕ) (w : Word) → has_groups edition ≡ false → behind outside (slot edition w) ≡ outside
unfolding behind slot sound_slot
stays_out edition w h = by_cases (sound w) (λ s. by_cases (eqb (low16 w) 65535) (λ t. rw (s, t, h)) (λ t. rw (s, t))) (λ s. rw s)

pub ungrouped : (edition : ℕ) (ws : List Word) → has_groups edition ≡ false → place_behind outside (map (slot edition) ws) ≡ outside
unfolding place_behind
ungrouped edition [] h = refl
ungrouped edition (w ∷ ws) h =
    ap (λ (at : Place). place_behind at (map (slot edition) ws)) (stays_out edition w h) ∙ ungrouped edition ws h

pub outside_is : (at : Place) → in_group at ≡ false → at ≡ outside
unfolding in_group
outside_is outside h = refl
outside_is (inside n rs) h = not_both refl h
outside_is lost h = not_both refl h

none_ends : (edition : ℕ) (F : List (List Word)) (k : ℕ) → has_groups edition ≡ false → end_of (page_at k (map (page edition) F)) ≡ outside
unfolding page place_behind
none_ends edition [] k h = refl
none_ends edition (P ∷ F) zero h = ungrouped edition (slots P) h
none_ends edition (P ∷ F) (suc k) h = none_ends edition F k h

pub none_open : (edition : ℕ) (F : List (List Word)) → has_groups edition ≡ false → open_group (map (page edition) F) ≡ false
unfolding open_group active_page in_group
none_open edition F h = and_second (has_room 1 (map (page edition) F)) (ap in_group (none_ends edition F _ h))
