-- Words are programmed into the slots of a page, one after the other: what its pages are then, and what holds all through; of any
-- store with such a page. Assumes nothing.
use Prim.Native.Nat.{ℕ, zero, suc, ◌-◌, ◌≤◌}
use mathlib.Core.Path.{◌≡◌, refl, sym, ap, ◌∙◌, subst}
use mathlib.Core.Bool.{true}
use mathlib.Core.List.{List, [], ◌∷◌, ◌++◌, map}
use native.Mathlib.Nat.{le_of_suc-le-suc}
use native.Mathlib.Omega.{arith}
use lib.ListN.{length, length-append, replicate}
use lib.Seq.{append_snoc}
use Rattle.rules.specs.Flash.{Step}
use Rattle.rules.specs.Word.{Word, sound, word_steps}
use Rattle.rules.specs.Page.{blank_word, slot_place}
use Rattle.rules.specs.Store.{Setting, setting}
use Rattle.rules.specs.Steps.{record_of, slots_steps}
use Rattle.rules.proofs.Words.{Light, record_sound, sound_light, blank_not_sound}
use Rattle.rules.proofs.Slots.{AllUnsound}
use Rattle.rules.proofs.Phases.{Pages, Through, end, store_run, store_run_append, through_append, word_run, word_through}

-- sound words
unfoldable pub AllSound : List Word → Type 0
AllSound [] = Unit {0}
AllSound (w ∷ ws) = (sound w ≡ true) × AllSound ws

pub records_sound : (rs : List Setting) → AllSound (map record_of rs)
unfolding AllSound
records_sound [] = tt
records_sound (setting a v ∷ rs) = (record_sound a v, records_sound rs)

-- blank slots for the words to come, and then ys
unfoldable pub room : List Word → List Word → List Word
room [] ys = ys
room (w ∷ ws) ys = blank_word ∷ room ws ys

pub room_is : (ws : List Word) (m : ℕ) → length ws ≤ m → replicate m blank_word ≡ room ws (replicate (m - length ws) blank_word)
unfolding room
room_is [] m h = let e : m ≡ m - 0 = omega arith in ap (λ (i : ℕ). replicate i blank_word) e
room_is (w ∷ ws) zero h = absurd (omega arith)
room_is (w ∷ ws) (suc m) h =
    let e : m - length ws ≡ suc m - suc (length ws) = omega arith in
    ap (λ (vs : List Word). blank_word ∷ vs) (room_is ws m (le_of_suc-le-suc h) ∙ ap (λ (i : ℕ). room ws (replicate i blank_word)) e)

pub room_unsound : (ws ys : List Word) → AllUnsound ys → AllUnsound (room ws ys)
unfolding room AllUnsound
room_unsound [] ys h = h
room_unsound (w ∷ ws) ys h = (blank_not_sound, room_unsound ws ys h)

-- ---- words in the slots of a page, one after the other

module _ (k : ℕ) (f r : Pages) (x y z : Word) where
  -- the page with those slots
  abbrev pub page_with : List Word → List Word
  page_with ws = x ∷ y ∷ z ∷ ws

  pub slot_at : (w : Word) (xs : List Word) → word_steps (length f) (slot_place (length xs)) w ≡ word_steps (length f) (length (page_with xs)) w
  slot_at w xs = let e : slot_place (length xs) ≡ length (page_with xs) = omega arith in ap (λ (i : ℕ). word_steps (length f) i w) e

  pub next_slot : (w : Word) (xs : List Word) → length (xs ++ w ∷ []) ≡ suc (length xs)
  next_slot w xs = let e = length-append xs (w ∷ []) in omega arith

  pub slot_run : (w : Word) (xs ys : List Word)
      → store_run k (word_steps (length f) (slot_place (length xs)) w) (f ++ page_with (xs ++ blank_word ∷ ys) ∷ r) ≡ f ++ page_with (xs ++ w ∷ ys) ∷ r
  slot_run w xs ys =
      ap (λ (ss : List Step). store_run k ss (f ++ page_with (xs ++ blank_word ∷ ys) ∷ r)) (slot_at w xs) ∙ word_run k f r (page_with xs) ys w

  pub slots_run : (ws xs ys : List Word)
      → store_run k (slots_steps (length f) (length xs) ws) (f ++ page_with (xs ++ room ws ys) ∷ r) ≡ f ++ page_with (xs ++ (ws ++ ys)) ∷ r
  unfolding slots_steps room store_run
  slots_run [] xs ys = refl
  slots_run (w ∷ ws) xs ys =
      let rest = slots_run ws (xs ++ w ∷ []) ys in
      let later = slots_steps (length f) (suc (length xs)) ws in
      let F = f ++ page_with (xs ++ blank_word ∷ room ws ys) ∷ r in
      store_run_append k (word_steps (length f) (slot_place (length xs)) w) later F
      ∙ ap (store_run k later) (slot_run w xs (room ws ys))
      ∙ (rw (next_slot w xs, append_snoc xs w (room ws ys), append_snoc xs w (ws ++ ys)) at rest)

  -- what holds of the page with any light word in its next slot holds all through
  module _ (May : Type 0) (P : Pages → Type 0) (Q : List Word → Type 0)
      (keeps : (ws : List Word) → Q ws → P (f ++ page_with ws ∷ r))
      (changes : (xs : List Word) (v : Word) (zs : List Word) → Light v → Q (xs ++ blank_word ∷ zs) → Q (xs ++ v ∷ zs)) where
    pub slots_through : (ws xs ys : List Word) → AllSound ws → Q (xs ++ room ws ys)
        → Through k May P (slots_steps (length f) (length xs) ws) (f ++ page_with (xs ++ room ws ys) ∷ r)
    unfolding slots_steps room AllSound
    slots_through [] xs ys s q = end (keeps (xs ++ ys) q)
    slots_through (w ∷ ws) xs ys s q =
        let later = slots_steps (length f) (suc (length xs)) ws in
        let first = word_through k f r (page_with xs) (room ws ys) May P w s.0
        (λ u l. keeps (xs ++ u ∷ room ws ys) (changes xs u (room ws ys) l q)) in
        let q' : Q ((xs ++ w ∷ []) ++ room ws ys) = rw append_snoc (changes xs w (room ws ys) (sound_light w s.0) q) in
        let rest : Through k May P later (f ++ page_with (xs ++ w ∷ room ws ys) ∷ r) =
        rw (next_slot w xs, append_snoc xs w (room ws ys)) at (slots_through ws (xs ++ w ∷ []) ys s.1 q') in
        subst (λ (ss : List Step). Through k May P (ss ++ later) (f ++ page_with (xs ++ blank_word ∷ room ws ys) ∷ r)) (sym (slot_at w xs))
        (through_append later first (subst (Through k May P later) (sym (word_run k f r (page_with xs) (room ws ys) w)) rest))

-- ---- each step may be done, whatever the pages are

abbrev pub Doable : (k : ℕ) → List Step → Pages → Type 0
Doable k = Through k ⊥ (λ F. Unit {0})

pub word_any : (k : ℕ) (f r : Pages) (xs ys : List Word) (w : Word) → sound w ≡ true
    → Doable k (word_steps (length f) (length xs) w) (f ++ (xs ++ blank_word ∷ ys) ∷ r)
word_any k f r xs ys w s = word_through k f r xs ys ⊥ (λ F. Unit {0}) w s (λ v l. tt)
