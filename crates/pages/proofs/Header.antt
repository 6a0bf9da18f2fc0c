-- What a page is by its header words, read at their offsets: the rules' wear and state, test by test. Assumes nothing.
use Prim.Native.Nat.{ℕ, ◌≤◌}
use mathlib.Core.Path.{◌≡◌, refl, sym, ap, ◌∙◌}
use mathlib.Core.Bool.{Bool, true, false, cond, ◌&&◌, ◌||◌}
use mathlib.Core.List.{List}
use mathlib.Core.Option.{Option, none, some}
use native.Mathlib.Omega.{arith}
use lib.ListN.{length, drop}
use borrow.Author.Tests.{eq-eqb}
use Rattle.std.specs.Bool.{then_some}
use Rattle.pages.specs.Read.{as_option}
use Rattle.rules.specs.Word.{Word, words, sound, low16, third}
use Rattle.rules.specs.Page.{wear_part, opening_part, done_part, slots, is_wear, wear_in, is_opening, order_in, is_done, all_blank, cleared, open₁}
use Rattle.rules.specs.Page.{Chip, open₂, receiving, bad, state_after_wear, state_by, state}
use Rattle.rules.specs.Store.{is_open}
use Rattle.rules.specs.Call.{has_edition, own_edition, opens_itself}
use Rattle.rules.proofs.Truth.{and-true}
use Rattle.rules.proofs.Pages.{open_is}
use Rattle.words.specs.Read.{word_in}
use Rattle.words.proofs.Parts.{word_of, drop_words}

-- ---- where the header words begin

pub wear_at : (s : List ℕ) → 4 ≤ length s → wear_part (words s) ≡ word_in s 0
unfolding wear_part
wear_at s h = word_of s 0 h

pub opening_at : (s : List ℕ) → 8 ≤ length s → opening_part (words s) ≡ word_in s 4
unfolding opening_part
opening_at s h = word_of s 1 h

pub done_at : (s : List ℕ) → 12 ≤ length s → done_part (words s) ≡ word_in s 8
unfolding done_part
done_at s h = word_of s 2 h

-- the slots are the words of the bytes behind the header
pub slots_at : (s : List ℕ) → words (drop 12 s) ≡ slots (words s)
unfolding slots
slots_at s = drop_words 3 s

-- ---- by the wear word

-- a number, if a test says so
pub option_then : (b : Bool) (n : ℕ) → as_option (then_some b n) ≡ cond b (some n) none
option_then true n = refl
option_then false n = refl

module _ (edition : ℕ) (s : List ℕ) (h : 4 ≤ length s) {w : Word} (e : w ≡ word_in s 0) where
  pub wear_is : wear_in edition (words s) ≡ cond (is_wear edition w) (some (low16 w)) none
  unfolding wear_in
  wear_is = rw (wear_at s h, ← e)

  wear_absent : is_wear edition w ≡ false → wear_in edition (words s) ≡ none
  wear_absent t = rw (wear_is, t)

  wear_present : is_wear edition w ≡ true → wear_in edition (words s) ≡ some (low16 w)
  wear_present t = rw (wear_is, t)

  pub no_wear : is_wear edition w ≡ false → state edition (words s) ≡ bad
  unfolding state state_by
  no_wear t = rw (wear_absent t)

  pub with_wear : is_wear edition w ≡ true → state edition (words s) ≡ state_after_wear (words s) (low16 w)
  unfolding state state_by
  with_wear t = rw (wear_present t)

-- ---- by the opening word, of a page that has a wear word

module _ (s : List ℕ) (wear : ℕ) (h : 12 ≤ length s) {w : Word} (e : w ≡ word_in s 4) where
  opening_is : opening_part (words s) ≡ w
  opening_is = opening_at s (omega arith) ∙ sym e

  pub plain : {o : ℕ} → o ≡ order_in w → is_opening 1 w ≡ true → state_after_wear (words s) wear ≡ open₁ o
  unfolding state_after_wear
  plain i t₁ = rw (opening_is, t₁, i)

  pub received : {o : ℕ} {v : Word} → o ≡ order_in w → is_opening 1 w ≡ false → is_opening 2 w ≡ true → v ≡ word_in s 8 → is_done o v ≡ true
      → state_after_wear (words s) wear ≡ open₂ o
  unfolding state_after_wear
  received i t₁ t₂ d t = rw (opening_is, t₁, t₂, done_at s h, ← d, ← i, t)

  pub unfinished : {o : ℕ} {v : Word} → o ≡ order_in w → is_opening 1 w ≡ false → is_opening 2 w ≡ true → v ≡ word_in s 8 → is_done o v ≡ false
      → state_after_wear (words s) wear ≡ receiving
  unfolding state_after_wear
  unfinished i t₁ t₂ d t = rw (opening_is, t₁, t₂, done_at s h, ← d, ← i, t)

  pub unopened : is_opening 1 w ≡ false → is_opening 2 w ≡ false → state_after_wear (words s) wear ≡ cond (all_blank (words (drop 4 s))) (cleared wear) bad
  unfolding state_after_wear
  unopened t₁ t₂ = rw (opening_is, t₁, t₂, drop_words 1 s)

-- ---- a page by itself

module _ (s : List ℕ) (h : 12 ≤ length s) (w : Word) (e : w ≡ wear_part (words s)) where
  -- what makes it open
  pub itself_is : (o : Word) → o ≡ word_in s 4 → (d : Word) → d ≡ word_in s 8
      → is_open (state (third w) (words s)) ≡ (sound w && (is_opening 1 o || (is_opening 2 o && is_done (order_in o) d)))
  unfolding is_wear
  itself_is o p d q =
      open_is (third w) (words s)
      ∙ rw (← e, opening_at s (omega arith), done_at s h, ← p, ← q, eq-eqb (third w) (third w) refl)
      (ap (λ (b : Bool). b && (is_opening 1 o || (is_opening 2 o && is_done (order_in o) d))) (and-true (sound w)))

  pub itself_unsound : sound w ≡ false → false ≡ is_open (state (third w) (words s))
  itself_unsound t = sym (itself_is (word_in s 4) refl (word_in s 8) refl ∙ rw t)

  module _ (t : sound w ≡ true) {o : Word} (p : o ≡ word_in s 4) where
    pub itself_plain : is_opening 1 o ≡ true → true ≡ is_open (state (third w) (words s))
    itself_plain u = sym (itself_is o p (word_in s 8) refl ∙ rw (t, u))

    pub itself_done : is_opening 1 o ≡ false → is_opening 2 o ≡ true → (n : ℕ) → n ≡ order_in o → (d : Word) → d ≡ word_in s 8
        → is_done n d ≡ is_open (state (third w) (words s))
    itself_done u v n i d q = sym (itself_is o p d q ∙ rw (t, u, v, i))

    pub itself_unopened : is_opening 1 o ≡ false → is_opening 2 o ≡ false → false ≡ is_open (state (third w) (words s))
    itself_unopened u v = sym (itself_is o p (word_in s 8) refl ∙ rw (t, u, v))

-- the edition of a page that is open by itself
module _ (c : Chip) (s : List ℕ) (h : 12 ≤ length s) (w : Word) (e : w ≡ word_in s 0) where
  abbrev pub own : Option ℕ
  own = cond (opens_itself c (words s)) (some (own_edition (words s))) none

  pub first_word : w ≡ wear_part (words s)
  first_word = e ∙ sym (wear_at s (omega arith))

  its_edition : own_edition (words s) ≡ third w
  unfolding own_edition
  its_edition = ap third (sym first_word)

  pub own_other : has_edition c (third w) ≡ false → none ≡ own
  unfolding opens_itself
  own_other f = rw (its_edition, f)

  module _ (t : has_edition c (third w) ≡ true) where
    pub own_open : is_open (state (third w) (words s)) ≡ true → some (third w) ≡ own
    unfolding opens_itself
    own_open u = rw (its_edition, t, u)

    pub own_closed : is_open (state (third w) (words s)) ≡ false → none ≡ own
    unfolding opens_itself
    own_closed u = rw (its_edition, t, u)
