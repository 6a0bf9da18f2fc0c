-- Laws of any page, of any length: what its header words make of it, and that a torn erase opens none. Assumes nothing.
use Prim.Native.Nat.{ℕ, zero, suc, ◌+◌, ◌*◌, ◌%◌, ◌<◌}
use mathlib.Core.Path.{◌≡◌, refl, sym, ap, ap₂, ◌∙◌, subst}
use mathlib.Core.Logic.{◌⊎◌, inl, inr, ⊎_elim}
use mathlib.Core.Bool.{Bool, true, false, cond, ◌&&◌, ◌||◌}
use mathlib.Core.List.{List, [], ◌∷◌}
use native.Mathlib.Omega.{arith}
use lib.ListN.{length, get_or, drop, replicate}
use borrow.Author.Tests.{eq-eqb, eqb-true}
use Rattle.rules.specs.Word.{Word, sound, blank, low16, low24, third, wear_word, number_word, opening_word, done_word}
use Rattle.rules.specs.Page.{blank_word, wear_part, opening_part, done_part, is_wear, wear_in, is_opening, order_in, is_done, all_blank}
use Rattle.rules.specs.Page.{State, cleared, open₁, open₂, receiving, bad, state_after_wear, state_by, state}
use Rattle.rules.specs.Store.{is_open}
use Rattle.rules.proofs.Truth.{and_left, and_right, and_both, is_false, by_cases, not_both}
use Rattle.rules.proofs.Words.{Light, light_sound, light_rises, blank_is, blank_light, blank_not_sound, wear_sound, wear_is, wear_edition}
use Rattle.rules.proofs.Words.{opening_sound, opening_order, opening_kind, number_is, number_sound}
use Rattle.rules.proofs.Shape.{WordsRise, none, more}

-- ---- the state, test by test

module _ (edition : ℕ) (P : List Word) where
  pub no_wear : is_wear edition (wear_part P) ≡ false → state edition P ≡ bad
  unfolding state wear_in state_by
  no_wear w = rw w

  pub with_wear : is_wear edition (wear_part P) ≡ true → state edition P ≡ state_after_wear P (low16 (wear_part P))
  unfolding state wear_in state_by
  with_wear w = rw w

module _ (P : List Word) (n : ℕ) where
  plain : is_opening 1 (opening_part P) ≡ true → state_after_wear P n ≡ open₁ (order_in (opening_part P))
  unfolding state_after_wear
  plain h = rw h

  received : is_opening 1 (opening_part P) ≡ false → is_opening 2 (opening_part P) ≡ true → is_done (order_in (opening_part P)) (done_part P) ≡ true
      → state_after_wear P n ≡ open₂ (order_in (opening_part P))
  unfolding state_after_wear
  received h₁ h₂ d = rw (h₁, h₂, d)

  unfinished : is_opening 1 (opening_part P) ≡ false → is_opening 2 (opening_part P) ≡ true
      → is_done (order_in (opening_part P)) (done_part P) ≡ false → state_after_wear P n ≡ receiving
  unfolding state_after_wear
  unfinished h₁ h₂ d = rw (h₁, h₂, d)

  unopened : is_opening 1 (opening_part P) ≡ false → is_opening 2 (opening_part P) ≡ false → state_after_wear P n ≡ cond (all_blank (drop 1 P)) (cleared n) bad
  unfolding state_after_wear
  unopened h₁ h₂ = rw (h₁, h₂)

cleared_or_bad : (b : Bool) (n : ℕ) → is_open (cond b (cleared n) bad) ≡ false
unfolding is_open
cleared_or_bad true n = refl
cleared_or_bad false n = refl

-- what an open page has
pub record IsOpen (edition : ℕ) (P : List Word) : Type 0 where
  pub wear : is_wear edition (wear_part P) ≡ true
  pub opening : (is_opening 1 (opening_part P) ≡ true) ⊎ ((is_opening 1 (opening_part P) ≡ false) × (is_opening 2 (opening_part P) ≡ true)
      × (is_done (order_in (opening_part P)) (done_part P) ≡ true))

pub open_has : (edition : ℕ) (P : List Word) → is_open (state edition P) ≡ true → IsOpen edition P
unfolding is_open
open_has edition P h =
    by_cases (is_wear edition (wear_part P))
    (λ w.
    let h' = subst (λ (s : State). is_open s ≡ true) (with_wear edition P w) h in
    let n = low16 (wear_part P) in
    by_cases (is_opening 1 (opening_part P)) (λ o₁. record { wear = w; opening = inl o₁ })
    (λ o₁. by_cases (is_opening 2 (opening_part P))
    (λ o₂. by_cases (is_done (order_in (opening_part P)) (done_part P)) (λ d. record { wear = w; opening = inr (o₁, o₂, d) })
    (λ d. not_both h' (rw (unfinished P n o₁ o₂ d))))
    (λ o₂. not_both h' (ap is_open (unopened P n o₁ o₂) ∙ cleared_or_bad (all_blank (drop 1 P)) n))))
    (λ w. not_both h (rw (no_wear edition P w)))

-- which words make a page open, all in one test
pub open_is : (edition : ℕ) (P : List Word) → is_open (state edition P)
    ≡ (is_wear edition (wear_part P)
    && (is_opening 1 (opening_part P) || (is_opening 2 (opening_part P) && is_done (order_in (opening_part P)) (done_part P))))
unfolding is_open
open_is edition P =
    let n = low16 (wear_part P) in
    by_cases (is_wear edition (wear_part P))
    (λ w.
    ap is_open (with_wear edition P w)
    ∙ by_cases (is_opening 1 (opening_part P)) (λ o. rw (plain P n o, w, o))
    (λ o. by_cases (is_opening 2 (opening_part P))
    (λ q. by_cases (is_done (order_in (opening_part P)) (done_part P)) (λ d. rw (received P n o q d, w, o, q, d)) (λ d. rw (unfinished P n o q d, w, o, q, d)))
    (λ q. rw (unopened P n o q, w, o, q) (cleared_or_bad (all_blank (drop 1 P)) n))))
    (λ w. rw (no_wear edition P w, w))

-- pages that have those words alike are in the same state
pub open_like : (edition : ℕ) (P Q : List Word) → IsOpen edition P → wear_part P ≡ wear_part Q → opening_part P ≡ opening_part Q
    → (is_opening 1 (opening_part P) ≡ false → done_part P ≡ done_part Q) → state edition P ≡ state edition Q
open_like edition P Q h w o d =
    let wq : is_wear edition (wear_part Q) ≡ true = rw w at h.wear in
    with_wear edition P h.wear
    ∙ ⊎_elim
    (λ o₁.
    plain P (low16 (wear_part P)) o₁ ∙ ap (λ (x : Word). open₁ (order_in x)) o ∙ sym (plain Q (low16 (wear_part Q)) (rw o at o₁)))
    (λ t.
    let d' = d t.0 in
    received P (low16 (wear_part P)) t.0 t.1 t.2
    ∙ ap (λ (x : Word). open₂ (order_in x)) o
    ∙ sym (received Q (low16 (wear_part Q)) (rw o at t.0) (rw o at t.1) (rw (o, d') at t.2)))
    h.opening
    ∙ sym (with_wear edition Q wq)

-- ---- torn pages

-- every word is light
unfoldable pub AllLight : List Word → Type 0
AllLight [] = Unit {0}
AllLight (w ∷ ws) = Light w × AllLight ws

-- A state fades to another if that is the same, or not open.
abbrev pub Fades : State → State → Type 0
Fades s t = (t ≡ s) ⊎ (is_open t ≡ false)

-- bits that rise leave light words light, and what is sound afterwards stood there before
pub rise_light : {P Q : List Word} → WordsRise P Q → AllLight P → AllLight Q
unfolding AllLight
rise_light none l = tt
rise_light (more r rs) l = (light_rises r l.0, rise_light rs l.1)

pub rise_part : {P Q : List Word} → WordsRise P Q → AllLight P → (i : ℕ) → sound (get_or Q i blank_word) ≡ true → get_or P i blank_word ≡ get_or Q i blank_word
unfolding AllLight
rise_part none l i s = refl
rise_part (more r rs) l zero s = light_sound r l.0 s
rise_part (more r rs) l (suc i) s = rise_part rs l.1 i s

pub rise_length : {P Q : List Word} → WordsRise P Q → length P ≡ length Q
rise_length none = refl
rise_length (more r rs) = ap suc (rise_length rs)

-- a page whose wear word, if it is sound, is of that edition
abbrev pub OfEdition : (edition : ℕ) → List Word → Type 0
OfEdition edition P = sound (wear_part P) ≡ true → third (wear_part P) ≡ edition

unfoldable pub AllOfEdition : (edition : ℕ) → List (List Word) → Type 0
AllOfEdition edition [] = Unit {0}
AllOfEdition edition (P ∷ Ps) = OfEdition edition P × AllOfEdition edition Ps

pub rise_edition : (edition : ℕ) {P Q : List Word} → WordsRise P Q → AllLight P → OfEdition edition P → OfEdition edition Q
unfolding wear_part
rise_edition edition r l h s = let e = rise_part r l 0 s in rw e at (h (rw e s))

-- a torn erase opens no page: one that was open keeps its state or is no longer open
pub rise_fades : (edition : ℕ) {P Q : List Word} → WordsRise P Q → AllLight P → Fades (state edition P) (state edition Q)
unfolding wear_part opening_part done_part is_wear is_opening is_done
rise_fades edition {P} {Q} r l =
    by_cases (is_open (state edition Q))
    (λ h.
    let q = open_has edition Q h in
    let w : wear_part P ≡ wear_part Q = rise_part r l 0 (and_left (sound (wear_part Q)) _ q.wear) in
    let o : opening_part P ≡ opening_part Q = rise_part r l 1
    (⊎_elim (λ (o₁ : is_opening 1 (opening_part Q) ≡ true). and_left (sound (opening_part Q)) _ o₁)
    (λ t. and_left (sound (opening_part Q)) _ t.1) q.opening) in
    let d : is_opening 1 (opening_part Q) ≡ false
    → done_part Q ≡ done_part P = λ e. sym
    (rise_part r l 2 (⊎_elim (λ (o₁ : is_opening 1 (opening_part Q) ≡ true). not_both o₁ e) (λ t. and_left (sound (done_part Q)) _ t.2)
    q.opening)) in
    inl (open_like edition Q P q (sym w) (sym o) d))
    (λ h. inr h)

-- ---- pages under construction

-- without a sound opening word a page is not open, nor is one that says it is receiving and has no sound done word
pub unopened_not_open : (edition : ℕ) (P : List Word) → sound (opening_part P) ≡ false → is_open (state edition P) ≡ false
unfolding is_opening
unopened_not_open edition P s =
    is_false (is_open (state edition P))
    (λ h.
    ⊎_elim (λ (o₁ : is_opening 1 (opening_part P) ≡ true). not_both (and_left (sound (opening_part P)) _ o₁) s)
    (λ t. not_both (and_left (sound (opening_part P)) _ t.1) s)
    (open_has edition P h).opening)

pub undone_not_open : (edition : ℕ) (P : List Word) → is_opening 1 (opening_part P) ≡ false → sound (done_part P) ≡ false → is_open (state edition P) ≡ false
unfolding is_done
undone_not_open edition P o s =
    is_false (is_open (state edition P))
    (λ h.
    ⊎_elim (λ (o₁ : is_opening 1 (opening_part P) ≡ true). not_both o₁ o)
    (λ t. not_both (and_left (sound (done_part P)) _ t.2) s)
    (open_has edition P h).opening)

-- the slots do not tell whether a page is open
pub open_by_header : (edition : ℕ) (x y z : Word) (us vs : List Word) → is_open (state edition (x ∷ y ∷ z ∷ us)) ≡ true
    → state edition (x ∷ y ∷ z ∷ us) ≡ state edition (x ∷ y ∷ z ∷ vs)
unfolding wear_part opening_part done_part
open_by_header edition x y z us vs h =
    open_like edition (x ∷ y ∷ z ∷ us) (x ∷ y ∷ z ∷ vs) (open_has edition (x ∷ y ∷ z ∷ us) h) refl refl (λ e. refl)

-- blank words
pub all_blank_is : (ws : List Word) → all_blank ws ≡ true → ws ≡ replicate (length ws) blank_word
unfolding all_blank
all_blank_is [] h = refl
all_blank_is (w ∷ ws) h = ap₂ (λ (v : Word) (vs : List Word). v ∷ vs) (blank_is w (and_left (blank w) _ h)) (all_blank_is ws (and_right (blank w) _ h))

pub replicate_all_blank : (n : ℕ) → all_blank (replicate n blank_word) ≡ true
unfolding all_blank blank
replicate_all_blank zero = refl
replicate_all_blank (suc n) = replicate_all_blank n

pub replicate_light : (n : ℕ) → AllLight (replicate n blank_word)
unfolding AllLight
replicate_light zero = tt
replicate_light (suc n) = (blank_light, replicate_light n)

-- a wear word is one
pub wear_is_wear : (edition n : ℕ) → is_wear edition (wear_word edition n) ≡ true
unfolding is_wear
wear_is_wear edition n = and_both (wear_sound edition n) (eq-eqb (third (wear_word edition n)) edition (wear_edition edition n))

blank_opening : (m : ℕ) → sound (get_or (replicate m blank_word) 0 blank_word) ≡ false
blank_opening zero = blank_not_sound
blank_opening (suc m) = blank_not_sound

-- a page with nothing behind its first word is not open
pub fresh_not_open : (edition : ℕ) (v : Word) (m : ℕ) → is_open (state edition (v ∷ replicate m blank_word)) ≡ false
unfolding opening_part
fresh_not_open edition v m = unopened_not_open edition (v ∷ replicate m blank_word) (blank_opening m)

-- a page of a wear word and nothing else is cleared
pub fresh_cleared : (edition n m : ℕ) → state edition (wear_word edition n ∷ replicate m blank_word) ≡ cleared n
unfolding wear_part opening_part is_opening
fresh_cleared edition n m =
    let P = wear_word edition n ∷ replicate m blank_word in
    let none_sound : sound (opening_part P) ≡ false = blank_opening m in
    with_wear edition P (wear_is_wear edition n)
    ∙ unopened P (low16 (wear_word edition n)) (rw none_sound) (rw none_sound)
    ∙ rw (replicate_all_blank m, wear_is edition n)

-- an opening word is one of its kind, and of no other
pub opening_is_opening : (kind o : ℕ) → kind < 4 → is_opening kind (opening_word kind o) ≡ true
unfolding is_opening
opening_is_opening kind o h = and_both (opening_sound kind o) (eq-eqb (low24 (opening_word kind o) % 4) kind (opening_kind kind o h))

pub opening_not_plain : (o : ℕ) → is_opening 1 (opening_word 2 o) ≡ false
unfolding is_opening
opening_not_plain o = is_false _
    (λ h. let e = eqb-true (low24 (opening_word 2 o) % 4) 1 (and_right (sound (opening_word 2 o)) _ h) in omega (arith, opening_kind 2 o (omega arith)))

pub done_is_done : (o : ℕ) → is_done o (done_word o) ≡ true
unfolding is_done done_word
done_is_done o = and_both (number_sound (o * 4 + 3)) (eq-eqb (low24 (number_word (o * 4 + 3))) (o * 4 + 3) (number_is (o * 4 + 3)))

module _ (edition : ℕ) (w : Word) (h : is_wear edition w ≡ true) (o : ℕ) where
  pub opened_plain : (ws : List Word) → state edition (w ∷ opening_word 1 o ∷ ws) ≡ open₁ o
  unfolding wear_part opening_part
  opened_plain ws =
      let P = w ∷ opening_word 1 o ∷ ws in
      with_wear edition P h ∙ plain P (low16 w) (opening_is_opening 1 o (omega arith)) ∙ ap open₁ (opening_order 1 o (omega arith))

  pub opened_received : (ws : List Word) → state edition (w ∷ opening_word 2 o ∷ done_word o ∷ ws) ≡ open₂ o
  unfolding wear_part opening_part done_part
  opened_received ws =
      let P = w ∷ opening_word 2 o ∷ done_word o ∷ ws in
      let e = opening_order 2 o (omega arith) in
      with_wear edition P h
      ∙ received P (low16 w) (opening_not_plain o) (opening_is_opening 2 o (omega arith)) (rw e (done_is_done o))
      ∙ ap open₂ e

-- what a cleared page is
pub record IsCleared (edition : ℕ) (P : List Word) (n : ℕ) : Type 0 where
  pub first : Word
  pub rest : ℕ
  pub form : P ≡ first ∷ replicate rest blank_word
  pub wear : is_wear edition first ≡ true
  pub worn : low16 first ≡ n

never : {A : Type 0} {s t : State} → s ≡ t → (s ≡ t → ◌≡◌ {A = ℕ} 0 1) → A
never e f = absurd (let z = f e in omega arith)

cleared_form : (edition : ℕ) (x : Word) (xs : List Word) (n : ℕ) → is_wear edition x ≡ true → cond (all_blank xs) (cleared (low16 x)) bad ≡ cleared n
    → IsCleared edition (x ∷ xs) n
cleared_form edition x xs n w h =
    by_cases (all_blank xs)
    (λ b.
    let e : cleared (low16 x) ≡ cleared n = rw b at h in
    record { first = x; rest = length xs; form = ap (λ (ws : List Word). x ∷ ws) (all_blank_is xs b); wear = w; worn = cc })
    (λ b. let e : bad ≡ cleared n = rw b at h in never e (λ q. cc))

pub cleared_is : (edition : ℕ) (P : List Word) (n : ℕ) → state edition P ≡ cleared n → IsCleared edition P n
unfolding wear_part is_wear
cleared_is edition [] n h =
    let e : bad ≡ cleared n = sym (no_wear edition [] (rw blank_not_sound)) ∙ h in never e (λ q. cc)
cleared_is edition (x ∷ xs) n h =
    let P = x ∷ xs in
    by_cases (is_wear edition x)
    (λ w.
    let h' : state_after_wear P (low16 x) ≡ cleared n = sym (with_wear edition P w) ∙ h in
    by_cases (is_opening 1 (opening_part P))
    (λ o₁. let e = sym (plain P (low16 x) o₁) ∙ h' in never e (λ q. cc))
    (λ o₁. by_cases (is_opening 2 (opening_part P))
    (λ o₂. by_cases (is_done (order_in (opening_part P)) (done_part P))
    (λ d. let e = sym (received P (low16 x) o₁ o₂ d) ∙ h' in never e (λ q. cc))
    (λ d. let e = sym (unfinished P (low16 x) o₁ o₂ d) ∙ h' in never e (λ q. cc)))
    (λ o₂. cleared_form edition x xs n w (sym (unopened P (low16 x) o₁ o₂) ∙ h'))))
    (λ w. let e = sym (no_wear edition P w) ∙ h in never e (λ q. cc))
