-- How many steps each list of the rules has. Assumes nothing.
use Prim.Native.Nat.{ℕ, zero, suc, ◌+◌, ◌*◌, ◌≤◌, ◌<◌, max}
use mathlib.Core.Path.{◌≡◌, refl}
use mathlib.Core.List.{List, [], ◌∷◌}
use native.Mathlib.Omega.{arith}
use lib.ListN.{length, length-append, length-map}
use lib.Dec.{eqb}
use borrow.Author.Tests.{ne_eqb, eqb-true, eqb-false}
use Rattle.rules.specs.Word.{Word, word, wear_word, opening_word, word_steps}
use Rattle.rules.specs.Page.{Page, wear_place, opening_place, slot_place}
use Rattle.rules.specs.Store.{each, Setting}
use Rattle.rules.specs.Steps.{renew, renew_all, format_steps, renewed_wear, greatest_wear, Renewal, renewal, renewals, renew_each, renew_picked, other}
use Rattle.rules.specs.Steps.{slots_steps, Change, words_of, open_steps, fill_steps, move_steps}
use Rattle.rules.proofs.Truth.{by_cases}

pub word_length : (p at : ℕ) (w : Word) → length (word_steps p at w) ≡ 2
unfolding word_steps
word_length p at (word a b c d) = refl

pub renew_length : (edition p wear : ℕ) → length (renew edition p wear) ≡ 3
unfolding renew
renew_length edition p wear = omega (arith, word_length p wear_place (wear_word edition wear))

pub renew_all_long : (edition k n : ℕ) → length (renew_all edition k n) ≡ 3 * n
unfolding renew_all
renew_all_long edition k zero = refl
renew_all_long edition k (suc n) =
    omega (arith, length-append (renew edition k 1) (renew_all edition (suc k) n), renew_length edition k 1, renew_all_long edition (suc k) n)

pub format_long : (edition n : ℕ) → length (format_steps edition n) ≡ 3 * n + 2
unfolding format_steps
format_long edition n =
    let w = opening_word 1 0 in
    omega (arith, length-append (renew_all edition 0 n) (word_steps 0 opening_place w), renew_all_long edition 0 n, word_length 0 opening_place w)

-- ---- slots: two steps for each

pub slots_long : (p k : ℕ) (ws : List Word) → length (slots_steps p k ws) ≡ 2 * length ws
unfolding slots_steps
slots_long p k [] = refl
slots_long p k (w ∷ ws) =
    omega (arith, length-append (word_steps p (slot_place k) w) (slots_steps p (suc k) ws), word_length p (slot_place k) w, slots_long p (suc k) ws)

pub open_long : (p o : ℕ) (c : Change) → length (open_steps p o c) ≡ 2 + 2 * length (words_of c)
unfolding open_steps
open_long p o c =
    let w = opening_word 1 o in
    omega (
      arith,
      length-append (word_steps p opening_place w) (slots_steps p 0 (words_of c)),
      word_length p opening_place w,
      slots_long p 0 (words_of c),
    )

-- ---- pages renewed: three steps for each

pub each_long : (edition : ℕ) (rs : List Renewal) → length (renew_each edition rs) ≡ 3 * length rs
unfolding each
each_long edition [] = refl
each_long edition (renewal k w ∷ rs) =
    omega (arith, length-append (renew edition k w) (renew_each edition rs), renew_length edition k w, each_long edition rs)

-- ---- a move: every page but one is renewed

renewals_all : (p g k : ℕ) (ps : List Page) → p < k → length (renewals (λ j s. other p j) g k ps) ≡ length ps
unfolding renewals other
renewals_all p g k [] h = refl
renewals_all p g k (x ∷ ps) h =
    let rest = renewals_all p (max g (renewed_wear g x.wear)) (suc k) ps (omega arith) in
    rw (ne_eqb k p (λ e. omega arith)) (omega arith)

pub renewals_others : (p g k : ℕ) (ps : List Page) → k ≤ p → p < k + length ps → length (renewals (λ j s. other p j) g k ps) + 1 ≡ length ps
unfolding renewals other
renewals_others p g k [] h l = absurd (omega arith)
renewals_others p g k (x ∷ ps) h l =
    by_cases (eqb k p) (λ t. let e = eqb-true k p t in let all = renewals_all p g (suc k) ps (omega arith) in rw t (omega arith))
    (λ t.
    let ne = eqb-false k p t in
    let rest = renewals_others p (max g (renewed_wear g x.wear)) (suc k) ps (omega arith) (omega arith) in
    rw t (omega arith))

fill_long : (p o : ℕ) (rs : List Setting) → length (fill_steps p o rs) ≡ 4 + 2 * length rs
unfolding fill_steps
fill_long p o rs = simp (length-append, word_length, slots_long, length-map) (omega arith)

pub move_long : (edition p o : ℕ) (rs : List Setting) (ps : List Page) → p < length ps
    → length (move_steps edition p o rs ps) + 3 ≡ 4 + 2 * length rs + 3 * length ps
unfolding move_steps renew_picked
move_long edition p o rs ps h =
    let others = renewals (λ j s. other p j) (greatest_wear ps) 0 ps in
    omega (
      arith,
      fill_long p o rs,
      renewals_others p (greatest_wear ps) 0 ps (omega arith) (omega arith),
      each_long edition others,
      length-append (fill_steps p o rs) (renew_each edition others),
    )
