-- Slot k, behind those that are passed.
use Prim.Native.Nat.{ℕ, ◌+◌, ◌*◌, ◌≤◌}
use mathlib.Core.Path.{◌≡◌, ap, subst}
use mathlib.Core.List.{List, [], ◌∷◌, map}
use native.Mathlib.Omega.{arith}
use lib.ListN.{length, take}
use Rattle.rules.specs.Word.{Word, words, slot}
use Rattle.rules.specs.Store.{Place, outside, place_behind, count}
use Rattle.rules.specs.Listing.{condition_at, conditions}
use Rattle.words.specs.Read.{as_slot, word_in}
use Rattle.words.proofs.Parts.{all_words, next_word}
use Rattle.groups.specs.Stands.{Stands}
use Rattle.groups.proofs.Standing.{place_at, next_place, taken_many}
use Rattle.broken.specs.Counts.{Counts}
use Rattle.broken.proofs.Counting.{counts_more, counts_few, next_slot}
use Rattle.broken.proofs.of_slots.Goals as goal
use Rattle.broken.proofs.of_slots.Goals.{After-of_slot}

module _ (c : After-of_slot) where
  abbrev slots : List ℕ
  slots = c.args.slots.now

  abbrev k : ℕ
  k = c.loop-k.k

  abbrev at : Place
  at = place_at c.args.edition slots k

  abbrev here : Word
  here = word_in slots (4 * k)

  few : 4 * k + 4 ≤ length slots
  few = omega arith

  is : as_slot here c.in_slot-s.result ≡ slot c.args.edition here
  is = subst (λ w. as_slot w c.in_slot-s.result ≡ slot c.args.edition w) c.word_at.ensures c.in_slot-s.ensures

  one : Counts (condition_at at (slot c.args.edition here) ∷ []) c.of_slot.result
  one = rw (← is) (c.of_slot.ensures at (take k (words slots)) here c.loop-k.invariant.2)

pub loop-k-init : goal.loop-k-init
unfolding conditions count place_behind Stands
loop-k-init c =
    let none = c.default-broken.ensures in
    (omega (arith, none.0, none.1), record { half = none.0; spoiled = none.1 }, tt)

pub add_assign-requires : goal.add_assign-requires
add_assign-requires c =
    let here = counts_few (one (goal.at.add_assign-requires c).After-of_slot) in
    let so_far = c.loop-k.invariant.0 in
    (omega arith, omega arith)

pub loop-k-preserved : goal.loop-k-preserved
loop-k-preserved c =
    let b = (goal.at.loop-k-preserved c).After-of_slot in
    let l = c.loop-k in
    let e = c.args.edition in
    let sum = c.add_assign.ensures.after in
    let next = c.behind-place.ensures (at b) (take (k b) (words (slots b))) (here b) l.invariant.2
    (ap (λ n. n + 1) (taken_many (slots b) (k b) (omega arith))) in (
      omega (arith, counts_few (one b), l.invariant.0, sum.0, sum.1),
      rw (next_slot e (slots b) (k b) (few b)) (counts_more l.invariant.1 (one b) sum),
      rw (next_place e (slots b) (k b) (few b), next_word (slots b) (k b) (few b), ← is b) next,
    )

pub returns : goal.returns
returns c =
    let a = c.args in
    let l = c.loop-k in
    let all = all_words a.slots.now l.k c.loop-k-test.false in
    subst (λ (ws : List Word). Counts (conditions outside (map (slot a.edition) ws)) l.broken) all l.invariant.1
