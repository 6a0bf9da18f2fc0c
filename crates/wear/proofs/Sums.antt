-- How the wears of a store add up: a finished write that moves adds one for each page but one, any other write none. Assumes nothing.
use Prim.Native.Nat.{ℕ, ◌+◌, ◌-◌, ◌≤◌, ◌<◌}
use mathlib.Core.Path.{◌≡◌, refl, sym, ap, ◌∙◌, subst}
use mathlib.Core.Bool.{cond}
use mathlib.Core.List.{List, [], ◌∷◌, ◌++◌, map, map-append}
use native.Mathlib.Omega.{arith}
use lib.ListN.{length}
use Rattle.rules.specs.Page.{Page}
use Rattle.rules.specs.Store.{greatest, or_value}
use Rattle.rules.specs.Steps.{one_more, greatest_wear, Change, way, new_page}
use Rattle.rules.proofs.Wears.{greatest_parted}
use Rattle.rules.proofs.Phases.{Pages}
use Rattle.rules.proofs.Good.{Frame}
use Rattle.promise.specs.Corollaries.{moves}
use Rattle.wear.specs.Wear.{sum, wears}
use Rattle.wear.proofs.Finished.{told_in, Renewed, AllRenewed, Landed, Wrote, stayed, appended, opened, moved}
use Rattle.wear.proofs.Level.{Levelled, used_page, cleared_page, AllLevelled, Level, many_parted, parts}

-- what a page counts for
abbrev worn : Page → ℕ
worn p = or_value p.wear 0

sum_append : (xs ys : List ℕ) → sum (xs ++ ys) ≡ sum xs + sum ys
unfolding sum
sum_append [] ys = omega arith
sum_append (x ∷ xs) ys = omega (arith, sum_append xs ys)

wears_amid : (f : List Page) (p : Page) (r : List Page) → wears (f ++ p ∷ r) ≡ wears f + (worn p + wears r)
unfolding wears sum
wears_amid f p r = ap sum (map-append worn f (p ∷ r)) ∙ sum_append (map worn f) (worn p ∷ map worn r)

-- The wears of qs are those of ps and so much more, at most; and just that, where none has reached 65,535, as then none had.
pub record Adds (ps qs : List Page) (more : ℕ) : Type 0 where
  pub at_most : wears qs ≤ wears ps + more
  pub none_had : greatest_wear qs < 65535 → greatest_wear ps < 65535
  pub exactly : greatest_wear qs < 65535 → wears qs ≡ wears ps + more

-- pages that are renewed
one_adds : {b w t : ℕ} {p q : Page} → Renewed p q → Levelled b w t p → (n : ℕ) × (worn p ≡ n) × (worn q ≡ one_more n)
unfolding or_value
one_adds h (used_page n has is l m) = (n, rw has, rw (h.has_wear, h.one_more_than n has))
one_adds h (cleared_page n has is l m c) = (n, rw has, rw (h.has_wear, h.one_more_than n has))

all_add : (b w t : ℕ) (ps qs : List Page) → AllRenewed ps qs → AllLevelled b w t ps → Adds ps qs (length ps)
unfolding AllRenewed AllLevelled wears sum greatest_wear greatest
all_add b w t [] [] h a = record { at_most = omega arith; none_had = λ x. x; exactly = λ x. refl }
all_add b w t [] (q ∷ qs) h a = absurd h
all_add b w t (p ∷ ps) [] h a = absurd h
all_add b w t (p ∷ ps) (q ∷ qs) h a =
    let one = one_adds h.0 a.0 in
    let rest = all_add b w t ps qs h.1 a.1 in
    let was = one.1 in
    let is = one.2 in
    record {
      at_most = omega (arith, rest.at_most);
      none_had = λ x. omega (arith, rest.none_had (omega arith));
      exactly = λ x. omega (arith, rest.exactly (omega arith));
    }

module _ (c : Frame) (ch : Change) (F G : Pages) where
  abbrev ps : List Page
  ps = told_in c F

  abbrev qs : List Page
  qs = told_in c G

  -- where only one page changes, and keeps its wear
  none_added : {f r : List Page} {p q : Page} → Landed c F G f p r f q r → Adds ps qs 0
  unfolding or_value
  none_added {f} {r} {p} {q} l =
      let same : worn q ≡ worn p = rw l.wear in
      let sum_was = ap wears l.before ∙ wears_amid f p r in
      let sum_is_lem = ap wears l.after ∙ wears_amid f q r in
      let top_was = ap greatest_wear l.before ∙ greatest_parted f p r in
      let top_is = ap greatest_wear l.after ∙ greatest_parted f q r in
      record { at_most = omega arith; none_had = λ x. omega arith; exactly = λ x. omega arith }

  pub adds : Wrote c ch F G → Level ps → Adds ps qs (cond (moves (way ch ps)) (length ps - 1) 0)
  unfolding way new_page moves or_value
  adds (stayed s e) h =
      rw s (subst (λ (H : Pages). Adds ps (told_in c H) 0) (sym e)
      (record { at_most = omega arith; none_had = λ x. x; exactly = λ x. omega arith }))
  adds (appended l s free is same base_same taken) h = rw (s, free) (none_added l)
  adds (opened l s full two n is least ordered base_same taken) h = rw (s, full, two) (none_added l)
  adds (moved {f} {r} {g} {t} {p} {q} l s full one n is least ordered all_f all_r taken) h =
      let a = parts c ch F G l h.pages in
      let front = all_add _ _ _ f g all_f a.0 in
      let rest = all_add _ _ _ r t all_r a.2 in
      let same : worn q ≡ worn p = rw l.wear in
      let sum_was = ap wears l.before ∙ wears_amid f p r in
      let sum_is_lem = ap wears l.after ∙ wears_amid g q t in
      let top_was = ap greatest_wear l.before ∙ greatest_parted f p r in
      let top_is = ap greatest_wear l.after ∙ greatest_parted g q t in
      let many = many_parted c ch F G l in
      rw (s, full, one)
      (record {
        at_most = omega (arith, front.at_most, rest.at_most);
        none_had = λ x. omega (arith, front.none_had (omega arith), rest.none_had (omega arith));
        exactly = λ x. omega (arith, front.exactly (omega arith), rest.exactly (omega arith));
      })
