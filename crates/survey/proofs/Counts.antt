-- What the roles of all pages tell by being counted and compared: how many pages are used and how many cleared, and whether two used
-- ones have one order. Assumes nothing.
use Prim.Native.Nat.{ℕ, ◌+◌}
use mathlib.Core.Path.{◌≡◌, refl, ap, ◌∙◌}
use mathlib.Core.Bool.{Bool, false, cond, ◌||◌}
use mathlib.Core.List.{List, [], ◌∷◌, map}
use native.Mathlib.Omega.{arith}
use lib.Dec.{eqb}
use borrow.Author.Tests.{eqb-true, eqb-false, eq-eqb, ne_eqb}
use Rattle.std.specs.List.{count_by}
use Rattle.std.proofs.lemmas.List.Sums.{sum_by-cons}
use Rattle.rules.specs.Page.{State}
use Rattle.rules.specs.Store.{used, is_cleared, order, add_order, used_orders, count}
use Rattle.rules.specs.Call.{among, repeats}
use Rattle.rules.proofs.Truth.{by_cases}
use Rattle.survey.specs.declared.Role.{Role}
use Rattle.survey.specs.Roles.{role, is_used as is_used_role, is_cleared as is_cleared_role, ranks}
use Rattle.survey.specs.Places.{doubled}
use Rattle.survey.proofs.Ranks.{rank_in, used_role, cleared_role, rank_used, rank_unused, ranks_of}

-- ---- how many

-- as many roles pass a test as states pass another that says the same
module _ (b : ℕ) (p : Role → Bool) (test : State → Bool) (h : (s : State) → p (role b s) ≡ test s) where
  count_roles : (ss : List State) → count_by p (map (role b) ss) ≡ count test ss
  unfolding count
  count_roles [] = refl
  count_roles (s ∷ ss) =
      sum_by-cons (λ (r : Role). cond (p r) 1 0) (role b s) (map (role b) ss) ∙ rw (h s) (ap (λ (n : ℕ). cond (test s) 1 0 + n) (count_roles ss))

pub count_used_roles : (b : ℕ) (ss : List State) → count_by is_used_role (map (role b) ss) ≡ count (used b) ss
count_used_roles b = count_roles b is_used_role (used b) (used_role b)

pub count_cleared_roles : (b : ℕ) (ss : List State) → count_by is_cleared_role (map (role b) ss) ≡ count is_cleared ss
count_cleared_roles b = count_roles b is_cleared_role is_cleared (cleared_role b)

-- ---- two of one order

same_next : (o n : ℕ) → eqb (o + 1) (n + 1) ≡ eqb o n
same_next o n =
    by_cases (eqb o n) (λ e. rw e (eq-eqb (o + 1) (n + 1) (ap (λ (x : ℕ). x + 1) (eqb-true o n e))))
    (λ e. rw e (ne_eqb (o + 1) (n + 1) (λ q. eqb-false o n e (omega arith))))

among_ranks : (b o : ℕ) (ss : List State) → among (o + 1) (map (rank_in b) ss) ≡ among o (used_orders b ss)
unfolding among used_orders add_order
among_ranks b o [] = refl
among_ranks b o (s ∷ ss) =
    by_cases (used b s)
    (λ u. rw (rank_used b s u, u) (rw (same_next o (order s)) (ap (λ (t : Bool). eqb o (order s) || t) (among_ranks b o ss))))
    (λ u. rw (rank_unused b s u, u) (rw (ne_eqb (o + 1) 0 (λ z. omega arith)) (among_ranks b o ss)))

doubled_ranks : (b : ℕ) (ss : List State) → doubled (map (rank_in b) ss) ≡ repeats (used_orders b ss)
unfolding doubled repeats used_orders add_order
doubled_ranks b [] = refl
doubled_ranks b (s ∷ ss) =
    by_cases (used b s)
    (λ u.
    let z : eqb (order s + 1) 0 ≡ false = ne_eqb (order s + 1) 0 (λ q. omega arith) in
    rw (rank_used b s u, u) (rw (z, among_ranks b (order s) ss, doubled_ranks b ss)))
    (λ u. rw (rank_unused b s u, u) (doubled_ranks b ss))

pub repeats_roles : (b : ℕ) (ss : List State) → doubled (ranks (map (role b) ss)) ≡ repeats (used_orders b ss)
repeats_roles b ss = ap doubled (ranks_of b ss) ∙ doubled_ranks b ss
