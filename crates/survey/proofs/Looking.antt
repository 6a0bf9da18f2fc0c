-- What one look at an image tells, from what the functions counted. Assumes nothing.
use Prim.Native.Nat.{ℕ, suc, ◌+◌, ◌-◌, ◌*◌, ◌≤◌, ◌<◌}
use mathlib.Core.Path.{◌≡◌, refl, sym, ap, ap₂, ◌∙◌}
use mathlib.Core.Bool.{Bool, true, false, cond, ◌||◌}
use mathlib.Core.List.{List, [], ◌∷◌, map, ◌++◌, append-nil}
use native.Mathlib.Omega.{arith}
use lib.ListN.{length, get_or, take, drop, replicate, length-map}
use lib.Seq.{get_or-take, length-take-le}
use lib.Dec.{eqb}
use borrow.Author.Tests.{eqb-true, eqb-false, eq-eqb, ne_eqb}
use Rattle.std.specs.Prelude.{Option, None, Some}
use Rattle.std.specs.List.{count_by}
use Rattle.std.proofs.lemmas.List.{drop-replicate}
use Rattle.std.proofs.lemmas.List.Sums.{count_by-le-length}
use Rattle.rules.specs.Page.{Form, size, State, Page}
use Rattle.rules.specs.Store.{Under, states, base, used, is_open, is_cleared, used_orders, count, active_index, active_order, active_page}
use Rattle.rules.specs.Store.{active_slots, page_at, free_slot, used_pages, oldest_first, each, no_page}
use Rattle.rules.specs.Steps.{unclean}
use Rattle.rules.specs.Call.{first_of, page_count, pages, page_in, wrong_size, no_store, repeats, all_used, OK, NO_STORE, DAMAGED}
use Rattle.rules.proofs.Cut.{page_within, pages_long}
use Rattle.rules.proofs.Truth.{by_cases, or_false_left}
use Rattle.rules.proofs.Rows.{AllFail, all_fail}
use Rattle.rules.proofs.Stores.{each_append, length_states, orders_used, count_all, count_open, count_used}
use Rattle.rules.proofs.Told.{page_cut}
use Rattle.rules.proofs.Ready.{Sizes, right_sizes, some_used}
use Rattle.pages.specs.Read.{as_state}
use Rattle.pages.specs.declared.State.{State as Code}
use Rattle.survey.specs.declared.Role.{Role}
use Rattle.survey.specs.declared.Role.TheVariants.{Unclean}
use Rattle.survey.specs.declared.Look.{Look}
use Rattle.survey.specs.States.{Paged, OrdersFit, slots_in}
use Rattle.survey.specs.Roles.{role, order_in, is_used as is_used_role, is_cleared as is_cleared_role, rank, ranks}
use Rattle.survey.specs.Places.{doubled, lined, at_places}
use Rattle.survey.specs.Look.{pages_rows, pages_number, counted_number, line_of, roles_of, Lines, Told}
use Rattle.survey.proofs.Arrays.{map_next, front_is, behind_is}
use Rattle.survey.proofs.Ranks.{rank_at, rank_in, ranks_of, ranks_under}
use Rattle.survey.proofs.Counts.{count_used_roles, count_cleared_roles, repeats_roles}
use Rattle.survey.proofs.Active.{active_newest, active_rank, active_below, active_inside}
use Rattle.survey.proofs.Line.{at_place, length_lined, lined_last, under_at, Lists, lists}
use Rattle.survey.proofs.Slots.{slots_are}

-- ---- the number

-- no page is used exactly if none is open
none_open : (ss : List State) → eqb (count (used (base ss)) ss) 0 ≡ eqb (count is_open ss) 0
none_open ss =
    by_cases (eqb (count is_open ss) 0)
    (λ z.
    let o = eqb-true (count is_open ss) 0 z in
    let l = count_open (base ss) ss in
    rw z (eq-eqb (count (used (base ss)) ss) 0 (omega arith)))
    (λ z.
    let l = some_used ss (eqb-false (count is_open ss) 0 z) in
    rw z (ne_eqb (count (used (base ss)) ss) 0 (λ e. omega arith)))

damaged_by : (t u : Bool) → cond u DAMAGED (cond t DAMAGED OK) ≡ cond (t || u) DAMAGED OK
damaged_by true true = refl
damaged_by true false = refl
damaged_by false true = refl
damaged_by false false = refl

-- the number by what was counted is the number by the rules
counted_is : (fm : Form) (i : List ℕ) (n u : ℕ) (t : Bool) → wrong_size fm i ≡ false → length (states (pages fm i)) ≡ n
    → u ≡ count (used (base (states (pages fm i)))) (states (pages fm i))
    → t ≡ repeats (used_orders (base (states (pages fm i))) (states (pages fm i))) → counted_number n u t ≡ pages_number fm i
unfolding counted_number pages_number pages_rows first_of no_store all_used
counted_is fm i n u t w l eu et =
    let ss = states (pages fm i) in
    rw (w, eu, et, none_open ss, ← l)
    (ap (λ (x : ℕ). cond (eqb (count is_open ss) 0) NO_STORE x)
    (damaged_by (repeats (used_orders (base ss) ss)) (eqb (count (used (base ss)) ss) (length ss))))

-- an image of a wrong size is refused for that
pub number_wrong : (fm : Form) (i : List ℕ) → wrong_size fm i ≡ true → pages_number fm i ≡ 1
unfolding pages_number pages_rows first_of
number_wrong fm i w = rw w

-- what a number 0 tells
module _ (fm : Form) (i : List ℕ) (ok : pages_number fm i ≡ 0) where
  tests : AllFail (pages_rows fm i)
  unfolding pages_number
  tests = all_fail (pages_rows fm i) ok

  pub pages_sized : wrong_size fm i ≡ false
  unfolding pages_rows AllFail
  pages_sized = tests.0

  pub pages_stored : count is_open (states (pages fm i)) ≡ 0 → ⊥
  unfolding pages_rows AllFail no_store
  pages_stored = eqb-false _ 0 tests.1.0

  pages_apart : repeats (used_orders (base (states (pages fm i))) (states (pages fm i))) ≡ false
  unfolding pages_rows AllFail
  pages_apart = or_false_left _ (all_used (states (pages fm i))) tests.1.1.0

-- ---- the pages

-- the roles of an image's n pages in the first places of an array; the rest is unclean
abbrev pub HasRoles : (fm : Form) (i : List ℕ) (n : ℕ) → List Role → Type 0
HasRoles fm i n roles =
    (take n roles ≡ map (role (base (states (pages fm i)))) (states (pages fm i))) × (drop n roles ≡ replicate (32 - n) Unclean)

-- such is one of unclean pages over which they were written
pub has_roles : (fm : Form) (i : List ℕ) (xs : List Code) {n b : ℕ} {roles : List Role} → Paged fm i n → b ≡ base (states (pages fm i))
    → map as_state xs ≡ states (pages fm i) → roles ≡ map (role b) (map as_state xs) ++ drop (length xs) (replicate 32 Unclean)
    → HasRoles fm i n roles
has_roles fm i xs {n} {b} {roles} p of_base of_states e =
    let all = states (pages fm i) in
    let many : length all ≡ n = length_states (pages fm i) ∙ pages_long fm i ∙ sym p.count in
    let long : length xs ≡ n = sym (length-map xs as_state) ∙ ap length of_states ∙ many in
    let is : roles ≡ map (role (base all)) all ++ drop n (replicate 32 Unclean) = rw (← of_base, ← of_states, ← long) e in
    let whole : length (map (role (base all)) all) ≡ n = length-map all (role (base all)) ∙ many in
    (front_is _ _ is whole, behind_is _ _ is whole ∙ drop-replicate n 32 Unclean)

-- what the functions gave of an image of n pages: their roles, rs, and how many are used, u
pub record Seen (fm : Form) (i : List ℕ) (n u : ℕ) (rs : List Role) : Type 0 where
  pub paged : Paged fm i n
  pub fits : OrdersFit (states (pages fm i))
  pub roles_are : rs ≡ map (role (base (states (pages fm i)))) (states (pages fm i))
  pub uses : u ≡ count_by is_used_role rs

rank_some : (o : Option ℕ) (k : ℕ) → rank o ≡ k + 1 → o ≡ Some k
rank_some None k e = absurd (omega arith)
rank_some (Some p) k e = ap Some (let q : p ≡ k = omega arith in q)

module _ {fm : Form} {i : List ℕ} {n u : ℕ} {rs : List Role} (s : Seen fm i n u rs) where
  abbrev all : List State
  all = states (pages fm i)

  long : length all ≡ n
  long = length_states (pages fm i) ∙ pages_long fm i ∙ sym s.paged.count

  pub used_are : u ≡ count (used (base all)) all
  used_are = s.uses ∙ ap (count_by is_used_role) s.roles_are ∙ count_used_roles (base all) all

  pub number_is : counted_number n u (doubled (ranks rs)) ≡ pages_number fm i
  number_is =
      counted_is fm i n u (doubled (ranks rs)) s.paged.right long used_are
      (ap (λ (x : List Role). doubled (ranks x)) s.roles_are ∙ repeats_roles (base all) all)

  -- as many roles as pages
  pub roles_long : length rs ≡ n
  roles_long = rw s.roles_are (length-map all (role (base all)) ∙ long)

  -- no more are used than there are
  pub used_few : u ≤ n
  used_few = let l = count_by-le-length is_used_role rs in omega (arith, s.uses, roles_long)

  -- ---- of pages that are not refused

  module _ (ok : pages_number fm i ≡ 0) where
    under : Under 4194305 (map (rank_in (base all)) all)
    under = ranks_under (base all) all s.fits

    ranks_are : ranks rs ≡ map (rank_in (base all)) all
    ranks_are = ap ranks s.roles_are ∙ ranks_of (base all) all

    some : 0 < length (used_orders (base all) all)
    some =
        let l = some_used all (pages_stored fm i ok) in
        omega (arith, count_used (base all) (pages fm i), ap length (orders_used (base all) (pages fm i)))

    pub used_some : 0 < u
    used_some = let l = some_used all (pages_stored fm i ok) in let e = used_are in omega arith

    -- ---- the line

    line_up : Lists (base all) 4194305 u (pages fm i)
    line_up = lists (base all) 4194305 u (pages fm i) (pages_apart fm i ok) under used_are

    module _ {line : List ℕ} (e : line ≡ lined (ranks rs) 4194305 u) where
      is_line : line ≡ lined (map (rank_in (base all)) all) 4194305 u
      is_line = e ∙ ap (λ (xs : List ℕ). lined xs 4194305 u) ranks_are

      pub line_long : length line ≡ u
      line_long = rw e (length_lined (ranks rs) 4194305 u)

      pub last_is : get_or line (u - 1) 0 ≡ active_index all
      last_is = rw is_line (lined_last (map (rank_in (base all)) all) 4194305 u used_some) ∙ active_newest 4194305 all some under

      pub line_told : Lines fm i line
      line_told =
          record {
            within = λ k l.
                let w = under_at (length (pages fm i)) line k (rw is_line line_up.within) l in
                omega (arith, pages_long fm i);
            used = rw is_line line_up.pages;
            last = rw line_long last_is;
          }

      pub uses_told : length line ≡ count (used (base all)) all
      uses_told = line_long ∙ used_are

    -- the same in the first places of an array
    module _ (before : List ℕ) {line : List ℕ} (e : line ≡ lined (ranks rs) 4194305 u ++ drop u before) where
      in_front : take u line ≡ lined (ranks rs) 4194305 u
      in_front = front_is (lined (ranks rs) 4194305 u) before e (length_lined (ranks rs) 4194305 u)

      front_line : take u line ≡ lined (map (rank_in (base all)) all) 4194305 u
      front_line = is_line in_front

      pub front_long : length (take u line) ≡ u
      front_long = line_long in_front

      last_of : get_or (take u line) (u - 1) 0 ≡ active_index all
      last_of = last_is in_front

      pub front_last : get_or line (u - 1) 0 ≡ active_index all
      front_last = sym (get_or-take u line (u - 1) 0 (omega (arith, used_some))) ∙ last_of

      pub front_told : Lines fm i (take u line)
      front_told = line_told in_front

      pub line_rest : before ≡ replicate 32 0 → drop u line ≡ replicate (32 - u) 0
      line_rest b = behind_is (lined (ranks rs) 4194305 u) before e (length_lined (ranks rs) 4194305 u) ∙ ap (drop u) b ∙ drop-replicate u 32 0

    -- ---- the active page

    module _ {p : ℕ} (is : p ≡ active_index all) where
      pub active_within : p < n
      active_within = omega (arith, active_inside 4194305 all some under, long)

      pub active_fits : p * size fm + size fm ≤ length i
      active_fits = let l = page_within (size fm) n p active_within in let z = s.paged.whole in omega arith

      pub order_told : (d : Role) → order_in (get_or rs p d) ≡ Some (active_order all)
      order_told d =
          let inside : p < length rs = omega (arith, roles_long, active_within) in
          rank_some (order_in (get_or rs p d)) (active_order all)
          (sym (rank_at rs p d inside) ∙ ap₂ (λ (xs : List ℕ) (k : ℕ). get_or xs k 0) ranks_are is ∙ active_rank 4194305 all some under)

      pub free_told : {f : ℕ} → f ≡ free_slot (slots_in fm p i) → f ≡ free_slot (active_slots (pages fm i))
      unfolding active_slots active_page
      free_told e =
          let inside : p < page_count fm i = omega (arith, active_within, s.paged.count) in
          e ∙ ap free_slot (sym (slots_are fm p i inside) ∙ ap (λ (k : ℕ). (page_at k (pages fm i)).slots) is)

    pub order_fits : active_order all < 4194304
    order_fits = let l = active_below 4194305 all some under in omega arith

    -- ---- the cleared pages

    pub cleared_told : {c : ℕ} → c ≡ count_by is_cleared_role rs → c ≡ count is_cleared all
    cleared_told e = e ∙ ap (count_by is_cleared_role) s.roles_are ∙ count_cleared_roles (base all) all

-- ---- what is told of all pages, and of the line

-- each page is used, cleared or unclean
pub counted : {fm : Form} {i : List ℕ} {look : Look} → Told fm i look
    → look.used + look.cleared + count (unclean (base (states (pages fm i)))) (states (pages fm i)) ≡ look.count
counted {fm} {i} t =
    let all = states (pages fm i) in
    omega (arith, count_all (base all) all, t.uses, t.clears, length_states (pages fm i), pages_long fm i, t.counts)

-- the pages at the places of the line are the used ones, the oldest first
module _ (fm : Form) (i : List ℕ) where
  placed : (ks : List ℕ) → ((k : ℕ) → k < length ks → get_or ks k 0 < page_count fm i) → at_places (pages fm i) ks ≡ map (λ (k : ℕ). page_in fm k i) ks
  unfolding at_places each pages
  placed [] h = refl
  placed (k ∷ ks) h =
      let l = h 0 (omega arith) in
      ap₂ (λ (xs ys : List Page). xs ++ ys)
      (sym (append-nil (take 1 (drop k (pages fm i)))) ∙ at_place (pages fm i) k no_page (omega (arith, pages_long fm i))
      ∙ ap (λ (p : Page). p ∷ []) (page_cut fm (page_count fm i) k i l))
      (placed ks (λ j m. h (suc j) (omega arith)))

  -- one page more of a line
  pub line_next : {A : Type 0} (of : Page → List A) (line : List ℕ) (k : ℕ) → k < length line
      → each of (map (λ (p : ℕ). page_in fm p i) (take (k + 1) line))
      ≡ each of (map (λ (p : ℕ). page_in fm p i) (take k line)) ++ of (page_in fm (get_or line k 0) i)
  unfolding each
  line_next {A} of line k l =
      let told : ℕ → Page = λ p. page_in fm p i in
      ap (each of) (map_next told line k 0 l)
      ∙ each_append of (map told (take k line)) (told (get_or line k 0) ∷ [])
      ∙ ap (λ (xs : List A). each of (map told (take k line)) ++ xs) (append-nil (of (told (get_or line k 0))))

  pub line_pages : {line : List ℕ} → Lines fm i line
      → map (λ (k : ℕ). page_in fm k i) line ≡ oldest_first (used_pages (base (states (pages fm i))) (pages fm i))
  line_pages {line} h = sym (placed line h.within) ∙ h.used

-- and they lie in the image
module _ {fm : Form} {i : List ℕ} {look : Look} (ok : pages_number fm i ≡ 0) (t : Told fm i look) where
  sizes : Sizes fm i
  sizes = right_sizes fm i (pages_sized fm i ok)

  -- the numbers told are those of at most 32 pages
  pub told_few : (look.count ≤ 32) × (look.used ≤ 32) × (look.cleared ≤ 32)
  told_few = let all = counted t in let n = t.counts in let m = sizes.most in (omega arith, omega arith, omega arith)

  -- the line has as many places as pages are used
  pub told_line : length (line_of look) ≡ look.used
  told_line = length-take-le look.used look.line (omega (arith, told_few.1, t.long.0))

  pub told_some : 0 < length (line_of look)
  told_some = let l = some_used (states (pages fm i)) (pages_stored fm i ok) in let e = t.uses in omega (arith, told_line)

  -- there are as many roles as pages
  pub told_roles : length (roles_of look) ≡ look.count
  told_roles = length-take-le look.count look.roles (omega (arith, told_few.0, t.long.1))

  pub line_places : (k : ℕ) → k < length (line_of look) → get_or (line_of look) k 0 < 32
  line_places k l = omega (arith, t.line.within k l, sizes.most)

  pub line_within : (k : ℕ) → k < length (line_of look) → get_or (line_of look) k 0 * size fm + size fm ≤ length i
  line_within k l = omega (arith, page_within (size fm) (page_count fm i) (get_or (line_of look) k 0) (t.line.within k l), sizes.sized)
