-- Laws of stores, of any number of pages: which pages are used, and the journal, when one page changes. Assumes nothing.
use Prim.Native.Nat.{ℕ, zero, suc, ◌+◌, ◌≤◌, ◌<◌, max}
use mathlib.Core.Path.{◌≡◌, refl, sym, ap, ◌∙◌, subst}
use mathlib.Core.Logic.{◌⊎◌, inl, inr, ⊎_elim}
use mathlib.Core.Bool.{Bool, true, false, cond, not, ◌||◌}
use mathlib.Core.List.{List, [], ◌∷◌, ◌++◌, map, map-append, append-nil, append_assoc}
use native.Mathlib.Omega.{arith}
use lib.ListN.{length, get_or, take}
use lib.Seq.{take-suc}
use lib.Dec.{eqb, leb}
use borrow.Author.Tests.{le-leb, lt-leb, leb-true, leb-false, eqb-true, eqb-false, eq-eqb, ne_eqb}
use Rattle.rules.specs.Page.{State, cleared, open₁, open₂, receiving, bad, Page}
use Rattle.rules.specs.Store.{states, order₂, base, used, is_cleared, is_open, order, add_order, used_orders, greatest, is_active, index_of}
use Rattle.rules.specs.Store.{add_page, used_pages, insert, oldest_first, Setting, each, records_in, all_records, count, Candidate}
use Rattle.rules.specs.Store.{nobody, better, offered, least_worn, page_at}
use Rattle.rules.specs.Steps.{unclean}
use Rattle.rules.specs.Call.{among, repeats}
use Rattle.rules.proofs.Truth.{is_false, by_cases, not_both, or_first, or_second, or_false_left, or_false_right}
use Rattle.rules.proofs.Pages.{Fades}
unfoldable pub use Rattle.rules.specs.Store.{Under}

-- ---- one part after the other

pub length_states : (ps : List Page) → length (states ps) ≡ length ps
unfolding states
length_states [] = refl
length_states (p ∷ ps) = ap suc (length_states ps)

pub states_append : (xs ys : List Page) → states (xs ++ ys) ≡ states xs ++ states ys
unfolding states
states_append [] ys = refl
states_append (p ∷ xs) ys = ap (λ (ss : List State). p.state ∷ ss) (states_append xs ys)

pub greatest_append : (xs ys : List ℕ) → greatest (xs ++ ys) ≡ max (greatest xs) (greatest ys)
unfolding greatest
greatest_append [] ys = omega arith
greatest_append (x ∷ xs) ys = let e = greatest_append xs ys in omega arith

-- of one more, the greater of the two
pub greatest_more : {A : Type 0} (f : A → ℕ) (l : List A) (i : ℕ) (d : A) → i < length l
    → greatest (map f (take (suc i) l)) ≡ max (greatest (map f (take i l))) (f (get_or l i d))
unfolding greatest
greatest_more f l i d h =
    let e : max (f (get_or l i d)) 0 ≡ f (get_or l i d) = omega arith in
    ap (λ (xs : List _). greatest (map f xs)) (take-suc l i d h) ∙ ap greatest (map-append f (take i l) (get_or l i d ∷ []))
    ∙ greatest_append (map f (take i l)) (f (get_or l i d) ∷ []) ∙ ap (max (greatest (map f (take i l)))) e

pub base_append : (xs ys : List State) → base (xs ++ ys) ≡ max (base xs) (base ys)
unfolding base
base_append xs ys = ap greatest (map-append order₂ xs ys) ∙ greatest_append (map order₂ xs) (map order₂ ys)

pub used_pages_append : (b : ℕ) (xs ys : List Page) → used_pages b (xs ++ ys) ≡ used_pages b xs ++ used_pages b ys
unfolding used_pages add_page
used_pages_append b [] ys = refl
used_pages_append b (p ∷ xs) ys =
    by_cases (used b p.state) (λ u. rw u (ap (λ (ps : List Page). p ∷ ps) (used_pages_append b xs ys)))
    (λ u. rw u (used_pages_append b xs ys))

pub count_append : {A : Type 0} (test : A → Bool) (xs ys : List A) → count test (xs ++ ys) ≡ count test xs + count test ys
unfolding count
count_append test [] ys = omega arith
count_append test (x ∷ xs) ys = omega (arith, count_append test xs ys)

pub count_alike : {A : Type 0} (f g : A → Bool) → ((x : A) → f x ≡ g x) → (xs : List A) → count f xs ≡ count g xs
unfolding count
count_alike f g h [] = refl
count_alike f g h (x ∷ xs) = rw (h x, count_alike f g h xs)

pub each_append : {A B : Type 0} (of : A → List B) (xs ys : List A) → each of (xs ++ ys) ≡ each of xs ++ each of ys
unfolding each
each_append of [] ys = refl
each_append of (x ∷ xs) ys = rw (each_append of xs ys) (sym (append_assoc (of x) (each of xs) (each of ys)))

-- the base of a store with a page in its midst
pub base_amid : (f : List Page) (p : Page) (r : List Page) → base (states (f ++ p ∷ r)) ≡ max (base (states f)) (max (order₂ p.state) (base (states r)))
unfolding base greatest states
base_amid f p r = ap base (states_append f (p ∷ r)) ∙ base_append (states f) (p.state ∷ states r)

-- ---- states and their use

pub closed_not_used : (b : ℕ) (s : State) → is_open s ≡ false → used b s ≡ false
unfolding is_open used
closed_not_used b (cleared n) h = refl
closed_not_used b (open₁ o) h = not_both refl h
closed_not_used b (open₂ o) h = not_both refl h
closed_not_used b receiving h = refl
closed_not_used b bad h = refl

pub closed_order₂ : (s : State) → is_open s ≡ false → order₂ s ≡ 0
unfolding is_open order₂
closed_order₂ (cleared n) h = refl
closed_order₂ (open₁ o) h = refl
closed_order₂ (open₂ o) h = not_both refl h
closed_order₂ receiving h = refl
closed_order₂ bad h = refl

-- a page that is not used does not make the base
pub unused_order₂ : (b : ℕ) (s : State) → used b s ≡ false → (order₂ s ≡ 0) ⊎ (order₂ s < b)
unfolding used order₂
unused_order₂ b (cleared n) h = inl refl
unused_order₂ b (open₁ o) h = inl refl
unused_order₂ b (open₂ o) h = inr (leb-false b o h)
unused_order₂ b receiving h = inl refl
unused_order₂ b bad h = inl refl

-- used pages are open, of the base order or greater
pub used_open : (b : ℕ) (s : State) → used b s ≡ true → (is_open s ≡ true) × (b ≤ order s)
unfolding is_open used order
used_open b (cleared n) h = not_both h refl
used_open b (open₁ o) h = (refl, leb-true b o h)
used_open b (open₂ o) h = (refl, leb-true b o h)
used_open b receiving h = not_both h refl
used_open b bad h = not_both h refl

-- ---- a page that is not used fades

module _ (f : List Page) (p q : Page) (r : List Page) where
  pub fade_base : used (base (states (f ++ p ∷ r))) p.state ≡ false → Fades p.state q.state → base (states (f ++ q ∷ r)) ≡ base (states (f ++ p ∷ r))
  fade_base u (inl e) = base_amid f q r ∙ ap (λ (s : State). max (base (states f)) (max (order₂ s) (base (states r)))) e ∙ sym (base_amid f p r)
  fade_base u (inr c) =
      let eq = base_amid f q r in
      let ep = base_amid f p r in
      let z = closed_order₂ q.state c in
      ⊎_elim (λ (h : order₂ p.state ≡ 0). omega arith) (λ h. omega arith) (unused_order₂ (base (states (f ++ p ∷ r))) p.state u)

  fade_used : (b : ℕ) → used b p.state ≡ false → Fades p.state q.state → used b q.state ≡ false
  fade_used b u (inl e) = rw e u
  fade_used b u (inr c) = closed_not_used b q.state c

  pub fade_pages : (b : ℕ) → used b p.state ≡ false → Fades p.state q.state → used_pages b (f ++ q ∷ r) ≡ used_pages b (f ++ p ∷ r)
  unfolding used_pages add_page
  fade_pages b u d = let v = fade_used b u d in used_pages_append b f (q ∷ r) ∙ rw v (sym (used_pages_append b f (p ∷ r) ∙ rw u))

-- ---- the page of greatest order comes last

-- every page of a list has an order below m
unfoldable pub Below : ℕ → List Page → Type 0
Below m [] = Unit {0}
Below m (p ∷ ps) = (order p.state < m) × Below m ps

insert_last : (p : Page) (qs : List Page) → Below (order p.state) qs → insert p qs ≡ qs ++ p ∷ []
unfolding Below insert
insert_last p [] h = refl
insert_last p (q ∷ qs) h =
    rw (lt-leb (order p.state) (order q.state) h.0) (ap (λ (ps : List Page). q ∷ ps) (insert_last p qs h.1))

insert_before : (p q : Page) (xs : List Page) → order p.state < order q.state → insert p (xs ++ q ∷ []) ≡ insert p xs ++ q ∷ []
unfolding insert
insert_before p q [] h = let l : order p.state ≤ order q.state = omega arith in rw (le-leb (order p.state) (order q.state) l)
insert_before p q (x ∷ xs) h =
    by_cases (leb (order p.state) (order x.state)) (λ t. rw t)
    (λ t. rw t (ap (λ (ps : List Page). x ∷ ps) (insert_before p q xs h)))

below_insert : (m : ℕ) (p : Page) (qs : List Page) → order p.state < m → Below m qs → Below m (insert p qs)
unfolding Below insert
below_insert m p [] h t = (h, tt)
below_insert m p (q ∷ qs) h t =
    by_cases (leb (order p.state) (order q.state)) (λ e. rw e (h, (t.0, t.1)))
    (λ e. rw e (t.0, below_insert m p qs h t.1))

below_oldest : (m : ℕ) (ps : List Page) → Below m ps → Below m (oldest_first ps)
unfolding Below oldest_first
below_oldest m [] h = tt
below_oldest m (p ∷ ps) h = below_insert m p (oldest_first ps) h.0 (below_oldest m ps h.1)

pub greatest_last : (q : Page) (xs ys : List Page) → Below (order q.state) xs → Below (order q.state) ys
    → oldest_first (xs ++ q ∷ ys) ≡ oldest_first (xs ++ ys) ++ q ∷ []
unfolding Below oldest_first
greatest_last q [] ys h t = insert_last q (oldest_first ys) (below_oldest (order q.state) ys t)
greatest_last q (x ∷ xs) ys h t = rw (greatest_last q xs ys h.1 t) (insert_before x q (oldest_first (xs ++ ys)) h.0)

-- the journal of a store ends with the records of its page of greatest order
pub journal_amid : (b : ℕ) (f : List Page) (p : Page) (r : List Page) → used b p.state ≡ true → Below (order p.state) (used_pages b f)
    → Below (order p.state) (used_pages b r)
    → all_records (oldest_first (used_pages b (f ++ p ∷ r))) ≡ all_records (oldest_first (used_pages b f ++ used_pages b r)) ++ records_in p
unfolding used_pages add_page each
journal_amid b f p r u h t =
    ap (λ (ps : List Page). all_records (oldest_first ps)) (used_pages_append b f (p ∷ r) ∙ rw u)
    ∙ ap all_records (greatest_last p (used_pages b f) (used_pages b r) h t)
    ∙ each_append records_in (oldest_first (used_pages b f ++ used_pages b r)) (p ∷ [])
    ∙ ap (λ (rs : List Setting). all_records (oldest_first (used_pages b f ++ used_pages b r)) ++ rs) (append-nil (records_in p))

-- the used pages with a used page in their midst
pub used_amid : (b : ℕ) (f : List Page) (p : Page) (r : List Page) → used b p.state ≡ true → used_pages b (f ++ p ∷ r) ≡ used_pages b f ++ p ∷ used_pages b r
unfolding used_pages add_page
used_amid b f p r u = used_pages_append b f (p ∷ r) ∙ rw u

pub unused_amid : (b : ℕ) (f : List Page) (p : Page) (r : List Page) → used b p.state ≡ false → used_pages b (f ++ p ∷ r) ≡ used_pages b f ++ used_pages b r
unfolding used_pages add_page
unused_amid b f p r u = used_pages_append b f (p ∷ r) ∙ rw u

-- ---- the orders of the used pages

unfoldable pub orders : List Page → List ℕ
orders [] = []
orders (p ∷ ps) = order p.state ∷ orders ps

pub orders_used : (b : ℕ) (ps : List Page) → used_orders b (states ps) ≡ orders (used_pages b ps)
unfolding orders used_orders states used_pages add_order add_page
orders_used b [] = refl
orders_used b (p ∷ ps) =
    by_cases (used b p.state) (λ u. rw u (ap (λ (os : List ℕ). order p.state ∷ os) (orders_used b ps)))
    (λ u. rw u (orders_used b ps))

pub orders_append : (xs ys : List Page) → orders (xs ++ ys) ≡ orders xs ++ orders ys
unfolding orders
orders_append [] ys = refl
orders_append (p ∷ xs) ys = ap (λ (os : List ℕ). order p.state ∷ os) (orders_append xs ys)

pub greatest_among : (o : ℕ) (os : List ℕ) → among (greatest (o ∷ os)) (o ∷ os) ≡ true
unfolding among greatest
greatest_among o [] = or_first false (eq-eqb (max o 0) o (omega arith))
greatest_among o (n ∷ os) =
    let g = greatest (n ∷ os) in
    by_cases (leb g o) (λ t. or_first (among (max o g) (n ∷ os)) (let l = leb-true g o t in eq-eqb (max o g) o (omega arith)))
    (λ t.
    let l = leb-false g o t in
    let e : max o g ≡ g = omega arith in
    or_second (eqb (max o g) o) (subst (λ (m : ℕ). among m (n ∷ os) ≡ true) (sym e) (greatest_among n os)))

-- every number of a list is at most m
unfoldable pub UpTo : ℕ → List ℕ → Type 0
UpTo m [] = Unit {0}
UpTo m (o ∷ os) = (o ≤ m) × UpTo m os

upto_more : (m n : ℕ) (os : List ℕ) → m ≤ n → UpTo m os → UpTo n os
unfolding UpTo
upto_more m n [] h t = tt
upto_more m n (o ∷ os) h t = let l : o ≤ m = t.0 in (omega arith, upto_more m n os h t.1)

pub greatest_upto : (os : List ℕ) → UpTo (greatest os) os
unfolding UpTo greatest
greatest_upto [] = tt
greatest_upto (o ∷ os) = (omega arith, upto_more (greatest os) (max o (greatest os)) os (omega arith) (greatest_upto os))

-- distinct numbers up to m, and m not among them: below m
below_by : (m : ℕ) (ps : List Page) → UpTo m (orders ps) → among m (orders ps) ≡ false → Below m ps
unfolding UpTo orders among Below
below_by m [] h t = tt
below_by m (p ∷ ps) h t =
    let ne = eqb-false m (order p.state) (or_false_left (eqb m (order p.state)) _ t) in
    let l : order p.state ≤ m = h.0 in
    (lt_of m (order p.state) l ne, below_by m ps h.1 (or_false_right (eqb m (order p.state)) _ t))
  where
    lt_of : (m o : ℕ) → o ≤ m → (m ≡ o → ⊥) → o < m
    lt_of m o l ne = omega arith

pub upto_under : (m : ℕ) (os : List ℕ) → UpTo m os → Under (m + 1) os
unfolding UpTo Under
upto_under m [] h = tt
upto_under m (o ∷ os) h = let l : o ≤ m = h.0 in (omega arith, upto_under m os h.1)

pub under_below : (m : ℕ) (ps : List Page) → Under m (orders ps) → Below m ps
unfolding Under orders Below
under_below m [] h = tt
under_below m (p ∷ ps) h = (h.0, under_below m ps h.1)

pub under_append : (m : ℕ) (xs ys : List ℕ) → Under m (xs ++ ys) → Under m xs × Under m ys
unfolding Under
under_append m [] ys h = (tt, h)
under_append m (x ∷ xs) ys h = let t = under_append m xs ys h.1 in ((h.0, t.0), t.1)

-- used pages are of the base order or greater, so a number above all their orders is above the base
pub base_under : (b m : ℕ) (ps : List Page) → Under m (orders (used_pages b ps)) → 0 < length (orders (used_pages b ps)) → b < m
unfolding Under orders used_pages add_page
base_under b m [] h l = absurd (omega arith)
base_under b m (p ∷ ps) h l =
    by_cases (used b p.state)
    (λ u.
    let h' = subst (λ (x : Bool). Under m (orders (add_page x p (used_pages b ps)))) u h in
    let o : b ≤ order p.state = (used_open b p.state u).1 in
    let t : order p.state < m = h'.0 in
    omega arith)
    (λ u. base_under b m ps (rw u at h) (rw u at l))

-- what is used above a greater base is used above a lesser one
used_more : (b o : ℕ) (s : State) → b ≤ o → used o s ≡ true → used b s ≡ true
unfolding used
used_more b o (cleared n) l h = h
used_more b o (open₁ m) l h = let t = leb-true o m h in le-leb b m (omega arith)
used_more b o (open₂ m) l h = let t = leb-true o m h in le-leb b m (omega arith)
used_more b o receiving l h = h
used_more b o bad l h = h

-- above all the orders nothing is used
unfoldable pub NoneUsed : ℕ → List Page → Type 0
NoneUsed o [] = Unit {0}
NoneUsed o (p ∷ ps) = (used o p.state ≡ false) × NoneUsed o ps

pub none_used : (b o : ℕ) (ps : List Page) → b ≤ o → Under o (orders (used_pages b ps)) → NoneUsed o ps
unfolding Under orders used_pages add_page NoneUsed
none_used b o [] l h = tt
none_used b o (p ∷ ps) l h =
    by_cases (used b p.state)
    (λ u.
    let h' = subst (λ (x : Bool). Under o (orders (add_page x p (used_pages b ps)))) u h in
    let t : order p.state < o = h'.0 in
    (is_false (used o p.state) (λ v. let g = (used_open o p.state v).1 in omega arith), none_used b o ps l h'.1))
    (λ u. (is_false (used o p.state) (λ v. not_both (used_more b o p.state l v) u), none_used b o ps l (rw u at h)))

pub none_used_pages : (o : ℕ) (ps : List Page) → NoneUsed o ps → used_pages o ps ≡ []
unfolding NoneUsed used_pages add_page
none_used_pages o [] h = refl
none_used_pages o (p ∷ ps) h = rw h.0 (none_used_pages o ps h.1)

-- a number above all others does not repeat one
among_under : (m : ℕ) (os : List ℕ) → Under m os → among m os ≡ false
unfolding Under among
among_under m [] h = refl
among_under m (o ∷ os) h = let l : o < m = h.0 in rw (ne_eqb m o (λ e. omega arith)) (among_under m os h.1)

among_insert : (x m : ℕ) (xs ys : List ℕ) → x < m → among x (xs ++ m ∷ ys) ≡ among x (xs ++ ys)
unfolding among
among_insert x m [] ys l = rw (ne_eqb x m (λ e. omega arith))
among_insert x m (o ∷ xs) ys l = ap (λ (t : Bool). eqb x o || t) (among_insert x m xs ys l)

pub repeats_insert : (m : ℕ) (xs ys : List ℕ) → Under m (xs ++ ys) → repeats (xs ++ ys) ≡ false → repeats (xs ++ m ∷ ys) ≡ false
unfolding Under repeats
repeats_insert m [] ys u h = rw (among_under m ys u) h
repeats_insert m (x ∷ xs) ys u h =
    let apart = or_false_left (among x (xs ++ ys)) (repeats (xs ++ ys)) h in
    let rest = repeats_insert m xs ys u.1 (or_false_right (among x (xs ++ ys)) (repeats (xs ++ ys)) h) in
    rw (among_insert x m xs ys u.0 ∙ apart) rest

-- where the active page is: no other used page is as new
pub record ActiveAt (b m : ℕ) (ps : List Page) : Type 0 where
  pub front : List Page
  pub page : Page
  pub rest : List Page
  pub form : ps ≡ front ++ page ∷ rest
  pub place : index_of (is_active b m) (states ps) ≡ length front
  pub is_used : used b page.state ≡ true
  pub is_order : order page.state ≡ m
  pub before : Below m (used_pages b front)
  pub behind : Below m (used_pages b rest)

below_used : (b m : ℕ) (p : Page) (ps : List Page) → used b p.state ≡ true → order p.state < m → Below m (used_pages b ps)
    → Below m (used_pages b (p ∷ ps))
unfolding used_pages add_page Below
below_used b m p ps u l h = rw u (l, h)

below_unused : (b m : ℕ) (p : Page) (ps : List Page) → used b p.state ≡ false → Below m (used_pages b ps) → Below m (used_pages b (p ∷ ps))
unfolding used_pages add_page
below_unused b m p ps u h = rw u h

further : (b m : ℕ) (p : Page) (ps : List Page) → is_active b m p.state ≡ false → (a : ActiveAt b m ps) → Below m (used_pages b (p ∷ a.front))
    → ActiveAt b m (p ∷ ps)
unfolding index_of states
further b m p ps na a bf =
    record {
      front = p ∷ a.front;
      page = a.page;
      rest = a.rest;
      form = ap (λ (qs : List Page). p ∷ qs) a.form;
      place = rw na (ap suc a.place);
      is_used = a.is_used;
      is_order = a.is_order;
      before = bf;
      behind = a.behind;
    }

pub active_at : (b m : ℕ) (ps : List Page) → UpTo m (orders (used_pages b ps)) → among m (orders (used_pages b ps)) ≡ true
    → repeats (orders (used_pages b ps)) ≡ false → ActiveAt b m ps
unfolding used_pages add_page orders among repeats UpTo Below is_active index_of states
active_at b m [] h t d = not_both t refl
active_at b m (p ∷ ps) h t d =
    by_cases (used b p.state)
    (λ u.
    let h' = subst (λ (x : Bool). UpTo m (orders (add_page x p (used_pages b ps)))) u h in
    let t' = subst (λ (x : Bool). among m (orders (add_page x p (used_pages b ps))) ≡ true) u t in
    let d' = subst (λ (x : Bool). repeats (orders (add_page x p (used_pages b ps))) ≡ false) u d in
    let alone = or_false_left (among (order p.state) (orders (used_pages b ps))) _ d' in
    let others = or_false_right (among (order p.state) (orders (used_pages b ps))) _ d' in
    by_cases (eqb (order p.state) m)
    (λ e.
    let is_m = eqb-true (order p.state) m e in
    record {
      front = [];
      page = p;
      rest = ps;
      form = refl;
      place = rw (u, e);
      is_used = u;
      is_order = is_m;
      before = tt;
      behind = below_by m (used_pages b ps) h'.1 (subst (λ (o : ℕ). among o (orders (used_pages b ps)) ≡ false) is_m alone);
    })
    (λ e.
    let ne : order p.state ≡ m → ⊥ = eqb-false (order p.state) m e in
    let l : order p.state ≤ m = h'.0 in
    let lt : order p.state < m = lt_of m (order p.state) l ne in
    let there : among m (orders (used_pages b ps)) ≡ true = or_rest (eqb m (order p.state)) (among m (orders (used_pages b ps)))
    (ne_eqb m (order p.state) (λ q. ne (sym q))) t' in
    let a = active_at b m ps h'.1 there others in
    further b m p ps (rw (u, e)) a (below_used b m p a.front u lt a.before)))
    (λ u.
    let a = active_at b m ps (rw u at h) (rw u at t) (rw u at d) in
    further b m p ps (rw u) a (below_unused b m p a.front u a.before))
  where
    lt_of : (m o : ℕ) → o ≤ m → (o ≡ m → ⊥) → o < m
    lt_of m o l ne = omega arith

    or_rest : (x y : Bool) → x ≡ false → (x || y) ≡ true → y ≡ true
    or_rest true y e h = not_both refl e
    or_rest false y e h = h

-- ---- the page that is taken

pub record TakenAt (k : ℕ) (ps : List Page) : Type 0 where
  pub front : List Page
  pub page : Page
  pub rest : List Page
  pub wear : ℕ
  pub form : ps ≡ front ++ page ∷ rest
  pub place : least_worn k (states ps) ≡ Candidate.page (k + length front) wear
  pub is_cleared : page.state ≡ cleared wear

-- a state is cleared or it is not
pub cleared_or_not : (s : State) → ((n : ℕ) × (s ≡ cleared n)) ⊎ ((is_cleared s ≡ false) × ((k : ℕ) → offered k s ≡ nobody))
unfolding is_cleared offered
cleared_or_not (cleared n) = inl (n, refl)
cleared_or_not (open₁ o) = inr (refl, λ k. refl)
cleared_or_not (open₂ o) = inr (refl, λ k. refl)
cleared_or_not receiving = inr (refl, λ k. refl)
cleared_or_not bad = inr (refl, λ k. refl)

none_taken : (k : ℕ) (ss : List State) → count is_cleared ss ≡ 0 → least_worn k ss ≡ nobody
unfolding count least_worn better is_cleared
none_taken k [] h = refl
none_taken k (s ∷ ss) h =
    ⊎_elim (λ (c : (n : ℕ)
    × (s ≡ cleared n)). absurd (let e = subst (λ (t : State). cond (is_cleared t) 1 0 + count is_cleared ss ≡ 0) c.1 h in omega arith))
    (λ c. let e = subst (λ (t : Bool). cond t 1 0 + count is_cleared ss ≡ 0) c.0 h in rw (c.1 k) (none_taken (suc k) ss (omega arith)))
    (cleared_or_not s)

taken_here : (k : ℕ) (p : Page) (ps : List Page) (n : ℕ) → p.state ≡ cleared n
    → better (Candidate.page k n) (least_worn (suc k) (states ps)) ≡ Candidate.page k n → TakenAt k (p ∷ ps)
unfolding least_worn states offered
taken_here k p ps n e b =
    let z : k ≡ k + 0 = omega arith in
    record { front = []; page = p; rest = ps; wear = n; form = refl; place = rw e (b ∙ ap (λ (j : ℕ). Candidate.page j n) z); is_cleared = e }

taken_later : (k : ℕ) (p : Page) (ps : List Page) (t : TakenAt (suc k) ps)
    → better (offered k p.state) (Candidate.page (suc k + length t.front) t.wear) ≡ Candidate.page (suc k + length t.front) t.wear
    → TakenAt k (p ∷ ps)
unfolding least_worn states
taken_later k p ps t b =
    let z : suc k + length t.front ≡ k + suc (length t.front) = omega arith in
    record {
      front = p ∷ t.front;
      page = t.page;
      rest = t.rest;
      wear = t.wear;
      form = ap (λ (qs : List Page). p ∷ qs) t.form;
      place = ap (better (offered k p.state)) t.place ∙ b ∙ ap (λ (j : ℕ). Candidate.page j t.wear) z;
      is_cleared = t.is_cleared;
    }

-- there is a cleared page, so one is taken
pub taken_at : (k : ℕ) (ps : List Page) → (count is_cleared (states ps) ≡ 0 → ⊥) → TakenAt k ps
unfolding count states is_cleared offered better
taken_at k [] h = absurd (h refl)
taken_at k (p ∷ ps) h =
    ⊎_elim
    (λ (c : (n : ℕ) × (p.state ≡ cleared n)).
    by_cases (eqb (count is_cleared (states ps)) 0)
    (λ z. taken_here k p ps c.0 c.1 (rw (none_taken (suc k) (states ps) (eqb-true (count is_cleared (states ps)) 0 z))))
    (λ z.
    let t = taken_at (suc k) ps (eqb-false (count is_cleared (states ps)) 0 z) in
    by_cases (leb c.0 t.wear) (λ l. taken_here k p ps c.0 c.1 (rw (t.place, l)))
    (λ l. taken_later k p ps t (rw (c.1, l)))))
    (λ c.
    let t = taken_at (suc k) ps (λ z. h (rw c.0 (omega arith))) in
    taken_later k p ps t (rw (c.1 k)))
    (cleared_or_not p.state)

-- and no cleared page is worn less
pub bad_cleared : {A : Type 0} {n : ℕ} → bad ≡ cleared n → A
bad_cleared e = let z : ◌≡◌ {A = ℕ} 0 1 = cc in absurd (omega arith)

-- a candidate is of wear m at least
unfoldable From : ℕ → Candidate → Type 0
From m nobody = Unit {0}
From m (Candidate.page k n) = m ≤ n

from_better : (m : ℕ) (x y : Candidate) → From m (better x y) → From m x × From m y
unfolding From better
from_better m nobody y h = (tt, h)
from_better m (Candidate.page k n) nobody h = (h, tt)
from_better m (Candidate.page k n) (Candidate.page j o) h =
    by_cases (leb n o)
    (λ l. let x : m ≤ n = rw l at h in (x, omega (arith, leb-true n o l)))
    (λ l. let x : m ≤ o = rw l at h in (omega (arith, leb-false n o l), x))

from_least : (m k : ℕ) (ps : List Page) → From m (least_worn k (states ps)) → (q n : ℕ) → (page_at q ps).state ≡ cleared n → m ≤ n
unfolding From least_worn offered states
from_least m k [] h q n e = bad_cleared e
from_least m k (p ∷ ps) h zero n e =
    subst (λ (s : State). From m (offered k s)) e (from_better m (offered k p.state) (least_worn (suc k) (states ps)) h).0
from_least m k (p ∷ ps) h (suc q) n e = from_least m (suc k) ps (from_better m (offered k p.state) (least_worn (suc k) (states ps)) h).1 q n e

pub taken_least : (k j m : ℕ) (ps : List Page) → least_worn k (states ps) ≡ Candidate.page j m → (q n : ℕ) → (page_at q ps).state ≡ cleared n → m ≤ n
unfolding From
taken_least k j m ps e = from_least m k ps (subst (From m) (sym e) (omega arith))

-- ---- counting

pub used_not_cleared : (b : ℕ) (s : State) → used b s ≡ true → is_cleared s ≡ false
unfolding used is_cleared
used_not_cleared b (cleared n) u = not_both u refl
used_not_cleared b (open₁ o) u = refl
used_not_cleared b (open₂ o) u = refl
used_not_cleared b receiving u = refl
used_not_cleared b bad u = refl

-- every page is used, cleared or neither
pub count_all : (b : ℕ) (ss : List State) → count (used b) ss + count is_cleared ss + count (unclean b) ss ≡ length ss
unfolding count unclean used is_cleared
count_all b [] = refl
count_all b (s ∷ ss) = let rest = count_all b ss in count_one (used b s) (is_cleared s) (λ u c. not_both c (used_not_cleared b s u)) (count (used b) ss)
    (count is_cleared ss) (count (unclean b) ss) (length ss) rest
  where
    count_one : (x y : Bool) → (x ≡ true → y ≡ true → ⊥) → (p q r l : ℕ) → p + q + r ≡ l
        → cond x 1 0 + p + (cond y 1 0 + q) + (cond (not (x || y)) 1 0 + r) ≡ suc l
    count_one true true d p q r l e = absurd (d refl refl)
    count_one true false d p q r l e = omega arith
    count_one false true d p q r l e = omega arith
    count_one false false d p q r l e = omega arith

pub count_used : (b : ℕ) (ps : List Page) → length (orders (used_pages b ps)) ≡ count (used b) (states ps)
unfolding orders used_pages add_page count states
count_used b [] = refl
count_used b (p ∷ ps) = by_cases (used b p.state) (λ u. let e = count_used b ps in rw u (omega arith)) (λ u. let e = count_used b ps in rw u (omega arith))

-- used pages are open
pub count_open : (b : ℕ) (ss : List State) → count (used b) ss ≤ count is_open ss
unfolding count used is_open
count_open b [] = omega arith
count_open b (s ∷ ss) = let rest = count_open b ss in at_most (used b s) (is_open s) (one b s) rest
  where
    one : (b : ℕ) (s : State) → used b s ≡ true → is_open s ≡ true
    one b (cleared n) h = h
    one b (open₁ o) h = refl
    one b (open₂ o) h = refl
    one b receiving h = h
    one b bad h = h

    at_most : (x y : Bool) → (x ≡ true → y ≡ true) → {p q : ℕ} → p ≤ q → cond x 1 0 + p ≤ cond y 1 0 + q
    at_most true true d l = omega arith
    at_most true false d l = not_both (d refl) refl
    at_most false true d l = omega arith
    at_most false false d l = omega arith
