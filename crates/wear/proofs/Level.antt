-- A store wears its pages evenly: no two wears are more than 1 apart, and no used page is worn more than a cleared one. A finished write
-- keeps it so. Assumes nothing.
use Prim.Native.Nat.{ℕ, suc, ◌+◌, ◌≤◌, ◌<◌}
use mathlib.Core.Path.{◌≡◌, refl, sym, ap, ◌∙◌, subst}
use mathlib.Core.Bool.{true, false, cond}
use mathlib.Core.List.{List, [], ◌∷◌, ◌++◌}
use mathlib.Core.Option.{some}
use native.Mathlib.Omega.{arith}
use lib.ListN.{length, length-append}
use borrow.Author.Tests.{leb-false}
use Rattle.rules.specs.Page.{State, cleared, Page}
use Rattle.rules.specs.Store.{states, base, used, is_cleared, open_group, has_room, in_group, end_of, count}
use Rattle.rules.specs.Store.{each, page_at}
use Rattle.rules.specs.Steps.{greatest_wear, renewals, renew_picked, unclean, abandon_steps, recovery_steps, Change}
use Rattle.rules.proofs.Truth.{not_both, and_second}
use Rattle.rules.proofs.Stores.{states_append, count_append, taken_least}
use Rattle.rules.proofs.Phases.{Pages}
use Rattle.rules.proofs.Good.{Frame}
use Rattle.wear.proofs.Finished.{told_in, Renewed, AllRenewed, Landed, Wrote, stayed, appended, opened, moved}

-- A page of wear n, in a store whose used pages are of wear w to t and whose cleared ones are of t to w + 1.
pub data Levelled (b w t : ℕ) (p : Page) : Type 0 where
  used_page : (n : ℕ) → p.wear ≡ some n → used b p.state ≡ true → w ≤ n → n ≤ t → Levelled b w t p
  cleared_page : (n : ℕ) → p.wear ≡ some n → p.state ≡ cleared n → t ≤ n → n ≤ w + 1 → n ≤ 65535 → Levelled b w t p

unfoldable pub AllLevelled : (b w t : ℕ) → List Page → Type 0
AllLevelled b w t [] = Unit {0}
AllLevelled b w t (p ∷ ps) = Levelled b w t p × AllLevelled b w t ps

-- such a store, with no group open: w and t are the same, or t is one more
pub record Level (ps : List Page) : Type 0 where
  pub low : ℕ
  pub top : ℕ
  pub least : low ≤ top
  pub most : top ≤ low + 1
  pub pages : AllLevelled (base (states ps)) low top ps
  pub ended : open_group ps ≡ false

-- ---- one page among others

amid_levelled : {b w t : ℕ} (f : List Page) (p : Page) (r : List Page) → AllLevelled b w t (f ++ p ∷ r)
    → AllLevelled b w t f × Levelled b w t p × AllLevelled b w t r
unfolding AllLevelled
amid_levelled [] p r h = (tt, h.0, h.1)
amid_levelled (x ∷ f) p r h = let a = amid_levelled f p r h.1 in ((h.0, a.0), a.1, a.2)

levelled_amid : {b w t : ℕ} (f : List Page) (p : Page) (r : List Page) → AllLevelled b w t f → Levelled b w t p → AllLevelled b w t r
    → AllLevelled b w t (f ++ p ∷ r)
unfolding AllLevelled
levelled_amid [] p r a h d = (h, d)
levelled_amid (x ∷ f) p r a h d = (a.0, levelled_amid f p r a.1 h d)

-- of the same state and wear
alike : {b w t : ℕ} {p q : Page} → q.state ≡ p.state → q.wear ≡ p.wear → Levelled b w t p → Levelled b w t q
alike s v (used_page n has is l m) = used_page n (v ∙ has) (rw s is) l m
alike s v (cleared_page n has is l m c) = cleared_page n (v ∙ has) (s ∙ is) l m c

-- each has a wear, of w or one more
pub has_wear : {b w t : ℕ} {p : Page} → w ≤ t → t ≤ w + 1 → Levelled b w t p → (n : ℕ) × (p.wear ≡ some n) × (w ≤ n) × (n ≤ w + 1)
has_wear lt m (used_page n has is l k) = (n, has, l, omega arith)
has_wear lt m (cleared_page n has is l k c) = (n, has, omega arith, k)

-- ---- a page is opened

-- where no cleared page is of a wear below m, the store is level with m for its top
above : (b w t m : ℕ) → t ≤ m → (ps : List Page) → ((q n : ℕ) → (page_at q ps).state ≡ cleared n → m ≤ n) → AllLevelled b w t ps → AllLevelled b w m ps
unfolding AllLevelled
above b w t m l [] from h = tt
above b w t m l (p ∷ ps) from h = (one p (from 0) h.0, above b w t m l ps (λ q. from (suc q)) h.1)
  where
    one : (p : Page) → ((n : ℕ) → p.state ≡ cleared n → m ≤ n) → Levelled b w t p → Levelled b w m p
    one p from (used_page n has is x y) = used_page n has is x (omega arith)
    one p from (cleared_page n has is x y c) = cleared_page n has is (from n is) y c

-- ---- a move

-- where none is cleared, all are used; renewed they are level with a page of wear y, t to w + 1, to which the store has moved
renewed_level : (b w t y b' : ℕ) → t ≤ y → y ≤ w + 1 → y ≤ 65535 → (ps qs : List Page) → AllRenewed ps qs → AllLevelled b w t ps
    → count is_cleared (states ps) ≡ 0 → AllLevelled b' y y qs
unfolding AllRenewed AllLevelled count states is_cleared
renewed_level b w t y b' l m c [] [] h a z = tt
renewed_level b w t y b' l m c [] (q ∷ qs) h a z = absurd h
renewed_level b w t y b' l m c (p ∷ ps) [] h a z = absurd h
renewed_level b w t y b' l m c (p ∷ ps) (q ∷ qs) h a z =
    (one h.0 a.0 (omega arith), renewed_level b w t y b' l m c ps qs h.1 a.1 (omega arith))
  where
    one : {p q : Page} → Renewed p q → Levelled b w t p → ◌≡◌ {A = ℕ} (cond (is_cleared p.state) 1 0) 0 → Levelled b' y y q
    one {p} h (used_page n has is x v) z =
        let e = h.one_more_than n has in
        cleared_page h.wear h.has_wear h.is_cleared (omega arith) (omega arith) (omega arith)
    one {p} h (cleared_page n has is x v d) z =
        absurd (let z' : ◌≡◌ {A = ℕ} 1 0 = subst (λ (s : State). ◌≡◌ {A = ℕ} (cond (is_cleared s) 1 0) 0) is z in omega arith)

pub count_amid : (f : List Page) (p : Page) (r : List Page)
    → count is_cleared (states (f ++ p ∷ r)) ≡ count is_cleared (states f) + (cond (is_cleared p.state) 1 0 + count is_cleared (states r))
unfolding count states
count_amid f p r = ap (count is_cleared) (states_append f (p ∷ r)) ∙ count_append is_cleared (states f) (p.state ∷ states r)

-- a page that is cleared
cleared_level : {b w t : ℕ} {p : Page} (n : ℕ) → p.state ≡ cleared n → Levelled b w t p → (p.wear ≡ some n) × (t ≤ n) × (n ≤ w + 1) × (n ≤ 65535)
unfolding used
cleared_level {b} n e (used_page m has is l k) = not_both (subst (λ (s : State). used b s ≡ true) e is) refl
cleared_level n e (cleared_page m has is l k c) =
    let same : cleared n ≡ cleared m = sym e ∙ is in
    let is_it : m ≡ n = cc in
    (has ∙ ap some is_it, omega arith, omega arith, omega arith)

-- ---- what a finished write leaves

module _ (c : Frame) (ch : Change) (F G : Pages) where
  abbrev ps : List Page
  ps = told_in c F

  abbrev qs : List Page
  qs = told_in c G

  -- the pages are those before the one that is written to, it, and those behind it
  pub many_parted : {f r g t : List Page} {p q : Page} → Landed c F G f p r g q t → length ps ≡ length f + (1 + length r)
  many_parted {f} {r} {p = p} l = ap length l.before ∙ length-append f (p ∷ r) ∙ omega arith

  -- where that one keeps its state, all do
  pub same_states : {f r : List Page} {p q : Page} → Landed c F G f p r f q r → q.state ≡ p.state → states qs ≡ states ps
  unfolding states
  same_states {f} {r} {p} {q} l same =
      ap states l.after ∙ states_append f (q ∷ r) ∙ ap (λ (x : State). states f ++ x ∷ states r) same
      ∙ sym (ap states l.before ∙ states_append f (p ∷ r))

  none_open : {f r g t : List Page} {p q : Page} → Landed c F G f p r g q t → open_group qs ≡ false
  unfolding open_group
  none_open l = and_second (has_room 1 qs) (ap (λ (x : Page). in_group (end_of x)) l.active ∙ l.ended)

  -- the pages before the write, parted at the one that it goes to
  pub parts : {f r g t : List Page} {p q : Page} {b low top : ℕ} → Landed c F G f p r g q t → AllLevelled b low top ps
      → AllLevelled b low top f × Levelled b low top p × AllLevelled b low top r
  parts {f} {r} {p = p} l h = amid_levelled f p r (subst (AllLevelled _ _ _) l.before h)

  -- how many are cleared, where that one is
  pub cleared_before : {f r g t : List Page} {p q : Page} {n : ℕ} → Landed c F G f p r g q t → p.state ≡ cleared n
      → count is_cleared (states ps) ≡ suc (count is_cleared (states f) + count is_cleared (states r))
  unfolding is_cleared
  cleared_before {f} {r} {p = p} l is =
      ap (λ (xs : List Page). count is_cleared (states xs)) l.before ∙ count_amid f p r
      ∙ (let z : ◌≡◌ {A = ℕ} (cond (is_cleared p.state) 1 0) 1 = rw is in omega arith)

  -- where it is the only one, none is beside it
  none_beside : {f r g t : List Page} {p q : Page} {n : ℕ} → Landed c F G f p r g q t → p.state ≡ cleared n → count is_cleared (states ps) < 2
      → (count is_cleared (states f) ≡ 0) × (count is_cleared (states r) ≡ 0)
  none_beside l is few = let all = cleared_before l is in (omega arith, omega arith)

  pub stays_level : Wrote c ch F G → Level ps → Level qs
  stays_level (stayed s e) h = subst (λ (H : Pages). Level (told_in c H)) (sym e) h
  stays_level (appended {f} {r} {p} {q} l s free is same base_same taken) h =
      let a = parts l h.pages in
      record {
        low = h.low;
        top = h.top;
        least = h.least;
        most = h.most;
        pages = rw base_same (subst (AllLevelled (base (states ps)) h.low h.top) (sym l.after)
            (levelled_amid f q r a.0 (alike same l.wear a.1) a.2));
        ended = none_open l;
      }
  stays_level (opened {f} {r} {p} {q} l s full two n is least ordered base_same taken) h =
      let b = base (states ps) in
      let it = cleared_level n is (parts l h.pages).1 in
      let risen = above b h.low h.top n it.1 ps (taken_least 0 (length f) n ps least) h.pages in
      let a = parts l risen in
      let now : Levelled b h.low n q = used_page n (l.wear ∙ it.0) (rw base_same at l.is_used) (omega (arith, h.least, it.1)) (omega arith) in
      record {
        low = h.low;
        top = n;
        least = omega (arith, h.least, it.1);
        most = it.2;
        pages = rw base_same (subst (AllLevelled b h.low n) (sym l.after) (levelled_amid f q r a.0 now a.2));
        ended = none_open l;
      }
  stays_level (moved {f} {r} {g} {t} {p} {q} l s full one n is least ordered all_f all_r taken) h =
      let b = base (states ps) in
      let b' = base (states qs) in
      let a = parts l h.pages in
      let it = cleared_level n is a.1 in
      let few = leb-false 2 (count is_cleared (states ps)) one in
      let none = none_beside l is few in
      let all = renewed_level b h.low h.top n b' it.1 it.2 it.3 in
      record {
        low = n;
        top = n;
        least = omega arith;
        most = omega arith;
        pages = subst (AllLevelled b' n n) (sym l.after)
            (levelled_amid g q t (all f g all_f a.0 none.0) (used_page n (l.wear ∙ it.0) l.is_used (omega arith) (omega arith))
            (all r t all_r a.2 none.1));
        ended = none_open l;
      }

-- ---- a recovery has nothing to do

used_clean : (b : ℕ) (s : State) → used b s ≡ true → unclean b s ≡ false
unfolding unclean
used_clean b s u = rw u

cleared_clean : (b n : ℕ) → unclean b (cleared n) ≡ false
unfolding unclean used is_cleared
cleared_clean b n = refl

none_unclean : (b w t g k : ℕ) (ps : List Page) → AllLevelled b w t ps → renewals (λ k s. unclean b s) g k ps ≡ []
unfolding renewals AllLevelled
none_unclean b w t g k [] h = refl
none_unclean b w t g k (p ∷ ps) h = rw (clean h.0) (none_unclean b w t g (suc k) ps h.1)
  where
    clean : {p : Page} → Levelled b w t p → unclean b p.state ≡ false
    clean (used_page n has is l m) = used_clean b _ is
    clean (cleared_page n has is l m c) = ap (unclean b) is ∙ cleared_clean b n

pub nothing_to_do : (edition : ℕ) (ps : List Page) → Level ps → recovery_steps edition ps ≡ []
unfolding recovery_steps abandon_steps renew_picked each
nothing_to_do edition ps h = rw (h.ended, none_unclean (base (states ps)) h.low h.top (greatest_wear ps) 0 ps h.pages)
