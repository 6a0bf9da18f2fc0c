-- What an image with a good store answers, by its values alone. Assumes nothing.
use Prim.Native.Nat.{ℕ, ◌≤◌}
use mathlib.Core.Path.{◌≡◌, refl, ap, ◌∙◌}
use mathlib.Core.Bool.{Bool, true, false, cond, not, ◌||◌}
use mathlib.Core.List.{List, [], ◌∷◌, map}
use mathlib.Core.Option.{Option, none, some}
use native.Mathlib.Omega.{arith}
use lib.ListN.{length}
use lib.Dec.{eqb}
use borrow.Author.Tests.{eqb-true, eqb-false, le-leb, not-false}
use Rattle.rules.specs.Page.{Form}
use Rattle.rules.specs.Store.{value, or_value, Setting, setting, address_of, or_else, last_of}
use Rattle.rules.specs.Steps.{Change, settings_of, words_of, all_values}
use Rattle.rules.specs.Owner.{Owner, handset, named_owner, a_foreign}
use Rattle.rules.specs.Call.{pages, is_unclean, wrong_group, wrong_address, a_wrong_address, is_held, no_room, crowded, order_end, first_of, store_number}
use Rattle.rules.specs.Call.{write_number, accepted, blank_value, code, all_held, pairing, reading, read, blank_read, lookup, OK, NO_STORE, DAMAGED}
use Rattle.rules.specs.Call.{UNCLEAN, GROUP, ADDRESS, OWNER, NO_ROOM, ORDER_END, Pairing, row, among, repeats}
use Rattle.rules.proofs.Truth.{and_left, and_right, and_both, by_cases, or_false_left, or_false_right}
use Rattle.rules.proofs.Settings.{or_else_assoc, last_of_first, last_of_rest}
use Rattle.rules.proofs.Answers.{other_address, same_code, lookup_done}
use Rattle.rules.proofs.Rows.{may_give, not_given, then, address_rows, held_row, blank_read_goes_on, read_goes_on, write_goes_on}
use Rattle.rules.proofs.Good.{changed}
use Rattle.rules.proofs.Healthy.{Healthy, value_here, store_ok}
use Rattle.promise.specs.Calls.{Image, Question, value_at, blank_value_at, pairing_code, Answer, AsksNone, EachAnswer, found_value, its_own}
use Rattle.promise.specs.Calls.{with_value, with_values, EachOf, finds, answer}
use Rattle.promise.specs.Owners.{AsksAs, reads, blank_reads}

-- by the values, an address not held having none
read_by : (timer : Bool) (address : ℕ) → Option ℕ → Answer (value_at timer address)
read_by m x o = reading (then (first_of (address_rows (named_owner m) x)) (first_of (held_row o))) (or_value o 0)

blank_read_by : (timer : Bool) (address : ℕ) → Option ℕ → Answer (blank_value_at timer address)
blank_read_by m x o = reading (first_of (address_rows (named_owner m) x)) (blank_value o)

pub answer_by : (ℕ → Option ℕ) → EachAnswer
answer_by t (value_at m x) = read_by m x (t x)
answer_by t (blank_value_at m x) = blank_read_by m x (t x)
answer_by t pairing_code = pairing (code t)

pub answers_are : {fm : Form} {May One : Type 0} {t : ℕ → Option ℕ} {i : Image} → Healthy fm May One t i → (q : Question) → answer fm q i ≡ answer_by t q
unfolding answer answer_by read_by blank_read_by read blank_read then accepted
answers_are {fm = fm} {i = i} h (value_at m x) =
    let o = named_owner m in
    rw (read_goes_on fm i o x, blank_read_goes_on fm i o x, value_here h x, store_ok h)
answers_are {fm = fm} {i = i} h (blank_value_at m x) = rw (blank_read_goes_on fm i (named_owner m) x, value_here h x, store_ok h)
answers_are {fm = fm} {t = t} {i = i} h pairing_code =
    lookup_done fm i (store_ok h) ∙ ap pairing (same_code (λ x. value x (pages fm i)) t (λ x l m. value_here h x))

pub lookup_is : {fm : Form} {May One : Type 0} {t : ℕ → Option ℕ} {i : Image} → Healthy fm May One t i → lookup fm i ≡ pairing (code t)
unfolding answer answer_by
lookup_is h = answers_are h pairing_code

-- paired means that all four are held
pub paired_if : {fm : Form} {May One : Type 0} {t : ℕ → Option ℕ} {i : Image} → Healthy fm May One t i → (lookup fm i).paired ≡ all_held (code t)
unfolding pairing
paired_if h = ap (λ (r : Pairing). r.paired) (lookup_is h)

-- a digit is the handset's
digit_own : (x : ℕ) → x ≤ 19 → handset.owns x ≡ true
digit_own x l = le-leb x 32767 (omega arith)

-- what a read of a digit finds is what is held
digit_found : (x : ℕ) → x ≤ 19 → (o : Option ℕ) → found_value (read_by false x o) ≡ o
unfolding found_value read_by reading then accepted is_held or_value first_of
digit_found x l none = rw (other_address x (omega arith), digit_own x l)
digit_found x l (some v) = rw (other_address x (omega arith), digit_own x l)

-- what is asked of the same values answers the same
same_by : (t u : ℕ → Option ℕ) → ((x : ℕ) → t x ≡ u x) → (q : Question) → answer_by t q ≡ answer_by u q
unfolding answer_by
same_by t u e (value_at m x) = ap (read_by m x) (e x)
same_by t u e (blank_value_at m x) = ap (blank_read_by m x) (e x)
same_by t u e pairing_code = ap pairing (same_code t u (λ x l m. e x))

-- what one of the two asks is answered by the values of its own addresses
pub own_only : (timer : Bool) (t u : ℕ → Option ℕ) → ((x : ℕ) → (named_owner timer).owns x ≡ true → t x ≡ u x) → (q : Question) → AsksAs timer q
    → answer_by t q ≡ answer_by u q
unfolding answer_by read_by blank_read_by reading then accepted first_of
own_only m t u e q (reads x) =
    by_cases (wrong_address x) (λ w. rw w)
    (λ w. by_cases ((named_owner m).owns x) (λ o. ap (read_by m x) (e x o)) (λ o. rw (w, o)))
own_only m t u e q (blank_reads x) =
    by_cases (wrong_address x) (λ w. rw w)
    (λ w. by_cases ((named_owner m).owns x) (λ o. ap (blank_read_by m x) (e x o)) (λ o. rw (w, o)))

-- ---- the answers with v at a

-- by those that were given
module _ (a v : ℕ) where
  one_given : (before given : EachAnswer) → ((q : Question) → before q ≡ given q) → (q : Question) → with_value a v before q ≡ with_value a v given q
  unfolding with_value
  one_given before given e (value_at m x) = rw (e (value_at m x))
  one_given before given e (blank_value_at m x) = rw (e (blank_value_at m x))
  one_given before given e pairing_code = ap pairing (same_code _ _ (λ x l m. rw (e (value_at false x))))

  -- by the values
  abbrev with_one : (ℕ → Option ℕ) → ℕ → Option ℕ
  with_one t x = cond (eqb x a) (some v) (t x)

  one_changed : (t : ℕ → Option ℕ) → wrong_address a ≡ false → (q : Question) → answer_by (with_one t) q ≡ with_value a v (answer_by t) q
  unfolding answer_by read_by blank_read_by reading with_value its_own then accepted is_held or_value blank_value first_of
  one_changed t w (value_at m x) =
      by_cases (eqb x a) (λ e. by_cases ((named_owner m).owns a) (λ o. rw (e, eqb-true x a e, w, o)) (λ o. rw (e, eqb-true x a e, w, o))) (λ e. rw e)
  one_changed t w (blank_value_at m x) =
      by_cases (eqb x a) (λ e. by_cases ((named_owner m).owns a) (λ o. rw (e, eqb-true x a e, w, o)) (λ o. rw (e, eqb-true x a e, w, o))) (λ e. rw e)
  one_changed t w pairing_code = ap pairing (same_code _ _ (λ x l m. rw (digit_found x m (t x))))

-- ---- with all of a list of settings

pub with_given : (rs : List Setting) (before given : EachAnswer) → ((q : Question) → before q ≡ given q) → (q : Question)
    → with_values rs before q ≡ with_values rs given q
unfolding with_values
with_given [] before given e q = e q
with_given (setting a v ∷ rs) before given e q = with_given rs (with_value a v before) (with_value a v given) (one_given a v before given e) q

-- one setting and those behind it
one_more_changed : (a v : ℕ) (rs : List Setting) (t : ℕ → Option ℕ) (x : ℕ) → changed (setting a v ∷ rs) t x ≡ changed rs (with_one a v t) x
unfolding last_of or_else
one_more_changed a v rs t x =
    or_else_assoc (last_of x rs) (cond (eqb x a) (some v) none) (t x)
    ∙ ap (or_else (last_of x rs)) (by_cases (eqb x a) (λ e. rw e) (λ e. rw e))

pub answer_changed : (rs : List Setting) (t : ℕ → Option ℕ) → a_wrong_address rs ≡ false → (q : Question)
    → answer_by (changed rs t) q ≡ with_values rs (answer_by t) q
unfolding a_wrong_address with_values last_of or_else
answer_changed [] t w q = same_by (changed [] t) t (λ x. refl) q
answer_changed (setting a v ∷ rs) t w q =
    same_by (changed (setting a v ∷ rs) t) (changed rs (with_one a v t)) (one_more_changed a v rs t) q
    ∙ answer_changed rs (with_one a v t) (or_false_right (wrong_address a) _ w) q
    ∙ with_given rs (answer_by (with_one a v t)) (with_value a v (answer_by t)) (one_changed a v t (or_false_left (wrong_address a) _ w)) q

-- what is not among them
none_last : (x : ℕ) (rs : List Setting) → EachOf (λ a v. x ≡ a → ⊥) rs → last_of x rs ≡ none
unfolding EachOf last_of
none_last x [] h = refl
none_last x (setting a v ∷ rs) h = last_of_rest x a v rs h.0 ∙ none_last x rs h.1

pub each_map : {P Q : ℕ → ℕ → Type 0} → ((a v : ℕ) → P a v → Q a v) → (rs : List Setting) → EachOf P rs → EachOf Q rs
unfolding EachOf
each_map f [] h = tt
each_map f (setting a v ∷ rs) h = (f a v h.0, each_map f rs h.1)

pub not_asked : (rs : List Setting) (t : ℕ → Option ℕ) (q : Question) → AsksNone q rs → answer_by (changed rs t) q ≡ answer_by t q
unfolding answer_by or_else
not_asked rs t (value_at m x) h = ap (read_by m x) (rw (none_last x rs h))
not_asked rs t (blank_value_at m x) h = ap (blank_read_by m x) (rw (none_last x rs h))
not_asked rs t pairing_code h =
    ap pairing (same_code _ t (λ x l m. rw (none_last x rs (each_map (λ a v no' e. no' (omega arith, omega arith)) rs h))))

none_among : (a : ℕ) (rs : List Setting) → among a (map address_of rs) ≡ false → EachOf (λ b u. a ≡ b → ⊥) rs
unfolding EachOf among
none_among a [] h = tt
none_among a (setting b u ∷ rs) h = (eqb-false a b (or_false_left (eqb a b) _ h), none_among a rs (or_false_right (eqb a b) _ h))

-- each of them, if no address comes twice, is found
each_last : (rs : List Setting) → repeats (map address_of rs) ≡ false → EachOf (λ a v. last_of a rs ≡ some v) rs
unfolding EachOf repeats last_of or_else
each_last [] d = tt
each_last (setting a v ∷ rs) d = (
  last_of_first a a v rs refl (none_last a rs (none_among a rs (or_false_left (among a (map address_of rs)) _ d))),
  each_map (λ b u e. rw e) rs (each_last rs (or_false_right (among a (map address_of rs)) _ d)),
)

pub each_map₂ : {P Q R : ℕ → ℕ → Type 0} → ((a v : ℕ) → P a v → Q a v → R a v) → (rs : List Setting) → EachOf P rs → EachOf Q rs → EachOf R rs
unfolding EachOf
each_map₂ f [] p q = tt
each_map₂ f (setting a v ∷ rs) p q = (f a v p.0 q.0, each_map₂ f rs p.1 q.1)

each_addressed : (rs : List Setting) → a_wrong_address rs ≡ false → EachOf (λ a v. wrong_address a ≡ false) rs
unfolding EachOf a_wrong_address
each_addressed [] w = tt
each_addressed (setting a v ∷ rs) w = (or_false_left (wrong_address a) _ w, each_addressed rs (or_false_right (wrong_address a) _ w))

pub each_owned : (o : Owner) (rs : List Setting) → a_foreign o rs ≡ false → EachOf (λ a v. o.owns a ≡ true) rs
unfolding EachOf a_foreign
each_owned o [] h = tt
each_owned o (setting a v ∷ rs) h =
    (not-false (o.owns a) (or_false_left (not (o.owns a)) _ h), each_owned o rs (or_false_right (not (o.owns a)) _ h))

-- its owner asking
abbrev Finds : (ℕ → Option ℕ) → (a v : ℕ) → Type 0
Finds t a v = (timer : Bool) → (named_owner timer).owns a ≡ true → answer_by t (value_at timer a) ≡ finds v

one_found : (rs : List Setting) (t : ℕ → Option ℕ) (a v : ℕ) → last_of a rs ≡ some v → wrong_address a ≡ false → Finds (changed rs t) a v
unfolding answer_by read_by reading then accepted is_held or_value or_else first_of
one_found rs t a v last far m own = rw (last, far, own)

pub each_found : (rs : List Setting) (t : ℕ → Option ℕ) → repeats (map address_of rs) ≡ false → a_wrong_address rs ≡ false
    → EachOf (Finds (changed rs t)) rs
each_found rs t d w = each_map₂ (one_found rs t) rs (each_last rs d) (each_addressed rs w)

-- all that were held are held still
pub still_held : (rs : List Setting) (t : ℕ → Option ℕ) → all_held (code t) ≡ true → all_held (code (changed rs t)) ≡ true
unfolding code all_held is_held or_else
still_held rs t = of (16 ∷ 17 ∷ 18 ∷ 19 ∷ [])
  where
    one : (o p : Option ℕ) → is_held p ≡ true → is_held (or_else o p) ≡ true
    one none p h = h
    one (some u) p h = refl

    of : (xs : List ℕ) → all_held (map t xs) ≡ true → all_held (map (changed rs t) xs) ≡ true
    of [] h = h
    of (x ∷ xs) h = and_both (one (last_of x rs) (t x) (and_left (is_held (t x)) _ h)) (of xs (and_right (is_held (t x)) _ h))

-- a write of a clean store is not refused for the store's sake
pub not_refused : (fm : Form) (o : Owner) (c : Change) (i : Image) → store_number fm i ≡ OK → is_unclean (pages fm i) ≡ false
    → let n = write_number fm o c i in (n ≡ NO_STORE → ⊥) × (n ≡ DAMAGED → ⊥) × (n ≡ UNCLEAN → ⊥)
unfolding then first_of may_give
not_refused fm o c i ok clean =
    let ps = pages fm i in
    let rs = settings_of c in
    let rest = row GROUP (wrong_group fm.edition c) ∷ row ADDRESS (a_wrong_address rs) ∷ row OWNER (a_foreign o rs) ∷ row OK (all_values rs ps)
    ∷ row NO_ROOM (no_room rs ps || crowded o rs ps) ∷ row ORDER_END (order_end (length (words_of c)) ps) ∷ [] in
    rw (write_goes_on fm i o c, ok, clean) (not_given NO_STORE rest refl, not_given DAMAGED rest refl, not_given UNCLEAN rest refl)
