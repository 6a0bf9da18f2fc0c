-- The settings that lent bytes are, one by one: the rules have them all at once, the code reads one at its offset. Assumes nothing.
use Prim.Native.Nat.{ℕ, zero, suc, ◌+◌, ◌*◌, ◌/◌, ◌≤◌, ◌<◌}
use mathlib.Core.Path.{◌≡◌, refl, sym, ap, ◌∙◌}
use mathlib.Core.Bool.{not}
use mathlib.Core.List.{List, [], ◌∷◌, ◌++◌, map, map-append}
use native.Mathlib.Omega.{arith}
use lib.ListN.{length, get_or, take, drop, length-map, take-append-drop, drop_of_length-le}
use lib.Seq.{length-take-le, take_all, take-suc, drop-cons}
use lib.Dec.{eqb, leb}
use borrow.Author.Tests.{eq-eqb, ne_eqb, eqb-true, eqb-false}
use Rattle.rules.proofs.Truth.{by_cases}
use Rattle.std.specs.List.{list_any, range_with_len}
use Rattle.rules.specs.Word.{Word, record_word}
use Rattle.rules.specs.Steps.{record_of}
use Rattle.rules.specs.Store.{Setting, setting, address_of}
use Rattle.rules.specs.Owner.{Owner, a_foreign}
use Rattle.rules.specs.Call.{among, repeats, wrong_address, a_wrong_address, triples}
use Rattle.changes.specs.Entries.{byte_address, byte_value}

next_three : (k : ℕ) → 3 * suc k ≡ suc (suc (suc (3 * k)))
next_three k = omega arith

-- the k-th setting
abbrev pub entry : List ℕ → ℕ → Setting
entry s k = setting (byte_address s k) (byte_value s k)

past : (a b v : ℕ) (s : List ℕ) (k : ℕ) → entry (a ∷ b ∷ v ∷ s) (suc k) ≡ entry s k
past a b v s k =
    let e1 : suc (suc (suc (3 * k))) + 1 ≡ suc (suc (suc (3 * k + 1))) = omega arith in
    let e2 : suc (suc (suc (3 * k))) + 2 ≡ suc (suc (suc (3 * k + 2))) = omega arith in
    rw (next_three k, e1, e2)

pub length_triples : (s : List ℕ) → length (triples s) ≡ length s / 3
unfolding triples
length_triples [] = refl
length_triples (a ∷ []) = refl
length_triples (a ∷ b ∷ []) = refl
length_triples (a ∷ b ∷ v ∷ s) = let e = length_triples s in omega arith

-- it stands in its place
entry_is : (s : List ℕ) (k : ℕ) → 3 * k + 3 ≤ length s → get_or (triples s) k (setting 0 0) ≡ entry s k
unfolding triples
entry_is [] k h = absurd (omega arith)
entry_is (a ∷ []) k h = absurd (omega arith)
entry_is (a ∷ b ∷ []) k h = absurd (omega arith)
entry_is (a ∷ b ∷ v ∷ s) zero h = refl
entry_is (a ∷ b ∷ v ∷ s) (suc k) h = rw (past a b v s k) (entry_is s k (omega arith))

module _ (s : List ℕ) (k : ℕ) (h : 3 * k + 3 ≤ length s) where
  there : k < length (triples s)
  there = omega (arith, length_triples s)

  next : suc k ≡ k + 1
  next = omega arith

  -- those from the k-th on: it, and the others
  pub from_entry : drop k (triples s) ≡ entry s k ∷ drop (k + 1) (triples s)
  from_entry =
      drop-cons (triples s) k (setting 0 0) there ∙ ap (λ (r : Setting). r ∷ drop (suc k) (triples s)) (entry_is s k h)
      ∙ ap (λ (n : ℕ). entry s k ∷ drop n (triples s)) next

  -- those before the k-th, with it
  pub next_entry : take (k + 1) (triples s) ≡ take k (triples s) ++ (entry s k ∷ [])
  next_entry =
      ap (λ (n : ℕ). take n (triples s)) (sym next) ∙ take-suc (triples s) k (setting 0 0) there
      ∙ ap (λ (r : Setting). take k (triples s) ++ (r ∷ [])) (entry_is s k h)

pub all_entries : (s : List ℕ) (k : ℕ) → length s / 3 ≤ k → take k (triples s) ≡ triples s
all_entries s k l = take_all k (triples s) (omega (arith, length_triples s))

pub none_behind : (s : List ℕ) (k : ℕ) → length s / 3 ≤ k → drop k (triples s) ≡ []
none_behind s k l = drop_of_length-le (triples s) {i = k} (omega (arith, length_triples s))

-- ---- what is asked of each

-- the settings from the k-th on, by their indexes
pub entries_from : (s : List ℕ) (k n : ℕ) → k + n ≡ length s / 3 → drop k (triples s) ≡ map (entry s) (range_with_len k n)
entries_from s k zero e = none_behind s k (omega arith)
entries_from s k (suc n) e = from_entry s k (omega arith) ∙ ap (λ rs. entry s k ∷ rs) (entries_from s (k + 1) n (omega arith))

abbrev pub addresses_from : List ℕ → ℕ → List ℕ
addresses_from s k = map address_of (drop k (triples s))

-- which of two numbers stands first is one
eqb_same : (m n : ℕ) → eqb m n ≡ eqb n m
eqb_same m n = by_cases (eqb m n) (λ t. t ∙ sym (eq-eqb n m (sym (eqb-true m n t)))) (λ f. f ∙ sym (ne_eqb n m (λ e. eqb-false m n f (sym e))))

module _ (s : List ℕ) where
  pub any_named : (a : ℕ) (ks : List ℕ) → list_any (λ k. eqb (byte_address s k) a) ks ≡ among a (map address_of (map (entry s) ks))
  unfolding among
  any_named a [] = refl
  any_named a (k ∷ ks) = rw (any_named a ks, eqb_same (byte_address s k) a)

  pub any_wrong : (ks : List ℕ) → list_any (λ k. leb 65535 (byte_address s k)) ks ≡ a_wrong_address (map (entry s) ks)
  unfolding a_wrong_address wrong_address
  any_wrong [] = refl
  any_wrong (k ∷ ks) = rw (any_wrong ks)

  pub any_foreign : (o : Owner) (ks : List ℕ) → list_any (λ k. not (o.owns (byte_address s k))) ks ≡ a_foreign o (map (entry s) ks)
  unfolding a_foreign
  any_foreign o [] = refl
  any_foreign o (k ∷ ks) = rw (any_foreign o ks)

  pub any_again : (k n : ℕ) → k + n ≡ length s / 3
      → list_any (λ i. among (byte_address s i) (addresses_from s (i + 1))) (range_with_len k n) ≡ repeats (addresses_from s k)
  unfolding repeats
  any_again k zero e = rw (none_behind s k (omega arith))
  any_again k (suc n) e = rw (from_entry s k (omega arith), any_again (k + 1) n (omega arith))

-- ---- the records that they make, as words

-- those of the first k
abbrev pub first_words : List ℕ → ℕ → List Word
first_words s k = map record_of (take k (triples s))

pub first_many : (s : List ℕ) (k : ℕ) → 3 * k ≤ length s → length (first_words s k) ≡ k
first_many s k l = length-map (take k (triples s)) record_of ∙ length-take-le k (triples s) (omega (arith, length_triples s))

module _ (s : List ℕ) (k : ℕ) (l : 3 * k + 3 ≤ length s) where
  pub next_words : first_words s (k + 1) ≡ first_words s k ++ (record_word (byte_address s k) (byte_value s k) ∷ [])
  next_words = ap (map record_of) (next_entry s k l) ∙ map-append record_of (take k (triples s)) (entry s k ∷ [])

  pub words_from : map record_of (triples s) ≡ first_words s k ++ (record_word (byte_address s k) (byte_value s k) ∷ map record_of (drop (k + 1) (triples s)))
  words_from =
      ap (map record_of) (sym (take-append-drop k (triples s)) ∙ ap (λ (rs : List Setting). take k (triples s) ++ rs) (from_entry s k l))
      ∙ map-append record_of (take k (triples s)) (entry s k ∷ drop (k + 1) (triples s))
