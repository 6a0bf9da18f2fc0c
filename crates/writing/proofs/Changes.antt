-- The words of a change that is lent, and how many steps they take. Assumes nothing.
use Prim.Native.Nat.{ℕ, ◌+◌, ◌*◌, ◌≤◌}
use mathlib.Core.Path.{◌≡◌, refl, sym, ap, ◌∙◌, subst}
use mathlib.Core.Bool.{Bool, true, false, cond}
use mathlib.Core.List.{List, map}
use native.Mathlib.Omega.{arith}
use lib.ListN.{length}
use Rattle.rules.specs.Word.{Word}
use Rattle.rules.specs.Steps.{group, words_of, record_of, append_steps}
use Rattle.rules.specs.Call.{wrong_group, triples}
use Rattle.rules.proofs.Truth.{by_cases}
use Rattle.rules.proofs.Lengths.{slots_long}
use Rattle.changes.specs.declared.change.Change.{Change as Bytes}
use Rattle.changes.specs.Entries.{change_of, Lent}
use Rattle.changes.specs.Read.{as_change}
use Rattle.changes.proofs.Entries.{length_triples}
use Rattle.choosing.proofs.Ways.{group_is, single_is, change_short, change_many}
use Rattle.writing.specs.Plans.{Right}

module _ (e : ℕ) (c : Bytes) (r : Right e c) where
  abbrev words : List Word
  words = words_of (as_change c)

  many : length words ≡ cond c.marks (length (triples c.entries.now) + 2) (length (triples c.entries.now))
  many = change_many e c.marks c.entries.now c.lent r

  pub entries_few : length c.entries.now ≤ 26
  entries_few = change_short e c.marks c.entries.now c.lent r

  -- with marks it is a group of at most 8, and without them one record
  pub group_few : length (triples c.entries.now) ≤ 8
  group_few = let t = length_triples c.entries.now in omega (arith, entries_few)

  pub group_many : c.marks ≡ true → length words ≡ length (triples c.entries.now) + 2
  group_many q = many ∙ rw q

  pub group_words : c.marks ≡ true → words ≡ words_of (group (triples c.entries.now))
  unfolding change_of
  group_words q =
      subst (λ (m : Bool). wrong_group e (change_of m c.entries.now) ≡ false → words_of (change_of m c.entries.now) ≡ words_of (group (triples c.entries.now)))
      (sym q) (λ g. ap words_of (group_is e c.entries.now g)) r

  pub single_many : c.marks ≡ false → length words ≡ length (triples c.entries.now)
  single_many q = many ∙ rw q

  pub single_words : c.marks ≡ false → words ≡ map record_of (triples c.entries.now)
  unfolding change_of words_of
  single_words q =
      subst (λ (m : Bool). Lent m c.entries.now → words_of (change_of m c.entries.now) ≡ map record_of (triples c.entries.now)) (sym q)
      (λ l. ap (map record_of) (sym (single_is c.entries.now (l refl)))) c.lent

  pub words_few : length words ≤ 10
  words_few = by_cases c.marks (λ q. omega (arith, group_many q, group_few)) (λ q. omega (arith, single_many q, group_few))

  pub slots_few : {n : ℕ} → n ≡ cond c.marks (length (triples c.entries.now) + 2) (length (triples c.entries.now)) → n ≤ 10
  slots_few e = omega (arith, e, many, words_few)

  -- two steps for each slot that it takes
  pub append_long : (p k n : ℕ) → n ≡ cond c.marks (length (triples c.entries.now) + 2) (length (triples c.entries.now))
      → 2 * n ≡ length (append_steps p k (as_change c))
  unfolding append_steps
  append_long p k n e = omega (arith, slots_long p k words, many)
