-- A group in the slots of a page: the mark that opens it, its records, the mark that closes it. Assumes nothing.
use Prim.Native.Nat.{ℕ, ◌+◌, ◌/◌}
use mathlib.Core.Path.{◌≡◌, ap, ◌∙◌, subst}
use mathlib.Core.List.{List, [], ◌∷◌, ◌++◌, map}
use native.Mathlib.Omega.{arith}
use lib.ListN.{length, length-map}
use Rattle.rules.specs.Word.{Word, word_steps, mark_word}
use Rattle.rules.specs.Steps.{record_of, slots_steps, group, words_of}
use Rattle.rules.specs.Call.{triples}
use Rattle.changes.proofs.Entries.{length_triples}
use Rattle.steps.specs.declared.Steps.{Steps}
use Rattle.steps.specs.Done.{May, Done}
use Rattle.steps.proofs.Doing.{done_nothing}
use Rattle.steps.proofs.Slots.{slots_ready, slots_more, word_ready, word_more}

module _ (p k : ℕ) (entries : List ℕ) where
  abbrev pub n : ℕ
  n = length entries / 3

  abbrev records : List Word
  records = map record_of (triples entries)

  abbrev opening : Word
  opening = mark_word n

  abbrev closing : Word
  closing = mark_word (128 + n)

  records_many : length records ≡ n
  records_many = length-map (triples entries) record_of ∙ length_triples entries

  words_are : words_of (group (triples entries)) ≡ opening ∷ (records ++ (closing ∷ []))
  unfolding words_of
  words_are = ap (λ (m : ℕ). mark_word m ∷ (records ++ (mark_word (128 + m) ∷ []))) (length_triples entries)

  first_place : 3 + k ≡ 3 + (k + 0)
  first_place = omega arith

  last_place : 4 + k + n ≡ 3 + (k + length ((opening ∷ []) ++ records))
  last_place = omega (arith, records_many)

  -- where all of it may be programmed, so may each part, when those before it are
  module _ (s : Steps) (may : May s (slots_steps p k (words_of (group (triples entries))))) where
    allowed : May s (slots_steps p k (opening ∷ (records ++ (closing ∷ []))))
    allowed = subst (λ (ws : List Word). May s (slots_steps p k ws)) words_are may

    begun : Done s (slots_steps p k []) s
    unfolding slots_steps
    begun = done_nothing s

    pub opening_ready : May s (word_steps p (3 + k) opening)
    opening_ready = word_ready p k [] begun opening (3 + k) first_place (records ++ (closing ∷ [])) allowed

    module _ {t : Steps} (d : Done s (word_steps p (3 + k) opening) t) where
      opened : Done s (slots_steps p k (opening ∷ [])) t
      opened = word_more p k [] begun opening (3 + k) first_place d

      pub records_ready : May t (slots_steps p (k + 1) records)
      records_ready = slots_ready p k (opening ∷ []) opened records (closing ∷ []) allowed

      module _ {u : Steps} (e : Done t (slots_steps p (k + 1) records) u) where
        filled : Done s (slots_steps p k ((opening ∷ []) ++ records)) u
        filled = slots_more p k (opening ∷ []) opened records e

        pub closing_ready : May u (word_steps p (4 + k + n) closing)
        closing_ready = word_ready p k ((opening ∷ []) ++ records) filled closing (4 + k + n) last_place [] allowed

        pub group_done : {v : Steps} → Done u (word_steps p (4 + k + n) closing) v → Done s (slots_steps p k (words_of (group (triples entries)))) v
        group_done {v} f = rw words_are (word_more p k ((opening ∷ []) ++ records) filled closing (4 + k + n) last_place f)
