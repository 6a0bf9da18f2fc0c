use Prim.Native.Nat.{ℕ, ◌+◌, ◌*◌, ◌≤◌}
use mathlib.Core.Path.{◌≡◌, ap, ap₂, ◌∙◌, subst}
use mathlib.Core.List.{List, map}
use native.Mathlib.Omega.{arith}
use lib.ListN.{length, drop}
use Rattle.rules.specs.Word.{Word, record_word}
use Rattle.rules.specs.Steps.{record_of, slots_steps}
use Rattle.rules.specs.Call.{triples}
use Rattle.words.specs.Read.{as_word}
use Rattle.changes.specs.Entries.{byte_address, byte_value}
use Rattle.changes.proofs.Entries.{all_entries, first_words, first_many, next_words, words_from}
use Rattle.steps.specs.Done.{May, Done}
use Rattle.steps.proofs.Doing.{done_nothing}
use Rattle.steps.proofs.Slots.{word_ready, word_more}
use Rattle.steps.proofs.Steps.program_records.Goals as goal
use Rattle.steps.proofs.Steps.program_records.Goals.{After-record_word-w}

-- the record is that of the k-th setting, which stands in its place
module _ (r : After-record_word-w) where
  abbrev k : ℕ
  k = r.loop-k.k

  abbrev s : List ℕ
  s = r.args.entries.now

  abbrev word : Word
  word = record_word (byte_address s k) (byte_value s k)

  word_is : as_word r.record_word-w.result ≡ word
  word_is = r.record_word-w.ensures ∙ ap₂ record_word r.address_at.ensures r.value_at.ensures

  more : 3 * k + 3 ≤ length s
  more = omega arith

  place : 3 + r.args.slot + k ≡ 3 + (r.args.slot + length (first_words s k))
  place = omega (arith, first_many s k (omega arith))

pub loop-k-init : goal.loop-k-init
unfolding slots_steps
loop-k-init c = done_nothing c.args.self.now

pub program_word-requires-clause-allowed : goal.program_word-requires-clause-allowed
program_word-requires-clause-allowed c =
    let r = (goal.at.program_word-requires-clause-allowed c).After-record_word-w in
    let l = c.loop-k in
    let a = c.args in
    rw (word_is r)
    (word_ready a.page a.slot (first_words (s r) l.k) l.invariant (word r) (3 + a.slot + l.k) (place r) (map record_of (drop (l.k + 1) (triples (s r))))
    (subst (λ (ws : List Word). May a.self.now (slots_steps a.page a.slot ws)) (words_from (s r) l.k (more r)) c.requires.allowed))

pub loop-k-preserved : goal.loop-k-preserved
loop-k-preserved c =
    let r = (goal.at.loop-k-preserved c).After-record_word-w in
    let l = c.loop-k in
    let a = c.args in
    rw (next_words (s r) l.k (more r))
    (word_more a.page a.slot (first_words (s r) l.k) l.invariant (word r) (3 + a.slot + l.k) (place r) (rw (word_is r) at c.program_word.ensures))

pub returns : goal.returns
returns c =
    let l = c.loop-k in
    let a = c.args in
    let s = a.entries.now in
    let all : first_words s l.k ≡ map record_of (triples s) = ap (map record_of) (all_entries s l.k (omega arith)) in
    subst (λ (ws : List Word). Done a.self.now (slots_steps a.page a.slot ws) l.self) all l.invariant
