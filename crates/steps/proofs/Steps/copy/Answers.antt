use Prim.Native.Nat.{ℕ, ◌+◌, ◌≤◌, ◌<◌}
use mathlib.Core.Path.{◌≡◌, refl, sym, ap, ◌∙◌, subst}
use mathlib.Core.Bool.{false}
use mathlib.Core.List.{List, [], ◌∷◌, ◌++◌, map, append-nil}
use native.Mathlib.Omega.{arith}
use lib.ListN.{length, get_or, take, length-append, length-map}
use lib.Seq.{append_snoc}
use Rattle.rules.specs.Word.{Word, record_word}
use Rattle.rules.specs.Store.{Setting, address_of}
use Rattle.rules.specs.Steps.{record_of, move_records, slots_steps}
use Rattle.rules.specs.Call.{among, triples}
use Rattle.settings.specs.declared.Setting.{Setting as Numbers}
use Rattle.settings.specs.Held.{as_setting, taken}
use Rattle.steps.specs.Done.{May}
use Rattle.steps.proofs.Doing.{done_nothing}
use Rattle.steps.proofs.Slots.{slots_ready, slots_more, word_ready, word_more}
use Rattle.steps.proofs.Copies.{kept, is_kept, is_left_out, copied_from, copied_all, kept_none, setting_here}
use Rattle.steps.proofs.Steps.copy.Goals as goal
use Rattle.steps.proofs.Steps.copy.Goals.{Start, then-not-names_from, else-not-names_from}

-- what is copied, of the arguments
module _ (s : Start) where
  abbrev table : List Setting
  table = taken s.args.settings s.args.held

  abbrev items : List Numbers
  items = take s.args.held s.args.settings

  abbrev rs : List Setting
  rs = triples s.args.entries.now

  abbrev all : List Word
  all = map record_of (move_records rs table)

  -- of the first j settings
  abbrev ws : ℕ → List Word
  ws j = kept table rs j

  -- the setting at j
  abbrev at : ℕ → Numbers
  at j = get_or items j (record { address = 0; value = 0 })

  abbrev address : ℕ → ℕ
  address j = (at j).address

  abbrev word : ℕ → Word
  word j = record_word (at j).address (at j).value

  here : (j : ℕ) → j < length items → take (j + 1) table ≡ take j table ++ (as_setting (at j) ∷ [])
  here j l = setting_here items refl j (record { address = 0; value = 0 }) l

  long : length table ≡ length items
  long = length-map items as_setting

  allowed : (vs : List Word) → all ≡ vs → May s.args.self.now (slots_steps s.args.page 0 vs)
  allowed vs e = subst (λ (us : List Word). May s.args.self.now (slots_steps s.args.page 0 us)) e s.requires.allowed

  -- all fit into a page
  few : (vs : List Word) → all ≡ vs → length vs ≤ s.args.self.now.form.slots
  few vs e = omega (arith, s.requires.room.1, length-map (move_records rs table) record_of, ap length e)

  -- the word of a setting that is kept comes behind those of the settings before
  from_row : (j : ℕ) → j < length items → among (address j) (map address_of rs) ≡ false → (more : List Word) × (all ≡ ws j ++ word j ∷ more)
  from_row j l named =
      let from = copied_from table rs (j + 1) in
      let next = is_kept table rs j (address j) (at j).value (here j l) named in
      (from.0, from.1 ∙ ap (λ (vs : List Word). vs ++ from.0) next ∙ append_snoc (ws j) (word j) from.0)

  place : {slot : ℕ} (j : ℕ) → slot ≡ length (ws j) → 3 + slot ≡ 3 + (0 + length (ws j))
  place j e = omega arith

  -- when all have been passed
  split : (j : ℕ) → length items ≤ j → all ≡ ws j ++ map record_of rs
  split j l = copied_all table rs j (omega (arith, long))

pub loop-setting-init : goal.loop-setting-init
unfolding slots_steps
loop-setting-init c =
    let s = (goal.at.loop-setting-init c).Start in
    let none = kept_none (table s) (rs s) in
    record {
      behind = rw none;
      few = omega arith;
      copied = rw none (done_nothing s.args.self.now);
    }

pub program_word-requires-clause-allowed : goal.program_word-requires-clause-allowed
program_word-requires-clause-allowed c =
    let l = c.loop-setting in
    let s = (goal.at.program_word-requires-clause-allowed c).Start in
    let from = from_row s l.setting-index c.loop-setting-test.true (sym c.names_from.ensures ∙ c.if-not-names_from.true) in
    rw c.record_word-w.ensures
    (word_ready s.args.page 0 (ws s l.setting-index) l.invariant.copied (word s l.setting-index) (3 + l.slot)
    (place s l.setting-index l.invariant.behind) from.0
    (allowed s (ws s l.setting-index ++ word s l.setting-index ∷ from.0) from.1))

pub loop-setting-preserved : goal.loop-setting-preserved
loop-setting-preserved c =
    let l = c.loop-setting in
    let s = (goal.at.loop-setting-preserved c).Start in
    let a = s.args in
    let j = l.setting-index in
    elim c.if-not-names_from.branch [
      | then-not-names_from w ↦
          let named = sym c.names_from.ensures ∙ w.if-not-names_from.true in
          let next = is_kept (table s) (rs s) j (address s j) (at s j).value (here s j c.loop-setting-test.true) named in
          rw (w.self-is, w.slot-is, next) (record {
            behind = omega (arith, l.invariant.behind, length-append (ws s j) (word s j ∷ []));
            few = omega arith;
            copied = word_more a.page 0 (ws s j) l.invariant.copied (word s j) (3 + l.slot) (place s j l.invariant.behind)
                (rw w.record_word-w.ensures at w.program_word.ensures);
          })
      | else-not-names_from w ↦
          let named = sym c.names_from.ensures ∙ w.if-not-names_from.false in
          let next = is_left_out (table s) (rs s) j (address s j) (at s j).value (here s j c.loop-setting-test.true) named in
          rw (w.self-is, w.slot-is, next) (record { behind = l.invariant.behind; few = omega arith; copied = l.invariant.copied })
    ]

pub program_records-requires-clause-room : goal.program_records-requires-clause-room
program_records-requires-clause-room c =
    let l = c.loop-setting in
    let s = (goal.at.program_records-requires-clause-room c).Start in
    let records = map record_of (rs s) in
    let most = few s (ws s l.setting-index ++ records) (split s l.setting-index (omega arith)) in (
      c.requires.room.0,
      rw l.invariant.copied.same_form
          (omega (arith, most, l.invariant.behind, length-append (ws s l.setting-index) records, length-map (rs s) record_of)),
    )

pub program_records-requires-clause-allowed : goal.program_records-requires-clause-allowed
program_records-requires-clause-allowed c =
    let l = c.loop-setting in
    let s = (goal.at.program_records-requires-clause-allowed c).Start in
    let records = map record_of (rs s) in
    let at : l.slot ≡ 0 + length (ws s l.setting-index) = omega (arith, l.invariant.behind) in
    rw at
    (slots_ready s.args.page 0 (ws s l.setting-index) l.invariant.copied records []
    (allowed s (ws s l.setting-index ++ (records ++ []))
    (split s l.setting-index (omega arith) ∙ ap (λ (vs : List Word). ws s l.setting-index ++ vs) (sym (append-nil records)))))

pub returns : goal.returns
returns c =
    let l = c.loop-setting in
    let s = (goal.at.returns c).Start in
    let at : l.slot ≡ 0 + length (ws s l.setting-index) = omega (arith, l.invariant.behind) in
    rw (split s l.setting-index (omega arith))
    (slots_more s.args.page 0 (ws s l.setting-index) l.invariant.copied (map record_of (rs s)) (rw at at c.program_records.ensures))
