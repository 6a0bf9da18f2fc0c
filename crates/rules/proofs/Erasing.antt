-- How many steps of a kind a list has, where no program is of it: erases, or those of one page. Assumes nothing.
use Prim.Native.Nat.{ℕ, suc, ◌+◌}
use mathlib.Core.Path.{◌≡◌, refl, ap, ◌∙◌}
use mathlib.Core.Bool.{Bool, false, cond}
use mathlib.Core.List.{List, [], ◌∷◌, ◌++◌, map}
use native.Mathlib.Omega.{arith}
use Rattle.rules.specs.Flash.{Half, first, second, Step, program, erase}
use Rattle.rules.specs.Word.{Word, word, wear_word, opening_word, done_word, word_steps}
use Rattle.rules.specs.Page.{wear_place, opening_place, done_place, slot_place}
use Rattle.rules.specs.Store.{count, Setting}
use Rattle.rules.specs.Steps.{renew, slots_steps, record_of, Change, words_of, open_steps, fill_steps}
use Rattle.rules.proofs.Stores.{count_append}

module _ (kind : Step → Bool) (no_program : (p w : ℕ) (h : Half) (low high : ℕ) → kind (program p w h low high) ≡ false) where
  -- where there is none in xs
  pub none_before : (xs ys : List Step) → count kind xs ≡ 0 → count kind (xs ++ ys) ≡ count kind ys
  none_before xs ys z = omega (arith, count_append kind xs ys)

  pub word_none : (p at : ℕ) (w : Word) → count kind (word_steps p at w) ≡ 0
  unfolding count word_steps
  word_none p at (word a b c d) = rw (no_program p at first a b, no_program p at second c d)

  pub slots_none : (p k : ℕ) (ws : List Word) → count kind (slots_steps p k ws) ≡ 0
  unfolding count slots_steps
  slots_none p k [] = refl
  slots_none p k (w ∷ ws) =
      none_before (word_steps p (slot_place k) w) (slots_steps p (suc k) ws) (word_none p (slot_place k) w) ∙ slots_none p (suc k) ws

  pub open_none : (p o : ℕ) (c : Change) → count kind (open_steps p o c) ≡ 0
  unfolding open_steps
  open_none p o c =
      none_before (word_steps p opening_place (opening_word 1 o)) (slots_steps p 0 (words_of c)) (word_none p opening_place (opening_word 1 o))
      ∙ slots_none p 0 (words_of c)

  pub fill_none : (p o : ℕ) (rs : List Setting) → count kind (fill_steps p o rs) ≡ 0
  unfolding fill_steps
  fill_none p o rs =
      let opened = word_steps p opening_place (opening_word 2 o) in
      let copied = slots_steps p 0 (map record_of rs) in
      none_before (opened ++ copied) (word_steps p done_place (done_word o))
      (none_before opened copied (word_none p opening_place (opening_word 2 o)) ∙ slots_none p 0 (map record_of rs))
      ∙ word_none p done_place (done_word o)

  -- of a page that is renewed, its erase
  pub renew_one : (edition k wear : ℕ) (ss : List Step) → count kind (renew edition k wear ++ ss) ≡ cond (kind (erase k)) 1 0 + count kind ss
  unfolding count renew
  renew_one edition k wear ss =
      let v = wear_word edition wear in
      ap (λ (n : ℕ). cond (kind (erase k)) 1 0 + n) (none_before (word_steps k wear_place v) ss (word_none k wear_place v))
