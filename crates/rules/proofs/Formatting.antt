-- A finished format leaves a good store that holds nothing. Assumes nothing.
use Prim.Native.Nat.{ℕ, zero, suc}
use mathlib.Core.Path.{◌≡◌, refl, ap, ◌∙◌}
use mathlib.Core.List.{List, [], ◌∷◌, append-nil}
use native.Mathlib.Omega.{arith}
use lib.ListN.{replicate, length-replicate}
use Rattle.rules.specs.Word.{Word, wear_word, opening_word}
use Rattle.rules.specs.Page.{blank_word, wear_part, open₁, cleared, Page, page, state, slots}
use Rattle.rules.specs.Store.{states, base, greatest, order, order₂, used, used_pages, add_page, oldest_first, insert, each, put_all}
use Rattle.rules.specs.Store.{records, all_records}
use Rattle.rules.specs.Call.{among, repeats}
use Rattle.rules.proofs.Words.{wear_sound, wear_edition, opening_sound, sound_light}
use Rattle.rules.proofs.Pages.{AllLight, replicate_light, fresh_cleared, wear_is_wear, opened_plain}
use Rattle.rules.proofs.Slots.{blank_records}
use Rattle.rules.proofs.Stores.{orders, NoneUsed, none_used_pages}
use Rattle.rules.proofs.Phases.{Pages}
use Rattle.rules.proofs.Told.{told}
use Rattle.rules.proofs.Renewing.{fresh, opened, formatted}
use Rattle.rules.proofs.Good.{Frame, slots_in, AllWhole, Good}

module _ (c : Frame) where
  abbrev e : ℕ
  e = c.form.edition

  -- a cleared page of wear 1, n of them, and the store that a format leaves, all of c's form
  abbrev clear_page : List Word
  clear_page = fresh e (suc (suc (slots_in c))) 1

  abbrev clear_pages : ℕ → Pages
  clear_pages n = replicate n clear_page

  pub clear_state : state e clear_page ≡ cleared 1
  clear_state = fresh_cleared e 1 (suc (suc (slots_in c)))

  clear_whole : (n : ℕ) → AllWhole c (clear_pages n)
  unfolding AllWhole AllLight wear_part
  clear_whole zero = tt
  clear_whole (suc n) = (
    (
      ap suc (length-replicate (suc (suc (slots_in c))) blank_word),
      λ may. (sound_light (wear_word e 1) (wear_sound e 1), replicate_light (suc (suc (slots_in c)))),
      λ one s. wear_edition e 1,
    ),
    clear_whole n,
  )

  clear_base : (n : ℕ) → base (states (told e (clear_pages n))) ≡ 0
  unfolding base greatest states page order₂
  clear_base zero = refl
  clear_base (suc n) = rw (clear_state, clear_base n)

  pub clear_unused : (n : ℕ) → NoneUsed 0 (told e (clear_pages n))
  unfolding NoneUsed page used
  clear_unused zero = tt
  clear_unused (suc n) = (rw clear_state, clear_unused n)

  pub opened_state : state e (opened e (slots_in c)) ≡ open₁ 0
  opened_state = opened_plain e (wear_word e 1) (wear_is_wear e 1) 0 (replicate (suc (slots_in c)) blank_word)

  pub format_base : (n : ℕ) → base (states (told e (formatted e (slots_in c) n))) ≡ 0
  unfolding page base greatest states order₂
  format_base n = rw (opened_state, clear_base n)

  pub format_good : (n : ℕ) → suc n ≡ c.pages → Good c [] (formatted e (slots_in c) n)
  unfolding AllWhole AllLight wear_part page order used used_pages add_page orders oldest_first insert each slots repeats among put_all
  format_good n is =
      let two = c.two in
      let m = slots_in c in
      let st = opened_state in
      let only : used_pages 0 (told e (formatted e m n)) ≡ page e (opened e m) ∷ [] = rw (st, none_used_pages 0 (told e (clear_pages n)) (clear_unused n)) in
      record {
        base_order = 0;
        used_by = 0 ∷ [];
        apart = refl;
        spare = omega arith;
        some = omega arith;
        few = omega arith;
        keeps = record {
          whole = (
            (
              ap (λ (x : ℕ). suc (suc (suc x))) (length-replicate m blank_word),
              λ may. (sound_light (wear_word e 1) (wear_sound e 1), (sound_light (opening_word 1 0) (opening_sound 1 0), replicate_light (suc m))),
              λ one s. wear_edition e 1,
            ),
            clear_whole n,
          );
          count = ap suc (length-replicate n clear_page) ∙ is;
          is_base = format_base n;
          has_orders = ap orders only ∙ rw st;
          has_journal = ap (λ (ps : List Page). all_records (oldest_first ps)) only ∙ append-nil (records e (replicate m blank_word))
              ∙ blank_records e m;
        };
      }
