-- A finished format leaves a level store, every page of wear 1, and the slots of every page but one to be taken before a move. Assumes nothing.
use Prim.Native.Nat.{ℕ, zero, suc, ◌+◌, ◌-◌, ◌*◌, ◌≤◌, ◌<◌}
use mathlib.Core.Path.{◌≡◌, refl, sym, ap, subst, ◌∙◌}
use mathlib.Core.Bool.{false}
use mathlib.Core.List.{List, []}
use mathlib.Core.Option.{some}
use native.Mathlib.Nat.{suc-mul}
use native.Mathlib.Omega.{arith}
use lib.ListN.{replicate}
use borrow.Author.Tests.{le-leb}
use Rattle.rules.specs.Page.{blank_word, wear_part, wear_in, Page, page, slots}
use Rattle.rules.specs.Store.{states, used, is_cleared, active_page, active_slots, active_index, free_slot, has_room, open_group, in_group, end_of}
use Rattle.rules.specs.Store.{order, used_orders, add_order, active_order, greatest, outside, place_behind, page_at, count, or_value}
use Rattle.rules.proofs.Truth.{and_second}
use Rattle.rules.proofs.Words.{wear_is}
use Rattle.rules.proofs.Pages.{wear_is_wear}
use Rattle.rules.proofs.Stores.{orders, orders_used, none_used_pages}
use Rattle.rules.proofs.Slots.{as_slots, unsound_stays, blanks_unsound}
use Rattle.rules.proofs.Told.{told}
use Rattle.rules.proofs.Building.{AllSound}
use Rattle.rules.proofs.Renewing.{fresh, opened, formatted}
use Rattle.rules.proofs.Wears.{fresh_wear}
use Rattle.rules.proofs.Good.{Frame, slots_in}
use Rattle.rules.proofs.Formatting.{clear_state, opened_state, clear_unused, format_base}
use Rattle.wear.specs.Wear.{sum, wears}
use Rattle.wear.proofs.Finished.{free_sound}
use Rattle.wear.proofs.Level.{used_page, cleared_page, AllLevelled, Level}
use Rattle.wear.proofs.Between.{before_move}
use Rattle.wear.proofs.Orders.{ahead}

module _ (c : Frame) where
  abbrev e : ℕ
  e = c.form.edition

  abbrev s : ℕ
  s = slots_in c

  -- the pages that a format leaves: the first, which is open, and n others
  abbrev first_page : Page
  first_page = page e (opened e s)

  abbrev other_page : Page
  other_page = page e (fresh e (suc (suc s)) 1)

  abbrev pub fresh_pages : ℕ → List Page
  fresh_pages n = told e (formatted e s n)

  abbrev others : ℕ → List Page
  others n = told e (replicate n (fresh e (suc (suc s)) 1))

  first_worn : first_page.wear ≡ some 1
  unfolding page wear_in wear_part
  first_worn = rw (wear_is_wear e 1, wear_is e 1)

  other_worn : other_page.wear ≡ some 1
  unfolding page
  other_worn = fresh_wear e (suc (suc s)) 1

  others_level : (n : ℕ) → AllLevelled 0 1 1 (others n)
  unfolding AllLevelled page
  others_level zero = tt
  others_level (suc n) = (cleared_page 1 other_worn (clear_state c) (omega arith) (omega arith) (omega arith), others_level n)

  -- no slot is taken anywhere, and no group is open
  blank_free : (n : ℕ) → free_slot (replicate n blank_word) ≡ 0
  unfolding AllSound
  blank_free n = free_sound [] n tt

  blank_ends : (n : ℕ) → in_group (place_behind outside (as_slots e (replicate n blank_word))) ≡ false
  unfolding in_group
  blank_ends n = unsound_stays e outside (replicate n blank_word) (blanks_unsound n)

  all_free : (n j : ℕ) → free_slot (page_at j (fresh_pages n)).slots ≡ 0
  unfolding page slots free_slot
  all_free n zero = blank_free s
  all_free zero (suc j) = refl
  all_free (suc n) (suc zero) = blank_free s
  all_free (suc n) (suc (suc j)) = all_free n (suc j)

  all_ended : (n j : ℕ) → in_group (end_of (page_at j (fresh_pages n))) ≡ false
  unfolding page slots place_behind in_group
  all_ended n zero = blank_ends s
  all_ended zero (suc j) = refl
  all_ended (suc n) (suc zero) = blank_ends s
  all_ended (suc n) (suc (suc j)) = all_ended n (suc j)

  pub fresh_level : (n : ℕ) → Level (fresh_pages n)
  unfolding AllLevelled page used open_group active_page
  fresh_level n =
      let st = opened_state c in
      let ps = fresh_pages n in
      record {
        low = 1;
        top = 1;
        least = omega arith;
        most = omega arith;
        pages =
            subst (λ (b : ℕ). AllLevelled b 1 1 ps) (sym (format_base c n))
            (used_page 1 first_worn (rw st (le-leb 0 0 (omega arith))) (omega arith) (omega arith), others_level n);
        ended = and_second (has_room 1 ps) (all_ended n (active_index (states ps)));
      }

  pub fresh_worn : (n j : ℕ) → j < suc n → (page_at j (fresh_pages n)).wear ≡ some 1
  fresh_worn n zero l = first_worn
  fresh_worn zero (suc j) l = absurd (omega arith)
  fresh_worn (suc n) (suc zero) l = other_worn
  fresh_worn (suc n) (suc (suc j)) l = fresh_worn n (suc j) (omega arith)

  others_wears : (n : ℕ) → wears (others n) ≡ n
  unfolding wears sum or_value
  others_wears zero = refl
  others_wears (suc n) = let one : or_value other_page.wear 0 ≡ 1 = rw other_worn in omega (arith, others_wears n)

  pub fresh_wears : (n : ℕ) → wears (fresh_pages n) ≡ suc n
  unfolding wears sum or_value
  fresh_wears n = let one : or_value first_page.wear 0 ≡ 1 = rw first_worn in omega (arith, others_wears n)

  others_cleared : (n : ℕ) → count is_cleared (states (others n)) ≡ n
  unfolding count states is_cleared page
  others_cleared zero = refl
  others_cleared (suc n) = rw (clear_state c) (omega (arith, others_cleared n))

  others_unused : (n : ℕ) → used_orders 0 (states (others n)) ≡ []
  unfolding orders
  others_unused n = orders_used 0 (others n) ∙ ap orders (none_used_pages 0 (others n) (clear_unused c n))

  -- the first page is of order 0, and every other one is cleared
  pub fresh_ahead : (n : ℕ) → ahead (fresh_pages n) ≡ n
  unfolding active_order used_orders add_order states used order greatest page count is_cleared
  fresh_ahead n =
      subst (λ (b : ℕ). greatest (used_orders b (states (fresh_pages n))) + count is_cleared (states (fresh_pages n)) ≡ n) (sym (format_base c n))
      (rw (opened_state c, others_unused n) (omega (arith, others_cleared n)))

  -- every page but the first is cleared, so the slots of all but one page are taken before a move
  pub format_gives : (n : ℕ) → 1 ≤ n → before_move s (fresh_pages n) ≡ n * s
  unfolding count states is_cleared page active_slots active_page
  format_gives zero l = absurd (omega arith)
  format_gives (suc n) l =
      let ps = fresh_pages (suc n) in
      let st = opened_state c in
      let many : count is_cleared (states ps) - 1 ≡ n = rw st (omega (arith, others_cleared (suc n))) in
      rw (many, all_free (suc n) (active_index (states ps))) (omega (arith, suc-mul n s))
