-- A store of any number of pages of any roomy form in which a write is as long as a write can be: a full page that holds 192 addresses, older pages
-- with nothing in them, and one cleared page. Assumes nothing.
use Prim.Native.Nat.{ℕ, zero, suc, ◌+◌, ◌-◌, ◌*◌, ◌≤◌, ◌<◌}
use mathlib.Core.Path.{◌≡◌, refl, sym, ap, ap₂, ◌∙◌, subst}
use mathlib.Core.Bool.{true, false, ◌||◌}
use mathlib.Core.List.{List, [], ◌∷◌, ◌++◌, map, append-nil}
use mathlib.Core.Option.{some}
use native.Mathlib.Nat.{zero-mul, suc-mul}
use native.Mathlib.Omega.{arith}
use lib.ListN.{length, take, drop, length-append, length-map, length-replicate, replicate}
use lib.Seq.{take-append_seam, drop-append_seam}
use lib.Dec.{leb}
use borrow.Author.Tests.{le-leb, lt-leb, le-ltb, eq-eqb, ne_eqb}
use Rattle.rules.specs.Word.{Word, word, words, wear_word, opening_word, sound, blank, record_word}
use Rattle.rules.specs.Page.{Form, word_count, size, blank_word, open₁, Page, page, state, slots}
use Rattle.rules.specs.Store.{states, order₂, base, used, is_cleared, order, greatest, used_pages, add_page, active_order, active_index, index_of}
use Rattle.rules.specs.Store.{is_active, page_at, active_page, active_slots, has_room, past, free_slot, count, oldest_first, Setting, setting}
use Rattle.rules.specs.Store.{records, each, all_records, journal, or_else, last_of, put, put_all, settings, held, value, open_group}
use Rattle.rules.specs.Steps.{unclean, Change, single, settings_of, words_of, record_of, but, but_all, move_records, is_value, all_values, taken, next_order}
use Rattle.rules.specs.Steps.{new_page, way, way_steps, write_steps}
use Rattle.rules.specs.Owner.{handset, a_foreign}
use Rattle.rules.specs.Call.{Roomy, page_count, pages, cut, repeats, is_unclean, wrong_group, wrong_address, a_wrong_address, is_held, is_new, no_room}
use Rattle.rules.specs.Call.{crowded, order_end, write_number, OK}
use Rattle.rules.proofs.Truth.{is_false, not_both}
use Rattle.rules.proofs.Words.{blank_is, blank_not_sound, record_sound}
use Rattle.rules.proofs.Pages.{wear_is_wear, opened_plain, fresh_cleared}
use Rattle.rules.proofs.Settings.{put_all_append, last_of_settings}
use Rattle.rules.proofs.Slots.{Lawful, lawful_append, addressed_lawful, blanks_unsound, blank_records, copied_records}
use Rattle.rules.proofs.Stores.{Below, Under, orders, under_below, journal_amid, repeats_insert}
use Rattle.rules.proofs.Phases.{Pages}
use Rattle.rules.proofs.Cut.{AllLength}
use Rattle.rules.proofs.Told.{told}
use Rattle.rules.proofs.Answers.{write_ok}
use Rattle.rules.proofs.Active.{active_is}
use Rattle.rules.proofs.Ready.{taken_within}
use Rattle.rules.proofs.Good.{Frame, Good, long_whole, good_ordered, journal_is}
use Rattle.rules.proofs.Healthy.{frame, sized_count, Healthy, value_here, few_here, store_ok}
use Rattle.rules.proofs.Lengths.{move_long}
use Rattle.promise.specs.Calls.{Image}
use Rattle.promise.specs.History.{write_of}
use Rattle.promise.specs.Corollaries.{Longest, a_longest_write}

-- ---- an image of pages of words

flat : List Word → List ℕ
flat [] = []
flat (word a b c d ∷ ws) = a ∷ b ∷ c ∷ d ∷ flat ws

image_of : Pages → Image
image_of [] = []
image_of (pg ∷ F) = flat pg ++ image_of F

words_flat : (ws : List Word) → words (flat ws) ≡ ws
unfolding words flat
words_flat [] = refl
words_flat (word a b c d ∷ ws) = ap (λ (vs : List Word). word a b c d ∷ vs) (words_flat ws)

flat_length : (ws : List Word) → length (flat ws) ≡ 4 * length ws
unfolding flat
flat_length [] = refl
flat_length (word a b c d ∷ ws) = let e = flat_length ws in omega arith

cut_image : (w : ℕ) (F : Pages) → AllLength w F → cut (4 * w) (length F) (image_of F) ≡ F
unfolding cut image_of AllLength
cut_image w [] h = refl
cut_image w (pg ∷ F) h =
    let e : 4 * w ≡ length (flat pg) = (let l = flat_length pg in let m = h.0 in omega arith) in
    ap₂ (λ (x : List Word) (xs : Pages). x ∷ xs)
    (ap (λ (n : ℕ). words (take n (flat pg ++ image_of F))) e ∙ ap words (take-append_seam (flat pg) (image_of F)) ∙ words_flat pg)
    (ap (λ (n : ℕ). cut (4 * w) (length F) (drop n (flat pg ++ image_of F))) e
    ∙ ap (cut (4 * w) (length F)) (drop-append_seam (flat pg) (image_of F)) ∙ cut_image w F h.1)

image_length : (w : ℕ) (F : Pages) → AllLength w F → length (image_of F) ≡ length F * (4 * w)
unfolding image_of AllLength
image_length w [] h = sym (zero-mul (4 * w))
image_length w (pg ∷ F) h =
    let one : length (flat pg) ≡ 4 * w = (let l = flat_length pg in let m = h.0 in omega arith) in
    let more = suc-mul (length F) (4 * w) in
    omega (arith, length-append (flat pg) (image_of F), one, more, image_length w F h.1)

-- ---- the records of a full page: 192 addresses, and the first of them again and again

rising : (n from : ℕ) → List Setting
rising zero k = []
rising (suc n) k = setting k 0 ∷ rising n (suc k)

held_all : List Setting
held_all = rising 192 0

again : ℕ → List Setting
again k = replicate k (setting 0 0)

abbrev all : ℕ → List Setting
all k = held_all ++ again k

-- what is computed of the addresses
record Computed : Type 0 where
  many : length held_all ≡ 192
  lawful : a_wrong_address held_all ≡ false
  held_so : put_all [] held_all ≡ held_all
  held_again : put (setting 0 0) held_all ≡ held_all
  copied_many : length (move_records (setting 0 1 ∷ []) held_all) ≡ 192
  first_value : last_of 0 held_all ≡ some 0

computed : Computed
unfolding held_all rising a_wrong_address wrong_address put put_all but but_all last_of or_else
computed = record { many = refl; lawful = refl; held_so = refl; held_again = refl; copied_many = refl; first_value = refl }

-- what follows of them and the first one again, so many times
again_lawful : (k : ℕ) → Lawful (again k)
unfolding again Lawful
again_lawful zero = tt
again_lawful (suc k) = (λ e. omega arith, again_lawful k)

again_held : (k : ℕ) → put_all held_all (again k) ≡ held_all
unfolding again put_all
again_held zero = refl
again_held (suc k) = ap (λ (t : List Setting). put_all t (again k)) computed.held_again ∙ again_held k

module _ (k : ℕ) where
  all_many : length (all k) ≡ 192 + k
  unfolding again
  all_many = omega (arith, length-append held_all (again k), computed.many, length-replicate k (setting 0 0))

  read_back : (e : ℕ) → records e (map record_of (all k)) ≡ all k
  read_back e =
      let lawful = lawful_append held_all (again k) (addressed_lawful held_all computed.lawful) (again_lawful k) in
      ap (records e) (sym (append-nil (map record_of (all k)))) ∙ copied_records e (all k) [] lawful (blanks_unsound 0)

  all_held : put_all [] (all k) ≡ held_all
  all_held = put_all_append [] held_all (again k) ∙ ap (λ (t : List Setting). put_all t (again k)) computed.held_so ∙ again_held k

  first_held : last_of 0 (all k) ≡ some 0
  first_held = sym (last_of_settings 0 (all k)) ∙ ap (last_of 0) all_held ∙ computed.first_value

-- no record is blank, so that none is free
all_taken : (rs : List Setting) → free_slot (map record_of rs) ≡ length rs
unfolding free_slot past
all_taken [] = refl
all_taken (setting a v ∷ rs) = rw (not_blank (record_word a v) (record_sound a v)) (ap suc (all_taken rs))
  where
    not_blank : (u : Word) → sound u ≡ true → blank u ≡ false
    not_blank u s = is_false (blank u) (λ b. not_both s (ap sound (blank_is u b) ∙ blank_not_sound))

-- ---- the pages of a form

module _ (fm : Form) where
  full_page : (order : ℕ) → List Word
  full_page o = wear_word fm.edition 1 ∷ opening_word 1 o ∷ blank_word ∷ map record_of (all (fm.slot_count - 192))

  old_page : (order : ℕ) → List Word
  old_page o = wear_word fm.edition 1 ∷ opening_word 1 o ∷ replicate (suc fm.slot_count) blank_word

  -- m older pages, the newest of them first, and the cleared one
  olds : ℕ → Pages
  olds zero = (wear_word fm.edition 1 ∷ replicate (suc (suc fm.slot_count)) blank_word) ∷ []
  olds (suc m) = old_page m ∷ olds m

-- ---- pages of falling orders, the last of them cleared

down : ℕ → List ℕ
down zero = []
down (suc m) = m ∷ down m

down_length : (m : ℕ) → length (down m) ≡ m
unfolding down
down_length zero = refl
down_length (suc m) = ap suc (down_length m)

down_under : (m k : ℕ) → m ≤ k → Under k (down m)
unfolding Under down
down_under zero k h = tt
down_under (suc m) k h = (h, down_under m k (omega arith))

down_apart : (m : ℕ) → repeats (down m) ≡ false
unfolding repeats down
down_apart zero = refl
down_apart (suc m) = repeats_insert m [] (down m) (down_under m m (omega arith)) (down_apart m)

down_greatest : (m : ℕ) → greatest (down (suc m)) ≡ m
unfolding greatest down
down_greatest zero = refl
down_greatest (suc m) = let e = down_greatest m in omega arith

-- m used pages of an edition and a number of words, with the records J, and the cleared one
record Stack (e w m : ℕ) (J : List Setting) (F : Pages) : Type 0 where
  is_base : base (states (told e F)) ≡ 0
  has_orders : orders (used_pages 0 (told e F)) ≡ down m
  has_journal : all_records (oldest_first (used_pages 0 (told e F))) ≡ J
  one_cleared : count is_cleared (states (told e F)) ≡ 1
  all_clean : count (unclean 0) (states (told e F)) ≡ 0
  long : AllLength w F
  many : length F ≡ suc m

-- one more, of the next order
on_top : {e w m : ℕ} {F : Pages} → Stack e w m [] F → (pg : List Word) → state e pg ≡ open₁ m → length pg ≡ w
    → Stack e w (suc m) (records e (slots pg)) (pg ∷ F)
unfolding down page states base greatest order₂ used used_pages add_page orders order count is_cleared unclean AllLength Below
on_top {e} {w} {m} {F} t pg s l =
    let u : leb 0 m ≡ true = le-leb 0 m (omega arith) in
    let n = t.one_cleared in
    let d = t.all_clean in
    record {
      is_base = rw (s, t.is_base);
      has_orders = rw (s, u) (ap (λ (os : List ℕ). m ∷ os) t.has_orders);
      has_journal =
          journal_amid 0 [] (page e pg) (told e F) (rw s u) tt
          (rw s (under_below m (used_pages 0 (told e F)) (rw t.has_orders (down_under m m (omega arith)))))
          ∙ rw t.has_journal;
      one_cleared = rw s (omega arith);
      all_clean = rw (s, u) (omega arith);
      long = (l, t.long);
      many = ap suc t.many;
    }

module _ (fm : Form) where
  older : (m : ℕ) → Stack fm.edition (word_count fm) m [] (olds fm m)
  unfolding olds down page states base greatest order₂ used used_pages add_page orders oldest_first each count is_cleared unclean AllLength old_page slots
  older zero =
      let s = fresh_cleared fm.edition 1 (suc (suc fm.slot_count)) in
      let l : length (olds fm 0) ≡ 1 = refl in
      record {
        is_base = rw s;
        has_orders = rw s;
        has_journal = rw s;
        one_cleared = rw s;
        all_clean = rw s;
        long = (ap suc (length-replicate (suc (suc fm.slot_count)) blank_word), tt);
        many = refl;
      }
  older (suc m) =
      subst (λ (J : List Setting). Stack fm.edition (word_count fm) (suc m) J (old_page fm m ∷ olds fm m)) (blank_records fm.edition fm.slot_count)
      (on_top (older m) (old_page fm m)
      (opened_plain fm.edition (wear_word fm.edition 1) (wear_is_wear fm.edition 1) m (replicate (suc fm.slot_count) blank_word))
      (ap (λ (n : ℕ). suc (suc n)) (length-replicate (suc fm.slot_count) blank_word)))

-- ---- the whole store

module _ (fm : Form) (roomy : Roomy fm) (m : ℕ) (few : m ≤ 30) where
  abbrev k : ℕ
  k = fm.slot_count - 192

  abbrev store : Pages
  store = full_page fm m ∷ olds fm m

  abbrev ps : List Page
  ps = told fm.edition store

  full_state : state fm.edition (full_page fm m) ≡ open₁ m
  unfolding full_page
  full_state = opened_plain fm.edition (wear_word fm.edition 1) (wear_is_wear fm.edition 1) m (blank_word ∷ map record_of (all k))

  full : length (map record_of (all k)) ≡ fm.slot_count
  full = length-map (all k) record_of ∙ (let n = all_many k in omega arith)

  stack : Stack fm.edition (word_count fm) (suc m) (all k) store
  unfolding full_page slots
  stack =
      subst (λ (J : List Setting). Stack fm.edition (word_count fm) (suc m) J store) (read_back k fm.edition)
      (on_top (older fm m) (full_page fm m) full_state (ap (λ (n : ℕ). suc (suc (suc n))) full))

  two : 2 ≤ suc (suc m)
  two = omega arith

  abbrev c : Frame
  c = frame fm roomy ⊥ ⊥ (suc (suc m)) two

  good : Good c (all k) store
  unfolding down
  good =
      let l = down_length m in
      let h : length (put_all [] (all k)) ≡ 192 = ap (λ (t : List Setting). length t) (all_held k) ∙ computed.many in
      record {
        base_order = 0;
        used_by = m ∷ down m;
        apart = down_apart (suc m);
        spare = omega arith;
        some = omega arith;
        few = omega arith;
        keeps = record {
          whole = long_whole c (λ z. z) store (λ z. absurd z) stack.long;
          count = stack.many;
          is_base = stack.is_base;
          has_orders = stack.has_orders;
          has_journal = stack.has_journal;
        };
      }

  abbrev image : Image
  image = image_of store

  cut_is : cut (size fm) (suc (suc m)) image ≡ store
  cut_is = ap (λ (n : ℕ). cut (size fm) n image) (sym stack.many) ∙ cut_image (word_count fm) store stack.long

  sized : length image ≡ suc (suc m) * size fm
  sized = image_length (word_count fm) store stack.long ∙ ap (λ (n : ℕ). n * size fm) stack.many

  counted : page_count fm image ≡ suc (suc m)
  counted = sized_count fm (suc (suc m)) image sized

  pages_are : pages fm image ≡ ps
  unfolding pages
  pages_are = ap (λ (n : ℕ). told fm.edition (cut (size fm) n image)) counted ∙ ap (told fm.edition) cut_is

  healthy : Healthy fm ⊥ ⊥ (λ x. last_of x (all k)) image
  healthy =
      record {
        roomy = roomy;
        count = suc (suc m);
        sized = sized;
        least = two;
        most = omega arith;
        has = record { journal = all k; values = λ x. refl; good = subst (Good c (all k)) (sym cut_is) good };
      }

  first_value : value 0 (pages fm image) ≡ some 0
  first_value = value_here healthy 0 ∙ first_held k

  newest : active_order (states ps) ≡ m
  unfolding good down
  newest = active_is fm.edition (word_count fm) 0 (m ∷ down m) store (good_ordered c (all k) store good) ∙ down_greatest m

  -- the full page is the active one
  active_first : active_index (states ps) ≡ 0
  unfolding active_index index_of is_active states page order used
  active_first = rw (newest, stack.is_base, full_state, le-leb 0 m (omega arith), eq-eqb m m refl)

  none_free : has_room 1 ps ≡ false
  unfolding has_room active_page active_slots page full_page slots
  none_free =
      let taken = all_taken (all k) ∙ sym (length-map (all k) record_of) in
      ap (λ (n : ℕ). leb (free_slot (page_at n ps).slots + 1) (length (page_at n ps).slots)) active_first
      ∙ lt-leb (free_slot (map record_of (all k)) + 1) (length (map record_of (all k))) (omega arith)

  -- a page without a free slot has no open group
  clean : is_unclean (pages fm image) ≡ false
  unfolding is_unclean open_group
  clean = rw (pages_are, stack.is_base, stack.all_clean, none_free)

  abbrev change : Change
  change = single 0 1

  fresh : all_values (settings_of change) (pages fm image) ≡ false
  unfolding settings_of all_values is_value
  fresh = rw first_value

  room : no_room (settings_of change) (pages fm image) ≡ false
  unfolding no_room settings_of count is_new is_held
  room = rw first_value (le-ltb 192 (held (pages fm image) + (0 + 0)) (omega (arith, few_here healthy)))

  -- nothing that is written is new
  room_too : (no_room (settings_of change) (pages fm image) || crowded handset (settings_of change) (pages fm image)) ≡ false
  unfolding crowded settings_of count is_new is_held
  room_too = rw (room, first_value)

  accepted : write_number fm handset change image ≡ OK
  unfolding wrong_group a_wrong_address wrong_address a_foreign settings_of words_of order_end
  accepted =
      write_ok fm handset change image (store_ok healthy) clean refl refl refl fresh room_too
      (rw (pages_are, none_free, newest) (ne_eqb m 4194303 (λ e. omega arith)))

  long : length (write_of fm change image) ≡ 388 + 3 * (suc (suc m) - 1)
  unfolding write_steps way way_steps new_page settings settings_of words_of
  long =
      let many : length ps ≡ suc (suc m) = length-map store (page fm.edition) ∙ stack.many in
      let inside : taken ps < length ps = rw (many, ← counted, ← pages_are) (taken_within fm image (store_ok healthy) clean) in
      let copied : length (move_records (setting 0 1 ∷ []) (put_all [] (journal ps))) ≡ 192 =
      rw (journal_is c (all k) store good, all_held k) computed.copied_many in
      let s : all_values (setting 0 1 ∷ []) ps ≡ false = rw pages_are at fresh in
      rw (pages_are, s, none_free, stack.one_cleared)
      (omega (arith, move_long fm.edition (taken ps) (next_order ps) (move_records (setting 0 1 ∷ []) (settings ps)) ps inside))

pub longest_there : a_longest_write
longest_there fm roomy n l h =
    let few : n - 2 ≤ 30 = omega arith in
    let e : suc (suc (n - 2)) ≡ n = omega arith in
    subst (Longest fm) e
    (record {
      image = image fm roomy (n - 2) few;
      address = 0;
      value = 1;
      so_many = counted fm roomy (n - 2) few;
      accepted = accepted fm roomy (n - 2) few;
      long = long fm roomy (n - 2) few;
    })
