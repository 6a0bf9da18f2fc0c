-- A cleared page is taken and opened, and words go into its slots. Assumes nothing.
use Prim.Native.Nat.{ℕ, suc, ◌≤◌, ◌<◌, max}
use mathlib.Core.Path.{◌≡◌, sym, ap, ◌∙◌, subst}
use mathlib.Core.Logic.{inr}
use mathlib.Core.Bool.{true, false}
use mathlib.Core.List.{List, [], ◌∷◌, ◌++◌, append-nil}
use native.Mathlib.Omega.{arith}
use lib.ListN.{length, length-append, replicate}
use borrow.Author.Tests.{le-leb}
use Rattle.rules.specs.Word.{Word, opening_word, word_steps}
use Rattle.rules.specs.Page.{blank_word, is_wear, opening_part, open₁, Page, page, state, slots, opening_place}
use Rattle.rules.specs.Store.{states, base, order, order₂, used, is_open, used_pages, oldest_first, Setting, all_records, put_all, outside, place_behind}
use Rattle.rules.specs.Steps.{slots_steps, next_order}
use Rattle.rules.specs.Call.{repeats}
use Rattle.rules.proofs.Words.{sound_light, opening_sound}
use Rattle.rules.proofs.Pages.{fresh_not_open, unopened_not_open, opened_plain}
use Rattle.rules.proofs.Slots.{blank_records}
use Rattle.rules.proofs.Stores.{Under, orders, orders_append, base_amid, used_amid, unused_amid, closed_not_used, closed_order₂, under_below}
use Rattle.rules.proofs.Stores.{under_append, base_under, journal_amid, repeats_insert}
use Rattle.rules.proofs.Phases.{Pages, word_turns, word_run, turns_map, turns_through, turns_after, store_run}
use Rattle.rules.proofs.Told.{told}
use Rattle.rules.proofs.Active.{taken_page}
use Rattle.rules.proofs.Good.{Frame, slots_in, words_in, Turning, Whole, Keeps, Good, whole_amid, whole_word, keeps_base, keeps_orders}
use Rattle.rules.proofs.Good.{keeps_journal, keeps_with, keeps_fade, good_still, good_under}
use Rattle.rules.proofs.Appending.{Newest, others, enter_turns}
use Rattle.rules.proofs.Groups.{Enters}

-- a good store with a cleared page that is taken, w being its wear word
pub record Taking (c : Frame) (J : List Setting) (f : Pages) (w : Word) (r : Pages) : Type 0 where
  pub worn : is_wear c.form.edition w ≡ true
  pub good : Good c J (f ++ taken_page (slots_in c) w ∷ r)

module _ (c : Frame) (J : List Setting) (f : Pages) (w : Word) (r : Pages) (t : Taking c J f w r) where
  abbrev pub pages_now : Pages
  pages_now = f ++ taken_page (slots_in c) w ∷ r

  -- what the store keeps
  abbrev pub Kept : Pages → Type 0
  Kept = Keeps c t.good.base_order t.good.used_by J

  -- the order that the page is to have
  abbrev pub next : ℕ
  next = next_order (told c.form.edition pages_now)

  -- the page with v for its opening word
  abbrev pub begun : Word → List Word
  begun v = w ∷ v ∷ replicate (suc (slots_in c)) blank_word

  abbrev b : ℕ
  b = t.good.base_order

  abbrev h : Kept pages_now
  h = t.good.keeps

  abbrev fp : List Page
  fp = told c.form.edition f

  abbrev rp : List Page
  rp = told c.form.edition r

  abbrev was : Page
  was = page c.form.edition (taken_page (slots_in c) w)

  not_open : is_open (state c.form.edition (taken_page (slots_in c) w)) ≡ false
  not_open = fresh_not_open c.form.edition w (suc (suc (slots_in c)))

  not_used : used b (state c.form.edition (taken_page (slots_in c) w)) ≡ false
  not_used = closed_not_used b (state c.form.edition (taken_page (slots_in c) w)) not_open

  -- whatever is made of the page, the store keeps its journal as long as the page is not open
  pub closed_keeps : (qg : List Word) → Whole c qg → is_open (state c.form.edition qg) ≡ false → Kept (f ++ qg ∷ r)
  closed_keeps qg q closed = keeps_fade c b t.good.used_by J f (taken_page (slots_in c) w) r h qg not_used (inr closed) q

  -- the page with its opening word, of whatever kind, and the turn to it
  pub begun_whole : (kind : ℕ) → Whole c (begun (opening_word kind next))
  begun_whole kind =
      whole_word c w [] blank_word (opening_word kind next) (replicate (suc (slots_in c)) blank_word)
      (whole_amid c f (taken_page (slots_in c) w) r h.whole).1 (sound_light (opening_word kind next) (opening_sound kind next))

  pub opening_turns : (kind : ℕ) (New : Pages → Type 0) → New (f ++ begun (opening_word kind next) ∷ r)
      → Turning c Kept New (word_steps (length f) opening_place (opening_word kind next)) pages_now
  unfolding opening_part
  opening_turns kind New new =
      word_turns (words_in c) f r (w ∷ []) (replicate (suc (slots_in c)) blank_word) c.May Kept New (opening_word kind next) (opening_sound kind next)
      (λ v p.
      closed_keeps (begun v)
      (whole_word c w [] blank_word v (replicate (suc (slots_in c)) blank_word) (whole_amid c f (taken_page (slots_in c) w) r h.whole).1 p.light)
      (unopened_not_open c.form.edition (begun v) p.not_sound))
      new

  -- ---- the other pages

  orders_apart : t.good.used_by ≡ orders (used_pages b fp) ++ orders (used_pages b rp)
  unfolding page
  orders_apart =
      sym (keeps_orders c b t.good.used_by J f (taken_page (slots_in c) w) r h) ∙ ap orders (unused_amid b fp was rp not_used)
      ∙ orders_append (used_pages b fp) (used_pages b rp)

  under : Under next t.good.used_by
  under = good_under c J pages_now t.good

  pub under_apart : Under next (orders (used_pages b fp)) × Under next (orders (used_pages b rp))
  under_apart = under_append next (orders (used_pages b fp)) (orders (used_pages b rp)) (rw orders_apart at under)

  pub base_below : b < next
  base_below = base_under b next (told c.form.edition pages_now) (rw h.has_orders under) (rw h.has_orders t.good.some)

  pub base_apart : b ≡ max (base (states fp)) (base (states rp))
  unfolding page
  base_apart =
      let e = keeps_base c b t.good.used_by J f (taken_page (slots_in c) w) r h in
      let g = base_amid fp was rp in
      let z = closed_order₂ (state c.form.edition (taken_page (slots_in c) w)) not_open in
      omega arith

  journal_apart : J ≡ others c.form.edition b f r
  unfolding page
  journal_apart =
      sym (keeps_journal c b t.good.used_by J f (taken_page (slots_in c) w) r h)
      ∙ ap (λ (ps : List Page). all_records (oldest_first ps)) (unused_amid b fp was rp not_used)

  -- ---- with its opening word of kind 1 the page is the newest, and the journal is the same

  abbrev qg : List Word
  qg = begun (opening_word 1 next)

  opened : state c.form.edition qg ≡ open₁ next
  opened = opened_plain c.form.edition w t.worn next (replicate (suc (slots_in c)) blank_word)

  pub opened_newest : Newest c.form.edition b f qg r
  unfolding used order
  opened_newest =
      let l : b ≤ next = (let x = base_below in omega arith) in
      record {
        is_used = rw opened (le-leb b next l);
        before = rw opened (under_below next (used_pages b fp) under_apart.0);
        behind = rw opened (under_below next (used_pages b rp) under_apart.1);
      }

  -- the orders of the used pages with the new page among them
  abbrev pub wider : List ℕ
  wider = orders (used_pages b fp) ++ next ∷ orders (used_pages b rp)

  pub opened_keeps : Keeps c b wider J (f ++ qg ∷ r)
  unfolding page orders order order₂ slots
  opened_keeps =
      let q = page c.form.edition qg in
      let z : order₂ (state c.form.edition qg) ≡ 0 = rw opened in
      let g = base_amid fp q rp in
      let a = base_apart in
      keeps_with c b t.good.used_by J f (taken_page (slots_in c) w) r h qg (begun_whole 1) (omega arith)
      (ap orders (used_amid b fp q rp opened_newest.is_used) ∙ orders_append (used_pages b fp) (q ∷ used_pages b rp) ∙ rw opened)
      (journal_amid b fp q rp opened_newest.is_used opened_newest.before opened_newest.behind
      ∙ ap (λ (rs : List Setting). others c.form.edition b f r ++ rs) (blank_records c.form.edition (slots_in c))
      ∙ append-nil (others c.form.edition b f r) ∙ sym journal_apart)

  opened_good : suc (length t.good.used_by) < c.pages → (G : Pages) → Keeps c b wider J G → Good c J G
  opened_good two G k =
      let e = ap length orders_apart in
      let x = length-append (orders (used_pages b fp)) (orders (used_pages b rp)) in
      let y = length-append (orders (used_pages b fp)) (next ∷ orders (used_pages b rp)) in
      record {
        base_order = b;
        used_by = wider;
        keeps = k;
        apart = repeats_insert next (orders (used_pages b fp)) (orders (used_pages b rp)) (subst (Under next) orders_apart under)
            (subst (λ (os : List ℕ). repeats os ≡ false) orders_apart t.good.apart);
        spare = omega arith;
        some = omega arith;
        few = t.good.few;
      }

  pub opened_run : store_run (words_in c) (word_steps (length f) opening_place (opening_word 1 next)) pages_now ≡ f ++ qg ∷ r
  opened_run = word_run (words_in c) f r (w ∷ []) (replicate (suc (slots_in c)) blank_word) (opening_word 1 next)

  -- words that fit into a page go into it
  pub open_case : {ws : List Word} {rs : List Setting} → length (put_all [] (J ++ rs)) ≤ c.limit → Enters c.form.edition outside ws rs
      → length ws ≤ slots_in c → suc (length t.good.used_by) < c.pages
      → Turning c (Good c J) (Good c (J ++ rs)) (word_steps (length f) opening_place (opening_word 1 next) ++ slots_steps (length f) 0 ws) pages_now
  unfolding opened_good place_behind
  open_case {ws} {rs} few en fits two =
      let G = f ++ qg ∷ r in
      let good : Good c J G = opened_good two G opened_keeps in
      let first = turns_through (turns_map (good_still c J pages_now t.good J t.good.few)
      (opened_good two) (opening_turns 1 (Keeps c b wider J) opened_keeps)) in
      let last = turns_map (good_still c J G good J t.good.few) (good_still c J G good (J ++ rs) few)
      (enter_turns c b wider J f w (opening_word 1 next) blank_word [] (slots_in c) r opened_newest opened_keeps en fits) in
      turns_after first (subst (Turning c (Good c J) (Good c (J ++ rs)) (slots_steps (length f) 0 ws)) (sym opened_run) last)
