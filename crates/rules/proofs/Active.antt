-- The active page and the page that is taken, in any store whose used pages have different orders. Assumes nothing.
use Prim.Native.Nat.{ℕ, suc, ◌+◌, ◌<◌}
use mathlib.Core.Path.{◌≡◌, refl, sym, ap, ap₂, ◌∙◌, subst}
use mathlib.Core.Bool.{true, false}
use mathlib.Core.List.{List, [], ◌∷◌, ◌++◌}
use native.Mathlib.Omega.{arith}
use lib.ListN.{length, length-append, length-map, replicate, length-replicate}
use lib.Seq.{get_or-append_seam}
use Rattle.rules.specs.Word.{Word}
use Rattle.rules.specs.Page.{blank_word, is_wear, cleared, Page, page, state, slots}
use Rattle.rules.specs.Store.{states, base, is_cleared, used_orders, greatest, active_order, active_index, active_page, active_slots}
use Rattle.rules.specs.Store.{no_page, page_at}
use Rattle.rules.specs.Store.{is_active, index_of, used, order, used_pages, oldest_first, free_slot, count, index}
use Rattle.rules.specs.Steps.{unclean, taken}
use Rattle.rules.specs.Call.{among, repeats}
use Rattle.rules.proofs.Cut.{AllLength}
use Rattle.rules.proofs.Phases.{Pages}
use Rattle.rules.proofs.Told.{told, told_amid, Parted, parted, Headed, headed, length_amid}
use Rattle.rules.proofs.Pages.{cleared_is}
use Rattle.rules.proofs.Slots.{FreeAt, free_at}
use Rattle.rules.proofs.Stores.{length_states, orders, orders_used, greatest_among, greatest_upto, Under, upto_under, ActiveAt, active_at}
use Rattle.rules.proofs.Stores.{taken_at, count_all, count_used, Below, used_amid, greatest_last}

-- A store whose used pages, of which there are some, have different orders: by its base order and those orders.
pub record Ordered (edition k b : ℕ) (os : List ℕ) (F : Pages) : Type 0 where
  pub long : AllLength k F
  pub is_base : base (states (told edition F)) ≡ b
  pub has_orders : orders (used_pages b (told edition F)) ≡ os
  pub apart : repeats os ≡ false
  pub some : 0 < length os

-- the greatest of the orders in use
greatest_is : (os : List ℕ) → 0 < length os → among (greatest os) os ≡ true
greatest_is [] h = absurd (omega arith)
greatest_is (o ∷ os) h = greatest_among o os

module _ (edition k b : ℕ) (os : List ℕ) (F : Pages) (g : Ordered edition k b os F) where
  pub active_is : active_order (states (told edition F)) ≡ greatest os
  unfolding active_order
  active_is =
      ap (λ (x : ℕ). greatest (used_orders x (states (told edition F)))) g.is_base ∙ ap greatest (orders_used b (told edition F) ∙ g.has_orders)

  -- the next order is above all in use
  pub next_under : Under (active_order (states (told edition F)) + 1) os
  next_under = rw active_is (upto_under (greatest os) os (greatest_upto os))

  pub active : ActiveAt b (greatest os) (told edition F)
  active =
      active_at b (greatest os) (told edition F) (rw g.has_orders (greatest_upto os)) (rw g.has_orders (greatest_is os g.some))
      (rw g.has_orders g.apart)

  pub at_active : Parted edition F active.front active.page active.rest
  at_active = parted edition F active.front active.page active.rest active.form

  pub active_place : active_index (states (told edition F)) ≡ length at_active.front
  unfolding active_index
  active_place =
      ap₂ (λ (x y : ℕ). index_of (is_active x y) (states (told edition F))) g.is_base active_is ∙ active.place
      ∙ sym (ap length at_active.front_told) ∙ length-map at_active.front (page edition)

  pub page_active : active_page (told edition F) ≡ page edition at_active.here
  unfolding active_page
  page_active =
      ap (λ (x : ℕ). page_at x (told edition F)) (active_place ∙ sym (length-map at_active.front (page edition)) ∙ ap length at_active.front_told)
      ∙ ap (page_at (length active.front)) active.form
      ∙ get_or-append_seam active.front active.page active.rest no_page ∙ sym at_active.here_told

  -- its order is the active one
  pub order_active : order (active_page (told edition F)).state ≡ active_order (states (told edition F))
  order_active = ap (λ (p : Page). order p.state) (page_active ∙ at_active.here_told) ∙ active.is_order ∙ sym active_is

  pub slots_active : active_slots (told edition F) ≡ slots at_active.here
  unfolding active_slots page
  slots_active = ap (λ (p : Page). p.slots) page_active

-- the active page is the last used one, the oldest first
unfoldable last_page : List Page → Page
last_page [] = no_page
last_page (p ∷ []) = p
last_page (p ∷ q ∷ ps) = last_page (q ∷ ps)

last_snoc : (ps : List Page) (p : Page) → last_page (ps ++ p ∷ []) ≡ p
unfolding last_page
last_snoc [] p = refl
last_snoc (x ∷ []) p = refl
last_snoc (x ∷ y ∷ ps) p = last_snoc (y ∷ ps) p

newest_last : (b : ℕ) (f : List Page) (p : Page) (r : List Page) → used b p.state ≡ true → Below (order p.state) (used_pages b f)
    → Below (order p.state) (used_pages b r) → last_page (oldest_first (used_pages b (f ++ p ∷ r))) ≡ p
newest_last b f p r u h t =
    ap (λ (ps : List Page). last_page (oldest_first ps)) (used_amid b f p r u) ∙ ap last_page (greatest_last p (used_pages b f) (used_pages b r) h t)
    ∙ last_snoc (oldest_first (used_pages b f ++ used_pages b r)) p

active_last : (edition k b : ℕ) (os : List ℕ) (F : Pages) → Ordered edition k b os F
    → active_page (told edition F) ≡ last_page (oldest_first (used_pages b (told edition F)))
active_last edition k b os F g =
    let a = active edition k b os F g in
    let o = sym a.is_order in
    page_active edition k b os F g ∙ (at_active edition k b os F g).here_told
    ∙ sym (ap (λ (ps : List Page). last_page (oldest_first (used_pages b ps))) a.form
    ∙ newest_last b a.front a.page a.rest a.is_used (rw o at a.before) (rw o at a.behind))

-- so two stores with the same used pages have the same active page, and one that is newer than all others is it
pub same_active : (edition k b : ℕ) (os : List ℕ) (F G : Pages) → Ordered edition k b os F → Ordered edition k b os G
    → used_pages b (told edition G) ≡ used_pages b (told edition F) → active_page (told edition G) ≡ active_page (told edition F)
same_active edition k b os F G g h e =
    active_last edition k b os G h ∙ ap (λ (ps : List Page). last_page (oldest_first ps)) e ∙ sym (active_last edition k b os F g)

pub newest_active : (edition k b : ℕ) (os : List ℕ) (f : Pages) (pg : List Word) (r : Pages) → Ordered edition k b os (f ++ pg ∷ r)
    → used b (state edition pg) ≡ true → Below (order (state edition pg)) (used_pages b (told edition f))
    → Below (order (state edition pg)) (used_pages b (told edition r)) → active_page (told edition (f ++ pg ∷ r)) ≡ page edition pg
unfolding page
newest_active edition k b os f pg r g u before behind =
    active_last edition k b os (f ++ pg ∷ r) g
    ∙ ap (λ (ps : List Page). last_page (oldest_first (used_pages b ps))) (told_amid edition f pg r)
    ∙ newest_last b (told edition f) (page edition pg) (told edition r) u before behind

module _ (edition m b : ℕ) (os : List ℕ) (F : Pages) (g : Ordered edition (suc (suc (suc m))) b os F) where
  abbrev k : ℕ
  k = suc (suc (suc m))

  -- the header of the active page, and its slots: those before the free one, and the blank ones behind them
  pub record Slotted : Type 0 where
    pub header : Headed m (at_active edition k b os F g).here
    pub free : FreeAt header.ws
    pub place : free_slot (active_slots (told edition F)) ≡ length free.front
    pub many : length (active_slots (told edition F)) ≡ length free.front + free.rest

  pub active_slotted : Slotted
  unfolding slots
  active_slotted =
      let at = at_active edition k b os F g in
      let hd = headed m at.here (length_amid k at.front at.here at.rest (subst (AllLength k) at.form g.long)) in
      let sl : active_slots (told edition F) ≡ hd.ws = slots_active edition k b os F g ∙ ap slots hd.form in
      let t = free_at hd.ws in
      record {
        header = hd;
        free = t;
        place = ap free_slot sl ∙ sym t.place;
        many = ap length (sl ∙ t.form) ∙ length-append t.front (replicate t.rest blank_word)
            ∙ ap (λ (n : ℕ). length t.front + n) (length-replicate t.rest blank_word);
      }

-- ---- the page that is taken

-- a cleared page, with its wear word
abbrev pub taken_page : (m : ℕ) → Word → List Word
taken_page m w = w ∷ blank_word ∷ replicate (suc m) blank_word

pub record Takes (edition m : ℕ) (F : Pages) : Type 0 where
  pub front : Pages
  pub first : Word
  pub rest : Pages
  pub form : F ≡ front ++ taken_page m first ∷ rest
  pub place : taken (told edition F) ≡ length front
  pub worn : is_wear edition first ≡ true

pub takes : (edition m : ℕ) (F : Pages) → AllLength (suc (suc (suc m))) F → (count is_cleared (states (told edition F)) ≡ 0 → ⊥) → Takes edition m F
unfolding taken index page
takes edition m F long h =
    let t = taken_at 0 (told edition F) h in
    let p = parted edition F t.front t.page t.rest t.form in
    let e : state edition p.here ≡ cleared t.wear = ap (λ (q : Page). q.state) p.here_told ∙ t.is_cleared in
    let c = cleared_is edition p.here t.wear e in
    let w = length_amid (suc (suc (suc m))) p.front p.here p.rest (subst (AllLength (suc (suc (suc m)))) p.form long) in
    let l : suc c.rest ≡ suc (suc (suc m)) = sym (ap suc (length-replicate c.rest blank_word)) ∙ sym (ap length c.form) ∙ w in
    let z : c.rest ≡ suc (suc m) = omega arith in
    let d : 0 + length t.front ≡ length p.front = (let y = ap length p.front_told in let x = length-map p.front (page edition) in omega arith) in
    record {
      front = p.front;
      first = c.first;
      rest = p.rest;
      form = p.form ∙ ap (λ (q : List Word). p.front ++ q ∷ p.rest) (c.form ∙ ap (λ (i : ℕ). c.first ∷ replicate i blank_word) z);
      place = ap index t.place ∙ d;
      worn = c.wear;
    }

-- a store all of whose pages are used or cleared has as many cleared ones as are not used
pub some_cleared : (edition k b n : ℕ) (os : List ℕ) (F : Pages) → Ordered edition k b os F → length F ≡ n
    → count (unclean b) (states (told edition F)) ≡ 0 → length os + count is_cleared (states (told edition F)) ≡ n
some_cleared edition k b n os F g lf c =
    let all = count_all b (states (told edition F)) in
    let us = count_used b (told edition F) in
    let os = ap length g.has_orders in
    let ls : length (states (told edition F)) ≡ n = length_states (told edition F) ∙ length-map F (page edition) ∙ lf in
    omega arith
