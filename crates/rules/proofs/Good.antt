-- A good store: the invariant behind the promise, and that it outlasts whatever befalls a page that is not used. Assumes nothing.
use Prim.Native.Nat.{ℕ, suc, ◌≤◌, ◌<◌}
use mathlib.Core.Path.{◌≡◌, sym, ap, ◌∙◌, subst}
use mathlib.Core.Bool.{false}
use mathlib.Core.List.{List, [], ◌∷◌, ◌++◌}
use mathlib.Core.Option.{Option}
use lib.ListN.{length, length-append}
use Rattle.rules.specs.Flash.{Step}
use Rattle.rules.specs.Word.{Word}
use Rattle.rules.specs.Page.{Form, word_count, wear_part, Page, page, state}
use Rattle.rules.specs.Store.{states, base, used, used_pages, oldest_first, journal, Setting, or_else, last_of, put_all, all_records}
use Rattle.rules.specs.Steps.{next_order}
use Rattle.rules.specs.Call.{repeats}
use Rattle.rules.proofs.Words.{Light}
use Rattle.rules.proofs.Pages.{AllLight, Fades, OfEdition, AllOfEdition}
use Rattle.rules.proofs.Slots.{Lawful, all_records_lawful}
use Rattle.rules.proofs.Stores.{orders, Under, fade_base, fade_pages}
use Rattle.rules.proofs.Phases.{Pages, Through, Turns}
use Rattle.rules.proofs.Cut.{AllLength}
use Rattle.rules.proofs.Told.{told, told_amid}
use Rattle.rules.proofs.Active.{Ordered, next_under}

-- What stays the same all through: the form of the pages, their number, how many addresses may be held,
-- whether power may fail, and whether no page is of another edition. A page takes all that may be held, and any group.
pub record Frame : Type 1 where
  pub form : Form
  pub pages : ℕ
  pub limit : ℕ
  pub May : Type 0
  pub One : Type 0
  pub two : 2 ≤ pages
  pub ten : 10 ≤ form.slot_count
  pub fits : limit ≤ form.slot_count

-- the slots of a page, and its words
abbrev pub slots_in : Frame → ℕ
slots_in c = c.form.slot_count

abbrev pub words_in : Frame → ℕ
words_in c = word_count c.form

-- what holds all through steps, and what turns at one of them
abbrev pub Throughout : (c : Frame) → (Pages → Type 0) → List Step → Pages → Type 0
Throughout c = Through (words_in c) c.May

abbrev pub Turning : (c : Frame) → (old new : Pages → Type 0) → List Step → Pages → Type 0
Turning c = Turns (words_in c) c.May

-- a page of that many words, all light if power may fail, and its wear word of no other edition, where that is so of all pages
abbrev pub Whole : Frame → List Word → Type 0
Whole c pg = (length pg ≡ words_in c) × (c.May → AllLight pg) × (c.One → OfEdition c.form.edition pg)

unfoldable pub AllWhole : Frame → Pages → Type 0
AllWhole c [] = Unit {0}
AllWhole c (pg ∷ F) = Whole c pg × AllWhole c F

-- A store keeps a journal: whole pages, with a base order, the orders of its used pages by index, and their records, oldest
-- first. Everything that a call answers by is one of these.
pub record Keeps (c : Frame) (b : ℕ) (os : List ℕ) (J : List Setting) (F : Pages) : Type 0 where
  pub whole : AllWhole c F
  pub count : length F ≡ c.pages
  pub is_base : base (states (told c.form.edition F)) ≡ b
  pub has_orders : orders (used_pages b (told c.form.edition F)) ≡ os
  pub has_journal : all_records (oldest_first (used_pages b (told c.form.edition F))) ≡ J

-- The invariant: no two used pages of one order, a page to spare, a page in use, and no more held than may be.
pub record Good (c : Frame) (J : List Setting) (F : Pages) : Type 0 where
  pub base_order : ℕ
  pub used_by : List ℕ
  pub keeps : Keeps c base_order used_by J F
  pub apart : repeats used_by ≡ false
  pub spare : length used_by < c.pages
  pub some : 0 < length used_by
  pub few : length (put_all [] J) ≤ c.limit

-- a good store in which each address has the value that t gives
pub record Has (c : Frame) (t : ℕ → Option ℕ) (F : Pages) : Type 0 where
  pub journal : List Setting
  pub good : Good c journal F
  pub values : (x : ℕ) → last_of x journal ≡ t x

-- the values with those settings in them
abbrev pub changed : List Setting → (ℕ → Option ℕ) → ℕ → Option ℕ
changed rs t x = or_else (last_of x rs) (t x)

-- ---- one page among others, one word among others

module _ (c : Frame) where
  pub whole_amid : (f : Pages) (pg : List Word) (r : Pages) → AllWhole c (f ++ pg ∷ r) → AllWhole c f × Whole c pg × AllWhole c r
  unfolding AllWhole
  whole_amid [] pg r h = (tt, h.0, h.1)
  whole_amid (x ∷ f) pg r h = let t = whole_amid f pg r h.1 in ((h.0, t.0), t.1, t.2)

  pub amid_whole : (f : Pages) (pg : List Word) (r : Pages) → AllWhole c f → Whole c pg → AllWhole c r → AllWhole c (f ++ pg ∷ r)
  unfolding AllWhole
  amid_whole [] pg r a b d = (b, d)
  amid_whole (x ∷ f) pg r a b d = (a.0, amid_whole f pg r a.1 b d)

  pub whole_long : (F : Pages) → AllWhole c F → AllLength (words_in c) F
  unfolding AllWhole AllLength
  whole_long [] h = tt
  whole_long (pg ∷ F) h = (h.0.0, whole_long F h.1)

  -- where power is steady, no word need be light
  pub long_whole : (c.May → ⊥) → (F : Pages) → (c.One → AllOfEdition c.form.edition F) → AllLength (words_in c) F → AllWhole c F
  unfolding AllWhole AllLength AllOfEdition
  long_whole steady [] one h = tt
  long_whole steady (pg ∷ F) one h = ((h.0, λ may. absurd (steady may), λ o. (one o).0), long_whole steady F (λ o. (one o).1) h.1)

  pub whole_editions : c.One → (F : Pages) → AllWhole c F → AllOfEdition c.form.edition F
  unfolding AllWhole AllOfEdition
  whole_editions one [] h = tt
  whole_editions one (pg ∷ F) h = (h.0.2 one, whole_editions one F h.1)

  -- a word behind the first takes the place of another
  pub whole_word : (x : Word) (xs : List Word) (u v : Word) (ys : List Word) → Whole c (x ∷ (xs ++ u ∷ ys)) → Light v → Whole c (x ∷ (xs ++ v ∷ ys))
  unfolding AllLight wear_part
  whole_word x xs u v ys w l = (
    ap suc (length-append xs (v ∷ ys) ∙ sym (length-append xs (u ∷ ys))) ∙ w.0,
    λ may. ((w.1 may).0, light_amid xs (w.1 may).1),
    w.2,
  )
    where
      light_amid : (xs : List Word) → AllLight (xs ++ u ∷ ys) → AllLight (xs ++ v ∷ ys)
      light_amid [] h = (l, h.1)
      light_amid (x ∷ xs) h = (h.0, light_amid xs h.1)

-- ---- one page takes the place of another

module _ (c : Frame) (b : ℕ) (os : List ℕ) (J : List Setting) (f : Pages) (pg : List Word) (r : Pages) (h : Keeps c b os J (f ++ pg ∷ r)) where
  -- what the pages say, with qg there
  abbrev pub told_with : List Word → List Page
  told_with qg = told c.form.edition f ++ page c.form.edition qg ∷ told c.form.edition r

  pub keeps_base : base (states (told_with pg)) ≡ b
  keeps_base = rw (told_amid c.form.edition f pg r) at h.is_base

  pub keeps_orders : orders (used_pages b (told_with pg)) ≡ os
  keeps_orders = rw (told_amid c.form.edition f pg r) at h.has_orders

  pub keeps_journal : all_records (oldest_first (used_pages b (told_with pg))) ≡ J
  keeps_journal = rw (told_amid c.form.edition f pg r) at h.has_journal

  pub keeps_with : (qg : List Word) → Whole c qg → {b' : ℕ} {os' : List ℕ} {J' : List Setting} → base (states (told_with qg)) ≡ b'
      → orders (used_pages b' (told_with qg)) ≡ os' → all_records (oldest_first (used_pages b' (told_with qg))) ≡ J' → Keeps c b' os' J' (f ++ qg ∷ r)
  keeps_with qg w {b'} {os'} {J'} eb eo ej =
      let t = whole_amid c f pg r h.whole in
      let e = told_amid c.form.edition f qg r in
      record {
        whole = amid_whole c f qg r t.0 w t.2;
        count = length-append f (qg ∷ r) ∙ sym (length-append f (pg ∷ r)) ∙ h.count;
        is_base = rw e eb;
        has_orders = rw e eo;
        has_journal = rw e ej;
      }

  -- a page that is not used fades, and the store keeps its journal
  pub keeps_fade : (qg : List Word) → used b (state c.form.edition pg) ≡ false → Fades (state c.form.edition pg) (state c.form.edition qg)
      → Whole c qg
      → Keeps c b os J (f ++ qg ∷ r)
  unfolding page
  keeps_fade qg u d w =
      let fp = told c.form.edition f in
      let rp = told c.form.edition r in
      let e = fade_pages fp (page c.form.edition pg) (page c.form.edition qg) rp b u d in
      keeps_with qg w (fade_base fp (page c.form.edition pg) (page c.form.edition qg) rp (rw keeps_base u) d ∙ keeps_base) (ap orders e ∙ keeps_orders)
      (ap (λ (ps : List Page). all_records (oldest_first ps)) e ∙ keeps_journal)

-- ---- what a good store is

module _ (c : Frame) (J : List Setting) (F : Pages) (g : Good c J F) where
  -- the same pages are used, with what journal they keep now
  pub good_still : (K : List Setting) → length (put_all [] K) ≤ c.limit → (G : Pages) → Keeps c g.base_order g.used_by K G → Good c K G
  good_still K few G h =
      record { base_order = g.base_order; used_by = g.used_by; keeps = h; apart = g.apart; spare = g.spare; some = g.some; few = few }

  pub good_ordered : Ordered c.form.edition (words_in c) g.base_order g.used_by F
  good_ordered =
      record { long = whole_long c F g.keeps.whole; is_base = g.keeps.is_base; has_orders = g.keeps.has_orders; apart = g.apart; some = g.some }

  -- the next order is above all in use
  pub good_under : Under (next_order (told c.form.edition F)) g.used_by
  unfolding next_order
  good_under = next_under c.form.edition (words_in c) g.base_order g.used_by F good_ordered

  pub journal_is : journal (told c.form.edition F) ≡ J
  unfolding journal
  journal_is = rw g.keeps.is_base g.keeps.has_journal

  pub journal_lawful : Lawful J
  journal_lawful = subst Lawful g.keeps.has_journal (all_records_lawful (oldest_first (used_pages g.base_order (told c.form.edition F))))
