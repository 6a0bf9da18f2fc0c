-- An image with a good store: what it says, that every accepted image has one, and what the steps of a recovery, of a write and of
-- a format leave of it. Assumes nothing.
use Prim.Native.Nat.{ℕ, suc, ◌*◌, ◌/◌, ◌%◌, ◌≤◌, ◌<◌}
use mathlib.Core.Path.{◌≡◌, refl, sym, ap, ◌∙◌, subst}
use mathlib.Core.Logic.{◌⊎◌, inl, inr, ⊎_elim}
use mathlib.Core.Bool.{true, false, not, ◌||◌}
use mathlib.Core.List.{List, [], ◌++◌}
use mathlib.Core.Option.{Option, none}
use native.Mathlib.Nat.{mul-div_cancel, mul-mod_left}
use native.Mathlib.Omega.{arith}
use lib.ListN.{length, length-map}
use lib.Dec.{eqb}
use borrow.Author.Tests.{eq-eqb, ne_eqb, le-ltb, eqb-true, eqb-false, not-false}
use Rattle.rules.specs.Flash.{Step, run}
use Rattle.rules.specs.Page.{Form, word_count, size, Chip, in_edition, Page, page}
use Rattle.rules.specs.Store.{states, base, used, is_open, used_orders, Setting, last_of, journal, settings, held, value, put_all, count}
use Rattle.rules.specs.Store.{open_group}
use Rattle.rules.specs.Steps.{unclean, Change, settings_of, format_steps, recovery_steps, write_steps}
use Rattle.rules.specs.Owner.{Owner}
use Rattle.rules.specs.Call.{Roomy, has_edition, form_of, held_limit, page_count, pages, cut, wrong_size, no_store, repeats, all_used, damaged}
use Rattle.rules.specs.Call.{is_unclean, store_number, write_number, OK}
use Rattle.rules.proofs.Truth.{or_false_left, or_false_right}
use Rattle.rules.proofs.Rows.{store_fails, store_passes, write_fails}
use Rattle.rules.proofs.Editions.{form_is, edition_had}
use Rattle.rules.proofs.Cut.{cut_length}
use Rattle.rules.proofs.Pages.{AllOfEdition}
use Rattle.rules.proofs.Slots.{addressed_lawful}
use Rattle.rules.proofs.Stores.{length_states, count_open, orders_used, count_used, count_all}
use Rattle.rules.proofs.Phases.{Pages, through_left, through_end, through_front, through_map, turns_left, turns_later, turns_end}
use Rattle.rules.proofs.Phases.{turns_either, store_run}
use Rattle.rules.proofs.Plans.{AllAllowed, BytesLeft, left_pages, run_pages, through_allowed}
use Rattle.rules.proofs.Told.{told}
use Rattle.rules.proofs.Building.{Doable}
use Rattle.rules.proofs.Renewing.{formatted, format_run, format_through}
use Rattle.rules.proofs.Ready.{Sizes, right_sizes, size_right, undamaged, ordered, orders_of, words_of, cut_cons}
use Rattle.rules.proofs.Held.{held_few, room_for}
use Rattle.rules.proofs.Good.{Frame, Throughout, Turning, Good, Has, changed, long_whole, whole_editions, journal_is}
use Rattle.rules.proofs.Recovering.{recovery_through, recovered_clean}
use Rattle.rules.proofs.Writing.{Accepted, write_turns}
use Rattle.rules.proofs.Formatting.{format_good}

-- ---- the table's rows 2 and 3, of pages

module _ (c : Frame) (J : List Setting) (F : Pages) (g : Good c J F) where
  abbrev ps : List Page
  ps = told c.form.edition F

  used_are : count (used (base (states ps))) (states ps) ≡ length g.used_by
  used_are = rw g.keeps.is_base (sym (count_used g.base_order ps) ∙ ap length g.keeps.has_orders)

  has_store : no_store ps ≡ false
  unfolding no_store
  has_store =
      ne_eqb (count is_open (states ps)) 0
      (λ z. let a = count_open (base (states ps)) (states ps) in let u = used_are in let s = g.some in omega arith)

  orders_apart : repeats (used_orders (base (states ps)) (states ps)) ≡ false
  orders_apart = rw g.keeps.is_base (rw (orders_used g.base_order ps ∙ g.keeps.has_orders) g.apart)

  not_all_used : all_used (states ps) ≡ false
  unfolding all_used
  not_all_used =
      let l : length (states ps) ≡ c.pages = length_states ps ∙ length-map F (page c.form.edition) ∙ g.keeps.count in
      ne_eqb (count (used (base (states ps))) (states ps)) (length (states ps)) (λ z. let u = used_are in let s = g.spare in omega arith)

-- ---- an image with a good store, in which each address has the value that t gives

abbrev pub frame : (fm : Form) → Roomy fm → (May One : Type 0) (n : ℕ) → 2 ≤ n → Frame
frame fm roomy May One n two = record { form = fm; pages = n; limit = held_limit; May = May; One = One; two = two; ten = omega arith; fits = omega arith }

-- an image of so many pages has these
pub sized_count : (fm : Form) (n : ℕ) (i : List ℕ) → length i ≡ n * size fm → page_count fm i ≡ n
unfolding page_count
sized_count fm n i l = ap (λ (m : ℕ). m / size fm) l ∙ mul-div_cancel n (omega arith)

sized_pages : (fm : Form) (n : ℕ) (i : List ℕ) → length i ≡ n * size fm → pages fm i ≡ told fm.edition (cut (size fm) n i)
unfolding pages
sized_pages fm n i l = rw (sized_count fm n i l) refl

pub record Healthy (fm : Form) (May One : Type 0) (t : ℕ → Option ℕ) (i : List ℕ) : Type 0 where
  pub roomy : Roomy fm
  pub count : ℕ
  pub sized : length i ≡ count * size fm
  pub least : 2 ≤ count
  pub most : count ≤ 32
  pub has : Has (frame fm roomy May One count least) t (cut (size fm) count i)

module _ {fm : Form} {May One : Type 0} {t : ℕ → Option ℕ} {i : List ℕ} (h : Healthy fm May One t i) where
  abbrev pub c : Frame
  c = frame fm h.roomy May One h.count h.least

  abbrev J : List Setting
  J = h.has.journal

  abbrev pub F : Pages
  F = cut (size fm) h.count i

  pub counted : page_count fm i ≡ h.count
  counted = sized_count fm h.count i h.sized

  pub pages_are : pages fm i ≡ told fm.edition F
  pages_are = sized_pages fm h.count i h.sized

  right_size : wrong_size fm i ≡ false
  unfolding wrong_size
  right_size =
      let e = h.sized in
      let d = counted in
      let l = h.least in
      let m = h.most in
      let z : length i % size fm ≡ 0 = ap (λ (n : ℕ). n % size fm) h.sized ∙ mul-mod_left h.count (size fm) in
      let p : 2 ≤ page_count fm i = omega arith in
      let q : page_count fm i ≤ 32 = omega arith in
      rw (eq-eqb (length i % size fm) 0 z, le-ltb (page_count fm i) 2 p, le-ltb 32 (page_count fm i) q)

  pub value_here : (x : ℕ) → value x (pages fm i) ≡ t x
  unfolding value
  value_here x = rw pages_are (ap (last_of x) (journal_is c J F h.has.good) ∙ h.has.values x)

  held_here : held (pages fm i) ≡ length (put_all [] J)
  unfolding held settings
  held_here = rw pages_are (ap (λ (j : List Setting). length (put_all [] j)) (journal_is c J F h.has.good))

  pub few_here : held (pages fm i) ≤ held_limit
  few_here = rw held_here h.has.good.few

  pub apart_here : repeats (used_orders (base (states (pages fm i))) (states (pages fm i))) ≡ false
  apart_here = rw pages_are (orders_apart c J F h.has.good)

  pub spare_here : all_used (states (pages fm i)) ≡ false
  spare_here = rw pages_are (not_all_used c J F h.has.good)

  -- a recovery is accepted
  pub store_ok : store_number fm i ≡ OK
  unfolding damaged
  store_ok =
      store_passes fm i right_size (rw pages_are (has_store c J F h.has.good))
      (rw (apart_here, spare_here, le-ltb held_limit (held (pages fm i)) few_here))

  -- ---- what the steps of a recovery and of a write leave

  image_of : {u : ℕ → Option ℕ} {j : List ℕ} → length j ≡ h.count * size fm → Has c u (cut (size fm) h.count j) → Healthy fm May One u j
  image_of l p = record { roomy = h.roomy; count = h.count; sized = l; least = h.least; most = h.most; has = p }

  abbrev recovery : List Step
  recovery = recovery_steps fm.edition (pages fm i)

  recovering : Throughout c (Has c t) recovery F
  recovering =
      rw pages_are (through_map (λ G g. record { journal = J; good = g; values = h.has.values }) (recovery_through c J F h.has.good))

  pub recovery_left : {m : ℕ} {j : List ℕ} → May → BytesLeft (size fm) m recovery i j → Healthy fm May One t j
  recovery_left may l = let y = left_pages (word_count fm) h.count recovering h.sized l in image_of y.1 (through_left may recovering y.0)

  pub recovery_allowed : AllAllowed (size fm) recovery i
  recovery_allowed = through_allowed (word_count fm) h.count recovery i recovering h.sized

  pub recovery_run : Healthy fm May One t (run (size fm) recovery i)
  recovery_run =
      let y = run_pages (word_count fm) h.count recovery i recovering h.sized in
      image_of y.1 (subst (Has c t) (sym y.0) (through_end recovering))

  module _ (o : Owner) (ch : Change) (ok : write_number fm o ch i ≡ OK) where
    abbrev write : List Step
    write = write_steps fm.edition ch (pages fm i)

    table_is : settings (pages fm i) ≡ put_all [] J
    unfolding settings
    table_is = rw pages_are (ap (put_all []) (journal_is c J F h.has.good))

    pub accepted_here : Accepted c ch t F
    unfolding is_unclean
    accepted_here =
        let fails = write_fails fm i o ch ok in
        let ps = told fm.edition F in
        let rs = settings_of ch in
        let clean : (not (eqb (count (unclean (base (states ps))) (states ps)) 0) || open_group ps) ≡ false = rw pages_are at fails.clean in
        let d = or_false_left (not (eqb (count (unclean (base (states ps))) (states ps)) 0)) _ clean in
        let z : count (unclean (base (states ps))) (states ps) ≡ 0 = eqb-true _ 0 (not-false _ d) in
        record {
          has = h.has;
          clean = rw h.has.good.keeps.is_base at z;
          ended = or_false_right (not (eqb (count (unclean (base (states ps))) (states ps)) 0)) _ clean;
          grouped = fails.grouped;
          addressed = addressed_lawful rs fails.addressed;
          room = λ s. rw table_is at (room_for rs (pages fm i) (fails.room (rw pages_are s)));
        }

    turning : Turning c (Has c t) (Has c (changed (settings_of ch) t)) write F
    turning = rw pages_are (write_turns c ch t F accepted_here)

    pub write_allowed : AllAllowed (size fm) write i
    write_allowed = through_allowed (word_count fm) h.count write i (turns_either turning) h.sized

    pub write_left : {m : ℕ} {j : List ℕ} → May → BytesLeft (size fm) m write i j → Healthy fm May One t j ⊎ Healthy fm May One (changed (settings_of ch) t) j
    write_left may l =
        let y = left_pages (word_count fm) h.count (turns_either turning) h.sized l in
        ⊎_elim (λ p. inl (image_of y.1 p)) (λ p. inr (image_of y.1 p)) (turns_left may turning y.0)

    -- of two failures the earlier leaves the old values, or the later the new
    pub write_later : {m n : ℕ} {j l : List ℕ} → May → BytesLeft (size fm) m write i j → BytesLeft (size fm) n write i l → m < n
        → Healthy fm May One t j ⊎ Healthy fm May One (changed (settings_of ch) t) l
    write_later may x y lt =
        let p = left_pages (word_count fm) h.count (turns_either turning) h.sized x in
        let q = left_pages (word_count fm) h.count (turns_either turning) h.sized y in
        ⊎_elim (λ o. inl (image_of p.1 o)) (λ o. inr (image_of q.1 o)) (turns_later may turning p.0 q.0 lt)

    pub write_run : Healthy fm May One (changed (settings_of ch) t) (run (size fm) write i)
    write_run =
        let y = run_pages (word_count fm) h.count write i (turns_either turning) h.sized in
        image_of y.1 (subst (Has c (changed (settings_of ch) t)) (sym y.0) (turns_end turning))

    -- a finished write does to the pages what it does to the image
    pub write_pages : pages fm (run (size fm) write i) ≡ told fm.edition (store_run (word_count fm) (write_steps fm.edition ch (told fm.edition F)) F)
    write_pages =
        let y = run_pages (word_count fm) h.count write i (turns_either turning) h.sized in
        sized_pages fm h.count (run (size fm) write i) y.1
        ∙ ap (told fm.edition) (y.0 ∙ ap (λ (ps : List Page). store_run (word_count fm) (write_steps fm.edition ch ps) F) pages_are)

    pub write_count : page_count fm (run (size fm) write i) ≡ page_count fm i
    write_count =
        let y = run_pages (word_count fm) h.count write i (turns_either turning) h.sized in
        sized_count fm h.count (run (size fm) write i) y.1 ∙ sym counted

-- a store of one edition, which the chip has, is read by it
pub form_told : (chip : Chip) (e : ℕ) → has_edition chip e ≡ true → {i : List ℕ} {May : Type 0} {t : ℕ → Option ℕ}
    → Healthy (in_edition chip e) May (Unit {0}) t i → form_of chip i ≡ in_edition chip e
form_told chip e has {i} h =
    let fm = in_edition chip e in
    form_is chip e has i
    (subst (λ (n : ℕ). AllOfEdition e (cut (size fm) n i)) (sym (counted h)) (whole_editions (c h) tt (F h) h.has.good.keeps.whole))
    (store_fails fm i (store_ok h)).1

-- whatever image it came from
pub form_kept : (chip : Chip) → chip.first ≤ chip.last → (i : List ℕ) {j : List ℕ} {May : Type 0} {t : ℕ → Option ℕ}
    → Healthy (form_of chip i) May (Unit {0}) t j → form_of chip j ≡ form_of chip i
unfolding form_of
form_kept chip l i h = form_told chip (form_of chip i).edition (edition_had chip l _) h

-- a finished recovery leaves no page unclean, and no group open
pub recovery_cleans : {fm : Form} {May One : Type 0} {t : ℕ → Option ℕ} {i : List ℕ} → Healthy fm May One t i
    → is_unclean (pages fm (run (size fm) (recovery_steps fm.edition (pages fm i)) i)) ≡ false
unfolding recovery_run image_of
recovery_cleans {fm = fm} {i = i} h =
    let y = run_pages (word_count fm) h.count (recovery h) i (recovering h) h.sized in
    let e = pages_are (recovery_run h)
    ∙ ap (told fm.edition) (y.0 ∙ ap (λ (ps : List Page). store_run (word_count fm) (recovery_steps fm.edition ps) (F h)) (pages_are h)) in
    rw e (recovered_clean (c h) (J h) (F h) h.has.good)

-- the first steps of a recovery do to the pages what they do to the image
part_pages : {fm : Form} {May One : Type 0} {t : ℕ → Option ℕ} {i : List ℕ} (h : Healthy fm May One t i) (xs ys : List Step)
    → recovery_steps fm.edition (pages fm i) ≡ xs ++ ys
    → pages fm (run (size fm) xs i) ≡ told fm.edition (store_run (word_count fm) xs (cut (size fm) (page_count fm i) i))
part_pages {fm = fm} {t = t} {i = i} h xs ys e =
    let front = through_front xs ys (subst (λ (ss : List Step). Throughout (c h) (Has (c h) t) ss (F h)) e (recovering h)) in
    let y = run_pages (word_count fm) h.count xs i front h.sized in
    sized_pages fm h.count (run (size fm) xs i) y.1
    ∙ ap (told fm.edition) (y.0 ∙ ap (λ (n : ℕ). store_run (word_count fm) xs (cut (size fm) n i)) (sym (counted h)))

-- ---- every accepted image has a good store, where power is steady

module _ (fm : Form) (roomy : Roomy fm) (One : Type 0) (i : List ℕ) (ok : store_number fm i ≡ OK) where
  abbrev accepted_sizes : Sizes fm i
  accepted_sizes = right_sizes fm i (size_right fm i ok)

  abbrev pub accepted_frame : Frame
  accepted_frame = frame fm roomy ⊥ One (page_count fm i) accepted_sizes.least

  module _ (one : One → AllOfEdition fm.edition (cut (size fm) (page_count fm i) i)) where
    pub accepted_good : Good accepted_frame (journal (pages fm i)) (cut (size fm) (page_count fm i) i)
    unfolding pages damaged all_used journal settings
    accepted_good =
        let o = ordered fm i ok in
        let ps = pages fm i in
        let long = cut_length (size fm) (page_count fm i) i in
        let rest = or_false_right (repeats (used_orders (base (states ps)) (states ps))) _ (undamaged fm i ok) in
        let some_not : count (used (base (states ps))) (states ps) ≡ length (states ps) → ⊥ =
        eqb-false (count (used (base (states ps))) (states ps)) (length (states ps)) (or_false_left (all_used (states ps)) _ rest) in
        let all = count_all (base (states ps)) (states ps) in
        let counted = count_used (base (states ps)) ps in
        let many = length_states ps ∙ length-map (words_of fm i ok) (page fm.edition) ∙ long in
        record {
          base_order = base (states ps);
          used_by = orders_of fm i ok;
          apart = o.apart;
          some = o.some;
          few = held_few fm i ok;
          spare = omega arith;
          keeps = record {
            whole = long_whole accepted_frame (λ z. z) (words_of fm i ok) one o.long;
            count = long;
            is_base = refl;
            has_orders = refl;
            has_journal = refl;
          };
        }

    pub accepted_healthy : Healthy fm ⊥ One (λ x. value x (pages fm i)) i
    unfolding value
    accepted_healthy =
        record {
          roomy = roomy;
          count = page_count fm i;
          sized = accepted_sizes.sized;
          least = accepted_sizes.least;
          most = accepted_sizes.most;
          has = record { journal = journal (pages fm i); values = λ x. refl; good = accepted_good };
        }

pub recovery_part : (fm : Form) → Roomy fm → (i : List ℕ) → store_number fm i ≡ OK → (xs ys : List Step)
    → recovery_steps fm.edition (pages fm i) ≡ xs ++ ys
    → pages fm (run (size fm) xs i) ≡ told fm.edition (store_run (word_count fm) xs (cut (size fm) (page_count fm i) i))
recovery_part fm roomy i ok = part_pages (accepted_healthy fm roomy ⊥ i ok (λ z. absurd z))

-- ---- a finished format

module _ (fm : Form) (i : List ℕ) (right : wrong_size fm i ≡ false) where
  -- the image that it leaves
  abbrev formatted_image : List ℕ
  formatted_image = run (size fm) (format_steps fm.edition (page_count fm i)) i

  -- the pages that it leaves: the first, and so many others
  record Laid : Type 0 where
    others : ℕ
    many : page_count fm i ≡ suc others
    sized : length formatted_image ≡ page_count fm i * size fm
    laid : cut (size fm) (page_count fm i) formatted_image ≡ formatted fm.edition fm.slot_count others

  format_laid : Laid
  format_laid =
      let s = right_sizes fm i right in
      let least = s.least in
      let n = page_count fm i in
      let p = cut_cons (size fm) n i (omega arith) in
      let r = p.1 in
      let steps = format_steps fm.edition (suc (length r)) in
      let doable = subst (Doable (word_count fm) steps) (sym p.2) (format_through fm.edition fm.slot_count p.0 r) in
      let y = run_pages (word_count fm) n steps i doable s.sized in
      let same = ap (λ (m : ℕ). run (size fm) (format_steps fm.edition m) i) p.3 in
      record {
        others = length r;
        many = p.3;
        sized = ap length same ∙ y.1;
        laid = ap (cut (size fm) n) same ∙ y.0 ∙ ap (store_run (word_count fm) steps) p.2 ∙ format_run fm.edition fm.slot_count p.0 r;
      }

  pub format_pages : (m : ℕ) × (page_count fm formatted_image ≡ suc m)
      × (pages fm formatted_image ≡ told fm.edition (formatted fm.edition fm.slot_count m))
  format_pages =
      let l = format_laid in (
        l.others,
        sized_count fm (page_count fm i) formatted_image l.sized ∙ l.many,
        sized_pages fm (page_count fm i) formatted_image l.sized ∙ ap (told fm.edition) l.laid,
      )

  pub format_healthy : Roomy fm → Healthy fm (Unit {0}) (Unit {0}) (λ x. none) formatted_image
  unfolding last_of
  format_healthy roomy =
      let s = right_sizes fm i right in
      let l = format_laid in
      let c = frame fm roomy (Unit {0}) (Unit {0}) (page_count fm i) s.least in
      record {
        roomy = roomy;
        count = page_count fm i;
        sized = l.sized;
        least = s.least;
        most = s.most;
        has = record { journal = []; good = subst (Good c []) (sym l.laid) (format_good c l.others (sym l.many)); values = λ x. refl };
      }
