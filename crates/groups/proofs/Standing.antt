-- Laws of where slots stand. Assumes nothing.
use Prim.Native.Nat.{ℕ, ◌+◌, ◌-◌, ◌*◌, ◌≤◌}
use mathlib.Core.Path.{◌≡◌, refl, sym, ap, ◌∙◌}
use mathlib.Core.Bool.{true, false, ◌&&◌}
use mathlib.Core.List.{List, [], ◌∷◌, ◌++◌, map, map-append}
use native.Mathlib.Omega.{arith}
use lib.ListN.{length, take, drop, length-append, length-map, length-drop, drop_of_length-le}
use lib.Seq.{length-take-le, drop-append-le}
use lib.Dec.{eqb}
use types.Run.{OneOf, miss}
use denote.Enum.Declared.{tag_of}
use borrow.Author.Tests.{eqb-true, eq-eqb}
use Rattle.rules.proofs.Slots.{neither_counts, place_append}
use Rattle.rules.specs.Word.{Word, words, low16, third, recorded, opens, closes, neither, slot, Condition, Blank}
use Rattle.rules.specs.Word.{HalfWritten, Spoiled}
use Rattle.rules.specs.Store.{Setting, setting, Place, outside, inside, lost, behind, rightly_closed, closed, counted, place_behind, in_group}
use Rattle.rules.proofs.Truth.{by_cases, and_left, and_right}
use Rattle.words.specs.contracts.Slot.{the_type}
use Rattle.words.specs.declared.Slot.{Slot as Answer}
use Rattle.words.specs.declared.Slot.TheVariants as code
use Rattle.words.specs.Read.{as_slot, word_in}
use Rattle.words.proofs.Parts.{length_words, next_word}
use Rattle.groups.specs.contracts.Place.{the_type as place_type}
use Rattle.groups.specs.declared.Place.{Place as Code}
use Rattle.groups.specs.declared.Place.TheVariants.{Outside, Inside, Lost}
use Rattle.groups.specs.Stands.{as_records, Stands, is_closed}

-- ---- records, one after the other

pub records_more : (from : ℕ) (xs : List Word) (w : Word) → from ≤ length xs
    → as_records (drop from (xs ++ w ∷ [])) ≡ as_records (drop from xs) ++ setting (low16 w) (third w) ∷ []
records_more from xs w l = ap as_records (drop-append-le from xs (w ∷ []) l) ∙ map-append _ (drop from xs) (w ∷ [])

-- ---- where it stands

-- the code's place is of the kind of the rules'; callers prove by cases with it
pub by_kind : (P : Place → Code → Type 0) (at : Place) (xs : List Word) (p : Code) → Stands at xs p
    → P outside Outside
    → ((n : ℕ) (rs : List Setting) (number first : ℕ) → (number ≡ n) × (first ≤ length xs) × (as_records (drop first xs) ≡ rs)
    → P (inside n rs) (Inside number first))
    → P lost Lost
    → P at p
unfolding Stands
by_kind P outside xs Outside h at_outside at_inside at_lost = at_outside
by_kind P outside xs (Inside m f) h at_outside at_inside at_lost = absurd h
by_kind P outside xs Lost h at_outside at_inside at_lost = absurd h
by_kind P (inside n rs) xs Outside h at_outside at_inside at_lost = absurd h
by_kind P (inside n rs) xs (Inside m f) h at_outside at_inside at_lost = at_inside n rs m f h
by_kind P (inside n rs) xs Lost h at_outside at_inside at_lost = absurd h
by_kind P lost xs Outside h at_outside at_inside at_lost = absurd h
by_kind P lost xs (Inside m f) h at_outside at_inside at_lost = absurd h
by_kind P lost xs Lost h at_outside at_inside at_lost = at_lost

-- in a group a slot that is no record and closes nothing loses it
loses : (w : Word) (s : Answer) → (s ≡ code.Record → ⊥) → ((n : ℕ) → s ≡ code.Closes n → ⊥)
    → ((n : ℕ) (rs : List Setting) → behind (inside n rs) (as_slot w s) ≡ lost) × (behind lost (as_slot w s) ≡ lost)
unfolding behind
loses w code.Record r c = absurd (r refl)
loses w (code.Opens n) r c = (λ m rs. refl, refl)
loses w (code.Closes n) r c = absurd (c n refl)
loses w code.Blank r c = (λ m rs. refl, refl)
loses w code.HalfWritten r c = (λ m rs. refl, refl)
loses w code.Spoiled r c = (λ m rs. refl, refl)

-- and a slot counts for nothing that is no record and closes nothing
pub nothing_counts : (at : Place) (w : Word) (s : Answer) → (s ≡ code.Record → ⊥) → ((n : ℕ) → s ≡ code.Closes n → ⊥)
    → counted at (as_slot w s) ≡ []
unfolding counted
nothing_counts at w code.Record r c = absurd (r refl)
nothing_counts outside w (code.Opens n) r c = refl
nothing_counts (inside m rs) w (code.Opens n) r c = refl
nothing_counts lost w (code.Opens n) r c = refl
nothing_counts at w (code.Closes n) r c = absurd (c n refl)
nothing_counts at w code.Blank r c = neither_counts at Blank
nothing_counts at w code.HalfWritten r c = neither_counts at HalfWritten
nothing_counts at w code.Spoiled r c = neither_counts at Spoiled

pub neither_told : (w : Word) (s : Answer) → OneOf (3 ∷ 4 ∷ 5 ∷ []) (tag_of the_type s) → (c : Condition) × (as_slot w s ≡ neither c)
neither_told w code.Record o = absurd (miss (3 ∷ 4 ∷ 5 ∷ []) 0 tt o)
neither_told w (code.Opens n) o = absurd (miss (3 ∷ 4 ∷ 5 ∷ []) 1 tt o)
neither_told w (code.Closes n) o = absurd (miss (3 ∷ 4 ∷ 5 ∷ []) 2 tt o)
neither_told w code.Blank o = (Blank, refl)
neither_told w code.HalfWritten o = (HalfWritten, refl)
neither_told w code.Spoiled o = (Spoiled, refl)

module _ (at : Place) (xs : List Word) (p : Code) (h : Stands at xs p) where
  -- outside a group
  module _ (is : p ≡ Outside) where
    pub is_outside : at ≡ outside
    is_outside =
        by_kind (λ at p. p ≡ Outside → at ≡ outside) at xs p h (λ _. refl) (λ n rs number first g e. absurd cc) (λ e. absurd cc) is

    pub outside_counts : (a v : ℕ) → counted at (recorded a v) ≡ setting a v ∷ []
    unfolding counted
    outside_counts a v = rw is_outside refl

    pub not_open : in_group at ≡ false
    unfolding in_group
    not_open = rw is_outside refl

  -- in a group
  module _ (is : p ≡ Outside → ⊥) where
    pub inside_counts : (a v : ℕ) → counted at (recorded a v) ≡ []
    unfolding counted
    inside_counts a v =
        by_kind (λ at p. (p ≡ Outside → ⊥) → counted at (recorded a v) ≡ []) at xs p h
        (λ k. absurd (k refl)) (λ n rs number first g k. refl) (λ k. refl) is

    pub is_open : in_group at ≡ true
    unfolding in_group
    is_open =
        by_kind (λ at p. (p ≡ Outside → ⊥) → in_group at ≡ true) at xs p h
        (λ k. absurd (k refl)) (λ n rs number first g k. refl) (λ k. refl) is

  -- ---- one slot more

  module _ (w : Word) where
    abbrev ys : List Word
    ys = xs ++ w ∷ []

    pub record_behind : Stands (behind at (recorded (low16 w) (third w))) ys p
    unfolding Stands behind
    record_behind =
        by_kind (λ at p. Stands (behind at (recorded (low16 w) (third w))) ys p) at xs p h tt
        (λ n rs number first g. (
          g.0,
          omega (arith, g.1, length-append xs (w ∷ [])),
          records_more first xs w g.1 ∙ ap (λ (ts : List Setting). ts ++ setting (low16 w) (third w) ∷ []) g.2,
        ))
        tt

    pub closes_behind : (n : ℕ) → Stands (behind at (closes n)) ys Outside
    unfolding Stands behind
    closes_behind n = by_kind (λ at _. Stands (behind at (closes n)) ys Outside) at xs p h tt (λ n rs number first g. tt) tt

    pub opens_behind : p ≡ Outside → (n next : ℕ) → length xs + 1 ≡ next → Stands (behind at (opens n)) ys (Inside n next)
    unfolding Stands behind
    opens_behind is n next e =
        let l : length ys ≡ next = omega (arith, length-append xs (w ∷ [])) in
        rw (is_outside is) (refl, omega arith, ap as_records (drop_of_length-le ys {i = next} (omega arith)))

    pub neither_behind : p ≡ Outside → (c : Condition) → Stands (behind at (neither c)) ys Outside
    unfolding Stands behind
    neither_behind is c = rw (is_outside is) tt

    pub lost_behind : (p ≡ Outside → ⊥) → (s : Answer) → (s ≡ code.Record → ⊥) → ((n : ℕ) → s ≡ code.Closes n → ⊥)
        → Stands (behind at (as_slot w s)) ys Lost
    unfolding Stands
    lost_behind is s no_record no_close =
        let l = loses w s no_record no_close in
        by_kind (λ at p. (p ≡ Outside → ⊥) → Stands (behind at (as_slot w s)) ys Lost) at xs p h
        (λ k. absurd (k refl)) (λ n rs number first g k. rw (l.0 n rs) tt) (λ k. rw l.1 tt) is

-- ---- whether a mark in slot k closes a group by the number n

-- by one that does not nothing counts
pub unclosed_counts : (at : Place) (n : ℕ) → is_closed at n ≡ false → counted at (closes n) ≡ []
unfolding is_closed counted closed
unclosed_counts outside n h = refl
unclosed_counts (inside m rs) n h = rw h refl
unclosed_counts lost n h = refl

module _ (at : Place) (xs : List Word) (p : Code) (h : Stands at xs p) (n : ℕ) where
  pub no_group_closed : OneOf (0 ∷ 2 ∷ []) (tag_of place_type p) → is_closed at n ≡ false
  unfolding is_closed
  no_group_closed o =
      by_kind (λ at p. OneOf (0 ∷ 2 ∷ []) (tag_of place_type p) → is_closed at n ≡ false) at xs p h
      (λ o. refl) (λ m rs number first g o. absurd (miss (0 ∷ 2 ∷ []) 1 tt o)) (λ o. refl) o

  module _ (number first k : ℕ) (is : p ≡ Inside number first) (l : length xs ≡ k) where
    of_group : (at : Place) → Stands at xs (Inside number first)
        → (rs : List Setting) × (at ≡ inside number rs) × (first ≤ k) × (as_records (drop first xs) ≡ rs) × (length rs ≡ k - first)
    unfolding Stands
    of_group outside g = absurd g
    of_group (inside m rs) g = (
      rs,
      ap (λ m. inside m rs) (sym g.0),
      omega (arith, g.1),
      g.2,
      omega (arith, ap length g.2, length-map (drop first xs) (λ (w : Word). setting (low16 w) (third w)), length-drop first xs),
    )
    of_group lost g = absurd g

    pub closes_rightly : number ≡ n → k - first ≡ n → (is_closed at n ≡ true) × (first ≤ k) × (counted at (closes n) ≡ as_records (drop first xs))
    unfolding is_closed counted closed
    closes_rightly same size =
        let g = of_group at (rw is at h) in
        let test : rightly_closed number n g.0 ≡ true = rw (g.4, size, eq-eqb n number (sym same)) refl in
        rw g.1 (test, g.2, rw test (sym g.3))

    pub closes_wrongly : (number ≡ n → k - first ≡ n → ⊥) → is_closed at n ≡ false
    unfolding is_closed
    closes_wrongly differs =
        let g = of_group at (rw is at h) in
        rw (g.1, g.4) (by_cases (eqb n number && eqb (k - first) number)
        (λ t.
        let same = eqb-true n number (and_left (eqb n number) _ t) in
        let size = eqb-true (k - first) number (and_right (eqb n number) _ t) in
        absurd (differs (sym same) (size ∙ sym same)))
        (λ t. t))

-- ---- the slots of a list of bytes

pub taken_many : (s : List ℕ) (k : ℕ) → 4 * k ≤ length s → length (take k (words s)) ≡ k
taken_many s k l = length-take-le k (words s) (omega (arith, length_words s))

-- where slot k stands
abbrev pub place_at : (edition : ℕ) → List ℕ → ℕ → Place
place_at e s k = place_behind outside (map (slot e) (take k (words s)))

module _ (e : ℕ) (s : List ℕ) (k : ℕ) (l : 4 * k + 4 ≤ length s) where
  abbrev w : Word
  w = word_in s (4 * k)

  pub next_slots : map (slot e) (take (k + 1) (words s)) ≡ map (slot e) (take k (words s)) ++ slot e w ∷ []
  next_slots = ap (map (slot e)) (next_word s k l) ∙ map-append (slot e) (take k (words s)) (w ∷ [])

  pub next_place : place_at e s (k + 1) ≡ behind (place_at e s k) (slot e w)
  unfolding place_behind
  next_place = ap (place_behind outside) next_slots ∙ place_append outside (map (slot e) (take k (words s))) (slot e w ∷ [])
