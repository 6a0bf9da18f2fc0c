-- Laws of slots: the free slot, and which records count. Assumes nothing.
use Prim.Native.Nat.{ℕ, zero, suc}
use mathlib.Core.Path.{◌≡◌, refl, sym, ap, ap₂, ◌∙◌}
use mathlib.Core.Bool.{Bool, true, false, cond, ◌&&◌}
use mathlib.Core.List.{List, [], ◌∷◌, ◌++◌, map, map-append, append-nil, append_assoc}
use native.Mathlib.Omega.{arith}
use lib.ListN.{length, replicate}
use lib.Dec.{eqb, leb}
use borrow.Author.Tests.{eqb-true, eqb-false, leb-false}
use Rattle.rules.specs.Word.{Word, sound, blank, Condition, condition, Slot, recorded, opens, closes, neither, slot}
use Rattle.rules.specs.Page.{blank_word, Page, all_blank}
use Rattle.rules.specs.Store.{Setting, setting, Place, outside, inside, lost, behind, closed, counted, scan, place_behind, records, in_group}
use Rattle.rules.specs.Store.{each, all_records, put, put_all, past, free_slot}
use Rattle.rules.specs.Steps.{record_of, but, but_all}
use Rattle.rules.specs.Call.{wrong_address, a_wrong_address}
use Rattle.rules.proofs.Truth.{and_left, and_right, by_cases, or_false_left, or_false_right}
use Rattle.rules.proofs.Conditions.{unsound_told, record_told, Addressed, slot_addressed}
use Rattle.rules.proofs.Words.{blank_is, blank_not_sound}
use Rattle.rules.proofs.Settings.{put_cases, but_cases}

-- ---- the free slot

free_none : (ws : List Word) → free_slot ws ≡ 0 → all_blank ws ≡ true
unfolding free_slot all_blank past
free_none [] h = refl
free_none (w ∷ ws) h =
    by_cases (blank w)
    (λ b.
    let h' : past true (free_slot ws) ≡ 0 = rw b at h in
    rw b (free_none ws (past_zero (free_slot ws) h')))
    (λ b. let h' : suc (free_slot ws) ≡ 0 = rw b at h in absurd (omega arith))
  where
    past_zero : (n : ℕ) → past true n ≡ 0 → n ≡ 0
    past_zero zero e = refl
    past_zero (suc n) e = absurd (omega arith)

-- so many slots before the free one, and all behind them are blank
pub record FreeAt (ws : List Word) : Type 0 where
  pub front : List Word
  pub rest : ℕ
  pub form : ws ≡ front ++ replicate rest blank_word
  pub place : length front ≡ free_slot ws

free_later : (w : Word) (ws : List Word) → free_slot (w ∷ ws) ≡ suc (free_slot ws) → FreeAt ws → FreeAt (w ∷ ws)
free_later w ws e t =
    record { front = w ∷ t.front; rest = t.rest; form = ap (λ (vs : List Word). w ∷ vs) t.form; place = ap suc t.place ∙ sym e }

-- blank words are all the same
pub blanks_are : (ws : List Word) → all_blank ws ≡ true → ws ≡ replicate (length ws) blank_word
unfolding all_blank
blanks_are [] h = refl
blanks_are (w ∷ ws) h = ap₂ (λ (v : Word) (vs : List Word). v ∷ vs) (blank_is w (and_left (blank w) _ h)) (blanks_are ws (and_right (blank w) _ h))

free_here : (w : Word) (ws : List Word) → free_slot (w ∷ ws) ≡ 0 → blank w ≡ true → free_slot ws ≡ 0 → FreeAt (w ∷ ws)
free_here w ws e b z =
    let all = free_none ws z in
    record {
      front = [];
      rest = suc (length ws);
      form = ap₂ (λ (v : Word) (vs : List Word). v ∷ vs) (blank_is w b) (blanks_are ws all);
      place = sym e;
    }

-- how far past the first slot the free one is
free_cases : {A : Type 0} (w : Word) (ws : List Word) → (free_slot (w ∷ ws) ≡ 0 → blank w ≡ true → free_slot ws ≡ 0 → A)
    → (free_slot (w ∷ ws) ≡ suc (free_slot ws) → A) → A
unfolding free_slot past
free_cases w ws here later =
    by_cases (blank w) (λ b. by_cases (eqb (free_slot ws) 0) (λ z. let e = eqb-true (free_slot ws) 0 z in here (rw (b, e)) b e)
    (λ z. later (rw b (past_suc (free_slot ws) (eqb-false (free_slot ws) 0 z)))))
    (λ b. later (rw b))
  where
    past_suc : (n : ℕ) → (n ≡ 0 → ⊥) → past true n ≡ suc n
    past_suc zero h = absurd (h refl)
    past_suc (suc n) h = refl

pub free_at : (ws : List Word) → FreeAt ws
unfolding free_slot
free_at [] = record { front = []; rest = 0; form = refl; place = refl }
free_at (w ∷ ws) = free_cases w ws (λ e b z. free_here w ws e b z) (λ e. free_later w ws e (free_at ws))

-- ---- the records that count, of slots in two parts

pub scan_append : (at : Place) (xs ys : List Slot) → scan at (xs ++ ys) ≡ scan at xs ++ scan (place_behind at xs) ys
unfolding scan place_behind
scan_append at [] ys = refl
scan_append at (s ∷ xs) ys =
    rw (scan_append (behind at s) xs ys) (sym (append_assoc (counted at s) (scan (behind at s) xs) (scan (place_behind (behind at s) xs) ys)))

pub place_append : (at : Place) (xs ys : List Slot) → place_behind at (xs ++ ys) ≡ place_behind (place_behind at xs) ys
unfolding place_behind
place_append at [] ys = refl
place_append at (s ∷ xs) ys = place_append (behind at s) xs ys

-- what is neither a record nor a mark counts nowhere
pub neither_counts : (at : Place) (c : Condition) → counted at (neither c) ≡ []
unfolding counted
neither_counts outside c = refl
neither_counts (inside n rs) c = refl
neither_counts lost c = refl

-- words that are not sound
unfoldable pub AllUnsound : List Word → Type 0
AllUnsound [] = Unit {0}
AllUnsound (w ∷ ws) = (sound w ≡ false) × AllUnsound ws

pub blanks_unsound : (n : ℕ) → AllUnsound (replicate n blank_word)
unfolding AllUnsound
blanks_unsound zero = tt
blanks_unsound (suc n) = (blank_not_sound, blanks_unsound n)

module _ (edition : ℕ) where
  -- the slots that words are
  abbrev pub as_slots : List Word → List Slot
  as_slots ws = map (slot edition) ws

  pub records_append : (xs ys : List Word) → records edition (xs ++ ys) ≡ records edition xs ++ scan (place_behind outside (as_slots xs)) (as_slots ys)
  unfolding records
  records_append xs ys = ap (scan outside) (map-append (slot edition) xs ys) ∙ scan_append outside (as_slots xs) (as_slots ys)

  -- what is not sound counts nowhere
  pub unsound_silent : (at : Place) (ws : List Word) → AllUnsound ws → scan at (as_slots ws) ≡ []
  unfolding AllUnsound scan
  unsound_silent at [] h = refl
  unsound_silent at (w ∷ ws) h =
      let none : counted at (slot edition w) ≡ [] = rw (← unsound_told edition w h.0) (neither_counts at (condition w)) in
      rw (none, unsound_silent (behind at (slot edition w)) ws h.1)

  -- and neither begins a group nor ends one
  stays : (at : Place) (w : Word) → sound w ≡ false → in_group (behind at (slot edition w)) ≡ in_group at
  unfolding behind in_group
  stays outside w s = rw (← unsound_told edition w s)
  stays (inside n rs) w s = rw (← unsound_told edition w s)
  stays lost w s = rw (← unsound_told edition w s)

  pub unsound_stays : (at : Place) (ws : List Word) → AllUnsound ws → in_group (place_behind at (as_slots ws)) ≡ in_group at
  unfolding AllUnsound place_behind
  unsound_stays at [] h = refl
  unsound_stays at (w ∷ ws) h = unsound_stays (behind at (slot edition w)) ws h.1 ∙ stays at w h.0

  pub records_before : (xs ys : List Word) → AllUnsound ys → records edition (xs ++ ys) ≡ records edition xs
  records_before xs ys h =
      records_append xs ys ∙ ap (λ (rs : List Setting). records edition xs ++ rs) (unsound_silent (place_behind outside (as_slots xs)) ys h)
      ∙ append-nil (records edition xs)

  pub blank_records : (n : ℕ) → records edition (replicate n blank_word) ≡ []
  unfolding records
  blank_records n = unsound_silent outside (replicate n blank_word) (blanks_unsound n)

-- ---- no record has the address 65,535

unfoldable pub Lawful : List Setting → Type 0
Lawful [] = Unit {0}
Lawful (setting a v ∷ rs) = (a ≡ 65535 → ⊥) × Lawful rs

pub lawful_append : (xs ys : List Setting) → Lawful xs → Lawful ys → Lawful (xs ++ ys)
unfolding Lawful
lawful_append [] ys p q = q
lawful_append (setting a v ∷ xs) ys p q = (p.0, lawful_append xs ys p.1 q)

pub addressed_lawful : (rs : List Setting) → a_wrong_address rs ≡ false → Lawful rs
unfolding a_wrong_address wrong_address Lawful
addressed_lawful [] h = tt
addressed_lawful (setting a v ∷ rs) h =
    let far = leb-false 65535 a (or_false_left (leb 65535 a) _ h) in
    (λ e. omega arith, addressed_lawful rs (or_false_right (leb 65535 a) _ h))

-- records that are gathered in a group
unfoldable LawfulPlace : Place → Type 0
LawfulPlace outside = Unit {0}
LawfulPlace (inside n rs) = Lawful rs
LawfulPlace lost = Unit {0}

either_lawful : (b : Bool) (rs : List Setting) → Lawful rs → Lawful (cond b rs [])
unfolding Lawful
either_lawful true rs p = p
either_lawful false rs p = tt

counted_lawful : (at : Place) (s : Slot) → LawfulPlace at → Addressed s → Lawful (counted at s)
unfolding counted closed LawfulPlace Addressed Lawful
counted_lawful outside (recorded a v) p q = (q, tt)
counted_lawful outside (opens n) p q = tt
counted_lawful outside (closes n) p q = tt
counted_lawful outside (neither c) p q = tt
counted_lawful (inside n rs) (recorded a v) p q = tt
counted_lawful (inside n rs) (opens m) p q = tt
counted_lawful (inside n rs) (closes m) p q = either_lawful (eqb m n && eqb (length rs) n) rs p
counted_lawful (inside n rs) (neither c) p q = tt
counted_lawful lost s p q = tt

behind_lawful : (at : Place) (s : Slot) → LawfulPlace at → Addressed s → LawfulPlace (behind at s)
unfolding behind LawfulPlace Addressed Lawful
behind_lawful outside (recorded a v) p q = tt
behind_lawful outside (opens n) p q = tt
behind_lawful outside (closes n) p q = tt
behind_lawful outside (neither c) p q = tt
behind_lawful (inside n rs) (recorded a v) p q = lawful_append rs (setting a v ∷ []) p (q, tt)
behind_lawful (inside n rs) (opens m) p q = tt
behind_lawful (inside n rs) (closes m) p q = tt
behind_lawful (inside n rs) (neither c) p q = tt
behind_lawful lost (recorded a v) p q = tt
behind_lawful lost (opens m) p q = tt
behind_lawful lost (closes m) p q = tt
behind_lawful lost (neither c) p q = tt

scan_lawful : (edition : ℕ) (at : Place) (ws : List Word) → LawfulPlace at → Lawful (scan at (map (slot edition) ws))
unfolding scan Lawful
scan_lawful edition at [] p = tt
scan_lawful edition at (w ∷ ws) p =
    let s = slot edition w in
    let q = slot_addressed edition w in
    lawful_append (counted at s) (scan (behind at s) (map (slot edition) ws)) (counted_lawful at s p q)
    (scan_lawful edition (behind at s) ws (behind_lawful at s p q))

pub records_lawful : (edition : ℕ) (ws : List Word) → Lawful (records edition ws)
unfolding records LawfulPlace
records_lawful edition ws = scan_lawful edition outside ws tt

pub all_records_lawful : (ps : List Page) → Lawful (all_records ps)
unfolding each Lawful
all_records_lawful [] = tt
all_records_lawful (p ∷ ps) =
    lawful_append (records p.edition p.slots) (all_records ps) (records_lawful p.edition p.slots) (all_records_lawful ps)

pub put_lawful : (a v : ℕ) (t : List Setting) → (a ≡ 65535 → ⊥) → Lawful t → Lawful (put (setting a v) t)
unfolding Lawful put
put_lawful a v [] h p = (h, tt)
put_lawful a v (setting b u ∷ t) h p =
    put_cases Lawful a v b u t (λ l. (h, (p.0, p.1))) (λ e. (h, p.1)) (λ l. (p.0, put_lawful a v t h p.1))

pub put_all_lawful : (t js : List Setting) → Lawful t → Lawful js → Lawful (put_all t js)
unfolding Lawful put_all
put_all_lawful t [] p q = p
put_all_lawful t (setting a v ∷ js) p q = put_all_lawful (put (setting a v) t) js (put_lawful a v t q.0 p) q.1

pub but_lawful : (a : ℕ) (t : List Setting) → Lawful t → Lawful (but a t)
unfolding Lawful but
but_lawful a [] p = tt
but_lawful a (setting b u ∷ t) p = but_cases Lawful a b u t (λ e. but_lawful a t p.1) (λ e. (p.0, but_lawful a t p.1))

pub but_all_lawful : (rs t : List Setting) → Lawful t → Lawful (but_all rs t)
unfolding but_all
but_all_lawful [] t p = p
but_all_lawful (setting a v ∷ rs) t p = but_all_lawful rs (but a t) (but_lawful a t p)

-- what is copied counts, in the order in which it was copied
pub copied_records : (edition : ℕ) (rs : List Setting) (ys : List Word) → Lawful rs → AllUnsound ys → records edition (map record_of rs ++ ys) ≡ rs
unfolding Lawful records scan counted behind
copied_records edition [] ys p u = unsound_silent edition outside ys u
copied_records edition (setting a v ∷ rs) ys p u =
    rw (← record_told edition a v p.0) (ap (λ (ts : List Setting). setting a v ∷ ts) (copied_records edition rs ys p.1 u))
