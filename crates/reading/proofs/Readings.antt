-- What the calls answer, by what was met on the way. Assumes nothing.
use Prim.Native.Nat.{ℕ, ◌<◌}
use mathlib.Core.Path.{◌≡◌, refl, sym, ap, ◌∙◌}
use mathlib.Core.Bool.{true, false}
use mathlib.Core.List.{List, [], ◌∷◌, map}
use native.Mathlib.Omega.{arith}
use lib.ListN.{length, get_or}
use denote.Enum.Declared.{tag_of}
use Rattle.std.specs.Prelude.{Option, None, Some, Result, Ok, Err, IsErrAnd, ok_or}
use Rattle.std.proofs.lemmas.Result.{err_from_is_err_and}
use Rattle.rules.specs.Page.{Form}
use Rattle.rules.specs.Store.{Setting, last_of}
use Rattle.rules.specs.Owner.{Owner}
use Rattle.rules.specs.Call.{Reading, refused_reading, read, blank_read, code, pairing, lookup, store_number, OK, ADDRESS, NOT_HELD, OWNER}
use Rattle.rules.proofs.Answers.{read_refused, read_last, read_foreign, read_found, read_nothing, blank_read_nothing, blank_read_else}
use Rattle.rules.proofs.Answers.{lookup_refused, lookup_done}
use Rattle.survey.specs.declared.refusal.Refusal.{Refusal}
use Rattle.survey.specs.declared.refusal.Refusal.TheVariants.{Size, NoStore, Damaged, Unclean, Address, NoRoom, OrderEnd, NotHeld, Group, Owner as TheOwner}
use Rattle.survey.specs.contracts.refusal.Refusal.{the_type}
use Rattle.survey.specs.Refusals.{number_of}
use Rattle.survey.proofs.Refusals.{is_refusal}
use Rattle.settings.specs.Held.{as_option}
use Rattle.store.specs.declared.Store.{Store}
use Rattle.store.specs.Opened.{Holding}
use Rattle.store.proofs.Values.{value_told}
use Rattle.reading.specs.Answers.{as_reading, as_pairing}

-- ---- read

module _ (fm : Form) (i : List ℕ) (o : Owner) (a : ℕ) where
  -- of an image that is refused
  pub read_none : (r : Result ℕ Refusal) (e : Refusal) → IsErrAnd r (λ y. y ≡ e) → store_number fm i ≡ number_of e
      → as_reading r ≡ read fm o a i
  read_none r e given is =
      let p = err_from_is_err_and r given in
      rw (p.1, p.2, ← is) (sym (read_refused fm i o a (λ z. is_refusal e (sym is ∙ z))))

  module _ (s : Store) (t : List Setting) (h : Holding fm i s t) where
    pub last : a ≡ 65535 → refused_reading ADDRESS ≡ read fm o a i
    last e = sym (read_last fm i o a h.accepted e)

    module _ (ne : a ≡ 65535 → ⊥) (l : a < 65536) where
      below : a < 65535
      below = omega (arith, ne)

      pub foreign : o.owns a ≡ false → refused_reading OWNER ≡ read fm o a i
      foreign f = sym (read_foreign fm i o a h.accepted below f)

      pub looked_up : (found : Option ℕ) → o.owns a ≡ true → as_option found ≡ last_of a t → as_reading (ok_or found NotHeld) ≡ read fm o a i
      looked_up (Some v) own e = sym (read_found fm i o a h.accepted below own v (sym (e ∙ value_told h a)))
      looked_up None own e = sym (read_nothing fm i o a h.accepted below own (sym (e ∙ value_told h a)))

-- ---- blank read

-- a refusal is known by its number
another : (e : Refusal) → (tag_of the_type e ≡ 7 → ⊥) → number_of e ≡ NOT_HELD → ⊥
another Size ne h = omega arith
another NoStore ne h = omega arith
another Damaged ne h = omega arith
another Unclean ne h = omega arith
another Address ne h = omega arith
another NoRoom ne h = omega arith
another OrderEnd ne h = omega arith
another NotHeld ne h = ne refl
another Group ne h = omega arith
another TheOwner ne h = omega arith

module _ (fm : Form) (i : List ℕ) (o : Owner) (a : ℕ) where
  numbers : {r s : Reading} → r ≡ s → r.number ≡ s.number
  numbers e = ap (λ r. r.number) e

  -- of an address that is not held
  pub blank_of : (r : Result ℕ Refusal) → as_reading r ≡ read fm o a i → r ≡ Err NotHeld
      → ◌≡◌ {A = Reading} record { number = OK; value = 0 } (blank_read fm o a i)
  blank_of r e is = sym (blank_read_nothing fm i o a (sym (numbers e) ∙ numbers (ap as_reading is)))

  -- else it is the read
  pub other_refused : (e : Refusal) → (tag_of the_type e ≡ 7 → ⊥) → refused_reading (number_of e) ≡ read fm o a i
      → refused_reading (number_of e) ≡ blank_read fm o a i
  other_refused r ne e = e ∙ sym (blank_read_else fm i o a (λ h. another r ne (numbers e ∙ h)))

  pub other_read : (r : Result ℕ Refusal) (v : ℕ) → r ≡ Ok v → as_reading r ≡ read fm o a i → as_reading r ≡ blank_read fm o a i
  other_read r v is e =
      e ∙ sym (blank_read_else fm i o a (λ h. let z : OK ≡ NOT_HELD = sym (numbers (ap as_reading is)) ∙ numbers e ∙ h in omega arith))

-- ---- lookup

module _ (fm : Form) (i : List ℕ) where
  -- of an image that is refused
  pub lookup_none : (r : Result (List (Option ℕ)) Refusal) (e : Refusal) → IsErrAnd r (λ y. y ≡ e) → store_number fm i ≡ number_of e
      → as_pairing r ≡ lookup fm i
  lookup_none r e given is =
      let p = err_from_is_err_and r given in
      rw (p.1, p.2, ← is) (sym (lookup_refused fm i (λ z. is_refusal e (sym is ∙ z))))

  -- what the table has of the four addresses
  pub digits : (s : Store) (t : List Setting) → Holding fm i s t → (found : List (Option ℕ)) → length found ≡ 4
      → ((k : ℕ) → k < 4 → as_option (get_or found k None) ≡ last_of (get_or (16 ∷ 17 ∷ 18 ∷ 19 ∷ []) k 0) t)
      → pairing (map as_option found) ≡ lookup fm i
  unfolding code
  digits s t h (a ∷ b ∷ c ∷ d ∷ []) l is =
      rw (
        is 0 (omega arith) ∙ value_told h 16,
        is 1 (omega arith) ∙ value_told h 17,
        is 2 (omega arith) ∙ value_told h 18,
        is 3 (omega arith) ∙ value_told h 19,
      )
      (sym (lookup_done fm i h.accepted))
  digits s t h [] l is = absurd (omega arith)
  digits s t h (a ∷ []) l is = absurd (omega arith)
  digits s t h (a ∷ b ∷ []) l is = absurd (omega arith)
  digits s t h (a ∷ b ∷ c ∷ []) l is = absurd (omega arith)
  digits s t h (a ∷ b ∷ c ∷ d ∷ e ∷ more) l is = absurd (omega arith)
