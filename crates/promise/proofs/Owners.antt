-- What the two programs that share a store are promised, proved of all calls that obey the rules. Assumes nothing.
use Prim.Native.Nat.{ℕ, ◌+◌, ◌≤◌}
use mathlib.Core.Path.{◌≡◌, refl, sym, ap, ◌∙◌, subst}
use mathlib.Core.Logic.{⊎_elim}
use mathlib.Core.Bool.{Bool, true, false, not}
use mathlib.Core.List.{List, [], ◌∷◌}
use mathlib.Core.Option.{Option}
use native.Mathlib.Omega.{arith}
use Rattle.rules.specs.Page.{Chip}
use Rattle.rules.specs.Store.{Setting, or_else, last_of, value, count}
use Rattle.rules.specs.Steps.{Change, settings_of, all_values}
use Rattle.rules.specs.Owner.{Owner, named_owner, is_own, a_foreign, held_by}
use Rattle.rules.specs.Call.{RoomyChip, form_of, write, write_number, held_limit, Stepped, OK, NO_ROOM}
use Rattle.rules.proofs.Truth.{by_cases}
use Rattle.rules.proofs.Settings.{same_values}
use Rattle.rules.proofs.Rows.{WriteFails, write_fails, not_for_room}
use Rattle.rules.proofs.Answers.{stepped_refused}
use Rattle.rules.proofs.Held.{room_enough}
use Rattle.rules.proofs.Owners.{anyone_as_before, none_foreign, each_128, of_both, held_with_new, held_without, held_same, others_none, foreign_last, both_hold, not_crowded, uncrowded}
use Rattle.rules.proofs.Good.{changed}
use Rattle.rules.proofs.Healthy.{value_here}
use Rattle.promise.specs.Calls.{Image, Calls, Obeys}
use Rattle.promise.specs.History.{pages_of}
use Rattle.promise.specs.Owners.{would_hold, NeitherOver128, WriteOf, accepted, refused, Shared, nothing, written, recovered}
use Rattle.promise.specs.Owners.{Run, begins, own, other, recovery}
use Rattle.promise.specs.Owners.{anyone_writes_as_before, neither_crowds_out_the_other, neither_shows_in_the_others_reads}
use Rattle.promise.proofs.Answers.{answers_are, own_only}
use Rattle.promise.proofs.Kept.{Well, write_ok, write_keeps, write_done, wrote_number, is_write, recovery_keeps, in_use_healthy}

-- the values after its writes, the last first
after_all : List Change → (ℕ → Option ℕ) → ℕ → Option ℕ
after_all [] t = t
after_all (c ∷ cs) t = changed (settings_of c) (after_all cs t)

same_after : (cs : List Change) (t u : ℕ → Option ℕ) (x : ℕ) → t x ≡ u x → after_all cs t x ≡ after_all cs u x
unfolding after_all
same_after [] t u x e = e
same_after (c ∷ cs) t u x e = ap (or_else (last_of x (settings_of c))) (same_after cs t u x e)

module _ (chip : Chip) (roomy : RoomyChip chip) (C : Calls) (obeys : Obeys chip C) where
  -- a healthy store, whatever its values
  abbrev Sound : Image → Type 0
  Sound i = (t : ℕ → Option ℕ) × Well chip roomy C obeys t i

  -- a refused write leaves the image
  pub stays : (o : Owner) {i : Image} (c : Change) (n : ℕ) (s : Stepped) → C.Writes o c n i s → (s.number ≡ OK → ⊥) → s.image ≡ i
  unfolding write
  stays o {i} c n s x ne =
      ap (λ (r : Stepped). r.image)
      (is_write chip roomy C obeys i o c n s x
      ∙ stepped_refused _ (write_number _ o c i) n _ i (λ e. ne (wrote_number chip roomy C obeys i o c n s x ∙ e)))

  -- ---- neither comes to hold more than 128

  abbrev over_none : Image → Type 0
  over_none = NeitherOver128 chip

  -- with the same values, and with those of a write that was accepted
  same_few : {t u : ℕ → Option ℕ} {i k : Image} → Well chip roomy C obeys t i → Well chip roomy C obeys u k → ((x : ℕ) → u x ≡ t x) → over_none i
      → over_none k
  same_few {i = i} {k = k} h g e few m =
      omega (arith, few m, held_same (pages_of chip i) (pages_of chip k) (λ x. value_here g x ∙ e x ∙ sym (value_here h x)) (named_owner m))

  new_few : (m : Bool) {t : ℕ → Option ℕ} {i k : Image} → Well chip roomy C obeys t i → (c : Change)
      → Well chip roomy C obeys (changed (settings_of c) t) k → WriteFails (form_of chip i) i (named_owner m) c → over_none i → over_none k
  new_few m {t} {i} {k} h c g fails few =
      let rs = settings_of c in
      let ps = pages_of chip i in
      let qs = pages_of chip k in
      let after : (x : ℕ) → value x qs ≡ or_else (last_of x rs) (value x ps) =
      λ x. value_here g x ∙ ap (or_else (last_of x rs)) (sym (value_here h x)) in
      by_cases (all_values rs ps)
      (λ same. same_few h g (λ x. ap (or_else (last_of x rs)) (sym (value_here h x)) ∙ same_values rs ps same x ∙ value_here h x) few)
      (λ new.
      let own : held_by (named_owner m) qs ≤ (named_owner m).most =
      omega (
        arith,
        held_with_new rs ps qs after (named_owner m),
        not_crowded (named_owner m) rs ps (omega (arith, each_128 m, few m)) (fails.own_room new),
      ) in
      let other : held_by (named_owner (not m)) qs ≤ (named_owner (not m)).most =
      omega (arith, each_128 (not m), few (not m), held_without rs ps qs after (named_owner (not m)) (others_none m rs fails.owned)) in
      λ b. omega (arith, each_128 b, of_both (λ n. held_by (named_owner n) qs ≤ (named_owner n).most) m own other b))

  write_few : (m : Bool) {i k : Image} → Sound i × over_none i → WriteOf chip C m i k → Sound k × over_none k
  write_few m h (accepted c w) =
      let t = h.0.0 in
      ⊎_elim (λ g. ((t, g), same_few h.0.1 g (λ x. refl) h.1))
      (λ g. ((changed (settings_of c) t, g), new_few m h.0.1 c g (write_fails _ _ (named_owner m) c (write_ok chip roomy C obeys w)) h.1))
      (write_keeps chip roomy C obeys h.0.1 w)
  write_few m h (refused c n s x ne) =
      subst (λ (j : Image). Sound j × over_none j) (sym (stays (named_owner m) c n s x ne)) h

  shared_few : {i k : Image} → Sound i × over_none i → Shared chip C i k → Sound k × over_none k
  shared_few h nothing = h
  shared_few h (written m before w) = write_few m (shared_few h before) w
  shared_few h (recovered before r) =
      let g = shared_few h before in
      let after = recovery_keeps chip roomy C obeys g.0.1 r in
      ((g.0.0, after), same_few g.0.1 after (λ x. refl) g.1)

  -- where neither holds more, one that comes to hold no more than 192 and the other's 128 leave has room
  room_left : {i : Image} → Sound i × over_none i → (m : Bool) (c : Change) (n : ℕ) (s : Stepped) → C.Writes (named_owner m) c n i s
      → would_hold chip m c i + 128 ≤ held_limit → s.number ≡ NO_ROOM → ⊥
  room_left {i} h m c n s x few told =
      let rs = settings_of c in
      let ps = pages_of chip i in
      let room = room_enough rs ps (omega (arith, both_hold m ps, h.1 (not m), few)) in
      not_for_room _ i (named_owner m) c room (uncrowded (named_owner m) rs ps (omega (arith, each_128 m, few)))
      (sym (wrote_number chip roomy C obeys i (named_owner m) c n s x) ∙ told)

  -- ---- what one of the two reads

  -- a healthy store, in which the addresses of one of the two have these values
  abbrev OwnValues : (timer : Bool) (t : ℕ → Option ℕ) → Image → Type 0
  OwnValues m t i = (u : ℕ → Option ℕ) × Well chip roomy C obeys u i × ((x : ℕ) → (named_owner m).owns x ≡ true → u x ≡ t x)

  other_keeps : (m : Bool) {t : ℕ → Option ℕ} {i k : Image} → OwnValues m t i → WriteOf chip C (not m) i k → OwnValues m t k
  unfolding or_else
  other_keeps m {t} {i} h (accepted c w) =
      let fails = write_fails (form_of chip i) i (named_owner (not m)) c (write_ok chip roomy C obeys w) in
      ⊎_elim (λ g. (h.0, g, h.2))
      (λ g. (
        changed (settings_of c) h.0,
        g,
        λ x own. rw (foreign_last (named_owner m) (settings_of c) (none_of m (settings_of c) fails.owned) x own)
            (h.2 x own),
      ))
      (write_keeps chip roomy C obeys h.1 w)
    where
      none_of : (m : Bool) (rs : List Setting) → a_foreign (named_owner (not m)) rs ≡ false → count (is_own (named_owner m)) rs ≡ 0
      none_of true rs f = others_none false rs f
      none_of false rs f = others_none true rs f
  other_keeps m {t} h (refused c n s x ne) = subst (OwnValues m t) (sym (stays (named_owner (not m)) c n s x ne)) h

  own_keeps : (m : Bool) (c : Change) {t : ℕ → Option ℕ} {i : Image} → OwnValues m t i → (n : ℕ) (s : Stepped) → C.Writes (named_owner m) c n i s
      → s.number ≡ OK → s.finished ≡ true → OwnValues m (changed (settings_of c) t) s.image
  own_keeps m c {i = i} h n s x ok fin =
      let rs = settings_of c in
      (changed rs h.0, write_done chip roomy C obeys i (named_owner m) c n s x ok fin h.1, λ y own. ap (or_else (last_of y rs)) (h.2 y own))

  run_keeps : (m : Bool) {cs : List Change} {t : ℕ → Option ℕ} {i k : Image} → Well chip roomy C obeys t i → Run chip C m cs i k
      → OwnValues m (after_all cs t) k
  unfolding after_all
  run_keeps m {t = t} h begins = (t, h, λ x own. refl)
  run_keeps m h (own before c n s x ok fin) = own_keeps m c (run_keeps m h before) n s x ok fin
  run_keeps m h (other before w) = other_keeps m (run_keeps m h before) w
  run_keeps m h (recovery before r) = let g = run_keeps m h before in (g.0, recovery_keeps chip roomy C obeys g.1 r, g.2)

pub as_before : anyone_writes_as_before
as_before rs ps = (none_foreign rs, anyone_as_before rs ps)

pub neither_crowds : neither_crowds_out_the_other
neither_crowds chip roomy C obeys i u few =
    let h : Sound chip roomy C obeys i × NeitherOver128 chip i = (in_use_healthy chip roomy C obeys u, few) in
    record {
      never_over_128 = λ s. (shared_few chip roomy C obeys h s).1;
      always_64 = λ s m c n w x few. room_left chip roomy C obeys (shared_few chip roomy C obeys h s) m c n w x (omega (arith, few));
    }

pub neither_shows : neither_shows_in_the_others_reads
neither_shows one two roomy₁ roomy₂ C D obeys₁ obeys₂ m cs i j used₁ used₂ agree k l run₁ run₂ q asks r s x y =
    let h = in_use_healthy one roomy₁ C obeys₁ used₁ in
    let g = in_use_healthy two roomy₂ D obeys₂ used₂ in
    let f = run_keeps one roomy₁ C obeys₁ m h.1 run₁ in
    let e = run_keeps two roomy₂ D obeys₂ m g.1 run₂ in
    obeys₁.answers q k r x ∙ answers_are f.1 q
    ∙ own_only m f.0 e.0
    (λ a own.
    f.2 a own ∙ same_after cs h.0 g.0 a (sym (value_here h.1 a) ∙ agree a own ∙ value_here g.1 a) ∙ sym (e.2 a own))
    q asks
    ∙ sym (obeys₂.answers q l s y ∙ answers_are e.1 q)
