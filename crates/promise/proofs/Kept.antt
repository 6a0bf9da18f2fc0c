-- The promise, proved of all calls that obey the rules. Assumes nothing.
use Prim.Native.Nat.{ℕ, ◌<◌}
use mathlib.Core.Path.{◌≡◌, refl, sym, ap, ◌∙◌, subst}
use mathlib.Core.Logic.{◌⊎◌, inl, inr, ⊎_elim}
use mathlib.Core.Bool.{true, false}
use mathlib.Core.List.{List}
use mathlib.Core.Option.{Option, none}
use lib.ListN.{length}
use lib.Seq.{take_all}
use borrow.Author.Tests.{leb-true}
use Rattle.rules.specs.Flash.{Step, run}
use Rattle.rules.specs.Page.{Form, size, Chip, in_edition}
use Rattle.rules.specs.Store.{Setting, value}
use Rattle.rules.specs.Steps.{Change, settings_of, format_steps}
use Rattle.rules.specs.Owner.{Owner}
use Rattle.rules.specs.Call.{Roomy, RoomyChip, form_of, page_count, pages, store_number, write_number, a_wrong_address, accepted, stepped}
use Rattle.rules.specs.Call.{recover, write, Formatted, Stepped, OK}
use Rattle.rules.proofs.Truth.{by_cases}
use Rattle.rules.proofs.Rows.{WriteFails, write_fails}
use Rattle.rules.proofs.Answers.{format_done, format_right, stepped_done}
use Rattle.rules.proofs.Plans.{BytesLeft, left_after}
use Rattle.rules.proofs.Groups.{change_distinct}
use Rattle.rules.proofs.Editions.{accepted_editions}
use Rattle.rules.proofs.Good.{changed}
use Rattle.rules.proofs.Healthy.{Healthy, store_ok, form_told, form_kept, accepted_healthy, format_healthy, recovery_left, recovery_run, recovery_cleans}
use Rattle.rules.proofs.Healthy.{write_left, write_later, write_run}
use Rattle.promise.specs.Calls.{Image, Question, value_at, Answer, AsksNone, EachAnswer, with_values, Calls, Obeys}
use Rattle.promise.specs.History.{recovery_of, write_of, FailsAfter, RecoveryLeaves, WriteLeaves, InUse, formatted, recovered, written}
use Rattle.promise.specs.History.{Recoveries, none as no_more, more, Interrupted}
use Rattle.promise.specs.Promise.{Same, AnswersEach, Changed, Found, NothingLost, Mended, the_promise}
use Rattle.promise.proofs.Answers.{answer_by, answers_are, with_given, answer_changed, not_asked, each_map, each_found, not_refused}

-- ---- a call with steps

module _ (fm : Form) (number n : ℕ) (ss : List Step) (i : Image) (s : Stepped) (is : s ≡ stepped fm number n ss i) where
  pub called_number : s.number ≡ number
  unfolding stepped
  called_number = ap (λ (r : Stepped). r.number) is ∙ by_cases (accepted number) (λ e. rw e) (λ e. rw e)

  module _ (ok : number ≡ OK) where
    called_left : (j : Image) → FailsAfter fm s ss j → BytesLeft (size fm) s.steps ss i j
    called_left j =
        subst (λ (r : Stepped). FailsAfter fm r ss j → BytesLeft (size fm) r.steps ss i j)
        (sym (is ∙ stepped_done fm number n ss i ok)) (left_after (size fm) n ss i j)

    called_run : s.finished ≡ true → s.image ≡ run (size fm) ss i
    called_run fin =
        let d = is ∙ stepped_done fm number n ss i ok in
        let all = leb-true (length ss) n (sym (ap (λ (r : Stepped). r.finished) d) ∙ fin) in
        ap (λ (r : Stepped). r.image) d ∙ ap (λ (xs : List Step). run (size fm) xs i) (take_all n ss all)

-- ---- calls that obey the rules

module _ (chip : Chip) (roomy : RoomyChip chip) (C : Calls) (obeys : Obeys chip C) where
  -- the form of an image
  abbrev form : Image → Form
  form = form_of chip

  form_roomy : (i : Image) → Roomy (form i)
  unfolding form_of
  form_roomy i = roomy.0

  -- a healthy store, read by its own edition
  abbrev WellIf : (May : Type 0) → (ℕ → Option ℕ) → Image → Type 0
  WellIf May t i = Healthy (form i) May (Unit {0}) t i

  abbrev pub Well : (ℕ → Option ℕ) → Image → Type 0
  Well = WellIf (Unit {0})

  -- what steps leave is read by the same edition
  carry : {May : Type 0} {t : ℕ → Option ℕ} (i : Image) {j : Image} → Healthy (form i) May (Unit {0}) t j → WellIf May t j
  carry {May} {t} i {j} h = subst (λ (fm : Form). Healthy fm May (Unit {0}) t j) (sym (form_kept chip roomy.1 i h)) h

  recovery_leaves : {t : ℕ → Option ℕ} {i j : Image} → Well t i → RecoveryLeaves chip C i j → Healthy (form i) (Unit {0}) (Unit {0}) t j
  unfolding recover
  recovery_leaves {i = i} {j = j} h r =
      let fm = form i in
      recovery_left h tt
      (called_left fm (store_number fm i) r.allowance (recovery_of fm i) i r.done
      (obeys.recovers r.allowance i r.done r.called) (store_ok h) j r.fails)

  pub recovery_keeps : {t : ℕ → Option ℕ} {i j : Image} → Well t i → RecoveryLeaves chip C i j → Well t j
  recovery_keeps {i = i} h r = carry i (recovery_leaves h r)

  recoveries_keep : {t : ℕ → Option ℕ} {i k : Image} → Well t i → Recoveries chip C i k → Well t k
  recoveries_keep h no_more = h
  recoveries_keep h (more r rest) = recoveries_keep (recovery_keeps h r) rest

  recoveries_form : {t : ℕ → Option ℕ} {i k : Image} → Well t i → Recoveries chip C i k → form k ≡ form i
  recoveries_form h no_more = refl
  recoveries_form {i = i} h (more r rest) = recoveries_form (recovery_keeps h r) rest ∙ form_kept chip roomy.1 i (recovery_leaves h r)

  -- ---- a write, by whatever owner

  module _ {o : Owner} {c : Change} {i : Image} {n : ℕ} {j : Image} (w : WriteLeaves chip C o c i n j) where
    as_written : w.done ≡ write (form i) o c w.allowance i
    as_written = obeys.writes o c w.allowance i w.done w.called

    pub write_ok : write_number (form i) o c i ≡ OK
    unfolding write
    write_ok = sym (called_number (form i) (write_number (form i) o c i) w.allowance (write_of (form i) c i) i w.done as_written) ∙ w.accepted

    write_bytes : BytesLeft (size (form i)) n (write_of (form i) c i) i j
    unfolding write
    write_bytes =
        let fm = form i in
        subst (λ (m : ℕ). BytesLeft (size fm) m (write_of fm c i) i j) w.counted
        (called_left fm (write_number fm o c i) w.allowance (write_of fm c i) i w.done as_written write_ok j w.fails)

  -- a write leaves the old values or the new
  pub write_keeps : {t : ℕ → Option ℕ} {o : Owner} {c : Change} {i j : Image} {n : ℕ} → Well t i → WriteLeaves chip C o c i n j
      → Well t j ⊎ Well (changed (settings_of c) t) j
  write_keeps {o = o} {c = c} {i = i} h w = ⊎_elim (λ k. inl (carry i k)) (λ k. inr (carry i k)) (write_left h o c (write_ok w) tt (write_bytes w))

  pub in_use_healthy : {i : Image} → InUse chip C i → (t : ℕ → Option ℕ) × Well t i
  in_use_healthy (formatted e i f x ok) =
      let is = obeys.formats e i f x in
      let fm = in_edition chip e in
      let w = format_right fm i (sym (ap (λ (g : Formatted). g.number) is.1) ∙ ok) in
      let h = format_healthy fm i w roomy.0 in (
        (λ x. none),
        subst (Well (λ x. none)) (sym (ap (λ (g : Formatted). g.image) (is.1 ∙ format_done fm i w)))
            (subst (λ (g : Form). Healthy g (Unit {0}) (Unit {0}) (λ x. none) (run (size fm) (format_steps e (page_count fm i)) i))
            (sym (form_told chip e is.0 h)) h),
      )
  in_use_healthy (recovered u r) = let h = in_use_healthy u in (h.0, recovery_keeps h.1 r)
  in_use_healthy (written o c u w) =
      let h = in_use_healthy u in
      ⊎_elim (λ k. (h.0, k)) (λ k. (changed (settings_of c) h.0, k)) (write_keeps h.1 w)

  -- ---- answers

  same : {M N : Type 0} {t : ℕ → Option ℕ} {i k : Image} → WellIf M t i → WellIf N t k → (q : Question) → Same chip C q i k
  same {i = i} {k = k} h g q before after x y =
      obeys.answers q k after y ∙ answers_are g q ∙ sym (answers_are h q) ∙ sym (obeys.answers q i before x)

  module _ (rs : List Setting) (w : a_wrong_address rs ≡ false) {M N : Type 0} {t : ℕ → Option ℕ} {i k : Image} (h : WellIf M t i)
      (g : WellIf N (changed rs t) k) where
    changes : (q : Question) → Changed chip C rs q i k
    changes q before after x y =
        obeys.answers q k after y ∙ answers_are g q ∙ answer_changed rs t w q
        ∙ sym (with_given rs before (answer_by t) (λ p. obeys.answers p i (before p) (x p) ∙ answers_are h p) q)

    -- what asks for none of the addresses answers as before
    others_same : (q : Question) → AsksNone q rs → Same chip C q i k
    others_same q none_of before after x y =
        let was : before ≡ answer_by t q = obeys.answers q i before x ∙ answers_are h q in
        obeys.answers q k after y ∙ answers_are g q ∙ not_asked rs t q none_of ∙ sym was

  -- ---- what a finished write puts at an address, a read by its owner finds

  module _ (i : Image) (o : Owner) (c : Change) (n : ℕ) (s : Stepped) (x : C.Writes o c n i s) where
    abbrev fm : Form
    fm = form i

    pub is_write : s ≡ write fm o c n i
    is_write = obeys.writes o c n i s x

    pub wrote_number : s.number ≡ write_number fm o c i
    unfolding write
    wrote_number = called_number fm (write_number fm o c i) n (write_of fm c i) i s is_write

    -- a finished one has done all its steps, whatever values the store had
    module _ (ok : s.number ≡ OK) (fin : s.finished ≡ true) where
      pub passed : WriteFails fm i o c
      passed = write_fails fm i o c (sym wrote_number ∙ ok)

      pub write_image : s.image ≡ run (size fm) (write_of fm c i) i
      unfolding write
      write_image = called_run fm (write_number fm o c i) n (write_of fm c i) i s is_write (sym wrote_number ∙ ok) fin

      pub write_done : {May : Type 0} {t : ℕ → Option ℕ} → WellIf May t i → WellIf May (changed (settings_of c) t) s.image
      write_done {May} {t} h =
          carry i (subst (Healthy fm May (Unit {0}) (changed (settings_of c) t)) (sym write_image) (write_run h o c (sym wrote_number ∙ ok)))

      found : Found chip C (settings_of c) i s.image
      found =
          let rs = settings_of c in
          let h = accepted_healthy fm (form_roomy i) (Unit {0}) i passed.stored (λ one. accepted_editions fm i passed.clean) in
          let t : ℕ → Option ℕ = λ x. value x (pages fm i) in
          let g = write_done h in
          record {
            there = each_map (λ a v found m own r y. obeys.answers (value_at m a) s.image r y ∙ answers_are g (value_at m a) ∙ found m own) rs
                (each_found rs t (change_distinct fm.edition c passed.grouped) passed.addressed);
            elsewhere = others_same rs passed.addressed h g;
            everywhere = changes rs passed.addressed h g;
          }

  -- ---- nothing is lost

  module _ (i : Image) (u : InUse chip C i) (o : Owner) (c : Change) where
    abbrev rs : List Setting
    rs = settings_of c

    abbrev t : ℕ → Option ℕ
    t = (in_use_healthy u).0

    abbrev h : Well t i
    h = (in_use_healthy u).1

    module _ {n : ℕ} {k : Image} (x : Interrupted chip C o c i n k) where
      addressed : a_wrong_address rs ≡ false
      addressed = (write_fails (form i) i o c (write_ok x.write)).addressed

      pub either : Well t k ⊎ Well (changed rs t) k
      either = ⊎_elim (λ g. inl (recoveries_keep g x.then)) (λ g. inr (recoveries_keep g x.then)) (write_keeps h x.write)

      -- and the store is read by the same edition
      pub form_stays : form k ≡ form i
      form_stays =
          ⊎_elim (λ g. recoveries_form (carry i g) x.then ∙ form_kept chip roomy.1 i g)
          (λ g. recoveries_form (carry i g) x.then ∙ form_kept chip roomy.1 i g)
          (write_left h o c (write_ok x.write) tt (write_bytes x.write))

      old_or_new : ((q : Question) → Same chip C q i k) ⊎ ((q : Question) → Changed chip C rs q i k)
      old_or_new = ⊎_elim (λ g. inl (same h g)) (λ g. inr (changes rs addressed h g)) either

      in_use_then : {j l : Image} → InUse chip C j → Recoveries chip C j l → InUse chip C l
      in_use_then w no_more = w
      in_use_then w (more r rest) = in_use_then (recovered w r) rest

    new_stays : {n m : ℕ} {k l : Image} → Interrupted chip C o c i n k → Interrupted chip C o c i m l → n < m
        → (q : Question) (old : EachAnswer) (one later : Answer q) → AnswersEach chip C i old → C.Answers q k one → C.Answers q l later
        → one ≡ with_values rs old q → later ≡ with_values rs old q
    new_stays x y lt q old one later p r s e =
        ⊎_elim
        (λ g.
        let was : old q ≡ with_values rs old q = sym (same h (recoveries_keep (carry i g) x.then) q (old q) one (p q) r) ∙ e in
        ⊎_elim (λ f. f q (old q) later (p q) s ∙ was) (λ f. f q old later p s) (old_or_new y))
        (λ g. changes rs (addressed y) h (recoveries_keep (carry i g) y.then) q old later p s)
        (write_later h o c (write_ok x.write) tt (write_bytes x.write) (write_bytes y.write) lt)

    nothing_lost : NothingLost chip C o c i
    nothing_lost =
        record {
          others = λ x q none_of. ⊎_elim (λ g. same h g q) (λ g. others_same rs (addressed x) h g q none_of) (either x);
          old_or_new = old_or_new;
          new_stays = new_stays;
          still_in_use = λ x. in_use_then x (written o c u x.write) x.then;
        }

  -- ---- a recovery mends

  module _ (i : Image) (u : InUse chip C i) where
    abbrev healthy : Well (in_use_healthy u).0 i
    healthy = (in_use_healthy u).1

    -- the image when it has finished
    abbrev done : Image
    done = run (size (form i)) (recovery_of (form i) i) i

    finished : (n : ℕ) (s : Stepped) → C.Recovers n i s → s.finished ≡ true → s.image ≡ done
    unfolding recover
    finished n s x fin = called_run (form i) (store_number (form i) i) n (recovery_of (form i) i) i s (obeys.recovers n i s x) (store_ok healthy) fin

    same_form : form done ≡ form i
    same_form = form_kept chip roomy.1 i (recovery_run healthy)

    mended : Mended chip C i
    unfolding recover
    mended =
        record {
          answers = λ r. same healthy (recoveries_keep healthy r);
          accepted = λ n s x. called_number (form i) (store_number (form i) i) n (recovery_of (form i) i) i s (obeys.recovers n i s x) ∙ store_ok healthy;
          clean = λ n s x fin. rw (finished n s x fin, same_form) (recovery_cleans healthy);
          writable = λ n s x fin o c m w y.
              rw (wrote_number s.image o c m w y, finished n s x fin, same_form)
              (not_refused (form i) o c done (store_ok (recovery_run healthy)) (recovery_cleans healthy));
        }

pub kept : the_promise
kept chip roomy C obeys =
    record { finds_what_is_written = found chip roomy C obeys; loses_nothing = nothing_lost chip roomy C obeys; mends = mended chip roomy C obeys }
