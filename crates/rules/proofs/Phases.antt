-- What holds of a store all through a list of steps, also where one fails. Assumes nothing.
use Prim.Native.Nat.{ℕ, ◌<◌}
use mathlib.Core.Path.{◌≡◌, refl, sym, ap, ◌∙◌, subst}
use mathlib.Core.Logic.{◌⊎◌, inl, inr, ⊎_elim}
use mathlib.Core.List.{List, [], ◌∷◌, ◌++◌}
use native.Mathlib.Nat.{le_of_suc-le-suc, not-suc-le-zero}
use native.Mathlib.Omega.{arith}
use lib.ListN.{length, length-append, get_or, set}
use lib.Seq.{get_or-append_seam, set-append_seam}
use Rattle.rules.specs.Flash.{Half, Step, program, erase, first, second, Rises, Left, between, failing, later}
use Rattle.rules.specs.Word.{Word, word, sound, word_steps}
use Rattle.rules.specs.Page.{blank_word}
use Rattle.rules.proofs.Truth.{by_cases}
use Rattle.rules.proofs.Words.{Light, half_light, half_not_sound, sound_light, torn_light, torn_sound}
use Rattle.rules.proofs.Shape.{with_half, target, page_after, PageFails, half_way, store_after, StoreFails}
use mathlib.Core.Bool.{true, false}

-- the pages of a store, as words
abbrev pub Pages : Type 0
Pages = List (List Word)

unfoldable pub store_run : (k : ℕ) → List Step → Pages → Pages
store_run k [] F = F
store_run k (s ∷ ss) F = store_run k ss (store_after k s F)

pub store_run_append : (k : ℕ) (xs ys : List Step) (F : Pages) → store_run k (xs ++ ys) F ≡ store_run k ys (store_run k xs F)
unfolding store_run
store_run_append k [] ys F = refl
store_run_append k (s ∷ xs) ys F = store_run_append k xs ys (store_after k s F)

-- what power may leave, of pages
abbrev pub PagesLeft : (k : ℕ) → ℕ → List Step → Pages → Pages → Type 0
PagesLeft k = Left (store_after k) StoreFails

-- a half of a word that reads 65,535
unfoldable pub BlankHalf : Half → Word → Type 0
BlankHalf first (word a b c d) = (a ≡ 255) × (b ≡ 255)
BlankHalf second (word a b c d) = (c ≡ 255) × (d ≡ 255)

-- a step may be done: it works within the pages that there are, and a half-word that is programmed reads 65,535
unfoldable pub Fits : Step → Pages → Type 0
Fits (program p w h low high) F = (p < length F) × (w < length (get_or F p [])) × BlankHalf h (get_or (get_or F p []) w blank_word)
Fits (erase p) F = p < length F

-- `May` says whether power may fail: nothing fails where it is ⊥.
module _ (k : ℕ) (May : Type 0) where
  -- P holds at the start, after each step, and of all that a failing step may leave
  pub data Through (P : Pages → Type 0) : List Step → Pages → Type 0 where
    end : {F : Pages} → P F → Through P [] F
    step : {s : Step} {ss : List Step} {F : Pages} → Fits s F → P F → (May → (G : Pages) → StoreFails s F G → P G)
        → Through P ss (store_after k s F) → Through P (s ∷ ss) F

  -- Old holds up to one step, New from its end on; a failure of that step leaves one or the other. Where both hold, no step is
  -- needed.
  pub data Turns (Old New : Pages → Type 0) : List Step → Pages → Type 0 where
    turn : {s : Step} {ss : List Step} {F : Pages} → Fits s F → Old F → (May → (G : Pages) → StoreFails s F G → Old G ⊎ New G)
        → Through New ss (store_after k s F) → Turns Old New (s ∷ ss) F
    wait : {s : Step} {ss : List Step} {F : Pages} → Fits s F → Old F → (May → (G : Pages) → StoreFails s F G → Old G)
        → Turns Old New ss (store_after k s F) → Turns Old New (s ∷ ss) F
    both : {F : Pages} → Old F → New F → Turns Old New [] F

module _ {k : ℕ} {May : Type 0} where
  module _ {P : Pages → Type 0} where
    pub through_start : {ss : List Step} {F : Pages} → Through k May P ss F → P F
    through_start (end p) = p
    through_start (step c p f t) = p

    pub through_end : {ss : List Step} {F : Pages} → Through k May P ss F → P (store_run k ss F)
    unfolding store_run
    through_end (end p) = p
    through_end (step c p f t) = through_end t

    pub through_left : {n : ℕ} {ss : List Step} {F G : Pages} → May → Through k May P ss F → PagesLeft k n ss F G → P G
    through_left may t between = through_start t
    through_left may (step c p f t) (failing x) = f may _ x
    through_left may (step c p f t) (later l) = through_left may t l

    pub through_append : {xs : List Step} (ys : List Step) {F : Pages}
        → Through k May P xs F → Through k May P ys (store_run k xs F) → Through k May P (xs ++ ys) F
    unfolding store_run
    through_append ys (end p) u = u
    through_append ys (step c p f t) u = step c p f (through_append ys t u)

    pub through_front : (xs ys : List Step) {F : Pages} → Through k May P (xs ++ ys) F → Through k May P xs F
    through_front [] ys t = end (through_start t)
    through_front (s ∷ xs) ys (step c p f t) = step c p f (through_front xs ys t)

  module _ {Old New : Pages → Type 0} where
    pub turns_left : {n : ℕ} {ss : List Step} {F G : Pages} → May → Turns k May Old New ss F → PagesLeft k n ss F G → Old G ⊎ New G
    turns_left may (turn c p f t) between = inl p
    turns_left may (turn c p f t) (failing x) = f may _ x
    turns_left may (turn c p f t) (later l) = inr (through_left may t l)
    turns_left may (wait c p f t) between = inl p
    turns_left may (wait c p f t) (failing x) = inl (f may _ x)
    turns_left {G = G} may (wait {s = s} {ss = ss} {F = F} c p f t) (later {n = n} l) = turns_left {n = n} may t l
    turns_left may (both p q) between = inl p

    -- of two failures the earlier leaves the old, or the later the new
    pub turns_later : {n m : ℕ} {ss : List Step} {F G H : Pages}
        → May → Turns k May Old New ss F → PagesLeft k n ss F G → PagesLeft k m ss F H → n < m → Old G ⊎ New H
    turns_later may t l between h = absurd (not-suc-le-zero h)
    turns_later may t l (failing x) h = absurd (not-suc-le-zero h)
    turns_later may (turn c p f t) l (later r) h = inr (through_left may t r)
    turns_later may (wait c p f t) between (later r) h = inl p
    turns_later may (wait c p f t) (failing x) (later r) h = inl (f may _ x)
    turns_later {G = G} may (wait {s = s} {ss = ss} {F = F} c p f t) (later {n = n} l) (later {n = m} {s = u} {ss = us} {i = i} {j = j} r) h =
        turns_later {n = n} may t l r (le_of_suc-le-suc h)

    pub turns_end : {ss : List Step} {F : Pages} → Turns k May Old New ss F → New (store_run k ss F)
    unfolding store_run
    turns_end (turn c p f t) = through_end t
    turns_end (wait c p f t) = turns_end t
    turns_end (both p q) = q

    pub turns_after : {xs ys : List Step} {F : Pages} → Through k May Old xs F → Turns k May Old New ys (store_run k xs F) → Turns k May Old New (xs ++ ys) F
    unfolding store_run
    turns_after (end p) u = u
    turns_after (step c p f t) u = wait c p f (turns_after t u)

    pub turns_before : {xs : List Step} (ys : List Step) {F : Pages}
        → Turns k May Old New xs F → Through k May New ys (store_run k xs F) → Turns k May Old New (xs ++ ys) F
    unfolding store_run
    turns_before ys (turn c p f t) u = turn c p f (through_append ys t u)
    turns_before ys (wait c p f t) u = wait c p f (turns_before ys t u)
    turns_before [] (both p q) u = both p q
    turns_before (s ∷ ys) (both p q) (step c r f t) = turn c p (λ may G x. inr (f may G x)) t

  -- what holds may be said more weakly
  module _ {P Q : Pages → Type 0} (to : (F : Pages) → P F → Q F) where
    pub through_map : {ss : List Step} {F : Pages} → Through k May P ss F → Through k May Q ss F
    through_map (end p) = end (to _ p)
    through_map (step c p f t) = step c (to _ p) (λ may G x. to G (f may G x)) (through_map t)

  module _ {P Q R S : Pages → Type 0} (old : (F : Pages) → P F → R F) (new : (F : Pages) → Q F → S F) where
    pub turns_map : {ss : List Step} {F : Pages} → Turns k May P Q ss F → Turns k May R S ss F
    turns_map (turn c p f t) = turn c (old _ p) (λ may G x. ⊎_elim (λ q. inl (old G q)) (λ q. inr (new G q)) (f may G x)) (through_map new t)
    turns_map (wait c p f t) = wait c (old _ p) (λ may G x. old G (f may G x)) (turns_map t)
    turns_map (both p q) = both (old _ p) (new _ q)

  -- a turn from P to P is none
  pub turns_through : {P : Pages → Type 0} {ss : List Step} {F : Pages} → Turns k May P P ss F → Through k May P ss F
  turns_through (turn c p f t) = step c p (λ may G x. ⊎_elim (λ q. q) (λ q. q) (f may G x)) t
  turns_through (wait c p f t) = step c p f (turns_through t)
  turns_through (both p q) = end p

  -- a turn is one or the other all through
  pub turns_either : {Old New : Pages → Type 0} {ss : List Step} {F : Pages} → Turns k May Old New ss F → Through k May (λ F. Old F ⊎ New F) ss F
  turns_either t = turns_through (turns_map (λ F p. inl p) (λ F p. inr p) t)

-- ---- steps on a page in the midst of others

module _ (k : ℕ) (f : Pages) (pg : List Word) (r : Pages) where
  pub after_amid : (s : Step) → target s ≡ length f → store_after k s (f ++ pg ∷ r) ≡ f ++ page_after k s pg ∷ r
  unfolding store_after
  after_amid s e = rw (e, get_or-append_seam f pg r [], set-append_seam)

  pub fails_amid : (s : Step) (G : Pages) → target s ≡ length f → StoreFails s (f ++ pg ∷ r) G → (qg : List Word) × PageFails s pg qg × (G ≡ f ++ qg ∷ r)
  fails_amid s G e x =
      let at : get_or (f ++ pg ∷ r) (target s) [] ≡ pg = rw e (get_or-append_seam f pg r []) in
      (x.page, rw at at x.fails, x.rest ∙ rw e (set-append_seam f pg r x.page))

  pub here_fits : length f < length (f ++ pg ∷ r)
  here_fits = let e = length-append f (pg ∷ r) in omega arith

-- ---- programming a word at a blank place

-- what a word can be while it is programmed: light, and not sound
pub record Partial (v : Word) : Type 0 where
  pub light : Light v
  pub not_sound : sound v ≡ false

pub blank_partial : Partial blank_word
blank_partial = record { light = half_light 255 255; not_sound = half_not_sound 255 255 255 }

half_partial : (a b : ℕ) → Partial (word a b 255 255)
half_partial a b = record { light = half_light a b; not_sound = half_not_sound a b 255 }

torn_partial : (a b c d c' d' : ℕ) → sound (word a b c d) ≡ true → Rises 8 c c' → Rises 8 d d' → Partial (word a b c' d') ⊎ (word a b c' d' ≡ word a b c d)
torn_partial a b c d c' d' s pc pd =
    by_cases (sound (word a b c' d')) (λ t. inr (sym (torn_sound a b c d c' d' s pc pd t)))
    (λ t. inl (record { light = torn_light a b c d c' d' s pc pd; not_sound = t }))

program_fails : {p w low high : ℕ} {h : Half} {pg qg : List Word} → PageFails (program p w h low high) pg qg
    → (low' : ℕ) × (high' : ℕ) × Rises 8 low low' × Rises 8 high high' × (qg ≡ set pg w (with_half h (get_or pg w blank_word) low' high'))
program_fails (half_way low' high' a b e) = (low', high', a, b, e)

module _ (k : ℕ) (f r : Pages) (xs ys : List Word) where
  -- the store with v at that place
  abbrev pub placed : Word → Pages
  placed v = f ++ (xs ++ v ∷ ys) ∷ r

  place_fits : (h : Half) (low high : ℕ) (v : Word) → BlankHalf h v → Fits (program (length f) (length xs) h low high) (placed v)
  unfolding Fits
  place_fits h low high v b =
      let e = length-append xs (v ∷ ys) in (
        here_fits k f (xs ++ v ∷ ys) r,
        rw (get_or-append_seam f (xs ++ v ∷ ys) r []) (omega arith),
        rw (get_or-append_seam f (xs ++ v ∷ ys) r [], get_or-append_seam xs v ys blank_word) b,
      )

  first_after : (a b : ℕ) → store_after k (program (length f) (length xs) first a b) (placed blank_word) ≡ placed (word a b 255 255)
  unfolding target page_after with_half
  first_after a b = after_amid k f (xs ++ blank_word ∷ ys) r (program (length f) (length xs) first a b) refl
      ∙ rw (get_or-append_seam xs blank_word ys blank_word, set-append_seam)

  second_after : (a b c d : ℕ) → store_after k (program (length f) (length xs) second c d) (placed (word a b 255 255)) ≡ placed (word a b c d)
  unfolding target page_after with_half
  second_after a b c d = after_amid k f (xs ++ word a b 255 255 ∷ ys) r (program (length f) (length xs) second c d) refl
      ∙ rw (get_or-append_seam xs (word a b 255 255) ys blank_word, set-append_seam)

  pub word_run : (w : Word) → store_run k (word_steps (length f) (length xs) w) (placed blank_word) ≡ placed w
  unfolding store_run word_steps
  word_run (word a b c d) = rw (first_after a b) (second_after a b c d)

  first_fails : (a b : ℕ) (G : Pages) → StoreFails (program (length f) (length xs) first a b) (placed blank_word) G → (v : Word) × Partial v × (G ≡ placed v)
  unfolding target with_half
  first_fails a b G x =
      let y = fails_amid k f (xs ++ blank_word ∷ ys) r (program (length f) (length xs) first a b) G refl x in
      let z = program_fails y.1 in (
        word z.0 z.1 255 255,
        half_partial z.0 z.1,
        y.2 ∙ ap (λ (qg : List Word). f ++ qg ∷ r) (z.4 ∙ rw (get_or-append_seam xs blank_word ys blank_word, set-append_seam)),
      )

  second_fails : (a b c d : ℕ) (G : Pages) → sound (word a b c d) ≡ true → StoreFails (program (length f) (length xs) second c d) (placed (word a b 255 255)) G
      → (v : Word) × (Partial v ⊎ (v ≡ word a b c d)) × (G ≡ placed v)
  unfolding target with_half
  second_fails a b c d G s x =
      let y = fails_amid k f (xs ++ word a b 255 255 ∷ ys) r (program (length f) (length xs) second c d) G refl x in
      let z = program_fails y.1 in (
        word a b z.0 z.1,
        torn_partial a b c d z.0 z.1 s z.2 z.3,
        y.2 ∙ ap (λ (qg : List Word). f ++ qg ∷ r) (z.4 ∙ rw (get_or-append_seam xs (word a b 255 255) ys blank_word, set-append_seam)),
      )

  module _ (May : Type 0) where
    pub word_turns : (Old New : Pages → Type 0) (w : Word) → sound w ≡ true → ((v : Word) → Partial v → Old (placed v)) → New (placed w)
        → Turns k May Old New (word_steps (length f) (length xs) w) (placed blank_word)
    unfolding word_steps BlankHalf
    word_turns Old New (word a b c d) s old new =
        let one = program (length f) (length xs) first a b in
        let two = program (length f) (length xs) second c d in
        let last : Through k May New [] (store_after k two (placed (word a b 255 255))) = rw (second_after a b c d) (end new) in
        let next : Turns k May Old New (two ∷ []) (store_after k one (placed blank_word)) =
        rw (first_after a b)
        (turn (place_fits second c d (word a b 255 255) (refl, refl)) (old (word a b 255 255) (half_partial a b))
        (λ may G x.
        let y = second_fails a b c d G s x in
        ⊎_elim (λ (p : Partial y.0). inl (rw y.2 (old y.0 p)))
        (λ (e : y.0 ≡ word a b c d). inr (subst New (sym (y.2 ∙ ap placed e)) new)) y.1)
        last) in
        wait (place_fits first a b blank_word (refl, refl)) (old blank_word blank_partial)
        (λ may G x. let y = first_fails a b G x in rw y.2 (old y.0 y.1)) next

    -- what holds of every word on the way holds all through
    pub word_through : (P : Pages → Type 0) (w : Word) → sound w ≡ true → ((v : Word) → Light v → P (placed v))
        → Through k May P (word_steps (length f) (length xs) w) (placed blank_word)
    word_through P w s h = turns_through (word_turns P P w s (λ v p. h v p.light) (h w (sound_light w s)))
