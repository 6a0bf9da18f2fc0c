-- Pages erased and given their wear words: what the pages are then, and that each step may be done. Assumes nothing.
use Prim.Native.Nat.{ℕ, zero, suc, ◌+◌, max}
use mathlib.Core.Path.{◌≡◌, refl, sym, ap, ◌∙◌, subst}
use mathlib.Core.Bool.{Bool, false, cond}
use mathlib.Core.List.{List, [], ◌∷◌, ◌++◌, map}
use native.Mathlib.Omega.{arith}
use lib.ListN.{length, length-append, set, replicate}
use lib.Seq.{append_snoc}
use Rattle.rules.specs.Flash.{Step, erase}
use Rattle.rules.specs.Word.{Word, wear_word, opening_word, word_steps}
use Rattle.rules.specs.Page.{blank_word, State, page, state, wear_in, opening_place}
use Rattle.rules.specs.Store.{each, greatest, or_value}
use Rattle.rules.specs.Steps.{renew, renew_all, format_steps, renewed_wear, greatest_wear, renewals, renew_each}
use Rattle.rules.proofs.Truth.{by_cases}
use Rattle.rules.proofs.Words.{wear_sound, opening_sound}
use Rattle.rules.proofs.Shape.{target, page_after, store_after}
use Rattle.rules.proofs.Phases.{Pages, Fits, end, step, store_run, store_run_append, through_append, after_amid, here_fits, word_run}
use Rattle.rules.proofs.Building.{Doable, word_any}

-- a renewed page
abbrev pub fresh : (edition k' wear : ℕ) → List Word
fresh edition k' wear = wear_word edition wear ∷ replicate k' blank_word

-- the pages as renewed, g being the greatest wear when the first of them has its turn
unfoldable pub renewed : (edition k' : ℕ) → (ℕ → State → Bool) → (g i : ℕ) → Pages → Pages
renewed edition k' picks g i [] = []
renewed edition k' picks g i (pg ∷ F) =
    let wear = renewed_wear g (wear_in edition pg) in
    cond (picks i (state edition pg)) (fresh edition k' wear ∷ renewed edition k' picks (max g wear) (suc i) F)
    (pg ∷ renewed edition k' picks g (suc i) F)

pub next_length : (f : Pages) (qg : List Word) → length (f ++ qg ∷ []) ≡ suc (length f)
next_length f qg = let e = length-append f (qg ∷ []) in omega arith

module _ (edition k' : ℕ) (f : Pages) (pg : List Word) (r : Pages) (wear : ℕ) where
  pub erased : store_after (suc k') (erase (length f)) (f ++ pg ∷ r) ≡ f ++ replicate (suc k') blank_word ∷ r
  unfolding target page_after
  erased = after_amid (suc k') f pg r (erase (length f)) refl

  pub renew_run : store_run (suc k') (renew edition (length f) wear) (f ++ pg ∷ r) ≡ f ++ fresh edition k' wear ∷ r
  unfolding renew store_run
  renew_run =
      ap (store_run (suc k') (word_steps (length f) 0 (wear_word edition wear))) erased
      ∙ word_run (suc k') f r [] (replicate k' blank_word) (wear_word edition wear)

module _ (edition k' : ℕ) (picks : ℕ → State → Bool) where
  -- the steps for the pages from the i-th on
  abbrev pub rest_steps : (g i : ℕ) → Pages → List Step
  rest_steps g i F = renew_each edition (renewals picks g i (map (page edition) F))

  onward : (g : ℕ) (f : Pages) (qg : List Word) (F : Pages)
      → store_run (suc k') (rest_steps g (length (f ++ qg ∷ [])) F) ((f ++ qg ∷ []) ++ F)
      ≡ (f ++ qg ∷ []) ++ renewed edition k' picks g (length (f ++ qg ∷ [])) F
      → store_run (suc k') (rest_steps g (suc (length f)) F) (f ++ qg ∷ F) ≡ f ++ qg ∷ renewed edition k' picks g (suc (length f)) F
  onward g f qg F h = rw (next_length f qg, append_snoc f qg F, append_snoc f qg (renewed edition k' picks g (suc (length f)) F)) at h

  pub renewals_run : (g : ℕ) (f F : Pages) → store_run (suc k') (rest_steps g (length f) F) (f ++ F) ≡ f ++ renewed edition k' picks g (length f) F
  unfolding renewals each renewed page store_run
  renewals_run g f [] = refl
  renewals_run g f (pg ∷ F) =
      by_cases (picks (length f) (state edition pg))
      (λ t.
      let w = renewed_wear g (wear_in edition pg) in
      let rest = rest_steps (max g w) (suc (length f)) F in
      rw t
      (store_run_append (suc k') (renew edition (length f) w) rest (f ++ pg ∷ F)
      ∙ ap (store_run (suc k') rest) (renew_run edition k' f pg F w)
      ∙ onward (max g w) f (fresh edition k' w) F (renewals_run (max g w) (f ++ fresh edition k' w ∷ []) F)))
      (λ t. rw t (onward g f pg F (renewals_run g (f ++ pg ∷ []) F)))

-- what is not picked may change without a renewal changing
pub renewals_set : (edition : ℕ) (picks : ℕ → State → Bool) (g k p : ℕ) (x : List Word) (F : Pages) → ((s : State) → picks (k + p) s ≡ false)
    → renewals picks g k (map (page edition) (set F p x)) ≡ renewals picks g k (map (page edition) F)
unfolding renewals
renewals_set edition picks g k p x [] h = refl
renewals_set edition picks g k zero x (y ∷ F) h =
    let e : k + 0 ≡ k = omega arith in
    let n : (s : State) → picks k s ≡ false = λ s. subst (λ (m : ℕ). picks m s ≡ false) e (h s) in
    rw (n (page edition x).state, n (page edition y).state)
renewals_set edition picks g k (suc p) x (y ∷ F) h =
    let e : k + suc p ≡ suc k + p = omega arith in
    let rest : (m : ℕ) → renewals picks m (suc k) (map (page edition) (set F p x)) ≡ renewals picks m (suc k) (map (page edition) F) =
    λ m. renewals_set edition picks m (suc k) p x F (λ s. subst (λ (m : ℕ). picks m s ≡ false) e (h s)) in
    rw (rest g, rest (max g (renewed_wear g (page edition y).wear)))

-- nor what has its state and its wear still
pub renewals_alike : (edition : ℕ) (picks : ℕ → State → Bool) (g k : ℕ) (f : Pages) (pg qg : List Word) (r : Pages)
    → state edition pg ≡ state edition qg → wear_in edition pg ≡ wear_in edition qg
    → renewals picks g k (map (page edition) (f ++ pg ∷ r)) ≡ renewals picks g k (map (page edition) (f ++ qg ∷ r))
unfolding renewals page
renewals_alike edition picks g k [] pg qg r s w = rw (s, w)
renewals_alike edition picks g k (x ∷ f) pg qg r s w =
    let rest : (m : ℕ) → renewals picks m (suc k) (map (page edition) (f ++ pg ∷ r)) ≡ renewals picks m (suc k) (map (page edition) (f ++ qg ∷ r)) =
    λ m. renewals_alike edition picks m (suc k) f pg qg r s w in
    rw (rest g, rest (max g (renewed_wear g (wear_in edition x))))

pub greatest_alike : (edition : ℕ) (f : Pages) (pg qg : List Word) (r : Pages) → wear_in edition pg ≡ wear_in edition qg
    → greatest_wear (map (page edition) (f ++ pg ∷ r)) ≡ greatest_wear (map (page edition) (f ++ qg ∷ r))
unfolding greatest_wear greatest page
greatest_alike edition [] pg qg r w = rw w
greatest_alike edition (x ∷ f) pg qg r w = ap (max (or_value (wear_in edition x) 0)) (greatest_alike edition f pg qg r w)

-- ---- format, of whatever stood there

module _ (edition k' : ℕ) where
  renew_any : (f : Pages) (pg : List Word) (r : Pages) (wear : ℕ) → Doable (suc k') (renew edition (length f) wear) (f ++ pg ∷ r)
  unfolding renew Fits
  renew_any f pg r wear =
      let rest = word_any (suc k') f r [] (replicate k' blank_word) (wear_word edition wear) (wear_sound edition wear) in
      step (here_fits (suc k') f pg r) tt (λ may G x. tt) (subst (Doable (suc k') _) (sym (erased edition k' f pg r wear)) rest)

  abbrev all_fresh : Pages → Pages
  all_fresh r = replicate (length r) (fresh edition k' 1)

  renew_all_run : (f r : Pages) → store_run (suc k') (renew_all edition (length f) (length r)) (f ++ r) ≡ f ++ all_fresh r
  unfolding renew_all store_run
  renew_all_run f [] = refl
  renew_all_run f (pg ∷ r) =
      let q = fresh edition k' 1 in
      store_run_append (suc k') (renew edition (length f) 1) (renew_all edition (suc (length f)) (length r)) (f ++ pg ∷ r)
      ∙ ap (store_run (suc k') (renew_all edition (suc (length f)) (length r))) (renew_run edition k' f pg r 1)
      ∙ (rw (next_length f q, append_snoc f q r, append_snoc f q (all_fresh r)) at (renew_all_run (f ++ q ∷ []) r))

  renew_all_through : (f r : Pages) → Doable (suc k') (renew_all edition (length f) (length r)) (f ++ r)
  unfolding renew_all
  renew_all_through f [] = end tt
  renew_all_through f (pg ∷ r) =
      let q = fresh edition k' 1 in
      let later = renew_all edition (suc (length f)) (length r) in
      through_append later (renew_any f pg r 1)
      (subst (Doable (suc k') later) (sym (renew_run edition k' f pg r 1)) (rw (next_length f q, append_snoc f q r) at (renew_all_through (f ++ q ∷ []) r)))

module _ (edition m : ℕ) where
  -- page 0, and the others
  abbrev pub opened : List Word
  opened = wear_word edition 1 ∷ opening_word 1 0 ∷ replicate (suc m) blank_word

  abbrev pub formatted : ℕ → Pages
  formatted n' = opened ∷ replicate n' (fresh edition (suc (suc m)) 1)

  pub format_run : (pg : List Word) (r : Pages) → store_run (suc (suc (suc m))) (format_steps edition (suc (length r))) (pg ∷ r) ≡ formatted (length r)
  unfolding format_steps
  format_run pg r =
      store_run_append (suc (suc (suc m))) (renew_all edition 0 (suc (length r))) (word_steps 0 opening_place (opening_word 1 0)) (pg ∷ r)
      ∙ ap (store_run (suc (suc (suc m))) (word_steps 0 opening_place (opening_word 1 0))) (renew_all_run edition (suc (suc m)) [] (pg ∷ r))
      ∙ word_run (suc (suc (suc m))) [] (replicate (length r) (fresh edition (suc (suc m)) 1)) (wear_word edition 1 ∷ [])
      (replicate (suc m) blank_word) (opening_word 1 0)

  pub format_through : (pg : List Word) (r : Pages) → Doable (suc (suc (suc m))) (format_steps edition (suc (length r))) (pg ∷ r)
  unfolding format_steps
  format_through pg r =
      through_append (word_steps 0 opening_place (opening_word 1 0)) (renew_all_through edition (suc (suc m)) [] (pg ∷ r))
      (subst (Doable (suc (suc (suc m))) (word_steps 0 opening_place (opening_word 1 0))) (sym (renew_all_run edition (suc (suc m)) [] (pg ∷ r)))
      (word_any (suc (suc (suc m))) [] (replicate (length r) (fresh edition (suc (suc m)) 1)) (wear_word edition 1 ∷ []) (replicate (suc m) blank_word)
      (opening_word 1 0) (opening_sound 1 0)))
