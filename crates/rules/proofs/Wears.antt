-- The wear that a renewed page gets: it is by the greatest wear of all pages just before its erase. Assumes nothing.
use Prim.Native.Nat.{ℕ, zero, suc, ◌+◌, ◌≤◌, ◌<◌, max}
use mathlib.Core.Path.{◌≡◌, refl, sym, ap, ap₂, ◌∙◌, subst}
use mathlib.Core.Logic.{◌⊎◌, inl, inr, ⊎_elim}
use mathlib.Core.Bool.{Bool, true}
use mathlib.Core.List.{List, [], ◌∷◌, ◌++◌, map, map-append, append_assoc, nil≢cons, head-eq_of_cons-eq, tail-eq_of_cons-eq}
use mathlib.Core.Option.{Option, none, some}
use native.Mathlib.Omega.{arith}
use lib.ListN.{length, length-append, get_or}
use lib.Seq.{append_snoc, set-append_seam, get_or-set_other, get_or_at}
use Rattle.rules.specs.Flash.{Half, Step, program, erase}
use Rattle.rules.specs.Word.{Word, word, wear_word, word_steps}
use Rattle.rules.specs.Page.{wear_part, wear_in, State, Page, page, state, wear_place, slot_place}
use Rattle.rules.specs.Store.{each, greatest, or_value}
use Rattle.rules.specs.Steps.{renew, one_more, renewed_wear, greatest_wear, renewals, renew_each, slots_steps}
use Rattle.rules.proofs.Truth.{by_cases}
use Rattle.rules.proofs.Words.{wear_is}
use Rattle.rules.proofs.Pages.{wear_is_wear}
use Rattle.rules.proofs.Phases.{Pages, store_run, store_run_append}
use Rattle.rules.proofs.Told.{told, told_amid}
use Rattle.rules.proofs.Stores.{greatest_append}
use Rattle.rules.proofs.Renewing.{fresh, next_length, renew_run, rest_steps}

-- a renewed page has its new wear
pub fresh_wear : (edition k' n : ℕ) → wear_in edition (fresh edition k' n) ≡ some n
unfolding wear_in wear_part
fresh_wear edition k' n = rw (wear_is_wear edition n, wear_is edition n)

-- ---- the greatest by then

one_more_max : (a b : ℕ) → one_more (max a b) ≡ max (one_more a) (one_more b)
one_more_max a b = omega arith

-- a renewed page counts no less than it did
grows : (g : ℕ) (wear : Option ℕ) → one_more (or_value wear 0) ≤ one_more (renewed_wear g wear)
unfolding renewed_wear or_value
grows g none = omega arith
grows g (some n) = omega arith

same_renewed : (g h : ℕ) (wear : Option ℕ) → one_more g ≡ one_more h → renewed_wear g wear ≡ renewed_wear h wear
unfolding renewed_wear or_value
same_renewed g h none e = e
same_renewed g h (some n) e = refl

-- g gives the same new wear as the greatest of the pages: it is that, or both have reached the end
abbrev pub Tops : (edition g : ℕ) → Pages → Type 0
Tops edition g F = one_more g ≡ one_more (greatest_wear (told edition F))

-- ---- where a page is erased

none_there : (before : List Step) (s : Step) (after : List Step) → [] ≡ before ++ s ∷ after → ⊥
none_there [] s after e = nil≢cons e
none_there (x ∷ before) s after e = nil≢cons e

no_erase : {A : Type 0} {k w p low high : ℕ} {h : Half} → program k w h low high ≡ erase p → A
no_erase e = let z : ◌≡◌ {A = ℕ} 0 1 = cc in absurd (omega arith)

-- of a page's renewal and the steps behind it: at once, or behind the renewal
abbrev Now : (k p : ℕ) (v : Word) (rest before after : List Step) → Type 0
Now k p v rest before after = (before ≡ []) × (k ≡ p) × (after ≡ word_steps k wear_place v ++ rest)

abbrev Later : (k p : ℕ) (v : Word) (rest before after : List Step) → Type 0
Later k p v rest before after = (b : List Step) × (before ≡ erase k ∷ word_steps k wear_place v ++ b) × (rest ≡ b ++ erase p ∷ after)

split : (k p : ℕ) (v : Word) (rest before after : List Step) → erase k ∷ word_steps k wear_place v ++ rest ≡ before ++ erase p ∷ after
    → Now k p v rest before after ⊎ Later k p v rest before after
unfolding word_steps
split k p (word a b c d) rest [] after e = inl (refl, cc, sym (tail-eq_of_cons-eq e))
split k p (word a b c d) rest (s ∷ []) after e = no_erase (head-eq_of_cons-eq (tail-eq_of_cons-eq e))
split k p (word a b c d) rest (s ∷ t ∷ []) after e = no_erase (head-eq_of_cons-eq (tail-eq_of_cons-eq (tail-eq_of_cons-eq e)))
split k p (word a b c d) rest (s ∷ t ∷ u ∷ before) after e =
    let e₁ = tail-eq_of_cons-eq e in
    let e₂ = tail-eq_of_cons-eq e₁ in
    let h₀ = head-eq_of_cons-eq e in
    let h₁ = head-eq_of_cons-eq e₁ in
    let h₂ = head-eq_of_cons-eq e₂ in
    inr (before, cc, tail-eq_of_cons-eq e₂)

-- words that are programmed come before any erase
past_word : (k at : ℕ) (v : Word) (rest before : List Step) (p : ℕ) (after : List Step) → word_steps k at v ++ rest ≡ before ++ erase p ∷ after
    → (b : List Step) × (before ≡ word_steps k at v ++ b) × (rest ≡ b ++ erase p ∷ after)
unfolding word_steps
past_word k at (word a b c d) rest [] p after e = no_erase (head-eq_of_cons-eq e)
past_word k at (word a b c d) rest (s ∷ []) p after e = no_erase (head-eq_of_cons-eq (tail-eq_of_cons-eq e))
past_word k at (word a b c d) rest (s ∷ t ∷ before) p after e =
    let e₁ = tail-eq_of_cons-eq e in
    let h₀ = head-eq_of_cons-eq e in
    let h₁ = head-eq_of_cons-eq e₁ in
    (before, cc, tail-eq_of_cons-eq e₁)

pub past_slots : (k at : ℕ) (ws : List Word) (rest before : List Step) (p : ℕ) (after : List Step) → slots_steps k at ws ++ rest ≡ before ++ erase p ∷ after
    → (b : List Step) × (before ≡ slots_steps k at ws ++ b) × (rest ≡ b ++ erase p ∷ after)
unfolding slots_steps
past_slots k at [] rest before p after e = (before, refl, e)
past_slots k at (w ∷ ws) rest before p after e =
    let first = word_steps k (slot_place at) w in
    let more = slots_steps k (suc at) ws in
    let h = past_word k (slot_place at) w (more ++ rest) before p after (sym (append_assoc first more rest) ∙ e) in
    let t = past_slots k (suc at) ws rest h.0 p after h.2 in
    (t.0, h.1 ∙ ap (λ (ss : List Step). first ++ ss) t.1 ∙ sym (append_assoc first more t.0), t.2)

-- at another index a page does not matter
pub beside : {A : Type 0} (f : List A) (x y : A) (r : List A) (q : ℕ) (d : A) → (q ≡ length f → ⊥) → get_or (f ++ x ∷ r) q d ≡ get_or (f ++ y ∷ r) q d
beside f x y r q d ne = ap (λ (l : List _). get_or l q d) (sym (set-append_seam f y r x)) ∙ get_or-set_other (f ++ y ∷ r) (length f) q x d ne

-- the greatest wear of pages with one in their midst
pub greatest_parted : (f : List Page) (p : Page) (r : List Page)
    → greatest_wear (f ++ p ∷ r) ≡ max (greatest_wear f) (max (or_value p.wear 0) (greatest_wear r))
unfolding greatest_wear greatest
greatest_parted f p r = ap greatest (map-append worn f (p ∷ r)) ∙ greatest_append (map worn f) (worn p ∷ map worn r)
  where
    worn : Page → ℕ
    worn p = or_value p.wear 0

module _ (edition k' : ℕ) where
  greatest_amid : (f : Pages) (pg : List Word) (r : Pages)
      → greatest_wear (told edition (f ++ pg ∷ r))
      ≡ max (greatest_wear (told edition f)) (max (or_value (wear_in edition pg) 0) (greatest_wear (told edition r)))
  unfolding page
  greatest_amid f pg r = ap greatest_wear (told_amid edition f pg r) ∙ greatest_parted (told edition f) (page edition pg) (told edition r)

  -- it still does when a page has been renewed
  tops_renewed : (g : ℕ) (f : Pages) (pg : List Word) (r : Pages) → Tops edition g (f ++ pg ∷ r)
      → let w = renewed_wear g (wear_in edition pg) in Tops edition (max g w) (f ++ fresh edition k' w ∷ r)
  unfolding or_value
  tops_renewed g f pg r h =
      let wear = wear_in edition pg in
      let w = renewed_wear g wear in
      let a = greatest_wear (told edition f) in
      let b = greatest_wear (told edition r) in
      let was : one_more g ≡ max (one_more a) (max (one_more (or_value wear 0)) (one_more b)) =
      h ∙ ap one_more (greatest_amid f pg r) ∙ one_more_max a (max (or_value wear 0) b) ∙ ap (max (one_more a)) (one_more_max (or_value wear 0) b) in
      one_more_max g w ∙ regroup (one_more a) (one_more b) (one_more (or_value wear 0)) (one_more g) (one_more w) was (grows g wear)
      ∙ ap (max (one_more a)) (sym (one_more_max w b)) ∙ sym (one_more_max a (max w b))
      ∙ ap one_more (rw (greatest_amid f (fresh edition k' w) r, fresh_wear edition k' w))
    where
      regroup : (a b o g w : ℕ) → g ≡ max a (max o b) → o ≤ w → max g w ≡ max a (max w b)
      regroup a b o g w e l = omega arith

  -- ---- a page when it is erased

  -- Of pages F, after the steps before its erase: those before it and behind it, it as it was, and the wear word that it gets.
  pub record Erased (picks : ℕ → State → Bool) (F : Pages) (before : List Step) (p : ℕ) (after : List Step) : Type 0 where
    pub front : Pages
    pub here : List Word
    pub rest : Pages
    pub by_then : store_run (suc k') before F ≡ front ++ here ∷ rest
    pub place : length front ≡ p
    pub inside : p < length F
    pub as_it_was : get_or F p [] ≡ here
    pub picked : picks p (state edition here) ≡ true
    pub behind : List Step
    pub gets : let wear = renewed_wear (greatest_wear (told edition (front ++ here ∷ rest))) (wear_in edition here) in
        after ≡ word_steps p wear_place (wear_word edition wear) ++ behind

  module _ (picks : ℕ → State → Bool) where
    -- the steps for the pages from the i-th on
    abbrev steps_for : (g i : ℕ) → Pages → List Step
    steps_for = rest_steps edition k' picks

    -- of a page that is renewed and those behind it
    module _ (g : ℕ) (f : Pages) (x : List Word) (F : Pages) (before : List Step) (p : ℕ) (after : List Step) where
      abbrev w : ℕ
      w = renewed_wear g (wear_in edition x)

      abbrev q : List Word
      q = fresh edition k' w

      at_once : (rest : List Step) → picks (length f) (state edition x) ≡ true → Tops edition g (f ++ x ∷ F)
          → Now (length f) p (wear_word edition w) rest before after
          → (length f ≤ p) × Erased picks (f ++ x ∷ F) before p after
      unfolding store_run
      at_once rest t tops now =
          let e = now.1 in (
            omega arith,
            record {
              front = f;
              here = x;
              rest = F;
              by_then = ap (λ (b : List Step). store_run (suc k') b (f ++ x ∷ F)) now.0;
              place = e;
              inside = omega (arith, length-append f (x ∷ F));
              as_it_was = get_or_at f x F [] p e;
              picked = subst (λ (k : ℕ). picks k (state edition x) ≡ true) e t;
              behind = rest;
              gets = now.2 ∙ ap₂ (λ (k n : ℕ). word_steps k wear_place (wear_word edition n) ++ rest) e
                  (same_renewed g (greatest_wear (told edition (f ++ x ∷ F))) (wear_in edition x) tops);
            },
          )

      behind_it : (b : List Step) → before ≡ renew edition (length f) w ++ b
          → (length (f ++ q ∷ []) ≤ p) × Erased picks ((f ++ q ∷ []) ++ F) b p after → (length f ≤ p) × Erased picks (f ++ x ∷ F) before p after
      behind_it b e next =
          let h = next.1 in
          let l : length f < p = omega (arith, next_length f q, next.0) in (
            omega arith,
            record {
              front = h.front;
              here = h.here;
              rest = h.rest;
              by_then = ap (λ (ss : List Step). store_run (suc k') ss (f ++ x ∷ F)) e
                  ∙ store_run_append (suc k') (renew edition (length f) w) b (f ++ x ∷ F)
                  ∙ ap (store_run (suc k') b) (renew_run edition k' f x F w ∙ sym (append_snoc f q F)) ∙ h.by_then;
              place = h.place;
              inside = omega (arith, h.inside, length-append (f ++ q ∷ []) F, next_length f q, length-append f (x ∷ F));
              as_it_was = beside f x q F p [] (λ e. omega arith) ∙ ap (λ (G : Pages). get_or G p []) (sym (append_snoc f q F)) ∙ h.as_it_was;
              picked = h.picked;
              behind = h.behind;
              gets = h.gets;
            },
          )

    -- g is as good as the greatest, and the steps that renew the pages F, behind pages f, erase page p
    pub erased_at : (g : ℕ) (f F : Pages) → Tops edition g (f ++ F) → (before : List Step) (p : ℕ) (after : List Step)
        → steps_for g (length f) F ≡ before ++ erase p ∷ after → (length f ≤ p) × Erased picks (f ++ F) before p after
    unfolding renewals each page renew
    erased_at g f [] tops before p after e = absurd (none_there before (erase p) after e)
    erased_at g f (x ∷ F) tops before p after e =
        by_cases (picks (length f) (state edition x))
        (λ t.
        let w = renewed_wear g (wear_in edition x) in
        let q = fresh edition k' w in
        let rest = steps_for (max g w) (suc (length f)) F in
        ⊎_elim (at_once g f x F before p after rest t tops)
        (λ (h : Later (length f) p (wear_word edition w) rest before after).
        behind_it g f x F before p after h.0 h.1
        (erased_at (max g w) (f ++ q ∷ []) F (subst (Tops edition (max g w)) (sym (append_snoc f q F)) (tops_renewed g f x F tops)) h.0 p after
        (ap (λ (k : ℕ). steps_for (max g w) k F) (next_length f q) ∙ h.2)))
        (split (length f) p (wear_word edition w) rest before after (rw t at e)))
        (λ t.
        let next = erased_at g (f ++ x ∷ []) F (subst (Tops edition g) (sym (append_snoc f x F)) tops) before p after
        (ap (λ (k : ℕ). steps_for g k F) (next_length f x) ∙ (rw t at e)) in
        (omega (arith, next_length f x, next.0), subst (λ (G : Pages). Erased picks G before p after) (append_snoc f x F) next.1))

further : (here before after : List Step) {ss : List Step} → ss ≡ before ++ after → here ++ ss ≡ (here ++ before) ++ after
further here before after e = ap (λ (ss : List Step). here ++ ss) e ∙ sym (append_assoc here before after)

-- a page that is picked is erased
pub is_erased : (edition : ℕ) (picks : ℕ → State → Bool) (g k : ℕ) (ps : List Page) (j p : ℕ) (d : Page) → j < length ps → k + j ≡ p
    → picks p (get_or ps j d).state ≡ true
    → (before : List Step) × (after : List Step) × (renew_each edition (renewals picks g k ps) ≡ before ++ erase p ∷ after)
unfolding renewals each renew
is_erased edition picks g k [] j p d l i t = absurd (omega arith)
is_erased edition picks g k (x ∷ ps) zero p d l i t =
    let e : k ≡ p = omega arith in
    let w = renewed_wear g x.wear in
    ([], word_steps p wear_place (wear_word edition w) ++ renew_each edition (renewals picks (max g w) (suc p) ps), rw (e, t))
is_erased edition picks g k (x ∷ ps) (suc j) p d l i t =
    by_cases (picks k x.state)
    (λ u.
    let w = renewed_wear g x.wear in
    let next = is_erased edition picks (max g w) (suc k) ps j p d (omega arith) (omega arith) t in
    (renew edition k w ++ next.0, next.1, rw u (further (renew edition k w) next.0 (erase p ∷ next.1) next.2)))
    (λ u. let next = is_erased edition picks g (suc k) ps j p d (omega arith) (omega arith) t in (next.0, next.1, rw u next.2))
