-- Pages of words, and what they say: a list of pages parted at one of them. Assumes nothing.
use Prim.Native.Nat.{ℕ, zero, suc, ◌<◌}
use mathlib.Core.Path.{◌≡◌, refl, ap, ap₂, ◌∙◌}
use mathlib.Core.List.{List, [], ◌∷◌, ◌++◌, map, map-append, nil≢cons, head-eq_of_cons-eq, tail-eq_of_cons-eq}
use native.Mathlib.Omega.{arith}
use lib.ListN.{length, get_or}
use Rattle.rules.specs.Word.{Word}
use Rattle.rules.specs.Page.{Form, size, Page, page}
use Rattle.rules.specs.Store.{page_at}
use Rattle.rules.specs.Call.{cut, first_pages, page_in}
use Rattle.rules.proofs.Cut.{AllLength, cut_length, cut_page}
use Rattle.rules.proofs.Phases.{Pages}

-- what the pages say
abbrev pub told : (edition : ℕ) → Pages → List Page
told edition F = map (page edition) F

pub told_amid : (edition : ℕ) (f : Pages) (pg : List Word) (r : Pages) → told edition (f ++ pg ∷ r) ≡ told edition f ++ page edition pg ∷ told edition r
told_amid edition f pg r = map-append (page edition) f (pg ∷ r)

pub page_told : (edition : ℕ) (F : Pages) (p : ℕ) → p < length F → page_at p (told edition F) ≡ page edition (get_or F p [])
page_told edition [] p l = absurd (omega arith)
page_told edition (x ∷ F) zero l = refl
page_told edition (x ∷ F) (suc p) l = page_told edition F p (omega arith)

-- of an image
pub page_cut : (fm : Form) (n k : ℕ) (i : List ℕ) → k < n → page_at k (first_pages fm n i) ≡ page_in fm k i
page_cut fm n k i l =
    page_told fm.edition (cut (size fm) n i) k (omega (arith, cut_length (size fm) n i)) ∙ ap (page fm.edition) (cut_page (size fm) n k i l)

-- where what the pages say is parted, the pages can be
pub record Parted (edition : ℕ) (F : Pages) (fp : List Page) (p : Page) (rp : List Page) : Type 0 where
  pub front : Pages
  pub here : List Word
  pub rest : Pages
  pub form : F ≡ front ++ here ∷ rest
  pub front_told : told edition front ≡ fp
  pub here_told : page edition here ≡ p
  pub rest_told : told edition rest ≡ rp

pub parted : (edition : ℕ) (F : Pages) (fp : List Page) (p : Page) (rp : List Page) → told edition F ≡ fp ++ p ∷ rp → Parted edition F fp p rp
parted edition [] [] p rp e = absurd (nil≢cons e)
parted edition [] (x ∷ fp) p rp e = absurd (nil≢cons e)
parted edition (pg ∷ F) [] p rp e =
    record { front = []; here = pg; rest = F; form = refl; front_told = refl; here_told = head-eq_of_cons-eq e; rest_told = tail-eq_of_cons-eq e }
parted edition (pg ∷ F) (x ∷ fp) p rp e =
    let t = parted edition F fp p rp (tail-eq_of_cons-eq e) in
    record {
      front = pg ∷ t.front;
      here = t.here;
      rest = t.rest;
      form = ap (λ (G : Pages). pg ∷ G) t.form;
      front_told = ap₂ (λ (y : Page) (ys : List Page). y ∷ ys) (head-eq_of_cons-eq e) t.front_told;
      here_told = t.here_told;
      rest_told = t.rest_told;
    }

-- a page with room for its header is its header and its slots
pub record Headed (m : ℕ) (pg : List Word) : Type 0 where
  pub x : Word
  pub y : Word
  pub z : Word
  pub ws : List Word
  pub form : pg ≡ x ∷ y ∷ z ∷ ws

pub headed : (m : ℕ) (pg : List Word) → length pg ≡ suc (suc (suc m)) → Headed m pg
headed m [] e = absurd (let e' : 0 ≡ suc (suc (suc m)) = e in omega arith)
headed m (x ∷ []) e = absurd (let e' : 1 ≡ suc (suc (suc m)) = e in omega arith)
headed m (x ∷ y ∷ []) e = absurd (let e' : 2 ≡ suc (suc (suc m)) = e in omega arith)
headed m (x ∷ y ∷ z ∷ ws) e = record { x = x; y = y; z = z; ws = ws; form = refl }

-- the length of one of the pages
pub length_amid : (k : ℕ) (f : Pages) (pg : List Word) (r : Pages) → AllLength k (f ++ pg ∷ r) → length pg ≡ k
unfolding AllLength
length_amid k [] pg r h = h.0
length_amid k (x ∷ f) pg r h = length_amid k f pg r h.1
