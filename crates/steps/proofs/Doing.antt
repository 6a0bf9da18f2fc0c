-- Steps that were done under an allowance, and those that are done behind them. Assumes nothing.
use Prim.Native.Nat.{ℕ, ◌≤◌, ◌<◌}
use mathlib.Core.Path.{◌≡◌, refl, sym, ap, ◌∙◌}
use mathlib.Core.List.{List, [], ◌∷◌, ◌++◌}
use native.Mathlib.Omega.{arith}
use lib.ListN.{length, take, length-append}
use lib.Seq.{take-nil, take_all}
use Rattle.rules.specs.Flash.{Step, after, run}
use Rattle.rules.specs.Page.{size}
use Rattle.rules.proofs.Cut.{length_after, page_within}
use Rattle.rules.proofs.Plans.{allowed_cut, cut_run}
use Rattle.pages.specs.Read.{as_form}
use Rattle.steps.specs.declared.Steps.{Steps}
use Rattle.steps.specs.Done.{HasPage, HasPages, May, Done}

run_length : (size : ℕ) (ss : List Step) (i : List ℕ) → length (run size ss i) ≡ length i
unfolding run
run_length size [] i = refl
run_length size (s ∷ ss) i = run_length size ss (after size s i) ∙ length_after size s i

-- each of the first n pages lies in the image
pub page_of : (s : Steps) (n k : ℕ) → HasPages s n → k < n → HasPage s k
page_of s n k h l = (omega (arith, h.0), omega (arith, page_within (size (as_form s.form)) n k l, h.1))

-- no step, and no allowance
pub done_nothing : (s : Steps) → Done s [] s
unfolding run
done_nothing s = record { same_image = refl; same_form = refl; left = omega arith; image = rw take-nil }

pub none_left : (s : Steps) (ss : List Step) → s.left ≡ 0 → Done s ss s
unfolding run
none_left s ss e = record { same_image = refl; same_form = refl; left = omega arith; image = rw e }

module _ {s t : Steps} {xs : List Step} (d : Done s xs t) where
  pub done_long : length t.image.now ≡ length s.image.now
  done_long = ap length d.image ∙ run_length (size (as_form s.form)) (take s.left xs) s.image.now

  -- what comes behind them may be done with what they left of the allowance
  pub may_next : (ys : List Step) → May s (xs ++ ys) → May t ys
  may_next ys h =
      rw (d.same_form, d.left, d.image) (allowed_cut (size (as_form s.form)) s.left xs ys s.image.now h).1

  pub done_then : {u : Steps} {ys : List Step} → Done t ys u → Done s (xs ++ ys) u
  done_then {u} {ys} e =
      record {
        same_image = e.same_image ∙ d.same_image;
        same_form = e.same_form ∙ d.same_form;
        left = omega (arith, e.left, d.left, length-append xs ys);
        image = (rw (d.same_form, d.left, d.image) at e.image) ∙ sym (cut_run (size (as_form s.form)) s.left xs ys s.image.now);
      }

  -- the pages of the image are there still
  pub pages_kept : (n : ℕ) → HasPages s n → HasPages t n
  pages_kept n h = (h.0, rw (d.same_form, done_long) h.1)

-- what comes first may be done
pub may_first : (s : Steps) (xs ys : List Step) → May s (xs ++ ys) → May s xs
may_first s xs ys h = (allowed_cut (size (as_form s.form)) s.left xs ys s.image.now h).0

-- all of them are, where the allowance has room for them
pub done_all : {s t : Steps} {ss : List Step} → Done s ss t → length ss ≤ s.left → t.image.now ≡ run (size (as_form s.form)) ss s.image.now
done_all {s} {t} {ss} d h = d.image ∙ ap (λ (xs : List Step). run (size (as_form s.form)) xs s.image.now) (take_all s.left ss h)
