-- The listing of an image, from what was told when it was opened. Assumes nothing.
use Prim.Native.Nat.{ℕ}
use mathlib.Core.Path.{◌≡◌, refl, sym, ◌∙◌}
use mathlib.Core.List.{List, ◌++◌}
use lib.ListN.{length}
use borrow.Author.Tests.{eq-eqb}
use Rattle.rules.specs.Page.{Form}
use Rattle.rules.specs.Store.{Setting, held}
use Rattle.rules.specs.Call.{pages, store_number, accepted}
use Rattle.rules.specs.Listing.{decimal, text_refused, line_end}
use Rattle.rules.specs.Listing.{used_conditions, half, spoiled, first_line, setting_lines, listing}
use Rattle.rules.proofs.Answers.{not_accepted}
use Rattle.rules.proofs.Cut.{pages_long}
use Rattle.survey.specs.declared.refusal.Refusal.{Refusal}
use Rattle.survey.specs.Refusals.{number_of}
use Rattle.survey.proofs.Refusals.{is_refusal}
use Rattle.store.specs.declared.Store.{Store}
use Rattle.store.specs.Opened.{Holding}
use Rattle.broken.specs.declared.Broken.{Broken}
use Rattle.broken.specs.Counts.{Counts}
use Rattle.lines.specs.Told.{told_line}

-- an accepted image that was opened
module _ {fm : Form} {i : List ℕ} {r : Store} {t : List Setting} (h : Holding fm i r t)
    {b : Broken} (counts : Counts (used_conditions (pages fm i)) b) where
  abbrev pub first : List ℕ
  first = told_line r.look (length t) b

  told_first : first ≡ first_line (pages fm i)
  unfolding told_line first_line held half spoiled
  told_first =
      let n : r.look.count ≡ length (pages fm i) = h.told.counts ∙ sym (pages_long fm i) in
      rw (n, h.told.uses, h.told.clears, h.told.order, h.holds, counts.half, counts.spoiled) refl

  pub listed : first ++ setting_lines t ≡ listing fm i
  unfolding listing accepted
  listed = rw (told_first, h.holds, eq-eqb (store_number fm i) 0 h.accepted)

pub not_listed : (fm : Form) (i : List ℕ) (e : Refusal) → store_number fm i ≡ number_of e
    → text_refused ++ decimal (number_of e) ++ line_end ≡ listing fm i
unfolding listing
not_listed fm i e is = rw (not_accepted (store_number fm i) (λ z. is_refusal e (sym is ∙ z)), is)
