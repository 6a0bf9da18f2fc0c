-- The cleared page of least wear, by the roles of the pages.
use Rattle.std.specs.Prelude.{ℕ, suc, List, [], ◌∷◌, Option, None, Some}
use Rattle.rules.specs.Store.{Candidate, nobody, page, better}
use Rattle.survey.specs.declared.Role.{Role}
use Rattle.survey.specs.declared.Role.TheVariants.{Used, Cleared, Unclean}
use Rattle.choosing.specs.declared.Candidate.{Candidate as Choice}

-- the candidate that a page of that role is: nobody, if it is not cleared
abbrev pub offer : (index : ℕ) → Role → Candidate
offer k (Used o) = nobody
offer k (Cleared wear) = page k wear
offer k Unclean = nobody

-- the candidate that the code's is
abbrev pub as_candidate : Option Choice → Candidate
as_candidate None = nobody
as_candidate (Some b) = page b.index b.wear

-- the best of the pages of these roles, the first of which has that index
unfoldable pub least : (index : ℕ) → List Role → Candidate
least k [] = nobody
least k (r ∷ rs) = better (offer k r) (least (suc k) rs)

-- the best of all pages
abbrev pub chosen : List Role → Candidate
chosen rs = least 0 rs

-- its index, if there is one
abbrev pub index_in : Candidate → Option ℕ
index_in nobody = None
index_in (page k wear) = Some k
