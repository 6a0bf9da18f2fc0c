-- S14. Owner: the two programs that share a store, which addresses each owns, and how many it may come to hold.
use Rattle.std.specs.Prelude.{ℕ, Bool, true, false, cond, not, ◌||◌, List, [], ◌∷◌, leb}
use Rattle.rules.specs.Page.{Page}
use Rattle.rules.specs.Store.{Setting, address_of, settings, count}

pub record Owner : Type 0 where
  pub owns : (address : ℕ) → Bool
  pub most : ℕ

-- The handset owns the addresses 0 to 32,767, the timer the rest. Neither may come to hold more than 128.
abbrev pub handset : Owner
handset = record { owns = λ a. leb a 32767; most = 128 }

abbrev pub timer : Owner
timer = record { owns = λ a. not (leb a 32767); most = 128 }

-- firmware from before there were owners: every address, and as many as a store may hold
abbrev pub anyone : Owner
anyone = record { owns = λ a. true; most = 192 }

-- C1. the one of the two that a call names
abbrev pub named_owner : (timer : Bool) → Owner
named_owner is_timer = cond is_timer timer handset

-- whether a setting is the owner's, and whether one of several is not
abbrev pub is_own : Owner → Setting → Bool
is_own o r = o.owns (address_of r)

unfoldable pub a_foreign : Owner → List Setting → Bool
a_foreign o [] = false
a_foreign o (r ∷ rs) = not (is_own o r) || a_foreign o rs

-- how many addresses of the owner are held
unfoldable pub held_by : Owner → List Page → ℕ
held_by o ps = count (is_own o) (settings ps)
