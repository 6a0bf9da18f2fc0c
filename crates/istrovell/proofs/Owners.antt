-- The exported calls keep what the two programs that share a store are promised. Assumes nothing.
use mathlib.Core.Path.{refl}
use Rattle.rules.proofs.Named.{named_roomy}
use Rattle.promise.specs.Calls.{value_at, blank_value_at}
use Rattle.promise.specs.Owners.{reads, blank_reads}
use Rattle.promise.proofs.Owners.{neither_crowds, neither_shows}
use Rattle.istrovell.specs.Answers.{as_reading}
use Rattle.istrovell.specs.Demands.{all_naming}
use Rattle.istrovell.specs.Owners.{neither_owner_crowds_out_the_other, neither_owner_shows_in_the_others_reads}
use Rattle.istrovell.proofs.Demands.{obey, same_reading}

pub no_owner_crowds : neither_owner_crowds_out_the_other
no_owner_crowds P chip named = neither_crowds chip (named_roomy P chip named) (all_naming P) (obey P chip named)

pub no_owner_shows : neither_owner_shows_in_the_others_reads
no_owner_shows P Q one two named₁ named₂ timer own i j used₁ used₂ agree k l run₁ run₂ =
    let same =
    neither_shows one two (named_roomy P one named₁) (named_roomy Q two named₂) (all_naming P) (all_naming Q) (obey P one named₁) (obey Q two named₂) timer
    own i j used₁ used₂ agree k l run₁ run₂ in
    record {
      reads = λ a r s x y. same_reading r s (same (value_at timer a) (reads a) (as_reading r) (as_reading s) (r, x, refl) (s, y, refl));
      blank_reads = λ a r s x y. same_reading r s (same (blank_value_at timer a) (blank_reads a) (as_reading r) (as_reading s) (r, x, refl) (s, y, refl));
    }
