-- The calls as a caller makes them: each names the page size of the image that it lends, and a write, a read or a blank read the owner.
use Rattle.std.specs.Prelude.{ℕ, Bool, cond, List, eqb}
use Rattle.std.proofs.Math.Option.{Option, none, some}
use Rattle.rules.specs.Page.{Form, Chip, in_edition}
use Rattle.rules.specs.Steps.{Change}
use Rattle.rules.specs.Owner.{named_owner}
use Rattle.rules.specs.Call.{SIZE, form_of, Formatted, Stepped, Reading, Pairing, format, recover, write, read, blank_read, lookup}
use Rattle.rules.specs.Call.{refused_format, refused_steps, refused_reading, refused_lookup}

-- P1. Form: the chips that there are. Pages of 1,024 bytes, and so 253 slots, are of the first edition or the second; pages of 2,048 bytes,
-- and so 509 slots, of the third, which is their only one.
abbrev pub smaller_chip : Chip
smaller_chip = record { slot_count = 253; first = 1; last = 2 }

abbrev pub larger_chip : Chip
larger_chip = record { slot_count = 509; first = 3; last = 3 }

-- the chip that a page size names, if it is one of the two
unfoldable pub chip_of : (page_size : ℕ) → Option Chip
chip_of n = cond (eqb n 1024) (some smaller_chip) (cond (eqb n 2048) (some larger_chip) none)

-- N1. SIZE: it is also given for any page size but these two. Else the call is that of the chip.
unfoldable pub on_chip : {A : Type 0} → Option Chip → (refused : A) (call : Chip → A) → A
on_chip none refused call = refused
on_chip (some c) refused call = call c

-- C1. Arguments: format is told the second edition or the first. A chip that has but one is not told it.
abbrev pub told_form : Chip → (second : Bool) → Form
told_form c second = in_edition c (cond second c.last c.first)

abbrev pub format_at : (page_size : ℕ) (second : Bool) → List ℕ → Formatted
format_at n second i = on_chip (chip_of n) (refused_format SIZE i) (λ c. format (told_form c second) i)

-- P10. every other call reads the image by its own edition
abbrev pub recover_at : (page_size allowance : ℕ) → List ℕ → Stepped
recover_at n allowance i = on_chip (chip_of n) (refused_steps SIZE i) (λ c. recover (form_of c i) allowance i)

abbrev pub write_at : (page_size : ℕ) (timer : Bool) → Change → (allowance : ℕ) → List ℕ → Stepped
write_at n timer change allowance i =
    on_chip (chip_of n) (refused_steps SIZE i) (λ c. write (form_of c i) (named_owner timer) change allowance i)

abbrev pub read_at : (page_size : ℕ) (timer : Bool) (address : ℕ) → List ℕ → Reading
read_at n timer a i = on_chip (chip_of n) (refused_reading SIZE) (λ c. read (form_of c i) (named_owner timer) a i)

abbrev pub blank_read_at : (page_size : ℕ) (timer : Bool) (address : ℕ) → List ℕ → Reading
blank_read_at n timer a i = on_chip (chip_of n) (refused_reading SIZE) (λ c. blank_read (form_of c i) (named_owner timer) a i)

abbrev pub lookup_at : (page_size : ℕ) → List ℕ → Pairing
lookup_at n i = on_chip (chip_of n) (refused_lookup SIZE) (λ c. lookup (form_of c i) i)

-- the number of a call, by the table of its chip
abbrev pub number_at : (page_size : ℕ) (table : (form : Form) → List ℕ → ℕ) → List ℕ → ℕ
number_at n table i = on_chip (chip_of n) SIZE (λ c. table (form_of c i) i)
