-- Calls that name a page size: what they are on its chip, and when they are refused as SIZE. Assumes nothing.
use Prim.Native.Nat.{ℕ}
use mathlib.Core.Path.{◌≡◌, refl, ap, ◌∙◌, subst, subst⁻¹}
use mathlib.Core.Bool.{Bool, true}
use mathlib.Core.List.{List}
use mathlib.Core.Option.{Option, none, some, none-ne-some, some-injective}
use native.Mathlib.Omega.{arith}
use lib.Dec.{eqb}
use borrow.Author.Tests.{eq-eqb, ne_eqb, eqb-true}
use Rattle.rules.specs.Page.{Form, size, Chip, in_edition}
use Rattle.rules.specs.Steps.{Change}
use Rattle.rules.specs.Owner.{Owner, named_owner}
use Rattle.rules.specs.Call.{SIZE, RoomyChip, form_of, wrong_size, store_rows, store_number, write_number, first_of, format, recover, write, read}
use Rattle.rules.specs.Call.{blank_read, lookup}
use Rattle.rules.specs.Call.{refused_format, refused_steps, refused_reading, refused_lookup}
use Rattle.rules.specs.Named.{smaller_chip, larger_chip, chip_of, on_chip, told_form, format_at, recover_at, write_at, read_at, blank_read_at}
use Rattle.rules.specs.Named.{lookup_at}
use Rattle.rules.proofs.Truth.{by_cases}
use Rattle.rules.proofs.Answers.{stepped_refused, read_refused, blank_read_else, lookup_refused, write_store}

-- ---- the chip of a size

pub size_smaller : (n : ℕ) → n ≡ 1024 → chip_of n ≡ some smaller_chip
unfolding chip_of
size_smaller n e = rw (eq-eqb n 1024 e)

pub size_larger : (n : ℕ) → n ≡ 2048 → chip_of n ≡ some larger_chip
unfolding chip_of
size_larger n e = rw (ne_eqb n 1024 (λ z. omega arith), eq-eqb n 2048 e)

pub size_other : (n : ℕ) → (n ≡ 1024 → ⊥) → (n ≡ 2048 → ⊥) → chip_of n ≡ none
unfolding chip_of
size_other n h k = rw (ne_eqb n 1024 h, ne_eqb n 2048 k)

-- whatever is so of both chips, each at its size, is so of the chip of a size
pub each_chip : (P : ℕ → Chip → Type 0) → P 1024 smaller_chip → P 2048 larger_chip → (n : ℕ) (c : Chip) → chip_of n ≡ some c → P n c
unfolding chip_of
each_chip P small large n c h =
    by_cases (eqb n 1024) (λ t. is 1024 smaller_chip small (eqb-true n 1024 t) (rw t at h))
    (λ t. by_cases (eqb n 2048) (λ u. is 2048 larger_chip large (eqb-true n 2048 u) (rw (t, u) at h)) (λ u. absurd (none-ne-some c (rw (t, u) at h))))
  where
    is : (m : ℕ) (d : Chip) → P m d → n ≡ m → some d ≡ some c → P n c
    is m d p e g = subst⁻¹ (λ (k : ℕ). P k c) e (subst (P m) (some-injective d c g) p)

-- a page has the size that is named, and takes all that may be held
pub named_size : (edition n : ℕ) (c : Chip) → chip_of n ≡ some c → size (in_edition c edition) ≡ n
named_size edition = each_chip (λ n c. size (in_edition c edition) ≡ n) refl refl

pub named_roomy : (n : ℕ) (c : Chip) → chip_of n ≡ some c → RoomyChip c
named_roomy = each_chip (λ n c. RoomyChip c) (omega arith, omega arith) (omega arith, omega arith)

-- ---- a call of a size

pub on_named : {A : Type 0} (o : Option Chip) (c : Chip) → o ≡ some c → (refused : A) (call : Chip → A) → on_chip o refused call ≡ call c
unfolding on_chip
on_named o c e refused call = rw e

-- the calls on the chip that is named
module _ (n : ℕ) (c : Chip) (named : chip_of n ≡ some c) (i : List ℕ) where
  pub format_named : (second : Bool) → format_at n second i ≡ format (told_form c second) i
  format_named second = on_named (chip_of n) c named (refused_format SIZE i) (λ d. format (told_form d second) i)

  pub recover_named : (allowance : ℕ) → recover_at n allowance i ≡ recover (form_of c i) allowance i
  recover_named allowance = on_named (chip_of n) c named (refused_steps SIZE i) (λ d. recover (form_of d i) allowance i)

  module _ (timer : Bool) where
    pub write_named : (change : Change) (allowance : ℕ) → write_at n timer change allowance i ≡ write (form_of c i) (named_owner timer) change allowance i
    write_named change allowance =
        on_named (chip_of n) c named (refused_steps SIZE i) (λ d. write (form_of d i) (named_owner timer) change allowance i)

    pub read_named : (a : ℕ) → read_at n timer a i ≡ read (form_of c i) (named_owner timer) a i
    read_named a = on_named (chip_of n) c named (refused_reading SIZE) (λ d. read (form_of d i) (named_owner timer) a i)

    pub blank_read_named : (a : ℕ) → blank_read_at n timer a i ≡ blank_read (form_of c i) (named_owner timer) a i
    blank_read_named a = on_named (chip_of n) c named (refused_reading SIZE) (λ d. blank_read (form_of d i) (named_owner timer) a i)

  pub lookup_named : lookup_at n i ≡ lookup (form_of c i) i
  lookup_named = on_named (chip_of n) c named (refused_lookup SIZE) (λ d. lookup (form_of d i) i)

pub on_none : {A : Type 0} (o : Option Chip) → o ≡ none → (refused : A) (call : Chip → A) → on_chip o refused call ≡ refused
unfolding on_chip
on_none o e refused call = rw e

-- refused, if it names no chip or the call refuses on the chip that it names
pub on_wrong : {A : Type 0} (o : Option Chip) (refused : A) (call : Chip → A) → ((c : Chip) → o ≡ some c → call c ≡ refused)
    → on_chip o refused call ≡ refused
unfolding on_chip
on_wrong none refused call h = refl
on_wrong (some c) refused call h = h c refl

module _ (f : Form) (i : List ℕ) (w : wrong_size f i ≡ true) where
  pub size_first : store_number f i ≡ SIZE
  unfolding store_number store_rows first_of
  size_first = rw w

  not_ok : store_number f i ≡ 0 → ⊥
  not_ok e = let s = size_first in omega arith

  pub recover_wrong : (n : ℕ) → recover f n i ≡ refused_steps SIZE i
  unfolding recover
  recover_wrong n = stepped_refused f (store_number f i) n _ i not_ok ∙ ap (λ (k : ℕ). refused_steps k i) size_first

  module _ (o : Owner) where
    pub write_wrong : (c : Change) (n : ℕ) → write f o c n i ≡ refused_steps SIZE i
    unfolding write
    write_wrong c n =
        let e : write_number f o c i ≡ SIZE = write_store f o c i not_ok ∙ size_first in
        stepped_refused f (write_number f o c i) n _ i (λ z. omega arith) ∙ ap (λ (k : ℕ). refused_steps k i) e

    pub read_wrong : (a : ℕ) → read f o a i ≡ refused_reading SIZE
    read_wrong a = read_refused f i o a not_ok ∙ ap refused_reading size_first

    pub blank_read_wrong : (a : ℕ) → blank_read f o a i ≡ refused_reading SIZE
    blank_read_wrong a =
        let e = read_wrong a in
        blank_read_else f i o a (λ z. let s : (read f o a i).number ≡ SIZE = rw e in omega arith) ∙ e

  pub lookup_wrong : lookup f i ≡ refused_lookup SIZE
  lookup_wrong = lookup_refused f i not_ok ∙ ap refused_lookup size_first
