-- F: what power does to flash. F1. Image: a list of bytes; a page is `size` of them.
use Rattle.std.specs.Prelude.{ℕ, zero, suc, ◌+◌, ◌*◌, ◌/◌, ◌%◌, ◌≤◌, ◌≡◌, List, [], ◌∷◌, length, take, drop, replicate}
use Rattle.std.proofs.lemmas.List.Edits.{sets}

-- F2. Half-word: a word of four bytes has two, each with its low byte first.
pub data Half : Type 0 where
  first second : Half

-- F3. Step: program one half-word, named by its page and its word there, or erase one page.
pub data Step : Type 0 where
  program : (page word : ℕ) → Half → (low high : ℕ) → Step
  erase : (page : ℕ) → Step

abbrev pub half_offset : Half → ℕ
half_offset first = 0
half_offset second = 2

-- where a step works
unfoldable pub offset : ℕ → Step → ℕ
offset size (program p w h low high) = p * size + 4 * w + half_offset h
offset size (erase p) = p * size

-- the bytes that a step is to leave there: an erased page is 255 throughout
unfoldable pub aim : ℕ → Step → List ℕ
aim size (program p w h low high) = low ∷ high ∷ []
aim size (erase p) = replicate size 255

-- the bytes that stand there
unfoldable pub bytes_at : ℕ → ℕ → List ℕ → List ℕ
bytes_at o n i = take n (drop o i)

-- F4. Program: allowed only where the half-word reads 65,535. F5. Erase: allowed of a page that lies in the image.
unfoldable pub Allowed : ℕ → Step → List ℕ → Type 0
Allowed size (program p w h low high) i = bytes_at (offset size (program p w h low high)) 2 i ≡ 255 ∷ 255 ∷ []
Allowed size (erase p) i = p * size + size ≤ length i

-- the image after a step
unfoldable pub after : ℕ → Step → List ℕ → List ℕ
after size s i = sets i (offset size s) (aim size s)

-- the image after a list of steps
unfoldable pub run : ℕ → List Step → List ℕ → List ℕ
run size [] i = i
run size (s ∷ ss) i = run size ss (after size s i)

-- each step of a list may be done when its turn comes
unfoldable pub AllAllowed : ℕ → List Step → List ℕ → Type 0
AllAllowed size [] i = Unit {0}
AllAllowed size (s ∷ ss) i = Allowed size s i × AllAllowed size ss (after size s i)

-- F9. Bits only rise: of the lowest `width` none falls from 1 to 0, each 0 may have become 1; the rest of the number is the same.
unfoldable pub Rises : (width : ℕ) → ℕ → ℕ → Type 0
Rises zero a b = a ≡ b
Rises (suc k) a b = (a % 2 ≤ b % 2) × Rises k (a / 2) (b / 2)

-- the same of bytes, one by one
pub data AllRise : List ℕ → List ℕ → Type 0 where
  none : AllRise [] []
  more : {a b : ℕ} {xs ys : List ℕ} → Rises 8 a b → AllRise xs ys → AllRise (a ∷ xs) (b ∷ ys)

-- What the bytes of a failing step rise from. F6. Failing program: from what was intended. F7. Failing erase: from what stood
-- there.
unfoldable pub least : ℕ → Step → List ℕ → List ℕ
least size (program p w h low high) i = low ∷ high ∷ []
least size (erase p) i = bytes_at (p * size) size i

-- F8. Nothing else: what a failing step may leave has no other bit changed.
pub record Fails (size : ℕ) (s : Step) (i j : List ℕ) : Type 0 where
  pub left : List ℕ
  pub rises : AllRise (least size s i) left
  pub image : j ≡ sets i (offset size s) left

-- F10. Between steps. Power fails in a list of steps: n of them are done, and the next, if there is one, is not begun or fails.
-- With n the number of steps, the list is finished. What they change may be an image or its pages: `does` is what a step makes
-- of it, and `Leaves` what it may leave of it if it fails.
pub data Left {S : Type 0} (does : Step → S → S) (Leaves : Step → S → S → Type 0) : ℕ → List Step → (before left : S) → Type 0 where
  between : {ss : List Step} {i : S} → Left does Leaves 0 ss i i
  failing : {s : Step} {ss : List Step} {i j : S} → Leaves s i j → Left does Leaves 0 (s ∷ ss) i j
  later : {n : ℕ} {s : Step} {ss : List Step} {i j : S} → Left does Leaves n ss (does s i) j → Left does Leaves (suc n) (s ∷ ss) i j
