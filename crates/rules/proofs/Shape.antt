-- An image seen as pages of words: what a step does to the one page that it works on. `k` is the number of words in a page.
-- Assumes nothing.
use Prim.Native.Nat.{ℕ, ◌<◌}
use mathlib.Core.Path.{◌≡◌}
use mathlib.Core.List.{List, [], ◌∷◌}
use lib.ListN.{get_or, set, replicate}
use Rattle.rules.specs.Flash.{Half, first, second, Step, program, erase, Rises}
use Rattle.rules.specs.Word.{Word, word}
use Rattle.rules.specs.Page.{blank_word}
use Rattle.rules.proofs.Words.{WordRises}

-- a word with one of its halves programmed
unfoldable pub with_half : Half → Word → ℕ → ℕ → Word
with_half first (word a b c d) low high = word low high c d
with_half second (word a b c d) low high = word a b low high

-- the page that a step works on, and that page after the step
unfoldable pub target : Step → ℕ
target (program p w h low high) = p
target (erase p) = p

unfoldable pub page_after : (k : ℕ) → Step → List Word → List Word
page_after k (program p w h low high) pg = set pg w (with_half h (get_or pg w blank_word) low high)
page_after k (erase p) pg = replicate k blank_word

-- bits rise in words, one by one
pub data WordsRise : List Word → List Word → Type 0 where
  none : WordsRise [] []
  more : {v w : Word} {vs ws : List Word} → WordRises v w → WordsRise vs ws → WordsRise (v ∷ vs) (w ∷ ws)

-- what a failing step may leave of its page
pub data PageFails : Step → List Word → List Word → Type 0 where
  half_way : {p w low high : ℕ} {h : Half} {pg qg : List Word} (low' high' : ℕ) → Rises 8 low low' → Rises 8 high high'
      → qg ≡ set pg w (with_half h (get_or pg w blank_word) low' high') → PageFails (program p w h low high) pg qg
  erasing : {p : ℕ} {pg qg : List Word} → WordsRise pg qg → PageFails (erase p) pg qg

-- the pages after a step, and what a failing step may leave
unfoldable pub store_after : (k : ℕ) → Step → List (List Word) → List (List Word)
store_after k s F = set F (target s) (page_after k s (get_or F (target s) []))

pub record StoreFails (s : Step) (F G : List (List Word)) : Type 0 where
  pub page : List Word
  pub fails : PageFails s (get_or F (target s) []) page
  pub rest : G ≡ set F (target s) page

-- a step that works within n pages of k words
unfoldable pub Within : (n k : ℕ) → Step → Type 0
Within n k (program p w h low high) = (p < n) × (w < k)
Within n k (erase p) = p < n
