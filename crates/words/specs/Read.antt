-- What the code's types are in the rules' terms.
use Rattle.std.specs.Prelude.{ℕ, ◌+◌, List, get_or}
use Rattle.rules.specs.Word.{Word, word, low16, third, Blank, HalfWritten, Spoiled, Slot, recorded, opens, closes, neither}
use Rattle.words.specs.declared.Word.{Word as Bytes}
use Rattle.words.specs.declared.Slot.{Slot as Answer}
use Rattle.words.specs.declared.Slot.TheVariants as code

-- the word of four bytes
abbrev pub as_word : Bytes → Word
as_word w = word w.a w.b w.c w.d

-- what each case names: a record is that of the word
abbrev pub as_slot : Word → Answer → Slot
as_slot w code.Record = recorded (low16 w) (third w)
as_slot w (code.Opens n) = opens n
as_slot w (code.Closes n) = closes n
as_slot w code.Blank = neither Blank
as_slot w code.HalfWritten = neither HalfWritten
as_slot w code.Spoiled = neither Spoiled

-- the word that begins at an offset of a list of bytes
unfoldable pub word_in : List ℕ → ℕ → Word
word_in s at = word (get_or s at 0) (get_or s (at + 1) 0) (get_or s (at + 2) 0) (get_or s (at + 3) 0)
