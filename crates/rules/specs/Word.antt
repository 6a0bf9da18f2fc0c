-- W: words and their check.
use Rattle.std.specs.Prelude.{ℕ, zero, suc, ◌+◌, ◌-◌, ◌*◌, ◌/◌, ◌%◌, Bool, cond, ◌&&◌, List, [], ◌∷◌, eqb, leb}
use Rattle.rules.specs.Flash.{Step, program, first, second}

-- W1. Word: four bytes.
pub data Word : Type 0 where
  word : (a b c d : ℕ) → Word

-- the number of 0 bits among the lowest `width` bits
unfoldable pub zeros : (width : ℕ) → ℕ → ℕ
zeros zero n = 0
zeros (suc k) n = (1 - n % 2) + zeros k (n / 2)

-- W3. Check: the 0 bits of three bytes.
unfoldable pub check : ℕ → ℕ → ℕ → ℕ
check a b c = zeros 8 a + zeros 8 b + zeros 8 c

-- W4. Sound: the fourth byte is the check of the three before it.
unfoldable pub sound : Word → Bool
sound (word a b c d) = eqb d (check a b c)

-- W5. Blank: all four are 255.
unfoldable pub blank : Word → Bool
blank (word a b c d) = eqb a 255 && (eqb b 255 && (eqb c 255 && eqb d 255))

-- W13. Half-written: neither, and its second half is 65,535.
unfoldable pub second_blank : Word → Bool
second_blank (word a b c d) = eqb c 255 && eqb d 255

-- W6. Spoiled: none of these.
pub data Condition : Type 0 where
  Sound Blank HalfWritten Spoiled : Condition

unfoldable pub condition : Word → Condition
condition w = cond (sound w) Sound (cond (blank w) Blank (cond (second_blank w) HalfWritten Spoiled))

-- F1. Image: the numbers that a word's bytes make, low byte first.
unfoldable pub low16 : Word → ℕ
low16 (word a b c d) = a + 256 * b

unfoldable pub low24 : Word → ℕ
low24 (word a b c d) = a + 256 * b + 65536 * c

unfoldable pub third : Word → ℕ
third (word a b c d) = c

-- the sound word of three bytes
unfoldable pub checked : ℕ → ℕ → ℕ → Word
checked a b c = word a b c (check a b c)

-- W7. Wear word: the wear, then the edition.
unfoldable pub wear_word : (edition wear : ℕ) → Word
wear_word edition wear = checked (wear % 256) (wear / 256) edition

-- a number of three bytes, low byte first
unfoldable pub number_word : ℕ → Word
number_word n = checked (n % 256) (n / 256 % 256) (n / 65536)

-- W8. Opening word: order x 4 + kind; kind 1 is plain, kind 2 is receiving.
unfoldable pub opening_word : (kind order : ℕ) → Word
opening_word kind order = number_word (order * 4 + kind)

-- W9. Done word: order x 4 + 3.
unfoldable pub done_word : (order : ℕ) → Word
done_word order = number_word (order * 4 + 3)

-- W10. Record: address, value.
unfoldable pub record_word : (address value : ℕ) → Word
record_word address value = checked (address % 256) (address / 256) value

-- What a word is in a slot: a record, a mark, or neither, and then blank, half-written or spoiled.
pub data Slot : Type 0 where
  recorded : (address value : ℕ) → Slot
  opens closes : (number : ℕ) → Slot
  neither : Condition → Slot

-- W14. Marks: the values 1 to 8 open a group of that many records, 129 to 136 close one of 128 fewer; 0 abandons, which is to close a
-- group of no records, and there is none such. Any other value is spoiled.
unfoldable pub mark : (value : ℕ) → Slot
mark v = cond (eqb v 0) (closes 0) (cond (leb v 8) (opens v) (cond (leb 129 v && leb v 136) (closes (v - 128)) (neither Spoiled)))

-- the editions that have groups
unfoldable pub has_groups : (edition : ℕ) → Bool
has_groups edition = leb 2 edition

-- W11. Address 65,535: in a slot such a word is a mark, and without groups it counts as spoiled.
unfoldable pub sound_slot : (edition : ℕ) → Word → Slot
sound_slot edition w =
    cond (eqb (low16 w) 65535) (cond (has_groups edition) (mark (third w)) (neither Spoiled)) (recorded (low16 w) (third w))

unfoldable pub slot : (edition : ℕ) → Word → Slot
slot edition w = cond (sound w) (sound_slot edition w) (neither (condition w))

-- the mark of a value; it opens, closes or abandons
abbrev pub mark_word : (value : ℕ) → Word
mark_word value = record_word 65535 value

-- W2. How a word is programmed: the first half, then the second. W12. First halves of 65,535: they are a step like any other.
unfoldable pub word_steps : (page at : ℕ) → Word → List Step
word_steps p at (word a b c d) = program p at first a b ∷ program p at second c d ∷ []

-- the words of a list of bytes
unfoldable pub words : List ℕ → List Word
words [] = []
words (a ∷ []) = []
words (a ∷ b ∷ []) = []
words (a ∷ b ∷ c ∷ []) = []
words (a ∷ b ∷ c ∷ d ∷ bytes) = word a b c d ∷ words bytes
