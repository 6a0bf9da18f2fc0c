-- X: the examples, those proved together: a single table, under the one statement at its end.
use Rattle.std.specs.Prelude.{ℕ, zero, suc, ◌+◌, Bool, true, false, ◌&&◌, List, [], ◌∷◌, ◌++◌, map, replicate, take, drop, T, eqb}
use Rattle.std.proofs.Math.Option.{Option, none, some}
use Rattle.rules.specs.Flash.{Step, program, erase, bytes_at}
use Rattle.rules.specs.Word.{Word, word, Condition, Sound, Blank, HalfWritten, Spoiled, condition, wear_word, opening_word, done_word, record_word}
use Rattle.rules.specs.Word.{mark_word, Slot, recorded, opens, closes, neither, slot}
use Rattle.rules.specs.Page.{Form, size, in_edition, blank_word, State, cleared, open₁, open₂, receiving, bad, Page}
use Rattle.rules.specs.Store.{Setting, setting, address_of, settings, held}
use Rattle.rules.specs.Steps.{recovery_steps, Change, single}
use Rattle.rules.specs.Listing.{half, spoiled}
use Rattle.rules.specs.Owner.{Owner, handset, timer}
use Rattle.rules.specs.Call.{form_of, pages, is_unclean, Stepped, Reading, Pairing, format, group_of, recover, write, read, blank_read, lookup}
use Rattle.rules.specs.Call.{first_of, write_only_rows}
use Rattle.rules.specs.Named.{smaller_chip, larger_chip, format_at, recover_at, write_at, read_at, blank_read_at, lookup_at}

-- a row: what the rules give, and what section X prints
pub data Row : Type 0 where
  row : (given printed : List ℕ) → Row

unfoldable pub same : List ℕ → List ℕ → Bool
same [] [] = true
same [] (y ∷ ys) = false
same (x ∷ xs) [] = false
same (x ∷ xs) (y ∷ ys) = eqb x y && same xs ys

unfoldable pub holds : List Row → Bool
holds [] = true
holds (row given printed ∷ rows) = same given printed && holds rows

-- how a row tells what it gives: a word by its bytes, its condition by a number, an answer by its fields in the order of section C
unfoldable pub bytes : Word → List ℕ
bytes (word a b c d) = a ∷ b ∷ c ∷ d ∷ []

abbrev pub SOUND : List ℕ
SOUND = 1 ∷ []

abbrev pub BLANK : List ℕ
BLANK = 2 ∷ []

abbrev pub HALF_WRITTEN : List ℕ
HALF_WRITTEN = 3 ∷ []

abbrev pub SPOILED : List ℕ
SPOILED = 4 ∷ []

unfoldable pub told : Condition → List ℕ
told Sound = SOUND
told Blank = BLANK
told HalfWritten = HALF_WRITTEN
told Spoiled = SPOILED

-- what a word is in a slot, by a number too, and behind it what the slot says
abbrev pub RECORD : (address value : ℕ) → List ℕ
RECORD a v = 5 ∷ a ∷ v ∷ []

abbrev pub OPENS : ℕ → List ℕ
OPENS n = 6 ∷ n ∷ []

abbrev pub CLOSES : ℕ → List ℕ
CLOSES n = 7 ∷ n ∷ []

unfoldable pub kind : Slot → List ℕ
kind (recorded a v) = RECORD a v
kind (opens n) = OPENS n
kind (closes n) = CLOSES n
kind (neither c) = told c

unfoldable pub said : Reading → List ℕ
said r = r.number ∷ r.value ∷ []

unfoldable pub yes_no : Bool → ℕ
yes_no true = 1
yes_no false = 0

unfoldable pub did : Stepped → List ℕ
did r = r.number ∷ r.steps ∷ yes_no r.finished ∷ []

unfoldable pub showed : Pairing → List ℕ
showed r = r.number ∷ yes_no r.paired ∷ r.digits

-- steps: an erase by its page, a half-word that is programmed by its two bytes
unfoldable pub done_by : List Step → List ℕ
done_by [] = []
done_by (program p w h low high ∷ ss) = low ∷ high ∷ done_by ss
done_by (erase p ∷ ss) = p ∷ done_by ss

-- a page as far as a recovery looks at it
abbrev pub page_with : State → Option ℕ → Page
page_with s wear = record { state = s; wear = wear; edition = 1; slots = [] }

-- a page with these slots and behind them a blank one; with three broken slots; and what is counted of several pages
abbrev pub page_of : (edition : ℕ) → List Word → State → Page
page_of edition ws s = record { state = s; wear = some 1; edition = edition; slots = ws ++ blank_word ∷ [] }

abbrev pub page_broken : State → Page
page_broken = page_of 1 (word 0x05 0x00 0xFF 0xFF ∷ word 0x05 0x00 0x43 0x14 ∷ word 0xFF 0xFF 0xFF 0x00 ∷ [])

unfoldable pub broken : List Page → List ℕ
broken ps = half ps ∷ spoiled ps ∷ []

-- the slots of X12's table: records of the addresses 5 and 7, marks that open, close and abandon, a spoiled slot
abbrev pub A : Word
A = record_word 5 65

abbrev pub B : Word
B = record_word 7 200

abbrev pub O : ℕ → Word
O n = mark_word n

abbrev pub C : ℕ → Word
C n = mark_word (128 + n)

abbrev pub AB : Word
AB = mark_word 0

abbrev pub SP : Word
SP = word 0x05 0x00 0x43 0x14

-- a store of the second edition whose active page begins with such slots: 1 if it waits for recovery, else 0, and the addresses held
abbrev pub store_with : List Word → List Page
store_with ws = page_of 2 ws (open₁ 0) ∷ page_of 2 [] (cleared 1) ∷ []

unfoldable pub stands : List Word → List ℕ
stands ws = yes_no (is_unclean (store_with ws)) ∷ map address_of (settings (store_with ws))

-- the forms of the three editions
abbrev pub form₁ : Form
form₁ = in_edition smaller_chip 1

abbrev pub form₂ : Form
form₂ = in_edition smaller_chip 2

abbrev pub form₃ : Form
form₃ = in_edition larger_chip 3

-- bytes of 255
abbrev pub empty_flash : ℕ → List ℕ
empty_flash n = replicate n 0xFF

-- the numbers that all calls give, as a call of each on an image, at a page size
unfoldable pub numbers : (page_size : ℕ) → List ℕ → List ℕ
numbers P i =
    (format_at P false i).number ∷ (recover_at P 65535 i).number ∷ (write_at P false (single 0 0) 65535 i).number
    ∷ (read_at P false 0 i).number ∷ (blank_read_at P false 0 i).number ∷ (lookup_at P i).number ∷ []

-- finished writes, one after the other
unfoldable pub written : List Setting → List ℕ → List ℕ
written [] i = i
written (setting a v ∷ rest) i = written rest (write form₁ handset (single a v) 65535 i).image

abbrev pub digits : List Setting
digits = setting 16 0 ∷ setting 17 255 ∷ setting 19 0 ∷ setting 18 7 ∷ setting 18 0 ∷ []

-- X11's code as one group, by its lent bytes, and the image after so many steps of its write
abbrev pub code_group : Change
code_group = group_of (0x10 ∷ 0x00 ∷ 0x07 ∷ 0x11 ∷ 0x00 ∷ 0x01 ∷ 0x12 ∷ 0x00 ∷ 0x03 ∷ 0x13 ∷ 0x00 ∷ 0x09 ∷ [])

abbrev pub code_after : (steps : ℕ) → List ℕ → List ℕ
code_after n i = (write form₂ handset code_group n i).image

-- what the finished write of a group answers, by its lent bytes; those of nine settings
unfoldable pub grouped : Form → (lent : List ℕ) → List ℕ → List ℕ
grouped form lent i = did (write form handset (group_of lent) 65535 i)

abbrev pub nine : List ℕ
nine = 0 ∷ 0 ∷ 1 ∷ 1 ∷ 0 ∷ 1 ∷ 2 ∷ 0 ∷ 1 ∷ 3 ∷ 0 ∷ 1 ∷ 4 ∷ 0 ∷ 1 ∷ 5 ∷ 0 ∷ 1 ∷ 6 ∷ 0 ∷ 1 ∷ 7 ∷ 0 ∷ 1 ∷ 8 ∷ 0 ∷ 1 ∷ []

-- the edition of an image, and an image whose page 1 is of the first edition
abbrev pub edition_in : List ℕ → ℕ
edition_in i = (form_of smaller_chip i).edition

abbrev pub mixed : (two_pages second : List ℕ) → List ℕ
mixed two_pages second = take 1024 second ++ drop 1024 two_pages

-- the image with these four bytes at an offset
unfoldable pub with_word : (offset : ℕ) → Word → List ℕ → List ℕ
with_word n w i = take n i ++ (bytes w ++ drop (n + 4) i)

-- what a read and a blank read by an owner answer, and its write of a value at an address
unfoldable pub reads_of : Owner → (address : ℕ) → List ℕ → List ℕ
reads_of o a i = said (read form₂ o a i) ++ said (blank_read form₂ o a i)

unfoldable pub write_of : Owner → (address value : ℕ) → List ℕ → List ℕ
write_of o a v i = did (write form₂ o (single a v) 65535 i)

-- a store with the records of n addresses from the greatest, n - 1 more than a first, down to it; and the numbers that writes of new
-- addresses by an owner get there, each of one, of a group of all
unfoldable pub filled : (first n : ℕ) → List Word
filled first zero = []
filled first (suc n) = record_word (first + n) 1 ∷ filled first n

unfoldable pub told_by : Owner → List Word → Change → ℕ
told_by o ws c = first_of (write_only_rows 2 o c (store_with ws))

-- the rows; two-pages is the image of two formatted pages, second that of two of the second edition, third that of two of 2,048 bytes
unfoldable pub rows : (two_pages second third : List ℕ) → List Row
rows two_pages second third =
    -- X1. Words. Record (5, 65)
    row (bytes (record_word 5 65)) (0x05 ∷ 0x00 ∷ 0x41 ∷ 0x14 ∷ [])
    ∷ row (told (condition (word 0x05 0x00 0x41 0x14))) SOUND
    ∷ row (kind (slot 1 (word 0x05 0x00 0x41 0x14))) (RECORD 5 65)
    -- X1. Record (0, 0), record (65534, 255)
    ∷ row (bytes (record_word 0 0)) (0x00 ∷ 0x00 ∷ 0x00 ∷ 0x18 ∷ [])
    ∷ row (bytes (record_word 65534 255)) (0xFE ∷ 0xFF ∷ 0xFF ∷ 0x01 ∷ [])
    -- X1. Wear 1, wear 258
    ∷ row (bytes (wear_word 1 1)) (0x01 ∷ 0x00 ∷ 0x01 ∷ 0x16 ∷ [])
    ∷ row (bytes (wear_word 1 258)) (0x02 ∷ 0x01 ∷ 0x01 ∷ 0x15 ∷ [])
    -- X1. Opening, order 0, kind 1; order 1, kind 2; done
    ∷ row (bytes (opening_word 1 0)) (0x01 ∷ 0x00 ∷ 0x00 ∷ 0x17 ∷ [])
    ∷ row (bytes (opening_word 2 1)) (0x06 ∷ 0x00 ∷ 0x00 ∷ 0x16 ∷ [])
    ∷ row (bytes (done_word 1)) (0x07 ∷ 0x00 ∷ 0x00 ∷ 0x15 ∷ [])
    -- X1, X2. A half-written word, and a spoiled one; FF FF FF 00 in a slot, and as a done word; a blank word is neither
    ∷ row (told (condition (word 0x05 0x00 0xFF 0xFF))) HALF_WRITTEN
    ∷ row (told (condition (word 0x05 0x00 0x43 0x14))) SPOILED
    ∷ row (kind (slot 1 (word 0xFF 0xFF 0xFF 0x00))) SPOILED
    ∷ row (bytes (done_word 4194303)) (0xFF ∷ 0xFF ∷ 0xFF ∷ 0x00 ∷ [])
    ∷ row (told (condition (word 0xFF 0xFF 0xFF 0x00))) SOUND
    ∷ row (told (condition (word 0xFF 0xFF 0xFF 0xFF))) BLANK
    -- X1. Of the second edition: wear 1; marks that open 4, close 4 and abandon, which in the first are spoiled
    ∷ row (bytes (wear_word 2 1)) (0x01 ∷ 0x00 ∷ 0x02 ∷ 0x16 ∷ [])
    ∷ row (kind (slot 2 (word 0xFF 0xFF 0x04 0x07))) (OPENS 4)
    ∷ row (kind (slot 2 (word 0xFF 0xFF 0x84 0x06))) (CLOSES 4)
    ∷ row (kind (slot 2 (word 0xFF 0xFF 0x00 0x08))) (CLOSES 0)
    ∷ row (kind (slot 2 (word 0xFF 0xFF 0xFF 0x00))) SPOILED
    ∷ row (kind (slot 1 (word 0xFF 0xFF 0x04 0x07))) SPOILED
    ∷ row (kind (slot 1 (word 0xFF 0xFF 0x84 0x06))) SPOILED
    ∷ row (kind (slot 1 (word 0xFF 0xFF 0x00 0x08))) SPOILED
    -- X7. Answers. Lengths that are SIZE, at every call
    ∷ row (numbers 1024 (empty_flash 0)) (1 ∷ 1 ∷ 1 ∷ 1 ∷ 1 ∷ 1 ∷ [])
    ∷ row (numbers 1024 (empty_flash 1024)) (1 ∷ 1 ∷ 1 ∷ 1 ∷ 1 ∷ 1 ∷ [])
    ∷ row (numbers 1024 (empty_flash 2049)) (1 ∷ 1 ∷ 1 ∷ 1 ∷ 1 ∷ 1 ∷ [])
    ∷ row (numbers 1024 (empty_flash 33792)) (1 ∷ 1 ∷ 1 ∷ 1 ∷ 1 ∷ 1 ∷ [])
    -- X7. 2,048 bytes of 255: NO STORE, but to format. Formatted two pages, read 0: NOT HELD; blank read 0.
    ∷ row (numbers 1024 (empty_flash 2048)) (0 ∷ 2 ∷ 2 ∷ 2 ∷ 2 ∷ 2 ∷ [])
    ∷ row (said (read form₁ handset 0 two_pages)) (8 ∷ 0 ∷ [])
    ∷ row (said (blank_read form₁ handset 0 two_pages)) (0 ∷ 0 ∷ [])
    -- X7. Write (5, 65), allowance 1: 1 step, unfinished, 5 not held. Allowance 2 instead: finished, 65.
    ∷ row (did (write form₁ handset (single 5 65) 1 two_pages)) (0 ∷ 1 ∷ 0 ∷ [])
    ∷ row (said (read form₁ handset 5 (write form₁ handset (single 5 65) 1 two_pages).image)) (8 ∷ 0 ∷ [])
    ∷ row (did (write form₁ handset (single 5 65) 2 two_pages)) (0 ∷ 2 ∷ 1 ∷ [])
    ∷ row (said (read form₁ handset 5 (write form₁ handset (single 5 65) 2 two_pages).image)) (0 ∷ 65 ∷ [])
    -- X8. Page 0 open with wear 7, page 1 receiving with wear 9, pages 2 and 3 without a wear: recovery gives 10, 11 and 12.
    ∷ row (done_by (recovery_steps 1 (page_with (open₁ 0) (some 7) ∷ page_with receiving (some 9) ∷ page_with bad none ∷ page_with bad none ∷ [])))
    (1 ∷ 0x0A ∷ 0x00 ∷ 0x01 ∷ 0x15 ∷ 2 ∷ 0x0B ∷ 0x00 ∷ 0x01 ∷ 0x14 ∷ 3 ∷ 0x0C ∷ 0x00 ∷ 0x01 ∷ 0x15 ∷ [])
    -- With wear 65,534 on page 0 and none on the others: each of them gets 65,535.
    ∷ row (done_by (recovery_steps 1 (page_with (open₁ 0) (some 65534) ∷ page_with bad none ∷ page_with bad none ∷ [])))
    (1 ∷ 0xFF ∷ 0xFF ∷ 0x01 ∷ 0x07 ∷ 2 ∷ 0xFF ∷ 0xFF ∷ 0x01 ∷ 0x07 ∷ [])
    -- X9. A used page with 05 00 FF FF, 05 00 43 14 and FF FF FF 00: half 1, spoiled 2. If it is open and not used: half 0, spoiled 0.
    ∷ row (broken (page_broken (open₁ 0) ∷ page_with (cleared 1) (some 1) ∷ [])) (1 ∷ 2 ∷ [])
    ∷ row (broken (page_broken (open₁ 0) ∷ page_with (open₂ 1) (some 1) ∷ [])) (0 ∷ 0 ∷ [])
    -- X10. The lookup after none of the writes, after the first, and so on: not paired until 18 is held too, with 7 and then with 0.
    ∷ row (showed (lookup form₁ (written (take 0 digits) two_pages))) (0 ∷ 0 ∷ 0 ∷ 0 ∷ 0 ∷ 0 ∷ [])
    ∷ row (showed (lookup form₁ (written (take 1 digits) two_pages))) (0 ∷ 0 ∷ 0 ∷ 0 ∷ 0 ∷ 0 ∷ [])
    ∷ row (showed (lookup form₁ (written (take 2 digits) two_pages))) (0 ∷ 0 ∷ 0 ∷ 255 ∷ 0 ∷ 0 ∷ [])
    ∷ row (showed (lookup form₁ (written (take 3 digits) two_pages))) (0 ∷ 0 ∷ 0 ∷ 255 ∷ 0 ∷ 0 ∷ [])
    ∷ row (showed (lookup form₁ (written (take 4 digits) two_pages))) (0 ∷ 1 ∷ 0 ∷ 255 ∷ 7 ∷ 0 ∷ [])
    ∷ row (showed (lookup form₁ (written (take 5 digits) two_pages))) (0 ∷ 1 ∷ 0 ∷ 255 ∷ 0 ∷ 0 ∷ [])
    -- X11. A code written as one: 12 steps. After 11 of them none is held, after 12 all four are.
    ∷ row (did (write form₂ handset code_group 65535 second)) (0 ∷ 12 ∷ 1 ∷ [])
    ∷ row (held (pages form₂ (code_after 11 second)) ∷ []) (0 ∷ [])
    ∷ row (showed (lookup form₂ (code_after 11 second))) (0 ∷ 0 ∷ 0 ∷ 0 ∷ 0 ∷ 0 ∷ [])
    ∷ row (showed (lookup form₂ (code_after 12 second))) (0 ∷ 1 ∷ 7 ∷ 1 ∷ 3 ∷ 9 ∷ [])
    -- page 0 then: its header, and three slots each
    ∷ row (bytes_at 0 12 (code_after 12 second)) (0x01 ∷ 0x00 ∷ 0x02 ∷ 0x16 ∷ 0x01 ∷ 0x00 ∷ 0x00 ∷ 0x17 ∷ 0xFF ∷ 0xFF ∷ 0xFF ∷ 0xFF ∷ [])
    ∷ row (bytes_at 12 12 (code_after 12 second)) (0xFF ∷ 0xFF ∷ 0x04 ∷ 0x07 ∷ 0x10 ∷ 0x00 ∷ 0x07 ∷ 0x14 ∷ 0x11 ∷ 0x00 ∷ 0x01 ∷ 0x15 ∷ [])
    ∷ row (bytes_at 24 12 (code_after 12 second)) (0x12 ∷ 0x00 ∷ 0x03 ∷ 0x14 ∷ 0x13 ∷ 0x00 ∷ 0x09 ∷ 0x13 ∷ 0xFF ∷ 0xFF ∷ 0x84 ∷ 0x06 ∷ [])
    -- stopped after 1 step, recovery has none; after 5 it has 2, and the mark that abandons stands in slot 3
    ∷ row (did (recover form₂ 65535 (code_after 1 second))) (0 ∷ 0 ∷ 1 ∷ [])
    ∷ row (did (recover form₂ 65535 (code_after 5 second))) (0 ∷ 2 ∷ 1 ∷ [])
    ∷ row (bytes_at 24 4 (recover form₂ 65535 (code_after 5 second)).image) (0xFF ∷ 0xFF ∷ 0x00 ∷ 0x08 ∷ [])
    -- X12. Groups that count and that don't; a mark that opens in a group is spoiled
    ∷ row (stands (O 2 ∷ A ∷ B ∷ C 2 ∷ [])) (0 ∷ 5 ∷ 7 ∷ [])
    ∷ row (stands (O 1 ∷ A ∷ C 1 ∷ B ∷ [])) (0 ∷ 5 ∷ 7 ∷ [])
    ∷ row (stands (O 2 ∷ A ∷ B ∷ [])) (1 ∷ [])
    ∷ row (stands (O 2 ∷ A ∷ B ∷ C 1 ∷ [])) (0 ∷ [])
    ∷ row (stands (O 1 ∷ A ∷ B ∷ C 1 ∷ [])) (0 ∷ [])
    ∷ row (stands (O 2 ∷ A ∷ C 2 ∷ [])) (0 ∷ [])
    ∷ row (stands (O 2 ∷ A ∷ SP ∷ C 2 ∷ [])) (0 ∷ [])
    ∷ row (stands (O 2 ∷ A ∷ blank_word ∷ C 2 ∷ [])) (0 ∷ [])
    ∷ row (stands (O 2 ∷ A ∷ B ∷ SP ∷ C 2 ∷ [])) (0 ∷ [])
    ∷ row (stands (O 2 ∷ A ∷ AB ∷ B ∷ [])) (0 ∷ 7 ∷ [])
    ∷ row (stands (O 2 ∷ A ∷ O 1 ∷ B ∷ C 1 ∷ [])) (0 ∷ [])
    ∷ row (broken (store_with (O 2 ∷ A ∷ O 1 ∷ B ∷ C 1 ∷ []))) (0 ∷ 1 ∷ [])
    ∷ row (stands (C 2 ∷ A ∷ AB ∷ B ∷ [])) (0 ∷ 5 ∷ 7 ∷ [])
    ∷ row (stands (O 2 ∷ A ∷ B ∷ SP ∷ [])) (1 ∷ [])
    -- X13. GROUP: of 1 at 5 in the first edition; of no bytes, of 2, of nine settings; of 1 at 5 and 2 at 5. With 65,535: ADDRESS.
    ∷ row (grouped form₁ (5 ∷ 0 ∷ 1 ∷ []) two_pages) (9 ∷ 0 ∷ 0 ∷ [])
    ∷ row (grouped form₂ [] second) (9 ∷ 0 ∷ 0 ∷ [])
    ∷ row (grouped form₂ (5 ∷ 0 ∷ []) second) (9 ∷ 0 ∷ 0 ∷ [])
    ∷ row (grouped form₂ nine second) (9 ∷ 0 ∷ 0 ∷ [])
    ∷ row (grouped form₂ (5 ∷ 0 ∷ 1 ∷ 5 ∷ 0 ∷ 2 ∷ []) second) (9 ∷ 0 ∷ 0 ∷ [])
    ∷ row (grouped form₂ (5 ∷ 0 ∷ 1 ∷ 0xFF ∷ 0xFF ∷ 2 ∷ []) second) (5 ∷ 0 ∷ 0 ∷ [])
    -- Of 1 at 5: 6 steps, finished; and again: none.
    ∷ row (grouped form₂ (5 ∷ 0 ∷ 1 ∷ []) second) (0 ∷ 6 ∷ 1 ∷ [])
    ∷ row (grouped form₂ (5 ∷ 0 ∷ 1 ∷ []) (write form₂ handset (group_of (5 ∷ 0 ∷ 1 ∷ [])) 65535 second).image) (0 ∷ 0 ∷ 1 ∷ [])
    -- With page 1 of the first edition the store is of the second still: UNCLEAN, and a read is NOT HELD.
    ∷ row (map edition_in (two_pages ∷ second ∷ mixed two_pages second ∷ [])) (1 ∷ 2 ∷ 2 ∷ [])
    ∷ row (grouped form₂ (5 ∷ 0 ∷ 1 ∷ []) (mixed two_pages second)) (4 ∷ 0 ∷ 0 ∷ [])
    ∷ row (said (read form₂ handset 5 (mixed two_pages second))) (8 ∷ 0 ∷ [])
    -- X14. The larger chip: a page has 2,048 bytes; wear 1; a mark that opens 4
    ∷ row (map size (form₁ ∷ form₂ ∷ form₃ ∷ [])) (1024 ∷ 1024 ∷ 2048 ∷ [])
    ∷ row (bytes (wear_word 3 1)) (0x01 ∷ 0x00 ∷ 0x03 ∷ 0x15 ∷ [])
    ∷ row (kind (slot 3 (word 0xFF 0xFF 0x04 0x07))) (OPENS 4)
    -- page sizes, and lengths, that are SIZE at every call; 4,096 bytes of 255 at either size: NO STORE, but to format
    ∷ row (numbers 0 (empty_flash 2048)) (1 ∷ 1 ∷ 1 ∷ 1 ∷ 1 ∷ 1 ∷ [])
    ∷ row (numbers 4096 (empty_flash 8192)) (1 ∷ 1 ∷ 1 ∷ 1 ∷ 1 ∷ 1 ∷ [])
    ∷ row (numbers 2048 (empty_flash 2048)) (1 ∷ 1 ∷ 1 ∷ 1 ∷ 1 ∷ 1 ∷ [])
    ∷ row (numbers 2048 (empty_flash 5120)) (1 ∷ 1 ∷ 1 ∷ 1 ∷ 1 ∷ 1 ∷ [])
    ∷ row (numbers 2048 (empty_flash 4096)) (0 ∷ 2 ∷ 2 ∷ 2 ∷ 2 ∷ 2 ∷ [])
    ∷ row (numbers 1024 (empty_flash 4096)) (0 ∷ 2 ∷ 2 ∷ 2 ∷ 2 ∷ 2 ∷ [])
    -- a group of 1 at 5: 6 steps, and the record stands in slot 1; in the last slot, 508, at byte 2,044, a record is found too
    ∷ row (did (write_at 2048 false (group_of (5 ∷ 0 ∷ 65 ∷ [])) 65535 third)) (0 ∷ 6 ∷ 1 ∷ [])
    ∷ row (bytes_at 16 4 (write_at 2048 false (group_of (5 ∷ 0 ∷ 65 ∷ [])) 65535 third).image) (0x05 ∷ 0x00 ∷ 0x41 ∷ 0x14 ∷ [])
    ∷ row (said (read_at 2048 false 5 (with_word 2044 A third))) (0 ∷ 65 ∷ [])
    -- At 1,024 its pages are bad: NO STORE. With the records (1, 1) and (1, 0) in the slots 253 and 254, which pass for the header of an
    -- open page there, 5 is NOT HELD at 1,024, and 1 is 0 at 2,048.
    ∷ row (said (read_at 1024 false 5 third)) (2 ∷ 0 ∷ [])
    ∷ row (said (read_at 1024 false 5 (with_word 1028 (record_word 1 0) (with_word 1024 (record_word 1 1) third)))) (8 ∷ 0 ∷ [])
    ∷ row (said (read_at 2048 false 1 (with_word 1028 (record_word 1 0) (with_word 1024 (record_word 1 1) third)))) (0 ∷ 0 ∷ [])
    -- X15. The two owners: a read and a blank read by the handset of 32,767, 32,768 and 65,535; by the timer
    ∷ row (reads_of handset 32767 second) (8 ∷ 0 ∷ 0 ∷ 0 ∷ [])
    ∷ row (reads_of handset 32768 second) (11 ∷ 0 ∷ 11 ∷ 0 ∷ [])
    ∷ row (reads_of handset 65535 second) (5 ∷ 0 ∷ 5 ∷ 0 ∷ [])
    ∷ row (reads_of timer 32767 second) (11 ∷ 0 ∷ 11 ∷ 0 ∷ [])
    ∷ row (reads_of timer 32768 second) (8 ∷ 0 ∷ 0 ∷ 0 ∷ [])
    ∷ row (reads_of timer 65535 second) (5 ∷ 0 ∷ 5 ∷ 0 ∷ [])
    -- of 1 at 5 by the handset: 2 steps; then by the timer, though 5 has that value: OWNER
    ∷ row (write_of handset 5 1 second) (0 ∷ 2 ∷ 1 ∷ [])
    ∷ row (write_of timer 5 1 (write form₂ handset (single 5 1) 65535 second).image) (11 ∷ 0 ∷ 0 ∷ [])
    -- groups of the handset: with 32,768, OWNER; with 65,535 too, ADDRESS
    ∷ row (grouped form₂ (5 ∷ 0 ∷ 1 ∷ 0 ∷ 0x80 ∷ 1 ∷ []) second) (11 ∷ 0 ∷ 0 ∷ [])
    ∷ row (grouped form₂ (5 ∷ 0 ∷ 1 ∷ 0 ∷ 0x80 ∷ 1 ∷ 0xFF ∷ 0xFF ∷ 1 ∷ []) second) (5 ∷ 0 ∷ 0 ∷ [])
    -- where 127 of the handset's are held, 0 to 126: one more, a second, two in a group; one of the timer's
    ∷ row (told_by handset (filled 0 127) (single 127 1) ∷ []) (0 ∷ [])
    ∷ row (told_by handset (filled 0 128) (single 128 1) ∷ []) (6 ∷ [])
    ∷ row (told_by handset (filled 0 127) (group_of (0x7F ∷ 0 ∷ 1 ∷ 0x80 ∷ 0 ∷ 1 ∷ [])) ∷ []) (6 ∷ [])
    ∷ row (told_by timer (filled 0 128) (single 32768 1) ∷ []) (0 ∷ [])
    -- where 130 are held: another value of one, and that beside a new address
    ∷ row (told_by handset (filled 0 130) (single 5 2) ∷ []) (0 ∷ [])
    ∷ row (told_by handset (filled 0 130) (group_of (5 ∷ 0 ∷ 2 ∷ 0xFF ∷ 0 ∷ 1 ∷ [])) ∷ []) (6 ∷ [])
    -- where 128 of the handset's and 64 of the timer's are held: a new one of the timer's
    ∷ row (told_by timer (filled 0 128 ++ filled 32768 64) (single 40000 1) ∷ []) (6 ∷ [])
    ∷ []

unfoldable pub table : List Row
table = rows (format form₁ (empty_flash 2048)).image (format form₂ (empty_flash 2048)).image (format form₃ (empty_flash 4096)).image

-- the statement: every row is as section X prints it
abbrev pub the_examples_hold : Type 0
the_examples_hold = T (holds table)
