-- What is counted of one slot more, and of one page more. Assumes nothing.
use Prim.Native.Nat.{ℕ, ◌+◌, ◌*◌, ◌≤◌, ◌<◌}
use mathlib.Core.Path.{◌≡◌, refl, ap, ◌∙◌}
use mathlib.Core.List.{List, [], ◌∷◌, ◌++◌, map}
use native.Mathlib.Omega.{arith}
use mir.Val.{bool_byte}
use lib.ListN.{length, get_or, take, length-map}
use lib.Seq.{take_all}
use Rattle.rules.specs.Word.{words, Condition, slot, opens}
use Rattle.rules.specs.Page.{Form, size, page}
use Rattle.rules.specs.Store.{each, count, Place, outside, inside, lost, in_group}
use Rattle.rules.specs.Call.{pages, page_in}
use Rattle.rules.specs.Listing.{is_half, is_spoiled, condition_at, conditions, conditions_in, used_conditions}
use Rattle.rules.proofs.Stores.{count_append}
use Rattle.rules.proofs.Broken.{used_counted, broken_few, conditions_append, conditions_many}
use Rattle.words.specs.Read.{word_in}
use Rattle.groups.proofs.Standing.{place_at, next_slots}
use Rattle.survey.specs.States.{slots_in}
use Rattle.survey.specs.declared.Look.{Look}
use Rattle.survey.specs.Look.{pages_number, line_of, Lines, Told}
use Rattle.survey.proofs.Slots.{slots_many}
use Rattle.survey.proofs.Looking.{told_line, line_next, line_pages, told_few, line_places, line_within}
use Rattle.broken.specs.declared.Broken.{Broken}
use Rattle.broken.specs.Counts.{Counts}

-- ---- both together

pub counts_more : {xs ys : List Condition} {a b r : Broken} → Counts xs a → Counts ys b
    → (r.half ≡ a.half + b.half) × (r.spoiled ≡ a.spoiled + b.spoiled) → Counts (xs ++ ys) r
counts_more {xs} {ys} p q e =
    record {
      half = omega (arith, e.0, p.half, q.half, count_append is_half xs ys);
      spoiled = omega (arith, e.1, p.spoiled, q.spoiled, count_append is_spoiled xs ys);
    }

-- no slot is counted twice
pub counts_few : {cs : List Condition} {r : Broken} → Counts cs r → r.half + r.spoiled ≤ length cs
counts_few {cs} p = omega (arith, p.half, p.spoiled, broken_few cs)

-- ---- a slot

-- a mark that opens a group is spoiled in one
pub opening : (at : Place) (n : ℕ) → Counts (condition_at at (opens n) ∷ []) (record { half = 0; spoiled = bool_byte (in_group at) })
unfolding condition_at in_group count is_half is_spoiled
opening outside n = record { half = refl; spoiled = refl }
opening (inside m rs) n = record { half = refl; spoiled = refl }
opening lost n = record { half = refl; spoiled = refl }

-- ---- the slots of a page

module _ (e : ℕ) (s : List ℕ) where
  -- the conditions of the first k
  abbrev pub first_slots : ℕ → List Condition
  first_slots k = conditions outside (map (slot e) (take k (words s)))

  pub next_slot : (k : ℕ) → 4 * k + 4 ≤ length s
      → first_slots (k + 1) ≡ first_slots k ++ (condition_at (place_at e s k) (slot e (word_in s (4 * k))) ∷ [])
  unfolding conditions
  next_slot k l =
      ap (conditions outside) (next_slots e s k l)
      ∙ conditions_append outside (map (slot e) (take k (words s))) (slot e (word_in s (4 * k)) ∷ [])

-- ---- the pages of the line

module _ (fm : Form) (i line : List ℕ) where
  -- the conditions of the slots of its first k pages
  abbrev pub first_conditions : ℕ → List Condition
  first_conditions k = each conditions_in (map (λ (p : ℕ). page_in fm p i) (take k line))

  pub next_page : (k : ℕ) → k < length line
      → first_conditions (k + 1) ≡ first_conditions k ++ conditions outside (map (slot fm.edition) (slots_in fm (get_or line k 0) i))
  unfolding slots_in page
  next_page k l = line_next fm i conditions_in line k l

  -- all of them are the used pages
  pub line_counts : {r : Broken} → Lines fm i line → Counts (first_conditions (length line)) r → Counts (used_conditions (pages fm i)) r
  line_counts h p =
      let all : first_conditions (length line) ≡ each conditions_in (map (λ (p : ℕ). page_in fm p i) line) =
      ap (λ ks. each conditions_in (map (λ (p : ℕ). page_in fm p i) ks)) (take_all (length line) line (omega arith)) in
      let e = all ∙ ap (each conditions_in) (line_pages fm i h) in
      record {
        half = p.half ∙ ap (count is_half) e ∙ used_counted is_half (pages fm i);
        spoiled = p.spoiled ∙ ap (count is_spoiled) e ∙ used_counted is_spoiled (pages fm i);
      }

-- at a place of the line, as the code reads it
module _ {fm : Form} {i : List ℕ} {look : Look} (ok : pages_number fm i ≡ 0) (t : Told fm i look) where
  abbrev line : List ℕ
  line = line_of look

  module _ {xs : List ℕ} (same : xs ≡ line) (k : ℕ) (l : k < length xs) where
    pub page_inside : (get_or xs k 0 ≤ 32) × (get_or xs k 0 * size fm + size fm ≤ length i)
    page_inside =
        let m : k < length line = omega (arith, ap length same) in
        rw same (omega (arith, line_places ok t k m), line_within ok t k m)

    module _ {r : Broken} (p : Counts (conditions outside (map (slot fm.edition) (slots_in fm (get_or xs k 0) i))) r) where
      pub page_few : (k < 32) × (r.half + r.spoiled ≤ fm.slot_count)
      page_few =
          let ss = slots_in fm (get_or xs k 0) i in
          let many = conditions_many outside (map (slot fm.edition) ss) in (
            omega (arith, ap length same, (told_few ok t).1, told_line ok t),
            omega (arith, counts_few p, many, length-map ss (slot fm.edition), slots_many fm (get_or xs k 0) i page_inside.1),
          )

      pub page_more : {a b : Broken} → Counts (first_conditions fm i line k) a → (b.half ≡ a.half + r.half) × (b.spoiled ≡ a.spoiled + r.spoiled)
          → Counts (first_conditions fm i line (k + 1)) b
      page_more before sum =
          let m : k < length line = omega (arith, ap length same) in
          rw (next_page fm i line k m, ← ap (λ ks. get_or ks k 0) same) (counts_more before p sum)
