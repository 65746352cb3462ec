-- How many parts there are, by their signs.
use Rattle.std.proofs.Common.{◌≡◌, inl, inr, ℕ, ◌+◌, ◌≤◌, ◌<◌, nat_le, ◌&&◌, suc, Bool, true, false, List, [], ◌∷◌, length, map, get_or, count_by, sum_by, is_some, None, refl, sym, ◌∙◌, ap, arith, if◌then◌else◌}
use Rattle.std.proofs.lemmas.Bool.{cases_lt}
use Rattle.std.proofs.lemmas.Bool.Decides.{nat_tests}
use Rattle.std.proofs.lemmas.List.{map-id}
use Rattle.std.proofs.lemmas.List.Sums.{sum_by-cons}
use Rattle.std.proofs.lemmas.List.FromFn.{get_or-map-range_with_len}
use Rattle.std.specs.List.{AllZip, AllByRecursion, flat_map, range_with_len}
use Rattle.global_defs.specs.declared.limits.TheConstants.{MOST_GENERATIONS}
use Rattle.disk_defs.specs.Disk.{Files}
use Rattle.journal_defs.specs.Instance.{InstanceRecord}
use Rattle.journal_defs.specs.Journal as journal
use Rattle.journal_defs.specs.Journal.{JournalRecord}
use Rattle.journal_defs.specs.Sequence.{Placed, part_of}
use Rattle.mupip_recover.specs.Parts.{is_part}
use Rattle.mupip_recover.proofs.Counts.{has, numbers_in, none_among, length-all}
use Rattle.entry_index.specs.declared.placed.PlacedSign.{PlacedSign}
use Rattle.entry_index.specs.declared.sign.Sign.{Sign}
use Rattle.entry_index.specs.Places.{IsSignOf}
use Rattle.entry_index.specs.RecordSigns.{sign_of}
use Rattle.entry_index.specs.Signs.{part_said, is_part_sign}
use Rattle.entry_index.specs.Indexes.{AreSigns}

kind_told : (g at : ℕ) (what : JournalRecord) → is_some (part_said g at (sign_of what)) ≡ is_part what
kind_told g at (journal.Tcom p) = refl
kind_told g at (journal.Pini s) = refl
kind_told g at (journal.Epoch m) = refl
kind_told g at (journal.Pblk b) = refl

one_told : (files : Files) (r : ℕ) (s : PlacedSign) (p : Placed) → IsSignOf files r s p → (1 ≤ p.generation) × (p.generation ≤ MOST_GENERATIONS) → is_part_sign s ≡ is_part p.what
one_told files r s p is (least, most) =
    let yes : (nat_le 1 s.generation && nat_le s.generation MOST_GENERATIONS) ≡ true = grind (arith, nat_tests, is.generation, least, most) in
    ap (λ (b : Bool). is_some (if b then part_said s.generation s.offset s.sign else None)) yes
    ∙ ap (λ (x : Sign). is_some (part_said s.generation s.offset x)) is.says
    ∙ kind_told s.generation s.offset p.what

-- as many signs of parts as parts
region_told : (files : Files) (r : ℕ) (ss : List PlacedSign) (ps : List Placed) → AllZip (IsSignOf files r) ss ps → AllByRecursion (λ p. (1 ≤ p.generation) × (p.generation ≤ MOST_GENERATIONS)) ps
    → count_by is_part_sign ss ≡ count_by (λ p. is_part p.what) ps
region_told files r [] [] zip all = refl
region_told files r [] (p ∷ ps) zip all = absurd zip
region_told files r (s ∷ ss) [] zip all = absurd zip
region_told files r (s ∷ ss) (p ∷ ps) zip all =
    sum_by-cons (λ x. if is_part_sign x then 1 else 0) s ss
    ∙ ap (λ (b : Bool). (if b then 1 else 0) + count_by is_part_sign ss) (one_told files r s p zip.0 all.0)
    ∙ ap (λ (k : ℕ). (if is_part p.what then 1 else 0) + k) (region_told files r ss ps zip.1 all.1)
    ∙ sym (sum_by-cons (λ x. if is_part x.what then 1 else 0) p ps)

abbrev parts_in : List Placed → ℕ
parts_in ps = count_by (λ p. is_part p.what) ps

-- the same in all regions, from one on
all_told : {S : Type 0} (items : S → List PlacedSign) (records : ℕ → List Placed) (ss : List S) (a : ℕ) → ((r : ℕ) → r < length ss → count_by is_part_sign (get_or (map items ss) r []) ≡ parts_in (records (a + r)))
    → sum_by parts_in (map records (range_with_len a (length ss))) ≡ sum_by (λ s. count_by is_part_sign (items s)) ss
all_told items records [] a each = refl
all_told items records (s ∷ ss) a each =
    let first : count_by is_part_sign (items s) ≡ parts_in (records a) = each 0 (omega arith) ∙ ap (λ (k : ℕ). parts_in (records k)) (omega arith) in
    sum_by-cons parts_in (records a) (map records (range_with_len (a + 1) (length ss)))
    ∙ ap (λ (k : ℕ). k + sum_by parts_in (map records (range_with_len (a + 1) (length ss)))) (sym first)
    ∙ ap (λ (k : ℕ). count_by is_part_sign (items s) + k) (all_told items records ss (a + 1) (λ r low. each (suc r) (omega arith) ∙ ap (λ (k : ℕ). parts_in (records k)) (omega arith)))
    ∙ sym (sum_by-cons (λ x. count_by is_part_sign (items x)) s ss)

-- the numbers of the parts in so many first regions
abbrev pub numbers_of : (ℕ → List Placed) → ℕ → List ℕ
numbers_of records k = flat_map numbers_in (map records (range_with_len 0 k))

same_lists : (js : List (List Placed)) → map (λ j. map (λ p. p) j) js ≡ js
same_lists [] = refl
same_lists (j ∷ js) = ap (λ (x : List Placed). x ∷ map (λ y. map (λ p. p) y) js) (map-id j) ∙ ap (λ (l : List (List Placed)). j ∷ l) (same_lists js)

-- there are as many of them as signs of parts
pub length-numbers_of : {S : Type 0} (files : Files) (items : S → List PlacedSign) (records : ℕ → List Placed) (ss : List S) → AreSigns files (map items ss) records
    → length (map items ss) ≡ length ss → sum_by (λ s. count_by is_part_sign (items s)) ss ≡ length (numbers_of records (length ss))
length-numbers_of files items records ss are many =
    let js = map records (range_with_len 0 (length ss)) in
    sym (all_told items records ss 0 (λ r low.
    let there : r < length (map items ss) = omega (arith, low, many) in
    let at : r ≡ 0 + r = omega arith in
    region_told files r (get_or (map items ss) r []) (records r) (are.each r there) (are.generations r there) ∙ ap (λ (k : ℕ). parts_in (records k)) at))
    ∙ sym (length-all (λ j. j) (λ p. p) js)
    ∙ ap (λ (l : List (List Placed)). length (flat_map numbers_in l)) (same_lists js)

-- a number that isn't among them has no part
pub none_of : (rs : List InstanceRecord) (records : ℕ → List Placed) (k n r : ℕ) → ((q : ℕ) → k ≤ q → records q ≡ []) → has n (numbers_of records k) ≡ false → part_of rs n (records r) ≡ None
none_of rs records k n r past none = elim (cases_lt r k) [
  | inl low ↦
      let at : 0 + r ≡ r = omega arith in
      ap (part_of rs n) (sym (get_or-map-range_with_len records 0 k r r [] low at)) ∙ none_among rs n (map records (range_with_len 0 k)) r none
  | inr high ↦ ap (part_of rs n) (past r high)
]
