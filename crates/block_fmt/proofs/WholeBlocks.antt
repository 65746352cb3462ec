-- The bytes of a block, both ways.
use Rattle.std.proofs.Common.{◌≡◌, ℕ, ◌+◌, ◌-◌, ◌≤◌, ◌<◌, ◌^◌, List, ◌++◌, length, take, drop, get_or, replicate, flat_map, sym, ◌∙◌, ap, arith, append_assoc, length-drop}
use Rattle.std.proofs.lemmas.List.{drop-drop, length-take-le, take-append-drop, length-replicate}
use Rattle.std.proofs.Math.Seq.{take-append_seam, drop-append_seam}
use Rattle.std.proofs.lemmas.Nat.{from_be_bytes-to_be_bytes_2, be_bytes_2, be_bytes_4}
use Rattle.std.specs.Int.{from_be_bytes, to_be_bytes, w16, w32}
use Rattle.journal_defs.specs.Leaves.{Cell, Leaf, cell_bytes, spelled_cell, spelled_leaf, IsLeaf, IsBlock}
use Rattle.block_fmt.specs.Read.{cells_in, AreCells}
use Rattle.block_fmt.proofs.ReadBack.{small_take, small_drop}
use Rattle.block_fmt.proofs.CellPlaces.{few_cells}
use Rattle.block_fmt.proofs.Walk.{length-cells_in}
use Rattle.block_fmt.proofs.Changed.{filled_form, filled_bytes}

-- READING

piece : (n m k : ℕ) (bytes : List ℕ) → k ≡ m + n → drop m bytes ≡ take n (drop m bytes) ++ drop k bytes
piece n m k bytes is = sym (take-append-drop n (drop m bytes)) ∙ ap (λ (l : List ℕ). take n (drop m bytes) ++ l) (drop-drop n m bytes ∙ ap (λ (i : ℕ). drop i bytes) (sym is))

pieces : (a b c d e a2 b2 c2 d2 e2 : List ℕ) → a ≡ a2 → b ≡ b2 → c ≡ c2 → d ≡ d2 → e ≡ e2 → a ++ (b ++ (c ++ (d ++ e))) ≡ a2 ++ (b2 ++ (c2 ++ (d2 ++ e2)))
pieces a b c d e a2 b2 c2 d2 e2 p q r s t = λ i. p i ++ (q i ++ (r i ++ (s i ++ t i)))

two_bytes : (bytes : List ℕ) (m n : ℕ) → ((i : ℕ) → get_or bytes i 0 < 256) → m + 2 ≤ length bytes → n ≡ from_be_bytes w16 (take 2 (drop m bytes)) → take 2 (drop m bytes) ≡ to_be_bytes w16 n
two_bytes bytes m n small inside is = sym (be_bytes_2 (take 2 (drop m bytes)) n (length-take-le 2 (drop m bytes) (omega (arith, length-drop m bytes))) (small_take 2 (drop m bytes) (small_drop m bytes small)) is)

four_bytes : (bytes : List ℕ) (m n : ℕ) → ((i : ℕ) → get_or bytes i 0 < 256) → m + 4 ≤ length bytes → n ≡ from_be_bytes w32 (take 4 (drop m bytes)) → take 4 (drop m bytes) ≡ to_be_bytes w32 n
four_bytes bytes m n small inside is = sym (be_bytes_4 (take 4 (drop m bytes)) n (length-take-le 4 (drop m bytes) (omega (arith, length-drop m bytes))) (small_take 4 (drop m bytes) (small_drop m bytes small)) is)

pub makes_block : (bytes : List ℕ) (count used next : ℕ) (cs : List Cell) → ((i : ℕ) → get_or bytes i 0 < 256) → length bytes ≡ 4096
    → count ≡ from_be_bytes w16 (take 2 (drop 0 bytes)) → used ≡ from_be_bytes w16 (take 2 (drop 2 bytes)) → next ≡ from_be_bytes w32 (take 4 (drop 4 bytes))
    → 8 + used ≤ 4096 → drop (8 + used) bytes ≡ replicate (4088 - used) 0 → length cs ≡ count → take used (drop 8 bytes) ≡ flat_map spelled_cell cs
    → bytes ≡ spelled_leaf (record { next = next; cells = cs })
makes_block bytes count used next cs small size count_is used_is next_is inside zeros cells body =
    let long : length (flat_map spelled_cell cs) ≡ used = sym (ap length body) ∙ length-take-le used (drop 8 bytes) (omega (arith, inside, size, length-drop 8 bytes)) in
    let head : take 2 (drop 0 bytes) ≡ to_be_bytes w16 (length cs) = two_bytes bytes 0 (length cs) small (omega (arith, size)) (cells ∙ count_is) in
    let second : take 2 (drop 2 bytes) ≡ to_be_bytes w16 (length (flat_map spelled_cell cs)) = two_bytes bytes 2 (length (flat_map spelled_cell cs)) small (omega (arith, size)) (long ∙ used_is) in
    let third : take 4 (drop 4 bytes) ≡ to_be_bytes w32 next = four_bytes bytes 4 next small (omega (arith, size)) next_is in
    let rest : drop (8 + used) bytes ≡ replicate (4088 - length (flat_map spelled_cell cs)) 0 = zeros ∙ ap (λ (n : ℕ). replicate {A = ℕ} (4088 - n) 0) (sym long) in
    piece 2 0 2 bytes (omega arith)
    ∙ ap (λ (l : List ℕ). take 2 (drop 0 bytes) ++ l) (piece 2 2 4 bytes (omega arith)
    ∙ ap (λ (l : List ℕ). take 2 (drop 2 bytes) ++ l) (piece 4 4 8 bytes (omega arith)
    ∙ ap (λ (l : List ℕ). take 4 (drop 4 bytes) ++ l) (piece used 8 (8 + used) bytes (omega arith))))
    ∙ pieces (take 2 (drop 0 bytes)) (take 2 (drop 2 bytes)) (take 4 (drop 4 bytes)) (take used (drop 8 bytes)) (drop (8 + used) bytes)
    (to_be_bytes w16 (length cs)) (to_be_bytes w16 (length (flat_map spelled_cell cs))) (to_be_bytes w32 next) (flat_map spelled_cell cs) (replicate (4088 - length (flat_map spelled_cell cs)) 0)
    head second third body rest

-- the block that was read
pub read_block : (bytes body zeros : List ℕ) (count used next : ℕ) → ((i : ℕ) → get_or bytes i 0 < 256) → length bytes ≡ 4096
    → count ≡ from_be_bytes w16 (take 2 (drop 0 bytes)) → used ≡ from_be_bytes w16 (take 2 (drop 2 bytes)) → next ≡ from_be_bytes w32 (take 4 (drop 4 bytes)) → next < 2 ^ 32 → used ≤ 4088
    → body ≡ take used (drop 8 bytes) → zeros ≡ drop (8 + used) bytes → zeros ≡ replicate (length zeros) 0 → AreCells count body → IsBlock bytes (record { next = next; cells = cells_in count body })
read_block bytes body zeros count used next small size count_is used_is next_is near fit body_is zeros_are all are =
    let long : length body ≡ used = ap length body_is ∙ length-take-le used (drop 8 bytes) (omega (arith, fit, size, length-drop 8 bytes)) in
    let rest : length zeros ≡ 4088 - used = omega (arith, ap length zeros_are, length-drop (8 + used) bytes, size) in
    record {
      form = filled_form next count body near (omega (arith, long, fit)) are;
      spelled = makes_block bytes count used next (cells_in count body) small size count_is used_is next_is (omega (arith, fit)) (sym zeros_are ∙ all ∙ ap (λ (n : ℕ). replicate {A = ℕ} n 0) rest) (length-cells_in count body) (sym body_is ∙ filled_bytes count body are);
    }

-- what stands in a block's bytes

few : (l : Leaf) → IsLeaf l → (length l.cells < 2 ^ 16) × (length (cell_bytes l) < 2 ^ 16)
few l form =
    let fits = form.fits in
    let five = few_cells l.cells form.cells in
    (omega (arith, fits, five), omega (arith, fits))

pub count_there : (bytes : List ℕ) (l : Leaf) → IsBlock bytes l → from_be_bytes w16 (take 2 (drop 0 bytes)) ≡ length l.cells
count_there bytes l h = ap (λ (bs : List ℕ). from_be_bytes w16 (take 2 (drop 0 bs))) h.spelled ∙ from_be_bytes-to_be_bytes_2 (length l.cells) (few l h.form).0

pub used_there : (bytes : List ℕ) (l : Leaf) → IsBlock bytes l → from_be_bytes w16 (take 2 (drop 2 bytes)) ≡ length (cell_bytes l)
used_there bytes l h = ap (λ (bs : List ℕ). from_be_bytes w16 (take 2 (drop 2 bs))) h.spelled ∙ from_be_bytes-to_be_bytes_2 (length (cell_bytes l)) (few l h.form).1

pub cells_there : (bytes : List ℕ) (l : Leaf) (used : ℕ) → IsBlock bytes l → used ≡ length (cell_bytes l) → take used (drop 8 bytes) ≡ cell_bytes l
cells_there bytes l used h is =
    let zeros = replicate {A = ℕ} (4088 - length (cell_bytes l)) 0 in
    ap (λ (n : ℕ). take n (drop 8 bytes)) is ∙ ap (λ (bs : List ℕ). take (length (cell_bytes l)) (drop 8 bs)) h.spelled ∙ take-append_seam (cell_bytes l) zeros

pub are_cells_there : (bytes : List ℕ) (l : Leaf) (n used : ℕ) → IsBlock bytes l → used ≡ length (cell_bytes l) → n ≡ length l.cells → AreCells n (take used (drop 8 bytes))
are_cells_there bytes l n used h is count = record {
  cells = l.cells;
  count = sym count;
  is = cells_there bytes l used h is;
  forms = h.form.cells;
  rising = h.form.rising;
}

pub zeros_there : (bytes : List ℕ) (l : Leaf) (used : ℕ) → IsBlock bytes l → used ≡ length (cell_bytes l) → drop (8 + used) bytes ≡ replicate (4088 - used) 0
zeros_there bytes l used h is =
    let zeros = replicate {A = ℕ} (4088 - length (cell_bytes l)) 0 in
    sym (drop-drop used 8 bytes) ∙ ap (λ (n : ℕ). drop n (drop 8 bytes)) is ∙ ap (λ (bs : List ℕ). drop (length (cell_bytes l)) (drop 8 bs)) h.spelled ∙ drop-append_seam (cell_bytes l) zeros
    ∙ ap (λ (n : ℕ). replicate {A = ℕ} (4088 - n) 0) (sym is)

pub zeros_behind : (bytes zeros : List ℕ) (l : Leaf) (used : ℕ) → IsBlock bytes l → used ≡ length (cell_bytes l) → zeros ≡ drop (8 + used) bytes → zeros ≡ replicate (length zeros) 0
zeros_behind bytes zeros l used h is zeros_are =
    let all : zeros ≡ replicate (4088 - used) 0 = zeros_are ∙ zeros_there bytes l used h is in
    all ∙ ap (λ (n : ℕ). replicate {A = ℕ} n 0) (sym (ap length all ∙ length-replicate {A = ℕ} (4088 - used) 0))

-- WRITING

pub written_out : (a b c d e out1 out2 out3 out4 out5 : List ℕ) (n : ℕ) → take 2 out1 ≡ a → take 4 out2 ≡ take 2 out1 ++ b → take 8 out3 ≡ take 4 out2 ++ c → take n out4 ≡ take 8 out3 ++ d → out5 ≡ take n out4 ++ e
    → out5 ≡ a ++ (b ++ (c ++ (d ++ e)))
written_out a b c d e out1 out2 out3 out4 out5 n one two three four five =
    let all : out5 ≡ (((a ++ b) ++ c) ++ d) ++ e =
    five ∙ ap (λ (l : List ℕ). l ++ e) (four ∙ ap (λ (l : List ℕ). l ++ d) (three ∙ ap (λ (l : List ℕ). l ++ c) (two ∙ ap (λ (l : List ℕ). l ++ b) one))) in
    all ∙ simp append_assoc
