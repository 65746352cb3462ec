use Rattle.std.proofs.Common.{◌≡◌, ◌+◌, ◌-◌, ◌++◌, ℕ, List, length, take, replicate, sym, ◌∙◌, ap, arith}
use Rattle.std.specs.Int.{to_be_bytes, w16, w32}
use Rattle.journal_defs.specs.Leaves.{cell_bytes}
use Rattle.block_fmt.specs.Inside.{leaf_of}
use Rattle.block_fmt.proofs.Held.{holds_view, place_count, byte_count}
use Rattle.block_fmt.proofs.Changed.{few_held}
use Rattle.block_fmt.proofs.WholeBlocks.{written_out}
use Rattle.block_fmt.proofs.block.Block.encode.Goals as goal

pub overflow_cast-len : goal.overflow_cast-len
overflow_cast-len c = omega (arith, c.len.ensures, place_count c.self.inside (leaf_of c.self.inside) c.self.invariant, (few_held c.self.inside (leaf_of c.self.inside) c.self.invariant).0)

pub returns-clause-bytes : goal.returns-clause-bytes
returns-clause-bytes c =
    let h = holds_view c.self.inside c.args.self.now c.self.view_is c.self.invariant in
    let l = c.args.self.now in
    let a : c.to_be_bytes.result ≡ to_be_bytes w16 (length l.cells) =
    c.to_be_bytes.ensures ∙ ap (to_be_bytes w16) (let count : c.len.result ≡ length l.cells = omega (arith, c.len.ensures, place_count c.self.inside l h) in count) in
    let b : c.to_be_bytes-2.result ≡ to_be_bytes w16 (length (cell_bytes l)) =
    c.to_be_bytes-2.ensures ∙ ap (to_be_bytes w16) (let count : c.len-2.result ≡ length (cell_bytes l) = omega (arith, c.len-2.ensures, byte_count c.self.inside l h) in count) in
    let n : c.to_be_bytes-3.result ≡ to_be_bytes w32 l.next = c.to_be_bytes-3.ensures ∙ ap (to_be_bytes w32) h.next in
    let d : c.deref.result.now ≡ cell_bytes l = c.deref.ensures.value ∙ h.bytes in
    let end : 8 + c.len-3.result ≡ 8 + length c.deref.result.now = omega (arith, c.len-3.ensures, byte_count c.self.inside l h, ap length d) in
    let rest : length c.put_bytes-4.new.out - (8 + c.len-3.result) ≡ 4088 - length (cell_bytes l) =
    omega (arith, end, ap length d, c.requires, c.put_bytes.auto.out, c.put_bytes-2.auto.out, c.put_bytes-3.auto.out, c.put_bytes-4.auto.out) in
    written_out (to_be_bytes w16 (length l.cells)) (to_be_bytes w16 (length (cell_bytes l))) (to_be_bytes w32 l.next) (cell_bytes l) (replicate {A = ℕ} (4088 - length (cell_bytes l)) 0)
    c.put_bytes.new.out c.put_bytes-2.new.out c.put_bytes-3.new.out c.put_bytes-4.new.out c.fill_zeros.new.out (8 + c.len-3.result)
    (ap (λ (x : List ℕ). take (0 + length x) c.put_bytes.new.out) (sym a) ∙ c.put_bytes.ensures ∙ a)
    (ap (λ (x : List ℕ). take (2 + length x) c.put_bytes-2.new.out) (sym b) ∙ c.put_bytes-2.ensures ∙ ap (λ (x : List ℕ). take 2 c.put_bytes.new.out ++ x) b)
    (ap (λ (x : List ℕ). take (4 + length x) c.put_bytes-3.new.out) (sym n) ∙ c.put_bytes-3.ensures ∙ ap (λ (x : List ℕ). take 4 c.put_bytes-2.new.out ++ x) n)
    (ap (λ (k : ℕ). take k c.put_bytes-4.new.out) end ∙ c.put_bytes-4.ensures ∙ ap (λ (x : List ℕ). take 8 c.put_bytes-3.new.out ++ x) d)
    (c.fill_zeros.ensures ∙ ap (λ (k : ℕ). take (8 + c.len-3.result) c.put_bytes-4.new.out ++ replicate {A = ℕ} k 0) rest)
