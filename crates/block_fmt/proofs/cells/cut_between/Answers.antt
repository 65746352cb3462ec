use Rattle.std.proofs.Common.{ℕ, List, ◌-◌, take, drop, ◌∙◌, ap, arith}
use Rattle.block_fmt.proofs.Lists.{put_back}
use Rattle.block_fmt.proofs.cells.cut_between.Goals as goal

pub returns-clause-items : goal.returns-clause-items
returns-clause-items c =
    let bs = c.args.bytes.now.items in
    let from = c.args.from in
    let to = c.args.to in
    let end = c.len-end.result in
    let middle = c.min-middle.result in
    put_back bs (take from bs) c.push_all.new.bytes.items c.push_all-2.new.bytes.items _ _ to middle end
    (omega (arith, c.min-middle.ensures, c.len-end.ensures, c.requires.inside)) (omega (arith, c.min-middle.ensures)) (omega (arith, c.len-end.ensures, c.args.bytes.now.ok.0))
    (c.keep_part.ensures ∙ ap (λ (l : List ℕ). take (middle - to) (drop to l)) c.deref.ensures.value)
    (c.keep_part-2.ensures ∙ ap (λ (l : List ℕ). take (end - middle) (drop middle l)) c.deref-2.ensures.value)
    (cc (c.push_all.ensures.items, c.truncate.ensures.items)) c.push_all-2.ensures.items
