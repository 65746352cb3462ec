use Rattle.std.proofs.Common.{◌≡◌, length, take, refl, sym, ap, ◌∙◌, arith}
use Rattle.std.proofs.lemmas.List.{length-take-le}
use Rattle.repl_link.proofs.ItemLists.{all_bytes}
use Rattle.repl_link.proofs.items.copy_bytes.Goals as goal

pub copy_all-requires-clause-plain : goal.copy_all-requires-clause-plain
copy_all-requires-clause-plain c = c.before_mark-count.ensures.before.plain

pub returns-clause-bytes : goal.returns-clause-bytes
returns-clause-bytes c =
    let before = c.before_mark-count.ensures.before in
    let items = take c.before_mark-count.result c.args.items.now in
    let len : length items ≡ c.before_mark-count.result = length-take-le c.before_mark-count.result c.args.items.now c.before_mark-count.ensures.most in
    let all = all_bytes items c.copy_all.new.buffer (length items) refl (omega (arith, len, c.before_mark-count.ensures.most)) c.copy_all.ensures in
    ap (λ n. take n c.copy_all.new.buffer) (sym len) ∙ (sym all.0 ∙ before.bytes)

pub returns-clause-count : goal.returns-clause-count
returns-clause-count c =
    let before = c.before_mark-count.ensures.before in
    let items = take c.before_mark-count.result c.args.items.now in
    let len : length items ≡ c.before_mark-count.result = length-take-le c.before_mark-count.result c.args.items.now c.before_mark-count.ensures.most in
    let all = all_bytes items c.copy_all.new.buffer (length items) refl (omega (arith, len, c.before_mark-count.ensures.most)) c.copy_all.ensures in
    sym len ∙ (sym all.1 ∙ ap length before.bytes)

pub returns-clause-most : goal.returns-clause-most
returns-clause-most c = c.before_mark-count.ensures.most

pub returns-clause-end : goal.returns-clause-end
returns-clause-end c = c.before_mark-count.ensures.before.end
