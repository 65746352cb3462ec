use Rattle.std.proofs.Common.{◌≡◌, ℕ, length, take, List, sym, ◌∙◌, ap, arith}
use Rattle.std.proofs.lemmas.Bool.Decides.{nat_tests}
use Rattle.std.specs.List.{flat_map}
use Rattle.journal_defs.specs.Sequence.{REGIONS}
use Rattle.entry_index.specs.declared.sign.Span.{Span}
use Rattle.mupip_recover.specs.Parts.{items_at}
use Rattle.mupip_recover.proofs.RegionLists.{count_more, count_over}
use Rattle.entry_index.specs.Table.{row_sign}
use Rattle.entry_index.proofs.Complete.{spans, all_regions}
use Rattle.entry_index.proofs.completing.has_count.Goals as goal

pub returns-then-many-left : goal.returns-then-many-left
returns-then-many-left c = λ files n part are.
    let mask = c.args.head.now.mask in
    let long : length (items_at mask part c.loop-region.region) ≡ c.span_in-many.result.many =
    sym (ap (λ (s : Span). s.many) (c.span_in-many.ensures ∙ spans files n (row_sign c.args.row.now) part are mask c.loop-region.region)) in
    count_over (items_at mask part) c.loop-region.region c.loop-region.left c.span_in-many.result.many c.args.head.now.count (omega arith) long (omega arith) (c.loop-region.invariant files n part are)

pub loop-region-preserved : goal.loop-region-preserved
loop-region-preserved c = λ files n part are.
    let mask = c.args.head.now.mask in
    let long : length (items_at mask part c.loop-region.region) ≡ c.span_in-many.result.many =
    sym (ap (λ (s : Span). s.many) (c.span_in-many.ensures ∙ spans files n (row_sign c.args.row.now) part are mask c.loop-region.region)) in
    count_more (items_at mask part) c.loop-region.region c.loop-region.left c.span_in-many.result.many c.args.head.now.count (omega arith) long (omega arith) (c.loop-region.invariant files n part are)

pub returns : goal.returns
returns c = λ files n part are.
    let f = items_at c.args.head.now.mask part in
    let whole : length (flat_map f REGIONS) ≡ length (flat_map f (take c.loop-region.region REGIONS)) = ap (λ (l : List ℕ). length (flat_map f l)) (all_regions c.loop-region.region (omega arith)) in
    let sum = c.loop-region.invariant files n part are in
    grind (arith, nat_tests, whole, sum)
