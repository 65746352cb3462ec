use Rattle.std.proofs.Common.{◌≡◌, ℕ, suc, ◌+◌, map, drop, sym, ◌∙◌, ap, arith}
use Rattle.std.specs.List.{find}
use Rattle.std.specs.Ordering.{nat_cmp}
use Rattle.std.specs.BTreeSet.{contains}
use Rattle.std.proofs.lemmas.List.{nil_from_length}
use Rattle.entry_index.specs.declared.placed.PlacedSign.{PlacedSign}
use Rattle.region_opening.proofs.Said.{NO_SIGN}
use Rattle.region_opening.proofs.Without.{not_this}
use Rattle.region_opening.proofs.forward.first_among.Goals as goal
use Rattle.mupip_recover.proofs.Without.{none_found}

pub returns-then-is_empty : goal.returns-then-is_empty
returns-then-is_empty c =
    let s = c.args.generations.now in
    sym (none_found s (map (λ p. p.generation) c.args.behind.now) (nil_from_length s.keys (c.is_empty.ensures.0 c.if-is_empty.true)))

pub loop-placed-preserved : goal.loop-placed-preserved
loop-placed-preserved c =
    let l = c.loop-placed in
    let ss = c.args.behind.now in
    let f = contains nat_cmp c.args.generations.now in
    let next : suc l.placed-index ≡ l.placed-index + 1 = omega arith in
    l.invariant ∙ not_this f ss l.placed-index NO_SIGN c.loop-placed-test.true (sym c.contains.ensures ∙ c.if-contains.false)
    ∙ ap (λ (n : ℕ). find f (map (λ (p : PlacedSign). p.generation) (drop n ss))) next
