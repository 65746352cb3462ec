use Rattle.std.proofs.Common.{◌≡◌, ◌+◌, length, map, take, drop, Some, sym, ◌∙◌, ap, subst, arith}
use Rattle.std.proofs.lemmas.List.{take_all, drop_all, length-take-le, length-map}
use Rattle.std.proofs.lemmas.Option.{slice_get-get_or}
use Rattle.std.specs.Prelude.{slice_get, slice_index_or}
use Rattle.gvn_model.specs.Reigns.{reign_value}
use Rattle.instance_file.specs.Values.{record_value}
use Rattle.instance_file.proofs.Bounds.{bound_here, length-bounds}
use Rattle.global_defs.proofs.Starts.{last_start}
use Rattle.global_defs.specs.Rising.{StartsRise}
use Rattle.instance_file.proofs.Scanning.{scanned_all, next_none, rising_some, last_some, wrong_some}
use Rattle.instance_file.proofs.surviving.wrong_reign.Goals as goal
use Rattle.instance_file.proofs.surviving.wrong_reign.Goals.{in-Some+else-reign-low, in_default}

pub bounds-bounds-i : goal.bounds-bounds-i
bounds-bounds-i c =
    let xs = c.args.records.now in
    let many : length c.args.bounds.now ≡ length xs = ap length c.requires.bounds ∙ length-bounds (map record_value xs) ∙ length-map xs record_value in
    omega (arith, many, c.loop-i-test.true)

pub returns-then-reign-low : goal.returns-then-reign-low
returns-then-reign-low c =
    let xs = c.args.records.now in
    let i = c.loop-i.i in
    let x = c.index-records-i.result in
    let inv = c.loop-i.invariant in
    let behind = map record_value (drop (i + 1) xs) in
    let some = sym (c.in-Some.ensures behind (bound_here xs c.args.bounds.now i c.requires.bounds c.loop-i-test.true)) in
    let long : length (map record_value (take i xs)) ≡ i = length-map (take i xs) record_value ∙ length-take-le i xs (omega (arith, c.loop-i-test.true)) in
    let place : slice_get c.args.places.now (length (map record_value (take i xs))) ≡ Some (slice_index_or c.args.places.now i 0) =
    ap (slice_get c.args.places.now) long ∙ slice_get-get_or c.args.places.now i 0 (omega (arith, c.requires.many, c.loop-i-test.true)) in
    wrong_some xs i x c.loop-i-test.true c.index-records-i.is c.args.places.now c.loop-i.low (reign_value c.in-Some.reign.now) c.requires.many some inv.rising inv.last (omega (arith, c.if-reign-low.true)) place

pub loop-i-preserved : goal.loop-i-preserved
loop-i-preserved c =
    let xs = c.args.records.now in
    let i = c.loop-i.i in
    let x = c.index-records-i.result in
    let inv = c.loop-i.invariant in
    let behind = map record_value (drop (i + 1) xs) in
    let here = bound_here xs c.args.bounds.now i c.requires.bounds c.loop-i-test.true in
    elim c.match-survivor.branch [
      | in-Some+else-reign-low w ↦
          let r = reign_value w.in-Some.reign.now in
          let some = sym (w.in-Some.ensures behind here) in
          record {
            rising = rising_some xs i x c.loop-i-test.true c.index-records-i.is c.loop-i.low r some inv.rising inv.last (omega (arith, w.if-reign-low.false));
            last = last_some xs i x c.loop-i-test.true c.index-records-i.is r some ∙ sym w.low-is;
          }
      | in_default w ↦
          let same = next_none xs i x c.loop-i-test.true c.index-records-i.is (sym (w.in_default.ensures behind here)) in
          record {
            rising = subst (StartsRise 0) (sym same) inv.rising;
            last = ap (last_start 0) same ∙ inv.last ∙ sym w.low-is;
          }
    ]

pub unreachable-requires : goal.unreachable-requires
unreachable-requires c =
    let xs = c.args.records.now in
    let i = c.loop-i.i in
    c.requires.falls (subst (StartsRise 0) (scanned_all xs i (take_all i xs c.loop-i-test.false) (drop_all i xs c.loop-i-test.false)) c.loop-i.invariant.rising)
