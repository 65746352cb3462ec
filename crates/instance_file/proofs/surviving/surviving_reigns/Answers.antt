use Rattle.std.proofs.Common.{◌≡◌, ◌+◌, length, map, drop, ◌++◌, ◌∷◌, [], sym, ◌∙◌, ap, arith}
use Rattle.std.proofs.lemmas.List.{take_all, drop_all, length-map}
use Rattle.gvn_model.specs.Reigns.{reign_value}
use Rattle.instance_file.specs.Values.{record_value}
use Rattle.instance_file.proofs.Bounds.{bound_here, length-bounds}
use Rattle.instance_file.proofs.Scanning.{scanned_all, next_none, next_some}
use Rattle.instance_file.proofs.surviving.surviving_reigns.Goals as goal
use Rattle.instance_file.proofs.surviving.surviving_reigns.Goals.{in-Some+in_ok-copy+in_ok-push, in_default}

pub bounds-bounds-i : goal.bounds-bounds-i
bounds-bounds-i c =
    let xs = c.args.records.now in
    let many : length c.args.bounds.now ≡ length xs = ap length c.requires ∙ length-bounds (map record_value xs) ∙ length-map xs record_value in
    omega (arith, many, c.loop-i-test.true)

pub loop-i-preserved : goal.loop-i-preserved
loop-i-preserved c =
    let xs = c.args.records.now in
    let i = c.loop-i.i in
    let x = c.index-records-i.result in
    let here = bound_here xs c.args.bounds.now i c.requires c.loop-i-test.true in
    let behind = map record_value (drop (i + 1) xs) in
    elim c.match-survivor.branch [
      | in-Some+in_ok-copy+in_ok-push w ↦
          w.made-is ∙ w.in_ok-push.ensures.ok
          ∙ (λ j. c.loop-i.invariant j ++ reign_value (w.in_ok-copy.ensures j) ∷ [])
          ∙ sym (next_some xs i x c.loop-i-test.true c.index-records-i.is (reign_value w.in-Some.reign.now) (sym (w.in-Some.ensures behind here)))
      | in_default w ↦ w.made-is ∙ c.loop-i.invariant ∙ sym (next_none xs i x c.loop-i-test.true c.index-records-i.is (sym (w.in_default.ensures behind here)))
    ]

pub returns : goal.returns
returns c =
    let xs = c.args.records.now in
    let i = c.loop-i.i in
    c.loop-i.invariant ∙ scanned_all xs i (take_all i xs c.loop-i-test.false) (drop_all i xs c.loop-i-test.false)
