use Rattle.std.proofs.Common.{◌<◌, length, map, refl, arith}
use Rattle.gvn_key.specs.Terms.{update_value}
use Rattle.region_store.proofs.Lists.{read_at}
use Rattle.region_opening.specs.Replaying.{IsGivenEntry}
use Rattle.region_opening.proofs.Becoming.{none_become, next_becomes, all_become}
use Rattle.region_opening.proofs.replaying.make_entry.Goals as goal

pub loop-place-init : goal.loop-place-init
loop-place-init c = record { become = none_become (IsGivenEntry c.args.directory.now.patterns c.args.from.now c.args.number (map update_value c.args.updates.now)) c.args.regions.now.items; few = omega arith }

pub loop-place-preserved : goal.loop-place-preserved
loop-place-preserved c =
    let l = c.loop-place in
    let old = c.args.regions.now.items in
    let mid = l.regions.items in
    let s = c.index_mut.result.now in
    let m = c.make_in.new.region in
    let many = l.invariant.become.count in
    let low : l.place < length mid = omega (arith, c.loop-place-test.true, c.len-place-end.ensures, many) in
    record {
      become = next_becomes (IsGivenEntry c.args.directory.now.patterns c.args.from.now c.args.number (map update_value c.args.updates.now)) l.place old mid _ s m l.invariant.become low (read_at mid l.place s low c.index_mut.ensures.value) refl c.in_ok-make_in.ensures;
      few = omega (arith, low, many);
    }

pub returns : goal.returns
returns c =
    let l = c.loop-place in
    record {
      made = all_become (IsGivenEntry c.args.directory.now.patterns c.args.from.now c.args.number (map update_value c.args.updates.now)) l.place c.args.regions.now.items l.regions.items (omega (arith, c.loop-place-test.false, c.len-place-end.ensures)) l.invariant.become;
    }
