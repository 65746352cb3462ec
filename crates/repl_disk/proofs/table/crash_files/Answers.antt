use Rattle.std.proofs.Common.{rules, ◌<◌, length, sym, subst, arith}
use Rattle.repl_disk.specs.Table.{IsKept}
use Rattle.repl_disk.proofs.Crashes.{turned_none, turned_next, turned_all, crashed_file}
use Rattle.repl_disk.proofs.table.crash_files.Goals as goal

pub loop-i-init : goal.loop-i-init
loop-i-init c = record {
  first = omega arith;
  same_end = search rules;
  turned = turned_none c.args.files.now.items c.requires.kept;
}

pub crash-first-requires-clause-kept : goal.crash-first-requires-clause-kept
crash-first-requires-clause-kept c = subst IsKept (sym c.index_mut-file.ensures.value) (c.loop-i.invariant.turned.kept.each c.loop-i.i c.index_mut-file.result.now (search rules))

pub loop-i-preserved : goal.loop-i-preserved
loop-i-preserved c =
    let d = c.index_mut-file.result.now in
    let m = c.crash-first.new.self in
    let call = c.crash-first.ensures in
    let inside : c.loop-i.i < length c.loop-i.files.items = search rules in
    record {
      first = call.next;
      same_end = c.loop-i.invariant.same_end;
      turned = turned_next c.args.files.now.items c.loop-i.files.items c.loop-i.i d m c.loop-i.invariant.turned inside c.index_mut-file.ensures.value call.number call.room (crashed_file d m call.image call.mem call.left call.room call.syncs) call.kept;
    }

pub returns-clause-crashed : goal.returns-clause-crashed
returns-clause-crashed c f = turned_all c.args.files.now.items c.loop-i.files.items c.loop-i.i c.loop-i.invariant.turned (search rules) f
