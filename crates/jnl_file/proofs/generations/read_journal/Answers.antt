use Rattle.std.proofs.Common.{rules, ◌≡◌, List, Some, IsErrOf}
use Rattle.disk_defs.specs.Gates.{Body, records}
use Rattle.disk_defs.specs.OutsideGates.{IsOutside}
use Rattle.jnl_file.specs.declared.error.JournalError.TheVariants.{NotARecord}
use Rattle.gated_file.proofs.Listed.{told_same}
use Rattle.jnl_file.proofs.Outside.{told_stops, told_outside}
use Rattle.jnl_file.proofs.generations.read_journal.Goals as goal

pub returns-in_err-see_gates-in-Err-NotARecord-clause-outside : goal.returns-in_err-see_gates-in-Err-NotARecord-clause-outside
returns-in_err-see_gates-in-Err-NotARecord-clause-outside g c offset is =
    let view = g.D.Disk.disk in
    let o = (view c.args.disk.now).content in
    told_outside o c.args.gated.now.file c.args.region c.args.generation c.args.previous offset
    (told_same o (view c.read_on.new.disk).content c.args.gated.now c.read_on.new.gated (λ bytes. IsOutside bytes offset) c.read_on.ensures.reads.content c.read_on.ensures.same (c.see_gates.ensures.outside offset (search (rules, is))))

pub returns-in_ok-see_gates-in-Err-NotARecord-clause-outside : goal.returns-in_ok-see_gates-in-Err-NotARecord-clause-outside
returns-in_ok-see_gates-in-Err-NotARecord-clause-outside g c offset is =
    let view = g.D.Disk.disk in
    let o = (view c.args.disk.now).content in
    let here : offset ≡ c.in-Err-NotARecord.offset = search (rules, is) in
    let stopped : IsErrOf c.read_on.result (NotARecord offset) = search (rules, here) in
    told_stops o c.args.gated.now.file c.args.region c.args.generation c.args.previous offset (c.read_on.ensures.stops offset stopped)
    (told_same o (view c.read_on.new.disk).content c.args.gated.now c.read_on.new.gated (λ bytes. (bodies : List Body) × (records bytes ≡ Some bodies)) c.read_on.ensures.reads.content c.read_on.ensures.same
    c.in_ok-see_gates-in-Err-NotARecord.ensures.listed)
