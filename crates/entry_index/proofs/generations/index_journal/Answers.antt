use Rattle.std.proofs.Common.{rules, ◌≡◌, ◌∙◌, List, Some, IsErrOf}
use Rattle.disk_defs.specs.Gates.{Body, records}
use Rattle.disk_defs.specs.OutsideGates.{IsOutside}
use Rattle.journal_defs.specs.Numbers.{journal_file}
use Rattle.jnl_file.specs.declared.error.JournalError.TheVariants.{NotARecord}
use Rattle.jnl_file.proofs.Outside.{told_stops, told_outside}
use Rattle.entry_index.proofs.Indexing.{told_file}
use Rattle.entry_index.proofs.generations.index_journal.Goals as goal

pub returns-in_err-see_gates-in-Err-NotARecord-clause-outside : goal.returns-in_err-see_gates-in-Err-NotARecord-clause-outside
returns-in_err-see_gates-in-Err-NotARecord-clause-outside g c offset is =
    let view = g.D.Disk.disk in
    let o = (view c.args.disk.now).content in
    let file = journal_file c.args.generation c.args.region in
    told_outside o file c.args.region c.args.generation c.args.previous offset
    (told_file o (view c.index_on.new.disk).content c.index_on.new.pieces.file file (λ bytes. IsOutside bytes offset) c.index_on.ensures.reads.content (c.index_on.ensures.same ∙ c.requires.file) (c.see_gates.ensures.outside offset (search (rules, is))))

pub returns-in_ok-see_gates-in-Err-NotARecord-clause-outside : goal.returns-in_ok-see_gates-in-Err-NotARecord-clause-outside
returns-in_ok-see_gates-in-Err-NotARecord-clause-outside g c offset is =
    let view = g.D.Disk.disk in
    let o = (view c.args.disk.now).content in
    let file = journal_file c.args.generation c.args.region in
    let here : offset ≡ c.in-Err-NotARecord.offset = search (rules, is) in
    let stopped : IsErrOf c.index_on.result (NotARecord offset) = search (rules, here) in
    told_stops o file c.args.region c.args.generation c.args.previous offset (c.index_on.ensures.stops offset stopped)
    (told_file o (view c.index_on.new.disk).content c.index_on.new.pieces.file file (λ bytes. (bodies : List Body) × (records bytes ≡ Some bodies)) c.index_on.ensures.reads.content (c.index_on.ensures.same ∙ c.requires.file)
    c.in_ok-see_gates-in-Err-NotARecord.ensures.listed)
