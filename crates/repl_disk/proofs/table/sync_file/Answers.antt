use Rattle.std.proofs.Common.{◌≡◌, ◌≤◌, ◌-◌, sym, ◌∙◌, ap, subst, arith}
use Rattle.global_defs.specs.Counts.{counted_on}
use Rattle.repl_disk.specs.Mem.{settled}
use Rattle.repl_disk.specs.Table.{Entry}
use Rattle.repl_disk.proofs.Tables.{is_kept, set_are_kept, set_to, set_calls, set_bytes, reads, entry_is}
use Rattle.repl_disk.proofs.table.sync_file.Goals as goal

pub sync-requires-clause-kept : goal.sync-requires-clause-kept
sync-requires-clause-kept c = is_kept c.args.files.now.items c.args.number c.args.i c.index_mut-file.result.now c.requires.first c.index_mut-file.ensures.value c.requires.kept

pub returns-clause-kept : goal.returns-clause-kept
returns-clause-kept c = set_are_kept c.args.files.now.items c.args.number c.args.i c.index_mut-file.result.now c.requires.first c.index_mut-file.ensures.value c.sync.new.self c.sync.ensures.number c.requires.kept c.sync.ensures.kept

pub sync-requires-clause-calls : goal.sync-requires-clause-calls
sync-requires-clause-calls c =
    let is = reads c.args.files.now.items c.args.number c.args.i c.index_mut-file.result.now c.requires.first c.index_mut-file.ensures.value in
    subst (λ (e : Entry). 1 ≤ e.room.calls) is c.requires.calls

pub returns-clause-entries : goal.returns-clause-entries
returns-clause-entries c f =
    let d = c.index_mut-file.result.now in
    let is = reads c.args.files.now.items c.args.number c.args.i d c.requires.first c.index_mut-file.ensures.value in
    let calls : c.sync.new.self.calls_left ≡ d.calls_left - 1 = omega (arith, c.sync.ensures.calls) in
    set_to c.args.files.now.items c.args.number c.args.i d c.requires.first c.index_mut-file.ensures.value c.sync.new.self _ c.sync.ensures.number
    (entry_is (c.sync.ensures.mem ∙ ap (λ (e : Entry). settled e.mem.read) (sym is)) (c.sync.ensures.left ∙ ap (λ (e : Entry). e.left) (sym is)) (calls ∙ ap (λ (e : Entry). e.room.calls - 1) (sym is)) (c.sync.ensures.bytes ∙ ap (λ (e : Entry). e.room.bytes) (sym is)) (c.sync.ensures.syncs ∙ ap (λ (e : Entry). counted_on e.syncs) (sym is))) f

pub returns-clause-all_calls : goal.returns-clause-all_calls
returns-clause-all_calls c =
    let sums = set_calls c.args.files.now.items c.args.number c.args.i c.index_mut-file.result.now c.requires.first c.index_mut-file.ensures.value c.sync.new.self in
    omega (arith, sums, c.sync.ensures.calls)

pub returns-clause-all_bytes : goal.returns-clause-all_bytes
returns-clause-all_bytes c =
    let sums = set_bytes c.args.files.now.items c.args.number c.args.i c.index_mut-file.result.now c.requires.first c.index_mut-file.ensures.value c.sync.new.self in
    omega (arith, sums, c.sync.ensures.bytes)
