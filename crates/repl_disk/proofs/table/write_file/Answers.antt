use Rattle.std.proofs.Common.{◌≡◌, ◌≤◌, ◌-◌, length, sym, ◌∙◌, ap, subst, arith}
use Rattle.repl_disk.specs.Mem.{wrote}
use Rattle.repl_disk.specs.Table.{Entry}
use Rattle.repl_disk.proofs.Tables.{is_kept, set_are_kept, set_to, set_calls, set_bytes, reads, entry_is}
use Rattle.repl_disk.proofs.table.write_file.Goals as goal

pub write-requires-clause-kept : goal.write-requires-clause-kept
write-requires-clause-kept c = is_kept c.args.files.now.items c.args.number c.args.i c.index_mut-file.result.now c.requires.first c.index_mut-file.ensures.value c.requires.kept

pub returns-clause-kept : goal.returns-clause-kept
returns-clause-kept c = set_are_kept c.args.files.now.items c.args.number c.args.i c.index_mut-file.result.now c.requires.first c.index_mut-file.ensures.value c.write.new.self c.write.ensures.number c.requires.kept c.write.ensures.kept

pub write-requires-clause-place : goal.write-requires-clause-place
write-requires-clause-place c =
    let is = reads c.args.files.now.items c.args.number c.args.i c.index_mut-file.result.now c.requires.first c.index_mut-file.ensures.value in
    subst (λ (e : Entry). c.args.at ≤ length e.mem.read) is c.requires.inside

pub write-requires-clause-calls : goal.write-requires-clause-calls
write-requires-clause-calls c =
    let is = reads c.args.files.now.items c.args.number c.args.i c.index_mut-file.result.now c.requires.first c.index_mut-file.ensures.value in
    subst (λ (e : Entry). 1 ≤ e.room.calls) is c.requires.calls

pub write-requires-clause-bytes : goal.write-requires-clause-bytes
write-requires-clause-bytes c =
    let is = reads c.args.files.now.items c.args.number c.args.i c.index_mut-file.result.now c.requires.first c.index_mut-file.ensures.value in
    subst (λ (e : Entry). length c.args.bytes.now ≤ e.room.bytes) is c.requires.bytes

pub returns-clause-entries : goal.returns-clause-entries
returns-clause-entries c f =
    let d = c.index_mut-file.result.now in
    let is = reads c.args.files.now.items c.args.number c.args.i d c.requires.first c.index_mut-file.ensures.value in
    let calls : c.write.new.self.calls_left ≡ d.calls_left - 1 = omega (arith, c.write.ensures.calls) in
    let bytes : c.write.new.self.bytes_left ≡ d.bytes_left - length c.args.bytes.now = omega (arith, c.write.ensures.bytes) in
    set_to c.args.files.now.items c.args.number c.args.i d c.requires.first c.index_mut-file.ensures.value c.write.new.self _ c.write.ensures.number
    (entry_is (c.write.ensures.mem ∙ ap (λ (e : Entry). wrote c.args.at c.args.bytes.now e.mem) (sym is)) (c.write.ensures.left ∙ ap (λ (e : Entry). e.left) (sym is)) (calls ∙ ap (λ (e : Entry). e.room.calls - 1) (sym is)) (bytes ∙ ap (λ (e : Entry). e.room.bytes - length c.args.bytes.now) (sym is)) (c.write.ensures.syncs ∙ ap (λ (e : Entry). e.syncs) (sym is))) f

pub returns-clause-all_calls : goal.returns-clause-all_calls
returns-clause-all_calls c =
    let sums = set_calls c.args.files.now.items c.args.number c.args.i c.index_mut-file.result.now c.requires.first c.index_mut-file.ensures.value c.write.new.self in
    omega (arith, sums, c.write.ensures.calls)

pub returns-clause-all_bytes : goal.returns-clause-all_bytes
returns-clause-all_bytes c =
    let sums = set_bytes c.args.files.now.items c.args.number c.args.i c.index_mut-file.result.now c.requires.first c.index_mut-file.ensures.value c.write.new.self in
    omega (arith, sums, c.write.ensures.bytes)
