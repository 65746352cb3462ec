use Rattle.std.proofs.Common.{◌<◌, ◌+◌, ◌^◌, sym, ◌∙◌, ap, subst, arith}
use Rattle.repl_disk.specs.Mem.{Room}
use Rattle.repl_disk.specs.Table.{Entry}
use Rattle.repl_disk.proofs.Tables.{is_kept, set_are_kept, set_to, set_kept, set_calls, set_bytes, reads, entry_is, on_err}
use Rattle.repl_disk.proofs.table.grow_file.Goals as goal

pub reserve-requires-clause-kept : goal.reserve-requires-clause-kept
reserve-requires-clause-kept c = is_kept c.args.files.now.items c.args.number c.args.i c.index_mut-file.result.now c.requires.first c.index_mut-file.ensures.value c.requires.kept

pub returns-clause-kept : goal.returns-clause-kept
returns-clause-kept c = set_are_kept c.args.files.now.items c.args.number c.args.i c.index_mut-file.result.now c.requires.first c.index_mut-file.ensures.value c.reserve.new.self c.reserve.ensures.number c.requires.kept c.reserve.ensures.kept

pub returns-in_err-reserve-clause-kept : goal.returns-in_err-reserve-clause-kept
returns-in_err-reserve-clause-kept c = set_are_kept c.args.files.now.items c.args.number c.args.i c.index_mut-file.result.now c.requires.first c.index_mut-file.ensures.value c.reserve.new.self c.reserve.ensures.number c.requires.kept c.reserve.ensures.kept

pub reserve-requires-clause-calls : goal.reserve-requires-clause-calls
reserve-requires-clause-calls c =
    let is = reads c.args.files.now.items c.args.number c.args.i c.index_mut-file.result.now c.requires.first c.index_mut-file.ensures.value in
    subst (λ (e : Entry). e.room.calls + c.args.calls < 2 ^ 59) is c.requires.calls

pub reserve-requires-clause-bytes : goal.reserve-requires-clause-bytes
reserve-requires-clause-bytes c =
    let is = reads c.args.files.now.items c.args.number c.args.i c.index_mut-file.result.now c.requires.first c.index_mut-file.ensures.value in
    subst (λ (e : Entry). e.room.bytes + c.args.bytes < 2 ^ 59) is c.requires.bytes

pub returns-in_err-reserve-clause-err : goal.returns-in_err-reserve-clause-err
returns-in_err-reserve-clause-err c =
    on_err c.from_residual.result (set_kept c.args.files.now.items c.args.number c.args.i c.index_mut-file.result.now c.requires.first c.index_mut-file.ensures.value c.reserve.new.self c.reserve.ensures.number
    (entry_is c.reserve.ensures.mem c.reserve.ensures.left (ap (λ (r : Room). r.calls) c.in_err-reserve.ensures.err) (ap (λ (r : Room). r.bytes) c.in_err-reserve.ensures.err) c.reserve.ensures.syncs))

pub returns-in_err-reserve-clause-err_calls : goal.returns-in_err-reserve-clause-err_calls
returns-in_err-reserve-clause-err_calls c =
    let sums = set_calls c.args.files.now.items c.args.number c.args.i c.index_mut-file.result.now c.requires.first c.index_mut-file.ensures.value c.reserve.new.self in
    let same = ap (λ (r : Room). r.calls) c.in_err-reserve.ensures.err in
    on_err c.from_residual.result (omega (arith, sums, same))

pub returns-in_err-reserve-clause-err_bytes : goal.returns-in_err-reserve-clause-err_bytes
returns-in_err-reserve-clause-err_bytes c =
    let sums = set_bytes c.args.files.now.items c.args.number c.args.i c.index_mut-file.result.now c.requires.first c.index_mut-file.ensures.value c.reserve.new.self in
    let same = ap (λ (r : Room). r.bytes) c.in_err-reserve.ensures.err in
    on_err c.from_residual.result (omega (arith, sums, same))

pub returns-clause-ok : goal.returns-clause-ok
returns-clause-ok c f =
    let is = reads c.args.files.now.items c.args.number c.args.i c.index_mut-file.result.now c.requires.first c.index_mut-file.ensures.value in
    set_to c.args.files.now.items c.args.number c.args.i c.index_mut-file.result.now c.requires.first c.index_mut-file.ensures.value c.reserve.new.self _ c.reserve.ensures.number
    (entry_is (c.reserve.ensures.mem ∙ ap (λ (e : Entry). e.mem) (sym is)) (c.reserve.ensures.left ∙ ap (λ (e : Entry). e.left) (sym is)) (c.in_ok-reserve.ensures.calls ∙ ap (λ (e : Entry). e.room.calls + c.args.calls) (sym is)) (c.in_ok-reserve.ensures.bytes ∙ ap (λ (e : Entry). e.room.bytes + c.args.bytes) (sym is)) (c.reserve.ensures.syncs ∙ ap (λ (e : Entry). e.syncs) (sym is))) f

pub returns-clause-calls : goal.returns-clause-calls
returns-clause-calls c =
    let sums = set_calls c.args.files.now.items c.args.number c.args.i c.index_mut-file.result.now c.requires.first c.index_mut-file.ensures.value c.reserve.new.self in
    omega (arith, sums, c.in_ok-reserve.ensures.calls)

pub returns-clause-bytes : goal.returns-clause-bytes
returns-clause-bytes c =
    let sums = set_bytes c.args.files.now.items c.args.number c.args.i c.index_mut-file.result.now c.requires.first c.index_mut-file.ensures.value c.reserve.new.self in
    omega (arith, sums, c.in_ok-reserve.ensures.bytes)
