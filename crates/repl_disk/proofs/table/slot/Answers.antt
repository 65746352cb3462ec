use Rattle.std.proofs.Common.{rules, ◌≡◌, ℕ, List, sym, ◌∙◌, ap, subst, arith}
use Rattle.std.specs.List.{insert}
use Rattle.repl_disk.specs.Table.{Entry, entry_in, AreKept, all_calls, all_bytes, IsAbsent, IsPlaceFor}
use Rattle.repl_disk.specs.declared.file.MemFile.{MemFile}
use Rattle.repl_disk.proofs.Inserts.{insert_same, insert_calls, insert_bytes, insert_kept}
use Rattle.repl_disk.proofs.table.slot.Goals as goal

pub returns-in_ok-insert-in-Err-clause-kept : goal.returns-in_ok-insert-in-Err-clause-kept
returns-in_ok-insert-in-Err-clause-kept c =
    let inserted : c.insert.new.self.items ≡ insert c.args.files.now.items c.in-Err.i c.new.result = search rules in
    let place : IsPlaceFor c.args.files.now.items c.args.number c.in-Err.i = search rules in
    subst AreKept (sym inserted) (insert_kept c.args.files.now.items c.in-Err.i c.new.result c.requires.kept c.new.ensures.kept (subst (λ (n : ℕ). IsPlaceFor c.args.files.now.items n c.in-Err.i) (sym c.new.ensures.number) place))

pub returns-in_ok-insert-in-Err-clause-same : goal.returns-in_ok-insert-in-Err-clause-same
returns-in_ok-insert-in-Err-clause-same c f =
    let inserted : c.insert.new.self.items ≡ insert c.args.files.now.items c.in-Err.i c.new.result = search rules in
    let absent : IsAbsent c.args.files.now.items c.args.number = search rules in
    ap (λ (l : List MemFile). entry_in l f) inserted
    ∙ insert_same c.args.files.now.items c.in-Err.i c.new.result (subst (IsAbsent c.args.files.now.items) (sym c.new.ensures.number) absent) c.new.ensures.entry f

pub returns-in_ok-insert-in-Err-clause-calls : goal.returns-in_ok-insert-in-Err-clause-calls
returns-in_ok-insert-in-Err-clause-calls c =
    let inserted : c.insert.new.self.items ≡ insert c.args.files.now.items c.in-Err.i c.new.result = search rules in
    let none = ap (λ (e : Entry). e.room.calls) c.new.ensures.entry in
    omega (arith, ap all_calls inserted, insert_calls c.args.files.now.items c.in-Err.i c.new.result, none)

pub returns-in_ok-insert-in-Err-clause-bytes : goal.returns-in_ok-insert-in-Err-clause-bytes
returns-in_ok-insert-in-Err-clause-bytes c =
    let inserted : c.insert.new.self.items ≡ insert c.args.files.now.items c.in-Err.i c.new.result = search rules in
    let none = ap (λ (e : Entry). e.room.bytes) c.new.ensures.entry in
    omega (arith, ap all_bytes inserted, insert_bytes c.args.files.now.items c.in-Err.i c.new.result, none)
