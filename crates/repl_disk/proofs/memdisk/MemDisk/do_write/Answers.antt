use Rattle.std.proofs.Common.{rules, ◌≡◌, ◌++◌, [], ◌∷◌, length, reverse, ap, ◌∙◌, arith}
use Rattle.std.proofs.lemmas.List.{reverse-append}
use Rattle.repl_disk.specs.Mem.{Wrote}
use Rattle.repl_disk.specs.Table.{Entry, IsAbsent}
use Rattle.repl_disk.proofs.Tables.{none_reads}
use Rattle.repl_disk.proofs.MemCalls.{table_wrote}
use Rattle.repl_disk.proofs.memdisk.MemDisk.do_write.Goals as goal

pub unreachable-requires : goal.unreachable-requires
unreachable-requires c =
    let absent : IsAbsent c.args.self.now.files.items c.args.file = search rules in
    let none = ap (λ (e : Entry). e.room.calls) (none_reads c.args.self.now.files.items c.args.file absent) in
    omega (arith, c.requires.calls, none)

pub invariant_of-self : goal.invariant_of-self
invariant_of-self c =
    let told : c.with_write-self.result.items ≡ c.args.self.now.calls.items ++ Wrote c.args.file c.args.at (length c.args.bytes.now) ∷ [] = search rules in
    let calls : reverse c.with_write-self.result.items ≡ Wrote c.args.file c.args.at (length c.args.bytes.now) ∷ reverse c.args.self.now.calls.items = ap reverse told ∙ reverse-append c.args.self.now.calls.items (Wrote c.args.file c.args.at (length c.args.bytes.now) ∷ []) in
    let kept : c.with-self.result.items ≡ c.args.self.now.written.items ++ c.args.bytes.now = search rules in
    record {
      replayed = table_wrote c.args.self.now.files.items c.write_file.new.files.items (reverse c.args.self.now.calls.items) (reverse c.with_write-self.result.items) c.args.self.now.written.items c.with-self.result.items c.args.file c.args.at c.args.bytes.now calls kept
          c.args.self.now.replayed c.write_file.ensures.entries;
      kept = c.write_file.ensures.kept;
      all_calls = search rules;
      all_bytes = search rules;
    }
