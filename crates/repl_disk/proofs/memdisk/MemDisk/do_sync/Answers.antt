use Rattle.std.proofs.Common.{rules, ◌≡◌, ◌++◌, [], ◌∷◌, reverse, refl, ap, ◌∙◌, arith}
use Rattle.std.proofs.lemmas.List.{reverse-append}
use Rattle.repl_disk.specs.Mem.{Synced}
use Rattle.repl_disk.specs.Table.{Entry, IsAbsent}
use Rattle.repl_disk.proofs.Tables.{none_reads}
use Rattle.repl_disk.proofs.MemCalls.{table_synced}
use Rattle.repl_disk.proofs.memdisk.MemDisk.do_sync.Goals as goal

pub unreachable-requires : goal.unreachable-requires
unreachable-requires c =
    let absent : IsAbsent c.args.self.now.files.items c.args.file = search rules in
    let none = ap (λ (e : Entry). e.room.calls) (none_reads c.args.self.now.files.items c.args.file absent) in
    omega (arith, c.requires, none)

pub invariant_of-self : goal.invariant_of-self
invariant_of-self c =
    let told : c.with_sync-self.result.items ≡ c.args.self.now.calls.items ++ Synced c.args.file ∷ [] = search rules in
    let calls : reverse c.with_sync-self.result.items ≡ Synced c.args.file ∷ reverse c.args.self.now.calls.items = ap reverse told ∙ reverse-append c.args.self.now.calls.items (Synced c.args.file ∷ []) in
    record {
      replayed = table_synced c.args.self.now.files.items c.sync_file.new.files.items (reverse c.args.self.now.calls.items) (reverse c.with_sync-self.result.items) c.args.self.now.written.items c.args.self.now.written.items c.args.file calls refl
          c.args.self.now.replayed c.sync_file.ensures.entries;
      kept = c.sync_file.ensures.kept;
      all_calls = search rules;
      all_bytes = search rules;
    }
