use Rattle.std.proofs.Common.{arith}
use Rattle.repl_disk.proofs.Tables.{entry_calls, entry_bytes}
use Rattle.repl_disk.proofs.memdisk.MemDisk.do_room.Goals as goal

pub grow_file-requires-clause-calls : goal.grow_file-requires-clause-calls
grow_file-requires-clause-calls c = omega (arith, entry_calls c.slot.new.files.items c.args.file, c.slot.ensures.calls, c.args.self.now.all_calls, c.requires.calls)

pub grow_file-requires-clause-bytes : goal.grow_file-requires-clause-bytes
grow_file-requires-clause-bytes c = omega (arith, entry_bytes c.slot.new.files.items c.args.file, c.slot.ensures.bytes, c.args.self.now.all_bytes, c.requires.bytes)
