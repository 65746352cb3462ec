use Rattle.repl_wire.proofs.Found.{entry_no_serial, entry_no_count}
use Rattle.repl_wire.proofs.reading.read_entry.Goals as goal

pub returns-in_default-read_u32 : goal.returns-in_default-read_u32
returns-in_default-read_u32 c = λ m t f e. absurd (entry_no_serial c.args.bytes.now c.in-Some.rest.now c.in-Some-read_u8.rest.now c.in-Some.number c.in-Some-read_u8.updater c.in-Some.ensures c.in-Some-read_u8.ensures c.in_default-read_u32.ensures m t f e)

pub returns-in_default-read_u16 : goal.returns-in_default-read_u16
returns-in_default-read_u16 c = λ m t f e. absurd (entry_no_count c.args.bytes.now c.in-Some.rest.now c.in-Some-read_u8.rest.now c.in-Some.number c.in-Some-read_u8.updater c.in-Some.ensures c.in-Some-read_u8.ensures c.in-Some-read_u32.serial c.in-Some-read_u32.rest.now c.in-Some-read_u32.ensures c.in_default-read_u16.ensures m t f e)
