use Rattle.repl_wire.proofs.Found.{no_cycle, no_start}
use Rattle.repl_wire.proofs.reading.read_reign.Goals as goal

pub returns-in_default-read_u32 : goal.returns-in_default-read_u32
returns-in_default-read_u32 c = no_cycle c.args.bytes.now c.in-Some.root.now c.in-Some.rest.now c.in-Some.ensures c.in_default-read_u32.ensures

pub returns-in_default-read_u64 : goal.returns-in_default-read_u64
returns-in_default-read_u64 c = no_start c.args.bytes.now c.in-Some.root.now c.in-Some.rest.now c.in-Some-read_u32.cycle c.in-Some-read_u32.rest.now c.in-Some.ensures c.in-Some-read_u32.ensures c.in_default-read_u64.ensures
