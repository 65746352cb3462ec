use Rattle.std.proofs.Common.{arith, ◌++◌, length, sym, refl, None}
use Rattle.std.specs.Int.{to_be_bytes, w32}
use Rattle.std.specs.List.{flat_map}
use Rattle.wire_defs.specs.Frames.{spelled_reign}
use Rattle.repl_wire.proofs.Found.{hello_name, hello_length, hello_reigns, hello_whole, none_some}
use Rattle.repl_wire.proofs.reading.read_hello.Goals as goal

pub returns-in_default-read_u64 : goal.returns-in_default-read_u64
returns-in_default-read_u64 c = λ w m h f e.
    let small = f.2 in
    absurd (c.in_default-read_u64.ensures h.length (to_be_bytes w32 (length h.reigns) ++ flat_map spelled_reign h.reigns) (omega arith) (sym (hello_name c.args.bytes.now c.in-Some.rest.now c.in-Some-read_short.rest.now c.in-Some.version c.in-Some-read_short.name.now c.in-Some.ensures c.in-Some-read_short.ensures w m h f e).2))

pub returns-in_default-read_u32 : goal.returns-in_default-read_u32
returns-in_default-read_u32 c = λ w m h f e. absurd (c.in_default-read_u32.ensures (length h.reigns) (flat_map spelled_reign h.reigns) f.3 (sym (hello_length c.args.bytes.now c.in-Some.rest.now c.in-Some-read_short.rest.now c.in-Some.version c.in-Some-read_short.name.now c.in-Some.ensures c.in-Some-read_short.ensures c.in-Some-read_u64.length c.in-Some-read_u64.rest.now c.in-Some-read_u64.ensures w m h f e).1))

pub returns-in_default-2 : goal.returns-in_default-2
returns-in_default-2 c = λ w m h f e. absurd (none_some h.reigns None refl (hello_reigns c.args.bytes.now c.in-Some.rest.now c.in-Some-read_short.rest.now c.in-Some.version c.in-Some-read_short.name.now c.in-Some.ensures c.in-Some-read_short.ensures c.in-Some-read_u64.length c.in-Some-read_u64.rest.now c.in-Some-read_u64.ensures c.in-Some-read_u32.count c.in-Some-read_u32.rest.now c.in-Some-read_u32.ensures None (rw c.in_default-2.is at c.in_ok-reigns.ensures) w m h f e))

pub returns : goal.returns
returns c = hello_whole c.args.bytes.now c.in-Some.rest.now c.in-Some-read_short.rest.now c.in-Some.version c.in-Some-read_short.name.now c.in-Some.ensures c.in-Some-read_short.ensures c.in-Some-read_u64.length c.in-Some-read_u64.rest.now c.in-Some-read_u64.ensures c.in-Some-read_u32.count c.in-Some-read_u32.rest.now c.in-Some-read_u32.ensures c.in-Some-2.reigns (rw c.in-Some-2.is at c.in_ok-reigns.ensures) c.in_ok-name.name c.in_ok-name.ensures
