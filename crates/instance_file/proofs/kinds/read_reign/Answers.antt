use Rattle.std.proofs.Common.{◌≡◌}
use Rattle.global_defs.specs.Entry.{Reign}
use Rattle.repl_fields.proofs.Chains.{site, word, double, front, behind, joined}
use Rattle.instance_file.proofs.Bodies.{times, no_reign, bad_reign, some_reign}
use Rattle.instance_file.proofs.kinds.read_reign.Goals as goal

pub returns-in_default-read_u32 : goal.returns-in_default-read_u32
returns-in_default-read_u32 c = no_reign _ (behind site times _ _ _ c.in-Some.ensures (front word double _ c.in_default-read_u32.ensures))

pub returns-in_default-read_u64 : goal.returns-in_default-read_u64
returns-in_default-read_u64 c = no_reign _ (behind site times _ _ _ c.in-Some.ensures (behind word double _ _ _ c.in-Some-read_u32.ensures c.in_default-read_u64.ensures))

pub returns-then-not-is_in_range : goal.returns-then-not-is_in_range
returns-then-not-is_in_range c =
    let x : Reign = record { stamp = record { root = c.in-Some.root.now; cycle = c.in-Some-read_u32.cycle }; start = c.in-Some-read_u64.start } in
    bad_reign _ x _ (joined site times _ _ _ _ _ c.in-Some.ensures (joined word double _ _ _ _ _ c.in-Some-read_u32.ensures c.in-Some-read_u64.ensures))
    (λ good. let yes = c.is_in_range.ensures.1 (good.stamp.cycle.0, good.start.0, good.start.1) in cc (yes, c.if-not-is_in_range.true))

pub returns : goal.returns
returns c =
    let kept : c.in_ok-root.root ≡ c.in-Some.root.now = c.in_ok-root.ensures in
    let fits = c.is_in_range.ensures.0 c.if-not-is_in_range.false in
    rw kept (some_reign _ (record { stamp = record { root = c.in-Some.root.now; cycle = c.in-Some-read_u32.cycle }; start = c.in-Some-read_u64.start }) _
    (joined site times _ _ _ _ _ c.in-Some.ensures (joined word double _ _ _ _ _ c.in-Some-read_u32.ensures c.in-Some-read_u64.ensures))
    (record { stamp = record { root = c.in-Some.ensures.0; cycle = (fits.0, c.in-Some-read_u32.ensures.0) }; start = (fits.1, fits.2) }))
