use Rattle.std.proofs.Common.{◌<◌, ◌-◌, length, arith}
use Rattle.global_defs.specs.Entry.{is_under}
use Rattle.gvn_globals.proofs.Gone.{all_at}
use Rattle.gvn_globals.proofs.Noted.{noted_none, noted_next}
use Rattle.gvn_globals.proofs.together.note_all.Goals as goal

pub loop-key-init : goal.loop-key-init
loop-key-init c = noted_none c.args.gone.now c.args.top.now

pub loop-key-preserved : goal.loop-key-preserved
loop-key-preserved c =
    let within : length c.args.keys.now - 1 < length c.args.keys.now = omega (arith, c.loop-key-test.true) in
    noted_next c.args.gone.now c.args.top.now c.args.keys.now c.loop-key.key-index c.key-item.result c.index-keys-keys.result c.loop-key.gone c.note.new.gone c.loop-key-test.true c.key-item.is
    (all_at (is_under c.args.top.now) c.args.keys.now c.requires (length c.args.keys.now - 1) c.index-keys-keys.result within c.index-keys-keys.is) c.note.ensures.valid c.loop-key.invariant c.in_ok-note.ensures.made
