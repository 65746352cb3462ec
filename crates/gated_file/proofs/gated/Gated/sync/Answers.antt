use Rattle.std.proofs.Common.{◌≡◌, ◌+◌, ◌-◌, refl, arith}
use Rattle.gated_file.proofs.Open.{has_synced, ready_synced}
use Rattle.disk_defs.proofs.Frames.{others_synced}
use Rattle.gated_file.proofs.gated.Gated.sync.Goals as goal

pub returns-clause-ready : goal.returns-clause-ready
returns-clause-ready g c =
    let fewer : c.args.self.now.syncs_left - 1 + 1 ≡ c.args.self.now.syncs_left = omega (arith, c.requires.room) in
    ready_synced _ _ c.args.self.now _ (record {
      file = refl;
      end = refl;
      closed = refl;
      buffer = refl;
      bodies_left = refl;
      bytes_left = refl;
      syncs_left = fewer;
      content = c.sync.ensures.content;
      durable = c.in_ok-sync.ensures.durable;
      used = c.sync.ensures.room;
    }) c.requires.ready

pub returns-clause-synced : goal.returns-clause-synced
returns-clause-synced g c s has =
    let fewer : c.args.self.now.syncs_left - 1 + 1 ≡ c.args.self.now.syncs_left = omega (arith, c.requires.room) in
    has_synced _ _ c.args.self.now _ (record {
      file = refl;
      end = refl;
      closed = refl;
      buffer = refl;
      bodies_left = refl;
      bytes_left = refl;
      syncs_left = fewer;
      content = c.sync.ensures.content;
      durable = c.in_ok-sync.ensures.durable;
      used = c.sync.ensures.room;
    }) s has

pub returns-in_err-sync-clause-frame : goal.returns-in_err-sync-clause-frame
returns-in_err-sync-clause-frame g c = others_synced _ _ c.args.self.now.file _ c.sync.ensures.content c.sync.ensures.passes c.sync.ensures.room

pub returns-clause-frame : goal.returns-clause-frame
returns-clause-frame g c = others_synced _ _ c.args.self.now.file _ c.sync.ensures.content c.sync.ensures.passes c.sync.ensures.room
