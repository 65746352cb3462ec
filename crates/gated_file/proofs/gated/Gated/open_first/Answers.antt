use Rattle.std.proofs.Common.{refl}
use Rattle.gated_file.proofs.Open.{has_opened, ready_opened, open_moments, first_inside}
use Rattle.disk_defs.proofs.Frames.{others_written}
use Rattle.gated_file.proofs.gated.Gated.open_first.Goals as goal

pub write_at-requires-clause-place : goal.write_at-requires-clause-place
write_at-requires-clause-place g c = first_inside _ c.args.self.now _ _ c.in-Some.ensures.items c.requires.ready

pub returns-in_err-write_at-clause-any_moment : goal.returns-in_err-write_at-clause-any_moment
returns-in_err-write_at-clause-any_moment g c s has = open_moments _ _ c.args.self.now s _ _ c.in-Some.ensures.items c.requires.is_synced c.write_at.ensures.passes has

pub returns-clause-ready : goal.returns-clause-ready
returns-clause-ready g c =
    ready_opened _ _ c.args.self.now _ c.in-Some.place (record {
      file = refl;
      end = refl;
      closed = c.in-Some.ensures.items;
      deque = c.in-Some.ensures.capacity;
      buffer = refl;
      bodies_left = refl;
      bytes_left = refl;
      syncs_left = refl;
      was_synced = c.requires.is_synced;
      synced = c.requires.is_synced;
      reads = c.in_ok-write_at.ensures.ok;
      passes = c.write_at.ensures.passes;
      used = c.write_at.ensures.room;
    }) c.requires.ready

pub returns-clause-opened : goal.returns-clause-opened
returns-clause-opened g c s has =
    has_opened _ _ c.args.self.now _ c.in-Some.place (record {
      file = refl;
      end = refl;
      closed = c.in-Some.ensures.items;
      deque = c.in-Some.ensures.capacity;
      buffer = refl;
      bodies_left = refl;
      bytes_left = refl;
      syncs_left = refl;
      was_synced = c.requires.is_synced;
      synced = c.requires.is_synced;
      reads = c.in_ok-write_at.ensures.ok;
      passes = c.write_at.ensures.passes;
      used = c.write_at.ensures.room;
    }) s has

pub returns-clause-any_moment : goal.returns-clause-any_moment
returns-clause-any_moment g c s has = open_moments _ _ c.args.self.now s _ _ c.in-Some.ensures.items c.requires.is_synced c.write_at.ensures.passes has

pub returns-in_err-write_at-clause-frame : goal.returns-in_err-write_at-clause-frame
returns-in_err-write_at-clause-frame g c = others_written _ _ c.args.self.now.file _ _ _ c.write_at.ensures.content c.write_at.ensures.passes c.write_at.ensures.room

pub returns-clause-frame : goal.returns-clause-frame
returns-clause-frame g c = others_written _ _ c.args.self.now.file _ _ _ c.write_at.ensures.content c.write_at.ensures.passes c.write_at.ensures.room
