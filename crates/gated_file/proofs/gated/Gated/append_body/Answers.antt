use Rattle.std.proofs.Common.{rules, ◌≡◌, ◌+◌, ◌-◌, ◌++◌, [], ◌∷◌, length, refl, arith, ◌∙◌}
use Rattle.gated_file.proofs.Steps.{inside}
use Rattle.gated_file.proofs.Append.{append_moments, has_appended, ready_appended}
use Rattle.disk_defs.proofs.Frames.{others_written}
use Rattle.gated_file.proofs.gated.Gated.append_body.Goals as goal

pub write_at-requires-clause-place : goal.write_at-requires-clause-place
write_at-requires-clause-place g c = inside (g.D.Disk.disk c.args.disk.now) c.args.self.now c.requires.ready

pub returns-in_err-write_at-clause-any_moment : goal.returns-in_err-write_at-clause-any_moment
returns-in_err-write_at-clause-any_moment g c s has = append_moments _ _ c.args.self.now s _ _ refl c.write_at.ensures.passes has

pub returns-clause-ready : goal.returns-clause-ready
returns-clause-ready g c =
    let pushed : c.push_back.new.self.items ≡ c.args.self.now.closed.items ++ c.args.self.now.end ∷ [] = search rules in
    ready_appended _ _ c.args.self.now _ c.args.body.now c.deref.result.now (record {
      file = refl;
      end = refl;
      closed = pushed;
      bodies_left = omega (arith, c.requires.room);
      bytes_left = omega (arith, c.requires.bytes);
      syncs_left = refl;
      synced = refl;
      deque = c.push_back.ensures.capacity;
      buffer = c.fill.ensures.capacity;
      is_body = record { not_empty = c.requires.size; not_long = c.requires.short };
      spells = c.deref.ensures.value ∙ c.fill.ensures.items;
      reads = c.in_ok-write_at.ensures.ok;
      passes = c.write_at.ensures.passes;
      used = c.write_at.ensures.room;
    }) c.requires.ready

pub returns-clause-appended : goal.returns-clause-appended
returns-clause-appended g c s has =
    let pushed : c.push_back.new.self.items ≡ c.args.self.now.closed.items ++ c.args.self.now.end ∷ [] = search rules in
    let bodies : c.args.self.now.bodies_left - 1 + 1 ≡ c.args.self.now.bodies_left = omega (arith, c.requires.room) in
    let bytes : c.args.self.now.bytes_left - length c.args.body.now + length c.args.body.now ≡ c.args.self.now.bytes_left = omega (arith, c.requires.bytes) in
    has_appended _ _ c.args.self.now _ c.args.body.now c.deref.result.now (record {
      file = refl;
      end = refl;
      closed = pushed;
      bodies_left = bodies;
      bytes_left = bytes;
      syncs_left = refl;
      synced = refl;
      deque = c.push_back.ensures.capacity;
      buffer = c.fill.ensures.capacity;
      is_body = record { not_empty = c.requires.size; not_long = c.requires.short };
      spells = c.deref.ensures.value ∙ c.fill.ensures.items;
      reads = c.in_ok-write_at.ensures.ok;
      passes = c.write_at.ensures.passes;
      used = c.write_at.ensures.room;
    }) s has

pub returns-clause-any_moment : goal.returns-clause-any_moment
returns-clause-any_moment g c s has = append_moments _ _ c.args.self.now s _ _ refl c.write_at.ensures.passes has

pub returns-in_err-write_at-clause-frame : goal.returns-in_err-write_at-clause-frame
returns-in_err-write_at-clause-frame g c = others_written _ _ c.args.self.now.file _ _ _ c.write_at.ensures.content c.write_at.ensures.passes c.write_at.ensures.room

pub returns-clause-frame : goal.returns-clause-frame
returns-clause-frame g c = others_written _ _ c.args.self.now.file _ _ _ c.write_at.ensures.content c.write_at.ensures.passes c.write_at.ensures.room
