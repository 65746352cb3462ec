use Rattle.std.proofs.Common.{rules, ◌≡◌, length, refl, ◌∙◌, arith}
use Rattle.gated_file.proofs.Open.{open_more, open_next, open_done, here_more}
use Rattle.disk_defs.proofs.Frames.{others_same}
use Rattle.gated_file.proofs.Open.{others_next}
use Rattle.gated_file.proofs.gated.Gated.open_gates.Goals as goal

pub loop-self-init : goal.loop-self-init
loop-self-init g c = record {
  ready = c.requires.ready;
  bodies = refl;
  bytes = refl;
  syncs = refl;
  file = refl;
  is_synced = c.requires.is_synced;
  faults = omega arith;
  opened = λ s has. (s, has, refl, refl);
  moments = λ s has. here_more _ c.args.self.now s has;
  frame = others_same _ _;
}

pub loop-self-preserved : goal.loop-self-preserved
loop-self-preserved g c =
    let inv = c.loop-self.invariant in
    let call = c.in_ok-open_first.ensures in
    record {
      ready = call.ready;
      bodies = call.room ∙ inv.bodies;
      bytes = call.bytes ∙ inv.bytes;
      syncs = call.syncs ∙ inv.syncs;
      file = call.file ∙ inv.file;
      is_synced = call.is_synced;
      faults = omega (arith, inv.faults, call.cause.later);
      frame = others_next _ _ _ _ _ inv.file inv.frame call.frame;
      opened = λ s has. let t = inv.opened s has in open_next _ _ s t.0 t.2 t.3 (call.opened t.0 t.1);
      moments = λ s has.
          let t = inv.opened s has in
          open_more _ _ _ _ _ s t.0 (g.met.D.Disk.lawful c.loop-self.disk) inv.file t.2 t.3 (inv.moments s has) (call.any_moment t.0 t.1);
    }

pub returns-in_err-open_first-clause-any_moment : goal.returns-in_err-open_first-clause-any_moment
returns-in_err-open_first-clause-any_moment g c s has =
    let inv = c.loop-self.invariant in
    let t = inv.opened s has in
    open_more _ _ _ _ _ s t.0 (g.met.D.Disk.lawful c.loop-self.disk) inv.file t.2 t.3 (inv.moments s has) (c.open_first.ensures.any_moment t.0 t.1)

pub returns-clause-opened : goal.returns-clause-opened
returns-clause-opened g c s has =
    let inv = c.loop-self.invariant in
    let t = inv.opened s has in
    let none : length c.loop-self.self.closed.items ≡ 0 = search rules in
    open_done _ c.loop-self.self s t.0 none t.1 t.2 t.3

pub returns-in_err-open_first-clause-frame : goal.returns-in_err-open_first-clause-frame
returns-in_err-open_first-clause-frame g c = others_next _ _ _ _ _ c.loop-self.invariant.file c.loop-self.invariant.frame c.open_first.ensures.frame

pub returns-clause-frame : goal.returns-clause-frame
returns-clause-frame g c = c.loop-self.invariant.frame
