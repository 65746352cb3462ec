use Rattle.std.proofs.Common.{rules, ◌+◌, ◌<◌, ◌≤◌, ◌++◌, ◌∷◌, [], List, ℕ, Option, take, drop, subst, arith}
use Rattle.disk_defs.specs.Gates.{Body}
use Rattle.disk_defs.proofs.Told.{told_at, both_weak}
use Rattle.disk_defs.proofs.Frames.{reads_more}
use Rattle.gated_file.specs.Reading.{BodyAt, HasBody}
use Rattle.disk_defs.specs.OutsideGates.{LeadsTo}
use Rattle.gated_file.proofs.Walking.{leads_next}
use Rattle.gated_file.proofs.attach.find_end.Goals as goal

pub loop-n-preserved : goal.loop-n-preserved
loop-n-preserved g c =
    let view = g.D.Disk.disk in
    let inv = c.loop-n.invariant in
    let file = c.args.file in
    let at = c.loop-n.at in
    let inside : at + (c.in-Some.n + 5) < c.args.size = search rules in
    let faults : (view c.args.disk.now).faults ≤ (view c.body_length.new.disk).faults = omega (arith, inv.faults, c.body_length.ensures.faults.later) in
    let found = told_at _ _ (λ files. BodyAt (files file) at c.in_ok-n.field-0) inv.reads.content c.in_ok-n.ensures.found in
    record {
      inside = inside;
      leads = both_weak _ (λ files. (bodies : List Body) × LeadsTo (files file) at bodies) (λ files. BodyAt (files file) at c.in_ok-n.field-0) _ inv.leads found
          (λ files leads here.
          let has : HasBody (files file) at c.in-Some.n = subst (λ (o : Option ℕ). BodyAt (files file) at o) c.in-Some.is here in
          (leads.0 ++ take c.in-Some.n (drop (at + 5) (files file)) ∷ [], leads_next (files file) at c.in-Some.n leads.0 leads.1 has));
      reads = reads_more (view c.args.disk.now) (view c.loop-n.disk) (view c.body_length.new.disk) (g.met.D.Disk.lawful c.args.disk.now) inv.reads c.body_length.ensures.reads;
      faults = faults;
    }
