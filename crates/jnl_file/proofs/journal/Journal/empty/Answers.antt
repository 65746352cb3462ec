use Rattle.std.proofs.Common.{[], refl, ◌∙◌}
use Rattle.disk_defs.specs.Frames.{Only}
use Rattle.disk_defs.proofs.Told.{weaker_told}
use Rattle.gated_file.specs.declared.gated.Gated.{Gated}
use Rattle.jnl_file.specs.Records.{Recorded, settled}
use Rattle.jnl_file.specs.Journal.{HasRecords}
use Rattle.jnl_file.specs.declared.journal.Journal.{Journal}
use Rattle.jnl_file.proofs.Making.{none_yet, some_records}
use Rattle.jnl_file.proofs.journal.Journal.empty.Goals as goal

pub returns-clause-state : goal.returns-clause-state
returns-clause-state g c =
    let view = g.D.Disk.disk in
    let made : Gated = c.in_ok-gated.gated in
    let j : Journal = record { gated = made; region = c.args.region; generation = c.args.generation; body = c.new.result; spare = c.new-2.result } in
    none_yet (view c.args.disk.now).content (view c.fresh.new.disk) made j refl c.in_ok-gated.ensures.state

pub returns-clause-ready : goal.returns-clause-ready
returns-clause-ready g c =
    let view = g.D.Disk.disk in
    let u = view c.args.disk.now in
    let w = view c.fresh.new.disk in
    let made : Gated = c.in_ok-gated.gated in
    let j : Journal = record { gated = made; region = c.args.region; generation = c.args.generation; body = c.new.result; spare = c.new-2.result } in
    record {
      file = c.in_ok-gated.ensures.file ∙ c.journal_file.ensures;
      gated = c.in_ok-gated.ensures.ready;
      state = some_records u w (Only c.journal_file.result) j c.fresh.ensures.frame
          (weaker_told u.content (λ files. HasRecords w j (settled [])) (λ files. (s : Recorded) × HasRecords w j s) (none_yet u.content w made j refl c.in_ok-gated.ensures.state) (λ files h. (settled [], h)));
    }
