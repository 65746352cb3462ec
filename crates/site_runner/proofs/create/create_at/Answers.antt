use Rattle.std.proofs.Common.{◌≡◌, ℕ, Bool, List, map, sym, ◌∙◌, ap, subst, Ok}
use Rattle.global_defs.specs.Region.{Region}
use Rattle.site_store.specs.Opening.{region_value}
use Rattle.gvn_model.specs.Regions.{named_region}
use Rattle.command_defs.specs.Commands.{Create, IsFormed}
use Rattle.site_store.specs.declared.layout.RegionSpec.{RegionSpec}
use Rattle.site_runner.specs.declared.slot.Slot.TheVariants.{Free}
use Rattle.site_runner.specs.Creating.{spec_of, MakesHere}
use Rattle.world_defs.specs.rows.Create.{create}
use Rattle.site_runner.proofs.Looked.{looked_cut}
use Rattle.site_runner.proofs.Created.{regions_of, create_unseen, create_found, create_there}
use Rattle.site_runner.proofs.create.create_at.Goals as goal

pub returns-in-Err-clause-left : goal.returns-in-Err-clause-left
returns-in-Err-clause-left g c =
    create_unseen g.D.Disk.disk (Free c.args.disk) (Free c.look.new.disk) c.args.name c.as_slice.result.now (map named_region c.args.regions.now) c.in-Err.error c.write_failure-ended.result c.args.text.now c.write_failure-ended.new.text c.in-Err.ensures.seen c.as_slice.ensures c.write_failure-ended.ensures

pub returns-in-Ok-Some-clause-left : goal.returns-in-Ok-Some-clause-left
returns-in-Ok-Some-clause-left g c =
    create_found g.D.Disk.disk (Free c.args.disk) (Free c.look.new.disk) c.args.name c.as_slice-in-Ok-Some.result.now (map named_region c.args.regions.now) c.in-Ok-Some.field-0-0 c.refuse-ended.result c.args.text.now c.refuse-ended.new.text (rw c.in-Ok-Some.field-0-is at c.in-Ok-Some.ensures.seen) c.as_slice-in-Ok-Some.ensures c.refuse-ended.ensures

-- the regions of the site are the command's
regions_so : (specs made : List RegionSpec) (rs : List (List ℕ × Bool)) → made ≡ specs → specs ≡ map spec_of rs → map region_value made ≡ map named_region rs
regions_so specs made rs e f = ap (λ (l : List RegionSpec). map region_value l) (e ∙ f) ∙ regions_of rs

pub make-requires-clause-formed : goal.make-requires-clause-formed
make-requires-clause-formed g c =
    let same = regions_so c.in-Ok.specs.items c.deref.result.now c.args.regions.now c.deref.ensures.value c.in-Ok.ensures in
    subst (λ (rs : List Region). IsFormed (Create c.args.name rs)) (sym same) c.requires

pub make-requires-clause-empty : goal.make-requires-clause-empty
make-requires-clause-empty g c = c.in-Ok-None.ensures.empty (ap Ok c.in-Ok-None.field-0-is)

pub returns-in-Ok-clause-left : goal.returns-in-Ok-clause-left
returns-in-Ok-clause-left g c =
    let same = regions_so c.in-Ok.specs.items c.deref.result.now c.args.regions.now c.deref.ensures.value c.in-Ok.ensures in
    create_there g.D.Disk.disk (Free c.args.disk) (Free c.look.new.disk) c.make.result.0 c.args.name (map named_region c.args.regions.now) c.make.result.1 c.args.text.now c.make.new.text (rw c.in-Ok-None.field-0-is at c.in-Ok-None.ensures.seen)
    (subst (λ (rs : List Region). MakesHere g.D.Disk.disk c.args.name rs (Free c.look.new.disk) c.make.result c.args.text.now c.make.new.text) same c.make.ensures.left)

pub returns-in-Err-region_specs-clause-left : goal.returns-in-Err-region_specs-clause-left
returns-in-Err-region_specs-clause-left g c = looked_cut g.D.Disk.disk (Free c.args.disk) (Free c.look.new.disk) (create (map named_region c.args.regions.now) c.args.name) c.look.result c.look.ensures.seen
