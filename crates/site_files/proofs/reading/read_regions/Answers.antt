use Rattle.std.proofs.Common.{rules, ◌+◌, ◌≤◌, ◌<◌, ℕ, List, Vec, Global, refl, sym, ◌∙◌, subst, arith}
use Rattle.std.proofs.lemmas.Result.{err_from_is_err_and}
use Rattle.disk_defs.specs.Disk.{Image}
use Rattle.disk_defs.proofs.Moments.{nothing_new, started}
use Rattle.jnl_file.proofs.Newer.{all_told}
use Rattle.entry_index.specs.declared.placed.PlacedSign.{PlacedSign}
use Rattle.site_files.specs.Loading.{last_of}
use Rattle.site_files.specs.Reading.{AreAllDurable}
use Rattle.site_files.specs.declared.error.FilesError.TheVariants.{NotAFile}
use Rattle.site_files.proofs.Errors.{handed_on, causes_on}
use Rattle.site_files.proofs.RegionsRead.{none_read, none_began, told_none, told_outside, told_more, one_longer, began_more, told_durable}
use Rattle.site_files.proofs.reading.read_regions.Goals as goal

pub returns-in_err-read-clause-outside : goal.returns-in_err-read-clause-outside
returns-in_err-read-clause-outside g c =
    let view = g.D.Disk.disk in
    let l = c.loop-region in
    let low : l.region < c.args.regions = omega arith in
    let p = err_from_is_err_and c.from_residual.result c.from_residual.ensures.1 in
    rw (p.1, p.2) (λ file offset is.
    told_none (view c.args.disk.now).content (view l.disk).content c.args.regions l.region c.args.last low l.invariant.content (c.in_err-read.ensures.outside file offset (handed_on c.in_err-read.field-0.0 (NotAFile file offset) is)))

pub returns-in_err-read-clause-place : goal.returns-in_err-read-clause-place
returns-in_err-read-clause-place g c =
    let view = g.D.Disk.disk in
    let l = c.loop-region in
    let low : l.region < c.args.regions = omega arith in
    let p = err_from_is_err_and c.from_residual.result c.from_residual.ensures.1 in
    rw (p.1, p.2) (λ file offset is.
    told_outside (view c.args.disk.now).content (view l.disk).content c.args.regions l.region c.args.last _ _ file offset low l.invariant.content l.invariant.read
    (c.in_err-read.ensures.place file offset (handed_on c.in_err-read.field-0.0 (NotAFile file offset) is)))

pub returns-in_err-read-clause-causes : goal.returns-in_err-read-clause-causes
returns-in_err-read-clause-causes g c =
    let p = err_from_is_err_and c.from_residual.result c.from_residual.ensures.1 in
    rw (p.1, p.2) (causes_on c.in_err-read.field-0.0 c.in_err-read.ensures.causes)

pub loop-region-init : goal.loop-region-init
loop-region-init g c =
    let a = c.args in
    let u = g.D.Disk.disk a.disk.now in
    record {
      read = none_read (λ (j : Vec PlacedSign Global). j.items) u.content a.last c.new-last_began.result.items c.new-signs.result.items c.new-signs.ensures.items;
      many = search rules;
      many_last = search rules;
      began = λ r. none_began c.new-last_began.result.items a.last r c.new-last_began.ensures.items;
      durable = all_told u.content (AreAllDurable u 0 a.last) (λ files r low. absurd (omega (arith, low)));
      content = refl;
      moments = started u (Image u) (λ files now. now);
      simulated = refl;
      faults = omega arith;
    }

pub loop-region-preserved : goal.loop-region-preserved
loop-region-preserved g c =
    let view = g.D.Disk.disk in
    let l = c.loop-region in
    let inv = l.invariant in
    let call = c.index_journals.ensures in
    let got = c.in_ok-read.ensures in
    let made = c.in_ok-read.read in
    let pushed = c.in_ok-add_read.ensures in
    let u = view c.args.disk.now in
    let v = view l.disk in
    let w = view c.index_journals.new.disk in
    record {
      read = told_more (λ (j : Vec PlacedSign Global). j.items) u.content v.content l.region (l.region + 1) c.args.last l.last_began.items c.add_read.new.last_began.items l.signs.items c.add_read.new.signs.items made.last_began made.signs c.requires.last refl inv.content inv.many_last inv.many pushed.last_began pushed.signs inv.read got.read;
      many = one_longer l.signs.items c.add_read.new.signs.items made.signs l.region pushed.signs inv.many;
      many_last = one_longer l.last_began.items c.add_read.new.last_began.items made.last_began l.region pushed.last_began inv.many_last;
      began = λ r. subst (λ (k : List ℕ). last_of k r ≤ c.args.last) (sym {A = List ℕ} pushed.last_began) (began_more l.last_began.items made.last_began c.args.last r inv.began got.began);
      durable = told_durable u v w l.region (l.region + 1) c.args.last refl inv.content (g.met.D.Disk.lawful c.index_journals.new.disk) call.any_moment inv.durable got.durable;
      content = call.content ∙ inv.content;
      moments = nothing_new u v w (Image u) (g.met.D.Disk.lawful l.disk) inv.moments call.any_moment;
      simulated = call.simulated ∙ inv.simulated;
      faults = omega (arith, inv.faults, call.faults.later);
    }
