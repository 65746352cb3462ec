use Rattle.std.proofs.Common.{◌≡◌, ℕ, ◌<◌, List, Vec, Global, map, IfSome, subst, arith}
use Rattle.std.proofs.lemmas.Result.{err_from_is_err_and}
use Rattle.std.proofs.lemmas.List.{length-map}
use Rattle.disk_defs.proofs.Frames.{reads_more}
use Rattle.disk_defs.proofs.Told.{weaker_told}
use Rattle.journal_defs.specs.Sequence.{Placed}
use Rattle.jnl_record.specs.declared.placed.PlacedRecord.{PlacedRecord}
use Rattle.jnl_record.specs.Values.{placed_value}
use Rattle.entry_index.specs.declared.placed.PlacedSign.{PlacedSign}
use Rattle.mupip_recover.specs.Site.{journal_of}
use Rattle.entry_index.specs.Indexes.{AreSigns}
use Rattle.site_files.specs.declared.error.FilesError.TheVariants.{NotAFile}
use Rattle.site_files.specs.Past.{all_past, AreRegionSigns}
use Rattle.site_files.proofs.Errors.{handed_on, causes_on}
use Rattle.site_files.proofs.RegionsRead.{one_longer}
use Rattle.site_files.proofs.PastRead.{told_lists, told_no_lists, lists_whole}
use Rattle.site_files.proofs.past.read_past.Goals as goal

abbrev signs_in : Vec PlacedSign Global → List PlacedSign
signs_in v = v.items

abbrev records_in : Vec PlacedRecord Global → List PlacedRecord
records_in v = v.items

pub loop-region-preserved : goal.loop-region-preserved
loop-region-preserved g c =
    let view = g.D.Disk.disk in
    let a = c.args in
    let l = c.loop-region in
    let inv = l.invariant in
    let x = c.index-signs-region.result in
    let made = c.in_ok-read.read in
    let here = subst (λ (ss : List PlacedSign). IfSome (view l.disk).content (λ files. (journal : List Placed) → AreRegionSigns files l.region ss journal → map placed_value made.items ≡ all_past a.count journal))
    c.deref.ensures.value c.in_ok-read.ensures.read in
    record {
      read = told_lists signs_in records_in (view a.disk.now).content (view l.disk).content a.count a.signs.now l.region x x inv.reads.content (omega arith) c.index-signs-region.is
          l.made.items c.add_region.new.regions.items made c.in_ok-add_region.ensures inv.many inv.read here;
      many = one_longer l.made.items c.add_region.new.regions.items c.in_ok-read.read l.region c.in_ok-add_region.ensures inv.many;
      reads = reads_more (view a.disk.now) (view l.disk) (view c.read_region.new.disk) (g.met.D.Disk.lawful a.disk.now) inv.reads c.read_region.ensures.reads;
      faults = omega (arith, inv.faults, c.read_region.ensures.faults.later);
    }

pub returns-in_err-read-clause-outside : goal.returns-in_err-read-clause-outside
returns-in_err-read-clause-outside g c =
    let view = g.D.Disk.disk in
    let a = c.args in
    let l = c.loop-region in
    let x = c.index-signs-region.result in
    let p = err_from_is_err_and c.from_residual.result c.from_residual.ensures.1 in
    rw (p.1, p.2) (λ file offset is.
    told_no_lists signs_in records_in (view a.disk.now).content (view l.disk).content a.count a.signs.now l.region x x l.invariant.reads.content (omega arith) c.index-signs-region.is
    (subst (λ (ss : List PlacedSign). IfSome (view l.disk).content (λ files. (journal : List Placed) → AreRegionSigns files l.region ss journal → ⊥)) c.deref.ensures.value
    (c.in_err-read.ensures.outside file offset (handed_on c.in_err-read.field-0.0 (NotAFile file offset) is))))

pub returns-in_err-read-clause-causes : goal.returns-in_err-read-clause-causes
returns-in_err-read-clause-causes g c =
    let p = err_from_is_err_and c.from_residual.result c.from_residual.ensures.1 in
    rw (p.1, p.2) (causes_on c.in_err-read.field-0.0 c.in_err-read.ensures.causes)

pub returns-clause-read : goal.returns-clause-read
returns-clause-read g c =
    let a = c.args in
    let l = c.loop-region in
    let signs = map signs_in a.signs.now in
    let past = map records_in l.made.items in
    weaker_told (g.D.Disk.disk a.disk.now).content (λ files. (journal : ℕ → List Placed) → AreSigns files signs journal → (r : ℕ) → r < l.region → journal_of past r ≡ all_past a.count (journal r))
    (λ files. (journal : ℕ → List Placed) → AreSigns files signs journal → (r : ℕ) → journal_of past r ≡ all_past a.count (journal r)) l.invariant.read
    (λ files before journal are. lists_whole records_in a.count l.made.items files signs journal l.region l.invariant.many (omega (arith, length-map a.signs.now signs_in)) are (before journal are))
