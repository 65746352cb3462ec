use Rattle.std.proofs.Common.{◌≡◌, ℕ, List, Vec, Global, map, IfSome, [], ◌++◌, ◌∙◌, ap, sym, subst}
use Rattle.std.proofs.lemmas.Result.{err_from_is_err_and}
use Rattle.disk_defs.specs.Disk.{Files}
use Rattle.disk_defs.proofs.Told.{weaker_told}
use Rattle.journal_defs.specs.Broken.{BrokenPart, broken, broken_text}
use Rattle.journal_defs.specs.Instance.{site_name}
use Rattle.journal_defs.specs.Sequence.{Placed}
use Rattle.jnl_record.specs.declared.placed.PlacedRecord.{PlacedRecord}
use Rattle.entry_index.specs.declared.placed.PlacedSign.{PlacedSign}
use Rattle.mupip_recover.specs.Site.{journal_of}
use Rattle.entry_index.specs.Indexes.{AreSigns}
use Rattle.site_files.specs.declared.error.FilesError.TheVariants.{NotAFile}
use Rattle.site_files.specs.Past.{all_past}
use Rattle.site_files.proofs.Errors.{handed_on, causes_on}
use Rattle.site_files.proofs.PastRead.{broken_past}
use Rattle.site_files.proofs.remembering.broken_text.Goals as goal

abbrev signs_in : Vec PlacedSign Global → List PlacedSign
signs_in v = v.items

abbrev records_in : Vec PlacedRecord Global → List PlacedRecord
records_in v = v.items

pub returns-in_err-past-clause-outside : goal.returns-in_err-past-clause-outside
returns-in_err-past-clause-outside g c =
    let p = err_from_is_err_and c.from_residual.result c.from_residual.ensures.1 in
    rw (p.1, p.2) (λ file offset is.
    subst (λ (lists : List (Vec PlacedSign Global)). IfSome (g.D.Disk.disk c.args.disk.now).content (λ files. (journal : ℕ → List Placed) → AreSigns files (map signs_in lists) journal → ⊥)) c.deref.ensures.value
    (c.in_err-past.ensures.outside file offset (handed_on c.in_err-past.field-0.0 (NotAFile file offset) is)))

pub returns-in_err-past-clause-causes : goal.returns-in_err-past-clause-causes
returns-in_err-past-clause-causes g c =
    let p = err_from_is_err_and c.from_residual.result c.from_residual.ensures.1 in
    rw (p.1, p.2) (causes_on c.in_err-past.field-0.0 c.in_err-past.ensures.causes)

pub returns-clause-text : goal.returns-clause-text
returns-clause-text g c =
    let a = c.args in
    let o = (g.D.Disk.disk a.disk.now).content in
    let rs = a.read.now.log.records in
    let lists = a.read.now.signs.items in
    let past = c.deref-2.result.now in
    let text = c.write_broken.new.out in
    let Read = λ (ls : List (Vec PlacedSign Global)) (ps : List (Vec PlacedRecord Global)) (files : Files). (journal : ℕ → List Placed) → AreSigns files (map signs_in ls) journal → (r : ℕ) → journal_of (map records_in ps) r ≡ all_past a.length (journal r) in
    let here = subst (λ (ls : List (Vec PlacedSign Global)). IfSome o (Read ls c.in_ok-past.past.items)) c.deref.ensures.value c.in_ok-past.ensures.read in
    weaker_told o (Read lists past) (λ files. (journal : ℕ → List Placed) → AreSigns files (map signs_in lists) journal → text ≡ broken_text (site_name rs) a.length (broken (record { instance = rs; journal = journal }) a.length))
    (subst (λ (ps : List (Vec PlacedRecord Global)). IfSome o (Read lists ps)) (sym c.deref-2.ensures.value) here)
    (λ files read journal are.
    c.in_ok-write_broken.ensures.ok ∙ ap (λ (l : List ℕ). l ++ broken_text (site_name rs) a.length (broken (record { instance = rs; journal = journal_of (map records_in past) }) a.length)) c.new-text.ensures
    ∙ ap (λ (ps : List BrokenPart). [] ++ broken_text (site_name rs) a.length ps) (broken_past rs a.length journal (journal_of (map records_in past)) (read journal are)))
