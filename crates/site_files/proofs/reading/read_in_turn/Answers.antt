use Rattle.std.proofs.Common.{◌≡◌, ℕ, List, Vec, Global, length, map, IfSome, ◌∙◌, sym, subst}
use Rattle.std.proofs.lemmas.Result.{err_from_is_err_and}
use Rattle.std.proofs.lemmas.List.{length-map}
use Rattle.disk_defs.specs.Disk.{Files}
use Rattle.disk_defs.proofs.Told.{told_at}
use Rattle.global_defs.specs.Entry.{Sequence}
use Rattle.journal_defs.specs.Surviving.{reigns}
use Rattle.journal_defs.specs.Sequence.{Placed, IsSequence}
use Rattle.entry_index.specs.declared.placed.PlacedSign.{PlacedSign}
use Rattle.entry_index.specs.Among.{ArePlaced}
use Rattle.entry_index.specs.Indexes.{AreSigns, Indexes}
use Rattle.entry_index.specs.Parts.{InFiles}
use Rattle.site_files.specs.declared.error.FilesError.TheVariants.{NotAFile}
use Rattle.site_defs.specs.Outside.{AreOutside}
use Rattle.site_files.proofs.Errors.{handed_on}
use Rattle.site_files.proofs.InTurn.{have_found, no_other}
use Rattle.site_files.proofs.reading.read_in_turn.Goals as goal

abbrev signs_in : Vec PlacedSign Global → List PlacedSign
signs_in v = v.items

pub returns-clause-found : goal.returns-clause-found
returns-clause-found g c =
    let view = g.D.Disk.disk in
    let o = (view c.args.disk.now).content in
    let rs = c.args.log.now.records in
    let read = c.in_ok-signs.field-0 in
    let lists = read.signs.items in
    let made = c.in_ok-entries.entries in
    let got = c.in_ok-signs.ensures in
    let told = c.in_ok-entries.ensures in
    let Told = λ (ls : List (Vec PlacedSign Global)) (files : Files). (journal : ℕ → List Placed) → AreSigns files (map signs_in ls) journal → (seq : Sequence) × IsSequence (record { instance = rs; journal = journal }) seq × Indexes (InFiles files) (reigns rs) made seq in
    let many = length-map lists signs_in in
    have_found o c.args.regions c.args.last read.last_began.items (map signs_in lists) got.read rs made (many ∙ got.many)
    (told.regions ∙ subst (λ (ls : List (Vec PlacedSign Global)). length ls ≡ length (map signs_in lists)) (sym c.deref.ensures.value) (sym many))
    (subst (λ (ls : List (Vec PlacedSign Global)). ArePlaced rs (map signs_in ls) made) c.deref.ensures.value told.placed)
    (told_at o (view c.read_regions.new.disk).content (Told lists) got.content
    (subst (λ (ls : List (Vec PlacedSign Global)). IfSome (view c.read_regions.new.disk).content (Told ls)) c.deref.ensures.value told.sequence))

pub returns-in_err-entries-clause-place : goal.returns-in_err-entries-clause-place
returns-in_err-entries-clause-place g c =
    let view = g.D.Disk.disk in
    let o = (view c.args.disk.now).content in
    let read = c.in_ok-signs.field-0 in
    let lists = read.signs.items in
    let got = c.in_ok-signs.ensures in
    let None_there = λ (ls : List (Vec PlacedSign Global)) (files : Files). (journal : ℕ → List Placed) → AreSigns files (map signs_in ls) journal → ⊥ in
    let p = err_from_is_err_and c.from_residual-in_err-entries.result c.from_residual-in_err-entries.ensures.1 in
    rw (p.1, p.2) (λ file offset is.
    no_other o c.args.regions c.args.last read.last_began.items (map signs_in lists) got.read (λ files. AreOutside files c.args.regions c.args.last file offset)
    (told_at o (view c.read_regions.new.disk).content (None_there lists) got.content
    (subst (λ (ls : List (Vec PlacedSign Global)). IfSome (view c.read_regions.new.disk).content (None_there ls)) c.deref.ensures.value
    (c.in_err-entries.ensures.outside file offset (handed_on c.in_err-entries.field-0.0 (NotAFile file offset) is)))))
