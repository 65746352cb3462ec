use Rattle.std.proofs.Common.{◌≡◌, ℕ, ◌*◌, List, [], map, subst, IfSome, sym}
use Rattle.std.proofs.lemmas.Result.{IfOk-weaker, err_from_is_err_and}
use Rattle.disk_defs.proofs.Told.{told_at}
use Rattle.journal_defs.specs.Numbers.{database_file}
use Rattle.journal_defs.specs.Sequence.{Placed}
use Rattle.journal_defs.specs.Epochs.{image_state, block_of}
use Rattle.block_laws.specs.Nodes.{AreFormed}
use Rattle.jnl_record.specs.declared.placed.PlacedRecord.{PlacedRecord}
use Rattle.jnl_record.specs.Values.{placed_value}
use Rattle.region_store.specs.Laid.{epoch_at}
use Rattle.region_store.specs.Region.{HoldsRegion, IsReplayed}
use Rattle.site_defs.specs.OutsideBlocks.{IsOutsideAt}
use Rattle.region_store.specs.declared.error.RegionError.TheVariants.{NotAFile}
use Rattle.region_store.proofs.Handed.{handed_on}
use Rattle.region_opening.specs.Epochs.{chosen_at}
use Rattle.region_opening.specs.Signs.{AreTold}
use Rattle.region_opening.proofs.Lists.{behind}
use Rattle.region_opening.proofs.Oldest.{holds_behind, globals_behind, outside_behind, held_opened, nothing_told}
use Rattle.region_opening.proofs.opening.open_at.Goals as goal

pub open-requires-clause-behind : goal.open-requires-clause-behind
open-requires-clause-behind g c = subst (λ (ps : List PlacedRecord). AreFormed (map placed_value ps)) (sym c.deref.ensures.value) c.in_ok-images.ensures.forms

pub returns-clause-held : goal.returns-clause-held
returns-clause-held g c =
    let o = (g.D.Disk.disk c.args.disk.now).content in
    let v = (g.D.Disk.disk c.read_images.new.disk).content in
    let n = c.args.number in
    let blocks = c.args.start.blocks in
    let opened = c.deref.result.now in
    held_opened c.open.result o v (database_file n) blocks opened c.read_images.ensures.reads.content c.open.ensures.file c.open.ensures.holds

pub returns-clause-holds : goal.returns-clause-holds
returns-clause-holds g c =
    let o = (g.D.Disk.disk c.args.disk.now).content in
    let v = (g.D.Disk.disk c.read_images.new.disk).content in
    let n = c.args.number in
    let start = c.args.start in
    let signs = c.args.signs.now in
    let images = c.in_ok-images.images.items in
    let opened = c.deref.result.now in
    IfOk-weaker c.open.result (λ made. IfSome v (λ files. (m : ℕ) → HoldsRegion (epoch_at m start.blocks opened) (files (database_file n)) made))
    (λ made. IfSome o (λ files. (journal : List Placed) → AreTold files n signs journal → HoldsRegion (chosen_at start journal) (files (database_file n)) made))
    (λ made holds. holds_behind o n start.after start.number start.blocks signs _ images opened (behind signs start.after) c.deref.ensures.value c.in_ok-images.ensures.images made
    (told_at o v (λ files. (m : ℕ) → HoldsRegion (epoch_at m start.blocks opened) (files (database_file n)) made) c.read_images.ensures.reads.content holds)) c.open.ensures.holds

pub returns-clause-globals : goal.returns-clause-globals
returns-clause-globals g c =
    let o = (g.D.Disk.disk c.args.disk.now).content in
    let v = (g.D.Disk.disk c.read_images.new.disk).content in
    let n = c.args.number in
    let start = c.args.start in
    let signs = c.args.signs.now in
    let images = c.in_ok-images.images.items in
    let opened = c.deref.result.now in
    IfOk-weaker c.open.result (λ made. IfSome v (λ files. (m : ℕ) → IsReplayed (image_state (epoch_at m start.blocks opened) (block_of (files (database_file n)))) [] made.globals))
    (λ made. IfSome o (λ files. (journal : List Placed) → AreTold files n signs journal → IsReplayed (image_state (chosen_at start journal) (block_of (files (database_file n)))) [] made.globals))
    (λ made globals. globals_behind o n start.after start.number start.blocks signs _ images opened (behind signs start.after) c.deref.ensures.value c.in_ok-images.ensures.images made
    (told_at o v (λ files. (m : ℕ) → IsReplayed (image_state (epoch_at m start.blocks opened) (block_of (files (database_file n)))) [] made.globals) c.read_images.ensures.reads.content globals)) c.open.ensures.globals

pub returns-clause-outside : goal.returns-clause-outside
returns-clause-outside g c f offset is =
    let o = (g.D.Disk.disk c.args.disk.now).content in
    let v = (g.D.Disk.disk c.read_images.new.disk).content in
    let n = c.args.number in
    let start = c.args.start in
    let signs = c.args.signs.now in
    let images = c.in_ok-images.images.items in
    let opened = c.deref.result.now in
    outside_behind o n start.after start.number start.blocks signs _ images opened (behind signs start.after) c.deref.ensures.value c.in_ok-images.ensures.images f offset (c.open.ensures.place f offset is)
    (told_at o v (λ files. (m : ℕ) → (b : ℕ) × (offset ≡ 4096 * b) × IsOutsideAt (image_state (epoch_at m start.blocks opened) (block_of (files (database_file n)))) b) c.read_images.ensures.reads.content
    (c.open.ensures.outside f offset is))

pub returns-in_err-images-clause-outside : goal.returns-in_err-images-clause-outside
returns-in_err-images-clause-outside g c =
    let o = (g.D.Disk.disk c.args.disk.now).content in
    let n = c.args.number in
    let start = c.args.start in
    let signs = c.args.signs.now in
    let p = err_from_is_err_and c.from_residual.result c.from_residual.ensures.1 in
    rw (p.1, p.2) (λ f offset is.
    nothing_told o n start.after signs _ (behind signs start.after) (λ files journal. (f ≡ database_file n) × (b : ℕ) × (offset ≡ 4096 * b) × IsOutsideAt (image_state (chosen_at start journal) (block_of (files (database_file n)))) b)
    (c.in_err-images.ensures.outside f offset (handed_on c.in_err-images.field-0.0 (NotAFile f offset) is)))
