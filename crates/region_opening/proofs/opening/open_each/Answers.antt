use Rattle.std.proofs.Common.{◌∙◌, ◌≤◌, List, Vec, Global, length, map, IfSome, sym, ap, subst, arith}
use Rattle.std.specs.List.{AllByRecursion}
use Rattle.std.proofs.lemmas.Result.{err_from_is_err_and}
use Rattle.disk_defs.proofs.Told.{told_at}
use Rattle.disk_defs.proofs.Frames.{reads_more}
use Rattle.global_defs.specs.Entry.{Reign, Sequence}
use Rattle.global_defs.specs.Fields.{IsTransaction}
use Rattle.journal_defs.specs.Directory.{patterns}
use Rattle.journal_defs.specs.Surviving.{reigns}
use Rattle.entry_index.specs.declared.placed.PlacedSign.{PlacedSign}
use Rattle.entry_index.specs.Indexes.{Indexes}
use Rattle.region_store.specs.declared.error.RegionError.TheVariants.{NotAFile}
use Rattle.region_store.proofs.Handed.{handed_on}
use Rattle.region_opening.specs.Replaying.{AreBecome, IsGivenUpTo}
use Rattle.region_opening.proofs.Becoming.{become_as}
use Rattle.region_opening.proofs.Opened.{all_own, all_held, all_anew, all_opened, signs_refused, entries_refused}
use Rattle.region_opening.proofs.opening.open_each.Goals as goal
use Rattle.entry_index.specs.Parts.{InFiles}

pub replay-requires-clause-count : goal.replay-requires-clause-count
replay-requires-clause-count g c =
    let many = c.in_ok-begun.ensures.count in
    let numbers = c.in_ok-begun.ensures.numbers in
    ap length c.deref.ensures.value ∙ numbers ∙ sym many

pub replay-requires-clause-regions : goal.replay-requires-clause-regions
replay-requires-clause-regions g c = omega (arith, c.requires.regions, c.regions.ensures.count, c.regions.ensures.few)

pub returns-clause-count : goal.returns-clause-count
returns-clause-count g c =
    let o = (g.D.Disk.disk c.args.disk.now).content in
    let v = (g.D.Disk.disk c.begin_each.new.disk).content in
    let instance = c.args.instance.now in
    let index = c.args.entries.now in
    let t = c.args.target in
    let signs = map (λ (s : Vec PlacedSign Global). s.items) c.args.signs.now in
    let begun = c.in_ok-begun.begun in
    let call = c.in_ok-begun.ensures in
    let rs = begun.regions.items in
    let from = begun.from.items in
    let ms = c.replay.new.regions.items in
    let become : AreBecome (IsGivenUpTo o (reigns instance) index (patterns instance) from t) (length rs) rs ms =
    become_as o v c.args.history.now (reigns instance) index c.args.directory.now.patterns (patterns instance) c.deref.result.now from t (length rs) rs ms c.begin_each.ensures.reads.content c.requires.history c.requires.patterns c.deref.ensures.value c.in_ok-replay.ensures.made in
    become.count ∙ call.count

pub returns-clause-own : goal.returns-clause-own
returns-clause-own g c =
    let o = (g.D.Disk.disk c.args.disk.now).content in
    let v = (g.D.Disk.disk c.begin_each.new.disk).content in
    let instance = c.args.instance.now in
    let index = c.args.entries.now in
    let t = c.args.target in
    let signs = map (λ (s : Vec PlacedSign Global). s.items) c.args.signs.now in
    let begun = c.in_ok-begun.begun in
    let call = c.in_ok-begun.ensures in
    let rs = begun.regions.items in
    let from = begun.from.items in
    let ms = c.replay.new.regions.items in
    let become : AreBecome (IsGivenUpTo o (reigns instance) index (patterns instance) from t) (length rs) rs ms =
    become_as o v c.args.history.now (reigns instance) index c.args.directory.now.patterns (patterns instance) c.deref.result.now from t (length rs) rs ms c.begin_each.ensures.reads.content c.requires.history c.requires.patterns c.deref.ensures.value c.in_ok-replay.ensures.made in
    all_own o instance signs index t from rs ms become call.begun

pub returns-clause-held : goal.returns-clause-held
returns-clause-held g c =
    let o = (g.D.Disk.disk c.args.disk.now).content in
    let v = (g.D.Disk.disk c.begin_each.new.disk).content in
    let instance = c.args.instance.now in
    let index = c.args.entries.now in
    let t = c.args.target in
    let signs = map (λ (s : Vec PlacedSign Global). s.items) c.args.signs.now in
    let begun = c.in_ok-begun.begun in
    let call = c.in_ok-begun.ensures in
    let rs = begun.regions.items in
    let from = begun.from.items in
    let ms = c.replay.new.regions.items in
    let become : AreBecome (IsGivenUpTo o (reigns instance) index (patterns instance) from t) (length rs) rs ms =
    become_as o v c.args.history.now (reigns instance) index c.args.directory.now.patterns (patterns instance) c.deref.result.now from t (length rs) rs ms c.begin_each.ensures.reads.content c.requires.history c.requires.patterns c.deref.ensures.value c.in_ok-replay.ensures.made in
    all_held o instance signs index t from rs ms become call.held

pub returns-clause-anew : goal.returns-clause-anew
returns-clause-anew g c =
    let o = (g.D.Disk.disk c.args.disk.now).content in
    let v = (g.D.Disk.disk c.begin_each.new.disk).content in
    let instance = c.args.instance.now in
    let index = c.args.entries.now in
    let t = c.args.target in
    let signs = map (λ (s : Vec PlacedSign Global). s.items) c.args.signs.now in
    let begun = c.in_ok-begun.begun in
    let call = c.in_ok-begun.ensures in
    let rs = begun.regions.items in
    let from = begun.from.items in
    let ms = c.replay.new.regions.items in
    let become : AreBecome (IsGivenUpTo o (reigns instance) index (patterns instance) from t) (length rs) rs ms =
    become_as o v c.args.history.now (reigns instance) index c.args.directory.now.patterns (patterns instance) c.deref.result.now from t (length rs) rs ms c.begin_each.ensures.reads.content c.requires.history c.requires.patterns c.deref.ensures.value c.in_ok-replay.ensures.made in
    let some : 1 ≤ index.regions = omega (arith, c.requires.regions, c.regions.ensures.count, c.regions.ensures.some) in
    all_anew o instance signs index t from rs ms become some c.requires.target call.begun call.first

pub returns-clause-opened : goal.returns-clause-opened
returns-clause-opened g c =
    let o = (g.D.Disk.disk c.args.disk.now).content in
    let v = (g.D.Disk.disk c.begin_each.new.disk).content in
    let instance = c.args.instance.now in
    let index = c.args.entries.now in
    let t = c.args.target in
    let signs = map (λ (s : Vec PlacedSign Global). s.items) c.args.signs.now in
    let begun = c.in_ok-begun.begun in
    let call = c.in_ok-begun.ensures in
    let rs = begun.regions.items in
    let from = begun.from.items in
    let ms = c.replay.new.regions.items in
    let become : AreBecome (IsGivenUpTo o (reigns instance) index (patterns instance) from t) (length rs) rs ms =
    become_as o v c.args.history.now (reigns instance) index c.args.directory.now.patterns (patterns instance) c.deref.result.now from t (length rs) rs ms c.begin_each.ensures.reads.content c.requires.history c.requires.patterns c.deref.ensures.value c.in_ok-replay.ensures.made in
    let some : 1 ≤ index.regions = omega (arith, c.requires.regions, c.regions.ensures.count, c.regions.ensures.some) in
    all_opened o instance signs index t from rs ms become some c.requires.target call.begun call.gone_back

pub returns-clause-reads : goal.returns-clause-reads
returns-clause-reads g c =
    let view = g.D.Disk.disk in
    reads_more (view c.args.disk.now) (view c.begin_each.new.disk) (view c.replay.new.disk) (g.met.D.Disk.lawful c.args.disk.now) c.begin_each.ensures.reads c.replay.ensures.reads

pub returns-in_err-replay-clause-reads : goal.returns-in_err-replay-clause-reads
returns-in_err-replay-clause-reads g c =
    let view = g.D.Disk.disk in
    reads_more (view c.args.disk.now) (view c.begin_each.new.disk) (view c.replay.new.disk) (g.met.D.Disk.lawful c.args.disk.now) c.begin_each.ensures.reads c.replay.ensures.reads

pub returns-in_err-begun-clause-outside : goal.returns-in_err-begun-clause-outside
returns-in_err-begun-clause-outside g c =
    let o = (g.D.Disk.disk c.args.disk.now).content in
    let signs = map (λ (s : Vec PlacedSign Global). s.items) c.args.signs.now in
    let p = err_from_is_err_and c.from_residual.result c.from_residual.ensures.1 in
    rw (p.1, p.2) (λ f offset is.
    signs_refused o c.args.instance.now signs c.args.entries.now c.args.target c.args.directory.now.regions f offset (c.in_err-begun.ensures.outside f offset (handed_on c.in_err-begun.field-0.0 (NotAFile f offset) is)))

pub returns-in_err-replay-clause-outside : goal.returns-in_err-replay-clause-outside
returns-in_err-replay-clause-outside g c =
    let o = (g.D.Disk.disk c.args.disk.now).content in
    let v = (g.D.Disk.disk c.begin_each.new.disk).content in
    let instance = c.args.instance.now in
    let index = c.args.entries.now in
    let t = c.args.target in
    let signs = map (λ (s : Vec PlacedSign Global). s.items) c.args.signs.now in
    let some : 1 ≤ index.regions = omega (arith, c.requires.regions, c.regions.ensures.count, c.regions.ensures.some) in
    let p = err_from_is_err_and c.from_residual-in_err-replay.result c.from_residual-in_err-replay.ensures.1 in
    rw (p.1, p.2) (λ f offset is.
    let none : IfSome v (λ files. (seq : Sequence) → Indexes (InFiles files) c.args.history.now index seq → AllByRecursion (λ e. IsTransaction e.transaction) seq → t ≤ length seq → ⊥) =
    c.in_err-replay.ensures.outside f offset (handed_on c.in_err-replay.field-0.0 (NotAFile f offset) is) in
    entries_refused o instance signs index t c.args.directory.now.regions f offset some c.requires.target
    (told_at o v (λ files. (seq : Sequence) → Indexes (InFiles files) (reigns instance) index seq → AllByRecursion (λ e. IsTransaction e.transaction) seq → t ≤ length seq → ⊥) c.begin_each.ensures.reads.content
    (subst (λ (rs : List Reign). IfSome v (λ files. (seq : Sequence) → Indexes (InFiles files) rs index seq → AllByRecursion (λ e. IsTransaction e.transaction) seq → t ≤ length seq → ⊥)) c.requires.history none)))
