use Rattle.std.proofs.Common.{◌≡◌, ◌≤◌, ◌+◌, ◌∙◌, ℕ, IsTrue, List, [], length, map, get_or, IfSome, sym, ap, subst}
use Rattle.std.proofs.lemmas.List.{length-map}
use Rattle.disk_defs.proofs.Told.{told_at}
use Rattle.gvn_model.specs.Reigns.{reign_value}
use Rattle.journal_defs.specs.Instance.{InstanceRecord}
use Rattle.journal_defs.specs.Sequence.{Placed}
use Rattle.journal_defs.specs.Surviving.{reigns}
use Rattle.mupip_recover.specs.Stamps.{AreStarts}
use Rattle.entry_index.specs.Cursors.{AreReady, AreOnWay, AllReadOutBy, AreAdded, FromStart}
use Rattle.entry_index.specs.Found.{HaveFound}
use Rattle.entry_index.specs.declared.cursor.Cursor.{Cursor}
use Rattle.entry_index.specs.declared.index.EntryIndex.{EntryIndex}
use Rattle.entry_index.specs.declared.placed.PlacedSign.{PlacedSign}
use Rattle.entry_index.proofs.Syncing.{moments_of}
use Rattle.entry_index.proofs.Adding.{at_some, starts_are, told_found, began_least}
use Rattle.entry_index.proofs.side_by_side.look_side_by_side.Goals as goal

pub read_all_out-requires-clause-ready : goal.read_all_out-requires-clause-ready
read_all_out-requires-clause-ready g c =
    let view = g.D.Disk.disk in
    let add = c.in_ok-count.ensures in
    let first = c.in_ok-cursors.cursors.items in
    let mid = c.add_all.new.cursors.items in
    (c.args.last, at_some c.in_ok-count.field-0 c.in-Some.count (λ _. (k : ℕ) → AreReady (view c.begin_all.new.disk).content k first → AreReady (view c.add_all.new.disk).content k mid) c.in-Some.is add.ready c.args.last c.in_ok-cursors.ensures.ready)

pub returns-clause-any_moment : goal.returns-clause-any_moment
returns-clause-any_moment g c =
    let view = g.D.Disk.disk in
    let s = c.sync_all.new.disk in
    let b = c.begin_all.new.disk in
    moments_of (view c.args.disk.now) (view s) (view b) (view c.add_all.new.disk) (view c.read_all_out.new.disk) (g.met.D.Disk.lawful s) (g.met.D.Disk.lawful b) c.sync_all.ensures.any_moment c.begin_all.ensures.reads c.add_all.ensures.reads
    c.read_all_out.ensures.reads

pub returns-in_err-read_all_out-clause-any_moment : goal.returns-in_err-read_all_out-clause-any_moment
returns-in_err-read_all_out-clause-any_moment g c =
    let view = g.D.Disk.disk in
    let s = c.sync_all.new.disk in
    let b = c.begin_all.new.disk in
    moments_of (view c.args.disk.now) (view s) (view b) (view c.add_all.new.disk) (view c.read_all_out.new.disk) (g.met.D.Disk.lawful s) (g.met.D.Disk.lawful b) c.sync_all.ensures.any_moment c.begin_all.ensures.reads c.add_all.ensures.reads
    c.read_all_out.ensures.reads

pub returns-then-not-branch-clause-any_moment : goal.returns-then-not-branch-clause-any_moment
returns-then-not-branch-clause-any_moment g c =
    let view = g.D.Disk.disk in
    let s = c.sync_all.new.disk in
    let b = c.begin_all.new.disk in
    moments_of (view c.args.disk.now) (view s) (view b) (view c.add_all.new.disk) (view c.read_all_out.new.disk) (g.met.D.Disk.lawful s) (g.met.D.Disk.lawful b) c.sync_all.ensures.any_moment c.begin_all.ensures.reads c.add_all.ensures.reads
    c.read_all_out.ensures.reads

pub returns-in_err-found_by-clause-any_moment : goal.returns-in_err-found_by-clause-any_moment
returns-in_err-found_by-clause-any_moment g c =
    let view = g.D.Disk.disk in
    let s = c.sync_all.new.disk in
    let b = c.begin_all.new.disk in
    moments_of (view c.args.disk.now) (view s) (view b) (view c.add_all.new.disk) (view c.read_all_out.new.disk) (g.met.D.Disk.lawful s) (g.met.D.Disk.lawful b) c.sync_all.ensures.any_moment c.begin_all.ensures.reads c.add_all.ensures.reads
    c.read_all_out.ensures.reads

pub returns-clause-found : goal.returns-clause-found
returns-clause-found g c =
    let view = g.D.Disk.disk in
    let a = c.args in
    let u = view a.disk.now in
    let s = view c.sync_all.new.disk in
    let b = view c.begin_all.new.disk in
    let v = view c.add_all.new.disk in
    let w = view c.read_all_out.new.disk in
    let instance = a.instance.now in
    let cuts = c.in_ok-cuts.cuts in
    let starts = c.deref.result.now in
    let first = c.in_ok-cursors.cursors.items in
    let mid = c.add_all.new.cursors.items in
    let cs = c.read_all_out.new.cursors.items in
    let made = c.add_all.new.made in
    let n = c.in-Some.count in
    let yes : IsTrue c.in_ok-read_all_out.field-0 = c.if-not-branch.false in
    let begin = c.in_ok-cursors.ensures in
    let add = c.in_ok-count.ensures in
    let out = c.in_ok-read_all_out.ensures in
    let found = c.in_ok-found_by.ensures in
    let content_s : s.content ≡ u.content = c.sync_all.ensures.content in
    let content_b : b.content ≡ u.content = begin.reads.content ∙ content_s in
    let content_v : v.content ≡ u.content = c.add_all.ensures.reads.content ∙ content_b in
    let told = at_some c.in_ok-count.field-0 n (λ k. IfSome b.content (FromStart cuts starts a.lowest first (λ files instance. AreAdded files instance a.lowest k mid made))) c.in-Some.is add.added in
    let are_starts : AreStarts (reigns instance) starts = starts_are instance c.args.history.now (map reign_value c.as_slice.result.now) starts c.in_ok-starts.starts.items c.requires.history c.as_slice.ensures c.deref.ensures.value c.in_ok-starts.ensures in
    let mid_many : length mid ≡ length first = at_some c.in_ok-count.field-0 n (λ _. length mid ≡ length first) c.in-Some.is add.many in
    let many : length cs ≡ a.regions = out.many yes ∙ mid_many ∙ begin.many in
    let mid_ready : AreReady v.content a.last mid =
    at_some c.in_ok-count.field-0 n (λ _. (k : ℕ) → AreReady b.content k first → AreReady v.content k mid) c.in-Some.is add.ready a.last begin.ready in
    let ready : AreReady w.content a.last cs = out.ready yes a.last mid_ready in
    subst (λ (l : List (List PlacedSign)). IfSome u.content (λ files. (journal : ℕ → List Placed) × HaveFound files instance a.lowest a.regions a.last l c.in_ok-found_by.field-0.last_began.items c.in_ok-found_by.field-0.entries journal)) (sym found.signs)
    (subst (λ (l : List ℕ). IfSome u.content (λ files. (journal : ℕ → List Placed) × HaveFound files instance a.lowest a.regions a.last (map (λ c. c.kept.signs.items) cs) l c.in_ok-found_by.field-0.entries journal)) (sym found.began)
    (subst (λ (x : EntryIndex). IfSome u.content (λ files. (journal : ℕ → List Placed) × HaveFound files instance a.lowest a.regions a.last (map (λ c. c.kept.signs.items) cs) (map (λ c. c.reader.began) cs) x journal)) (sym found.entries)
    (told_found u.content cuts starts a.lowest first mid cs made instance a.regions n a.last w.content c.in_ok-cuts.ensures are_starts many ready (out.done yes) (λ files. begin.told files instance)
    (told_at u.content s.content (λ files. (i : List InstanceRecord) (lowest : ℕ) → AreOnWay files i lowest 0 first (λ r. [])) content_s begin.begun)
    (told_at u.content b.content (FromStart cuts starts a.lowest first (λ files instance. AreAdded files instance a.lowest n mid made)) content_b told)
    (told_at u.content v.content (AllReadOutBy cuts (n + 1) mid cs) content_v (out.read yes)))))

pub returns-clause-began : goal.returns-clause-began
returns-clause-began g c =
    let view = g.D.Disk.disk in
    let a = c.args in
    let b = view c.begin_all.new.disk in
    let v = view c.add_all.new.disk in
    let w = view c.read_all_out.new.disk in
    let first = c.in_ok-cursors.cursors.items in
    let mid = c.add_all.new.cursors.items in
    let cs = c.read_all_out.new.cursors.items in
    let yes : IsTrue c.in_ok-read_all_out.field-0 = c.if-not-branch.false in
    let add = c.in_ok-count.ensures in
    let out = c.in_ok-read_all_out.ensures in
    let n = c.in-Some.count in
    let mid_many : length mid ≡ length first = at_some c.in_ok-count.field-0 n (λ _. length mid ≡ length first) c.in-Some.is add.many in
    let mid_ready : AreReady v.content a.last mid =
    at_some c.in_ok-count.field-0 n (λ _. (k : ℕ) → AreReady b.content k first → AreReady v.content k mid) c.in-Some.is add.ready a.last c.in_ok-cursors.ensures.ready in
    let ready : AreReady w.content a.last cs = out.ready yes a.last mid_ready in
    let began = c.in_ok-found_by.ensures.began in (
      ap length began ∙ length-map cs (λ (x : Cursor). x.reader.began) ∙ out.many yes ∙ mid_many ∙ c.in_ok-cursors.ensures.many,
      λ r. subst (λ (l : List ℕ). get_or l r 0 ≤ a.last) (sym began) (began_least w.content a.last cs ready r),
    )
