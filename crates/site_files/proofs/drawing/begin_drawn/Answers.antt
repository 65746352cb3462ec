use Rattle.std.proofs.Common.{◌≡◌, ℕ, [], ◌∷◌, length, Some, IfSome, sym, subst, arith}
use Rattle.std.specs.List.{slice_get}
use Rattle.disk_defs.specs.Disk.{Files, Image, From, AtEachMoment}
use Rattle.disk_defs.specs.Frames.{OthersStay}
use Rattle.journal_defs.specs.Instance.{generation}
use Rattle.jnl_file.specs.Journal as journals
use Rattle.jnl_file.specs.Records.{settled}
use Rattle.jnl_file.specs.declared.journal.Journal.{Journal}
use Rattle.site_files.specs.Loading.{HasBegun, AreJournalsOf, AreUnbegun, first_by}
use Rattle.site_files.proofs.Frames.{records_stay, ready_stays}
use Rattle.site_files.proofs.drawing.begin_drawn.Goals as goal

pub begin_all-requires-clause-generation : goal.begin_all-requires-clause-generation
begin_all-requires-clause-generation g c =
    let view = g.D.Disk.disk in
    let v = view c.args.disk.now in
    let rs = c.args.instance.records in
    let lasts = c.args.last_began.now in
    let m = length lasts in
    let newest : c.generation-newest.result ≡ generation rs = c.generation-newest.ensures in
    let low = c.requires.generation in omega (arith, newest, low)

pub begin_all-requires-clause-earlier : goal.begin_all-requires-clause-earlier
begin_all-requires-clause-earlier g c =
    let view = g.D.Disk.disk in
    let v = view c.args.disk.now in
    let rs = c.args.instance.records in
    let lasts = c.args.last_began.now in
    let m = length lasts in
    let newest : c.generation-newest.result ≡ generation rs = c.generation-newest.ensures in
    λ r. let low = c.requires.earlier r in omega (arith, newest, low)

pub begin_all-requires-clause-unbegun : goal.begin_all-requires-clause-unbegun
begin_all-requires-clause-unbegun g c =
    let view = g.D.Disk.disk in
    let v = view c.args.disk.now in
    let rs = c.args.instance.records in
    let lasts = c.args.last_began.now in
    let m = length lasts in
    let newest : c.generation-newest.result ≡ generation rs = c.generation-newest.ensures in
    subst (λ (k : ℕ). IfSome v.content (λ _. (f : Files) → Image v f → AreUnbegun k m f)) (sym newest) c.requires.unbegun

pub returns-in_err-journals-clause-any_moment : goal.returns-in_err-journals-clause-any_moment
returns-in_err-journals-clause-any_moment g c =
    let view = g.D.Disk.disk in
    let v = view c.args.disk.now in
    let w = view c.begin_all.new.disk in
    let rs = c.args.instance.records in
    let lasts = c.args.last_began.now in
    let m = length lasts in
    let newest : c.generation-newest.result ≡ generation rs = c.generation-newest.ensures in
    subst (λ (k : ℕ). IfSome v.content (λ _. AtEachMoment v w (From (Image v) (λ was now. (x : ℕ) × HasBegun k m (first_by c.args.anew rs k lasts) x was now)))) newest c.begin_all.ensures.any_moment

pub returns-in_err-journals-clause-frame : goal.returns-in_err-journals-clause-frame
returns-in_err-journals-clause-frame g c =
    let view = g.D.Disk.disk in
    let v = view c.args.disk.now in
    let w = view c.begin_all.new.disk in
    let rs = c.args.instance.records in
    let lasts = c.args.last_began.now in
    let m = length lasts in
    let newest : c.generation-newest.result ≡ generation rs = c.generation-newest.ensures in
    subst (λ (k : ℕ). OthersStay (AreJournalsOf k m) v w) newest c.begin_all.ensures.frame

pub returns-clause-any_moment : goal.returns-clause-any_moment
returns-clause-any_moment g c =
    let view = g.D.Disk.disk in
    let v = view c.args.disk.now in
    let w = view c.begin_all.new.disk in
    let rs = c.args.instance.records in
    let lasts = c.args.last_began.now in
    let m = length lasts in
    let newest : c.generation-newest.result ≡ generation rs = c.generation-newest.ensures in
    subst (λ (k : ℕ). IfSome v.content (λ _. AtEachMoment v w (From (Image v) (λ was now. (x : ℕ) × HasBegun k m (first_by c.args.anew rs k lasts) x was now)))) newest c.begin_all.ensures.any_moment

pub returns-clause-frame : goal.returns-clause-frame
returns-clause-frame g c =
    let view = g.D.Disk.disk in
    let v = view c.args.disk.now in
    let w = view c.begin_all.new.disk in
    let rs = c.args.instance.records in
    let lasts = c.args.last_began.now in
    let m = length lasts in
    let newest : c.generation-newest.result ≡ generation rs = c.generation-newest.ensures in
    subst (λ (k : ℕ). OthersStay (AreJournalsOf k m) v w) newest c.begin_all.ensures.frame

pub returns-clause-instance : goal.returns-clause-instance
returns-clause-instance g c =
    let view = g.D.Disk.disk in
    let v = view c.args.disk.now in
    let w = view c.begin_all.new.disk in
    let rs = c.args.instance.records in
    let lasts = c.args.last_began.now in
    let m = length lasts in
    let newest : c.generation-newest.result ≡ generation rs = c.generation-newest.ensures in
    ready_stays v w (AreJournalsOf c.generation-newest.result m) c.args.instance c.begin_all.ensures.frame (λ o. let e = o.2 in omega (arith, e)) c.requires.ready

pub returns-clause-instance_file : goal.returns-clause-instance_file
returns-clause-instance_file g c =
    let view = g.D.Disk.disk in
    let v = view c.args.disk.now in
    let w = view c.begin_all.new.disk in
    let rs = c.args.instance.records in
    let lasts = c.args.last_began.now in
    let m = length lasts in
    let newest : c.generation-newest.result ≡ generation rs = c.generation-newest.ensures in
    records_stay v w (AreJournalsOf c.generation-newest.result m) c.args.instance c.begin_all.ensures.frame (λ o. let e = o.2 in omega (arith, e))

pub returns-clause-journals : goal.returns-clause-journals
returns-clause-journals g c =
    let view = g.D.Disk.disk in
    let v = view c.args.disk.now in
    let w = view c.begin_all.new.disk in
    let rs = c.args.instance.records in
    let lasts = c.args.last_began.now in
    let m = length lasts in
    let newest : c.generation-newest.result ≡ generation rs = c.generation-newest.ensures in
    subst (λ (k : ℕ). (r : ℕ) (j : Journal) → slice_get c.in_ok-journals.journals.items r ≡ Some j → journals.IsReady w j × journals.IsJournalOf j r k) newest c.in_ok-journals.ensures.ready

pub returns-clause-journal_files : goal.returns-clause-journal_files
returns-clause-journal_files g c =
    let view = g.D.Disk.disk in
    let v = view c.args.disk.now in
    let w = view c.begin_all.new.disk in
    let rs = c.args.instance.records in
    let lasts = c.args.last_began.now in
    let m = length lasts in
    let newest : c.generation-newest.result ≡ generation rs = c.generation-newest.ensures in
    subst (λ (k : ℕ). IfSome v.content (λ _. (r : ℕ) (j : Journal) → slice_get c.in_ok-journals.journals.items r ≡ Some j → journals.HasRecords w j (settled (first_by c.args.anew rs k lasts r ∷ [])))) newest c.in_ok-journals.ensures.state

pub returns-clause-begun : goal.returns-clause-begun
returns-clause-begun g c =
    let view = g.D.Disk.disk in
    let v = view c.args.disk.now in
    let w = view c.begin_all.new.disk in
    let rs = c.args.instance.records in
    let lasts = c.args.last_began.now in
    let m = length lasts in
    let newest : c.generation-newest.result ≡ generation rs = c.generation-newest.ensures in
    subst (λ (k : ℕ). IfSome v.content (λ _. (f : Files) → Image w f → From (Image v) (HasBegun k m (first_by c.args.anew rs k lasts) m) f)) newest c.in_ok-journals.ensures.begun
