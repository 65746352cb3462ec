use Rattle.std.proofs.Common.{◌≡◌, ℕ, ◌+◌, [], ◌∷◌, ◌++◌, IfSome, refl, ap, subst}
use Rattle.disk_defs.specs.Disk.{AtEachMoment}
use Rattle.disk_defs.specs.Frames.{OnlyOn}
use Rattle.disk_defs.proofs.Told.{weaker_told}
use Rattle.journal_defs.specs.Numbers.{INSTANCE}
use Rattle.journal_defs.specs.Instance.{InstanceRecord, Cut, generation}
use Rattle.instance_file.specs.Instance.{HasRecords, StandsWith}
use Rattle.site_files.specs.Loading.{next_cut}
use Rattle.site_files.proofs.Drawings as drawings
use Rattle.site_files.proofs.Drawings.{records_told}
use Rattle.site_files.proofs.cuts.cut_open.Goals as goal

pub returns-in-Ok-clause-any_moment : goal.returns-in-Ok-clause-any_moment
returns-in-Ok-clause-any_moment g c =
    let view = g.D.Disk.disk in
    let u = view c.args.disk.now in
    let v = view c.cut.new.disk in
    let i = c.args.instance in
    let rs = i.records in
    let n = c.args.count in
    let found : c.generation-next.result ≡ generation rs = c.generation-next.ensures in
    let same : Cut n (c.generation-next.result + 1) ≡ next_cut rs n = ap (λ (k : ℕ). Cut n (k + 1)) found in
    let has : IfSome u.content (λ _. HasRecords u i rs) = records_told u i c.requires.ready.state in
    let run : IfSome u.content (λ _. AtEachMoment u v (OnlyOn u INSTANCE (StandsWith rs (next_cut rs n)))) =
    weaker_told u.content (λ _. HasRecords u i rs) (λ _. AtEachMoment u v (OnlyOn u INSTANCE (StandsWith rs (next_cut rs n)))) has
    (λ files h. subst (λ (x : InstanceRecord). AtEachMoment u v (OnlyOn u INSTANCE (StandsWith rs x))) same (c.cut.ensures.any_moment rs h)) in
    drawings.open_moments rs n [] c.requires.form.0 c.requires.form.1 u c.requires.unbegun v refl c.cut.ensures.frame run

pub returns-in-Ok-clause-reads : goal.returns-in-Ok-clause-reads
returns-in-Ok-clause-reads g c =
    let view = g.D.Disk.disk in
    let u = view c.args.disk.now in
    let v = view c.cut.new.disk in
    let i = c.args.instance in
    let rs = i.records in
    let n = c.args.count in
    let found : c.generation-next.result ≡ generation rs = c.generation-next.ensures in
    let same : Cut n (c.generation-next.result + 1) ≡ next_cut rs n = ap (λ (k : ℕ). Cut n (k + 1)) found in
    let has : IfSome u.content (λ _. HasRecords u i rs) = records_told u i c.requires.ready.state in
    let run : IfSome u.content (λ _. AtEachMoment u v (OnlyOn u INSTANCE (StandsWith rs (next_cut rs n)))) =
    weaker_told u.content (λ _. HasRecords u i rs) (λ _. AtEachMoment u v (OnlyOn u INSTANCE (StandsWith rs (next_cut rs n)))) has
    (λ files h. subst (λ (x : InstanceRecord). AtEachMoment u v (OnlyOn u INSTANCE (StandsWith rs x))) same (c.cut.ensures.any_moment rs h)) in
    drawings.open_reads rs n [] c.requires.form.0 c.requires.form.1 u c.requires.unbegun v refl c.cut.ensures.frame (g.met.D.Disk.lawful c.args.disk.now) (g.met.D.Disk.lawful c.cut.new.disk) run

pub returns-in-Err-clause-any_moment : goal.returns-in-Err-clause-any_moment
returns-in-Err-clause-any_moment g c =
    let view = g.D.Disk.disk in
    let u = view c.args.disk.now in
    let v = view c.cut.new.disk in
    let i = c.args.instance in
    let rs = i.records in
    let n = c.args.count in
    let found : c.generation-next.result ≡ generation rs = c.generation-next.ensures in
    let same : Cut n (c.generation-next.result + 1) ≡ next_cut rs n = ap (λ (k : ℕ). Cut n (k + 1)) found in
    let has : IfSome u.content (λ _. HasRecords u i rs) = records_told u i c.requires.ready.state in
    let run : IfSome u.content (λ _. AtEachMoment u v (OnlyOn u INSTANCE (StandsWith rs (next_cut rs n)))) =
    weaker_told u.content (λ _. HasRecords u i rs) (λ _. AtEachMoment u v (OnlyOn u INSTANCE (StandsWith rs (next_cut rs n)))) has
    (λ files h. subst (λ (x : InstanceRecord). AtEachMoment u v (OnlyOn u INSTANCE (StandsWith rs x))) same (c.cut.ensures.any_moment rs h)) in
    drawings.open_moments rs n [] c.requires.form.0 c.requires.form.1 u c.requires.unbegun v refl c.cut.ensures.frame run

pub returns-in-Err-clause-reads : goal.returns-in-Err-clause-reads
returns-in-Err-clause-reads g c =
    let view = g.D.Disk.disk in
    let u = view c.args.disk.now in
    let v = view c.cut.new.disk in
    let i = c.args.instance in
    let rs = i.records in
    let n = c.args.count in
    let found : c.generation-next.result ≡ generation rs = c.generation-next.ensures in
    let same : Cut n (c.generation-next.result + 1) ≡ next_cut rs n = ap (λ (k : ℕ). Cut n (k + 1)) found in
    let has : IfSome u.content (λ _. HasRecords u i rs) = records_told u i c.requires.ready.state in
    let run : IfSome u.content (λ _. AtEachMoment u v (OnlyOn u INSTANCE (StandsWith rs (next_cut rs n)))) =
    weaker_told u.content (λ _. HasRecords u i rs) (λ _. AtEachMoment u v (OnlyOn u INSTANCE (StandsWith rs (next_cut rs n)))) has
    (λ files h. subst (λ (x : InstanceRecord). AtEachMoment u v (OnlyOn u INSTANCE (StandsWith rs x))) same (c.cut.ensures.any_moment rs h)) in
    drawings.open_reads rs n [] c.requires.form.0 c.requires.form.1 u c.requires.unbegun v refl c.cut.ensures.frame (g.met.D.Disk.lawful c.args.disk.now) (g.met.D.Disk.lawful c.cut.new.disk) run

pub returns-in-Ok-clause-instance_file : goal.returns-in-Ok-clause-instance_file
returns-in-Ok-clause-instance_file g c =
    let view = g.D.Disk.disk in
    let u = view c.args.disk.now in
    let v = view c.cut.new.disk in
    let i = c.args.instance in
    let rs = i.records in
    let n = c.args.count in
    let found : c.generation-next.result ≡ generation rs = c.generation-next.ensures in
    let same : Cut n (c.generation-next.result + 1) ≡ next_cut rs n = ap (λ (k : ℕ). Cut n (k + 1)) found in
    let has : IfSome u.content (λ _. HasRecords u i rs) = records_told u i c.requires.ready.state in
    let made = c.cut.new.self in
    let now : IfSome u.content (λ _. HasRecords v made (rs ++ next_cut rs n ∷ [])) =
    weaker_told u.content (λ _. HasRecords u i rs) (λ _. HasRecords v made (rs ++ next_cut rs n ∷ [])) has
    (λ files h. subst (λ (x : InstanceRecord). HasRecords v made (rs ++ x ∷ [])) same (c.in-Ok.ensures.state rs h)) in
    now

pub returns-in-Ok-clause-drawn : goal.returns-in-Ok-clause-drawn
returns-in-Ok-clause-drawn g c =
    let view = g.D.Disk.disk in
    let u = view c.args.disk.now in
    let v = view c.cut.new.disk in
    let i = c.args.instance in
    let rs = i.records in
    let n = c.args.count in
    let found : c.generation-next.result ≡ generation rs = c.generation-next.ensures in
    let same : Cut n (c.generation-next.result + 1) ≡ next_cut rs n = ap (λ (k : ℕ). Cut n (k + 1)) found in
    let has : IfSome u.content (λ _. HasRecords u i rs) = records_told u i c.requires.ready.state in
    let made = c.cut.new.self in
    let now : IfSome u.content (λ _. HasRecords v made (rs ++ next_cut rs n ∷ [])) =
    weaker_told u.content (λ _. HasRecords u i rs) (λ _. HasRecords v made (rs ++ next_cut rs n ∷ [])) has
    (λ files h. subst (λ (x : InstanceRecord). HasRecords v made (rs ++ x ∷ [])) same (c.in-Ok.ensures.state rs h)) in
    drawings.open_images rs n [] c.requires.form.0 c.requires.form.1 u c.requires.unbegun v refl c.cut.ensures.frame made now

pub returns-in-Ok-clause-drawn_reads : goal.returns-in-Ok-clause-drawn_reads
returns-in-Ok-clause-drawn_reads g c =
    let view = g.D.Disk.disk in
    let u = view c.args.disk.now in
    let v = view c.cut.new.disk in
    let i = c.args.instance in
    let rs = i.records in
    let n = c.args.count in
    let found : c.generation-next.result ≡ generation rs = c.generation-next.ensures in
    let same : Cut n (c.generation-next.result + 1) ≡ next_cut rs n = ap (λ (k : ℕ). Cut n (k + 1)) found in
    let has : IfSome u.content (λ _. HasRecords u i rs) = records_told u i c.requires.ready.state in
    let made = c.cut.new.self in
    let now : IfSome u.content (λ _. HasRecords v made (rs ++ next_cut rs n ∷ [])) =
    weaker_told u.content (λ _. HasRecords u i rs) (λ _. HasRecords v made (rs ++ next_cut rs n ∷ [])) has
    (λ files h. subst (λ (x : InstanceRecord). HasRecords v made (rs ++ x ∷ [])) same (c.in-Ok.ensures.state rs h)) in
    drawings.open_as_read rs n [] c.requires.form.0 c.requires.form.1 u c.requires.unbegun v refl c.cut.ensures.frame made now (g.met.D.Disk.lawful c.args.disk.now)
