use Rattle.std.proofs.Common.{◌≡◌, inr, ℕ, suc, ◌+◌, ◌≤◌, length, IfSome, ap, subst, arith}
use Rattle.disk_defs.specs.Disk.{Files, Image, From, OnFile, AtEachMoment, ReadsAfter}
use Rattle.disk_defs.specs.Frames.{Only, OthersStay}
use Rattle.disk_defs.proofs.Frames.{others_wider}
use Rattle.journal_defs.specs.Numbers.{broken_file}
use Rattle.journal_defs.specs.Instance.{generation}
use Rattle.site_files.specs.Loading.{AreCut, IsNoLonger, IsWritten, next_broken}
use Rattle.site_files.proofs.Writing.{if_on}
use Rattle.site_files.proofs.Drawings as drawings
use Rattle.site_files.proofs.cuts.cut_off.Goals as goal

pub returns-in_err-write_broken-clause-any_moment : goal.returns-in_err-write_broken-clause-any_moment
returns-in_err-write_broken-clause-any_moment g c =
    let view = g.D.Disk.disk in
    let u = view c.args.disk.now in
    let t = view c.write_broken.new.disk in
    let rs = c.args.log.records in
    let text = c.args.broken.now in
    let found : c.generation-next.result ≡ generation rs = c.generation-next.ensures in
    let file : broken_file (c.generation-next.result + 1) ≡ next_broken rs = (let next : c.generation-next.result + 1 ≡ suc (generation rs) = omega (arith, found) in ap broken_file next) in
    let text_run : AtEachMoment u t (From (Image u) (OnFile (next_broken rs) (IsNoLonger text))) = subst (λ (k : ℕ). AtEachMoment u t (From (Image u) (OnFile k (IsNoLonger text)))) file c.write_broken.ensures.any_moment in
    drawings.text_moments rs c.args.count text c.requires.form.0 c.requires.form.1 u c.requires.read t text_run

pub returns-in_err-write_broken-clause-reads : goal.returns-in_err-write_broken-clause-reads
returns-in_err-write_broken-clause-reads g c =
    let view = g.D.Disk.disk in
    let u = view c.args.disk.now in
    let t = view c.write_broken.new.disk in
    let rs = c.args.log.records in
    let text = c.args.broken.now in
    let found : c.generation-next.result ≡ generation rs = c.generation-next.ensures in
    let file : broken_file (c.generation-next.result + 1) ≡ next_broken rs = (let next : c.generation-next.result + 1 ≡ suc (generation rs) = omega (arith, found) in ap broken_file next) in
    let text_reads : ReadsAfter (OnFile (next_broken rs) (IsNoLonger text)) u.content t.content = subst (λ (k : ℕ). ReadsAfter (OnFile k (IsNoLonger text)) u.content t.content) file c.write_broken.ensures.reads in
    drawings.text_reads rs c.args.count text c.requires.form.0 c.requires.form.1 u c.requires.read t text_reads

pub returns-in_err-write_broken-clause-frame : goal.returns-in_err-write_broken-clause-frame
returns-in_err-write_broken-clause-frame g c =
    let view = g.D.Disk.disk in
    let u = view c.args.disk.now in
    let t = view c.write_broken.new.disk in
    let rs = c.args.log.records in
    let text = c.args.broken.now in
    let found : c.generation-next.result ≡ generation rs = c.generation-next.ensures in
    let file : broken_file (c.generation-next.result + 1) ≡ next_broken rs = (let next : c.generation-next.result + 1 ≡ suc (generation rs) = omega (arith, found) in ap broken_file next) in
    let first_stays : OthersStay (Only (next_broken rs)) u t = subst (λ (k : ℕ). OthersStay (Only k) u t) file c.write_broken.ensures.frame in
    others_wider (Only (next_broken rs)) (AreCut rs) u t (λ f e. inr e) first_stays

pub cut-requires-clause-stands : goal.cut-requires-clause-stands
cut-requires-clause-stands g c =
    let view = g.D.Disk.disk in
    let u = view c.args.disk.now in
    let t = view c.write_broken.new.disk in
    let rs = c.args.log.records in
    let text = c.args.broken.now in
    let found : c.generation-next.result ≡ generation rs = c.generation-next.ensures in
    let file : broken_file (c.generation-next.result + 1) ≡ next_broken rs = (let next : c.generation-next.result + 1 ≡ suc (generation rs) = omega (arith, found) in ap broken_file next) in
    let first_stays : OthersStay (Only (next_broken rs)) u t = subst (λ (k : ℕ). OthersStay (Only k) u t) file c.write_broken.ensures.frame in
    drawings.cut_stands rs c.args.count text c.requires.form.0 c.requires.form.1 u c.requires.read t first_stays

pub cut-requires-clause-durable : goal.cut-requires-clause-durable
cut-requires-clause-durable g c =
    let view = g.D.Disk.disk in
    let u = view c.args.disk.now in
    let t = view c.write_broken.new.disk in
    let rs = c.args.log.records in
    let text = c.args.broken.now in
    let found : c.generation-next.result ≡ generation rs = c.generation-next.ensures in
    let file : broken_file (c.generation-next.result + 1) ≡ next_broken rs = (let next : c.generation-next.result + 1 ≡ suc (generation rs) = omega (arith, found) in ap broken_file next) in
    let first_stays : OthersStay (Only (next_broken rs)) u t = subst (λ (k : ℕ). OthersStay (Only k) u t) file c.write_broken.ensures.frame in
    drawings.cut_durable rs c.args.count text c.requires.form.0 c.requires.form.1 u c.requires.read t first_stays

pub returns-clause-any_moment : goal.returns-clause-any_moment
returns-clause-any_moment g c =
    let view = g.D.Disk.disk in
    let u = view c.args.disk.now in
    let t = view c.write_broken.new.disk in
    let rs = c.args.log.records in
    let text = c.args.broken.now in
    let found : c.generation-next.result ≡ generation rs = c.generation-next.ensures in
    let file : broken_file (c.generation-next.result + 1) ≡ next_broken rs = (let next : c.generation-next.result + 1 ≡ suc (generation rs) = omega (arith, found) in ap broken_file next) in
    let first_stays : OthersStay (Only (next_broken rs)) u t = subst (λ (k : ℕ). OthersStay (Only k) u t) file c.write_broken.ensures.frame in
    let text_run : AtEachMoment u t (From (Image u) (OnFile (next_broken rs) (IsNoLonger text))) = subst (λ (k : ℕ). AtEachMoment u t (From (Image u) (OnFile k (IsNoLonger text)))) file c.write_broken.ensures.any_moment in
    let done : IfSome u.content (λ files. length (files (next_broken rs)) ≤ length text → (d : Files) → Image t d → From (Image u) (OnFile (next_broken rs) (IsWritten text)) d) =
    subst (λ (k : ℕ). IfSome u.content (λ files. length (files k) ≤ length text → (d : Files) → Image t d → From (Image u) (OnFile k (IsWritten text)) d)) file c.in_ok-write_broken.ensures.written in
    let v = view c.cut.new.disk in
    drawings.cut_moments rs c.args.count text c.requires.form.0 c.requires.form.1 u c.requires.read t v first_stays c.cut.ensures.frame done c.cut.ensures.any_moment text_run

pub returns-clause-reads : goal.returns-clause-reads
returns-clause-reads g c =
    let view = g.D.Disk.disk in
    let u = view c.args.disk.now in
    let t = view c.write_broken.new.disk in
    let rs = c.args.log.records in
    let text = c.args.broken.now in
    let found : c.generation-next.result ≡ generation rs = c.generation-next.ensures in
    let file : broken_file (c.generation-next.result + 1) ≡ next_broken rs = (let next : c.generation-next.result + 1 ≡ suc (generation rs) = omega (arith, found) in ap broken_file next) in
    let first_stays : OthersStay (Only (next_broken rs)) u t = subst (λ (k : ℕ). OthersStay (Only k) u t) file c.write_broken.ensures.frame in
    let as_read : IfSome u.content (λ files. length (files (next_broken rs)) ≤ length text → ReadsAfter (OnFile (next_broken rs) (IsWritten text)) u.content t.content) =
    subst (λ (k : ℕ). IfSome u.content (λ files. length (files k) ≤ length text → ReadsAfter (OnFile k (IsWritten text)) u.content t.content)) file c.in_ok-write_broken.ensures.as_read in
    let v = view c.cut.new.disk in
    drawings.cut_reads rs c.args.count text c.requires.form.0 c.requires.form.1 u c.requires.read t v first_stays c.cut.ensures.frame as_read (g.met.D.Disk.lawful c.cut.new.disk) c.cut.ensures.any_moment

pub returns-clause-frame : goal.returns-clause-frame
returns-clause-frame g c =
    let view = g.D.Disk.disk in
    let u = view c.args.disk.now in
    let t = view c.write_broken.new.disk in
    let rs = c.args.log.records in
    let text = c.args.broken.now in
    let found : c.generation-next.result ≡ generation rs = c.generation-next.ensures in
    let file : broken_file (c.generation-next.result + 1) ≡ next_broken rs = (let next : c.generation-next.result + 1 ≡ suc (generation rs) = omega (arith, found) in ap broken_file next) in
    let first_stays : OthersStay (Only (next_broken rs)) u t = subst (λ (k : ℕ). OthersStay (Only k) u t) file c.write_broken.ensures.frame in
    let v = view c.cut.new.disk in
    drawings.cut_frame rs c.args.count text c.requires.form.0 c.requires.form.1 u c.requires.read t v first_stays c.cut.ensures.frame

pub returns-clause-drawn : goal.returns-clause-drawn
returns-clause-drawn g c =
    let view = g.D.Disk.disk in
    let u = view c.args.disk.now in
    let t = view c.write_broken.new.disk in
    let rs = c.args.log.records in
    let text = c.args.broken.now in
    let found : c.generation-next.result ≡ generation rs = c.generation-next.ensures in
    let file : broken_file (c.generation-next.result + 1) ≡ next_broken rs = (let next : c.generation-next.result + 1 ≡ suc (generation rs) = omega (arith, found) in ap broken_file next) in
    let first_stays : OthersStay (Only (next_broken rs)) u t = subst (λ (k : ℕ). OthersStay (Only k) u t) file c.write_broken.ensures.frame in
    let done : IfSome u.content (λ files. length (files (next_broken rs)) ≤ length text → (d : Files) → Image t d → From (Image u) (OnFile (next_broken rs) (IsWritten text)) d) =
    subst (λ (k : ℕ). IfSome u.content (λ files. length (files k) ≤ length text → (d : Files) → Image t d → From (Image u) (OnFile k (IsWritten text)) d)) file c.in_ok-write_broken.ensures.written in
    let v = view c.cut.new.disk in
    if_on c.cut.result _ _ c.cut.ensures.state (λ made has. drawings.cut_images rs c.args.count text c.requires.form.0 c.requires.form.1 u c.requires.read t v first_stays c.cut.ensures.frame done c.cut.ensures.any_moment made has)

pub returns-clause-drawn_reads : goal.returns-clause-drawn_reads
returns-clause-drawn_reads g c =
    let view = g.D.Disk.disk in
    let u = view c.args.disk.now in
    let t = view c.write_broken.new.disk in
    let rs = c.args.log.records in
    let text = c.args.broken.now in
    let found : c.generation-next.result ≡ generation rs = c.generation-next.ensures in
    let file : broken_file (c.generation-next.result + 1) ≡ next_broken rs = (let next : c.generation-next.result + 1 ≡ suc (generation rs) = omega (arith, found) in ap broken_file next) in
    let first_stays : OthersStay (Only (next_broken rs)) u t = subst (λ (k : ℕ). OthersStay (Only k) u t) file c.write_broken.ensures.frame in
    let as_read : IfSome u.content (λ files. length (files (next_broken rs)) ≤ length text → ReadsAfter (OnFile (next_broken rs) (IsWritten text)) u.content t.content) =
    subst (λ (k : ℕ). IfSome u.content (λ files. length (files k) ≤ length text → ReadsAfter (OnFile k (IsWritten text)) u.content t.content)) file c.in_ok-write_broken.ensures.as_read in
    let v = view c.cut.new.disk in
    if_on c.cut.result _ _ c.cut.ensures.state (λ made has. drawings.cut_as_read rs c.args.count text c.requires.form.0 c.requires.form.1 u c.requires.read t v first_stays c.cut.ensures.frame as_read made has)
