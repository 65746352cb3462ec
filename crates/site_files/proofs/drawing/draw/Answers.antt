use Rattle.std.proofs.Common.{◌≡◌, ℕ, suc, ◌≤◌, [], ◌∷◌, ◌++◌, length, Some, IfSome, sym, ◌∙◌, subst, arith}
use Rattle.std.specs.List.{slice_get}
use Rattle.disk_defs.specs.Disk.{Files, Image}
use Rattle.disk_defs.proofs.Told.{weaker_told}
use Rattle.journal_defs.specs.Instance.{generation}
use Rattle.instance_file.specs.Instance as instances
use Rattle.jnl_file.specs.Journal as journals
use Rattle.jnl_file.specs.declared.journal.Journal.{Journal}
use Rattle.site_files.specs.Loading.{AreUnbegun, last_of, first_by, next_cut, next_broken}
use Rattle.site_files.proofs.Writing.{on_ok}
use Rattle.site_files.proofs.Drawings as drawings
use Rattle.site_files.proofs.drawing.draw.Goals as goal
use Rattle.gated_file.proofs.Begins.{if_ok}

pub cut_off-requires-clause-read : goal.cut_off-requires-clause-read
cut_off-requires-clause-read g c =
    drawings.read_any (g.D.Disk.disk c.args.disk.now) c.args.log.records (last_of c.args.last_began.now) c.requires.read

pub returns-in_err-instance-clause-any_moment : goal.returns-in_err-instance-clause-any_moment
returns-in_err-instance-clause-any_moment g c =
    let view = g.D.Disk.disk in
    let u = view c.args.disk.now in
    let v = view c.cut_off.new.disk in
    let rs = c.args.log.records in
    let n = c.args.count in
    let lasts = c.args.last_began.now in
    let last = last_of lasts in
    let form = c.requires.form in
    let unbegun = drawings.none_here rs n c.args.broken.now last form u (drawings.read_any u rs last c.requires.read) in
    let text = c.args.broken.now in
    let S = λ (files : Files). length (files (next_broken rs)) ≤ length text in
    drawings.draw_moments rs n text last form u unbegun v c.cut_off.ensures.frame c.args.anew last S c.cut_off.ensures.any_moment

pub returns-in_err-instance-clause-reads : goal.returns-in_err-instance-clause-reads
returns-in_err-instance-clause-reads g c =
    let view = g.D.Disk.disk in
    let u = view c.args.disk.now in
    let v = view c.cut_off.new.disk in
    let rs = c.args.log.records in
    let n = c.args.count in
    let lasts = c.args.last_began.now in
    let last = last_of lasts in
    let form = c.requires.form in
    let unbegun = drawings.none_here rs n c.args.broken.now last form u (drawings.read_any u rs last c.requires.read) in
    let text = c.args.broken.now in
    let S = λ (files : Files). length (files (next_broken rs)) ≤ length text in
    drawings.draw_reads rs n text last form u unbegun v c.cut_off.ensures.frame c.args.anew last S c.cut_off.ensures.reads

pub returns-in_err-instance-clause-frame : goal.returns-in_err-instance-clause-frame
returns-in_err-instance-clause-frame g c =
    let view = g.D.Disk.disk in
    let u = view c.args.disk.now in
    let v = view c.cut_off.new.disk in
    let rs = c.args.log.records in
    let n = c.args.count in
    let lasts = c.args.last_began.now in
    let last = last_of lasts in
    let form = c.requires.form in
    let unbegun = drawings.none_here rs n c.args.broken.now last form u (drawings.read_any u rs last c.requires.read) in
    let text = c.args.broken.now in
    let S = λ (files : Files). length (files (next_broken rs)) ≤ length text in
    drawings.draw_frame rs n text last form u unbegun v c.cut_off.ensures.frame

pub begin_drawn-requires-clause-generation : goal.begin_drawn-requires-clause-generation
begin_drawn-requires-clause-generation g c =
    let view = g.D.Disk.disk in
    let u = view c.args.disk.now in
    let v = view c.cut_off.new.disk in
    let rs = c.args.log.records in
    let n = c.args.count in
    let lasts = c.args.last_began.now in
    let last = last_of lasts in
    let form = c.requires.form in
    let unbegun = drawings.none_here rs n c.args.broken.now last form u (drawings.read_any u rs last c.requires.read) in
    let text = c.args.broken.now in
    let S = λ (files : Files). length (files (next_broken rs)) ≤ length text in
    let i = c.in_ok-instance.instance in
    let qs = i.records in
    let gen = generation qs in
    let g_is : gen ≡ suc (generation rs) = drawings.newest_is rs qs n c.in_ok-instance.ensures.records in
    let room = form.room in omega (arith, g_is, room)

pub begin_drawn-requires-clause-earlier : goal.begin_drawn-requires-clause-earlier
begin_drawn-requires-clause-earlier g c =
    let view = g.D.Disk.disk in
    let u = view c.args.disk.now in
    let v = view c.cut_off.new.disk in
    let rs = c.args.log.records in
    let n = c.args.count in
    let lasts = c.args.last_began.now in
    let last = last_of lasts in
    let form = c.requires.form in
    let unbegun = drawings.none_here rs n c.args.broken.now last form u (drawings.read_any u rs last c.requires.read) in
    let text = c.args.broken.now in
    let S = λ (files : Files). length (files (next_broken rs)) ≤ length text in
    let i = c.in_ok-instance.instance in
    let qs = i.records in
    let gen = generation qs in
    let g_is : gen ≡ suc (generation rs) = drawings.newest_is rs qs n c.in_ok-instance.ensures.records in
    λ r. let low = form.earlier r in omega (arith, low, g_is)

pub begin_drawn-requires-clause-few : goal.begin_drawn-requires-clause-few
begin_drawn-requires-clause-few g c =
    let few = c.requires.form.few_regions in let e = c.requires.counted in omega (arith, few, e)

pub begin_drawn-requires-clause-unbegun : goal.begin_drawn-requires-clause-unbegun
begin_drawn-requires-clause-unbegun g c =
    let view = g.D.Disk.disk in
    let u = view c.args.disk.now in
    let v = view c.cut_off.new.disk in
    let rs = c.args.log.records in
    let n = c.args.count in
    let lasts = c.args.last_began.now in
    let last = last_of lasts in
    let form = c.requires.form in
    let unbegun = drawings.none_here rs n c.args.broken.now last form u (drawings.read_any u rs last c.requires.read) in
    let text = c.args.broken.now in
    let S = λ (files : Files). length (files (next_broken rs)) ≤ length text in
    let i = c.in_ok-instance.instance in
    let qs = i.records in
    let gen = generation qs in
    let g_is : gen ≡ suc (generation rs) = drawings.newest_is rs qs n c.in_ok-instance.ensures.records in
    subst (λ (k : ℕ). IfSome v.content (λ _. (f : Files) → Image v f → AreUnbegun k (length lasts) f)) (sym g_is)
    (subst (λ (k : ℕ). IfSome v.content (λ _. (f : Files) → Image v f → AreUnbegun (suc (generation rs)) k f)) (sym c.requires.counted) (drawings.unbegun_here rs n text last form u unbegun v c.cut_off.ensures.frame))

pub returns-clause-any_moment : goal.returns-clause-any_moment
returns-clause-any_moment g c =
    let view = g.D.Disk.disk in
    let u = view c.args.disk.now in
    let v = view c.cut_off.new.disk in
    let rs = c.args.log.records in
    let n = c.args.count in
    let lasts = c.args.last_began.now in
    let last = last_of lasts in
    let form = c.requires.form in
    let unbegun = drawings.none_here rs n c.args.broken.now last form u (drawings.read_any u rs last c.requires.read) in
    let text = c.args.broken.now in
    let S = λ (files : Files). length (files (next_broken rs)) ≤ length text in
    let i = c.in_ok-instance.instance in
    let qs = i.records in
    let gen = generation qs in
    let g_is : gen ≡ suc (generation rs) = drawings.newest_is rs qs n c.in_ok-instance.ensures.records in
    let w = view c.begin_drawn.new.disk in
    let m = length lasts in
    let first = first_by c.args.anew qs gen lasts in
    let first_is = drawings.first_same c.args.anew rs qs lasts n gen c.in_ok-instance.ensures.records g_is in
    drawings.all_moments rs n text last form u unbegun v c.cut_off.ensures.frame c.args.anew last S w gen m first g_is c.requires.counted first_is c.in_ok-instance.ensures.drawn c.cut_off.ensures.any_moment c.begin_drawn.ensures.any_moment

pub returns-clause-reads : goal.returns-clause-reads
returns-clause-reads g c =
    let view = g.D.Disk.disk in
    let u = view c.args.disk.now in
    let v = view c.cut_off.new.disk in
    let rs = c.args.log.records in
    let n = c.args.count in
    let lasts = c.args.last_began.now in
    let last = last_of lasts in
    let form = c.requires.form in
    let unbegun = drawings.none_here rs n c.args.broken.now last form u (drawings.read_any u rs last c.requires.read) in
    let text = c.args.broken.now in
    let S = λ (files : Files). length (files (next_broken rs)) ≤ length text in
    let i = c.in_ok-instance.instance in
    let qs = i.records in
    let gen = generation qs in
    let g_is : gen ≡ suc (generation rs) = drawings.newest_is rs qs n c.in_ok-instance.ensures.records in
    let w = view c.begin_drawn.new.disk in
    let m = length lasts in
    let first = first_by c.args.anew qs gen lasts in
    let first_is = drawings.first_same c.args.anew rs qs lasts n gen c.in_ok-instance.ensures.records g_is in
    drawings.reads_begun rs n text last form u unbegun v c.cut_off.ensures.frame c.args.anew last S w gen m first g_is c.requires.counted first_is c.begin_drawn.ensures.frame (g.met.D.Disk.lawful c.begin_drawn.new.disk) c.in_ok-instance.ensures.drawn_reads c.begin_drawn.ensures.any_moment

pub returns-clause-frame : goal.returns-clause-frame
returns-clause-frame g c =
    let view = g.D.Disk.disk in
    let u = view c.args.disk.now in
    let v = view c.cut_off.new.disk in
    let rs = c.args.log.records in
    let n = c.args.count in
    let lasts = c.args.last_began.now in
    let last = last_of lasts in
    let form = c.requires.form in
    let unbegun = drawings.none_here rs n c.args.broken.now last form u (drawings.read_any u rs last c.requires.read) in
    let text = c.args.broken.now in
    let S = λ (files : Files). length (files (next_broken rs)) ≤ length text in
    let i = c.in_ok-instance.instance in
    let qs = i.records in
    let gen = generation qs in
    let g_is : gen ≡ suc (generation rs) = drawings.newest_is rs qs n c.in_ok-instance.ensures.records in
    let w = view c.begin_drawn.new.disk in
    let m = length lasts in
    let first = first_by c.args.anew qs gen lasts in
    let first_is = drawings.first_same c.args.anew rs qs lasts n gen c.in_ok-instance.ensures.records g_is in
    drawings.all_frame rs n text last form u unbegun v c.cut_off.ensures.frame c.args.anew last S w gen m first g_is c.requires.counted first_is c.begin_drawn.ensures.frame

pub returns-clause-drawn : goal.returns-clause-drawn
returns-clause-drawn g c =
    let view = g.D.Disk.disk in
    let u = view c.args.disk.now in
    let v = view c.cut_off.new.disk in
    let rs = c.args.log.records in
    let n = c.args.count in
    let lasts = c.args.last_began.now in
    let last = last_of lasts in
    let form = c.requires.form in
    let unbegun = drawings.none_here rs n c.args.broken.now last form u (drawings.read_any u rs last c.requires.read) in
    let text = c.args.broken.now in
    let S = λ (files : Files). length (files (next_broken rs)) ≤ length text in
    let i = c.in_ok-instance.instance in
    let qs = i.records in
    let gen = generation qs in
    let g_is : gen ≡ suc (generation rs) = drawings.newest_is rs qs n c.in_ok-instance.ensures.records in
    let w = view c.begin_drawn.new.disk in
    let m = length lasts in
    let first = first_by c.args.anew qs gen lasts in
    let first_is = drawings.first_same c.args.anew rs qs lasts n gen c.in_ok-instance.ensures.records g_is in
    on_ok c.begin_drawn.result _ _ c.begin_drawn.ensures.begun (λ begun. drawings.has_drawn rs n text last form u unbegun v c.cut_off.ensures.frame c.args.anew last S w gen m first g_is c.requires.counted first_is c.in_ok-instance.ensures.drawn begun)

pub returns-clause-journals : goal.returns-clause-journals
returns-clause-journals g c =
    let view = g.D.Disk.disk in
    let u = view c.args.disk.now in
    let v = view c.cut_off.new.disk in
    let rs = c.args.log.records in
    let n = c.args.count in
    let lasts = c.args.last_began.now in
    let last = last_of lasts in
    let form = c.requires.form in
    let unbegun = drawings.none_here rs n c.args.broken.now last form u (drawings.read_any u rs last c.requires.read) in
    let text = c.args.broken.now in
    let S = λ (files : Files). length (files (next_broken rs)) ≤ length text in
    let i = c.in_ok-instance.instance in
    let qs = i.records in
    let gen = generation qs in
    let g_is : gen ≡ suc (generation rs) = drawings.newest_is rs qs n c.in_ok-instance.ensures.records in
    let w = view c.begin_drawn.new.disk in
    let m = length lasts in
    let first = first_by c.args.anew qs gen lasts in
    let first_is = drawings.first_same c.args.anew rs qs lasts n gen c.in_ok-instance.ensures.records g_is in
    if_ok c.begin_drawn.result _ _ c.begin_drawn.ensures.journals (λ made are. subst (λ (k : ℕ). (r : ℕ) (j : Journal) → slice_get made.journals.items r ≡ Some j → journals.IsReady w j × journals.IsJournalOf j r k) g_is are)

pub returns-clause-journal_files : goal.returns-clause-journal_files
returns-clause-journal_files g c =
    let view = g.D.Disk.disk in
    let u = view c.args.disk.now in
    let v = view c.cut_off.new.disk in
    let rs = c.args.log.records in
    let n = c.args.count in
    let lasts = c.args.last_began.now in
    let last = last_of lasts in
    let form = c.requires.form in
    let unbegun = drawings.none_here rs n c.args.broken.now last form u (drawings.read_any u rs last c.requires.read) in
    let text = c.args.broken.now in
    let S = λ (files : Files). length (files (next_broken rs)) ≤ length text in
    let i = c.in_ok-instance.instance in
    let qs = i.records in
    let gen = generation qs in
    let g_is : gen ≡ suc (generation rs) = drawings.newest_is rs qs n c.in_ok-instance.ensures.records in
    let w = view c.begin_drawn.new.disk in
    let m = length lasts in
    let first = first_by c.args.anew qs gen lasts in
    let first_is = drawings.first_same c.args.anew rs qs lasts n gen c.in_ok-instance.ensures.records g_is in
    if_ok c.begin_drawn.result _ _ c.begin_drawn.ensures.journal_files (λ made told. drawings.journals_told rs n text last form u unbegun v c.cut_off.ensures.frame c.args.anew last S w gen m first g_is c.requires.counted first_is made.journals.items told)

pub returns-clause-journal_count : goal.returns-clause-journal_count
returns-clause-journal_count g c =
    if_ok c.begin_drawn.result _ _ c.begin_drawn.ensures.journal_count (λ made count. count ∙ c.requires.counted)

pub returns-clause-records : goal.returns-clause-records
returns-clause-records g c =
    if_ok c.begin_drawn.result _ _ c.begin_drawn.ensures.records (λ made same. same ∙ c.in_ok-instance.ensures.records)

pub returns-clause-instance_file : goal.returns-clause-instance_file
returns-clause-instance_file g c =
    let view = g.D.Disk.disk in
    let u = view c.args.disk.now in
    let v = view c.cut_off.new.disk in
    let rs = c.args.log.records in
    let n = c.args.count in
    let lasts = c.args.last_began.now in
    let last = last_of lasts in
    let form = c.requires.form in
    let unbegun = drawings.none_here rs n c.args.broken.now last form u (drawings.read_any u rs last c.requires.read) in
    let text = c.args.broken.now in
    let S = λ (files : Files). length (files (next_broken rs)) ≤ length text in
    let i = c.in_ok-instance.instance in
    let qs = i.records in
    let gen = generation qs in
    let g_is : gen ≡ suc (generation rs) = drawings.newest_is rs qs n c.in_ok-instance.ensures.records in
    let w = view c.begin_drawn.new.disk in
    let m = length lasts in
    let first = first_by c.args.anew qs gen lasts in
    let first_is = drawings.first_same c.args.anew rs qs lasts n gen c.in_ok-instance.ensures.records g_is in
    if_ok c.begin_drawn.result _ _ c.begin_drawn.ensures.instance_file (λ made moved. weaker_told u.content (λ _. instances.HasRecords v i (rs ++ next_cut rs n ∷ [])) (λ _. instances.HasRecords w made.instance (rs ++ next_cut rs n ∷ [])) c.in_ok-instance.ensures.instance_file (λ files has. moved (rs ++ next_cut rs n ∷ []) has))
