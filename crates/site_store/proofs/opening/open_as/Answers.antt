use Rattle.std.proofs.Common.{◌≡◌, ℕ, List, None, refl, sym, subst, IfSome}
use Rattle.std.proofs.lemmas.Result.{err_from_is_err_and}
use Rattle.disk_defs.proofs.Told.{told_at, weaker_told}
use Rattle.global_defs.specs.Entry.{Sequence}
use Rattle.journal_defs.specs.Sequence.{Placed}
use Rattle.site_files.specs.Loading.{WasRead, last_of}
use Rattle.site_store.specs.Refusing.{IsUnwritten}
use Rattle.site_store.specs.Standing.{StandsIn}
use Rattle.site_store.proofs.Errors.{file_was}
use Rattle.site_store.proofs.Refused.{told_anyway, untold}
use Rattle.site_store.proofs.Loaded.{quiet_told, quiet_left, quiet_stands}
use Rattle.site_store.specs.declared.memory.Memory.{Memory}
use Rattle.site_store.proofs.Stood as stood
use Rattle.site_store.proofs.opening.open_as.Goals as goal
use Rattle.entry_index.specs.Found.{entry_count}

pub returns-in_err-standing-clause-refused : goal.returns-in_err-standing-clause-refused
returns-in_err-standing-clause-refused g c =
    let u = g.D.Disk.disk c.args.disk.now in
    let v = g.D.Disk.disk c.read_standing.new.disk in
    λ file offset is. told_anyway u.content (IsUnwritten u v) (c.read_standing.ensures.content, c.read_standing.ensures.any_moment)

pub returns-in_err-standing-clause-any_moment : goal.returns-in_err-standing-clause-any_moment
returns-in_err-standing-clause-any_moment g c = quiet_told c.args.anew (g.D.Disk.disk c.args.disk.now) (g.D.Disk.disk c.read_standing.new.disk) c.read_standing.ensures.any_moment

pub returns-in_err-standing-clause-left : goal.returns-in_err-standing-clause-left
returns-in_err-standing-clause-left g c = quiet_left c.args.anew (g.D.Disk.disk c.args.disk.now) (g.D.Disk.disk c.read_standing.new.disk) c.read_standing.ensures.any_moment

pub returns-in_err-standing-clause-stands : goal.returns-in_err-standing-clause-stands
returns-in_err-standing-clause-stands g c = quiet_stands c.args.anew (g.D.Disk.disk c.args.disk.now).content (g.D.Disk.disk c.read_standing.new.disk).content c.read_standing.ensures.content

pub draw-requires-clause-read : goal.draw-requires-clause-read
draw-requires-clause-read g c =
    let u = g.D.Disk.disk c.args.disk.now in
    let v = g.D.Disk.disk c.read_standing.new.disk in
    let k = c.in_ok-standing.standing in
    let st = c.in_ok-standing.ensures.stood in
    let rs = k.log.records in
    subst (λ (l : List ℕ). IfSome v.content (λ files. (records : ℕ → List Placed) × WasRead v rs (last_of l) records files)) (sym c.deref.ensures.value)
    (told_at v.content u.content (λ files. (records : ℕ → List Placed) × WasRead v rs (last_of k.last_began.items) records files) (sym c.read_standing.ensures.content)
    (weaker_told u.content (λ files. (journal : ℕ → List Placed) × (seq : Sequence) × StandsIn c.args.anew v k journal seq files) (λ files. (records : ℕ → List Placed) × WasRead v rs (last_of k.last_began.items) records files) st.told (λ files x. (x.0, x.2.read))))

pub returns-in_err-drawn-clause-place : goal.returns-in_err-drawn-clause-place
returns-in_err-drawn-clause-place g c =
    let u = g.D.Disk.disk c.args.disk.now in
    let v = g.D.Disk.disk c.read_standing.new.disk in
    let p = err_from_is_err_and c.from_residual-in_err-drawn.result c.from_residual-in_err-drawn.ensures.1 in
    rw (p.1, p.2) (λ file offset is. untold u.content v.content _ c.read_standing.ensures.content (c.in_err-drawn.ensures.outside file offset (file_was c.in_err-drawn.field-0.0 file offset is)))

pub returns-in_err-drawn-clause-refused : goal.returns-in_err-drawn-clause-refused
returns-in_err-drawn-clause-refused g c =
    let u = g.D.Disk.disk c.args.disk.now in
    let v = g.D.Disk.disk c.read_standing.new.disk in
    let p = err_from_is_err_and c.from_residual-in_err-drawn.result c.from_residual-in_err-drawn.ensures.1 in
    rw (p.1, p.2) (λ file offset is. untold u.content v.content _ c.read_standing.ensures.content (c.in_err-drawn.ensures.outside file offset (file_was c.in_err-drawn.field-0.0 file offset is)))

pub returns-in_err-drawn-clause-outside : goal.returns-in_err-drawn-clause-outside
returns-in_err-drawn-clause-outside g c =
    let u = g.D.Disk.disk c.args.disk.now in
    let v = g.D.Disk.disk c.read_standing.new.disk in
    let p = err_from_is_err_and c.from_residual-in_err-drawn.result c.from_residual-in_err-drawn.ensures.1 in
    rw (p.1, p.2) (λ file offset is. untold u.content v.content _ c.read_standing.ensures.content (c.in_err-drawn.ensures.outside file offset (file_was c.in_err-drawn.field-0.0 file offset is)))

pub returns-in_err-drawn-clause-any_moment : goal.returns-in_err-drawn-clause-any_moment
returns-in_err-drawn-clause-any_moment g c =
    let u = g.D.Disk.disk c.args.disk.now in
    let v = g.D.Disk.disk c.read_standing.new.disk in
    let w = g.D.Disk.disk c.draw.new.disk in
    let k = c.in_ok-standing.standing in
    let st = c.in_ok-standing.ensures.stood in
    let lawful_v = g.met.D.Disk.lawful c.read_standing.new.disk in
    let lawful_w = g.met.D.Disk.lawful c.draw.new.disk in
    let n : c.len-length.result ≡ entry_count k.entries = c.len-length.ensures.count in
    stood.moments c.args.anew u v w k st lawful_v lawful_w c.read_standing.ensures.any_moment c.read_standing.ensures.content c.len-length.result c.as_slice-text.result.now c.deref.result.now n c.as_slice-text.ensures c.deref.ensures.value c.draw.ensures.any_moment

pub returns-in_err-drawn-clause-left : goal.returns-in_err-drawn-clause-left
returns-in_err-drawn-clause-left g c =
    let u = g.D.Disk.disk c.args.disk.now in
    let v = g.D.Disk.disk c.read_standing.new.disk in
    let w = g.D.Disk.disk c.draw.new.disk in
    let k = c.in_ok-standing.standing in
    let st = c.in_ok-standing.ensures.stood in
    let lawful_v = g.met.D.Disk.lawful c.read_standing.new.disk in
    let lawful_w = g.met.D.Disk.lawful c.draw.new.disk in
    let n : c.len-length.result ≡ entry_count k.entries = c.len-length.ensures.count in
    stood.lefts c.args.anew u v w k st lawful_v lawful_w c.read_standing.ensures.any_moment c.read_standing.ensures.content c.len-length.result c.as_slice-text.result.now c.deref.result.now n c.as_slice-text.ensures c.deref.ensures.value c.draw.ensures.any_moment

pub returns-in_err-drawn-clause-stands : goal.returns-in_err-drawn-clause-stands
returns-in_err-drawn-clause-stands g c =
    let u = g.D.Disk.disk c.args.disk.now in
    let v = g.D.Disk.disk c.read_standing.new.disk in
    let w = g.D.Disk.disk c.draw.new.disk in
    let k = c.in_ok-standing.standing in
    let st = c.in_ok-standing.ensures.stood in
    let lawful_v = g.met.D.Disk.lawful c.read_standing.new.disk in
    let lawful_w = g.met.D.Disk.lawful c.draw.new.disk in
    let n : c.len-length.result ≡ entry_count k.entries = c.len-length.ensures.count in
    stood.stands c.args.anew u v w k st lawful_v lawful_w c.read_standing.ensures.any_moment c.read_standing.ensures.content c.len-length.result c.as_slice-text.result.now c.deref.result.now n c.as_slice-text.ensures c.deref.ensures.value c.draw.ensures.reads

pub returns-in_err-newest_journals-clause-any_moment : goal.returns-in_err-newest_journals-clause-any_moment
returns-in_err-newest_journals-clause-any_moment g c =
    let u = g.D.Disk.disk c.args.disk.now in
    let v = g.D.Disk.disk c.read_standing.new.disk in
    let w = g.D.Disk.disk c.draw.new.disk in
    let k = c.in_ok-standing.standing in
    let st = c.in_ok-standing.ensures.stood in
    let lawful_v = g.met.D.Disk.lawful c.read_standing.new.disk in
    let lawful_w = g.met.D.Disk.lawful c.draw.new.disk in
    let n : c.len-length.result ≡ entry_count k.entries = c.len-length.ensures.count in
    stood.moments c.args.anew u v w k st lawful_v lawful_w c.read_standing.ensures.any_moment c.read_standing.ensures.content c.len-length.result c.as_slice-text.result.now c.deref.result.now n c.as_slice-text.ensures c.deref.ensures.value c.draw.ensures.any_moment

pub returns-in_err-newest_journals-clause-left : goal.returns-in_err-newest_journals-clause-left
returns-in_err-newest_journals-clause-left g c =
    let u = g.D.Disk.disk c.args.disk.now in
    let v = g.D.Disk.disk c.read_standing.new.disk in
    let w = g.D.Disk.disk c.draw.new.disk in
    let k = c.in_ok-standing.standing in
    let st = c.in_ok-standing.ensures.stood in
    let lawful_v = g.met.D.Disk.lawful c.read_standing.new.disk in
    let lawful_w = g.met.D.Disk.lawful c.draw.new.disk in
    let n : c.len-length.result ≡ entry_count k.entries = c.len-length.ensures.count in
    stood.lefts c.args.anew u v w k st lawful_v lawful_w c.read_standing.ensures.any_moment c.read_standing.ensures.content c.len-length.result c.as_slice-text.result.now c.deref.result.now n c.as_slice-text.ensures c.deref.ensures.value c.draw.ensures.any_moment

pub returns-in_err-newest_journals-clause-stands : goal.returns-in_err-newest_journals-clause-stands
returns-in_err-newest_journals-clause-stands g c =
    let u = g.D.Disk.disk c.args.disk.now in
    let v = g.D.Disk.disk c.read_standing.new.disk in
    let w = g.D.Disk.disk c.draw.new.disk in
    let k = c.in_ok-standing.standing in
    let st = c.in_ok-standing.ensures.stood in
    let lawful_v = g.met.D.Disk.lawful c.read_standing.new.disk in
    let lawful_w = g.met.D.Disk.lawful c.draw.new.disk in
    let n : c.len-length.result ≡ entry_count k.entries = c.len-length.ensures.count in
    stood.stands c.args.anew u v w k st lawful_v lawful_w c.read_standing.ensures.any_moment c.read_standing.ensures.content c.len-length.result c.as_slice-text.result.now c.deref.result.now n c.as_slice-text.ensures c.deref.ensures.value c.draw.ensures.reads

pub returns-clause-any_moment : goal.returns-clause-any_moment
returns-clause-any_moment g c =
    let u = g.D.Disk.disk c.args.disk.now in
    let v = g.D.Disk.disk c.read_standing.new.disk in
    let w = g.D.Disk.disk c.draw.new.disk in
    let k = c.in_ok-standing.standing in
    let st = c.in_ok-standing.ensures.stood in
    let lawful_v = g.met.D.Disk.lawful c.read_standing.new.disk in
    let lawful_w = g.met.D.Disk.lawful c.draw.new.disk in
    let n : c.len-length.result ≡ entry_count k.entries = c.len-length.ensures.count in
    stood.moments c.args.anew u v w k st lawful_v lawful_w c.read_standing.ensures.any_moment c.read_standing.ensures.content c.len-length.result c.as_slice-text.result.now c.deref.result.now n c.as_slice-text.ensures c.deref.ensures.value c.draw.ensures.any_moment

pub returns-clause-left : goal.returns-clause-left
returns-clause-left g c =
    let u = g.D.Disk.disk c.args.disk.now in
    let v = g.D.Disk.disk c.read_standing.new.disk in
    let w = g.D.Disk.disk c.draw.new.disk in
    let k = c.in_ok-standing.standing in
    let st = c.in_ok-standing.ensures.stood in
    let lawful_v = g.met.D.Disk.lawful c.read_standing.new.disk in
    let lawful_w = g.met.D.Disk.lawful c.draw.new.disk in
    let n : c.len-length.result ≡ entry_count k.entries = c.len-length.ensures.count in
    stood.lefts c.args.anew u v w k st lawful_v lawful_w c.read_standing.ensures.any_moment c.read_standing.ensures.content c.len-length.result c.as_slice-text.result.now c.deref.result.now n c.as_slice-text.ensures c.deref.ensures.value c.draw.ensures.any_moment

pub returns-clause-stands : goal.returns-clause-stands
returns-clause-stands g c =
    let u = g.D.Disk.disk c.args.disk.now in
    let v = g.D.Disk.disk c.read_standing.new.disk in
    let w = g.D.Disk.disk c.draw.new.disk in
    let k = c.in_ok-standing.standing in
    let st = c.in_ok-standing.ensures.stood in
    let lawful_v = g.met.D.Disk.lawful c.read_standing.new.disk in
    let lawful_w = g.met.D.Disk.lawful c.draw.new.disk in
    let n : c.len-length.result ≡ entry_count k.entries = c.len-length.ensures.count in
    stood.stands c.args.anew u v w k st lawful_v lawful_w c.read_standing.ensures.any_moment c.read_standing.ensures.content c.len-length.result c.as_slice-text.result.now c.deref.result.now n c.as_slice-text.ensures c.deref.ensures.value c.draw.ensures.reads

pub returns-clause-drawn : goal.returns-clause-drawn
returns-clause-drawn g c =
    let u = g.D.Disk.disk c.args.disk.now in
    let v = g.D.Disk.disk c.read_standing.new.disk in
    let w = g.D.Disk.disk c.draw.new.disk in
    let k = c.in_ok-standing.standing in
    let st = c.in_ok-standing.ensures.stood in
    let lawful_v = g.met.D.Disk.lawful c.read_standing.new.disk in
    let lawful_w = g.met.D.Disk.lawful c.draw.new.disk in
    let n : c.len-length.result ≡ entry_count k.entries = c.len-length.ensures.count in
    stood.room c.args.anew u v w k st lawful_v lawful_w c.read_standing.ensures.any_moment c.read_standing.ensures.content c.len-length.result c.as_slice-text.result.now c.deref.result.now n c.as_slice-text.ensures c.deref.ensures.value

pub returns-clause-read : goal.returns-clause-read
returns-clause-read g c =
    let u = g.D.Disk.disk c.args.disk.now in
    let v = g.D.Disk.disk c.read_standing.new.disk in
    let w = g.D.Disk.disk c.draw.new.disk in
    let k = c.in_ok-standing.standing in
    let st = c.in_ok-standing.ensures.stood in
    let lawful_v = g.met.D.Disk.lawful c.read_standing.new.disk in
    let lawful_w = g.met.D.Disk.lawful c.draw.new.disk in
    let n : c.len-length.result ≡ entry_count k.entries = c.len-length.ensures.count in
    let s : Memory = record { instance = c.in_ok-drawn.drawn.instance; layout = k.layout; journals = c.in_ok-newest_journals.field-0; entries = k.entries; globals = k.globals; hardened = c.len-length.result; stamp = None } in
    stood.read_some c.args.anew u v w k st lawful_v lawful_w c.read_standing.ensures.any_moment c.read_standing.ensures.content c.len-length.result c.as_slice-text.result.now c.deref.result.now n c.as_slice-text.ensures c.deref.ensures.value s c.in_ok-drawn.ensures.records refl refl refl refl

pub returns-clause-found : goal.returns-clause-found
returns-clause-found g c =
    let u = g.D.Disk.disk c.args.disk.now in
    let v = g.D.Disk.disk c.read_standing.new.disk in
    let w = g.D.Disk.disk c.draw.new.disk in
    let k = c.in_ok-standing.standing in
    let st = c.in_ok-standing.ensures.stood in
    let lawful_v = g.met.D.Disk.lawful c.read_standing.new.disk in
    let lawful_w = g.met.D.Disk.lawful c.draw.new.disk in
    let n : c.len-length.result ≡ entry_count k.entries = c.len-length.ensures.count in
    let s : Memory = record { instance = c.in_ok-drawn.drawn.instance; layout = k.layout; journals = c.in_ok-newest_journals.field-0; entries = k.entries; globals = k.globals; hardened = c.len-length.result; stamp = None } in
    stood.found c.args.anew u v w k st lawful_v lawful_w c.read_standing.ensures.any_moment c.read_standing.ensures.content c.len-length.result c.as_slice-text.result.now c.deref.result.now n c.as_slice-text.ensures c.deref.ensures.value s c.in_ok-drawn.ensures.records refl refl refl refl

pub returns-clause-held : goal.returns-clause-held
returns-clause-held g c =
    let u = g.D.Disk.disk c.args.disk.now in
    let v = g.D.Disk.disk c.read_standing.new.disk in
    let w = g.D.Disk.disk c.draw.new.disk in
    let k = c.in_ok-standing.standing in
    let st = c.in_ok-standing.ensures.stood in
    let lawful_v = g.met.D.Disk.lawful c.read_standing.new.disk in
    let lawful_w = g.met.D.Disk.lawful c.draw.new.disk in
    let n : c.len-length.result ≡ entry_count k.entries = c.len-length.ensures.count in
    let s : Memory = record { instance = c.in_ok-drawn.drawn.instance; layout = k.layout; journals = c.in_ok-newest_journals.field-0; entries = k.entries; globals = k.globals; hardened = c.len-length.result; stamp = None } in
    stood.held c.args.anew u v w k st lawful_v lawful_w c.read_standing.ensures.any_moment c.read_standing.ensures.content c.len-length.result c.as_slice-text.result.now c.deref.result.now n c.as_slice-text.ensures c.deref.ensures.value s c.in_ok-drawn.ensures.records refl refl refl refl

pub returns-clause-opened : goal.returns-clause-opened
returns-clause-opened g c =
    let u = g.D.Disk.disk c.args.disk.now in
    let v = g.D.Disk.disk c.read_standing.new.disk in
    let w = g.D.Disk.disk c.draw.new.disk in
    let k = c.in_ok-standing.standing in
    let st = c.in_ok-standing.ensures.stood in
    let lawful_v = g.met.D.Disk.lawful c.read_standing.new.disk in
    let lawful_w = g.met.D.Disk.lawful c.draw.new.disk in
    let n : c.len-length.result ≡ entry_count k.entries = c.len-length.ensures.count in
    let s : Memory = record { instance = c.in_ok-drawn.drawn.instance; layout = k.layout; journals = c.in_ok-newest_journals.field-0; entries = k.entries; globals = k.globals; hardened = c.len-length.result; stamp = None } in
    stood.opened_here c.args.anew u v w k st lawful_v lawful_w c.read_standing.ensures.any_moment c.read_standing.ensures.content c.len-length.result c.as_slice-text.result.now c.deref.result.now n c.as_slice-text.ensures c.deref.ensures.value s c.in_ok-drawn.ensures.records refl refl refl refl

pub returns-clause-ready : goal.returns-clause-ready
returns-clause-ready g c =
    let u = g.D.Disk.disk c.args.disk.now in
    let v = g.D.Disk.disk c.read_standing.new.disk in
    let w = g.D.Disk.disk c.draw.new.disk in
    let k = c.in_ok-standing.standing in
    let st = c.in_ok-standing.ensures.stood in
    let lawful_v = g.met.D.Disk.lawful c.read_standing.new.disk in
    let lawful_w = g.met.D.Disk.lawful c.draw.new.disk in
    let n : c.len-length.result ≡ entry_count k.entries = c.len-length.ensures.count in
    let s : Memory = record { instance = c.in_ok-drawn.drawn.instance; layout = k.layout; journals = c.in_ok-newest_journals.field-0; entries = k.entries; globals = k.globals; hardened = c.len-length.result; stamp = None } in
    stood.ready c.args.anew u v w k st lawful_v lawful_w c.read_standing.ensures.any_moment c.read_standing.ensures.content c.len-length.result c.as_slice-text.result.now c.deref.result.now n c.as_slice-text.ensures c.deref.ensures.value s c.in_ok-drawn.ensures.records refl refl refl refl c.in_ok-drawn.drawn.journals.items c.in_ok-newest_journals.ensures c.in_ok-drawn.ensures.journal_count c.in_ok-drawn.ensures.instance refl c.in_ok-drawn.ensures.journals c.draw.ensures.frame

pub returns-clause-told : goal.returns-clause-told
returns-clause-told g c =
    let u = g.D.Disk.disk c.args.disk.now in
    let v = g.D.Disk.disk c.read_standing.new.disk in
    let w = g.D.Disk.disk c.draw.new.disk in
    let k = c.in_ok-standing.standing in
    let st = c.in_ok-standing.ensures.stood in
    let lawful_v = g.met.D.Disk.lawful c.read_standing.new.disk in
    let lawful_w = g.met.D.Disk.lawful c.draw.new.disk in
    let n : c.len-length.result ≡ entry_count k.entries = c.len-length.ensures.count in
    let s : Memory = record { instance = c.in_ok-drawn.drawn.instance; layout = k.layout; journals = c.in_ok-newest_journals.field-0; entries = k.entries; globals = k.globals; hardened = c.len-length.result; stamp = None } in
    stood.told c.args.anew u v w k st lawful_v lawful_w c.read_standing.ensures.any_moment c.read_standing.ensures.content c.len-length.result c.as_slice-text.result.now c.deref.result.now n c.as_slice-text.ensures c.deref.ensures.value s c.in_ok-drawn.ensures.records refl refl refl refl c.in_ok-drawn.drawn.journals.items c.in_ok-newest_journals.ensures c.in_ok-drawn.ensures.drawn c.in_ok-drawn.ensures.instance_file c.in_ok-drawn.ensures.journal_files
