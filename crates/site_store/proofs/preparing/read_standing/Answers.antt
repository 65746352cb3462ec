use Rattle.std.proofs.Common.{◌≡◌, inl, ℕ, Bool, true, false, IfOk, refl, sym, subst}
use Rattle.std.proofs.lemmas.Result.{err_from_is_err_and}
use Rattle.disk_defs.specs.Disk.{Image}
use Rattle.disk_defs.proofs.Moments.{nothing_new, read_only}
use Rattle.disk_defs.proofs.Told.{weaker_told}
use Rattle.site_defs.specs.Outside.{IsOutsideSite}
use Rattle.site_defs.specs.OutsideBlocks.{IsOutsideOpening, whole}
use Rattle.site_store.proofs.Errors.{handed_on}
use Rattle.site_store.specs.Needing.{IsFirstWithout}
use Rattle.site_store.specs.Standing.{Stood, found_records, found_signs}
use Rattle.region_opening.specs.Signs.{AllSay}
use Rattle.site_defs.specs.Contents.{Contents}
use Rattle.site_defs.specs.Stands.{IsSite}
use Rattle.site_store.proofs.Founded.{stood_ok, first_needing, blocks_outside, no_site_there, none_there}
use Rattle.site_store.specs.declared.error.SiteError.TheVariants as error
use Rattle.site_store.proofs.preparing.read_standing.Goals as goal
use Rattle.entry_index.specs.Found.{entry_count}

pub returns-in_err-found-clause-place : goal.returns-in_err-found-clause-place
returns-in_err-found-clause-place g c =
    let p = err_from_is_err_and c.from_residual.result c.from_residual.ensures.1 in
    rw (p.1, p.2) (λ file offset is. weaker_told (g.D.Disk.disk c.args.disk.now).content (λ files. IsOutsideSite files file offset) (λ files. IsOutsideOpening files file offset)
    (c.in_err-found.ensures.place file offset (handed_on c.in_err-found.field-0.0 (error.NotAFile file offset) is)) (λ files out. inl out))

pub returns-clause-any_moment : goal.returns-clause-any_moment
returns-clause-any_moment g c =
    let view = g.D.Disk.disk in
    nothing_new (view c.args.disk.now) (view c.find_files.new.disk) (view c.stand.new.disk) (Image (view c.args.disk.now)) (g.met.D.Disk.lawful c.find_files.new.disk) c.find_files.ensures.any_moment (read_only (view c.find_files.new.disk) (view c.stand.new.disk) c.stand.ensures.reads)

pub returns-then-anew-clause-stood : goal.returns-then-anew-clause-stood
returns-then-anew-clause-stood g c =
    let view = g.D.Disk.disk in
    let u = view c.args.disk.now in
    let w = view c.stand_anew.new.disk in
    let f = c.in_ok-found.found in
    subst (λ (b : Bool). IfOk c.stand_anew.result (Stood b u w)) (sym c.if-anew.true)
    (stood_ok true u (view c.find_files.new.disk) w f (entry_count f.entries) c.stand_anew.result (g.met.D.Disk.lawful c.stand_anew.new.disk) c.stand_anew.ensures.reads c.find_files.ensures.content
    c.in_ok-found.ensures.has c.in_ok-found.ensures.found refl c.stand_anew.ensures.found_as c.stand_anew.ensures.opened (λ e. absurd (cc e)))

pub returns-then-anew-clause-place : goal.returns-then-anew-clause-place
returns-then-anew-clause-place g c = λ file offset is.
    let view = g.D.Disk.disk in
    none_there (view c.args.disk.now) (view c.find_files.new.disk) c.in_ok-found.found (λ files. IsOutsideOpening files file offset) c.in_ok-found.ensures.found c.find_files.ensures.content (c.stand_anew.ensures.outside file offset is)

pub returns-then-anew-clause-place_anew : goal.returns-then-anew-clause-place_anew
returns-then-anew-clause-place_anew g c = λ anew file offset is.
    let view = g.D.Disk.disk in
    none_there (view c.args.disk.now) (view c.find_files.new.disk) c.in_ok-found.found (λ files. IsOutsideSite files file offset) c.in_ok-found.ensures.found c.find_files.ensures.content (c.stand_anew.ensures.outside file offset is)

pub returns-then-anew-clause-outside : goal.returns-then-anew-clause-outside
returns-then-anew-clause-outside g c = λ file offset is.
    let view = g.D.Disk.disk in
    none_there (view c.args.disk.now) (view c.find_files.new.disk) c.in_ok-found.found (λ files. (c : Contents) → IsSite files c → ⊥) c.in_ok-found.ensures.found c.find_files.ensures.content (c.stand_anew.ensures.outside file offset is)

pub returns-in_err-check_images-clause-needs : goal.returns-in_err-check_images-clause-needs
returns-in_err-check_images-clause-needs g c =
    let view = g.D.Disk.disk in
    let f = c.in_ok-found.found in
    let all : c.len-target.result ≡ entry_count f.entries = c.len-target.ensures.count in
    let p = err_from_is_err_and c.from_residual-in_err-check_images.result c.from_residual-in_err-check_images.ensures.1 in
    rw (p.1, p.2) (λ region is.
    let first = c.in_err-check_images.ensures.first region (handed_on c.in_err-check_images.field-0.0 (error.NeedForward region) is) in
    first_needing (view c.args.disk.now) (view c.find_files.new.disk) f c.in_ok-found.ensures.has c.in_ok-found.ensures.found region (λ journal say.
    let one = first journal (subst (λ (n : ℕ). AllSay f.read.log.records n (found_signs f) journal) (sym all) say) in (one.0, subst (λ (n : ℕ). IsFirstWithout (found_records f journal) n region one.0) all one.1)))

pub returns-clause-stood : goal.returns-clause-stood
returns-clause-stood g c =
    let view = g.D.Disk.disk in
    let u = view c.args.disk.now in
    let w = view c.stand.new.disk in
    let all : c.len-target.result ≡ entry_count c.in_ok-found.found.entries = c.len-target.ensures.count in
    subst (λ (b : Bool). IfOk c.stand.result (Stood b u w)) (sym c.if-anew.false)
    (stood_ok false u (view c.find_files.new.disk) w c.in_ok-found.found c.len-target.result c.stand.result (g.met.D.Disk.lawful c.stand.new.disk) c.stand.ensures.reads c.find_files.ensures.content
    c.in_ok-found.ensures.has c.in_ok-found.ensures.found all c.stand.ensures.found_as c.stand.ensures.opened (λ _. c.in_ok-check_images.ensures.none))

pub returns-clause-place : goal.returns-clause-place
returns-clause-place g c = λ file offset is.
    let view = g.D.Disk.disk in
    let all : whole (entry_count c.in_ok-found.found.entries) ≡ c.len-target.result = sym c.len-target.ensures.count in
    blocks_outside (view c.args.disk.now) (view c.find_files.new.disk) c.in_ok-found.found c.in_ok-found.ensures.has c.in_ok-found.ensures.found c.find_files.ensures.content file offset (c.stand.ensures.place file offset is whole all)

pub returns-clause-outside : goal.returns-clause-outside
returns-clause-outside g c = λ file offset is.
    let view = g.D.Disk.disk in
    no_site_there (view c.args.disk.now) (view c.find_files.new.disk) c.in_ok-found.found c.in_ok-found.ensures.has c.in_ok-found.ensures.found c.find_files.ensures.content file offset (c.stand.ensures.unsound file offset is)
