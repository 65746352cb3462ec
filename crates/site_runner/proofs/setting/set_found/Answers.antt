use Rattle.std.proofs.Common.{◌≡◌, ◌<◌, ℕ, subst, None, Some, sym, ◌∙◌, ap, refl}
use Rattle.site_defs.specs.Contents.{same_name}
use Rattle.site_runner.proofs.Ats.{on_not_done}
use Rattle.site_runner.proofs.Results.{err_holds}
use Rattle.site_runner.proofs.Written.{named}
use Rattle.site_runner.proofs.Found.{by_name, called, other_found, another_there, some_contents}
use Rattle.site_runner.proofs.Moded.{seen_other, seen_cut, found_no_region, unset_found, there_in}
use Rattle.site_runner.specs.Ending.{down}
use Rattle.site_runner.proofs.setting.set_found.Goals as goal

pub returns-then-not-is_named-clause-done : goal.returns-then-not-is_named-clause-done
returns-then-not-is_named-clause-done g c =
    let other : same_name c.args.found.layout.name c.args.name.now ≡ _ = ap (same_name c.args.found.layout.name) (sym refl) ∙ sym c.is_named.ensures ∙ c.if-not-is_named.true in
    on_not_done c.damaged.result _ _ c.damaged.ensures (λ t.
    seen_other c.args.region c.args.before (g.D.Disk.disk c.args.disk.now) (down c.args.name.now) 0 0 c.args.text.now _ (named _ _ refl t)
    (other_found (g.D.Disk.disk c.args.disk.now).content c.args.found.layout c.args.name.now other c.requires.found) (another_there (g.D.Disk.disk c.args.disk.now) c.args.found c.args.name.now other c.requires.told))

pub returns-then-not-is_named-clause-cut_off : goal.returns-then-not-is_named-clause-cut_off
returns-then-not-is_named-clause-cut_off g c =
    err_holds c.damaged.result _ (seen_cut c.leftovers_hold.ensures c.args.region c.args.before (g.D.Disk.disk c.args.disk.now) (down c.args.name.now) (g.met.D.Disk.lawful c.args.disk.now))

pub returns-in-None-clause-done : goal.returns-in-None-clause-done
returns-in-None-clause-done g c =
    on_not_done c.refuse.result _ _ c.refuse.ensures (λ t.
    found_no_region c.args.region c.args.before (g.D.Disk.disk c.args.disk.now) (down c.args.name.now) c.args.found c.args.text.now _ c.requires.told (called c.args.found.layout.name c.args.name.now c.args.name.now c.is_named.result (sym c.requires.told.layout.name) refl c.is_named.ensures c.if-not-is_named.false) c.requires.found
    (by_name c.args.found.layout None c.args.region c.as_slice.result.now c.as_slice.ensures (sym c.in-None.is ∙ c.region_named.ensures.number))
    (named _ _ refl t))

pub returns-in-None-clause-cut_off : goal.returns-in-None-clause-cut_off
returns-in-None-clause-cut_off g c =
    err_holds c.refuse.result _ (seen_cut c.leftovers_hold.ensures c.args.region c.args.before (g.D.Disk.disk c.args.disk.now) (down c.args.name.now) (g.met.D.Disk.lawful c.args.disk.now))

pub set_there-requires-clause-there : goal.set_there-requires-clause-there
set_there-requires-clause-there g c =
    there_in (g.D.Disk.disk c.args.disk.now).content c.args.region c.in-Some.number c.args.found.layout c.requires.found
    (by_name c.args.found.layout (Some c.in-Some.number) c.args.region c.as_slice.result.now c.as_slice.ensures c.in-Some.ensures.number)

pub set_there-requires-clause-named : goal.set_there-requires-clause-named
set_there-requires-clause-named g c =
    some_contents c.args.region c.args.found.layout c.in-Some.number (by_name c.args.found.layout (Some c.in-Some.number) c.args.region c.as_slice.result.now c.as_slice.ensures c.in-Some.ensures.number)

pub set_there-requires-clause-inside : goal.set_there-requires-clause-inside
set_there-requires-clause-inside g c = subst (λ (n : ℕ). c.in-Some.number < n) (ap (λ m. m.regions) c.requires.told.layout.directory) c.in-Some.ensures.inside

pub set_there-requires-clause-called : goal.set_there-requires-clause-called
set_there-requires-clause-called g c =
    called c.args.found.layout.name c.args.name.now c.args.name.now c.is_named.result (sym c.requires.told.layout.name) refl c.is_named.ensures c.if-not-is_named.false

pub set_there-requires-clause-unset : goal.set_there-requires-clause-unset
set_there-requires-clause-unset g c =
    unset_found c.args.region c.args.found (Some c.in-Some.number) c.requires.told.layout (by_name c.args.found.layout (Some c.in-Some.number) c.args.region c.as_slice.result.now c.as_slice.ensures c.in-Some.ensures.number)
