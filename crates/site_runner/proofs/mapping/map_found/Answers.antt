use Rattle.std.proofs.Common.{◌≡◌, ◌<◌, ℕ, subst, Some, None, sym, ◌∙◌, ap, arith, Err, refl}
use Rattle.site_defs.specs.Contents.{same_name}
use Rattle.site_runner.proofs.Ats.{on_not_done}
use Rattle.site_runner.proofs.Results.{err_holds}
use Rattle.site_runner.proofs.Written.{named}
use Rattle.site_runner.proofs.Mapped.{seen_other, seen_cut}
use Rattle.site_runner.proofs.Found.{by_name, called, other_found, another_there, some_contents, free_in, free_by, found_started, found_no_region, found_twice}
use Rattle.site_runner.specs.Ending.{down}
use Rattle.site_runner.proofs.mapping.map_found.Goals as goal

pub returns-then-not-is_named-clause-done : goal.returns-then-not-is_named-clause-done
returns-then-not-is_named-clause-done g c =
    let other : same_name c.args.found.layout.name c.args.name.now ≡ _ = ap (same_name c.args.found.layout.name) (sym refl) ∙ sym c.is_named.ensures ∙ c.if-not-is_named.true in
    on_not_done c.damaged.result _ _ c.damaged.ensures (λ t.
    seen_other c.args.region c.args.pattern.now (g.D.Disk.disk c.args.disk.now) (down c.args.name.now) 0 0 c.args.text.now _ (named _ _ refl t)
    (other_found (g.D.Disk.disk c.args.disk.now).content c.args.found.layout c.args.name.now other c.requires.found) (another_there (g.D.Disk.disk c.args.disk.now) c.args.found c.args.name.now other c.requires.told))

pub returns-then-not-is_named-clause-cut_off : goal.returns-then-not-is_named-clause-cut_off
returns-then-not-is_named-clause-cut_off g c =
    err_holds c.damaged.result _ (seen_cut c.leftovers_hold.ensures c.args.region c.args.pattern.now (g.D.Disk.disk c.args.disk.now) (down c.args.name.now) (g.met.D.Disk.lawful c.args.disk.now))

pub returns-then-layout-gt0-clause-done : goal.returns-then-layout-gt0-clause-done
returns-then-layout-gt0-clause-done g c =
    on_not_done c.refuse.result _ _ c.refuse.ensures (λ t.
    found_started c.args.region c.args.pattern.now (g.D.Disk.disk c.args.disk.now) (down c.args.name.now) c.args.found c.args.text.now _ c.requires.told (called c.args.found.layout.name c.args.name.now c.args.name.now c.is_named.result (sym c.requires.told.layout.name) refl c.is_named.ensures c.if-not-is_named.false) c.requires.found c.if-layout-gt0.true (named _ _ refl t))

pub returns-then-layout-gt0-clause-cut_off : goal.returns-then-layout-gt0-clause-cut_off
returns-then-layout-gt0-clause-cut_off g c =
    err_holds c.refuse.result _ (seen_cut c.leftovers_hold.ensures c.args.region c.args.pattern.now (g.D.Disk.disk c.args.disk.now) (down c.args.name.now) (g.met.D.Disk.lawful c.args.disk.now))

pub returns-in_default-clause-done : goal.returns-in_default-clause-done
returns-in_default-clause-done g c =
    let none : c.args.found.layout.generation ≡ 0 = omega (arith, c.if-layout-gt0.false) in
    on_not_done c.refuse-in_default.result _ _ c.refuse-in_default.ensures (λ t.
    found_no_region c.args.region c.args.pattern.now (g.D.Disk.disk c.args.disk.now) (down c.args.name.now) c.args.found c.args.text.now _ c.requires.told (called c.args.found.layout.name c.args.name.now c.args.name.now c.is_named.result (sym c.requires.told.layout.name) refl c.is_named.ensures c.if-not-is_named.false) c.requires.found none
    (by_name c.args.found.layout None c.args.region c.as_slice.result.now c.as_slice.ensures (sym c.in_default.is ∙ c.region_named.ensures.number))
    (named _ _ refl t))

pub returns-in_default-clause-cut_off : goal.returns-in_default-clause-cut_off
returns-in_default-clause-cut_off g c =
    err_holds c.refuse-in_default.result _ (seen_cut c.leftovers_hold.ensures c.args.region c.args.pattern.now (g.D.Disk.disk c.args.disk.now) (down c.args.name.now) (g.met.D.Disk.lawful c.args.disk.now))

pub map_there-requires-clause-free : goal.map_there-requires-clause-free
map_there-requires-clause-free g c =
    let none : c.args.found.layout.generation ≡ 0 = omega (arith, c.if-layout-gt0.false) in
    free_in (g.D.Disk.disk c.args.disk.now).content c.args.region c.in-Some.number c.args.pattern.now c.args.found.layout c.requires.found none c.in-Some.ensures.inside
    (by_name c.args.found.layout (Some c.in-Some.number) c.args.region c.as_slice.result.now c.as_slice.ensures c.in-Some.ensures.number)
    (λ twice. (cc (c.in-Ok.ensures.twice.1 (c.requires.form, c.in-Some.ensures.inside, twice))))

pub map_there-requires-clause-inside : goal.map_there-requires-clause-inside
map_there-requires-clause-inside g c = subst (λ (n : ℕ). c.in-Some.number < n) (ap (λ m. m.regions) c.requires.told.layout.directory) c.in-Some.ensures.inside

pub map_there-requires-clause-undrawn : goal.map_there-requires-clause-undrawn
map_there-requires-clause-undrawn g c =
    let none : c.args.found.layout.generation ≡ 0 = omega (arith, c.if-layout-gt0.false) in
    sym c.requires.told.layout.generation ∙ none

pub map_there-requires-clause-named : goal.map_there-requires-clause-named
map_there-requires-clause-named g c =
    some_contents c.args.region c.args.found.layout c.in-Some.number (by_name c.args.found.layout (Some c.in-Some.number) c.args.region c.as_slice.result.now c.as_slice.ensures c.in-Some.ensures.number)

pub map_there-requires-clause-called : goal.map_there-requires-clause-called
map_there-requires-clause-called g c =
    called c.args.found.layout.name c.args.name.now c.args.name.now c.is_named.result (sym c.requires.told.layout.name) refl c.is_named.ensures c.if-not-is_named.false

pub map_there-requires-clause-unmapped : goal.map_there-requires-clause-unmapped
map_there-requires-clause-unmapped g c =
    let none : c.args.found.layout.generation ≡ 0 = omega (arith, c.if-layout-gt0.false) in
    free_by c.args.region c.args.pattern.now (g.D.Disk.disk c.args.disk.now) c.args.found c.in-Some.number c.requires.told none
    (by_name c.args.found.layout (Some c.in-Some.number) c.args.region c.as_slice.result.now c.as_slice.ensures c.in-Some.ensures.number)
    (λ twice. (cc (c.in-Ok.ensures.twice.1 (c.requires.form, c.in-Some.ensures.inside, twice))))

pub returns-in-Err-TwiceMapped-clause-done : goal.returns-in-Err-TwiceMapped-clause-done
returns-in-Err-TwiceMapped-clause-done g c =
    let none : c.args.found.layout.generation ≡ 0 = omega (arith, c.if-layout-gt0.false) in
    on_not_done c.refuse-in-Err-TwiceMapped.result _ _ c.refuse-in-Err-TwiceMapped.ensures (λ t.
    found_twice c.args.region c.args.pattern.now (g.D.Disk.disk c.args.disk.now) (down c.args.name.now) c.args.found c.in-Some.number c.args.text.now _ c.requires.told (called c.args.found.layout.name c.args.name.now c.args.name.now c.is_named.result (sym c.requires.told.layout.name) refl c.is_named.ensures c.if-not-is_named.false) c.requires.found none
    (by_name c.args.found.layout (Some c.in-Some.number) c.args.region c.as_slice.result.now c.as_slice.ensures c.in-Some.ensures.number)
    (c.in-Err-TwiceMapped.ensures.twice.0 (ap Err c.in-Err-TwiceMapped.field-0-is)).2 (named _ _ refl t))

pub returns-in-Err-TwiceMapped-clause-cut_off : goal.returns-in-Err-TwiceMapped-clause-cut_off
returns-in-Err-TwiceMapped-clause-cut_off g c =
    err_holds c.refuse-in-Err-TwiceMapped.result _ (seen_cut c.leftovers_hold.ensures c.args.region c.args.pattern.now (g.D.Disk.disk c.args.disk.now) (down c.args.name.now) (g.met.D.Disk.lawful c.args.disk.now))

pub returns : goal.returns
returns g c = record { done = tt; cut_off = seen_cut c.leftovers_hold.ensures c.args.region c.args.pattern.now (g.D.Disk.disk c.args.disk.now) (down c.args.name.now) (g.met.D.Disk.lawful c.args.disk.now) }
