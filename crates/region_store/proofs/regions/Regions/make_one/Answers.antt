use Rattle.std.proofs.Common.{◌≡◌, ◌∙◌, ◌∷◌, [], ap, sym, subst, arith, slice_get, Some}
use Rattle.gvn_key.specs.Terms.{update_value}
use Rattle.global_defs.specs.Entry.{apply}
use Rattle.journal_defs.specs.Directory.{region_of}
use Rattle.journal_defs.specs.Fit.{region_of_update}
use Rattle.region_store.specs.Inside.{regions_of}
use Rattle.region_store.specs.Joined.{Joined, joined, HasRoomFor, AreChanged}
use Rattle.region_store.proofs.Lists.{read_at}
use Rattle.region_store.proofs.Making.{with_region, changed_at, room_here, kept_made, all_now, room_now}
use Rattle.region_store.proofs.regions.Regions.make_one.Goals as goal

pub make_one-requires-clause-room : goal.make_one-requires-clause-room
make_one-requires-clause-room c =
    let i = c.self.inside in
    let n = c.region_of-number.result in
    let s = c.index_mut.result.now in
    let u = update_value c.args.update.now in
    let home : region_of_update i.directory.patterns u ≡ n = sym (c.region_of-number.ensures.value ∙ ap (region_of i.directory.patterns) c.name_of.ensures) in
    let here : slice_get i.regions.items n ≡ Some s = read_at i.regions.items n s (omega (arith, c.region_of-number.ensures.there, c.self.invariant.count)) c.index_mut.ensures.value in
    let room = subst (λ (j : Joined). HasRoomFor j (u ∷ [])) (sym c.self.view_is) c.requires.room in
    room_here (regions_of i) n s u home (room.each n s here)

pub invariant_of-self : goal.invariant_of-self
invariant_of-self c =
    let i = c.self.inside in
    let n = c.region_of-number.result in
    let s = c.index_mut.result.now in
    let u = update_value c.args.update.now in
    let home : region_of_update i.directory.patterns u ≡ n = sym (c.region_of-number.ensures.value ∙ ap (region_of i.directory.patterns) c.name_of.ensures) in
    let here : slice_get i.regions.items n ≡ Some s = read_at i.regions.items n s (omega (arith, c.region_of-number.ensures.there, c.self.invariant.count)) c.index_mut.ensures.value in
    let room = subst (λ (j : Joined). HasRoomFor j (u ∷ [])) (sym c.self.view_is) c.requires.room in
    kept_made i n s c.make_one.new.self u here home c.make_one.ensures.made room c.self.invariant

pub returns-clause-made : goal.returns-clause-made
returns-clause-made c =
    let i = c.self.inside in
    let n = c.region_of-number.result in
    let s = c.index_mut.result.now in
    let u = update_value c.args.update.now in
    let home : region_of_update i.directory.patterns u ≡ n = sym (c.region_of-number.ensures.value ∙ ap (region_of i.directory.patterns) c.name_of.ensures) in
    let here : slice_get i.regions.items n ≡ Some s = read_at i.regions.items n s (omega (arith, c.region_of-number.ensures.there, c.self.invariant.count)) c.index_mut.ensures.value in
    let room = subst (λ (j : Joined). HasRoomFor j (u ∷ [])) (sym c.self.view_is) c.requires.room in
    all_now (regions_of i) c.self.invariant.joined n s c.make_one.new.self u here home c.make_one.ensures.made room ∙ ap (λ (j : Joined). apply (joined j) u) c.self.view_is

pub returns-clause-room : goal.returns-clause-room
returns-clause-room c more had =
    let i = c.self.inside in
    let n = c.region_of-number.result in
    let s = c.index_mut.result.now in
    let u = update_value c.args.update.now in
    let home : region_of_update i.directory.patterns u ≡ n = sym (c.region_of-number.ensures.value ∙ ap (region_of i.directory.patterns) c.name_of.ensures) in
    let here : slice_get i.regions.items n ≡ Some s = read_at i.regions.items n s (omega (arith, c.region_of-number.ensures.there, c.self.invariant.count)) c.index_mut.ensures.value in
    let room = subst (λ (j : Joined). HasRoomFor j (u ∷ [])) (sym c.self.view_is) c.requires.room in
    room_now (regions_of i) c.self.invariant.joined n s c.make_one.new.self u here home c.make_one.ensures.made room c.make_one.ensures.room c.make_one.ensures.numbers more
    (subst (λ (j : Joined). HasRoomFor j (u ∷ more)) (sym c.self.view_is) had)

pub returns-clause-changed : goal.returns-clause-changed
returns-clause-changed c =
    let i = c.self.inside in
    let n = c.region_of-number.result in
    let s = c.index_mut.result.now in
    let here : slice_get i.regions.items n ≡ Some s = read_at i.regions.items n s (omega (arith, c.region_of-number.ensures.there, c.self.invariant.count)) c.index_mut.ensures.value in
    subst (λ (j : Joined). AreChanged j (with_region (regions_of i) n c.make_one.new.self)) c.self.view_is (changed_at (regions_of i) n s c.make_one.new.self here c.make_one.ensures.changed)
