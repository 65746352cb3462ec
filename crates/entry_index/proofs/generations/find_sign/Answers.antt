use Rattle.std.proofs.Common.{◌≡◌, ◌+◌, ℕ, take, drop, Option, refl, ap, ◌∙◌, subst}
use Rattle.disk_defs.proofs.Told.{told_at, both_weak}
use Rattle.gated_file.specs.Reading.{BodyAt, HasBody}
use Rattle.jnl_file.specs.Reading.{IsNoRecord}
use Rattle.entry_index.specs.Pieces.{IsPieceOf}
use Rattle.entry_index.proofs.Stands.{sign_found, no_sign_found}
use Rattle.entry_index.proofs.generations.find_sign.Goals as goal

pub returns-in-Some-read_sign-clause-found : goal.returns-in-Some-read_sign-clause-found
returns-in-Some-read_sign-clause-found g c =
    let view = g.D.Disk.disk in
    let o = (view c.args.disk.now).content in
    let file = c.args.pieces.now.file in
    let at = c.args.at in
    let n = c.in-Some.n in
    let s = c.in-Some-read_sign.sign in
    let same : c.load.new.self.file ≡ file = c.load.ensures.same.file ∙ c.body_length.ensures.same.file in
    let held = told_at o (view c.load.new.disk).content (IsPieceOf c.load.new.self) (c.load.ensures.reads.content ∙ c.body_length.ensures.reads.content) c.in_ok-load.ensures.told in
    both_weak o (λ files. BodyAt (files file) at c.in_ok-n.field-0) (IsPieceOf c.load.new.self) _ c.in_ok-n.ensures.found held
    (λ files here is.
    let has : HasBody (files file) at n = subst (λ (o : Option ℕ). BodyAt (files file) at o) c.in-Some.is here in
    sign_found (files file) at n has c.shown.result.now (c.shown.ensures.value files is ∙ ap (λ (f : ℕ). take n (drop (at + 5) (files f))) same) s c.in-Some-read_sign.ensures.found)

pub returns-in-None-clause-outside : goal.returns-in-None-clause-outside
returns-in-None-clause-outside g c _ =
    let view = g.D.Disk.disk in
    let o = (view c.args.disk.now).content in
    let file = c.args.pieces.now.file in
    let at = c.args.at in
    let n = c.in-Some.n in
    let same : c.load.new.self.file ≡ file = c.load.ensures.same.file ∙ c.body_length.ensures.same.file in
    let held = told_at o (view c.load.new.disk).content (IsPieceOf c.load.new.self) (c.load.ensures.reads.content ∙ c.body_length.ensures.reads.content) c.in_ok-load.ensures.told in
    both_weak o (λ files. BodyAt (files file) at c.in_ok-n.field-0) (IsPieceOf c.load.new.self) (λ files. IsNoRecord (files file) at) c.in_ok-n.ensures.found held
    (λ files here is.
    let has : HasBody (files file) at n = subst (λ (o : Option ℕ). BodyAt (files file) at o) c.in-Some.is here in
    no_sign_found (files file) at n has c.shown.result.now (c.shown.ensures.value files is ∙ ap (λ (f : ℕ). take n (drop (at + 5) (files f))) same) (c.in-None.ensures.none refl))
