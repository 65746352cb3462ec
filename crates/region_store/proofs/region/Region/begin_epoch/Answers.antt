use Rattle.std.proofs.Common.{◌≡◌, ◌∙◌, Bool, List, false, length, replicate, sym, ap, subst}
use Rattle.journal_defs.specs.Undo.{fresh}
use Rattle.region_store.specs.Region.{Standing, HoldsRegion, AreLogged, with_marks}
use Rattle.region_store.proofs.Marking.{standing}
use Rattle.region_store.proofs.Flushes.{clean_logged, begun}
use Rattle.region_store.proofs.region.Region.begin_epoch.Goals as goal

pub returns-clause-begun : goal.returns-clause-begun
returns-clause-begun c =
    let i = c.self.inside in
    let none = replicate (length c.args.self.now.pool.leaves) false in
    ap (λ (ms : List Bool). standing i.file i.leaves ms) c.requires.none ∙ ap (λ (x : Standing). with_marks x none) c.self.view_is

pub returns-clause-logged : goal.returns-clause-logged
returns-clause-logged c =
    let i = c.self.inside in
    let s = c.args.self.now in
    let none = replicate (length s.pool.leaves) false in
    let is : standing i.file i.leaves c.args.images ≡ with_marks s none = ap (λ (ms : List Bool). standing i.file i.leaves ms) c.requires.none ∙ ap (λ (x : Standing). with_marks x none) c.self.view_is in
    subst AreLogged (sym is) (clean_logged (with_marks s none) c.requires.flushed)

pub returns-clause-holds : goal.returns-clause-holds
returns-clause-holds c e bytes m count h =
    let i = c.self.inside in
    let s = c.args.self.now in
    let none = replicate (length s.pool.leaves) false in
    let is : standing i.file i.leaves c.args.images ≡ with_marks s none = ap (λ (ms : List Bool). standing i.file i.leaves ms) c.requires.none ∙ ap (λ (x : Standing). with_marks x none) c.self.view_is in
    subst (HoldsRegion (fresh m) bytes) (sym is) (begun e bytes m s c.requires.flushed count h)
