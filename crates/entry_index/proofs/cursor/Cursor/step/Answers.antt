use Rattle.std.proofs.Common.{◌≡◌, ℕ, IfOk, IfSome, IsTrue, refl, sym, ◌∙◌, ap, subst}
use Rattle.disk_defs.proofs.Told.{weaker_told}
use Rattle.entry_index.specs.Places.{IsSignOf}
use Rattle.entry_index.specs.Pieces.{IsPieceOf}
use Rattle.entry_index.specs.Cursors.{placed_by, IsNextRecord, ReadsOnBy, Keeps}
use Rattle.entry_index.specs.declared.reader.Reader.{Reader}
use Rattle.entry_index.proofs.Cursors.{all_kept, step_read}
use Rattle.entry_index.proofs.cursor.Cursor.step.Goals as goal

pub returns-in_ok-take_part-in-Some-clause-read : goal.returns-in_ok-take_part-in-Some-clause-read
returns-in_ok-take_part-in-Some-clause-read g c more =
    let o = (g.D.Disk.disk c.args.disk.now).content in
    let a = c.args in
    let p = a.self.now.reader in
    let placed = placed_by c.in-Some.part in
    let same : c.pass_part.new.self.region ≡ p.region = c.pass_part.ensures.same.region in
    weaker_told o (IsPieceOf p.pieces) (ReadsOnBy a.cuts.now a.low a.self.now c.take_part.new.self) c.requires.ready.told
    (λ files piece instance cuts lowest n low most journal way.
    let next = subst (λ (x : Reader). IsNextRecord files p.region x journal placed) (sym c.take_part.ensures.same) (c.in-Some.ensures.passed files piece journal way.at) in
    let keeps = subst (λ (r : ℕ). Keeps files instance lowest r n a.self.now.kept journal) (sym same) (all_kept files instance lowest n a.self.now journal c.requires.none way) in
    let sign = subst (λ (r : ℕ). IsSignOf files r placed next.what) (sym same) next.sign in
    step_read files instance lowest n a.low a.self.now c.take_part.new.self journal placed c.requires.none (ap (λ (x : Reader). x.region) c.take_part.ensures.same ∙ same) next
    (c.in_ok-take_part-in-Some.ensures.taken more files instance cuts lowest n low most journal next.what next.drawn sign next.offset keeps))

pub returns-in-None-clause-read : goal.returns-in-None-clause-read
returns-in-None-clause-read g c =
    let o = (g.D.Disk.disk c.args.disk.now).content in
    let a = c.args in
    subst (λ (p : Reader). IfOk c.step_on.result (λ more. IsTrue more → IfSome o (ReadsOnBy a.cuts.now a.low (record a.self.now { reader = p }) c.step_on.new.self))) (c.in-None.ensures.none refl) c.step_on.ensures.read
