use Rattle.std.proofs.Common.{◌≡◌, ℕ, List, IfSome, sym, ◌∙◌, ap, subst}
use Rattle.disk_defs.proofs.Told.{weaker_told}
use Rattle.journal_defs.specs.Sequence.{Placed}
use Rattle.entry_index.specs.Places.{IsSignOf}
use Rattle.entry_index.specs.Cursors.{IsAt, IsNextRecord, Stepped, ReadsOnBy, Keeps}
use Rattle.entry_index.specs.declared.reader.Reader.{Reader}
use Rattle.entry_index.specs.declared.reader.Step.{Step}
use Rattle.entry_index.specs.declared.reader.Step.TheVariants.{Read}
use Rattle.entry_index.proofs.Cursors.{all_kept, step_read}
use Rattle.entry_index.proofs.cursor.Cursor.step_on.Goals as goal

pub returns-in_ok-take-in-Read-clause-read : goal.returns-in_ok-take-in-Read-clause-read
returns-in_ok-take-in-Read-clause-read g c more =
    let o = (g.D.Disk.disk c.args.disk.now).content in
    let a = c.args in
    let p = a.self.now.reader in
    let q = c.step.new.self in
    let placed = c.in-Read.placed in
    let same : q.region ≡ p.region = c.step.ensures.same.region in
    weaker_told o (λ files. (journal : List Placed) → IsAt files p journal → Stepped files p.region q journal (Read placed))
    (ReadsOnBy a.cuts.now a.low a.self.now c.take.new.self)
    (subst (λ (s : Step). IfSome o (λ files. (journal : List Placed) → IsAt files p journal → Stepped files p.region q journal s)) c.in-Read.is c.in_ok-placed.ensures.stepped)
    (λ files step instance cuts lowest n low most journal way.
    let next = subst (λ (x : Reader). IsNextRecord files p.region x journal placed) (sym c.take.ensures.same) (step journal way.at) in
    let keeps = subst (λ (r : ℕ). Keeps files instance lowest r n a.self.now.kept journal) (sym same) (all_kept files instance lowest n a.self.now journal c.requires.none way) in
    let sign = subst (λ (r : ℕ). IsSignOf files r placed next.what) (sym same) next.sign in
    step_read files instance lowest n a.low a.self.now c.take.new.self journal placed c.requires.none (ap (λ (x : Reader). x.region) c.take.ensures.same ∙ same) next
    (c.in_ok-take-in-Read.ensures.taken more files instance cuts lowest n low most journal next.what next.drawn sign next.offset keeps))
