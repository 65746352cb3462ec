use Rattle.std.proofs.Common.{ℕ, List, ◌∙◌, ap, subst, arith}
use Rattle.journal_defs.specs.Sequence.{entry_among}
use Rattle.mupip_recover.specs.Entries.{entry_in}
use Rattle.mupip_recover.proofs.Completion.{among_next}
use Rattle.entry_index.specs.declared.completing.Told.{Told}
use Rattle.entry_index.specs.Completing.{IsTold}
use Rattle.entry_index.proofs.Complete.{told_first, past_regions}
use Rattle.entry_index.proofs.completing.told_at.Goals as goal

pub returns-in_default : goal.returns-in_default
returns-in_default c = λ files n part are stamp.
    let r = c.loop-region.region in
    told_first part stamp r c.told_in.result (omega arith) (c.loop-region.invariant files n part are stamp) (c.told_in.ensures files n part are stamp) c.in_default.not-Broken

pub loop-region-preserved : goal.loop-region-preserved
loop-region-preserved c = λ files n part are stamp.
    let r = c.loop-region.region in
    c.loop-region.invariant files n part are stamp
    ∙ among_next part stamp r (omega arith) (subst (λ (t : Told). IsTold t (entry_in part stamp r)) c.in-Broken.is (c.told_in.ensures files n part are stamp))

pub returns : goal.returns
returns c = λ files n part are stamp.
    c.loop-region.invariant files n part are stamp ∙ ap (λ (l : List ℕ). entry_among part stamp l) (past_regions c.loop-region.region (omega arith))
