use Rattle.region_store.proofs.Marking as marking
use Rattle.region_store.proofs.laws.flushing_holds.Goals as goal

pub returns : goal.returns
returns c = record { may_append = marking.may_append; cut_short = marking.cut_keeps; comes_back = marking.comes_back }
