use Rattle.std.proofs.Common.{List, subst}
use Rattle.std.specs.Prelude.{IfOk, IfErr}
use Rattle.journal_defs.specs.Leaves.{Cell}
use Rattle.block_fmt.specs.Cells.{StandsIn, BelongsAt}
use Rattle.gvt_leaf.proofs.chain.Chain.put.Goals as goal

pub put_at-requires-clause-found : goal.put_at-requires-clause-found
put_at-requires-clause-found c = subst (λ (l : List Cell). IfOk c.find-place.result (StandsIn l c.args.key.now)) c.leaf.ensures c.find-place.ensures.found

pub put_at-requires-clause-place : goal.put_at-requires-clause-place
put_at-requires-clause-place c = subst (λ (l : List Cell). IfErr c.find-place.result (BelongsAt l c.args.key.now)) c.leaf.ensures c.find-place.ensures.place
