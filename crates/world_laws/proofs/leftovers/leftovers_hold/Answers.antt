use Rattle.world_laws.proofs.StandsForOne as files
use Rattle.world_laws.proofs.leftovers.leftovers_hold.Goals as goal

pub returns : goal.returns
returns c = record {
  there = files.left_there;
  one = files.left_one;
  behind = files.left_behind;
  unbegun = files.left_unbegun;
  reads = files.left_reads;
}
