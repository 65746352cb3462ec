use Rattle.entry_index.proofs.Passing.{set_passed, kill_passed, zkill_passed}
use Rattle.entry_index.proofs.updates.past_kind.Goals as goal

pub returns-in-1 : goal.returns-in-1
returns-in-1 c = rw c.in-1.is (set_passed _ _ c.past_pair.ensures)

pub returns-in-2 : goal.returns-in-2
returns-in-2 c = rw c.in-2.is (kill_passed _ _ c.past_key.ensures)

pub returns-in-3 : goal.returns-in-3
returns-in-3 c = rw c.in-3.is (zkill_passed _ _ c.past_key-in-3.ensures)
