use Rattle.session_turns.proofs.Ordered.{in_order}
use Rattle.session_turns.proofs.laws.sessions_are_in_order.Goals as goal

pub returns : goal.returns
returns c = in_order
