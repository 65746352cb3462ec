use Rattle.session_turns.proofs.Ordered.{all_followed}
use Rattle.session_turns.proofs.laws.a_bye_tells_all.Goals as goal

pub returns : goal.returns
returns c = all_followed
