use Rattle.region_journals.proofs.Waiting.{tcoms_more}
use Rattle.region_journals.proofs.laws.parts_wait_as_tcoms.Goals as goal

pub returns : goal.returns
returns c = λ ps part parts r is. tcoms_more ps part parts r is
