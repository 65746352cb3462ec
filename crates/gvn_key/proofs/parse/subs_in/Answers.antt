use Rattle.std.proofs.Common.{subst}
use Rattle.gvn_key.specs.KeyText.{ReadsSubs}
use Rattle.gvn_key.proofs.Parsing.{behind_bracket}
use Rattle.gvn_key.proofs.parse.subs_in.Goals as goal

pub returns-then-byte-eq40 : goal.returns-then-byte-eq40
returns-then-byte-eq40 c = subst (λ r. ReadsSubs (λ v. v.items) r c.subs_at.result) (behind_bracket c.args.tail.now c.in-len1-up.len_at_least c.if-byte-eq40.true) c.subs_at.ensures
