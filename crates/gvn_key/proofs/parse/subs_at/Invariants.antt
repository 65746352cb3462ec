use Rattle.std.proofs.Common.{◌≡◌, ◌-◌}
use Rattle.global_defs.specs.declared.limits.TheConstants.{MOST_SUBS}
use Rattle.gvn_key.specs.KeyText.{fronted, subs_at}
use Rattle.gvn_key.proofs.parse.subs_at.Given as goal

-- the subscripts so far and those of the rest make the whole
abbrev pub invariant-loop : goal.invariant-loop
invariant-loop l = fronted l.subs.items (subs_at (31 - l.counter) l.rest) ≡ subs_at MOST_SUBS l.text
