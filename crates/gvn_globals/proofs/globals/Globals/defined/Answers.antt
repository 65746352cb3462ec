use Rattle.std.proofs.Common.{◌+◌, is_some, if◌then◌else◌, ap, ◌∙◌}
use Rattle.std.specs.FinMap as globals
use Rattle.global_defs.specs.Entry.{is_under}
use Rattle.gvn_globals.specs.Walks.{tested}
use Rattle.gvn_globals.proofs.Found.{below_found}
use Rattle.gvn_globals.proofs.globals.Globals.defined.Goals as goal

pub returns : goal.returns
returns c =
    ap (λ n. n + c.tens.result) (c.ones.ensures ∙ ap (λ o. if is_some o then 1 else 0) c.get.ensures)
    ∙ ap (λ n. (if globals.contains_key c.args.self.now c.args.key.now then 1 else 0) + n)
    (c.tens.ensures ∙ ap (λ o. if is_some (tested (is_under c.args.key.now) o) then 10 else 0) c.past.ensures.first ∙ ap (λ b. if b then 10 else 0) (below_found c.args.self.now c.args.key.now))
