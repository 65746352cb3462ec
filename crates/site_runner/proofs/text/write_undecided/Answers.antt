use Rattle.std.specs.Fmt.{decimal}
use Rattle.site_runner.proofs.Written.{undecided}
use Rattle.site_runner.proofs.text.write_undecided.Goals as goal
use Rattle.repl_section.proofs.Results.{on_ok}

pub returns : goal.returns
returns c = on_ok c.push_all-4.result _ _ c.push_all-4.ensures.ok (undecided c.args.text.now c.args.name.now (decimal c.args.fault) (decimal c.args.undecided) _ _ _ _ _ _ c.in_ok-push_all.ensures.ok c.in_ok-push_all-2.ensures.ok c.in_ok-push_decimal.ensures.ok c.in_ok-push_all-3.ensures.ok c.in_ok-push_decimal-2.ensures.ok)
