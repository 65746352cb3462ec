use Rattle.std.proofs.Common.{◌++◌, ◌∙◌, ℕ, ap}
use Rattle.std.specs.Fmt.{decimal}
use Rattle.site_runner.proofs.Written.{open_written}
use Rattle.site_runner.proofs.text.write_open.Goals as goal
use Rattle.repl_section.proofs.Results.{on_ok}

pub returns : goal.returns
returns c = on_ok c.push_all-4.result _ _ c.push_all-4.ensures.ok (open_written c.args.text.now c.args.name.now (decimal c.args.cycle) (decimal c.args.length) _ _ _ _ _ _ c.in_ok-push_all.ensures.ok c.in_ok-push_all-2.ensures.ok (c.in_ok-push_decimal.ensures.ok ∙ ap (λ (k : ℕ). c.push_all-2.new.self ++ decimal k) c.from.ensures) c.in_ok-push_all-3.ensures.ok c.in_ok-push_decimal-2.ensures.ok)
