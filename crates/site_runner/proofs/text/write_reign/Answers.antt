use Rattle.std.proofs.Common.{◌++◌, ◌∙◌, ℕ, List, ap}
use Rattle.std.specs.Fmt.{decimal}
use Rattle.site_runner.proofs.Written.{reign_written}
use Rattle.site_runner.proofs.text.write_reign.Goals as goal
use Rattle.repl_section.proofs.Results.{on_ok}

pub returns : goal.returns
returns c =
    let r = c.args.reign.now in
    on_ok c.push_all-6.result _ _ c.push_all-6.ensures.ok (reign_written c.args.text.now c.args.name.now r.stamp.root (decimal r.stamp.cycle) (decimal r.start) _ _ _ _ _ _ _ _
    c.in_ok-push_all.ensures.ok c.in_ok-push_all-2.ensures.ok (c.in_ok-push_all-3.ensures.ok ∙ ap (λ (x : List ℕ). c.push_all-2.new.self ++ x) c.as_slice.ensures) c.in_ok-push_all-4.ensures.ok (c.in_ok-push_decimal.ensures.ok ∙ ap (λ (k : ℕ). c.push_all-4.new.self ++ decimal k) c.from.ensures) c.in_ok-push_all-5.ensures.ok c.in_ok-push_decimal-2.ensures.ok)
