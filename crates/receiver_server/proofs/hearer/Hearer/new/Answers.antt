use Rattle.std.proofs.Common.{◌≡◌, option_map, None, Some, sym, ap, ◌∙◌}
use Rattle.std.specs.List.{last_or}
use Rattle.global_defs.specs.Rising.{begun_by}
use Rattle.gvn_model.specs.declared.reign.Reign.{Reign}
use Rattle.gvn_model.specs.Reigns.{reign_value}
use Rattle.receiver_server.proofs.Knows.{begun_last}
use Rattle.receiver_server.proofs.hearer.Hearer.new.Goals as goal
use Rattle.receiver_server.proofs.hearer.Hearer.new.Goals.{in-Some+in_ok-copy-in-Some, in-None}

pub invariant_of-result : goal.invariant_of-result
invariant_of-result c =
    let n = c.args.mine.now.length in
    let rs = c.args.mine.now.reigns in
    let last : option_map (λ r. reign_value r.now) c.begun-reigns.result.1 ≡ last_or None (begun_by n rs) = c.begun-reigns.ensures.last ∙ ap (λ l. last_or None (begun_by n l)) c.as_slice.ensures in
    let is : option_map reign_value c.match-last.reign ≡ last_or None (begun_by n rs) = elim c.match-last.branch [
      | in-Some+in_ok-copy-in-Some w ↦ ap (option_map reign_value) w.reign-is ∙ (ap (λ (r : Reign). Some (reign_value r)) w.in_ok-copy-in-Some.ensures ∙ (sym (ap (option_map (λ r. reign_value r.now)) w.in-Some.is) ∙ last))
      | in-None w ↦ ap (option_map reign_value) w.reign-is ∙ (sym (ap (option_map (λ r. reign_value r.now)) w.in-None.is) ∙ last)
    ] in
    record { few = c.requires.few; reign = begun_last n rs c.requires.form (option_map reign_value c.match-last.reign) is; last = tt }
