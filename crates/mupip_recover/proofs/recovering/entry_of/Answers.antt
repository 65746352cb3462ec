use Rattle.std.proofs.Common.{Some, map, sym, ◌∙◌, ap}
use Rattle.std.specs.Option.{option_map}
use Rattle.gvn_model.specs.Reigns.{stamp_value, reign_value}
use Rattle.mupip_recover.specs.Entries.{stamped}
use Rattle.mupip_recover.proofs.Runs.{entry_is}
use Rattle.mupip_recover.proofs.recovering.entry_of.Goals as goal

pub returns-in_default-2-clause-entry : goal.returns-in_default-2-clause-entry
returns-in_default-2-clause-entry c =
    let s = stamp_value c.in-Some.stamp.now in
    sym (entry_is c.args.table.now (map reign_value c.args.reigns.now) c.args.place (Some s) (ap (option_map (λ x. stamp_value x.now)) (sym c.in-Some.is) ∙ c.stamp_at.ensures)
    ∙ c.in_ok-transaction.ensures s ∙ ap (option_map (stamped s)) c.in_default-2.is)

pub returns-clause-entry : goal.returns-clause-entry
returns-clause-entry c =
    let s = stamp_value c.in-Some.stamp.now in
    ap (λ x. Some (stamped (stamp_value x) c.in-Some-2.transaction)) c.in_ok-copy.ensures
    ∙ sym (entry_is c.args.table.now (map reign_value c.args.reigns.now) c.args.place (Some s) (ap (option_map (λ x. stamp_value x.now)) (sym c.in-Some.is) ∙ c.stamp_at.ensures)
    ∙ c.in_ok-transaction.ensures s ∙ ap (option_map (stamped s)) c.in-Some-2.is)
