use Rattle.std.proofs.Common.{◌≡◌, ◌+◌, map, Option, Some, IfSome, sym, ◌∙◌, ap, subst}
use Rattle.gvn_model.specs.declared.entry.Entry.{Entry}
use Rattle.std.specs.Option.{option_map}
use Rattle.gvn_model.specs.Entries.{entry_value}
use Rattle.gvn_model.specs.Reigns.{reign_value}
use Rattle.mupip_recover.specs.Entries.{entry_at}
use Rattle.mupip_recover.proofs.Runs.{grown}
use Rattle.mupip_recover.proofs.recovering.entries_of.Goals as goal

pub loop-place-preserved : goal.loop-place-preserved
loop-place-preserved c =
    let i = c.loop-place.invariant in
    let next : Some (entry_value c.in-Some.entry) ≡ entry_at c.args.table.now (map reign_value c.args.reigns.now) (c.loop-place.place + 1) =
    ap (option_map entry_value) (sym c.in-Some.is) ∙ c.in_ok-entry.ensures.entry in
    let number : c.in-Some.entry.number ≡ c.loop-place.place + 1 =
    subst (λ (o : Option Entry). IfSome o (λ e. e.number ≡ c.loop-place.place + 1)) c.in-Some.is c.in_ok-entry.ensures.number in
    let g = grown c.args.table.now (map reign_value c.args.reigns.now) c.loop-place.place c.loop-place.made c.push.new.self c.in-Some.entry.number (entry_value c.in-Some.entry)
    i.each i.long i.numbered number next c.in_ok-push.ensures.ok in
    record { each = g.0; long = g.1; numbered = g.2 }
