use Rattle.std.proofs.Common.{sym, ◌∙◌, ap}
use Rattle.std.proofs.lemmas.List.Folds.{list_all-map}
use Rattle.std.specs.List.{list_all}
use Rattle.journal_defs.specs.Surviving.{spares}
use Rattle.instance_file.specs.Values.{record_value}
use Rattle.mupip_recover.proofs.surviving.survives.Goals as goal

pub returns : goal.returns
returns c =
    c.all_spare.ensures
    ∙ sym (list_all-map (spares c.args.generation c.args.number) record_value c.as_slice.result.now)
    ∙ ap (list_all (spares c.args.generation c.args.number)) c.as_slice.ensures
