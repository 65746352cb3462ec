-- What a record of the code stands for.
use Rattle.std.specs.Prelude.{map}
use Rattle.gvn_model.specs.Regions.{named_region}
use Rattle.journal_defs.specs.Instance as defs
use Rattle.gvn_model.specs.Reigns.{reign_value}
use Rattle.instance_file.specs.declared.record.InstanceRecord.{InstanceRecord}
use Rattle.instance_file.specs.declared.record.InstanceRecord.TheVariants.{Create, Reign, Cut, Map, Mode}

abbrev pub record_value : InstanceRecord → defs.InstanceRecord
record_value (Create name regions) = defs.Create name (map named_region regions)
record_value (Reign reign) = defs.Reigned (reign_value reign)
record_value (Cut length generation) = defs.Cut length generation
record_value (Map region star name) = defs.Map region star name
record_value (Mode region before) = defs.Mode region before
