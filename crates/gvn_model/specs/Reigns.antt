-- What stamps, reigns and histories of the code stand for.
use Rattle.global_defs.specs.Entry as defs
use Rattle.gvn_model.specs.declared.reign.Stamp.{Stamp}
use Rattle.gvn_model.specs.declared.reign.Reign.{Reign}

abbrev pub stamp_value : Stamp → defs.Stamp
stamp_value s = record { root = s.root; cycle = s.cycle }

abbrev pub reign_value : Reign → defs.Reign
reign_value r = record { stamp = stamp_value r.stamp; start = r.start }
