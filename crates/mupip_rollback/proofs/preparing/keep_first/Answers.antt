use Rattle.std.proofs.Common.{refl}
use Rattle.mupip_rollback.proofs.preparing.keep_first.Goals as goal

pub returns-clause-kept : goal.returns-clause-kept
returns-clause-kept c = record {
  name = refl;
  regions = refl;
  directory = refl;
  generation = refl;
  last_began = refl;
  entries = record { regions = c.truncate.ensures.regions; places = c.truncate.ensures.places };
  globals = refl;
}
