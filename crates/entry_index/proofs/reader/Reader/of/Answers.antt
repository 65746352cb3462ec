use Rattle.std.proofs.Common.{refl}
use Rattle.jnl_file.proofs.Newer.{all_told}
use Rattle.entry_index.proofs.Readers.{at_start}
use Rattle.entry_index.proofs.reader.Reader.of.Goals as goal

pub returns-clause-begun : goal.returns-clause-begun
returns-clause-begun g c = all_told (g.D.Disk.disk c.args.disk.now).content _ (λ files. at_start files _ refl refl refl refl)
