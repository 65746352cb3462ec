use Rattle.site_files.proofs.Kept.{held_read}
use Rattle.site_files.proofs.laws.reading_gives_the_records.Goals as goal

pub returns : goal.returns
returns c = held_read
