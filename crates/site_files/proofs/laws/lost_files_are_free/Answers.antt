use Rattle.site_files.proofs.LostFiles.{lost_changed}
use Rattle.site_files.proofs.laws.lost_files_are_free.Goals as goal

pub returns : goal.returns
returns c = lost_changed
