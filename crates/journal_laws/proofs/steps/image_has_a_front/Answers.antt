use Rattle.journal_laws.proofs.ImageSteps as images
use Rattle.journal_laws.proofs.RecordSteps as records
use Rattle.journal_laws.proofs.steps.image_has_a_front.Goals as goal

pub returns : goal.returns
returns c = record { cut = records.cut; entries_appended = images.entries_appended }
