use Rattle.journal_laws.proofs.ImageSteps as images
use Rattle.journal_laws.proofs.RecordSteps as records
use Rattle.journal_laws.proofs.steps.image_keeps_its_sequence.Goals as goal

pub returns : goal.returns
returns c = record {
  same = images.same_image;
  written = images.written;
  journal_record = records.journal_record;
  epoch = records.epoch;
  reign = records.reign;
  instance_record = records.instance_record;
}
