use Rattle.run_laws.proofs.Cut as cut
use Rattle.run_laws.proofs.leftovers.cut_off_commands_keep_what_lies_behind.Goals as goal

pub returns : goal.returns
returns c = record { section = cut.section-cut; start = cut.start-cut; epoch = cut.epoch-cut; stop = cut.stop-cut; set_journal = cut.set-cut; recover = cut.backward-cut; recover_forward = cut.forward-cut; rollback = cut.rollback-cut }
