use Rattle.file_tests.proofs.newest_journals.harden.Goals as goal

pub harden-requires : goal.harden-requires
harden-requires g c = record { ready = (1, c.requires) }

pub returns : goal.returns
returns g c = c.in_ok-harden.ensures.ready 1 c.requires
