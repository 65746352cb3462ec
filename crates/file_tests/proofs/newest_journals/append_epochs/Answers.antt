use Rattle.file_tests.proofs.newest_journals.append_epochs.Goals as goal

pub append_records-requires-clause-ready : goal.append_records-requires-clause-ready
append_records-requires-clause-ready g c = (1, c.requires)

pub returns : goal.returns
returns g c = c.in_ok-append_records.ensures.ready 1 c.requires
