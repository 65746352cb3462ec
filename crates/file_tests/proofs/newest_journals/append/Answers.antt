use Rattle.file_tests.proofs.newest_journals.append.Goals as goal

pub append-requires-clause-ready : goal.append-requires-clause-ready
append-requires-clause-ready g c = (1, c.prepare.ensures.ready 1 c.requires)

pub returns : goal.returns
returns g c = c.in_ok-append.ensures.ready 1 (c.prepare.ensures.ready 1 c.requires)
