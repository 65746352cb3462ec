use Rattle.command_defs.proofs.SectionLaws.{section_goes, section_continues, section_ends, section_ended}
use Rattle.command_defs.proofs.laws.sections_are_read_as_spelled.Goals as goal

pub returns-clause-goes : goal.returns-clause-goes
returns-clause-goes c = section_goes

pub returns-clause-continues : goal.returns-clause-continues
returns-clause-continues c = section_continues

pub returns-clause-ends : goal.returns-clause-ends
returns-clause-ends c = section_ends

pub returns-clause-ended : goal.returns-clause-ended
returns-clause-ended c = section_ended
