use Rattle.command_defs.proofs.IgnoredLaws.{ignored_found, ignored_read}
use Rattle.command_defs.proofs.laws.blank_lines_and_comments_are_ignored.Goals as goal

pub returns-clause-found : goal.returns-clause-found
returns-clause-found c = ignored_found

pub returns-clause-only : goal.returns-clause-only
returns-clause-only c = λ p line h. ignored_read p h
