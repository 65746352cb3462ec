use Rattle.source_server.proofs.Made.{from_push, from_all}
use Rattle.source_server.proofs.laws.entries_stay.Goals as goal

pub returns-clause-kept : goal.returns-clause-kept
returns-clause-kept g c = λ a b. from_all (g.E.EntrySource.is_entry a) (g.E.EntrySource.is_entry b)

pub returns-clause-more : goal.returns-clause-more
returns-clause-more g c = λ a from entry entries. from_push (g.E.EntrySource.is_entry a) from entries entry
