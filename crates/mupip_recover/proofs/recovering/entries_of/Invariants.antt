use Rattle.std.proofs.Common.{◌≡◌, length, map}
use Rattle.std.specs.List.{enumerate_from}
use Rattle.journal_defs.specs.Sequence.{EntriesFrom}
use Rattle.gvn_model.specs.Reigns.{reign_value}
use Rattle.mupip_recover.specs.Entries.{entry_at}
use Rattle.mupip_recover.proofs.recovering.entries_of.Given as goal

abbrev pub invariant-loop-place : goal.invariant-loop-place
invariant-loop-place l = record {
  each : EntriesFrom (entry_at l.table (map reign_value l.reigns)) 1 (map (λ e. e.1) l.made);
  long : length l.made ≡ l.place;
  numbered : l.made ≡ enumerate_from 1 (map (λ e. e.1) l.made);
}
