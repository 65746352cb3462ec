use Rattle.std.proofs.Common.{◌≡◌, take, count_by, sum_by}
use Rattle.jnl_record.specs.Values.{record_value}
use Rattle.mupip_recover.specs.Parts.{is_part}
use Rattle.mupip_recover.proofs.table.count_all.Given as goal

abbrev pub invariant-loop-journal : goal.invariant-loop-journal
invariant-loop-journal l = l.count ≡ sum_by (λ j. count_by (λ p. is_part (record_value p.what)) j.items) (take l.journal-index l.journals)
