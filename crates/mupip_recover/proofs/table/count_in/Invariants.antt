use Rattle.std.proofs.Common.{◌≡◌, ◌≤◌, take, count_by}
use Rattle.jnl_record.specs.Values.{record_value}
use Rattle.mupip_recover.specs.Parts.{is_part}
use Rattle.mupip_recover.proofs.table.count_in.Given as goal

abbrev pub invariant-loop-placed : goal.invariant-loop-placed
invariant-loop-placed l = record {
  counted : l.count ≡ count_by (λ p. is_part (record_value p.what)) (take l.placed-index l.journal);
  bound : l.count ≤ l.placed-index;
}
