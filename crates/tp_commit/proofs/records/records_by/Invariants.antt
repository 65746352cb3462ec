use Rattle.std.proofs.Common.{◌≡◌, List, map, option_map}
use Rattle.global_defs.specs.Entry.{Item}
use Rattle.gvn_model.specs.Entries.{transaction_value}
use Rattle.journal_defs.specs.Split.{with_items}
use Rattle.jnl_record.specs.Values.{record_value}
use Rattle.tp_commit.specs.Parts.{recorded}
use Rattle.tp_commit.proofs.records.records_by.Given as goal

-- the records so far
abbrev pub invariant-loop-items : goal.invariant-loop-items
invariant-loop-items l = map (λ x. option_map record_value x) l.records.items ≡ map (λ (xs : List Item). recorded (with_items l.number l.mask (transaction_value l.t) xs)) l.yielded
