use Rattle.std.proofs.Common.{◌≡◌, ◌++◌, length, map}
use Rattle.std.specs.Option.{option_map}
use Rattle.std.specs.Vec.Iter.{into_iter_items, into_iter_len}
use Rattle.gvn_key.specs.Terms.{update_value}
use Rattle.mupip_recover.specs.Slots.{all_of}
use Rattle.mupip_recover.proofs.slots.updates_in.Given as goal

abbrev pub invariant-loop-slot : goal.invariant-loop-slot
invariant-loop-slot l = record {
  left : into_iter_len l.slot-iterator ≡ length (into_iter_items l.slot-iterator);
  found : option_map (λ xs. l.updates ++ xs) (all_of (map (option_map update_value) (into_iter_items l.slot-iterator))) ≡ all_of (map (option_map update_value) l.fn.slots.items);
}
