use Rattle.jnl_file.proofs.Walk.{from_start, from_next, from_last, from_inside}
use Rattle.jnl_file.proofs.laws.reading_gives_the_records.Goals as goal

pub returns : goal.returns
returns c = record { start = from_start; next = from_next; last = from_last; inside = from_inside }
