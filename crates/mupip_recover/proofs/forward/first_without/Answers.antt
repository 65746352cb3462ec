use Rattle.std.proofs.Common.{◌≡◌, ℕ, List, map, drop, ◌∙◌, ap}
use Rattle.std.specs.List.{find}
use Rattle.std.specs.Ordering.{nat_cmp}
use Rattle.std.specs.BTreeSet.{contains}
use Rattle.std.proofs.lemmas.List.{drop_min}
use Rattle.jnl_record.specs.declared.placed.PlacedRecord.{PlacedRecord}
use Rattle.jnl_record.specs.Values.{placed_value}
use Rattle.mupip_recover.proofs.Without.{first_found}
use Rattle.mupip_recover.proofs.forward.first_without.Goals as goal

pub returns : goal.returns
returns c =
    let xs = c.args.journal.now in
    let s = c.in_ok-generations.generations in
    let behind : c.split_at.result.1.now ≡ drop c.args.epoch.after xs =
    c.split_at.ensures.back ∙ ap (λ (n : ℕ). drop n xs) c.min.ensures ∙ drop_min c.args.epoch.after xs in
    record {
      first = c.first_among.ensures ∙ ap (λ (ps : List PlacedRecord). find (contains nat_cmp s) (map (λ p. p.generation) ps)) behind
          ∙ first_found (map placed_value xs) s (drop c.args.epoch.after xs) c.in_ok-generations.ensures;
    }
