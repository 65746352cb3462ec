use Rattle.std.proofs.Common.{◌≡◌, ℕ, List, map, drop, ◌∙◌, ap}
use Rattle.std.specs.List.{find}
use Rattle.std.specs.Ordering.{nat_cmp}
use Rattle.std.specs.BTreeSet.{contains}
use Rattle.std.proofs.lemmas.List.{drop_min}
use Rattle.entry_index.specs.declared.placed.PlacedSign.{PlacedSign}
use Rattle.region_opening.proofs.Said.{said_behind}
use Rattle.region_opening.proofs.Without.{first_found}
use Rattle.region_opening.proofs.forward.first_without.Goals as goal

pub returns : goal.returns
returns c =
    let ss = c.args.signs.now in
    let made = c.in_ok-generations.generations in
    let behind : c.split_at.result.1.now ≡ drop c.args.epoch.after ss =
    c.split_at.ensures.back ∙ ap (λ (n : ℕ). drop n ss) c.min.ensures ∙ drop_min c.args.epoch.after ss in
    record {
      first = λ journal say.
          c.first_among.ensures ∙ ap (λ (ps : List PlacedSign). find (contains nat_cmp made) (map (λ p. p.generation) ps)) behind
          ∙ first_found ss journal made (drop c.args.epoch.after ss) (drop c.args.epoch.after journal) say c.in_ok-generations.ensures (said_behind ss journal c.args.epoch.after say);
    }
