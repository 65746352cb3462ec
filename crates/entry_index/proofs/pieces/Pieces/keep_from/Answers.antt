use Rattle.std.proofs.Common.{◌≤◌, ◌<◌, ℕ, List, take, ap, ◌∙◌, arith}
use Rattle.entry_index.specs.Pieces.{HasBytes}
use Rattle.entry_index.proofs.Cuts.{kept_is}
use Rattle.entry_index.proofs.pieces.Pieces.keep_from.Goals as goal

pub returns-then-held-gt0-clause-bytes : goal.returns-then-held-gt0-clause-bytes
returns-then-held-gt0-clause-bytes c files is =
    let p = c.args.self.now in
    let at = c.args.at in
    let n = c.min-held.result in
    let some : 0 < n = c.if-held-gt0.true in
    let least : n ≤ c.held.result = omega (arith, c.min-held.ensures) in
    let all = c.held.ensures.has (omega (arith, least, some)) in
    let has : HasBytes p at n = record {
      from = all.from;
      to = omega (arith, all.to, least);
    } in
    ap (λ (l : List ℕ). take n l) c.copy_within.ensures.items ∙ kept_is p files at n has is

pub returns-then-held-gt0-clause-all : goal.returns-then-held-gt0-clause-all
returns-then-held-gt0-clause-all c n most has = omega (arith, most, c.held.ensures.all n has, c.min-held.ensures)

pub returns-else-held-gt0-clause-all : goal.returns-else-held-gt0-clause-all
returns-else-held-gt0-clause-all c n most has = omega (arith, most, c.held.ensures.all n has, c.min-held.ensures)
