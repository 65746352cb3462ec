use Rattle.std.proofs.Common.{◌≡◌, ◌+◌, ◌-◌, ℕ, List, take, drop, ap, ◌∙◌, arith}
use Rattle.entry_index.proofs.Cuts.{shown_is}
use Rattle.entry_index.proofs.pieces.Pieces.shown.Goals as goal

pub returns-clause-value : goal.returns-clause-value
returns-clause-value c files is =
    let p = c.args.self.now in
    let off = c.args.at - p.start in
    let n = c.args.n in
    let many : off + n - off ≡ n = omega arith in
    ap (λ (k : ℕ). take k (drop off c.deref.result.now)) many ∙ ap (λ (l : List ℕ). take n (drop off l)) c.deref.ensures.value ∙ shown_is p files c.args.at n c.requires is
