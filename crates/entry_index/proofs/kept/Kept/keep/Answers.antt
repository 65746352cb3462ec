use Rattle.std.proofs.Common.{◌≡◌, ◌∙◌, sym, ap}
use Rattle.entry_index.specs.declared.sign.Sign.{Sign}
use Rattle.entry_index.proofs.Thinning.{keeps_more, generation_behind, no_part_behind}
use Rattle.entry_index.proofs.kept.Kept.keep.Goals as goal
use Rattle.entry_index.proofs.kept.Kept.keep.Goals.{in-Tcom, in_default}

pub returns : goal.returns
returns c files instance lowest region n before x drawn is k =
    let p = c.args.placed in
    let behind : c.match-placed.self ≡ generation_behind p.sign p.generation = elim c.match-placed.branch [
      | in-Tcom w ↦ w.self-is ∙ sym (ap (λ (s : Sign). generation_behind s p.generation) w.in-Tcom.is)
      | in_default w ↦ w.self-is ∙ sym (no_part_behind p.sign p.generation w.in_default.not-Tcom)
    ] in
    keeps_more files instance lowest region n c.args.self.now (record { signs = c.push.new.self; behind = c.match-placed.self; least = c.args.self.now.least }) p before x c.in_ok-push.ensures.items behind drawn is k
