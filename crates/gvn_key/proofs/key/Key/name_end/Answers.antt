use Rattle.std.proofs.Common.{length, sym, ◌∙◌}
use Rattle.gvn_key.proofs.KeyRead.{end_known}
use Rattle.gvn_key.proofs.Subscripts.{same_place}
use Rattle.gvn_key.proofs.key.Key.name_end.Goals as goal

pub returns-clause-end : goal.returns-clause-end
returns-clause-end c =
    same_place c.in-Some.end (length c.args.self.now.name)
    (sym c.in-Some.is ∙ c.place.ensures.place ∙ end_known c.as_encoded.result.now c.args.self.now c.as_encoded.ensures.valid (sym c.as_encoded.ensures.value))

pub unreachable-requires : goal.unreachable-requires
unreachable-requires c = let end = end_known c.as_encoded.result.now c.args.self.now c.as_encoded.ensures.valid (sym c.as_encoded.ensures.value) in cc
