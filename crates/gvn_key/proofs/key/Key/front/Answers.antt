use Rattle.std.proofs.Common.{◌≡◌, length, drop, sym, ap, ◌∙◌}
use Rattle.std.specs.List.{flat_map}
use Rattle.std.proofs.lemmas.Result.{IfOk-weaker}
use Rattle.global_defs.specs.Encoded.{encoded, encoded_sub}
use Rattle.gvn_key.specs.Faults.{front_of}
use Rattle.gvn_key.proofs.Kept.{kept, read_known}
use Rattle.gvn_key.proofs.Walks.{front_cut, front_valid, left_fits}
use Rattle.gvn_key.proofs.key.Key.front.Goals as goal
use Rattle.gvn_key.proofs.key.Key.front.Goals.{After-behind-left, In_ok-of}

left_is : (c : After-behind-left) → length c.behind-left.result.now ≡ length (flat_map encoded_sub (drop c.args.count c.args.self.now.subs))
left_is c = ap length (c.behind-left.ensures c.args.self.now.subs c.subs_code.ensures.valid (sym c.subs_code.ensures.value))

pub overflow_sub-end : goal.overflow_sub-end
overflow_sub-end c = left_fits c.args.count (length c.behind-left.result.now) c.args.self.now c.as_encoded-code.result.now c.as_encoded-code.ensures.value (left_is ((goal.at.overflow_sub-end c).After-behind-left))

front_is : (c : In_ok-of) → c.in_ok-of.field-0 ≡ encoded (front_of c.args.count c.args.self.now)
front_is c =
    c.in_ok-of.ensures
    ∙ front_cut c.args.count (length c.behind-left.result.now) c.args.self.now c.as_encoded-code.result.now c.as_encoded-code.ensures.value
    (ap length (c.behind-left.ensures c.args.self.now.subs c.subs_code.ensures.valid (sym c.subs_code.ensures.value)))

pub made-requires : goal.made-requires
made-requires c = kept c.in_ok-of.field-0 (front_of c.args.count c.args.self.now, front_valid c.args.count c.args.self.now c.as_encoded-code.ensures.valid, front_is ((goal.at.made-requires c).In_ok-of))

pub returns : goal.returns
returns c =
    let is = read_known c.in_ok-of.field-0 (front_of c.args.count c.args.self.now) (front_valid c.args.count c.args.self.now c.as_encoded-code.ensures.valid) (front_is ((goal.at.returns c).In_ok-of)) in
    IfOk-weaker c.made.result _ _ (λ _ e. e ∙ is) c.made.ensures
