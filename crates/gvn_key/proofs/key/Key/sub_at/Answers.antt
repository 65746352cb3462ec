use Rattle.std.proofs.Common.{◌≡◌, ℕ, List, drop, option_map, sym, ap, ◌∙◌}
use Rattle.std.specs.List.{flat_map}
use Rattle.std.proofs.lemmas.Result.{IfOk-weaker}
use Rattle.global_defs.specs.Key.{sub_of}
use Rattle.global_defs.specs.Encoded.{encoded_sub}
use Rattle.gvn_key.specs.Decoding.{sub_end, first_read}
use Rattle.gvn_key.proofs.Below.{first_back}
use Rattle.gvn_key.proofs.Walks.{all_behind}
use Rattle.gvn_key.proofs.key.Key.sub_at.Goals as goal

pub returns : goal.returns
returns c =
    let subs = c.args.self.now.subs in
    let valid = c.subs_code.ensures.valid in
    let behind : c.behind.result.now ≡ flat_map encoded_sub (drop c.args.place subs) = c.behind.ensures subs valid (sym c.subs_code.ensures.value) in
    IfOk-weaker c.first_sub.result _ _
    (λ sub r. ap (option_map sub_of) (r ∙ ap (λ (x : List ℕ). first_read (sub_end x) x) behind) ∙ first_back (drop c.args.place subs) (all_behind c.args.place subs valid))
    c.first_sub.ensures
