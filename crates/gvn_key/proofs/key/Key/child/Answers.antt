use Rattle.std.proofs.Common.{◌≡◌, [], ◌∷◌, ◌++◌, sym, ap, ◌∙◌, append_assoc, append-nil}
use Rattle.std.specs.List.{flat_map}
use Rattle.std.proofs.lemmas.Result.{IfOk-weaker}
use Rattle.std.proofs.lemmas.Grind.{flat_map-append}
use Rattle.global_defs.specs.Key.{Key, Sub, sub_of}
use Rattle.global_defs.specs.Encoded.{encoded, encoded_sub}
use Rattle.gvn_key.specs.Faults.{child_of}
use Rattle.gvn_key.proofs.Kept.{kept, read_known}
use Rattle.gvn_key.proofs.key.Key.child.Goals as goal
use Rattle.gvn_key.proofs.key.Key.child.Goals.{In_ok-push_sub}

code_child : (k : Key) (s : Sub) → encoded (child_of k s) ≡ encoded k ++ encoded_sub s
code_child k s =
    ap (λ l. k.name ++ 0 ∷ l) (flat_map-append encoded_sub k.subs (s ∷ []) ∙ ap (λ l. flat_map encoded_sub k.subs ++ l) (append-nil (encoded_sub s)))
    ∙ sym (append_assoc k.name (0 ∷ flat_map encoded_sub k.subs) (encoded_sub s))

whole : (c : In_ok-push_sub) → c.push_sub.new.out ≡ encoded (child_of c.args.self.now (sub_of c.args.sub.now))
whole c =
    c.in_ok-push_sub.ensures ∙ ap (λ l. l ++ encoded_sub (sub_of c.args.sub.now)) (c.in_ok-code.ensures ∙ c.deref-2.ensures ∙ c.self.invariant.encodes ∙ ap encoded c.self.view_is)
    ∙ sym (code_child c.args.self.now (sub_of c.args.sub.now))

pub made-requires : goal.made-requires
made-requires c = kept c.push_sub.new.out (child_of c.args.self.now (sub_of c.args.sub.now), c.requires, whole ((goal.at.made-requires c).In_ok-push_sub))

pub returns : goal.returns
returns c =
    let is = read_known c.push_sub.new.out (child_of c.args.self.now (sub_of c.args.sub.now)) c.requires (whole ((goal.at.returns c).In_ok-push_sub)) in
    IfOk-weaker c.made.result _ _ (λ _ e. e ∙ is) c.made.ensures
