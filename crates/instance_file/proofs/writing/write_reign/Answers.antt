use Rattle.std.proofs.Common.{◌++◌, ◌∷◌, [], ◌∙◌, ap, append_assoc}
use Rattle.std.specs.Int.{to_be_bytes, w32, w64}
use Rattle.std.proofs.lemmas.Result.{on_ok_weaker}
use Rattle.global_defs.specs.Fields.{short}
use Rattle.repl_fields.proofs.Pushes.{then, three}
use Rattle.instance_file.proofs.writing.write_reign.Goals as goal

pub returns : goal.returns
returns c =
    let out = c.args.out.now in
    let r = c.args.reign.now in
    let front = three out c.push.new.self c.write_short.new.out c.push_all.new.self (2 ∷ []) (short c.as_slice.result.now) c.to_be_bytes.result c.in_ok-push.ensures.ok c.in_ok-write_short.ensures.ok c.in_ok-push_all.ensures.ok in
    on_ok_weaker c.push_all-2.result
    (λ e. then _ _ _ _ _ front e
    ∙ (λ i. out ++ ((((2 ∷ []) ++ short (c.as_slice.ensures i)) ++ c.to_be_bytes.ensures i) ++ c.to_be_bytes-2.ensures i))
    ∙ ap (λ x. out ++ x) (append_assoc (2 ∷ short r.stamp.root) (to_be_bytes w32 r.stamp.cycle) (to_be_bytes w64 r.start)))
    c.push_all-2.ensures.ok
