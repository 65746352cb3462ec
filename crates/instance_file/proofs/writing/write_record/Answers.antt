use Rattle.std.proofs.Common.{◌++◌, ◌∷◌, [], ◌∙◌}
use Rattle.std.proofs.lemmas.Result.{on_ok_weaker}
use Rattle.repl_fields.proofs.Pushes.{three}
use Rattle.instance_file.proofs.Bodies.{each_region}
use Rattle.instance_file.proofs.writing.write_record.Goals as goal

pub write_regions-requires : goal.write_regions-requires
write_regions-requires c =
    let form = rw c.in-Create.is at c.requires in
    rw c.as_slice-in-Create.ensures (each_region c.in-Create.regions form.3)

pub returns-in_ok-push_all-in-Cut : goal.returns-in_ok-push_all-in-Cut
returns-in_ok-push_all-in-Cut c =
    rw c.in-Cut.is (on_ok_weaker c.push_all-in-Cut-2.result
    (λ e. three c.args.out.now c.push-in-Cut.new.self c.push_all-in-Cut.new.self c.push_all-in-Cut-2.new.self (3 ∷ []) c.to_be_bytes.result c.to_be_bytes-in-Cut.result c.in_ok-push-in-Cut.ensures.ok c.in_ok-push_all-in-Cut.ensures.ok e
    ∙ (λ i. c.args.out.now ++ (((3 ∷ []) ++ c.to_be_bytes.ensures i) ++ c.to_be_bytes-in-Cut.ensures i)))
    c.push_all-in-Cut-2.ensures.ok)
