use Rattle.std.proofs.Common.{◌++◌, ◌∙◌, ap, ℕ, List}
use Rattle.std.specs.Int.{to_be_bytes, w16, w32, w64}
use Rattle.std.proofs.lemmas.Result.{on_ok_weaker}
use Rattle.repl_wire.proofs.Found.{head_of}
use Rattle.repl_wire.proofs.writing.write_head.Goals as goal

pub returns-clause-ok : goal.returns-clause-ok
returns-clause-ok c = on_ok_weaker c.push_all-3.result
    (λ e. head_of c.args.out.now (to_be_bytes w64 c.args.number) (to_be_bytes w32 c.args.origin.serial) (to_be_bytes w16 c.args.count) c.push_all.new.self c.push.new.self c.push_all-2.new.self c.push_all-3.new.self c.args.origin.updater
    (c.in_ok-push_all.ensures.ok ∙ ap (λ (l : List ℕ). c.args.out.now ++ l) c.to_be_bytes.ensures) c.in_ok-push.ensures.ok
    (c.in_ok-push_all-2.ensures.ok ∙ ap (λ (l : List ℕ). c.push.new.self ++ l) c.to_be_bytes-2.ensures)
    (e ∙ ap (λ (l : List ℕ). c.push_all-2.new.self ++ l) c.to_be_bytes-3.ensures))
    c.push_all-3.ensures.ok
