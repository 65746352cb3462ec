use Rattle.std.proofs.Common.{ℕ, ◌+◌, List, sym, subst, arith}
use Rattle.std.proofs.lemmas.List.{length-take}
use Rattle.global_defs.specs.declared.limits.TheConstants.{MOST_REIGNS}
use Rattle.global_defs.specs.Prefix.{History}
use Rattle.global_defs.specs.Rising.{begun_by}
use Rattle.gvn_model.specs.Entries.{history_value}
use Rattle.wire_defs.specs.Frames.{Hello, IsFrame}
use Rattle.ship_defs.specs.Greeting.{carried}
use Rattle.session_handshake.proofs.Tellings.{all_told, hello_form}
use Rattle.session_handshake.proofs.hello.hello.Goals as goal

pub write_frame-requires : goal.write_frame-requires
write_frame-requires c =
    let mine = history_value c.args.mine.now in
    let size = length-take (MOST_REIGNS + 1) (begun_by mine.length mine.reigns) in
    let form = hello_form c.args.name.now (carried mine) c.requires.name c.requires.few (all_told (MOST_REIGNS + 1) mine.length mine.reigns c.requires.form) (omega (arith, size)) in
    subst (λ (h : History). IsFrame (Hello 1 c.in_ok-copy.field-0 h)) (sym c.in_ok-carried.ensures) (subst (λ (n : List ℕ). IsFrame (Hello 1 n (carried mine))) (sym c.in_ok-copy.ensures) form)
