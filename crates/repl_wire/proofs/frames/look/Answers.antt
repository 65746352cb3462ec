use Rattle.std.proofs.Common.{◌≡◌, List, ℕ, [], length, subst, sym, ◌∙◌, arith}
use Rattle.std.proofs.lemmas.List.{nil_from_length}
use Rattle.std.proofs.lemmas.Bool.{eqb-true}
use Rattle.repl_wire.specs.Feeds.{IsWithin}
use Rattle.repl_wire.proofs.Feeding.{framed_within, fresh_open}
use Rattle.repl_wire.proofs.frames.look.Goals as goal

pub returns-then-is_empty : goal.returns-then-is_empty
returns-then-is_empty c =
    let zero = eqb-true (length c.args.bytes.now) 0 (sym c.is_empty.ensures ∙ c.if-is_empty.true) in
    let none : c.args.bytes.now ≡ [] = nil_from_length c.args.bytes.now (omega (arith, zero)) in
    subst (λ (l : List ℕ). IsWithin c.new.result l) (sym none) (framed_within c.new.result c.new.ensures (fresh_open c.new.result c.new.ensures))
