use Rattle.std.proofs.Common.{◌<◌, ◌+◌, ◌-◌, length, take, sym, ap, subst, ◌∙◌, arith}
use Rattle.std.specs.List.{list_all}
use Rattle.std.proofs.lemmas.List.{take_all}
use Rattle.global_defs.specs.Entry.{is_under}
use Rattle.gvn_globals.proofs.Subtree.{IsWithout, without_next, without_subtree}
use Rattle.gvn_globals.proofs.Gone.{all_at, cleared_under}
use Rattle.gvn_globals.proofs.overlay.Overlay.kill.Goals as goal

pub loop-key-preserved : goal.loop-key-preserved
loop-key-preserved g c = subst (λ m. IsWithout c.args.self.now (take (c.loop-key.key-index + 1) c.deref-key-items.result.now) m) (sym c.in_ok-remove.ensures.ok)
    (without_next c.args.self.now c.deref-key-items.result.now c.loop-key.key-index c.key-item.result c.loop-key.self c.loop-key-test.true c.key-item.is c.loop-key.invariant)

pub loop-key-2-init : goal.loop-key-2-init
loop-key-2-init g c = without_subtree c.args.self.now c.args.top.now c.in_ok-keys.keys.items c.loop-key.self c.in_ok-keys.ensures
    (subst (λ ks. IsWithout c.args.self.now ks c.loop-key.self) (take_all c.loop-key.key-index c.deref-key-items.result.now c.loop-key-test.false ∙ c.deref-key-items.ensures.value) c.loop-key.invariant)

pub skip-requires : goal.skip-requires
skip-requires g c =
    let within : c.len.result - 1 < length c.in_ok-keys.keys.items = omega (arith, c.len.ensures, c.deref-key-items-2.ensures.len, ap length c.deref-key-items-2.ensures.value, c.loop-key-2-test.true) in
    cleared_under c.args.self.now c.loop-key-2.self c.args.top.now c.key-item-in-loop-key-2.result c.index.result.now c.loop-key-2.invariant
    (all_at (is_under c.args.top.now) c.deref-key-items-2.result.now (ap (list_all (is_under c.args.top.now)) c.deref-key-items-2.ensures.value ∙ c.in_ok-keys.ensures.under)
    c.loop-key-2.key-index c.key-item-in-loop-key-2.result c.loop-key-2-test.true c.key-item-in-loop-key-2.is)
    (all_at (is_under c.args.top.now) c.in_ok-keys.keys.items c.in_ok-keys.ensures.under (c.len.result - 1) c.index.result.now within c.index.ensures)
