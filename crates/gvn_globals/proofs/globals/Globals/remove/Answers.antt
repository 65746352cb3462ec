use Rattle.std.proofs.Common.{◌≡◌, true, None, if◌then◌else◌, refl, ap, ◌∙◌, arith}
use Rattle.std.specs.List.{list_all}
use Rattle.std.specs.Map.{lookup}
use Rattle.std.specs.BTreeMap.{is_at}
use Rattle.std.specs.FinMap as globals
use Rattle.gvn_globals.specs.Nodes.{is_coded}
use Rattle.gvn_globals.proofs.Coded.{coded_removed, remove_coded}
use Rattle.gvn_globals.proofs.globals.Globals.remove.Goals as goal
use Rattle.global_defs.proofs.Basics.{bytes_cmp}

still_coded : (c : goal.Joined-remove) → list_all is_coded c.remove.new.self.entries ≡ true
still_coded c = ap (list_all is_coded) c.remove.ensures.entries ∙ coded_removed (is_at (bytes_cmp c.code.result.now)) c.self.inside.nodes.entries c.self.invariant.0

pub invariant_of-self : goal.invariant_of-self
invariant_of-self c = (still_coded c, omega (arith, c.remove.ensures.len, c.self.invariant.1))

pub returns : goal.returns
returns c =
    remove_coded c.args.key.now c.code.ensures.valid None c.self.inside.nodes.entries c.remove.new.self.entries c.self.invariant.0 (still_coded c)
    (λ q. c.remove.ensures.updates.0 q ∙ ap (λ d. if is_at (bytes_cmp d) q then None else lookup (is_at (bytes_cmp q)) c.self.inside.nodes.entries) c.code.ensures.value) refl
    ∙ ap (λ m. globals.remove m c.args.key.now) c.self.view_is
