use Rattle.std.proofs.Common.{◌≡◌, true, ◌≤◌, is_some, Option, Some, None, if◌then◌else◌, arith, sym, ap, ◌∙◌, true≢false}
use Rattle.std.specs.Map.{lookup}
use Rattle.std.specs.BTreeMap.{is_at}
use Rattle.gvn_globals.proofs.AllOrNone.{found_at, put_coded, put_is, at_none}
use Rattle.gvn_globals.proofs.globals.Globals.put.Goals as goal
use Rattle.global_defs.proofs.Basics.{bytes_cmp}

pub invariant_of-self : goal.invariant_of-self
invariant_of-self c =
    let there : is_some c.in-Ok.field-0 ≡ true = ap is_some c.in-Ok.ensures.old ∙ found_at c.ready.inside.code c.ready.inside.node c.self.inside.nodes.entries c.ready.invariant c.self.invariant.0 c.args.self.now c.args.ready c.self.view_is c.ready.view_is c.requires in (
      put_coded c.ready.inside.code c.ready.inside.node c.self.inside.nodes.entries c.ready.invariant c.self.invariant.0 c.insert.new.self.entries c.in-Ok.ensures.entries,
      omega (arith, one_more c.in-Ok.field-0 there, c.in-Ok.ensures.len, c.self.invariant.1),
    )
  where
    one_more : {X : Type 0} (o : Option X) → is_some o ≡ true → (if is_some o then 0 else 1) ≤ 0
    one_more None h = absurd (true≢false (sym h))
    one_more (Some x) h = omega arith

pub returns-in-Ok : goal.returns-in-Ok
returns-in-Ok c = put_is c.ready.inside.code c.ready.inside.node c.self.inside.nodes.entries c.ready.invariant c.self.invariant.0 c.insert.new.self.entries c.args.self.now c.args.ready c.in-Ok.ensures.entries c.in-Ok.ensures.updates.0 c.self.view_is c.ready.view_is

pub returns : goal.returns
returns c = absurd (at_none (lookup (is_at (bytes_cmp c.ready.inside.code)) c.self.inside.nodes.entries)
    (found_at c.ready.inside.code c.ready.inside.node c.self.inside.nodes.entries c.ready.invariant c.self.invariant.0 c.args.self.now c.args.ready c.self.view_is c.ready.view_is c.requires) c.in-Err.ensures.absent)
