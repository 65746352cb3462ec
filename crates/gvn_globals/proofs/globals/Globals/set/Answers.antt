use Rattle.std.proofs.Common.{◌≡◌, Bool, true, false, ◌≤◌, is_some, Some, if◌then◌else◌, refl, ap, ◌∙◌, arith}
use Rattle.std.specs.List.{list_all}
use Rattle.std.specs.Map.{lookup}
use Rattle.std.specs.BTreeMap.{is_at}
use Rattle.std.specs.FinMap as globals
use Rattle.global_defs.specs.Encoded.{encoded}
use Rattle.gvn_globals.specs.Nodes.{is_coded}
use Rattle.gvn_globals.specs.declared.globals.Node.{Node}
use Rattle.gvn_globals.proofs.Coded.{coded_inserted, is_coded_at, set_coded}
use Rattle.gvn_globals.proofs.globals.Globals.set.Goals as goal
use Rattle.global_defs.proofs.Basics.{bytes_cmp}

at_most_one : (b : Bool) → (if b then 0 else 1) ≤ 1
at_most_one true = omega arith
at_most_one false = omega arith

node : goal.Joined-branch-3 → Node
node c = record { key = c.args.key; value = c.args.value }

is_code : (c : goal.Joined-branch-3) → c.in_ok-code.code ≡ encoded c.args.key
is_code c = c.in_ok-code.ensures ∙ c.code.ensures.value

still_coded : (c : goal.Joined-branch-3) → list_all is_coded c.insert.new.self.entries ≡ true
unfolding node
still_coded c = ap (list_all is_coded) c.in_ok-insert.ensures.entries
    ∙ coded_inserted c.in_ok-code.code (node c) c.self.inside.nodes.entries (is_coded_at c.in_ok-code.code (node c) (is_code c) c.code.ensures.valid) c.self.invariant.0

pub invariant_of-self-2 : goal.invariant_of-self-2
invariant_of-self-2 c = (still_coded c, omega (arith, at_most_one (is_some c.in_ok-insert.field-0), c.in_ok-insert.ensures.len, c.if-len-ge-MOST_NODES.false, c.len.ensures.len))

pub returns-clause-ok : goal.returns-clause-ok
unfolding node
returns-clause-ok c =
    set_coded c.args.key c.code.ensures.valid (Some (node c)) c.self.inside.nodes.entries c.insert.new.self.entries c.self.invariant.0 (still_coded c)
    (λ q. c.in_ok-insert.ensures.updates.0 q ∙ ap (λ d. if is_at (bytes_cmp d) q then Some (node c) else lookup (is_at (bytes_cmp q)) c.self.inside.nodes.entries) (is_code c)) c.args.value refl
    ∙ ap (λ m. globals.insert m c.args.key c.args.value) c.self.view_is
