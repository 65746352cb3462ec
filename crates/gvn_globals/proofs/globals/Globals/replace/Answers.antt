use Rattle.std.proofs.Common.{◌≡◌, Bool, true, false, ◌≤◌, is_some, option_map, Some, if◌then◌else◌, refl, sym, ap, ◌∙◌, arith}
use Rattle.std.specs.Prelude.{OnOk, Result, Ok, Err}
use Rattle.std.specs.List.{list_all}
use Rattle.std.specs.Map.{lookup}
use Rattle.std.specs.BTreeMap.{is_at}
use Rattle.std.specs.FinMap as globals
use Rattle.global_defs.specs.Encoded.{encoded}
use Rattle.global_defs.specs.Valid.{is_key}
use Rattle.gvn_globals.specs.Nodes.{is_coded, node_value}
use Rattle.gvn_globals.specs.Undoing.{undo_of}
use Rattle.gvn_globals.specs.declared.globals.Node.{Node}
use Rattle.gvn_globals.specs.declared.globals.Undo.TheVariants.{Put, Remove}
use Rattle.gvn_globals.proofs.Coded.{coded_inserted, is_coded_at, set_coded, get_coded}
use Rattle.gvn_globals.proofs.globals.Globals.replace.Goals.{in-Some, in-None}
use Rattle.gvn_globals.proofs.globals.Globals.replace.Goals as goal
use Rattle.global_defs.proofs.Basics.{bytes_cmp}

at_most_one : (b : Bool) → (if b then 0 else 1) ≤ 1
at_most_one true = omega arith
at_most_one false = omega arith

always : {A E : Type 0} (r : Result A E) (P : Type 0) → P → OnOk r P
always (Ok x) P p = p
always (Err e) P p = tt

pub invariant_of-result : goal.invariant_of-result
invariant_of-result c =
    is_coded_at c.in_ok-again.again (record { key = c.in_ok-kept.kept; value = c.in-Some.field-0.value })
    (c.in_ok-again.ensures ∙ c.code-2.ensures.value ∙ ap encoded (sym c.in_ok-kept.ensures)) (ap is_key c.in_ok-kept.ensures ∙ c.code-2.ensures.valid)

pub invariant_of-self-2 : goal.invariant_of-self-2
invariant_of-self-2 c =
    let node : Node = record { key = c.in_ok-key.key; value = c.args.value } in
    let is_code = c.in_ok-code.ensures ∙ c.code.ensures.value ∙ ap encoded (sym c.in_ok-key.ensures) in
    let valid = ap is_key c.in_ok-key.ensures ∙ c.code.ensures.valid in (
      ap (list_all is_coded) c.in_ok-value.ensures.entries ∙ coded_inserted c.in_ok-code.code node c.self.inside.nodes.entries (is_coded_at c.in_ok-code.code node is_code valid) c.self.invariant.0,
      omega (arith, at_most_one (is_some c.in_ok-value.field-0), c.in_ok-value.ensures.len, c.if-len-ge-MOST_NODES.false, c.len.ensures.len),
    )

pub returns-clause-ok : goal.returns-clause-ok
returns-clause-ok c =
    let node : Node = record { key = c.in_ok-key.key; value = c.args.value } in
    let is_code : c.in_ok-code.code ≡ encoded c.in_ok-key.key = c.in_ok-code.ensures ∙ c.code.ensures.value ∙ ap encoded (sym c.in_ok-key.ensures) in
    let valid : is_key c.in_ok-key.key ≡ true = ap is_key c.in_ok-key.ensures ∙ c.code.ensures.valid in
    let still : list_all is_coded c.insert.new.self.entries ≡ true = ap (list_all is_coded) c.in_ok-value.ensures.entries ∙ coded_inserted c.in_ok-code.code node c.self.inside.nodes.entries (is_coded_at c.in_ok-code.code node is_code valid) c.self.invariant.0 in
    always c.match-branch-6.result _
    (set_coded c.in_ok-key.key valid (Some node) c.self.inside.nodes.entries c.insert.new.self.entries c.self.invariant.0 still
    (λ q. c.in_ok-value.ensures.updates.0 q ∙ ap (λ d. if is_at (bytes_cmp d) q then Some node else lookup (is_at (bytes_cmp q)) c.self.inside.nodes.entries) is_code) c.args.value refl
    ∙ ap (λ m. globals.insert m c.in_ok-key.key c.args.value) c.self.view_is ∙ ap (λ k. globals.insert c.args.self.now k c.args.value) c.in_ok-key.ensures)

pub returns-clause-undo : goal.returns-clause-undo
returns-clause-undo c =
    let had : globals.get c.args.self.now c.args.key.now ≡ option_map node_value c.in_ok-value.field-0 =
    ap (λ m. globals.get m c.args.key.now) (sym c.self.view_is) ∙ get_coded c.args.key.now c.self.inside.nodes.entries c.code.ensures.valid c.self.invariant.0
    ∙ ap (λ d. option_map node_value (lookup (is_at (bytes_cmp d)) c.self.inside.nodes.entries)) (sym (c.in_ok-code.ensures ∙ c.code.ensures.value)) ∙ ap (option_map node_value) (sym c.in_ok-value.ensures.old) in
    elim c.match-branch-6.branch [
      | in-Some w ↦ rw (w.result-is) (ap (λ k. Put (k, w.in-Some.field-0.value)) c.in_ok-kept.ensures ∙ ap (undo_of c.args.key.now) (sym (had ∙ ap (option_map node_value) w.in-Some.is)))
      | in-None w ↦ rw (w.result-is) (ap Remove c.in_ok-kept.ensures ∙ ap (undo_of c.args.key.now) (sym (had ∙ ap (option_map node_value) w.in-None.is)))
    ]
