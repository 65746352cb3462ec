use Rattle.std.proofs.Common.{◌≡◌, ◌+◌, ◌-◌, ◌≤◌, ℕ, List, Bool, true, false, length, filter, sym, ap, ◌∙◌, arith}
use Rattle.std.specs.Prelude.{not}
use Rattle.std.specs.Ordering.{nat_cmp, eq_by_cmp}
use Rattle.std.specs.Cmp.Lexicographic.{slice_cmp}
use Rattle.std.specs.FinMap as globals
use Rattle.global_defs.specs.Key.{Key}
use Rattle.global_defs.specs.Encoded.{encoded}
use Rattle.global_defs.specs.Entry.{Update, Set, Kill, ZKill}
use Rattle.gvn_key.specs.Terms.{update_value}
use Rattle.journal_defs.specs.Leaves.{Cell}
use Rattle.block_laws.specs.Cells.{changed}
use Rattle.gvt_leaf.specs.Chained.{all_cells}
use Rattle.gvt_leaf.specs.Edits.{outside}
use Rattle.gvt_leaf.specs.Links.{one_if}
use Rattle.gvt_leaf.specs.Stored.{sets_of}
use Rattle.gvt_leaf.proofs.Counted.{byte_is}
use Rattle.gvt_leaf.proofs.Made.{node_count, stored_still, globals_made, numbers_made}
use Rattle.gvt_leaf.proofs.leaves.Leaves.make_one.Goals as goal

one_most : (b : Bool) → one_if b ≤ 1
one_most true = omega arith
one_most false = omega arith

-- the cells after an update of each kind
set_made : (u : Update) (key : Key) (value code bytes : List ℕ) (cells now : List Cell) → u ≡ Set key value → code ≡ encoded key → bytes ≡ value
    → now ≡ globals.put (slice_cmp nat_cmp) code bytes cells → now ≡ changed u cells
set_made u key value code bytes cells now kind code_is bytes_is is = is ∙ (λ i. globals.put (slice_cmp nat_cmp) (code_is i) (bytes_is i) cells) ∙ ap (λ w. changed w cells) (sym kind)

kill_made : (u : Update) (key : Key) (code : List ℕ) (cells now : List Cell) → u ≡ Kill key → code ≡ encoded key → now ≡ outside code cells → now ≡ changed u cells
kill_made u key code cells now kind code_is is = is ∙ ap (λ (k : List ℕ). outside k cells) code_is ∙ ap (λ w. changed w cells) (sym kind)

zkill_made : (u : Update) (key : Key) (code : List ℕ) (cells now : List Cell) → u ≡ ZKill key → code ≡ encoded key
    → now ≡ filter (λ c. not (eq_by_cmp (slice_cmp nat_cmp) c.0 code)) cells → now ≡ changed u cells
zkill_made u key code cells now kind code_is is = is ∙ ap (λ (k : List ℕ). filter (λ (c : Cell). not (eq_by_cmp (slice_cmp nat_cmp) c.0 k)) cells) code_is ∙ ap (λ w. changed w cells) (sym kind)

-- ---- SET

pub overflow_add-self : goal.overflow_add-self
overflow_add-self c =
    let one : c.from.result ≡ one_if c.set-is_new.result = c.from.ensures ∙ byte_is c.set-is_new.result in
    let sets : sets_of (update_value c.args.update.now) ≡ 1 = ap (λ u. sets_of (update_value u)) c.in-Set.is in
    omega (arith, c.requires.room.numbers, sets, one, one_most c.set-is_new.result, node_count c.self.inside c.args.self.now c.self.invariant c.self.view_is)

pub invariant_of-self : goal.invariant_of-self
invariant_of-self c =
    let u : Update = update_value c.args.update.now in
    let cells : List Cell = all_cells c.self.inside.chain.leaves in
    let new : List Cell = all_cells c.set-is_new.new.chain.leaves in
    let one : c.from.result ≡ one_if c.set-is_new.result = c.from.ensures ∙ byte_is c.set-is_new.result in
    let is : new ≡ changed u cells = set_made u c.in-Set.key c.in-Set.value c.as_encoded.result.now c.as_slice.result.now cells new (ap update_value c.in-Set.is) c.as_encoded.ensures.value c.as_slice.ensures c.set-is_new.ensures.cells in
    stored_still c.self.inside c.args.self.now c.self.invariant c.self.view_is c.set-is_new.new.chain u c.requires.form is c.set-is_new.ensures.rising (c.self.inside.nodes + c.from.result)
    (omega (arith, c.self.invariant.count, c.set-is_new.ensures.count, one))

pub returns-in-Set-clause-made : goal.returns-in-Set-clause-made
returns-in-Set-clause-made c =
    let u : Update = update_value c.args.update.now in
    let cells : List Cell = all_cells c.self.inside.chain.leaves in
    let new : List Cell = all_cells c.set-is_new.new.chain.leaves in
    let is : new ≡ changed u cells = set_made u c.in-Set.key c.in-Set.value c.as_encoded.result.now c.as_slice.result.now cells new (ap update_value c.in-Set.is) c.as_encoded.ensures.value c.as_slice.ensures c.set-is_new.ensures.cells in
    globals_made c.self.inside c.args.self.now c.self.invariant c.self.view_is c.set-is_new.new.chain u c.requires.form is c.set-is_new.ensures.rising

pub returns-in-Set-clause-numbers : goal.returns-in-Set-clause-numbers
returns-in-Set-clause-numbers c =
    let u : Update = update_value c.args.update.now in
    let cells : List Cell = all_cells c.self.inside.chain.leaves in
    let new : List Cell = all_cells c.set-is_new.new.chain.leaves in
    let is : new ≡ changed u cells = set_made u c.in-Set.key c.in-Set.value c.as_encoded.result.now c.as_slice.result.now cells new (ap update_value c.in-Set.is) c.as_encoded.ensures.value c.as_slice.ensures c.set-is_new.ensures.cells in
    let sets : sets_of u ≡ 1 = ap (λ w. sets_of (update_value w)) c.in-Set.is in
    let few : length new ≤ length cells + 1 = omega (arith, c.set-is_new.ensures.count, one_most c.set-is_new.result) in
    omega (arith, sets, numbers_made c.self.inside c.args.self.now c.self.invariant c.self.view_is c.set-is_new.new.chain u c.requires.form is c.set-is_new.ensures.rising 1 few)

-- ---- KILL

pub invariant_of-self-in-Kill : goal.invariant_of-self-in-Kill
invariant_of-self-in-Kill c =
    let u : Update = update_value c.args.update.now in
    let cells : List Cell = all_cells c.self.inside.chain.leaves in
    let new : List Cell = all_cells c.kill-gone.new.chain.leaves in
    let is : new ≡ changed u cells = kill_made u c.in-Kill.key c.as_encoded-in-Kill.result.now cells new (ap update_value c.in-Kill.is) c.as_encoded-in-Kill.ensures.value c.kill-gone.ensures.cells in
    stored_still c.self.inside c.args.self.now c.self.invariant c.self.view_is c.kill-gone.new.chain u c.requires.form is c.kill-gone.ensures.rising (c.self.inside.nodes - c.kill-gone.result)
    (omega (arith, c.self.invariant.count, c.kill-gone.ensures.count))

pub returns-in-Kill-clause-made : goal.returns-in-Kill-clause-made
returns-in-Kill-clause-made c =
    let u : Update = update_value c.args.update.now in
    let cells : List Cell = all_cells c.self.inside.chain.leaves in
    let new : List Cell = all_cells c.kill-gone.new.chain.leaves in
    let is : new ≡ changed u cells = kill_made u c.in-Kill.key c.as_encoded-in-Kill.result.now cells new (ap update_value c.in-Kill.is) c.as_encoded-in-Kill.ensures.value c.kill-gone.ensures.cells in
    globals_made c.self.inside c.args.self.now c.self.invariant c.self.view_is c.kill-gone.new.chain u c.requires.form is c.kill-gone.ensures.rising

pub returns-in-Kill-clause-numbers : goal.returns-in-Kill-clause-numbers
returns-in-Kill-clause-numbers c =
    let u : Update = update_value c.args.update.now in
    let cells : List Cell = all_cells c.self.inside.chain.leaves in
    let new : List Cell = all_cells c.kill-gone.new.chain.leaves in
    let is : new ≡ changed u cells = kill_made u c.in-Kill.key c.as_encoded-in-Kill.result.now cells new (ap update_value c.in-Kill.is) c.as_encoded-in-Kill.ensures.value c.kill-gone.ensures.cells in
    let few : length new ≤ length cells + 0 = omega (arith, c.kill-gone.ensures.count) in
    omega (arith, numbers_made c.self.inside c.args.self.now c.self.invariant c.self.view_is c.kill-gone.new.chain u c.requires.form is c.kill-gone.ensures.rising 0 few)

-- ---- ZKILL

pub invariant_of-self-in-ZKill : goal.invariant_of-self-in-ZKill
invariant_of-self-in-ZKill c =
    let u : Update = update_value c.args.update.now in
    let cells : List Cell = all_cells c.self.inside.chain.leaves in
    let new : List Cell = all_cells c.remove-was.new.chain.leaves in
    let one : c.from-in-ZKill.result ≡ one_if c.remove-was.result = c.from-in-ZKill.ensures ∙ byte_is c.remove-was.result in
    let is : new ≡ changed u cells = zkill_made u c.in-ZKill.key c.as_encoded-in-ZKill.result.now cells new (ap update_value c.in-ZKill.is) c.as_encoded-in-ZKill.ensures.value c.remove-was.ensures.cells in
    stored_still c.self.inside c.args.self.now c.self.invariant c.self.view_is c.remove-was.new.chain u c.requires.form is c.remove-was.ensures.rising (c.self.inside.nodes - c.from-in-ZKill.result)
    (omega (arith, c.self.invariant.count, c.remove-was.ensures.count, one))

pub returns-in-ZKill-clause-made : goal.returns-in-ZKill-clause-made
returns-in-ZKill-clause-made c =
    let u : Update = update_value c.args.update.now in
    let cells : List Cell = all_cells c.self.inside.chain.leaves in
    let new : List Cell = all_cells c.remove-was.new.chain.leaves in
    let is : new ≡ changed u cells = zkill_made u c.in-ZKill.key c.as_encoded-in-ZKill.result.now cells new (ap update_value c.in-ZKill.is) c.as_encoded-in-ZKill.ensures.value c.remove-was.ensures.cells in
    globals_made c.self.inside c.args.self.now c.self.invariant c.self.view_is c.remove-was.new.chain u c.requires.form is c.remove-was.ensures.rising

pub returns-in-ZKill-clause-numbers : goal.returns-in-ZKill-clause-numbers
returns-in-ZKill-clause-numbers c =
    let u : Update = update_value c.args.update.now in
    let cells : List Cell = all_cells c.self.inside.chain.leaves in
    let new : List Cell = all_cells c.remove-was.new.chain.leaves in
    let is : new ≡ changed u cells = zkill_made u c.in-ZKill.key c.as_encoded-in-ZKill.result.now cells new (ap update_value c.in-ZKill.is) c.as_encoded-in-ZKill.ensures.value c.remove-was.ensures.cells in
    let few : length new ≤ length cells + 0 = omega (arith, c.remove-was.ensures.count) in
    omega (arith, numbers_made c.self.inside c.args.self.now c.self.invariant c.self.view_is c.remove-was.new.chain u c.requires.form is c.remove-was.ensures.rising 0 few)
