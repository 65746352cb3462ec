use Rattle.std.proofs.Common.{◌≡◌, ◌++◌, ◌∷◌, [], ◌∙◌, flat_map, map, arith, List, ℕ}
use Rattle.std.proofs.lemmas.Result.{on_ok_weaker}
use Rattle.gvn_model.specs.Items.{item_value}
use Rattle.journal_defs.specs.Journal.{spelled_item}
use Rattle.jnl_record.specs.declared.parts.Head.{Head}
use Rattle.jnl_record.specs.Heads.{spelled_head}
use Rattle.repl_fields.proofs.Pushes.{three}
use Rattle.jnl_record.proofs.Records.{few, each_update}
use Rattle.jnl_record.proofs.writing.write_record.Goals as goal

pub overflow_cast-head : goal.overflow_cast-head
overflow_cast-head c =
    let form = rw c.in-Tcom.is at c.requires.form in
    let most = few c.in-Tcom.items 0 c.in-Tcom.count form.rise form.items (omega arith) in
    omega (arith, most, form.count.1, c.len.ensures)

pub write_items-requires : goal.write_items-requires
write_items-requires c =
    let form = rw c.in-Tcom.is at c.requires.form in
    each_update c.in-Tcom.count c.as_slice-in-Tcom.result.now (rw c.as_slice-in-Tcom.ensures form.items)

pub returns-in_ok-push_all-in-Pini-2-clause-ok : goal.returns-in_ok-push_all-in-Pini-2-clause-ok
returns-in_ok-push_all-in-Pini-2-clause-ok c =
    let first : c.in-Pini.version ≡ 1 = rw c.in-Pini.is at c.requires.version in
    let front : List ℕ = 1 ∷ c.in-Pini.version ∷ c.in-Pini.region ∷ c.flag_byte.result ∷ [] in
    rw c.in-Pini.is (on_ok_weaker c.push_all-in-Pini-2.result
    (λ e. three c.args.out.now c.push_all.new.self c.push_all-in-Pini.new.self c.push_all-in-Pini-2.new.self front c.to_be_bytes.result c.to_be_bytes-in-Pini.result c.in_ok-push_all-in-Pini.ensures.ok c.in_ok-push_all-in-Pini-2.ensures.ok e
    ∙ (λ i. c.args.out.now ++ (((1 ∷ first i ∷ c.in-Pini.region ∷ c.flag_byte.ensures i ∷ []) ++ c.to_be_bytes.ensures i) ++ c.to_be_bytes-in-Pini.ensures i)))
    c.push_all-in-Pini-2.ensures.ok)

pub returns-in_ok-push_all-in-Epoch-2-clause-ok : goal.returns-in_ok-push_all-in-Epoch-2-clause-ok
returns-in_ok-push_all-in-Epoch-2-clause-ok c =
    let front : List ℕ = 2 ∷ c.flag_byte-in-Epoch.result ∷ [] in
    rw c.in-Epoch.is (on_ok_weaker c.push_all-in-Epoch-3.result
    (λ e. three c.args.out.now c.push_all-in-Epoch.new.self c.push_all-in-Epoch-2.new.self c.push_all-in-Epoch-3.new.self front c.to_be_bytes-in-Epoch.result c.to_be_bytes-in-Epoch-2.result c.in_ok-push_all-in-Epoch.ensures.ok c.in_ok-push_all-in-Epoch-2.ensures.ok e
    ∙ (λ i. c.args.out.now ++ (((2 ∷ c.flag_byte-in-Epoch.ensures i ∷ []) ++ c.to_be_bytes-in-Epoch.ensures i) ++ c.to_be_bytes-in-Epoch-2.ensures i)))
    c.push_all-in-Epoch-3.ensures.ok)

pub returns-in_ok-write_head-in-Tcom-clause-ok : goal.returns-in_ok-write_head-in-Tcom-clause-ok
returns-in_ok-write_head-in-Tcom-clause-ok c =
    let head : Head = record { number = c.in-Tcom.number; mask = c.in-Tcom.mask; origin = c.in-Tcom.origin; count = c.in-Tcom.count; items = c.len.result } in
    rw c.in-Tcom.is (on_ok_weaker c.write_items.result
    (λ e. three c.args.out.now c.push-in-Tcom.new.self c.write_head.new.out c.write_items.new.out (5 ∷ []) (spelled_head head) (flat_map spelled_item (map item_value c.as_slice-in-Tcom.result.now)) c.in_ok-push-in-Tcom.ensures.ok c.in_ok-write_head-in-Tcom.ensures.ok e
    ∙ (λ i. c.args.out.now ++ (((5 ∷ []) ++ spelled_head (record head { items = c.len.ensures i }))
    ++ flat_map spelled_item (c.as_slice-in-Tcom.ensures i))))
    c.write_items.ensures.ok)
