use Rattle.jnl_extract.specs.Lines as lines
use Rattle.jnl_extract.specs.Lines.{IsHead, FieldsAre}
use Rattle.jnl_extract.specs.Values.{head_value, line_value}
use Rattle.jnl_extract.proofs.LineLaws.{held_parts, held_from, at_none, at_some}
use Rattle.jnl_extract.proofs.lines.read_parts.Goals as goal

pub returns-in-None-3 : goal.returns-in-None-3
returns-in-None-3 c l i p =
    let s = held_parts c.args.word.now c.args.number.now c.args.stamp.now c.args.rest.now c.in-Some.origin.now c.in-Some.tail.now c.in-Some.ensures.cases c.in-Some.ensures.first l i p in
    let none = at_none c.in_ok-read_head-in-Some.field-0 ((h : lines.Head) → IsHead h → FieldsAre h c.args.number.now c.args.stamp.now c.in-Some.origin.now → ⊥)
    (λ h. IsHead (head_value h) × FieldsAre (head_value h) c.args.number.now c.args.stamp.now c.in-Some.origin.now) c.in-None-3.is c.in_ok-read_head-in-Some.ensures in
    none s.head s.good s.fields

pub returns-in-Some-3 : goal.returns-in-Some-3
returns-in-Some-3 c =
    let found = at_some c.in_ok-read_head-in-Some.field-0 c.in-Some-3.head ((h : lines.Head) → IsHead h → FieldsAre h c.args.number.now c.args.stamp.now c.in-Some.origin.now → ⊥)
    (λ h. IsHead (head_value h) × FieldsAre (head_value h) c.args.number.now c.args.stamp.now c.in-Some.origin.now) c.in-Some-3.is c.in_ok-read_head-in-Some.ensures in
    held_from line_value c.read_held.result (head_value c.in-Some-3.head) c.args.word.now c.args.number.now c.args.stamp.now c.args.rest.now c.in-Some.origin.now c.in-Some.tail.now
    c.in-Some.ensures.cases c.in-Some.ensures.first found.0 found.1 c.read_held.ensures
