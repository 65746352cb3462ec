use Rattle.std.proofs.Common.{◌≡◌, [], List, ℕ, ap, sym, subst, ◌∙◌}
use Rattle.std.specs.Option.{option_map}
use Rattle.gvn_model.specs.Numbered.{numbered}
use Rattle.jnl_extract.specs.Lines.{Refuses, Takes, line_body}
use Rattle.jnl_extract.specs.Values.{stage_value, TellsBadLine}
use Rattle.jnl_extract.proofs.LineLaws.{at_none, at_some}
use Rattle.jnl_extract.proofs.Fronts.{IsRead, bad_here, take_line, read_whole, no_line_in, not_empty, is_empty, not_open}
use Rattle.jnl_extract.proofs.reading.read_entries.Goals as goal

pub returns-in-None-clause-bad : goal.returns-in-None-clause-bad
returns-in-None-clause-bad c =
    let s = stage_value c.loop-alloc.stage in
    let left : List ℕ = c.loop-alloc.left.now in
    let refuses = at_none c.in_ok-step.field-0 (Refuses s left) (λ p. Takes s left (stage_value p.0) p.1.now) c.in-None.is c.in_ok-step.ensures in
    subst (TellsBadLine c.args.text.now) (sym c.bad_line.ensures)
    (bad_here c.args.text.now c.args.site c.args.from c.args.rest.now s left c.requires c.loop-alloc.invariant refuses (λ e n. not_empty left c.is_empty.result c.is_empty.ensures c.loop-alloc-test.true e))

pub loop-alloc-preserved : goal.loop-alloc-preserved
loop-alloc-preserved c =
    let s = stage_value c.loop-alloc.stage in
    let left : List ℕ = c.loop-alloc.left.now in
    let takes = at_some c.in_ok-step.field-0 (c.in-Some.next, c.in-Some.rest) (Refuses s left) (λ p. Takes s left (stage_value p.0) p.1.now) c.in-Some.is c.in_ok-step.ensures in
    take_line c.args.text.now c.args.site c.args.from s (stage_value c.in-Some.next) left c.in-Some.rest.now c.loop-alloc.invariant takes

pub returns-in-None-pending-clause-read : goal.returns-in-None-pending-clause-read
returns-in-None-pending-clause-read c =
    let s = stage_value c.loop-alloc.stage in
    let none : c.loop-alloc.left.now ≡ [] = is_empty c.loop-alloc.left.now c.is_empty.result c.is_empty.ensures c.loop-alloc-test.false in
    read_whole c.args.text.now c.args.site c.args.from c.args.rest.now s c.requires
    (subst (λ (x : List ℕ). IsRead c.args.text.now c.args.site c.args.from s x) none c.loop-alloc.invariant) (ap (option_map numbered) c.in-None-pending.is)

pub returns-in-Some-pending-clause-bad : goal.returns-in-Some-pending-clause-bad
returns-in-Some-pending-clause-bad c =
    let s = stage_value c.loop-alloc.stage in
    let left : List ℕ = c.loop-alloc.left.now in
    let none : left ≡ [] = is_empty left c.is_empty.result c.is_empty.ensures c.loop-alloc-test.false in
    subst (TellsBadLine c.args.text.now) (sym c.bad_line-in-Some-pending.ensures)
    (bad_here c.args.text.now c.args.site c.args.from c.args.rest.now s left c.requires c.loop-alloc.invariant
    (λ l more i e. absurd (no_line_in (line_body l) more (sym none ∙ e)))
    (λ e n. not_open (option_map numbered c.loop-alloc.stage.pending) (numbered c.in-Some-pending.field-0) (ap (option_map numbered) c.in-Some-pending.is) n))
