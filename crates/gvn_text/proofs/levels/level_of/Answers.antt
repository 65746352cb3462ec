use Rattle.std.proofs.Common.{◌≡◌, ◌≢◌, ℕ, ◌-◌, length, drop, None, option_map, sym, ap, ◌∙◌, eq-eqb, refl}
use Rattle.global_defs.specs.Key.{sub_of}
use Rattle.global_defs.specs.Evaluation.{first_sub}
use Rattle.gvn_key.specs.Faults.{front_of}
use Rattle.gvn_text.proofs.LevelLaws.{last_there, level_made}
use Rattle.gvn_text.proofs.levels.level_of.Goals as goal
use Rattle.gvn_text.proofs.levels.level_of.Goals.{In_ok-last}

-- the subscript that is read, by how many the key has
read : (c : In_ok-last) → option_map sub_of c.in_ok-last.field-0 ≡ first_sub (drop (length c.args.key.now.subs - 1) c.args.key.now.subs)
read c = c.in_ok-last.ensures ∙ ap (λ (n : ℕ). first_sub (drop (n - 1) c.args.key.now.subs)) c.depth-count.ensures

some : (c : In_ok-last) → length c.args.key.now.subs ≢ 0
some c = λ z. c.if-count-eq0.false (c.depth-count.ensures ∙ z)

pub returns-then-count-eq0 : goal.returns-then-count-eq0
returns-then-count-eq0 c = rw (eq-eqb (length c.args.key.now.subs) 0 (sym c.depth-count.ensures ∙ c.if-count-eq0.true)) refl

pub unreachable-requires : goal.unreachable-requires
unreachable-requires c =
    let at = (goal.at.unreachable-requires c).In_ok-last in
    let there = last_there c.args.key.now.subs None (some at) (ap (option_map sub_of) (sym c.in_default.is) ∙ read at) in
    cc

pub returns : goal.returns
returns c =
    let at = (goal.at.returns c).In_ok-last in
    level_made c.args.key.now c.in_ok-above.above c.in-Some.last (some at)
    (c.in_ok-above.ensures ∙ ap (λ (n : ℕ). front_of (n - 1) c.args.key.now) c.depth-count.ensures)
    (ap (option_map sub_of) (sym c.in-Some.is) ∙ read at)
