use Rattle.std.proofs.Common.{◌≡◌, List, ℕ, ap, sym, ◌∙◌}
use Rattle.std.specs.Option.{option_map}
use Rattle.jnl_extract.specs.Lines.{Line, IsLine, line_body, next_stage}
use Rattle.jnl_extract.specs.Values.{line_value, stage_value}
use Rattle.jnl_extract.proofs.Cuts.{one_cut}
use Rattle.jnl_extract.proofs.LineLaws.{at_none, at_some, same_line}
use Rattle.jnl_extract.proofs.Fronts.{line_clean}
use Rattle.jnl_extract.proofs.reading.step.Goals as goal

pub returns-in-None-2 : goal.returns-in-None-2
returns-in-None-2 c l more i e =
    let text : List ℕ = c.in-Some.line.now in
    let s = one_cut 10 text c.in-Some.rest.now (line_body l) more c.in-Some.ensures.first (line_clean l i) (sym c.in-Some.ensures.cases ∙ e) in
    absurd (at_none c.in_ok-read_line-in-Some.field-0 ((m : Line) → IsLine m → text ≡ line_body m → ⊥) (λ m. IsLine (line_value m) × (text ≡ line_body (line_value m)))
    c.in-None-2.is c.in_ok-read_line-in-Some.ensures l i s.0)

pub returns-in-None-3 : goal.returns-in-None-3
returns-in-None-3 c l more i e =
    let text : List ℕ = c.in-Some.line.now in
    let s = one_cut 10 text c.in-Some.rest.now (line_body l) more c.in-Some.ensures.first (line_clean l i) (sym c.in-Some.ensures.cases ∙ e) in
    let f = at_some c.in_ok-read_line-in-Some.field-0 c.in-Some-2.line ((m : Line) → IsLine m → text ≡ line_body m → ⊥) (λ m. IsLine (line_value m) × (text ≡ line_body (line_value m)))
    c.in-Some-2.is c.in_ok-read_line-in-Some.ensures in
    let same : line_value c.in-Some-2.line ≡ l = same_line (line_value c.in-Some-2.line) l f.0 i (sym f.1 ∙ s.0) in
    sym (ap (next_stage (stage_value c.args.stage)) same) ∙ sym c.in_ok-next_stage-in-Some-2.ensures ∙ ap (option_map stage_value) c.in-None-3.is
