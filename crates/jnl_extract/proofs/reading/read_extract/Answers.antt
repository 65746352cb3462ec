use Rattle.std.proofs.Common.{◌≡◌, ◌≤◌, ◌^◌, List, ℕ, sym, ◌∙◌}
use Rattle.global_defs.specs.declared.limits.TheConstants.{NUMBERS_END}
use Rattle.global_defs.specs.Fields.{IsSiteName}
use Rattle.jnl_extract.specs.Lines.{header_body}
use Rattle.jnl_extract.proofs.Cuts.{one_cut}
use Rattle.jnl_extract.proofs.LineLaws.{at_none}
use Rattle.jnl_extract.proofs.Fronts.{header_clean, no_header}
use Rattle.std.specs.Prelude.{Err}
use Rattle.jnl_extract.specs.Extracts.{IsBadLine}
use Rattle.jnl_extract.specs.declared.reading.ExtractError.TheVariants.{BadLine}
use Rattle.jnl_extract.proofs.Unique.{gives, tells}
use Rattle.jnl_extract.proofs.reading.read_extract.Goals as goal

cut_none : (c : goal.In-None) → IsBadLine c.args.text.now 0
cut_none c = no_header c.args.text.now (λ site from more n f l e. c.in-None.ensures.cases (header_body site from) more e)

head_none : (c : goal.In-None-2) → IsBadLine c.args.text.now 0
head_none c =
    let text : List ℕ = c.in-Some.line.now in
    no_header c.args.text.now (λ site from more n f l e.
    (let s = one_cut 10 text c.in-Some.rest.now (header_body site from) more c.in-Some.ensures.first (header_clean site from n l) (sym c.in-Some.ensures.cases ∙ e) in
    at_none c.in_ok-read_header-in-Some.field-0
    ((name : List ℕ) (k : ℕ) → IsSiteName name → 1 ≤ k → k ≤ NUMBERS_END → text ≡ header_body name k → ⊥)
    (λ p. IsSiteName p.0 × (1 ≤ p.1) × (p.1 ≤ NUMBERS_END) × (text ≡ header_body p.0 p.1))
    c.in-None-2.is c.in_ok-read_header-in-Some.ensures site from n f l s.0))

pub returns-in-None-clause-bad : goal.returns-in-None-clause-bad
returns-in-None-clause-bad c = cut_none c

pub returns-in-None-clause-only : goal.returns-in-None-clause-only
returns-in-None-clause-only c = gives c.args.text.now (Err (BadLine 0)) tt (cut_none c)

pub returns-in-None-clause-exact : goal.returns-in-None-clause-exact
returns-in-None-clause-exact c = tells c.args.text.now (Err (BadLine 0)) tt (cut_none c)

pub returns-in-None-2-clause-bad : goal.returns-in-None-2-clause-bad
returns-in-None-2-clause-bad c = head_none c

pub returns-in-None-2-clause-only : goal.returns-in-None-2-clause-only
returns-in-None-2-clause-only c = gives c.args.text.now (Err (BadLine 0)) tt (head_none c)

pub returns-in-None-2-clause-exact : goal.returns-in-None-2-clause-exact
returns-in-None-2-clause-exact c = tells c.args.text.now (Err (BadLine 0)) tt (head_none c)

pub returns-in-Some-2-clause-only : goal.returns-in-Some-2-clause-only
returns-in-Some-2-clause-only c = gives c.args.text.now c.read_entries.result c.read_entries.ensures.read c.read_entries.ensures.bad

pub returns-in-Some-2-clause-exact : goal.returns-in-Some-2-clause-exact
returns-in-Some-2-clause-exact c = tells c.args.text.now c.read_entries.result c.read_entries.ensures.read c.read_entries.ensures.bad
