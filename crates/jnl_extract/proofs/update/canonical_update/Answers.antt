use Rattle.std.proofs.Common.{List, ℕ, sym, subst}
use Rattle.script_defs.specs.Statements.{SpellsStatement}
use Rattle.jnl_extract.specs.Updates.{statement_of}
use Rattle.jnl_extract.proofs.Canonical.{nothing_found, statement_found}
use Rattle.jnl_extract.proofs.update.canonical_update.Goals as goal

pub returns-in-None-clause-only : goal.returns-in-None-clause-only
returns-in-None-clause-only c u p e =
    absurd (nothing_found c.in_ok-spelled_statement.field-0 (statement_of u) c.in-None.is
    (c.in_ok-spelled_statement.ensures.only (statement_of u) (subst (λ (x : List ℕ). SpellsStatement x (statement_of u)) (sym e) p)))

pub returns-in-Some-clause-only : goal.returns-in-Some-clause-only
returns-in-Some-clause-only c u p e =
    c.canonical.ensures.only u (statement_found c.in_ok-spelled_statement.field-0 c.in-Some.statement (statement_of u) c.in-Some.is
    (c.in_ok-spelled_statement.ensures.only (statement_of u) (subst (λ (x : List ℕ). SpellsStatement x (statement_of u)) (sym e) p))) e
