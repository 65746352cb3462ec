use Rattle.std.proofs.Common.{string_bytes, sym, subst, List, ℕ, ◌≡◌, ◌∙◌, ap, codes, true, Bool}
use Rattle.std.specs.Str.{bytes_eq}
use Rattle.repl_words.proofs.Tested.{told_run}
use Rattle.repl_words.proofs.grammar.is_command_line.Goals as goal

pub returns-then-eq : goal.returns-then-eq
returns-then-eq c =
    let is : bytes_eq (string_bytes c.first-item.result) (codes "run") ≡ true =
    ap (λ (t : List ℕ). bytes_eq t (codes "run")) (sym c.as_str.ensures.value) ∙ sym c.eq.ensures ∙ c.if-eq.true in
    told_run string_bytes c.args.words.now c.first-item.result c.are_options.result c.in-len1-up.len_at_least c.first-item.is is c.are_options.ensures
