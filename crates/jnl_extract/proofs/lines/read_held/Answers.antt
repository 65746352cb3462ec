use Rattle.std.proofs.Common.{◌≡◌, ◌∷◌, ◌++◌, List, ℕ, ap, sym, ◌∙◌, refl}
use Rattle.script_defs.specs.Statements.{statement_text}
use Rattle.jnl_extract.specs.Updates.{statement_of}
use Rattle.jnl_extract.specs.Lines.{update_word, update_tail}
use Rattle.gvn_key.specs.Terms.{update_value}
use Rattle.jnl_extract.proofs.LineLaws.{update_words, spaced, no_space, no_update, of_some}
use Rattle.std.specs.Prelude.{◌==◌, false}
use Rattle.std.specs.List.{list_any}
use Rattle.std.specs.Option.{option_map}
use Rattle.jnl_extract.specs.Extracts.{IsSpelled}
use Rattle.jnl_extract.proofs.Cuts.{one_cut}
use Rattle.jnl_extract.proofs.lines.read_held.Goals as goal

pub returns-then-has_space : goal.returns-then-has_space
returns-then-has_space c u p e f = spaced c.args.word.now u (sym c.has_space.ensures ∙ c.if-has_space.true) e

pub returns-in-None : goal.returns-in-None
returns-in-None c u p e f =
    let t : c.args.word.now ++ 32 ∷ c.args.tail.now ≡ update_word u ++ 32 ∷ update_tail u =
    ap (λ (x : List ℕ). x ++ 32 ∷ c.args.tail.now) e ∙ ap (λ (x : List ℕ). update_word u ++ 32 ∷ x) f in
    let text : c.args.word.now ++ 32 ∷ c.args.tail.now ≡ statement_text (statement_of u) = t ∙ sym (update_words u) in
    let o = c.in_ok-read_update.ensures.only u p text in
    no_update (option_map update_value c.in_ok-read_update.field-0) u (ap (option_map update_value) c.in-None.is) o

pub returns-in-Some : goal.returns-in-Some
returns-in-Some c =
    let u = update_value c.in-Some.update in
    let text : c.args.word.now ++ 32 ∷ c.args.tail.now ≡ statement_text (statement_of u) =
    of_some c.in_ok-read_update.field-0 c.in-Some.update (λ x. c.args.word.now ++ 32 ∷ c.args.tail.now ≡ statement_text (statement_of (update_value x))) c.in-Some.is c.in_ok-read_update.ensures.found in
    let spelled : IsSpelled u = of_some c.in_ok-read_update.field-0 c.in-Some.update (λ x. IsSpelled (update_value x)) c.in-Some.is c.in_ok-read_update.ensures.spelled in
    let clean : list_any (λ b. b == 32) c.args.word.now ≡ false = sym c.has_space.ensures ∙ c.if-has_space.false in
    let s = one_cut 32 c.args.word.now c.args.tail.now (update_word u) (update_tail u) clean (no_space u) (text ∙ update_words u) in
    record { update = u; line_is = refl; spelled = spelled; word_is = s.0; tail_is = s.1 }
