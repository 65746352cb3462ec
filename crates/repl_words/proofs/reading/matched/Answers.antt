use Rattle.std.proofs.Common.{rules, ap, ap₂, codes, true, map, string_bytes, ◌≡◌, ◌∙◌}
use Rattle.std.proofs.lemmas.Result.{IfErr-weaker, IfOk-weaker}
use Rattle.clap.specs.Words.{App, app_of, first_of, found_of, is_simple, matches_of, rule_of, takes, with_rule}
use Rattle.clap.specs.Simple.{app_of_fields}
use Rattle.clap.proofs.WalkLemmas.{first_value-rows}
use Rattle.repl_words.proofs.Clapped.{disk_rule, start_app, run_app, words_matched, words_taken}
use Rattle.repl_words.proofs.reading.matched.Goals as goal

pub returns : goal.returns
returns c =
    let parse = c.try_get_matches_from in
    let texts = map string_bytes c.args.words.now in
    let rule_is : rule_of c.action-disk.result ≡ disk_rule = search rules in
    let start_is : app_of c.disable_help_flag.result ≡ start_app =
    ap app_of_fields c.disable_help_flag.ensures ∙ ap (λ (a : App). record a { top = record a.top { disable_help_flag = true } }) c.new-2.ensures.app in
    let app_is : app_of c.in_ok-run.run' ≡ run_app = c.in_ok-run.ensures.shape (search rules) ∙ ap₂ with_rule start_is rule_is in
    record {
      disk = λ h. IfOk-weaker parse.result _ _ (λ m k. first_value-rows (found_of m) (codes "disk")
          ∙ ap (first_of (codes "disk")) ((k (ap is_simple app_is)).0 ∙ ap (λ (a : App). matches_of a texts) app_is)
          ∙ words_matched texts h) parse.ensures.matches;
      memory = λ h. IfErr-weaker parse.result _ _ (λ e k. k (ap (λ (a : App). takes a texts) app_is ∙ words_taken texts h)) parse.ensures.passes;
    }
