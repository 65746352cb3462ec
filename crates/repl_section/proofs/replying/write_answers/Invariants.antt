use Rattle.std.proofs.Common.{◌≡◌, ◌++◌, take}
use Rattle.site_defs.specs.Texts.{answers_text}
use Rattle.repl_section.proofs.replying.write_answers.Given as goal

abbrev pub invariant-loop-answer : goal.invariant-loop-answer
invariant-loop-answer l = l.text ≡ l.fn.text ++ answers_text (take l.answer-index l.answer-items)
