-- The sections that lines come to are sound, and their commands are whole and of their form.
use Rattle.std.proofs.Common.{◌≡◌, ℕ, ◌≤◌, true, List, [], ◌∷◌, refl, sym, subst, take, inl, inr, arith}
use Rattle.std.proofs.lemmas.Bool.{cases_Bool}
use Rattle.std.proofs.lemmas.Bool.Decides.{nat_tests}
use Rattle.global_defs.specs.Jobs.{Statement}
use Rattle.script_defs.specs.Parts.{word_end}
use Rattle.script_defs.proofs.StatementsRead.{statement_read}
use Rattle.command_defs.specs.Commands.{Command, IsFormed, IsWhole}
use Rattle.command_defs.specs.Sections.{Section, begun, is_open, with_statement, IsSound}
use Rattle.command_defs.specs.Updaters.{UPDATERS, is_updater}
use Rattle.command_defs.specs.Script.{Outside, Within, Goes, Ends, line_reading}
use Rattle.command_defs.specs.Spelling.{HasRoom, IsStatementLine, Continues, begins, commits, states}
use Rattle.command_defs.proofs.Sounds.{sound_begun, sound_with_job, sound_transaction_begun, sound_transaction_ended, sound_longer, uses_up, formed_run}
use Rattle.command_defs.proofs.UpdateWords.{update_word}
use Rattle.command_defs.proofs.Sizes.{one_small, open_sized, still_sized}
use Rattle.command_defs.proofs.LineLaws.{command_spelled, section_spelled}
use Rattle.command_defs.proofs.SectionLaws.{section_goes, section_ends, roomy}
use Rattle.command_defs.proofs.Orders.{order_told}

updater_is : (u : ℕ) → 1 ≤ u → u ≤ UPDATERS → is_updater u ≡ true
updater_is u low high = grind (arith, nat_tests)

stated_sound : (s : Section) (line : List ℕ) (u : ℕ) (statement : Statement) → IsSound s → is_updater u ≡ true → HasRoom s u statement → IsStatementLine u statement line → IsSound (with_statement s u statement)
stated_sound s line u statement h is room l =
    let read = statement_read l.text statement l.spelled in
    let free = roomy s u (take (word_end l.text) l.text) statement room (update_word l.text statement read) in
    elim (cases_Bool (is_open s u)) [
      | inl opens ↦ (let small = still_sized s u (take (word_end l.text) l.text) l.text statement (λ o. open_sized s u h is o) free refl read opens in
          rw opens (sound_longer s u statement h is small))
      | inr closed ↦ rw closed (sound_with_job s u (statement ∷ []) h is (one_small statement))
    ]

continued_sound : (s : Section) (line : List ℕ) (next : Section) → IsSound s → Continues s line next → IsSound next
continued_sound s line _ h (begins u low high closed l) = sound_transaction_begun s u h (updater_is u low high)
continued_sound s line _ h (commits u low high opens l) = sound_transaction_ended s u h (updater_is u low high)
continued_sound s line _ h (states u statement low high room l) = stated_sound s line u statement h (updater_is u low high) room l

goes_within : (s t : Section) → Within s ≡ Within t → s ≡ t
goes_within s t e = cc

pub begun_sound : (line : List ℕ) (s : Section) → line_reading Outside line ≡ Goes (Within s) → IsSound s
begun_sound line s e = let g = section_spelled line (Within s) e in subst IsSound (sym (goes_within s (begun g.0) g.1)) (sound_begun g.0 g.2.is_site)

pub stays_sound : (s : Section) (line : List ℕ) (next : Section) → IsSound s → line_reading (Within s) line ≡ Goes (Within next) → IsSound next
stays_sound s line next h e = let g = section_goes s line (Within next) e in subst IsSound (sym (goes_within next g.0 g.1)) (continued_sound s line g.0 h g.2)

pub command_complete : (line : List ℕ) (c : Command) → line_reading Outside line ≡ Ends c → IsFormed c × IsWhole c
command_complete line c e = (order_told (command_spelled line c e).order).complete

pub run_complete : (s : Section) (line : List ℕ) (c : Command) → IsSound s → line_reading (Within s) line ≡ Ends c → IsFormed c × IsWhole c
run_complete s line c h e = subst (λ x. IsFormed x × IsWhole x) (sym (section_ends s line c e).0) (formed_run s h, uses_up s h)
