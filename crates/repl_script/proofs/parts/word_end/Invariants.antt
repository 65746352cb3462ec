use Rattle.std.proofs.Common.{◌≡◌, ◌+◌, false, drop}
use Rattle.script_defs.specs.Parts.{part_end}
use Rattle.repl_script.proofs.parts.word_end.Given as goal

-- what stands before and what is still to come make the whole
abbrev pub invariant-loop-byte : goal.invariant-loop-byte
invariant-loop-byte l = record { place : l.at ≡ l.byte-index; same : l.at + part_end 32 l.quoted (drop l.byte-index l.text) ≡ part_end 32 false l.text }
