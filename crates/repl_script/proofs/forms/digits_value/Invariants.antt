use Rattle.std.proofs.Common.{◌≡◌, ◌<◌, ◌^◌, take}
use Rattle.std.specs.Str.Parse.{digits_value}
use Rattle.repl_script.proofs.forms.digits_value.Given as goal

-- the number of the digits so far
abbrev pub invariant-loop-digit : goal.invariant-loop-digit
invariant-loop-digit l = record { sum : l.value ≡ digits_value 10 (take l.digit-index l.digits); fits : l.value < 2 ^ 64 }
