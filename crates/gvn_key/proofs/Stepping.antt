-- Each byte leads to the place whose completions stand behind it.
use Rattle.std.proofs.Common.{ℕ}
use Rattle.gvn_key.specs.Steps.{step}
use Rattle.gvn_key.specs.declared.place.Place.{Place}
use Rattle.gvn_key.specs.declared.place.Place.TheVariants.{Name, Boundary, Exponent, Digits, Text, Escape}
use Rattle.gvn_key.proofs.NameSteps.{Follows, name_follows}
use Rattle.gvn_key.proofs.DigitSteps.{exponent_follows, digits_follow}
use Rattle.gvn_key.proofs.TextSteps.{text_follows, escape_follows}
use Rattle.gvn_key.proofs.SubSteps.{boundary_follows}

pub follows : (p : Place) (b : ℕ) → Follows p b (step p b)
follows (Name n) b = name_follows n b
follows (Boundary subs) b = boundary_follows subs b
follows (Exponent subs negative) b = exponent_follows subs negative b
follows (Digits subs number) b = digits_follow subs number b
follows (Text subs numeral) b = text_follows subs numeral b
follows (Escape subs numeral) b = escape_follows subs numeral b
