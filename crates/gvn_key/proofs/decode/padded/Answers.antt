use Rattle.std.proofs.Common.{◌≡◌, ap, ◌∙◌}
use Rattle.std.specs.List.{list_all}
use Rattle.std.specs.Char.{is_ascii_digit}
use Rattle.gvn_key.specs.Decoding.{padded}
use Rattle.gvn_key.proofs.DigitValues.{padded_digits}
use Rattle.gvn_key.proofs.decode.padded.Goals as goal

pub returns-clause-digits : goal.returns-clause-digits
returns-clause-digits c =
    let is : c.push_all.new.self ≡ padded c.args.count c.args.digits.now = cc (c.in_ok-push_all.ensures.ok, c.in_ok-made.ensures, c.zeros.ensures, c.saturating_sub.ensures) in
    ap (list_all is_ascii_digit) is ∙ padded_digits c.args.count c.args.digits.now c.requires.digits
