use Rattle.std.proofs.Common.{◌≡◌, ◌∙◌, ◌+◌, ◌++◌, ap, sym, arith, position, take, drop, List, ℕ}
use Rattle.std.proofs.lemmas.Result.{on_ok_weaker}
use Rattle.global_defs.specs.Numeral.{all_digits, digits_at, is_point}
use Rattle.gvn_key.specs.Stripped.{stripped, number_code, with_zeros}
use Rattle.gvn_key.proofs.Numbers.{number_coded, no_zeros, tail_is, whole_coded, whole_few}
use Rattle.gvn_key.proofs.encoding.push_magnitude.Goals as goal

pub push_signed-requires : goal.push_signed-requires
push_signed-requires c =
    let few = whole_few c.args.bytes.now (position is_point c.args.bytes.now) (sym c.point.ensures.place ∙ c.in-None.is) c.requires.few in
    omega (arith, c.stripped.ensures.shorter)

pub returns-in-None : goal.returns-in-None
returns-in-None c = on_ok_weaker c.push_signed.result (λ e. e ∙ ap (λ (x : List ℕ). c.args.out.now ++ x) (ap (λ (ds : List ℕ). number_code c.args.negative (with_zeros 18 ds)) c.stripped.ensures.value
    ∙ whole_coded c.args.negative c.args.bytes.now (position is_point c.args.bytes.now) (sym c.point.ensures.place ∙ c.in-None.is) c.requires.digits c.requires.few)) c.push_signed.ensures

pub returns-in_ok-digits-in-Some : goal.returns-in_ok-digits-in-Some
returns-in_ok-digits-in-Some c =
    let bytes : List ℕ = c.args.bytes.now in
    let digits : List ℕ = digits_at bytes (position is_point bytes) in
    let parts : digits ≡ all_digits (take c.in-Some.i bytes) (drop (c.in-Some.i + 1) bytes) = ap (λ place. digits_at bytes place) (sym c.point.ensures.place ∙ c.in-Some.is) in
    let read : c.as_slice.result.now ≡ all_digits (take c.in-Some.i bytes) (drop (c.in-Some.i + 1) bytes) =
    c.as_slice.ensures ∙ c.in_ok-digits-in-Some.ensures ∙ ap (λ (f : List ℕ). all_digits (take c.in-Some.i bytes) f) (sym (tail_is (c.in-Some.i + 1) bytes)) in
    let coded = no_zeros c.stripped-in-Some.result.now ∙ c.stripped-in-Some.ensures.value ∙ ap stripped (read ∙ sym parts) in
    on_ok_weaker c.push_signed-in-Some.result (λ e. e ∙ ap (λ (x : List ℕ). c.args.out.now ++ x) (ap (λ (ds : List ℕ). number_code c.args.negative ds) coded
    ∙ number_coded c.args.negative digits c.requires.digits (omega (arith, c.requires.few)))) c.push_signed-in-Some.ensures
