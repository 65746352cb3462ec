-- Globals have a code, so they can be what a struct stands for.
use Rattle.std.specs.Prelude.{◌≡◌, ℕ, ℤ, pos, ◌==◌, List, [], if◌then◌else◌, refl}
use Rattle.std.specs.Coded.{Coded, code_by, coded×, coded_list, coded_ℕ, coded_ℤ}
use Rattle.std.specs.FinMap as globals
use Rattle.global_defs.specs.Key.{Key, Sub, Number, Text}
use Rattle.global_defs.specs.Entry.{Globals}

-- a subscript as a tag, a number and bytes
abbrev pub sub_to : Sub → ℕ × (ℤ × List ℕ)
sub_to (Number x) = (0, (x, []))
sub_to (Text s) = (1, (pos 0, s))

abbrev pub sub_from : ℕ × (ℤ × List ℕ) → Sub
sub_from p = if p.0 == 0 then Number p.1.0 else Text p.1.1

abbrev pub sub_back : (s : Sub) → sub_from (sub_to s) ≡ s
sub_back (Number x) = refl
sub_back (Text s) = refl

abbrev pub sub_code : Coded Sub
sub_code = code_by (ℕ × (ℤ × List ℕ)) (coded× coded_ℕ (coded× coded_ℤ (coded_list coded_ℕ))) sub_to sub_from sub_back

abbrev pub key_code : Coded Key
key_code = code_by (List ℕ × List Sub) (coded× (coded_list coded_ℕ) (coded_list sub_code)) (λ k. (k.name, k.subs)) (λ p. record { name = p.0; subs = p.1 }) (λ _. refl)

abbrev pub globals_code : Coded Globals
globals_code = globals.code key_code (coded_list coded_ℕ)

abbrev pub node_code : Coded (Key × List ℕ)
node_code = coded× key_code (coded_list coded_ℕ)
