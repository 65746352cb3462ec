-- Whether a reign has begun by an entry.
use Rattle.std.proofs.Common.{◌≡◌, inl, inr, ℕ, ◌<◌, min, nat_le, Bool, true, false, List, [], ◌∷◌, length, map, get_or, Option, Some, None, is_some, refl, sym, ◌∙◌, ap, arith, if◌then◌else◌}
use Rattle.std.proofs.lemmas.Bool.{cases_lt}
use Rattle.std.proofs.lemmas.Bool.Decides.{nat_tests}
use Rattle.std.specs.Option.{option_or}
use Rattle.global_defs.specs.Entry.{Reign}
use Rattle.global_defs.specs.Prefix.{stamp_at}
use Rattle.mupip_recover.specs.Minima.{lesser, first_of, minima}
use Rattle.mupip_recover.specs.Stamps.{AreStarts}

-- a start that is there is up to a number
abbrev pub is_by : ℕ → Option ℕ → Bool
is_by n None = false
is_by n (Some s) = nat_le s n

either_there : {X : Type 0} (o : Option X) (b : Bool) (x : X) → is_some (option_or o (if b then Some x else None)) ≡ (if is_some o then true else b)
either_there None true x = refl
either_there None false x = refl
either_there (Some y) b x = refl

lesser_by : (n s : ℕ) (o : Option ℕ) → (if is_by n o then true else nat_le s n) ≡ is_by n (Some (lesser s o))
lesser_by n s None = refl
lesser_by n s (Some m) = elim (cases_lt n m) [
  | inl past ↦
      let a : nat_le m n ≡ false = grind (arith, nat_tests) in
      let b : nat_le (min s m) n ≡ nat_le s n = grind (arith, nat_tests) in
      rw (a, b) refl
  | inr within ↦
      let a : nat_le m n ≡ true = grind (arith, nat_tests) in
      let b : nat_le (min s m) n ≡ true = grind (arith, nat_tests) in
      rw (a, b) refl
]

by_minima : (n : ℕ) (rs : List Reign) → is_some (stamp_at n rs) ≡ is_by n (first_of (minima (map (λ r. r.start) rs)))
by_minima n [] = refl
by_minima n (r ∷ rs) =
    either_there (stamp_at n rs) (nat_le r.start n) r.stamp
    ∙ ap (λ (b : Bool). if b then true else nat_le r.start n) (by_minima n rs)
    ∙ lesser_by n r.start (first_of (minima (map (λ r. r.start) rs)))

-- by the first of the starts of these reigns
pub by_first : (n : ℕ) (rs : List Reign) (starts : List ℕ) → AreStarts rs starts → is_some (stamp_at n rs) ≡ is_by n (first_of starts)
by_first n rs starts are = by_minima n rs ∙ ap (λ (l : List ℕ). is_by n (first_of l)) (sym are)

pub none_by : (n : ℕ) (starts : List ℕ) → length starts ≡ 0 → is_by n (first_of starts) ≡ false
none_by n [] none = refl
none_by n (s ∷ ss) none = absurd (omega (arith, none))

pub some_by : (n : ℕ) (starts : List ℕ) (d : ℕ) → 0 < length starts → is_by n (first_of starts) ≡ nat_le (get_or starts 0 d) n
some_by n [] d some = absurd (omega (arith, some))
some_by n (s ∷ ss) d some = refl
