-- Numbers as bytes, the highest first.
use Rattle.std.proofs.Common.{◌≡◌, ℕ, zero, suc, ◌+◌, ◌*◌, ◌/◌, ◌%◌, ◌^◌, ◌<◌, ◌≤◌, List, [], ◌∷◌, ◌++◌, refl, sym, ap, ◌∙◌, subst, arith}
use Rattle.std.proofs.Math.Nat.{pow-suc}
use Rattle.std.proofs.lemmas.Nat.{le-div, div_below, div-add-mod', mod_below, mul-le}
use Rattle.std.specs.Int.{byte_at, bytes_high_first}
use Rattle.repl_wire.specs.Fronts.{unit}
use Rattle.repl_wire.specs.Layout.{Rest, Numbered}
use Rattle.repl_wire.proofs.Digits.{unit_pos}

unit_is : (r : ℕ) → unit r ≡ 256 ^ r
unit_is zero = refl
unit_is (suc r) = omega (arith, unit_is r, pow-suc 256 r)

byte_is : (r n : ℕ) → byte_at r n ≡ n / unit r % 256
byte_is zero n = let e : n / 1 ≡ n = omega arith in ap (λ q. q % 256) (sym e)
byte_is (suc r) n = ap (λ u. n / u % 256) (sym (unit_is (suc r)))

-- the highest byte of a number behind those of its front
pub high_byte : (r v n : ℕ) → v * unit (suc r) ≤ n → n < (v + 1) * unit (suc r) → v * 256 + byte_at r n ≡ n / unit r
high_byte r v n from below =
    let least : v * 256 ≤ n / unit r = le-div (v * 256) n (unit r) (unit_pos r) (omega arith) in
    let most : n / unit r < (v + 1) * 256 = div_below n (unit r) ((v + 1) * 256) (unit_pos r) (omega arith) in
    let b = byte_is r n in
    omega (arith, least, most, b)

-- a number, its bytes and what follows them
pub record Spelt (r v : ℕ) (K : ℕ → Rest) (w : List ℕ) : Type 0 where
  pub number : ℕ
  pub rest : List ℕ
  pub holds : K number rest
  pub from : v * unit r ≤ number
  pub below : number < (v + 1) * unit r
  pub is : w ≡ bytes_high_first r number ++ rest

pub spelt_from : (r v : ℕ) (K : ℕ → Rest) (w : List ℕ) → Numbered r v K w → Spelt r v K w
spelt_from zero v K w h = record { number = v; rest = w; holds = h; from = omega arith; below = omega arith; is = refl }
spelt_from (suc r) v K [] h = absurd h
spelt_from (suc r) v K (b ∷ w) h =
    let s = spelt_from r (v * 256 + b) K w h.1 in
    let small = h.0 in
    let pos = unit_pos r in
    let q = div-add-mod' s.number (unit r) in
    let m = mod_below s.number (unit r) pos in
    let least : v * 256 + b ≤ s.number / unit r = le-div (v * 256 + b) s.number (unit r) pos s.from in
    let most : s.number / unit r < v * 256 + b + 1 = div_below s.number (unit r) (v * 256 + b + 1) pos s.below in
    let quotient : s.number / unit r ≡ v * 256 + b = omega (arith, least, most) in
    let from : v * unit (suc r) ≤ s.number = omega (arith, s.from) in
    let below : s.number < (v + 1) * unit (suc r) = whole_below (v * 256 + b) (v * 256 + 256) (unit r) s.number s.below (omega (arith, small)) (v + 1) (omega arith) in
    let high : v * 256 + byte_at r s.number ≡ s.number / unit r = high_byte r v s.number from below in
    let same : b ≡ byte_at r s.number = omega (arith, high, quotient) in
    record { number = s.number; rest = s.rest; holds = s.holds; from = from; below = below; is = ap (λ (x : ℕ). x ∷ w) same ∙ ap (λ (l : List ℕ). byte_at r s.number ∷ l) s.is }
  where
    whole_below : (a c u n : ℕ) → n < (a + 1) * u → a + 1 ≤ c → (d : ℕ) → c ≡ d * 256 → n < d * (256 * u)
    whole_below a c u n h le d e = omega (arith, h, mul-le (a + 1) u c u le (omega arith), ap (λ (x : ℕ). x * u) e)

pub spelt_to : (r v n : ℕ) (K : ℕ → Rest) (rest : List ℕ) → v * unit r ≤ n → n < (v + 1) * unit r → K n rest → Numbered r v K (bytes_high_first r n ++ rest)
spelt_to zero v n K rest from below h = let e : n ≡ v = omega (arith, from, below) in subst (λ (m : ℕ). K m rest) e h
spelt_to (suc r) v n K rest from below h =
    let high = high_byte r v n from below in
    let pos = unit_pos r in
    let q = div-add-mod' n (unit r) in
    let m = mod_below n (unit r) pos in
    let b = byte_is r n in
    let small : byte_at r n < 256 = omega (arith, b) in
    let scaled = ap (λ (x : ℕ). x * unit r) high in
    (small, spelt_to r (v * 256 + byte_at r n) n K rest (omega (arith, scaled, q)) (omega (arith, scaled, q, m)) h)
