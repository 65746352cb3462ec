-- Numbers of which the first bytes have come.
use Rattle.std.proofs.Common.{◌≡◌, ℕ, zero, suc, ◌+◌, ◌-◌, ◌*◌, ◌/◌, ◌<◌, ◌≤◌, List, [], ◌∷◌, refl, arith}
use Rattle.std.proofs.lemmas.Nat.{mul-le, div-add-mod', mod_below, le-div, div_below}
use Rattle.repl_wire.specs.declared.front.Front.{Front}
use Rattle.repl_wire.specs.Fronts.{unit, IsMet, IsOpen, taken}
use Rattle.repl_wire.specs.Layout.{Rest, Numbered, Within}
use Rattle.repl_wire.proofs.Sizes.{Same, before}

pub unit_pos : (r : ℕ) → 0 < unit r
unit_pos zero = omega arith
unit_pos (suc r) = let p = unit_pos r in omega arith

-- a number of a front's bytes begins with them
pub below_quotient : (v u high : ℕ) → v ≤ high / u → v * u ≤ high
below_quotient v u high h = omega (arith, mul-le v u (high / u) u h (omega arith), div-add-mod' high u)

pub above_quotient : (v u low : ℕ) → 0 < u → low / u ≤ v → low < (v + 1) * u
above_quotient v u low pos h = omega (arith, mul-le (low / u) u v u h (omega arith), div-add-mod' low u, mod_below low u pos)

pub is_below_quotient : (v u high : ℕ) → 0 < u → v * u ≤ high → v ≤ high / u
is_below_quotient v u high pos h = le-div v high u pos h

pub is_above_quotient : (v u low : ℕ) → 0 < u → low < (v + 1) * u → low / u ≤ v
is_above_quotient v u low pos h = omega (arith, div_below low u (v + 1) pos h)

-- what a number of so many more bytes can be
pub record Reached (K : ℕ → Rest) (missing value : ℕ) : Type 0 where
  pub number : ℕ
  pub rest : List ℕ
  pub holds : K number rest
  pub from : value * unit missing ≤ number
  pub below : number < (value + 1) * unit missing

pub reached : (missing value : ℕ) (K : ℕ → Rest) (w : List ℕ) → Numbered missing value K w → Reached K missing value
reached zero value K w h = record { number = value; rest = w; holds = h; from = omega arith; below = omega arith }
reached (suc r) value K [] h = absurd h
reached (suc r) value K (b ∷ w) h =
    let d = reached r (value * 256 + b) K w h.1 in
    let small = h.0 in
    let less = mul-le b (unit r) 255 (unit r) (omega (arith, small)) (omega arith) in
    record { number = d.number; rest = d.rest; holds = d.holds; from = omega (arith, d.from); below = omega (arith, d.below, less) }

-- no number goes on with a byte where the front doesn't
pub not_met : (f : Front) (byte : ℕ) (K : ℕ → Rest) (w : List ℕ) → IsOpen f → byte < 256 → (IsMet (taken f byte) → ⊥) → Numbered f.missing f.value (Within f.low f.high K) (byte ∷ w) → ⊥
not_met f byte K w o small none h = before (λ (m p : ℕ). ((f.value * 256 + byte) * unit p ≤ f.high → f.low < (f.value * 256 + byte + 1) * unit p → ⊥) → Numbered m f.value (Within f.low f.high K) (byte ∷ w) → ⊥) f.missing (omega (arith, o.some))
    (λ r bad g. let d = reached r (f.value * 256 + byte) (Within f.low f.high K) w g.1 in bad (omega (arith, d.from, d.holds.1)) (omega (arith, d.below, d.holds.0)))
    (λ past reaches. none (record { not_past = past; reaches = reaches; bounds = o.met.bounds; small = o.met.small }))
    h

-- one byte of a number
pub stepped : (f : Front) (byte : ℕ) (L : ℕ → Rest) → IsOpen f → byte < 256 → Same (Numbered (f.missing - 1) (f.value * 256 + byte) (Within f.low f.high L)) (λ w. Numbered f.missing f.value (Within f.low f.high L) (byte ∷ w))
stepped f byte L o small = before (λ (m p : ℕ). Same (Numbered p (f.value * 256 + byte) (Within f.low f.high L)) (λ w. Numbered m f.value (Within f.low f.high L) (byte ∷ w))) f.missing (omega (arith, o.some))
    (λ r. record { to = λ w h. (small, h); back = λ w h. h.1 })

pub met_parts : (f : Front) (byte : ℕ) → IsMet (taken f byte) → ((f.value * 256 + byte) * unit (f.missing - 1) ≤ f.high) × (f.low < (f.value * 256 + byte + 1) * unit (f.missing - 1))
met_parts f byte m = (m.not_past, m.reaches)

pub met_from : (f : Front) (byte : ℕ) → IsOpen f → (f.value * 256 + byte) * unit (f.missing - 1) ≤ f.high → f.low < (f.value * 256 + byte + 1) * unit (f.missing - 1) → (taken f byte ≡ taken f byte) × IsMet (taken f byte)
met_from f byte o past reaches = (refl, record { not_past = past; reaches = reaches; bounds = o.met.bounds; small = o.met.small })
