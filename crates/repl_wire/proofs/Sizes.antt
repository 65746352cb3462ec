-- Parts of a layout and the lengths of their bytes.
use Rattle.std.proofs.Common.{◌≡◌, ℕ, zero, suc, ◌+◌, ◌-◌, ◌*◌, ◌<◌, ◌≤◌, List, [], ◌∷◌, length, Bool, true, false, refl, subst, arith}
use Rattle.repl_wire.specs.Layout.{Rest, Sized, One, Numbered, Within, Named, Skipped}
use Rattle.repl_wire.specs.declared.field.Scan.{Scan}
use Rattle.repl_wire.specs.Scans.{Awaits}

-- two layouts of the same bytes
pub record Same (K L : Rest) : Type 0 where
  pub to : (w : List ℕ) → K w → L w
  pub back : (w : List ℕ) → L w → K w

pub awaits_same : (s : Scan) (K L : Rest) → Awaits s K → Same K L → Awaits s L
awaits_same s K L a e = record { sound = a.sound; only = λ w h. e.to w (a.only w h); each = λ w h. a.each w (e.back w h) }

pub numbered_map : (r n : ℕ) (K L : ℕ → Rest) → ((m : ℕ) (w : List ℕ) → K m w → L m w) → (w : List ℕ) → Numbered r n K w → Numbered r n L w
numbered_map zero n K L f w h = f n w h
numbered_map (suc r) n K L f [] h = absurd h
numbered_map (suc r) n K L f (b ∷ w) h = (h.0, numbered_map r (n * 256 + b) K L f w h.1)

-- a number above 0 and the one before it
pub before : (P : ℕ → ℕ → Type 0) (n : ℕ) → 0 < n → ((m : ℕ) → P (suc m) m) → P n (n - 1)
before P zero h f = absurd (omega arith)
before P (suc m) h f = let e : m ≡ suc m - 1 = omega arith in subst (λ (k : ℕ). P (suc m) k) e (f m)

module _ (total left : ℕ) (K L : ℕ → Rest) (same : (n : ℕ) → Same (L n) (Sized (K n) left)) where
  pub one_to : total ≡ suc left → (w : List ℕ) → One L w → Sized (One K) total w
  one_to e [] h = absurd h
  one_to e (b ∷ w) h = let s = (same b).to w h in (s.0, omega (arith, s.1))

  pub one_back : total ≡ suc left → (w : List ℕ) → Sized (One K) total w → One L w
  one_back e [] h = absurd h.0
  one_back e (b ∷ w) h = let size : length w ≡ left = omega (arith, h.1) in (same b).back w (h.0, size)

  pub number_to : (r n : ℕ) → (t : ℕ) → t ≡ r + left → (w : List ℕ) → Numbered r n L w → Sized (Numbered r n K) t w
  number_to zero n t e w h = let s = (same n).to w h in (s.0, omega (arith, s.1))
  number_to (suc r) n t e [] h = absurd h
  number_to (suc r) n t e (b ∷ w) h =
      let s = number_to r (n * 256 + b) (r + left) refl w h.1 in
      ((h.0, s.0), omega (arith, s.1))

  pub number_back : (r n : ℕ) → (t : ℕ) → t ≡ r + left → (w : List ℕ) → Sized (Numbered r n K) t w → Numbered r n L w
  number_back zero n t e w h = let size : length w ≡ left = omega (arith, h.1) in (same n).back w (h.0, size)
  number_back (suc r) n t e [] h = absurd h.0
  number_back (suc r) n t e (b ∷ w) h =
      let size : length w ≡ r + left = omega (arith, h.1) in
      (h.0.0, number_back r (n * 256 + b) (r + left) refl w (h.0.1, size))

pub one_same : (total left : ℕ) (K L : ℕ → Rest) → ((n : ℕ) → Same (L n) (Sized (K n) left)) → total ≡ suc left → Same (One L) (Sized (One K) total)
one_same total left K L same e = record { to = one_to total left K L same e; back = one_back total left K L same e }

pub number_same : (total left r : ℕ) (K L : ℕ → Rest) → ((n : ℕ) → Same (L n) (Sized (K n) left)) → total ≡ r + left → Same (Numbered r 0 L) (Sized (Numbered r 0 K) total)
number_same total left r K L same e = record { to = number_to total left K L same r 0 total e; back = number_back total left K L same r 0 total e }

-- bounds that no number outside keeps
pub within_same : (lo hi low high left : ℕ) (K L : ℕ → Rest) (n : ℕ) → lo ≤ low → high ≤ hi → Same (L n) (Sized (K n) left)
    → ((w : List ℕ) → lo ≤ n → n ≤ hi → K n w → length w ≡ left → (low ≤ n) × (n ≤ high))
    → Same (Within low high L n) (Sized (Within lo hi K n) left)
within_same lo hi low high left K L n below above same bounds = record {
  to = λ w h. let s = same.to w h.2 in ((omega arith, omega arith, s.0), s.1);
  back = λ w h. let b = bounds w h.0.0 h.0.1 h.0.2 h.1 in (b.0, b.1, same.back w (h.0.2, h.1));
}

pub named_to : (first : Bool) (n left t : ℕ) (K : Rest) → t ≡ n + left → (w : List ℕ) → Named first n (Sized K left) w → Sized (Named first n K) t w
named_to first zero left t K e w h = (h.0, omega (arith, h.1))
named_to first (suc n) left t K e [] h = absurd h
named_to first (suc n) left t K e (b ∷ w) h =
    let s = named_to false n left (n + left) K refl w h.1 in
    ((h.0, s.0), omega (arith, s.1))

pub named_back : (first : Bool) (n left t : ℕ) (K : Rest) → t ≡ n + left → (w : List ℕ) → Sized (Named first n K) t w → Named first n (Sized K left) w
named_back first zero left t K e w h = (h.0, omega (arith, h.1))
named_back first (suc n) left t K e [] h = absurd h.0
named_back first (suc n) left t K e (b ∷ w) h =
    let size : length w ≡ n + left = omega (arith, h.1) in
    (h.0.0, named_back false n left (n + left) K refl w (h.0.1, size))

pub named_same : (n left t : ℕ) (K : Rest) → t ≡ n + left → Same (Named true n (Sized K left)) (Sized (Named true n K) t)
named_same n left t K e = record { to = named_to true n left t K e; back = named_back true n left t K e }

pub skipped_to : (n left t : ℕ) (K : Rest) → t ≡ n + left → (w : List ℕ) → Skipped n (Sized K left) w → Sized (Skipped n K) t w
skipped_to zero left t K e w h = (h.0, omega (arith, h.1))
skipped_to (suc n) left t K e [] h = absurd h
skipped_to (suc n) left t K e (b ∷ w) h =
    let s = skipped_to n left (n + left) K refl w h in
    (s.0, omega (arith, s.1))

pub skipped_back : (n left t : ℕ) (K : Rest) → t ≡ n + left → (w : List ℕ) → Sized (Skipped n K) t w → Skipped n (Sized K left) w
skipped_back zero left t K e w h = (h.0, omega (arith, h.1))
skipped_back (suc n) left t K e [] h = absurd h.0
skipped_back (suc n) left t K e (b ∷ w) h =
    let size : length w ≡ n + left = omega (arith, h.1) in
    skipped_back n left (n + left) K refl w (h.0, size)

pub skipped_same : (n left t : ℕ) (K : Rest) → t ≡ n + left → Same (Skipped n (Sized K left)) (Sized (Skipped n K) t)
skipped_same n left t K e = record { to = skipped_to n left t K e; back = skipped_back n left t K e }

-- the same of K, and that bytes of K have the length
pub sized_same : (K : Rest) (left : ℕ) → Same (Sized K left) (Sized K left)
sized_same K left = record { to = λ w h. h; back = λ w h. h }
