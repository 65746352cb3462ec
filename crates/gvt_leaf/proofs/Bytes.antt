-- The order of bytes, and of cells by it.
use Rattle.std.proofs.Common.{◌≡◌, ℕ, List, [], ◌∷◌, ◌++◌, ap, ◌∙◌}
use Rattle.std.specs.declared.cmp.Ordering.TheVariants.{Less, Equal, Greater}
use Rattle.std.specs.Ordering.{ordering_reverse}
use Rattle.std.specs.Cmp.Lexicographic.{nat_list_cmp_total}
use Rattle.std.specs.FinMap as globals
use Rattle.journal_defs.specs.Leaves.{Cell}
use Rattle.block_fmt.specs.Cells.{AreBelow, AreAbove}
use Rattle.gvt_leaf.specs.Order.{Rise}
use Rattle.gvt_leaf.proofs.Links.{all-append}
use Rattle.journal_laws.proofs.ImageSteps.{all_both as all_joined}
use Rattle.global_defs.proofs.Basics.{bytes_cmp}

pub flip : (a b : List ℕ) → bytes_cmp a b ≡ ordering_reverse (bytes_cmp b a)
flip a b = nat_list_cmp_total.antisymm a b

pub above_flips : (a b : List ℕ) → bytes_cmp a b ≡ Greater → bytes_cmp b a ≡ Less
above_flips a b h = flip b a ∙ ap ordering_reverse h

pub below_flips : (a b : List ℕ) → bytes_cmp a b ≡ Less → bytes_cmp b a ≡ Greater
below_flips a b h = flip b a ∙ ap ordering_reverse h

pub same_bytes : (a b : List ℕ) → bytes_cmp a b ≡ Equal → a ≡ b
same_bytes a b h = globals.slice_cmp-IsAntisymmetric globals.nat_cmp-IsAntisymmetric a b h

pub trans : (a b c : List ℕ) → bytes_cmp a b ≡ Less → bytes_cmp b c ≡ Less → bytes_cmp a c ≡ Less
trans a b c h k = nat_list_cmp_total.trans a b c h k

pub trans_above : (a b c : List ℕ) → bytes_cmp a b ≡ Greater → bytes_cmp b c ≡ Greater → bytes_cmp a c ≡ Greater
trans_above a b c h k = below_flips c a (trans c b a (above_flips b c k) (above_flips a b h))

-- cells below a key are below a greater one, and those above it above a smaller one
pub below_more : (cs : List Cell) (a b : List ℕ) → bytes_cmp a b ≡ Less → AreBelow cs a → AreBelow cs b
below_more [] a b low h = tt
below_more (c ∷ cs) a b low h = (trans c.0 a b h.0 low, below_more cs a b low h.1)

pub above_less : (cs : List Cell) (a b : List ℕ) → bytes_cmp a b ≡ Greater → AreAbove cs a → AreAbove cs b
above_less [] a b high h = tt
above_less (c ∷ cs) a b high h = (trans_above c.0 a b h.0 high, above_less cs a b high h.1)

-- rising cells on both sides of one
pub rise_before : (xs : List Cell) (c : Cell) (ys : List Cell) → Rise (xs ++ (c ∷ ys)) → AreBelow xs c.0
rise_before [] c ys h = tt
rise_before (x ∷ xs) c ys h = (above_flips c.0 x.0 (all-append (λ (d : Cell). bytes_cmp d.0 x.0 ≡ Greater) xs (c ∷ ys) h.0).1.0, rise_before xs c ys h.1)

pub rise_second : (xs ys : List Cell) → Rise (xs ++ ys) → Rise ys
rise_second [] ys h = h
rise_second (x ∷ xs) ys h = rise_second xs ys h.1

pub rise_first : (xs ys : List Cell) → Rise (xs ++ ys) → Rise xs
rise_first [] ys h = tt
rise_first (x ∷ xs) ys h = ((all-append (λ (d : Cell). bytes_cmp d.0 x.0 ≡ Greater) xs ys h.0).0, rise_first xs ys h.1)

-- rising cells without some in their midst
pub rise_without : (xs ys zs : List Cell) → Rise (xs ++ (ys ++ zs)) → Rise (xs ++ zs)
rise_without [] ys zs h = rise_second ys zs h
rise_without (x ∷ xs) ys zs h =
    let all = all-append (λ (d : Cell). bytes_cmp d.0 x.0 ≡ Greater) xs (ys ++ zs) h.0 in
    (all_joined (λ (d : Cell). bytes_cmp d.0 x.0 ≡ Greater) xs zs all.0 (all-append (λ (d : Cell). bytes_cmp d.0 x.0 ≡ Greater) ys zs all.1).1, rise_without xs ys zs h.1)
