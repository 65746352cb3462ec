use Rattle.std.proofs.Common.{◌≡◌, ◌⊎◌, inl, inr, ℕ, ◌+◌, ◌-◌, ◌*◌, ◌^◌, ◌<◌, ◌≤◌, Bool, false, IsTrue, List, [], ◌∷◌, ◌++◌, length, map, min, take, get_or, refl, sym, ◌∙◌, ap, subst, arith, rules}
use Rattle.std.proofs.lemmas.Bool.{cases_lt}
use Rattle.std.proofs.lemmas.List.{take_more, take_all, map-append, length-take}
use Rattle.global_defs.specs.Entry as defs
use Rattle.global_defs.specs.Prefix.{History}
use Rattle.gvn_model.specs.declared.reign.Reign.{Reign}
use Rattle.gvn_model.specs.Reigns.{stamp_value, reign_value}
use Rattle.gvn_model.specs.Entries.{history_value}
use Rattle.resync_core.proofs.Walking as walk
use Rattle.resync_core.proofs.Walking.{IsWalked}
use Rattle.resync_core.proofs.resync.common.Goals as goal

-- the last reign of some, behind the others
last_apart : (xs : List Reign) (x : Reign) → 1 ≤ length xs → x ≡ get_or xs (length xs - 1) x → map reign_value xs ≡ map reign_value (take (length xs - 1) xs) ++ reign_value x ∷ []
last_apart xs x some is =
    let size : length xs - 1 + 1 ≡ length xs = omega arith in
    let whole : take (length xs - 1 + 1) xs ≡ xs = take_all (length xs - 1 + 1) xs (omega arith) in
    ap (map reign_value) (sym whole ∙ take_more xs (length xs - 1) x (omega arith) ∙ ap (λ (y : Reign). take (length xs - 1) xs ++ y ∷ []) (sym is))
    ∙ map-append reign_value (take (length xs - 1) xs) (x ∷ [])

none_left : (xs : List Reign) → length xs < 1 → map reign_value xs ≡ []
none_left [] low = refl
none_left (x ∷ xs) low = absurd (omega arith)

shorter : (n : ℕ) (xs : List Reign) → length (take n xs) ≤ length xs
shorter n xs = let size = length-take n xs in omega arith

refuted : (b : Bool) → b ≡ false → IsTrue b → ⊥
refuted b is told = let untrue : IsTrue false = subst IsTrue is told in cc

first_apart : (a b : History) (most : ℕ) (xs : List Reign) (ys : List defs.Reign) (x : Reign) → 1 ≤ length xs → x ≡ get_or xs (length xs - 1) x
    → IsWalked a b most (map reign_value xs) ys → IsWalked a b most (map reign_value (take (length xs - 1) xs) ++ reign_value x ∷ []) ys
first_apart a b most xs ys x some is w = subst (λ (l : List defs.Reign). IsWalked a b most l ys) (last_apart xs x some is) w

second_apart : (a b : History) (most : ℕ) (xs : List defs.Reign) (ys : List Reign) (y : Reign) → 1 ≤ length ys → y ≡ get_or ys (length ys - 1) y
    → IsWalked a b most xs (map reign_value ys) → IsWalked a b most xs (map reign_value (take (length ys - 1) ys) ++ reign_value y ∷ [])
second_apart a b most xs ys y some is w = subst (λ (l : List defs.Reign). IsWalked a b most xs l) (last_apart ys y some is) w

both_apart : (a b : History) (most : ℕ) (xs ys : List Reign) (x y : Reign) → 1 ≤ length xs → x ≡ get_or xs (length xs - 1) x → 1 ≤ length ys → y ≡ get_or ys (length ys - 1) y
    → IsWalked a b most (map reign_value xs) (map reign_value ys)
    → IsWalked a b most (map reign_value (take (length xs - 1) xs) ++ reign_value x ∷ []) (map reign_value (take (length ys - 1) ys) ++ reign_value y ∷ [])
both_apart a b most xs ys x y some is more its w =
    second_apart a b most (map reign_value (take (length xs - 1) xs) ++ reign_value x ∷ []) ys y more its (first_apart a b most xs (map reign_value ys) x some is w)

-- and together again
first_whole : (a b : History) (most : ℕ) (xs : List Reign) (ys : List defs.Reign) (x : Reign) → 1 ≤ length xs → x ≡ get_or xs (length xs - 1) x
    → IsWalked a b most (map reign_value (take (length xs - 1) xs) ++ reign_value x ∷ []) ys → IsWalked a b most (map reign_value xs) ys
first_whole a b most xs ys x some is w = subst (λ (l : List defs.Reign). IsWalked a b most l ys) (sym (last_apart xs x some is)) w

second_whole : (a b : History) (most : ℕ) (xs : List defs.Reign) (ys : List Reign) (y : Reign) → 1 ≤ length ys → y ≡ get_or ys (length ys - 1) y
    → IsWalked a b most xs (map reign_value (take (length ys - 1) ys) ++ reign_value y ∷ []) → IsWalked a b most xs (map reign_value ys)
second_whole a b most xs ys y some is w = subst (λ (l : List defs.Reign). IsWalked a b most xs l) (sym (last_apart ys y some is)) w

pub loop-first-init : goal.loop-first-init
loop-first-init c =
    let a : History = history_value c.args.a.now in
    let b : History = history_value c.args.b.now in
    let least = c.min-most.ensures in
    record {
      walked =
          subst (λ (l : List defs.Reign). IsWalked a b c.min-most.result l (map reign_value c.as_slice-second.result.now)) (sym c.as_slice-first.ensures)
          (subst (λ (l : List defs.Reign). IsWalked a b c.min-most.result a.reigns l) (sym c.as_slice-second.ensures) (walk.begins a b c.min-most.result (omega arith) (omega arith) (either a.length b.length c.min-most.result least)));
      first_fits = omega arith;
      second_fits = omega arith;
    }
  where
    either : (m n k : ℕ) → k ≡ min m n → (m ≤ k) ⊎ (n ≤ k)
    either m n k is = elim (cases_lt m n) [
      | inl less ↦ inl (omega arith)
      | inr more ↦ inr (omega arith)
    ]

pub offset_bounds : goal.offset_bounds
offset_bounds c =
    let fits = c.loop-first.invariant.first_fits in
    let size : length c.as_slice-first.result.now * 40 < 2 ^ 63 = search rules in
    omega arith

pub offset_bounds-in-loop-first : goal.offset_bounds-in-loop-first
offset_bounds-in-loop-first c =
    let fits = c.loop-first.invariant.second_fits in
    let size : length c.as_slice-second.result.now * 40 < 2 ^ 63 = search rules in
    omega arith

pub returns-then-is_same : goal.returns-then-is_same
returns-then-is_same c =
    let xs : List Reign = c.loop-first.first.now in
    let ys : List Reign = c.loop-first.second.now in
    let some : 1 ≤ length c.loop-first.first.now = search rules in
    let more : 1 ≤ length c.loop-first.second.now = search rules in
    let same : stamp_value c.mine-item.result.stamp ≡ stamp_value c.its-item.result.stamp = search rules in
    walk.meets (history_value c.args.a.now) (history_value c.args.b.now) c.loop-first.most (map reign_value (take (length xs - 1) xs)) (map reign_value (take (length ys - 1) ys)) (reign_value c.mine-item.result) (reign_value c.its-item.result)
    (both_apart (history_value c.args.a.now) (history_value c.args.b.now) c.loop-first.most xs ys c.mine-item.result c.its-item.result some c.mine-item.is more c.its-item.is c.loop-first.invariant.walked)
    c.if-most-mine.false c.if-most-its.false same

pub loop-first-preserved-then-most-mine : goal.loop-first-preserved-then-most-mine
loop-first-preserved-then-most-mine c =
    let xs : List Reign = c.loop-first.first.now in
    let some : 1 ≤ length c.loop-first.first.now = search rules in
    let less = shorter (length xs - 1) xs in
    let fits = c.loop-first.invariant.first_fits in
    record {
      walked = walk.first-passed (history_value c.args.a.now) (history_value c.args.b.now) c.loop-first.most (map reign_value (take (length xs - 1) xs)) (map reign_value c.loop-first.second.now) (reign_value c.mine-item.result)
          (first_apart (history_value c.args.a.now) (history_value c.args.b.now) c.loop-first.most xs (map reign_value c.loop-first.second.now) c.mine-item.result some c.mine-item.is c.loop-first.invariant.walked)
          c.if-most-mine.true;
      first_fits = omega arith;
      second_fits = c.loop-first.invariant.second_fits;
    }

pub loop-first-preserved-then-most-its : goal.loop-first-preserved-then-most-its
loop-first-preserved-then-most-its c =
    let ys : List Reign = c.loop-first.second.now in
    let more : 1 ≤ length c.loop-first.second.now = search rules in
    let less = shorter (length ys - 1) ys in
    let fits = c.loop-first.invariant.second_fits in
    record {
      walked = walk.second-passed (history_value c.args.a.now) (history_value c.args.b.now) c.loop-first.most (map reign_value c.loop-first.first.now) (map reign_value (take (length ys - 1) ys)) (reign_value c.its-item.result)
          (second_apart (history_value c.args.a.now) (history_value c.args.b.now) c.loop-first.most (map reign_value c.loop-first.first.now) ys c.its-item.result more c.its-item.is c.loop-first.invariant.walked)
          c.if-most-its.true;
      first_fits = c.loop-first.invariant.first_fits;
      second_fits = omega arith;
    }

pub loop-first-preserved-then-mine-its : goal.loop-first-preserved-then-mine-its
loop-first-preserved-then-mine-its c =
    let a : History = history_value c.args.a.now in
    let b : History = history_value c.args.b.now in
    let xs : List Reign = c.loop-first.first.now in
    let ys : List Reign = c.loop-first.second.now in
    let some : 1 ≤ length c.loop-first.first.now = search rules in
    let more : 1 ≤ length c.loop-first.second.now = search rules in
    let less = shorter (length ys - 1) ys in
    let fits = c.loop-first.invariant.second_fits in
    let differ : stamp_value c.mine-item.result.stamp ≡ stamp_value c.its-item.result.stamp → ⊥ = λ e. refuted c.is_same.result c.if-is_same.false (c.is_same.ensures.1 e) in
    record {
      walked = first_whole a b (c.its-item.result.start - 1) xs (map reign_value (take (length ys - 1) ys)) c.mine-item.result some c.mine-item.is
          (walk.second-parts a b c.loop-first.most (map reign_value (take (length xs - 1) xs)) (map reign_value (take (length ys - 1) ys)) (reign_value c.mine-item.result) (reign_value c.its-item.result)
          (both_apart a b c.loop-first.most xs ys c.mine-item.result c.its-item.result some c.mine-item.is more c.its-item.is c.loop-first.invariant.walked)
          differ c.if-most-its.false c.if-mine-its.true);
      first_fits = c.loop-first.invariant.first_fits;
      second_fits = omega arith;
    }

pub loop-first-preserved : goal.loop-first-preserved
loop-first-preserved c =
    let a : History = history_value c.args.a.now in
    let b : History = history_value c.args.b.now in
    let xs : List Reign = c.loop-first.first.now in
    let ys : List Reign = c.loop-first.second.now in
    let some : 1 ≤ length c.loop-first.first.now = search rules in
    let more : 1 ≤ length c.loop-first.second.now = search rules in
    let less = shorter (length xs - 1) xs in
    let fits = c.loop-first.invariant.first_fits in
    let differ : stamp_value c.mine-item.result.stamp ≡ stamp_value c.its-item.result.stamp → ⊥ = λ e. refuted c.is_same.result c.if-is_same.false (c.is_same.ensures.1 e) in
    record {
      walked = subst (λ (n : ℕ). IsWalked a b n (map reign_value (take (length xs - 1) xs)) (map reign_value ys)) (sym c.saturating_sub-most.ensures)
          (second_whole a b (c.mine-item.result.start - 1) (map reign_value (take (length xs - 1) xs)) ys c.its-item.result more c.its-item.is
          (walk.first-parts a b c.loop-first.most (map reign_value (take (length xs - 1) xs)) (map reign_value (take (length ys - 1) ys)) (reign_value c.mine-item.result) (reign_value c.its-item.result)
          (both_apart a b c.loop-first.most xs ys c.mine-item.result c.its-item.result some c.mine-item.is more c.its-item.is c.loop-first.invariant.walked)
          differ c.if-most-mine.false c.if-mine-its.false));
      first_fits = omega arith;
      second_fits = c.loop-first.invariant.second_fits;
    }

pub returns-in_default : goal.returns-in_default
returns-in_default c = walk.ends (history_value c.args.a.now) (history_value c.args.b.now) c.loop-first.most (map reign_value c.loop-first.first.now) (map reign_value c.loop-first.second.now)
    c.loop-first.invariant.walked (inl (none_left c.loop-first.first.now c.in_default.len_below))

pub returns-in_default-2 : goal.returns-in_default-2
returns-in_default-2 c = walk.ends (history_value c.args.a.now) (history_value c.args.b.now) c.loop-first.most (map reign_value c.loop-first.first.now) (map reign_value c.loop-first.second.now)
    c.loop-first.invariant.walked (inr (none_left c.loop-first.second.now (search rules)))
