use Rattle.std.proofs.Common.{◌≡◌, ℕ, ◌+◌, ◌-◌, ◌<◌, ◌≤◌, [], ◌∷◌, length, map, get_or, drop, Some, sym, ap, subst, ◌∙◌, arith, inl, inr, if◌then◌else◌}
use Rattle.std.proofs.lemmas.List.{length-map}
use Rattle.std.proofs.lemmas.Option.{get_or_from_slice_get, slice_get_within}
use Rattle.std.proofs.Math.ListN.{get_or-map}
use Rattle.global_defs.specs.Entry as defs
use Rattle.global_defs.specs.Fields.{IsReign}
use Rattle.global_defs.specs.Rising.{StartsRise}
use Rattle.gvn_model.specs.Reigns.{reign_value}
use Rattle.wire_defs.specs.Frames.{History}
use Rattle.ship_defs.specs.Shipping.{announced}
use Rattle.source_server.proofs.Begun.{all_at, at_next, announced_next, announced_same, announced_none}
use Rattle.source_server.proofs.reigns.announced_reign.Goals as goal
use Rattle.source_server.proofs.reigns.announced_reign.Goals.{else-first-via-then-first+else-begun-ne0, else-first-via-else-first}

pub returns-then-begun-begun_behind-clause-form : goal.returns-then-begun-begun_behind-clause-form
returns-then-begun-begun_behind-clause-form c =
    let xs = c.args.reigns.now in
    let i = c.args.begun in
    let x = c.index-reigns-begun.result in
    let begins = c.begun_behind.ensures.begins c.if-begun-begun_behind.true in
    let lt : i < length (map reign_value xs) = slice_get_within (map reign_value xs) i begins.0 begins.1 in
    let is : get_or (map reign_value xs) i (reign_value x) ≡ reign_value x = get_or-map reign_value xs i x ∙ ap reign_value (sym c.index-reigns-begun.is) in
    subst (λ (r : defs.Reign). IsReign r) is (all_at IsReign (map reign_value xs) i (reign_value x) c.requires.form lt)

pub returns-then-begun-begun_behind-clause-is : goal.returns-then-begun-begun_behind-clause-is
returns-then-begun-begun_behind-clause-is c =
    let xs = c.args.reigns.now in
    let rs = map reign_value xs in
    let i = c.args.begun in
    let n = c.args.number in
    let x = c.index-reigns-begun.result in
    let begins = c.begun_behind.ensures.begins c.if-begun-begun_behind.true in
    let lt : i < length rs = slice_get_within rs i begins.0 begins.1 in
    let is : get_or rs i (reign_value x) ≡ reign_value x = get_or-map reign_value xs i x ∙ ap reign_value (sym c.index-reigns-begun.is) in
    let at : (get_or rs i (reign_value x)).start ≡ n = ap (λ (r : defs.Reign). r.start) (get_or_from_slice_get rs i begins.0 (reign_value x) begins.1) ∙ begins.2 in
    let next : c.begun_behind.result ≡ i + 1 = omega (arith, c.begun_behind.ensures.within, c.if-begun-begun_behind.true) in
    let later : StartsRise n (drop (i + 1) rs) = subst (λ (k : ℕ). StartsRise n (drop k rs)) next c.begun_behind.ensures.later in
    let found = at_next n i rs (reign_value x) lt at c.requires.earlier later ∙ ap (λ (r : defs.Reign). Some r) is in
    sym (ap (announced c.args.first n) found ∙ announced_next c.args.first n (reign_value x) (sym (ap (λ (r : defs.Reign). r.start) is) ∙ at))

pub returns-then-begun-ne0-clause-form : goal.returns-then-begun-ne0-clause-form
returns-then-begun-ne0-clause-form c =
    let xs = c.args.reigns.now in
    let i = c.args.begun - 1 in
    let x = c.index-reigns-begun-then-begun-ne0.result in
    let size = length-map xs reign_value in
    let lt : i < length (map reign_value xs) = omega (arith, size) in
    let is : get_or (map reign_value xs) i (reign_value x) ≡ reign_value x = get_or-map reign_value xs i x ∙ ap reign_value (sym c.index-reigns-begun-then-begun-ne0.is) in
    subst (λ (r : defs.Reign). IsReign r) is (all_at IsReign (map reign_value xs) i (reign_value x) c.requires.form lt)

pub returns-then-begun-ne0-clause-is : goal.returns-then-begun-ne0-clause-is
returns-then-begun-ne0-clause-is c =
    let xs = c.args.reigns.now in
    let rs = map reign_value xs in
    let i = c.args.begun in
    let n = c.args.number in
    let x = c.index-reigns-begun-then-begun-ne0.result in
    let size = length-map xs reign_value in
    let some : 0 < i = omega arith in
    let within : i ≤ length rs = omega (arith, size) in
    let is : get_or rs (i - 1) (reign_value x) ≡ reign_value x = get_or-map reign_value xs (i - 1) x ∙ ap reign_value (sym c.index-reigns-begun-then-begun-ne0.is) in
    let same : c.begun_behind.result ≡ i = omega (arith, c.begun_behind.ensures.within, c.if-begun-begun_behind.false) in
    let later : StartsRise n (drop i rs) = subst (λ (k : ℕ). StartsRise n (drop k rs)) same c.begun_behind.ensures.later in
    sym (announced_same c.args.first n i rs (reign_value x) some within c.requires.earlier later
    ∙ (ap (λ b. if b then History (get_or rs (i - 1) (reign_value x)) ∷ [] else []) c.if-first.true ∙ ap (λ (r : defs.Reign). History r ∷ []) is))

pub returns-clause-is : goal.returns-clause-is
returns-clause-is c =
    let xs = c.args.reigns.now in
    let rs = map reign_value xs in
    let i = c.args.begun in
    let n = c.args.number in
    let size = length-map xs reign_value in
    let within : i ≤ length rs = omega (arith, size) in
    let same : c.begun_behind.result ≡ i = omega (arith, c.begun_behind.ensures.within, c.if-begun-begun_behind.false) in
    let later : StartsRise n (drop i rs) = subst (λ (k : ℕ). StartsRise n (drop k rs)) same c.begun_behind.ensures.later in
    elim c.else-first.branch [
      | else-first-via-then-first+else-begun-ne0 w ↦ sym (announced_none c.args.first n i rs within c.requires.earlier later (inr (omega (arith, w.if-begun-ne0.false))))
      | else-first-via-else-first w ↦ sym (announced_none c.args.first n i rs within c.requires.earlier later (inl w.if-first.false))
    ]
