use Rattle.std.proofs.Common.{◌≡◌, ◌<◌, ◌+◌, ◌&&◌, ℕ, suc, Bool, true, false, List, ◌∷◌, map, drop, length, get_or, if◌then◌else◌, refl, sym, ap, ◌∙◌, arith}
use Rattle.std.proofs.Math.Seq.{drop-cons}
use Rattle.std.specs.Option.{option_map}
use Rattle.journal_defs.specs.Directory as defs
use Rattle.journal_defs.specs.Directory.{is_matched, is_beaten, winner}
use Rattle.global_dir.specs.declared.pattern.Pattern.{Pattern}
use Rattle.global_dir.specs.Directory.{pattern_value, standing}
use Rattle.global_dir.proofs.directory.region_by.Goals.{then-matches+then-beats, else-matches, else-matches-via-then-matches+else-beats, else-matches-via-else-matches}
use Rattle.global_dir.proofs.directory.region_by.Goals as goal

-- one pattern on
step : (ps : List Pattern) (name : List ℕ) (best next : defs.Pattern) (i : ℕ) (p : Pattern) → i < length ps → p ≡ get_or ps i p
    → next ≡ (if is_matched name (pattern_value p) && is_beaten best (pattern_value p) then pattern_value p else best)
    → winner name next (map pattern_value (drop (i + 1) ps)) ≡ winner name best (map pattern_value (drop i ps))
step ps name best next i p low here is =
    let one : suc i ≡ i + 1 = omega arith in
    let front : drop i ps ≡ p ∷ drop (i + 1) ps = drop-cons ps i p low ∙ ap (λ (x : Pattern). x ∷ drop (suc i) ps) (sym here) ∙ ap (λ (j : ℕ). p ∷ drop j ps) one in
    ap (λ (q : defs.Pattern). winner name q (map pattern_value (drop (i + 1) ps))) is ∙ sym (ap (λ (l : List Pattern). winner name best (map pattern_value l)) front)

taken : (a b : Bool) (x y : defs.Pattern) → a ≡ true → b ≡ true → x ≡ (if a && b then x else y)
taken true true x y ha hb = refl
taken true false x y ha hb = absurd (cc hb)
taken false b x y ha hb = absurd (cc ha)

worse : (a b : Bool) (x y : defs.Pattern) → b ≡ false → y ≡ (if a && b then x else y)
worse true false x y h = refl
worse true true x y h = absurd (cc h)
worse false b x y h = refl

missed : (a b : Bool) (x y : defs.Pattern) → a ≡ false → y ≡ (if a && b then x else y)
missed false b x y h = refl
missed true b x y h = absurd (cc h)

pub loop-pattern-preserved : goal.loop-pattern-preserved
loop-pattern-preserved c =
    let ps = c.args.patterns.now in
    let name = c.args.name.now in
    let best : defs.Pattern = standing (option_map (λ p. p.now) c.loop-pattern.best) in
    let next : defs.Pattern = standing (option_map (λ p. p.now) c.if-matches.best) in
    let p = c.pattern-item.result in
    let matched : Bool = is_matched name (pattern_value p) in
    let beaten : Bool = is_beaten best (pattern_value p) in
    let is : next ≡ (if is_matched name (pattern_value p) && is_beaten best (pattern_value p) then pattern_value p else best) = elim c.if-matches.branch [
      | then-matches+then-beats w ↦ ap (λ b. standing (option_map (λ p. p.now) b)) w.best-is ∙ taken matched beaten (pattern_value p) best (sym c.matches.ensures ∙ w.if-matches.true) (sym w.beats.ensures ∙ w.if-beats.true)
      | else-matches w ↦ ap (λ b. standing (option_map (λ p. p.now) b)) w.best-is ∙ elim w.else-matches.branch [
        | else-matches-via-then-matches+else-beats v ↦ worse matched beaten (pattern_value p) best (sym v.beats.ensures ∙ v.if-beats.false)
        | else-matches-via-else-matches v ↦ missed matched beaten (pattern_value p) best (sym c.matches.ensures ∙ v.if-matches.false)
      ]
    ] in
    step ps name best next c.loop-pattern.pattern-index p c.loop-pattern-test.true c.pattern-item.is is ∙ c.loop-pattern.invariant
