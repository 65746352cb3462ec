use Rattle.std.proofs.Common.{◌≡◌, ◌<◌, ℕ, map, List, ◌∷◌, [], ◌++◌, sym, ap, subst, ◌∙◌}
use Rattle.std.specs.List.{AllByRecursion}
use Rattle.std.proofs.lemmas.List.{map-append}
use Rattle.journal_defs.specs.Directory.{Pattern}
use Rattle.global_dir.specs.Directory.{Mapping, pattern_value, pattern_with}
use Rattle.global_dir.proofs.Regions.{all_more}
use Rattle.global_dir.proofs.directory.Directory.add.Goals as goal

pub invariant_of-self-2 : goal.invariant_of-self-2
invariant_of-self-2 c =
    let n = c.self.inside.regions in
    let old = c.self.inside.patterns.items in
    let added : Pattern = pattern_with c.args.region c.args.star c.args.name.now in
    let there : c.args.region < n = subst (λ (d : Mapping). c.args.region < d.regions) (sym c.self.view_is) c.requires in
    let more : map pattern_value c.push.new.self.items ≡ map pattern_value old ++ added ∷ [] =
    ap (map pattern_value) c.in_ok-push.ensures.items ∙ map-append pattern_value old (_ ∷ []) ∙ ap (λ (name : List ℕ). map pattern_value old ++ pattern_with c.args.region c.args.star name ∷ []) c.in_ok-name.ensures in
    (c.self.invariant.0, c.self.invariant.1, subst (λ (ps : List Pattern). AllByRecursion (λ p. p.region < n) ps) (sym more) (all_more n (map pattern_value old) added c.self.invariant.2 there))
