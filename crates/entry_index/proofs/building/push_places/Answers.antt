use Rattle.std.proofs.Common.{◌≡◌, ◌∙◌, ℕ, List, [], ◌∷◌, ◌++◌, true, refl, sym, ap, subst, arith, length-append}
use Rattle.std.proofs.lemmas.List.{append-nil, append_assoc}
use Rattle.entry_index.specs.declared.place.PartPlace.{PartPlace}
use Rattle.entry_index.specs.Parts.{NOWHERE}
use Rattle.entry_index.specs.Completing.{place_told}
use Rattle.entry_index.specs.Table.{row_sign, AddsRow}
use Rattle.entry_index.proofs.ReadParts.{more_read}
use Rattle.entry_index.proofs.building.push_places.Goals as goal

pub loop-region-init : goal.loop-region-init
loop-region-init c = record {
  regions = refl;
  row = ([], sym (append-nil c.args.made.now.places.items), refl, λ r low. absurd (omega (arith, low)));
}

pub loop-region-preserved : goal.loop-region-preserved
loop-region-preserved c =
    let l = c.loop-region in
    let a = c.args in
    let f : ℕ → PartPlace = λ r. place_told (row_sign a.row.now r) in
    let old = a.made.now.places.items in
    let before = l.invariant.row in
    let row = before.0 in
    let one = c.place_in.result ∷ [] in
    let next : c.push.new.self.items ≡ old ++ (row ++ one) = c.in_ok-push.ensures.items ∙ ap (λ (ps : List PartPlace). ps ++ one) before.1 ∙ append_assoc old row one in
    record {
      regions = l.invariant.regions;
      row = (
        row ++ one,
        next,
        omega (arith, length-append row one, before.2),
        more_read f row c.place_in.result NOWHERE l.region before.2 before.3 c.place_in.ensures,
      );
    }

pub returns-clause-row : goal.returns-clause-row
returns-clause-row c =
    let a = c.args in
    let l = c.loop-region in
    let all : l.region ≡ a.made.now.regions = omega arith in
    subst (λ (k : ℕ). AddsRow a.row.now k true a.made.now.places.items l.made.places.items) all l.invariant.row
