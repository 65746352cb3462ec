use Rattle.std.proofs.Common.{◌≡◌, ◌∙◌, ℕ, List, [], ◌∷◌, ◌++◌, true, refl, sym, ap, subst, arith, length, length-append}
use Rattle.std.proofs.lemmas.List.{append-nil, append_assoc}
use Rattle.entry_index.specs.declared.place.PartPlace.{PartPlace}
use Rattle.entry_index.specs.Parts.{NOWHERE}
use Rattle.entry_index.specs.Completing.{place_told}
use Rattle.entry_index.specs.Table.{row_sign, AddsRow}
use Rattle.entry_index.proofs.ReadParts.{more_read}
use Rattle.entry_index.specs.Signs.{if_numbered}
use Rattle.entry_index.specs.declared.cursor.Cursor.{Cursor}
use Rattle.entry_index.proofs.SideBySide.{row_of, row_at}
use Rattle.entry_index.proofs.side_by_side.push_waiting.Goals as goal

pub loop-region-init : goal.loop-region-init
loop-region-init c = ([], sym (append-nil c.args.places.now.items), refl, λ r low. absurd (omega (arith, low)))

pub loop-region-preserved : goal.loop-region-preserved
loop-region-preserved c =
    let l = c.loop-region in
    let a = c.args in
    let f : ℕ → PartPlace = λ r. place_told (row_sign (row_of a.number a.cursors.now) r) in
    let old = a.places.now.items in
    let before = l.invariant in
    let row = before.0 in
    let one = c.place_of.result ∷ [] in
    let next : c.push.new.self.items ≡ old ++ (row ++ one) = c.in_ok-push.ensures.items ∙ ap (λ (ps : List PartPlace). ps ++ one) before.1 ∙ append_assoc old row one in
    let one_is = ap (λ (x : Cursor). place_told (if_numbered a.number x.waiting)) c.index-cursors-region.is in
    let here : c.place_of.result ≡ f l.region = c.place_of.ensures ∙ one_is ∙ ap place_told (sym (row_at a.number a.cursors.now l.region c.index-cursors-region.result (omega (arith, c.loop-region-test.true)))) in
    (row ++ one, next, omega (arith, length-append row one, before.2), more_read f row c.place_of.result NOWHERE l.region before.2 before.3 here)

pub returns : goal.returns
returns c =
    let a = c.args in
    let l = c.loop-region in
    let all : l.region ≡ length a.cursors.now = omega arith in
    subst (λ (k : ℕ). AddsRow (row_of a.number a.cursors.now) k true a.places.now.items l.places.items) all l.invariant
