use Rattle.std.proofs.Common.{◌∙◌, sym, ap, length, List, get_or, ℕ, [], ◌∷◌, ◌+◌, ◌<◌, ◌≡◌, subst, arith, length-append}
use Rattle.entry_index.specs.declared.place.PartPlace.{PartPlace}
use Rattle.entry_index.specs.Parts.{NOWHERE}
use Rattle.entry_index.specs.Completing.{place_told}
use Rattle.entry_index.specs.Table.{row_sign}
use Rattle.entry_index.proofs.Complete.{all_placed}
use Rattle.entry_index.proofs.ReadParts.{more_read}
use Rattle.entry_index.proofs.completing.places_of.Goals as goal

pub loop-region-preserved : goal.loop-region-preserved
loop-region-preserved c =
    let l = c.loop-region in
    let f : ℕ → PartPlace = λ r. place_told (row_sign c.args.row.now r) in
    let made = c.in_ok-push.ensures.items in
    record {
      many = omega (arith, ap length made, length-append l.made.items (c.place_in.result ∷ []), l.invariant.many);
      each = subst (λ (ps : List PartPlace). (r : ℕ) → r < l.region + 1 → get_or ps r NOWHERE ≡ f r) (sym made)
          (more_read f l.made.items c.place_in.result NOWHERE l.region l.invariant.many l.invariant.each c.place_in.ensures);
    }

pub returns-clause-parts : goal.returns-clause-parts
returns-clause-parts c = λ files n part are past.
    let l = c.loop-region in
    let all : l.region ≡ c.args.regions = omega arith in
    all_placed files n c.args.regions (row_sign c.args.row.now) part l.made.items (l.invariant.many ∙ all) (λ r low. l.invariant.each r (omega (arith, low, all))) are past

pub returns-clause-many : goal.returns-clause-many
returns-clause-many c = omega (arith, c.loop-region.invariant.many)

pub returns-clause-told : goal.returns-clause-told
returns-clause-told c = λ r low. c.loop-region.invariant.each r (omega (arith, low))
