use Rattle.std.proofs.Common.{◌≡◌, ℕ, List, [], ◌∷◌, ◌++◌, ap, sym, ◌∙◌, subst}
use Rattle.wire_defs.specs.PoolWords.{IsAt}
use Rattle.pool_rule.specs.Rule.{Agrees, Each}
use Rattle.pool_rule.specs.Seats.{Knowing}
use Rattle.pool_rule.specs.declared.views.View.{View}
use Rattle.pool_rule.proofs.Each.{each_last}
use Rattle.pool_rule.proofs.table.PoolTable.note.Goals as goal

pub returns-clause-moves : goal.returns-clause-moves
returns-clause-moves c =
    let view = c.note_as.ensures.view in
    let new : View = c.note_as.new.r.me.0 in
    let v : View = c.r.inside.seat.me.0 in
    let note : List (List ℕ) = c.note.inside.seat.me.0.entries in
    let notes : new.notes ≡ v.notes ++ note ∷ [] = ap (λ m. m.0.notes) view in
    let agrees : Agrees new note = each_last (Agrees new) v.notes note (subst (Each (Agrees new)) notes c.note_as.ensures.agrees) in
    let first : c.args.note.view.first ≡ new.note_first = ap (λ (z : Knowing). z.view.first) (sym c.note.view_is) ∙ sym (ap (λ m. m.0.note_first) view) in
    let entries : c.args.note.view.entries ≡ note = ap (λ (z : Knowing). z.view.entries) (sym c.note.view_is) in
    let place : c.args.place ≡ new.place = sym (ap (λ m. m.0.place) view) in
    λ number at. agrees number (subst (λ (z : ℕ × List (List ℕ) × ℕ). IsAt z.0 z.1 z.2 number) (λ i. (first i, entries i, place i)) at)
