use Rattle.std.proofs.Common.{◌≡◌, List, Some, take, sym, ◌∙◌, ap, subst}
use Rattle.std.specs.Prelude.{slice_get}
use Rattle.site_defs.specs.Lists.{first_where}
use Rattle.site_runner.specs.declared.slot.Slot.{Slot}
use Rattle.site_runner.specs.Sites.{is_slot_free}
use Rattle.site_runner.proofs.Lifts.{taken_out}
use Rattle.site_runner.proofs.Next.{next_is_free}
use Rattle.site_runner.proofs.finding.take_free.Goals as goal

pub unreachable-requires : goal.unreachable-requires
unreachable-requires g c =
    let xs = c.args.slots.now.items in
    let i = c.in_ok-i.i in
    let found = c.in_ok-i.ensures in
    let k = taken_out xs c.deref.result.now i c.remove.result c.deref.ensures.value found.inside c.remove.ensures.value in
    let free = next_is_free xs i c.remove.result k (ap (λ (l : List (Slot g.row.D.Denot)). first_where is_slot_free (take 8 l)) (sym c.deref.ensures.value) ∙ sym found.place) in
    c.in_default.not-Free free.0 free.1

pub returns-clause-taken : goal.returns-clause-taken
returns-clause-taken g c =
    let xs = c.args.slots.now.items in
    let i = c.in_ok-i.i in
    let found = c.in_ok-i.ensures in
    let k = taken_out xs c.deref.result.now i c.remove.result c.deref.ensures.value found.inside c.remove.ensures.value in
    (subst (λ (y : Slot g.row.D.Denot). slice_get xs i ≡ Some y) c.in-Free.is k, c.remove.ensures.items)
