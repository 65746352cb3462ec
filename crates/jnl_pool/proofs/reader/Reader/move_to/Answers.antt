use Rattle.std.proofs.Common.{◌≡◌, ℕ, max, [], ◌∷◌, ◌++◌, ap, ◌∙◌}
use Rattle.jnl_pool.specs.Pooling.{Reading}
use Rattle.jnl_pool.proofs.reader.Reader.move_to.Goals as goal

pub returns : goal.returns
returns c =
    let view = c.note.ensures.view in
    let next : c.note.new.r.view.next ≡ c.args.number = c.note.ensures.moves c.args.number c.requires.place in
    let is : c.note.new.r.view ≡ record c.self.inside.seat.view { hardened = max c.self.inside.seat.view.hardened c.args.note.view.hardened; place = c.args.place; next = c.args.number; note_first = c.args.note.view.first; notes = c.self.inside.seat.view.notes ++ c.args.note.view.entries ∷ [] } =
    view ∙ ap (λ (n : ℕ). record c.self.inside.seat.view { hardened = max c.self.inside.seat.view.hardened c.args.note.view.hardened; place = c.args.place; next = n; note_first = c.args.note.view.first; notes = c.self.inside.seat.view.notes ++ c.args.note.view.entries ∷ [] }) next in
    (λ i. record { table = c.note.ensures.table i; size = c.self.inside.size; place = c.args.place; next = (is i).next; hard = (is i).hard; claim = (is i).claim; hard_loads = (is i).hard_loads; claim_loads = (is i).claim_loads; told = (is i).hardened; got = (is i).got; notes = (is i).notes; bytes = c.self.inside.bytes.items })
    ∙ ap (λ (r : Reading). record r { place = c.args.place; next = c.args.number; told = max r.told c.args.note.view.hardened; notes = r.notes ++ c.args.note.view.entries ∷ [] }) c.self.view_is
