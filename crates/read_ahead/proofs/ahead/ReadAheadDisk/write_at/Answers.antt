use Rattle.std.proofs.Common.{◌≡◌, ◌∙◌, List, ap, sym, subst, length}
use Rattle.std.specs.Prelude.{IfSome}
use Rattle.std.proofs.lemmas.List.{with_items_is}
use Rattle.disk_defs.specs.Disk.{Torn}
use Rattle.read_ahead.specs.Kept.{AreKept}
use Rattle.read_ahead.specs.declared.piece.Piece.{Piece}
use Rattle.read_ahead.proofs.Kept.{kept_behind}
use Rattle.read_ahead.proofs.ahead.ReadAheadDisk.write_at.Goals as goal

pub invariant_of-self : goal.invariant_of-self
invariant_of-self g c =
    let view = g.D.Disk.disk in
    let now = c.args.self.now in
    let left = c.forget.new.pieces in
    let many : length left ≡ now.pieces.len = c.forget.auto.pieces ∙ ap (λ (ps : List Piece). length ps) c.deref_mut.ensures.value ∙ sym now.pieces.ok.0 in
    record {
      kept = subst (λ (ps : List Piece). IfSome (view c.write_at.new.self).content (λ files. AreKept files ps)) (sym (with_items_is now.pieces left many))
          (kept_behind (view now.disk).content (view c.write_at.new.self).content c.args.file (Torn c.args.at (length c.args.bytes.now)) now.pieces.items left
          c.write_at.ensures.content (λ old new same kept. c.forget.ensures old new same (rw c.deref_mut.ensures.value kept)) now.kept);
    }
