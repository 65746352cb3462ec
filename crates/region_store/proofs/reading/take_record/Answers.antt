use Rattle.std.proofs.Common.{◌≡◌, List, ℕ, subst}
use Rattle.std.specs.Prelude.{OnOk}
use Rattle.before_image.specs.Undoing.{with_oldest}
use Rattle.region_store.proofs.reading.take_record.Goals as goal

pub returns-in-Pblk : goal.returns-in-Pblk
returns-in-Pblk c =
    rw c.in-Pblk.is (subst (λ (x : List ℕ). OnOk c.take_image.result (c.take_image.new.self ≡ with_oldest c.args.undo.now c.in-Pblk.block x)) c.as_slice.ensures c.take_image.ensures.ok)
