-- Nothing lies behind the hardened entries.
use Rattle.std.proofs.Common.{ℕ, take, sym, subst}
use Rattle.std.proofs.lemmas.List.{length-take-le}
use Rattle.disk_defs.specs.Disk.{Files, View, Image}
use Rattle.journal_defs.specs.Growth.{NonePast}
use Rattle.site_defs.specs.Contents.{Contents, NO_LEFTOVER}
use Rattle.site_defs.specs.Fronts.{with_sequence}
use Rattle.site_defs.specs.Stands.{HasLeft}
use Rattle.site_store.specs.declared.memory.Memory.{Memory}
use Rattle.site_store.specs.Site.{Keeps}
use Rattle.site_store.proofs.Images.{left_nothing}

pub none_left : (v : View) (c : Contents) (h : ℕ) (s : Memory) (f : Files) → Keeps v c h s → Image v f → HasLeft f (with_sequence c (take h c.sequence)) NO_LEFTOVER
none_left v c h s f k now =
    let sound = k.sound f now in
    left_nothing f (with_sequence c (take h c.sequence)) k.records sound.held sound.clean
    (subst (λ (n : ℕ). NonePast n k.records) (sym (length-take-le h c.sequence k.count)) k.none_past) k.newest.instance
