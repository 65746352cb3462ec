use Rattle.std.proofs.Common.{◌≡◌, length, true, false, refl}
use Rattle.disk_defs.proofs.Told.{weaker_told}
use Rattle.global_defs.specs.Entry.{Sequence}
use Rattle.journal_defs.specs.Sequence.{Records, IsSequence}
use Rattle.journal_defs.specs.Stands.{AreRecords}
use Rattle.site_defs.specs.Contents.{Contents, Leftover}
use Rattle.site_defs.specs.Opening.{opened}
use Rattle.site_defs.specs.Stands.{IsSite, HasLeft}
use Rattle.site_store.specs.Needing.{NoneIsWithout}
use Rattle.site_store.specs.Site.{IsOpen, WasOpenedFrom}
use Rattle.site_store.specs.Opening.{EachStands}
use Rattle.site_store.proofs.site.Site.load.Goals as goal

pub returns-in-Ok-history_in-clause-told : goal.returns-in-Ok-history_in-clause-told
returns-in-Ok-history_in-clause-told g c =
    let view = g.D.Disk.disk in
    let u = view c.args.disk in
    weaker_told u.content
    (λ files. (x : Contents) (left : Leftover) → IsSite files x → HasLeft files x left → EachStands u → IsOpen (view c.open_as.new.disk) true (opened left.broken x) (length x.sequence) c.in-Ok.inner) _
    c.in-Ok.ensures.told (λ files told x left site has each. record { fault = refl; inner = told x left site has each })

pub returns-in-Ok-history_in-clause-held : goal.returns-in-Ok-history_in-clause-held
returns-in-Ok-history_in-clause-held g c =
    weaker_told (g.D.Disk.disk c.args.disk).content
    (λ files. (x : Records) × (seq : Sequence) × AreRecords files x × IsSequence x seq × WasOpenedFrom x seq c.in-Ok.inner × (false ≡ false → NoneIsWithout x (length seq))) _
    c.in-Ok.ensures.held (λ files h. (h.0, h.1, h.2, h.3, h.4, h.5 refl))
