use Rattle.std.proofs.Common.{◌≡◌, ◌<◌, List, length, true, false, refl, ◌∙◌}
use Rattle.std.proofs.lemmas.Result.{IfOk-weaker}
use Rattle.disk_defs.specs.Disk.{Files}
use Rattle.disk_defs.proofs.Told.{both_weak}
use Rattle.global_defs.specs.Entry.{Sequence}
use Rattle.journal_defs.specs.Instance.{InstanceRecord, generation}
use Rattle.journal_defs.specs.Numbers.{INSTANCE}
use Rattle.journal_defs.specs.Sequence.{Records, IsSequence}
use Rattle.journal_defs.specs.Stands.{IsInstance, AreRecords}
use Rattle.site_defs.specs.Contents.{Contents}
use Rattle.site_defs.specs.Epochs.{marked}
use Rattle.site_store.specs.Needing.{NoneIsWithout}
use Rattle.site_store.specs.Site.{IsOpen, WasOpenedFrom, count_of}
use Rattle.mupip_rollback.specs.Rolling.{StandsFor}
use Rattle.mupip_rollback.proofs.Recovered as recovered
use Rattle.mupip_rollback.proofs.recovering.recover_backward.Goals as goal

pub returns-in-Err-clause-any_moment : goal.returns-in-Err-clause-any_moment
returns-in-Err-clause-any_moment g c = recovered.opening false (g.D.Disk.disk c.args.disk.now) (g.D.Disk.disk c.open_as.new.disk) c.open_as.ensures.any_moment

pub returns-in-Err-clause-left : goal.returns-in-Err-clause-left
returns-in-Err-clause-left g c = recovered.opening_with false (g.D.Disk.disk c.args.disk.now) (g.D.Disk.disk c.open_as.new.disk) c.open_as.ensures.left

pub returns-in-Err-clause-stands : goal.returns-in-Err-clause-stands
returns-in-Err-clause-stands g c = recovered.stands_opened false (g.D.Disk.disk c.args.disk.now) (g.D.Disk.disk c.open_as.new.disk) (g.D.Disk.disk c.open_as.new.disk).content c.open_as.ensures.stands

pub returns-in-Ok-clause-told : goal.returns-in-Ok-clause-told
returns-in-Ok-clause-told g c =
    let v = g.D.Disk.disk c.open_as.new.disk in
    let w = g.D.Disk.disk c.close.new.disk in
    IfOk-weaker c.close.result (λ _. (x : Contents) → IsOpen v true x (length x.sequence) c.in-Ok.site → StandsFor w (marked x)) _
    (λ n done. recovered.closed false (g.D.Disk.disk c.args.disk.now) v w c.in-Ok.site (g.met.D.Disk.lawful c.args.disk.now) c.in-Ok.ensures.told done) c.close.ensures.done

pub returns-in-Ok-clause-held : goal.returns-in-Ok-clause-held
returns-in-Ok-clause-held g c =
    let u = g.D.Disk.disk c.args.disk.now in
    let s = c.in-Ok.site in
    let Held = λ (files : Files). (x : Records) × (seq : Sequence) × AreRecords files x × IsSequence x seq × WasOpenedFrom x seq s × (false ≡ false → NoneIsWithout x (length seq)) in
    let Room = λ (files : Files). (rs : List InstanceRecord) → IsInstance (files INSTANCE) rs → generation rs < 65534 in
    IfOk-weaker c.close.result (λ n. n ≡ count_of s) _ (λ n count.
    both_weak u.content Held Room (λ files. (x : Records) × (seq : Sequence) × AreRecords files x × IsSequence x seq × (n ≡ length seq) × (generation x.instance < 65534) × NoneIsWithout x (length seq)) c.in-Ok.ensures.held c.in-Ok.ensures.drawn
    (λ files h room.
    let size : count_of s ≡ length h.1 = h.4.count in
    (h.0, h.1, h.2, h.3, count ∙ size, room h.0.instance h.2.instance, h.5 refl))) c.close.ensures.length

pub returns-in-Ok-clause-any_moment : goal.returns-in-Ok-clause-any_moment
returns-in-Ok-clause-any_moment g c = recovered.closing false (g.D.Disk.disk c.args.disk.now) (g.D.Disk.disk c.open_as.new.disk) (g.D.Disk.disk c.close.new.disk) c.in-Ok.site (g.met.D.Disk.lawful c.args.disk.now) c.in-Ok.ensures.told c.close.ensures.any_moment c.open_as.ensures.any_moment

pub returns-in-Ok-clause-left : goal.returns-in-Ok-clause-left
returns-in-Ok-clause-left g c = recovered.closing_with false (g.D.Disk.disk c.args.disk.now) (g.D.Disk.disk c.open_as.new.disk) (g.D.Disk.disk c.close.new.disk) c.in-Ok.site (g.met.D.Disk.lawful c.args.disk.now) c.in-Ok.ensures.told c.close.ensures.left c.open_as.ensures.left

pub returns-in-Ok-clause-stands : goal.returns-in-Ok-clause-stands
returns-in-Ok-clause-stands g c = recovered.stands_closing false (g.D.Disk.disk c.args.disk.now) (g.D.Disk.disk c.open_as.new.disk) (g.D.Disk.disk c.close.new.disk) c.in-Ok.site (g.met.D.Disk.lawful c.args.disk.now) c.in-Ok.ensures.told c.close.ensures.stands
