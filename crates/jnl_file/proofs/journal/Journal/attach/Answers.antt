use Rattle.std.proofs.Common.{rules, ℕ, List, inl, inr, IfSome, ◌∙◌, ap, subst}
use Rattle.disk_defs.specs.Disk.{AtEachMoment}
use Rattle.disk_defs.specs.Frames.{Only}
use Rattle.disk_defs.proofs.Told.{weaker_told}
use Rattle.disk_defs.proofs.Moments.{nothing_new, read_only}
use Rattle.disk_defs.proofs.Frames.{others_read, others_then}
use Rattle.gated_file.specs.Begin.{KeepsRecords}
use Rattle.disk_defs.specs.OutsideGates.{IsOutside}
use Rattle.gated_file.specs.declared.gated.Gated.{Gated}
use Rattle.journal_defs.specs.Journal.{JournalRecord}
use Rattle.jnl_file.specs.Records.{Recorded, settled}
use Rattle.jnl_file.specs.Journal.{HasRecords}
use Rattle.jnl_file.specs.Reading.{IsJournalFile}
use Rattle.site_defs.specs.OutsideJournal.{IsOutsideJournal, HasWrongRecord}
use Rattle.jnl_file.specs.declared.journal.Journal.{Journal}
use Rattle.jnl_file.proofs.Walk.{wrong_as, wrong_is_none}
use Rattle.jnl_file.proofs.Making.{taken_back, taken_records, some_records, ready_read}
use Rattle.jnl_file.proofs.journal.Journal.attach.Goals as goal

pub returns-in_err-gated-clause-outside : goal.returns-in_err-gated-clause-outside
returns-in_err-gated-clause-outside g c offset is =
    let o = (g.D.Disk.disk c.args.disk.now).content in
    let file = c.journal_file.result in
    subst (λ (f : ℕ). IfSome o (λ files. IsOutsideJournal c.args.region c.args.generation (files f) offset)) c.journal_file.ensures
    (weaker_told o (λ files. IsOutside (files file) offset) (λ files. IsOutsideJournal c.args.region c.args.generation (files file) offset) (c.attach.ensures.outside offset (search (rules, is))) (λ files out. inl out))

pub returns-in_err-read_whole-clause-outside : goal.returns-in_err-read_whole-clause-outside
returns-in_err-read_whole-clause-outside g c offset is =
    let view = g.D.Disk.disk in
    let o = (view c.args.disk.now).content in
    let file = c.journal_file.result in
    let made : Gated = c.in_ok-gated.gated in
    let r = c.args.region in
    let n = c.args.generation in
    let wrong = taken_back o (view c.attach.new.disk) made file (λ bytes. HasWrongRecord r n bytes offset) (λ old new same w. wrong_as r n old new offset same w) c.in_ok-gated.ensures.state (c.read_whole.ensures.wrong offset (search (rules, is))) in
    subst (λ (f : ℕ). IfSome o (λ files. IsOutsideJournal r n (files f) offset)) c.journal_file.ensures
    (weaker_told o (λ files. HasWrongRecord r n (files file) offset) (λ files. IsOutsideJournal r n (files file) offset) wrong (λ files w. inr w))

pub returns-in_err-read_whole-clause-no_list : goal.returns-in_err-read_whole-clause-no_list
returns-in_err-read_whole-clause-no_list g c offset is =
    let view = g.D.Disk.disk in
    let o = (view c.args.disk.now).content in
    let file = c.journal_file.result in
    let made : Gated = c.in_ok-gated.gated in
    let r = c.args.region in
    let n = c.args.generation in
    let wrong = taken_back o (view c.attach.new.disk) made file (λ bytes. HasWrongRecord r n bytes offset) (λ old new same w. wrong_as r n old new offset same w) c.in_ok-gated.ensures.state (c.read_whole.ensures.wrong offset (search (rules, is))) in
    subst (λ (f : ℕ). IfSome o (λ files. (rs : List JournalRecord) → IsJournalFile r n (files f) rs → ⊥)) c.journal_file.ensures
    (weaker_told o (λ files. HasWrongRecord r n (files file) offset) (λ files. (rs : List JournalRecord) → IsJournalFile r n (files file) rs → ⊥) wrong (λ files w. wrong_is_none r n (files file) offset w))

pub returns-in_err-read_whole-clause-any_moment : goal.returns-in_err-read_whole-clause-any_moment
returns-in_err-read_whole-clause-any_moment g c =
    let view = g.D.Disk.disk in
    let u = view c.args.disk.now in
    let v = view c.attach.new.disk in
    let w = view c.read_whole.new.disk in
    let file = c.journal_file.result in
    subst (λ (f : ℕ). IfSome u.content (λ files. AtEachMoment u w (KeepsRecords u f))) c.journal_file.ensures
    (weaker_told u.content (λ files. AtEachMoment u v (KeepsRecords u file)) (λ files. AtEachMoment u w (KeepsRecords u file)) c.attach.ensures.any_moment
    (λ files run. nothing_new u v w (KeepsRecords u file) (g.met.D.Disk.lawful c.attach.new.disk) run (read_only v w c.read_whole.ensures.reads)))

pub returns-clause-any_moment : goal.returns-clause-any_moment
returns-clause-any_moment g c =
    let view = g.D.Disk.disk in
    let u = view c.args.disk.now in
    let v = view c.attach.new.disk in
    let w = view c.read_whole.new.disk in
    let file = c.journal_file.result in
    subst (λ (f : ℕ). IfSome u.content (λ files. AtEachMoment u w (KeepsRecords u f))) c.journal_file.ensures
    (weaker_told u.content (λ files. AtEachMoment u v (KeepsRecords u file)) (λ files. AtEachMoment u w (KeepsRecords u file)) c.attach.ensures.any_moment
    (λ files run. nothing_new u v w (KeepsRecords u file) (g.met.D.Disk.lawful c.attach.new.disk) run (read_only v w c.read_whole.ensures.reads)))

pub returns-clause-state : goal.returns-clause-state
returns-clause-state g c =
    let view = g.D.Disk.disk in
    let o = (view c.args.disk.now).content in
    let v = view c.attach.new.disk in
    let w = view c.read_whole.new.disk in
    let file = c.journal_file.result in
    let r = c.args.region in
    let n = c.args.generation in
    let j : Journal = record { gated = c.read_whole.new.gated; region = r; generation = n; body = c.new.result; spare = c.new-2.result } in
    subst (λ (f : ℕ). IfSome o (λ files. (rs : List JournalRecord) × IsJournalFile r n (files f) rs × HasRecords w j (settled rs))) c.journal_file.ensures
    (taken_records o v w c.in_ok-gated.gated j file r n c.read_whole.ensures.reads c.read_whole.ensures.same c.in_ok-gated.ensures.state c.in_ok-read_whole.ensures.whole)

pub returns-clause-ready : goal.returns-clause-ready
returns-clause-ready g c =
    let view = g.D.Disk.disk in
    let u = view c.args.disk.now in
    let v = view c.attach.new.disk in
    let w = view c.read_whole.new.disk in
    let file = c.journal_file.result in
    let r = c.args.region in
    let n = c.args.generation in
    let made : Gated = c.in_ok-gated.gated in
    let j : Journal = record { gated = c.read_whole.new.gated; region = r; generation = n; body = c.new.result; spare = c.new-2.result } in
    let has = taken_records u.content v w made j file r n c.read_whole.ensures.reads c.read_whole.ensures.same c.in_ok-gated.ensures.state c.in_ok-read_whole.ensures.whole in
    let frame = others_then (Only file) u v w c.attach.ensures.frame (others_read (Only file) v w c.read_whole.ensures.reads) in
    record {
      file = ap (λ (x : Gated). x.file) c.read_whole.ensures.same ∙ c.in_ok-gated.ensures.file ∙ c.journal_file.ensures;
      gated = ready_read v w made c.read_whole.new.gated c.read_whole.ensures.reads c.read_whole.ensures.same c.in_ok-gated.ensures.ready;
      state = some_records u w (Only file) j frame
          (weaker_told u.content (λ files. (rs : List JournalRecord) × IsJournalFile r n (files file) rs × HasRecords w j (settled rs)) (λ files. (s : Recorded) × HasRecords w j s) has (λ files h. (settled h.0, h.2)));
    }
