use Rattle.std.proofs.Common.{◌≡◌, ◌++◌, ℕ, suc, Bool, List, length, refl, ◌∙◌, sym, subst, IfSome}
use Rattle.disk_defs.proofs.Frames.{others_then, others_wider}
use Rattle.global_defs.specs.Entry.{Sequence}
use Rattle.journal_defs.specs.Journal.{JournalRecord}
use Rattle.journal_defs.specs.Sequence.{Records}
use Rattle.region_journals.specs.Fronts.{IsNewestFile}
use Rattle.region_journals.proofs.Hardened.{ok_gives}
use Rattle.region_epochs.specs.Files.{IsDatabaseFile, IsEpochFile}
use Rattle.region_epochs.specs.Flushed.{AreEpochs, AreRestored}
use Rattle.region_epochs.specs.Kept.{IsTogether, IsKept, IsStillSound}
use Rattle.region_epochs.specs.Taken.{IsTaken}
use Rattle.region_epochs.proofs.Logs.{chain}
use Rattle.region_epochs.proofs.Taking.{together_written, epochs_written, written_moments, kept_written, newest_within, database_within, wider_moments, moments_before, taken_before}
use Rattle.region_epochs.proofs.epoch.take_epoch.Goals as goal

-- ---- the images

pub returns-in_err-log_images-clause-any_moment : goal.returns-in_err-log_images-clause-any_moment
returns-in_err-log_images-clause-any_moment g c s seq h newer k is =
    let view = g.D.Disk.disk in
    let n = length c.args.journals.now.journals.items in
    wider_moments (view c.args.disk.now) (view c.log_images.new.disk) (IsNewestFile (suc h) n) (IsEpochFile (suc h) n) s seq (suc h) (newest_within (suc h) n n refl) (c.log_images.ensures.any_moment s seq h newer k)

pub returns-in_err-log_images-clause-frame : goal.returns-in_err-log_images-clause-frame
returns-in_err-log_images-clause-frame g c h ready =
    let view = g.D.Disk.disk in
    let n = length c.args.journals.now.journals.items in
    others_wider (IsNewestFile h n) (IsEpochFile h n) (view c.args.disk.now) (view c.log_images.new.disk) (newest_within h n n refl) (c.log_images.ensures.frame h ready)

-- ---- the blocks

pub flush_regions-requires-clause-held : goal.flush_regions-requires-clause-held
flush_regions-requires-clause-held g c = let t = c.requires.together in (c.in_ok-log_images.ensures.together t.0 t.1).held

pub returns-in_err-made-clause-any_moment : goal.returns-in_err-made-clause-any_moment
returns-in_err-made-clause-any_moment g c s seq h newer k is =
    let view = g.D.Disk.disk in
    let u = view c.args.disk.now in
    let v = view c.log_images.new.disk in
    let w = view c.flush_regions.new.disk in
    let n = length c.args.journals.now.journals.items in
    let ks = c.log_images.new.journals.journals.items in
    let i = c.log_images.new.regions in
    let l = c.in_ok-log_images.ensures.done s seq h newer k in
    let first = wider_moments u v (IsNewestFile (suc h) n) (IsEpochFile (suc h) n) s seq (suc h) (newest_within (suc h) n n refl) (c.log_images.ensures.any_moment s seq h newer k) in
    let many : length i.regions ≡ n = c.log_images.ensures.same.count ∙ k.as_many_regions ∙ sym k.as_many_journals in
    let second = wider_moments v w (IsDatabaseFile (length i.regions)) (IsEpochFile (suc h) n) s seq (suc h) (database_within (suc h) (length i.regions) n many)
    (moments_before v s seq h newer ks i l v w (IsDatabaseFile (length i.regions)) (written_moments v w l.records seq h (λ r. newer r ++ l.more.more r) ks i l.kept c.flush_regions.ensures.any_moment)) in
    chain u v w (IsEpochFile (suc h) n) (IsStillSound s seq (suc h)) (g.met.D.Disk.lawful c.log_images.new.disk) first second

pub returns-in_err-made-clause-frame : goal.returns-in_err-made-clause-frame
returns-in_err-made-clause-frame g c h ready =
    let view = g.D.Disk.disk in
    let u = view c.args.disk.now in
    let v = view c.log_images.new.disk in
    let w = view c.flush_regions.new.disk in
    let n = length c.args.journals.now.journals.items in
    let i = c.log_images.new.regions in
    let t = c.requires.together in
    let many : length i.regions ≡ n = c.log_images.ensures.same.count ∙ sym t.1.count in
    others_then (IsEpochFile h n) u v w (others_wider (IsNewestFile h n) (IsEpochFile h n) u v (newest_within h n n refl) (c.log_images.ensures.frame h ready))
    (others_wider (IsDatabaseFile (length i.regions)) (IsEpochFile h n) v w (database_within h (length i.regions) n many) c.flush_regions.ensures.frame)

-- ---- the EPOCHs

pub end_epoch-requires-clause-together : goal.end_epoch-requires-clause-together
end_epoch-requires-clause-together g c =
    let view = g.D.Disk.disk in
    let t = c.requires.together in
    let call = c.in_ok-made.ensures in (
      t.0,
      together_written (view c.log_images.new.disk) (view c.flush_regions.new.disk) t.0 c.log_images.new.journals.journals.items c.log_images.new.regions c.flush_regions.new.regions
          c.flush_regions.ensures.frame c.flush_regions.ensures.same call.held (c.in_ok-log_images.ensures.together t.0 t.1),
    )

pub end_epoch-requires-clause-made : goal.end_epoch-requires-clause-made
end_epoch-requires-clause-made g c =
    let call = c.in_ok-made.ensures in
    (c.args.closing, c.args.number, epochs_written c.args.closing c.args.number c.log_images.new.regions c.flush_regions.new.regions c.in_ok-made.made c.flush_regions.ensures.same call.flushed call.epochs)

pub returns-clause-together : goal.returns-clause-together
returns-clause-together g c =
    let view = g.D.Disk.disk in
    let u = view c.args.disk.now in
    let v = view c.log_images.new.disk in
    let w = view c.flush_regions.new.disk in
    let x = view c.end_epoch.new.disk in
    let js = c.args.journals.now.journals.items in
    let ks = c.log_images.new.journals.journals.items in
    let ls = c.end_epoch.new.journals.journals.items in
    let j = c.args.regions.now in
    let i = c.log_images.new.regions in
    let m = c.flush_regions.new.regions in
    let o = c.end_epoch.new.regions in
    let call = c.in_ok-made.ensures in
    ok_gives c.end_epoch.result ((h : ℕ) → IsTogether w h ks m → IsTogether x h ls o) ((h : ℕ) → IsTogether u h js j → IsTogether x h ls o)
    (λ ends h t. ends h (together_written v w h ks i m c.flush_regions.ensures.frame c.flush_regions.ensures.same call.held (c.in_ok-log_images.ensures.together h t))) c.end_epoch.ensures.together

pub returns-clause-frame : goal.returns-clause-frame
returns-clause-frame g c h ready =
    let view = g.D.Disk.disk in
    let u = view c.args.disk.now in
    let v = view c.log_images.new.disk in
    let w = view c.flush_regions.new.disk in
    let x = view c.end_epoch.new.disk in
    let n = length c.args.journals.now.journals.items in
    let ks = c.log_images.new.journals.journals.items in
    let j = c.args.regions.now in
    let i = c.log_images.new.regions in
    let t = c.requires.together in
    let many : length i.regions ≡ n = c.log_images.ensures.same.count ∙ sym t.1.count in
    let here : IsTogether u h c.args.journals.now.journals.items j = record { ready = ready; count = t.1.count; files = t.1.files; held = t.1.held } in
    let then = together_written v w h ks i c.flush_regions.new.regions c.flush_regions.ensures.frame c.flush_regions.ensures.same c.in_ok-made.ensures.held (c.in_ok-log_images.ensures.together h here) in
    others_then (IsEpochFile h n) u w x
    (others_then (IsEpochFile h n) u v w (others_wider (IsNewestFile h n) (IsEpochFile h n) u v (newest_within h n n refl) (c.log_images.ensures.frame h ready))
    (others_wider (IsDatabaseFile (length i.regions)) (IsEpochFile h n) v w (database_within h (length i.regions) n many) c.flush_regions.ensures.frame))
    (others_wider (IsNewestFile h (length ks)) (IsEpochFile h n) w x (newest_within h (length ks) n c.log_images.ensures.count) (c.end_epoch.ensures.frame h then.ready))

pub returns-clause-any_moment : goal.returns-clause-any_moment
returns-clause-any_moment g c s seq h newer k is =
    let view = g.D.Disk.disk in
    let u = view c.args.disk.now in
    let v = view c.log_images.new.disk in
    let w = view c.flush_regions.new.disk in
    let x = view c.end_epoch.new.disk in
    let n = length c.args.journals.now.journals.items in
    let ks = c.log_images.new.journals.journals.items in
    let i = c.log_images.new.regions in
    let m = c.flush_regions.new.regions in
    let call = c.in_ok-made.ensures in
    let same = c.flush_regions.ensures.same in
    let l = c.in_ok-log_images.ensures.done s seq h newer k in
    let then = λ (r : ℕ). newer r ++ l.more.more r in
    let first = wider_moments u v (IsNewestFile (suc h) n) (IsEpochFile (suc h) n) s seq (suc h) (newest_within (suc h) n n refl) (c.log_images.ensures.any_moment s seq h newer k) in
    let many : length i.regions ≡ n = c.log_images.ensures.same.count ∙ k.as_many_regions ∙ sym k.as_many_journals in
    let second = wider_moments v w (IsDatabaseFile (length i.regions)) (IsEpochFile (suc h) n) s seq (suc h) (database_within (suc h) (length i.regions) n many)
    (moments_before v s seq h newer ks i l v w (IsDatabaseFile (length i.regions)) (written_moments v w l.records seq h then ks i l.kept c.flush_regions.ensures.any_moment)) in
    let kept = kept_written v w l.records seq h then ks i l.kept c.flush_regions.ensures.any_moment m (g.met.D.Disk.lawful c.flush_regions.new.disk) c.flush_regions.ensures.frame same call.flushed call.held call.holds call.durable in
    let epochs = epochs_written c.args.closing (length seq) i m c.in_ok-made.made same call.flushed (subst (λ (q : ℕ). AreEpochs c.args.closing q i c.in_ok-made.made) (sym is) call.epochs) in
    let third = wider_moments w x (IsNewestFile (suc h) (length ks)) (IsEpochFile (suc h) n) s seq (suc h) (newest_within (suc h) (length ks) n c.log_images.ensures.count)
    (moments_before v s seq h newer ks i l w x (IsNewestFile (suc h) (length ks)) (c.end_epoch.ensures.any_moment c.args.closing l.records seq h then kept epochs call.restores)) in
    chain u w x (IsEpochFile (suc h) n) (IsStillSound s seq (suc h)) (g.met.D.Disk.lawful c.flush_regions.new.disk)
    (chain u v w (IsEpochFile (suc h) n) (IsStillSound s seq (suc h)) (g.met.D.Disk.lawful c.log_images.new.disk) first second) third

pub returns-clause-done : goal.returns-clause-done
returns-clause-done g c =
    let view = g.D.Disk.disk in
    let u = view c.args.disk.now in
    let v = view c.log_images.new.disk in
    let w = view c.flush_regions.new.disk in
    let x = view c.end_epoch.new.disk in
    let js = c.args.journals.now.journals.items in
    let ks = c.log_images.new.journals.journals.items in
    let ls = c.end_epoch.new.journals.journals.items in
    let j = c.args.regions.now in
    let i = c.log_images.new.regions in
    let m = c.flush_regions.new.regions in
    let o = c.end_epoch.new.regions in
    let call = c.in_ok-made.ensures in
    let same = c.flush_regions.ensures.same in
    ok_gives c.end_epoch.result
    ((closing : Bool) (s : Records) (seq : Sequence) (h : ℕ) (newer : ℕ → List JournalRecord) → IsKept w s seq h newer ks m → AreEpochs closing (length seq) m c.in_ok-made.made → IfSome w.content (AreRestored m) → IsTaken x closing s seq h newer ls o)
    ((s : Records) (seq : Sequence) (h : ℕ) (newer : ℕ → List JournalRecord) → IsKept u s seq h newer js j → length seq ≡ c.args.number → IsTaken x c.args.closing s seq h newer ls o)
    (λ ends s seq h newer k is.
    let l = c.in_ok-log_images.ensures.done s seq h newer k in
    let then = λ (r : ℕ). newer r ++ l.more.more r in
    let kept = kept_written v w l.records seq h then ks i l.kept c.flush_regions.ensures.any_moment m (g.met.D.Disk.lawful c.flush_regions.new.disk) c.flush_regions.ensures.frame same call.flushed call.held call.holds call.durable in
    let epochs = epochs_written c.args.closing (length seq) i m c.in_ok-made.made same call.flushed (subst (λ (q : ℕ). AreEpochs c.args.closing q i c.in_ok-made.made) (sym is) call.epochs) in
    taken_before v s seq h newer ks i l x c.args.closing ls o (ends c.args.closing l.records seq h then kept epochs call.restores))
    c.end_epoch.ensures.done
