use Rattle.std.proofs.Common.{rules, ◌≡◌, ◌+◌, ◌<◌, ℕ, suc, Bool, List, [], ◌∷◌, ◌++◌, length, Some, IfSome, sym, ap, subst, arith, length-append}
use Rattle.std.specs.List.{slice_get}
use Rattle.disk_defs.specs.Disk.{Files, Image, From, AtEachMoment}
use Rattle.disk_defs.proofs.Frames.{others_same}
use Rattle.journal_defs.specs.Journal.{JournalRecord}
use Rattle.journal_defs.specs.Numbers.{journal_file}
use Rattle.jnl_file.specs.Journal as journals
use Rattle.jnl_file.specs.Begin.{pini, MayBegin}
use Rattle.jnl_file.specs.Records.{settled}
use Rattle.jnl_file.specs.declared.journal.Journal.{Journal}
use Rattle.site_files.specs.Loading.{AreJournalsOf, HasBegun, first_by, last_of}
use Rattle.site_files.proofs.Beginning as beginning
use Rattle.site_files.proofs.drawing.begin_all.Goals as goal

pub loop-region-init : goal.loop-region-init
loop-region-init g c =
    let u = g.D.Disk.disk c.args.disk.now in
    let n = length c.args.last_began.now in
    let first = first_by c.args.anew c.args.records.now c.args.generation c.args.last_began.now in
    record {
      number = search rules;
      ready = λ r j is. search (rules, is);
      state = search rules;
      begun = beginning.first_images u c.args.generation n first u.content c.requires.unbegun;
      moments = beginning.first_moments u c.args.generation n first u.content c.requires.unbegun;
      frame = others_same (AreJournalsOf c.args.generation n) u;
      faults = omega arith;
    }

pub begin_next-requires-clause-empty : goal.begin_next-requires-clause-empty
begin_next-requires-clause-empty g c =
    let view = g.D.Disk.disk in
    let l = c.loop-region in
    let inv = l.invariant in
    let u = view c.args.disk.now in
    let v = view l.disk in
    let lasts = c.args.last_began.now in
    let n = length lasts in
    let gen = c.args.generation in
    let first = first_by c.args.anew c.args.records.now gen lasts in
    let r = l.region in
    let low : r < n = omega arith in
    beginning.empty_here u v v gen n first r low inv.frame inv.begun (g.met.D.Disk.lawful l.disk)

pub loop-region-preserved : goal.loop-region-preserved
loop-region-preserved g c =
    let view = g.D.Disk.disk in
    let l = c.loop-region in
    let inv = l.invariant in
    let u = view c.args.disk.now in
    let v = view l.disk in
    let lasts = c.args.last_began.now in
    let n = length lasts in
    let gen = c.args.generation in
    let first = first_by c.args.anew c.args.records.now gen lasts in
    let r = l.region in
    let low : r < n = omega arith in
    let w = view c.begin_next.new.disk in
    let call = c.in_ok-begin_next.ensures.added in
    let first_is : pini r c.mode_begun-before.result gen (last_of lasts r) ≡ first r = ap (λ (b : Bool). pini r b gen (last_of lasts r)) c.mode_begun-before.ensures in
    let has = subst (λ (x : JournalRecord). IfSome v.content (λ _. journals.HasRecords w call.0 (settled (x ∷ [])))) first_is call.4 in
    let moments = subst (λ (x : JournalRecord). IfSome v.content (λ _. AtEachMoment v w (MayBegin v (journal_file gen r) x))) first_is c.begin_next.ensures.any_moment in
    let js = l.journals.items in
    let made = call.0 in
    let stays = c.begin_next.ensures.frame in
    let next : r + 1 ≡ suc r = omega arith in
    let size : length c.begin_next.new.begun.items ≡ length (js ++ made ∷ []) = ap length call.1 in
    record {
      number = omega (arith, size, length-append js (made ∷ []), inv.number);
      ready = subst (λ (ks : List Journal). (q : ℕ) (j : Journal) → slice_get ks q ≡ Some j → journals.IsReady w j × journals.IsJournalOf j q gen) (sym call.1)
          (beginning.ready_more u v w gen n first r low inv.frame inv.begun stays js made inv.number call.3 inv.ready call.2);
      state = subst (λ (ks : List Journal). IfSome u.content (λ _. (q : ℕ) (j : Journal) → slice_get ks q ≡ Some j → journals.HasRecords w j (settled (first q ∷ [])))) (sym call.1)
          (beginning.state_more u v w gen n first r low inv.frame inv.begun stays js made inv.number call.3 inv.ready inv.state has);
      begun = subst (λ (k : ℕ). IfSome u.content (λ _. (f : Files) → Image w f → From (Image u) (HasBegun gen n first k) f)) (sym next) (beginning.begun_more u v w gen n first r low inv.frame inv.begun made stays call.3.file has);
      moments = beginning.moments_more u v w gen n first r low inv.frame inv.begun inv.moments moments;
      frame = beginning.frame_more u v w gen n first r low inv.frame inv.begun stays;
      faults = omega (arith, inv.faults, c.begin_next.ensures.faults.later);
    }

pub returns-in_err-begin_next-clause-any_moment : goal.returns-in_err-begin_next-clause-any_moment
returns-in_err-begin_next-clause-any_moment g c =
    let view = g.D.Disk.disk in
    let l = c.loop-region in
    let inv = l.invariant in
    let u = view c.args.disk.now in
    let v = view l.disk in
    let lasts = c.args.last_began.now in
    let n = length lasts in
    let gen = c.args.generation in
    let first = first_by c.args.anew c.args.records.now gen lasts in
    let r = l.region in
    let low : r < n = omega arith in
    let w = view c.begin_next.new.disk in
    let first_is : pini r c.mode_begun-before.result gen (last_of lasts r) ≡ first r = ap (λ (b : Bool). pini r b gen (last_of lasts r)) c.mode_begun-before.ensures in
    beginning.moments_more u v w gen n first r low inv.frame inv.begun inv.moments
    (subst (λ (x : JournalRecord). IfSome v.content (λ _. AtEachMoment v w (MayBegin v (journal_file gen r) x))) first_is c.begin_next.ensures.any_moment)

pub returns-in_err-begin_next-clause-frame : goal.returns-in_err-begin_next-clause-frame
returns-in_err-begin_next-clause-frame g c =
    let view = g.D.Disk.disk in
    let l = c.loop-region in
    let inv = l.invariant in
    let u = view c.args.disk.now in
    let v = view l.disk in
    let lasts = c.args.last_began.now in
    let n = length lasts in
    let gen = c.args.generation in
    let first = first_by c.args.anew c.args.records.now gen lasts in
    let r = l.region in
    let low : r < n = omega arith in
    let w = view c.begin_next.new.disk in
    beginning.frame_more u v w gen n first r low inv.frame inv.begun c.begin_next.ensures.frame
