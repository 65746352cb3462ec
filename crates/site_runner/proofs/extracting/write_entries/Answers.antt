use Rattle.std.proofs.Common.{rules, ◌≡◌, ℕ, ◌+◌, ◌-◌, ◌≤◌, ◌<◌, ◌++◌, true, sym, IsErrOf, IfSome, length, inl, inr, refl, ◌∙◌, ap, subst, arith}
use Rattle.std.specs.Prelude.{slice_get}
use Rattle.disk_defs.proofs.Frames.{reads_more}
use Rattle.global_defs.specs.Entry.{Entry}
use Rattle.global_defs.specs.Extract.{entry_text}
use Rattle.site_store.specs.Site.{count_of}
use Rattle.site_store.specs.Owning.{disk_of, memory_of}
use Rattle.site_store.specs.declared.error.SiteError.TheVariants.{NotAFile}
use Rattle.site_runner.proofs.Shown.{none_yet, entry_more, entries_done, some_none, some_more, some_done}
use Rattle.site_runner.proofs.extracting.write_entries.Goals as goal

pub loop-place-init : goal.loop-place-init
loop-place-init g c = record {
  going = c.requires;
  memory = refl;
  stays = λ x h is. is;
  reads = search rules;
  faults = omega arith;
  reached = inl refl;
  entries = λ x h is. none_yet x.sequence c.args.before c.args.text.now;
  some = some_none c.args.before c.args.text.now;
}

pub extract-requires-clause-ready : goal.extract-requires-clause-ready
extract-requires-clause-ready g c goes = c.loop-place.invariant.going

pub loop-place-preserved : goal.loop-place-preserved
loop-place-preserved g c =
    let view = g.D.Disk.disk in
    let l = c.loop-place in
    let inv = l.invariant in
    let v = view (disk_of c.args.site.now) in
    let memory = memory_of c.args.site.now in
    let e = c.in_ok-extract.ensures in
    let out = c.extract.new.out in
    let goes = e.goes_on inv.going.fault (λ fault is. cc) in
    let from : c.args.before ≤ l.place = omega arith in
    let end = c.sequence_length-place-end.ensures in
    let test = c.loop-place-test.true in
    let low : l.place < count_of memory = omega (arith, end, test) in
    let here : l.place + 1 ≤ count_of (memory_of l.site) = subst (λ (m : ℕ). l.place + 1 ≤ m) (ap count_of (sym inv.memory)) (omega (arith, low)) in
    let number : l.place + 1 - 1 ≡ l.place = omega arith in
    record {
      going = e.ready goes;
      memory = e.memory ∙ inv.memory;
      stays = λ x h is. e.stays_open true x h (inv.stays x h is) goes;
      reads = reads_more v (view (disk_of l.site)) (view (disk_of c.extract.new.self)) (g.met.D.Disk.lawful (disk_of c.args.site.now)) inv.reads e.reads;
      faults = omega (arith, inv.faults, e.faults.later);
      reached = inr (omega (arith, low));
      entries = λ x h is.
          let many : count_of memory ≡ length x.sequence = is.inner.remembered.count in
          entry_more x.sequence c.args.before l.place c.args.text.now l.text out from (omega (arith, low, many)) (inv.entries x h is)
          (subst (λ (k : ℕ). IfSome (slice_get x.sequence k) (λ (e : Entry). out ≡ l.text ++ entry_text (l.place + 1) e)) number (e.opened x h (inv.stays x h is)));
      some = some_more c.args.before l.place c.args.text.now l.text out from inv.some (e.some here);
    }

pub returns-in_err-extract-clause-goes_on : goal.returns-in_err-extract-clause-goes_on
returns-in_err-extract-clause-goes_on g c never =
    let e = c.extract.ensures in
    e.ready (e.goes_on c.loop-place.invariant.going.fault (λ fault is. never fault (search (rules, is))))

pub returns-in_err-extract-clause-stays_open : goal.returns-in_err-extract-clause-stays_open
returns-in_err-extract-clause-stays_open g c x h is goes = c.extract.ensures.stays_open true x h (c.loop-place.invariant.stays x h is) goes

pub returns-in_err-extract-clause-memory : goal.returns-in_err-extract-clause-memory
returns-in_err-extract-clause-memory g c = c.extract.ensures.memory ∙ c.loop-place.invariant.memory

pub returns-in_err-extract-clause-outside : goal.returns-in_err-extract-clause-outside
returns-in_err-extract-clause-outside g c file offset is x h opened =
    let failed : IsErrOf c.extract.result (NotAFile file offset) = search (rules, is) in
    c.extract.ensures.outside file offset failed x h (c.loop-place.invariant.stays x h opened)

pub returns-in_err-extract-clause-reads : goal.returns-in_err-extract-clause-reads
returns-in_err-extract-clause-reads g c =
    let view = g.D.Disk.disk in
    reads_more (view (disk_of c.args.site.now)) (view (disk_of c.loop-place.site)) (view (disk_of c.extract.new.self)) (g.met.D.Disk.lawful (disk_of c.args.site.now)) c.loop-place.invariant.reads c.extract.ensures.reads

pub returns-clause-entries : goal.returns-clause-entries
returns-clause-entries g c x h is =
    let l = c.loop-place in
    let many : count_of (memory_of c.args.site.now) ≡ length x.sequence = is.inner.remembered.count in
    entries_done x.sequence c.args.before l.place c.args.text.now l.text (omega (arith, c.loop-place-test.false, c.sequence_length-place-end.ensures, many)) (l.invariant.entries x h is)

pub returns-clause-some : goal.returns-clause-some
returns-clause-some g c =
    let l = c.loop-place in
    some_done c.args.before (count_of (memory_of c.args.site.now)) l.place c.args.text.now l.text (omega arith) (omega (arith, c.loop-place-test.false, c.sequence_length-place-end.ensures)) l.invariant.reached l.invariant.some
