use Rattle.std.proofs.Common.{◌≡◌, ◌∙◌, ◌+◌, ◌<◌, ℕ, List, Vec, Global, [], ◌∷◌, ◌++◌, length, map, slice_get, Some, None, IfSome, sym, ap, subst, arith, length-append}
use Rattle.std.specs.Prelude.{slice_index}
use Rattle.std.proofs.lemmas.Result.{err_from_is_err_and}
use Rattle.disk_defs.proofs.Told.{told_at}
use Rattle.disk_defs.proofs.Frames.{reads_more}
use Rattle.journal_defs.specs.Directory.{patterns}
use Rattle.journal_defs.specs.Sequence.{Placed}
use Rattle.global_defs.specs.Entry.{Sequence}
use Rattle.entry_index.specs.declared.placed.PlacedSign.{PlacedSign}
use Rattle.entry_index.specs.Signs.{signs_of}
use Rattle.region_store.specs.Region.{Standing, IsHeld}
use Rattle.region_store.specs.declared.error.RegionError.TheVariants.{NotAFile}
use Rattle.region_store.proofs.Handed.{handed_on}
use Rattle.region_store.proofs.Logs.{reads_none}
use Rattle.region_opening.specs.Opening.{IsBegun, IsGoneBack, IsRefused}
use Rattle.region_opening.specs.Signs.{AreTold}
use Rattle.region_opening.proofs.Opened.{AreGoneBack, AreHeld, none_back, none_held, one_more_back, one_more_held, one_more_begun, one_more_first, first_refused}
use Rattle.region_opening.proofs.opening.begin_each.Goals as goal

pub loop-number-init : goal.loop-number-init
loop-number-init g c =
    let u = g.D.Disk.disk c.args.disk.now in
    let instance = c.args.instance.now in
    let t = c.args.target in
    let signs = map (λ (s : Vec PlacedSign Global). s.items) c.args.signs.now in
    let regions = c.new.ensures.items in
    let from = c.new-2.ensures.items in
    record {
      count = ap length regions;
      numbers = ap length from;
      few = omega arith;
      begun = λ r s here. let gone : None ≡ Some s = ap (λ (rs : List Standing). slice_get rs r) (sym regions) ∙ here in cc;
      first = λ r none. ap (λ (ns : List ℕ). slice_index ns r) from;
      held = subst (λ (rs : List Standing). IfSome u.content (AreHeld u.content instance t signs rs)) (sym regions) (none_held u.content instance t signs);
      back = subst (λ (rs : List Standing). IfSome u.content (AreGoneBack u.content instance t signs rs c.new-2.result.items)) (sym regions)
          (subst (λ (ns : List ℕ). IfSome u.content (AreGoneBack u.content instance t signs [] ns)) (sym from) (none_back u.content instance t signs));
      reads = reads_none u;
      faults = omega arith;
    }

pub loop-number-preserved : goal.loop-number-preserved
loop-number-preserved g c =
    let view = g.D.Disk.disk in
    let l = c.loop-number in
    let inv = l.invariant in
    let u = view c.args.disk.now in
    let v = view l.disk in
    let instance = c.args.instance.now in
    let t = c.args.target in
    let n = l.number in
    let signs = map (λ (s : Vec PlacedSign Global). s.items) c.args.signs.now in
    let rs = l.all.regions.items in
    let ns = l.all.from.items in
    let made = c.in_ok-begun.begun in
    let call = c.in_ok-begun.ensures in
    let pushed = c.in_ok-add.ensures in
    let at : c.signs_at-region.result.now ≡ signs_of signs n = c.signs_at-region.ensures in
    let back : IfSome v.content (λ files. (journal : List Placed) → AreTold files n (signs_of signs n) journal → IsGoneBack instance t made.from journal n made.region files) =
    subst (λ (ss : List PlacedSign). IfSome v.content (λ files. (journal : List Placed) → AreTold files n ss journal → IsGoneBack instance t made.from journal n made.region files)) at call.gone_back in
    record {
      count = let was = inv.count in ap length pushed.regions ∙ length-append rs (made.region ∷ []) ∙ ap (λ (k : ℕ). k + 1) was;
      numbers = let was = inv.numbers in ap length pushed.from ∙ length-append ns (made.from ∷ []) ∙ ap (λ (k : ℕ). k + 1) was;
      few = omega (arith, c.loop-number-test.true, c.regions-number-end.ensures.count);
      begun = subst (λ (xs : List Standing). (r : ℕ) (s : Standing) → slice_get xs r ≡ Some s → IsBegun (patterns instance) t (slice_index c.add.new.all.from.items r) r s) (sym {A = List Standing} pushed.regions)
          (subst (λ (ks : List ℕ). (r : ℕ) (s : Standing) → slice_get (rs ++ made.region ∷ []) r ≡ Some s → IsBegun (patterns instance) t (slice_index ks r) r s) (sym {A = List ℕ} pushed.from)
          (one_more_begun u.content instance t signs (patterns instance) rs ns made.region made.from n inv.count inv.numbers inv.begun call.begun));
      first = subst (λ (ks : List ℕ). (r : ℕ) → signs_of signs r ≡ [] → slice_index ks r ≡ 0) (sym {A = List ℕ} pushed.from)
          (one_more_first u.content instance t signs ns made.from n inv.numbers inv.first (λ none. call.first (at ∙ none)));
      held = subst (λ (xs : List Standing). IfSome u.content (AreHeld u.content instance t signs xs)) (sym {A = List Standing} pushed.regions)
          (one_more_held u.content instance t signs rs made.region inv.held (told_at u.content v.content (IsHeld made.region) inv.reads.content call.held));
      back = subst (λ (xs : List Standing). IfSome u.content (AreGoneBack u.content instance t signs xs c.add.new.all.from.items)) (sym {A = List Standing} pushed.regions)
          (subst (λ (ks : List ℕ). IfSome u.content (AreGoneBack u.content instance t signs (rs ++ made.region ∷ []) ks)) (sym {A = List ℕ} pushed.from)
          (one_more_back u.content instance t signs rs ns made.region made.from n inv.count inv.numbers inv.back
          (told_at u.content v.content (λ files. (journal : List Placed) → AreTold files n (signs_of signs n) journal → IsGoneBack instance t made.from journal n made.region files) inv.reads.content back)));
      reads = reads_more u v (view c.open_region.new.disk) (g.met.D.Disk.lawful c.args.disk.now) inv.reads c.open_region.ensures.reads;
      faults = omega (arith, inv.faults, c.open_region.ensures.faults.later);
    }

pub returns-in_err-begun-clause-outside : goal.returns-in_err-begun-clause-outside
returns-in_err-begun-clause-outside g c =
    let view = g.D.Disk.disk in
    let l = c.loop-number in
    let u = view c.args.disk.now in
    let v = view l.disk in
    let instance = c.args.instance.now in
    let t = c.args.target in
    let n = l.number in
    let signs = map (λ (s : Vec PlacedSign Global). s.items) c.args.signs.now in
    let at : c.signs_at-region.result.now ≡ signs_of signs n = c.signs_at-region.ensures in
    let low : n < c.args.directory.now.regions = omega (arith, c.loop-number-test.true, c.regions-number-end.ensures.count) in
    let p = err_from_is_err_and c.from_residual.result c.from_residual.ensures.1 in
    rw (p.1, p.2) (λ f offset is.
    let told : IfSome v.content (λ files. (journal : List Placed) → AreTold files n (signs_of signs n) journal → (seq : Sequence) → IsRefused instance t seq journal n f offset files) =
    subst (λ (ss : List PlacedSign). IfSome v.content (λ files. (journal : List Placed) → AreTold files n ss journal → (seq : Sequence) → IsRefused instance t seq journal n f offset files)) at
    (c.in_err-begun.ensures.outside f offset (handed_on c.in_err-begun.field-0.0 (NotAFile f offset) is)) in
    first_refused u.content instance t signs l.all.regions.items l.all.from.items n c.args.directory.now.regions f offset l.invariant.count low l.invariant.back
    (told_at u.content v.content (λ files. (journal : List Placed) → AreTold files n (signs_of signs n) journal → (seq : Sequence) → IsRefused instance t seq journal n f offset files) l.invariant.reads.content told))

pub returns-in_err-add-clause-reads : goal.returns-in_err-add-clause-reads
returns-in_err-add-clause-reads g c =
    let view = g.D.Disk.disk in
    reads_more (view c.args.disk.now) (view c.loop-number.disk) (view c.open_region.new.disk) (g.met.D.Disk.lawful c.args.disk.now) c.loop-number.invariant.reads c.open_region.ensures.reads
