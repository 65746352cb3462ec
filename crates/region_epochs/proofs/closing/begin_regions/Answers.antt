use Rattle.std.proofs.Common.{◌≡◌, ◌+◌, ℕ, Bool, false, List, [], ◌∷◌, ◌++◌, length, replicate, Some, sym, ◌∙◌, ap, subst, arith, length-append}
use Rattle.std.specs.Prelude.{slice_get}
use Rattle.region_store.specs.Region.{Standing, IsFlushed}
use Rattle.region_epochs.proofs.Lifts.{none_yet, nodes_then, none_lowered, one_lowered, AreLowered}
use Rattle.region_epochs.proofs.Epochs.{IsBegun, front_get, last_get}
use Rattle.region_epochs.proofs.closing.begin_regions.Goals as goal

pub loop-marks-init : goal.loop-marks-init
loop-marks-init c =
    let many = c.requires.as_many in
    record { few = omega (arith, many); none = c.requires.none; lowered = none_lowered IsBegun (length c.args.images.items) c.args.regions.now (omega (arith, many)); same = none_yet c.args.regions.now }

pub loop-marks-preserved : goal.loop-marks-preserved
loop-marks-preserved c =
    let l = c.loop-marks in
    let old = c.args.regions.now in
    let new = c.begin_epoch.new.self in
    let ms = c.pop.new.self.items in
    let n = c.len.result in
    let inv = l.invariant in
    let call = c.begin_epoch.ensures in
    let is = c.in-Some.ensures.items in
    let at : n ≡ length ms = omega (arith, c.len.ensures, c.pop.new.self.ok.0) in
    let size : length l.images.items ≡ n + 1 = omega (arith, ap length is, length-append ms (c.in-Some.marks ∷ []), at) in
    record {
      few = omega (arith, inv.few, size, at);
      none = λ r marks there. inv.none r marks (subst (λ (xs : List (List Bool)). slice_get xs r ≡ Some marks) (sym is) (front_get ms c.in-Some.marks r marks there));
      lowered = subst (λ (q : ℕ). AreLowered IsBegun q old new) at
          (one_lowered IsBegun n old l.regions new (subst (λ (q : ℕ). AreLowered IsBegun q old l.regions) size inv.lowered) call.same (record { is = call.begun; holds = call.holds }));
      same = nodes_then n old l.regions new inv.same call.same (ap (λ (x : Standing). x.file) call.begun);
    }

pub begin_epoch-requires-clause-inside : goal.begin_epoch-requires-clause-inside
begin_epoch-requires-clause-inside c =
    let l = c.loop-marks in
    let ms = c.pop.new.self.items in
    let at : c.len.result ≡ length ms = omega (arith, c.len.ensures, c.pop.new.self.ok.0) in
    let count = l.invariant.same.count in
    omega (arith, ap length c.in-Some.ensures.items, length-append ms (c.in-Some.marks ∷ []), at, l.invariant.few, count)

pub begin_epoch-requires-clause-flushed : goal.begin_epoch-requires-clause-flushed
begin_epoch-requires-clause-flushed c =
    let l = c.loop-marks in
    let ms = c.pop.new.self.items in
    let n = c.len.result in
    let at : n ≡ length ms = omega (arith, c.len.ensures, c.pop.new.self.ok.0) in
    let size : length l.images.items ≡ n + 1 = omega (arith, ap length c.in-Some.ensures.items, length-append ms (c.in-Some.marks ∷ []), at) in
    subst IsFlushed (sym (l.invariant.lowered.left n (omega (arith, size)))) (c.requires.flushed n (omega (arith, size, l.invariant.few)))

pub begin_epoch-requires-clause-none : goal.begin_epoch-requires-clause-none
begin_epoch-requires-clause-none c =
    let l = c.loop-marks in
    let ms = c.pop.new.self.items in
    let n = c.len.result in
    let marks = c.in-Some.marks in
    let is = c.in-Some.ensures.items in
    let at : n ≡ length ms = omega (arith, c.len.ensures, c.pop.new.self.ok.0) in
    let size : length l.images.items ≡ n + 1 = omega (arith, ap length is, length-append ms (marks ∷ []), at) in
    let there : slice_get l.images.items n ≡ Some marks =
    subst (λ (xs : List (List Bool)). slice_get xs n ≡ Some marks) (sym is) (subst (λ (q : ℕ). slice_get (ms ++ marks ∷ []) q ≡ Some marks) (sym at) (last_get ms marks)) in
    l.invariant.none n marks there ∙ ap (λ (x : Standing). replicate (length x.pool.leaves) false) (sym (l.invariant.lowered.left n (omega (arith, size))))

pub returns : goal.returns
returns c =
    let l = c.loop-marks in
    let none : length l.images.items ≡ 0 = omega (arith, c.in_default.ensures.cases.0, l.images.ok.0) in
    record {
      begun = λ r low. (l.invariant.lowered.done r (omega (arith, none)) low).is;
      holds = λ r e bytes m low blocks h. (l.invariant.lowered.done r (omega (arith, none)) low).holds e bytes m blocks h;
      same = l.invariant.same;
    }
