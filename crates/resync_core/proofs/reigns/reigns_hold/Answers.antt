use Rattle.std.proofs.Common.{◌≡◌, ℕ, suc, ◌<◌, ◌≤◌, length, Some, slice_get, arith}
use Rattle.global_defs.specs.declared.limits.TheConstants.{MOST_REIGNS}
use Rattle.global_defs.specs.Prefix.{IsPrefix}
use Rattle.global_defs.specs.Rising.{begun_by}
use Rattle.lineage_defs.specs.Sites.{Site, World}
use Rattle.lineage_defs.specs.Lineage.{IsFit}
use Rattle.resync_core.proofs.BegunReigns.{fewer-begun}
use Rattle.resync_core.proofs.HistoryLaws as histories
use Rattle.resync_core.proofs.reigns.reigns_hold.Goals as goal

few : (w : World) (i j : ℕ) (a b : Site) → IsFit w → slice_get w i ≡ Some a → slice_get w j ≡ Some b → IsPrefix b.sequence a.sequence
    → length b.sequence < length a.sequence → length (begun_by (suc (length b.sequence)) a.reigns) ≤ MOST_REIGNS
few w i j a b h at bt p low =
    let less = fewer-begun (suc (length b.sequence)) (length a.sequence) a.reigns (omega arith) in
    let most = (h.each i a at).few in
    omega arith

pub returns : goal.returns
returns c = record {
  one = histories.one;
  front = λ rs front seq h p. histories.of-front rs seq front h p;
  shared = λ w i j a b h at bt p. histories.front a.reigns b.reigns a.sequence b.sequence (h.each i a at).history (h.each j b bt).history p;
  next = λ w i j a b stamp h at bt p low is. histories.adopts-next a.reigns b.reigns a.sequence b.sequence stamp (h.each i a at).history (h.each j b bt).history p low is;
  few = few;
}
