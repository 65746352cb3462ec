use Rattle.resync_core.proofs.BegunReigns.{stamp-begun, stamp-push_late, stamp-push, begun-begun, begun-push_late, begun-push}
use Rattle.resync_core.proofs.reigns.stamps_hold.Goals as goal

pub returns : goal.returns
returns c = record {
  dropped = stamp-begun;
  before = stamp-push_late;
  begun = stamp-push;
  reigns_dropped = begun-begun;
  reigns_before = begun-push_late;
  reigns_begun = begun-push;
}
