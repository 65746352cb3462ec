-- A site that was closed.
use Rattle.std.proofs.Common.{length, true, refl, subst}
use Rattle.std.proofs.Math.Seq.{take-length}
use Rattle.disk_defs.specs.Disk.{Files, View, Image, IsLawful}
use Rattle.site_defs.specs.Behind.{IsSiteWith}
use Rattle.site_defs.specs.Contents.{Contents, NO_LEFTOVER, bare}
use Rattle.site_defs.specs.Fronts.{with_sequence}
use Rattle.site_defs.specs.Stands.{HasLeft}
use Rattle.site_store.specs.declared.memory.Memory.{Memory}
use Rattle.site_store.specs.Needing.{NoneNeeds}
use Rattle.site_store.specs.Site.{IsOpen}
use Rattle.site_store.proofs.Emptied.{none_left}
use Rattle.site_store.proofs.Standing.{images_stand, reads_of, reads_so, told_of}
use Rattle.mupip_rollback.specs.Rolling.{StandsFor}

-- with all of its entries hardened and epochs of them, each image stands for its contents, and nothing lies behind them
pub stands_for : (w : View) (c : Contents) (s : Memory) → IsLawful w → IsOpen w true c (length c.sequence) s → ((f : Files) → Image w f → NoneNeeds (length c.sequence) f) → StandsFor w c
stands_for w c s lawful is none = record { reads = reads_so w (λ f. IsSiteWith f (bare c)) lawful (told_of w c (length c.sequence) s (is.kept refl)) images; images = images; none_needs = reads_of w (NoneNeeds (length c.sequence)) lawful none; none_needs_then = none }
  where
    images : (f : Files) → Image w f → IsSiteWith f (bare c)
    images f i = record {
      site = images_stand w c s is f i;
      left = subst (λ seq. HasLeft f (with_sequence c seq) NO_LEFTOVER) (take-length c.sequence) (none_left w c (length c.sequence) s f (is.kept refl) i);
    }
