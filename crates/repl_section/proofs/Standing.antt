-- A site's files.
use Rattle.std.proofs.Common.{◌≡◌, ℕ, Bool, true, length, take, refl}
use Rattle.std.specs.Prelude.{IsSome}
use Rattle.disk_defs.specs.Disk.{View, IsLawful, AtEachMoment}
use Rattle.disk_defs.proofs.Moments.{holds_now}
use Rattle.site_defs.specs.Contents.{Contents, NO_LEFTOVER}
use Rattle.site_defs.specs.Fronts.{with_sequence}
use Rattle.site_defs.specs.Stands.{IsSite, HasLeft}
use Rattle.site_store.specs.Site.{IsOpen, count_of}
use Rattle.site_store.specs.declared.memory.Memory.{Memory}
use Rattle.site_store.specs.declared.site.Site.{Site}
use Rattle.site_store.specs.Owning.{disk_of, memory_of, IsGoing, IsOpenSite}
use Rattle.site_store.proofs.Emptied.{none_left}
use Rattle.site_store.proofs.Standing.{told_of}
use Rattle.repl_section.specs.Deciding.{StandsAt}

-- a site that goes on is open where its memory is
pub open_site : {D : Type 0} (view : D → View) (told : Bool) (c : Contents) (h : ℕ) (s : Site D) → IsGoing view s → IsOpen (view (disk_of s)) told c h (memory_of s) → IsOpenSite view told c h s
open_site view told c h s going is = record { fault = going.fault; inner = is }

-- where nothing was done, each image stands for the entries that are hardened
pub stays_at : (v : View) (c : Contents) (h : ℕ) (s : Memory) → IsOpen v true c h s → StandsAt v c h
stays_at v c h s is = record { told = told_of v c h s (is.kept refl); images = (is.kept refl).images; bare = λ f now. none_left v c h s f (is.kept refl) now }

-- and so it does where each image of any moment did
pub stands_after : (v w : View) (c : Contents) (h : ℕ) (s : Memory) → IsLawful w → IsOpen v true c h s → (IsSome v.content → IsSome w.content)
    → AtEachMoment v w (λ f. IsSite f (with_sequence c (take h c.sequence))) → AtEachMoment v w (λ f. HasLeft f (with_sequence c (take h c.sequence)) NO_LEFTOVER) → StandsAt w c h
stands_after v w c h s lawful is told run bare = record {
  told = told (told_of v c h s (is.kept refl));
  images = holds_now v w (λ f. IsSite f (with_sequence c (take h c.sequence))) lawful run;
  bare = holds_now v w (λ f. HasLeft f (with_sequence c (take h c.sequence)) NO_LEFTOVER) lawful bare;
}

-- places of as many entries in memory
pub entries_counted : (v : View) (told : Bool) (c : Contents) (h : ℕ) (s : Memory) → IsOpen v told c h s → count_of s ≡ length c.sequence
entries_counted v told c h s is = is.remembered.count
