-- The entries that an open site has.
use Rattle.std.proofs.Common.{◌≡◌, ℕ, length}
use Rattle.site_defs.specs.Contents.{Contents}
use Rattle.site_store.specs.declared.memory.Memory.{Memory}
use Rattle.site_store.specs.Site.{Remembers, count_of}

-- as many as the sequence has
pub entries_count : (c : Contents) (hardened : ℕ) (o : Memory) → Remembers c hardened o → count_of o ≡ length c.sequence
entries_count c hardened o m = m.count
