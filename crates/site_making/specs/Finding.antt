-- What is found on a disk without opening its site.
use Rattle.std.specs.Prelude.{◌≡◌, ◌≤◌, IfSome, length, Option}
use Rattle.std.specs.Option.{option_map}
use Rattle.global_defs.specs.declared.limits.TheConstants.{MOST_REGIONS}
use Rattle.disk_defs.specs.Disk.{View, IsDurable, Files, Image, From}
use Rattle.journal_defs.specs.Numbers.{INSTANCE}
use Rattle.journal_defs.specs.Stands.{IsInstance}
use Rattle.journal_defs.specs.Instance.{regions}
use Rattle.journal_defs.specs.Surviving.{reigns}
use Rattle.journal_defs.specs.Sequence.{Records}
use Rattle.global_defs.specs.Entry.{Sequence}
use Rattle.global_defs.specs.Rising.{begun_by}
use Rattle.gvn_model.specs.declared.history.History.{History}
use Rattle.site_defs.specs.Contents.{Contents}
use Rattle.site_store.specs.declared.layout.Layout.{Layout}
use Rattle.site_defs.specs.Stands.{Stands}
use Rattle.site_making.specs.declared.finding.FoundSite.{FoundSite}
use Rattle.site_store.specs.Finding.{HasLayout}

-- the layout of a site that was found with its records
abbrev pub layout_in : Option FoundSite → Option Layout
layout_in found = option_map (λ f. f.layout) found

-- The records of the site that was found are those of the disk's instance file, which no crash changes, and its layout is theirs.
pub record IsFoundIn (v : View) (found : FoundSite) : Type 0 where
  pub told : IfSome v.content (λ files. IsInstance (files INSTANCE) found.log.records)
  pub durable : IfSome v.content (λ files. IsDurable v INSTANCE (files INSTANCE))
  pub layout : HasLayout found.log.records found.layout
  pub few : length (regions found.log.records) ≤ MOST_REGIONS

-- the history of records that stand for a sequence: how many entries there are, and the reigns that begin by that number
pub record IsHistory (s : Records) (seq : Sequence) (h : History) : Type 0 where
  pub count : h.length ≡ length seq
  pub made_in : h.reigns ≡ begun_by (length seq) (reigns s.instance)

-- the history of a site: how many entries there are, and the reigns in which they were made
pub record IsHistoryOf (c : Contents) (h : History) : Type 0 where
  pub count : h.length ≡ length c.sequence
  pub made_in : h.reigns ≡ begun_by (length c.sequence) (reigns c.instance)

-- an image from before the call, with other bytes perhaps, that stands for the same
abbrev pub StandsAsBefore : View → Files → Type 0
StandsAsBefore old = From (Image old) (λ was now. (c : Contents) → Stands was c → Stands now c)
