-- What a site's files say of forward recovery, as they read.
use Rattle.std.specs.Prelude.{◌≡◌, ℕ, length, IfSome, IsSomeAnd}
use Rattle.disk_defs.specs.Disk.{Files, View, Image}
use Rattle.global_defs.specs.Entry.{Sequence}
use Rattle.journal_defs.specs.Sequence.{Records}
use Rattle.command_defs.specs.Commands.{Name}
use Rattle.site_defs.specs.Contents.{Contents, Standing}
use Rattle.site_defs.specs.Lists.{Among}
use Rattle.site_defs.specs.Stands.{Reads}
use Rattle.world_defs.specs.World.{Place, IfKnown, has_failed_on}
use Rattle.world_defs.specs.Ties.{StandsBy, StandsSoBy}
use Rattle.world_defs.specs.Shown.{BySequence}
use Rattle.world_defs.specs.Without.{IsFirstWithout, NoneIsWithout}

-- Where a place's files are known, these are files that stand for what it has, and P holds of all their records and of the sequence.
abbrev pub BytesHave : (Records → Sequence → Type 0) → Place → Type 0
BytesHave P p = IfKnown p ((files : Files) × Reads files p.now p.left × BySequence P files)

-- no region needs forward recovery for so many of all its entries
abbrev pub NoneNeeds : (target : ℕ → ℕ) → Place → Type 0
NoneNeeds target p = BytesHave (λ u seq. NoneIsWithout u (target (length seq))) p

-- the region of that name is the first that does, first for that generation
abbrev pub NeedsFirst : (target : ℕ → ℕ) → Name → (generation : ℕ) → Place → Type 0
NeedsFirst target name g p = BytesHave (λ u seq. IsFirstWithout name g u (target (length seq))) p

-- for some generation
abbrev pub NeedsFirstForAll : Name → Place → Type 0
NeedsFirstForAll name p = BytesHave (λ u seq. (g : ℕ) × IsFirstWithout name g u (length seq)) p

-- all entries of so many
abbrev pub all_of : ℕ → ℕ
all_of n = n

-- A disk is tied to a place in all but what the place shows of it.
pub record IsTiedApart (v : View) (p : Place) : Type 0 where
  pub told : IfKnown p (IsSomeAnd v.content (λ files. Reads files p.now p.left))
  pub images : IfKnown p ((c : Files) → Image v c → (o : Contents) × Among p.outcomes o × StandsBy (has_failed_on p.site) c o)
  pub standings : IfKnown p (IfSome p.standings (λ os. (c : Files) → Image v c → (o : Standing) × Among os o × StandsSoBy (has_failed_on p.site) c o))
  pub faults : v.faults ≡ p.faults
  pub simulated : v.simulated ≡ p.simulated

-- the same place, showing what this disk reads as
abbrev pub showing : View → Place → Place
showing v p = record p { shown = v.content }
