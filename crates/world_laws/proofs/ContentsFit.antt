-- What stays fit of the contents of one image.
use Rattle.std.proofs.Common.{◌≡◌, inl, inr, ℕ, ◌+◌, ◌≤◌, Bool, true, false, List, [], ◌∷◌, ◌++◌, length, Some, None, refl, sym, ◌∙◌, ap, subst, arith}
use Rattle.global_defs.specs.Rising.{SerialsRise}
use Rattle.global_defs.specs.Region.{Region}
use Rattle.journal_defs.specs.Instance as records
use Rattle.journal_defs.specs.Instance.{InstanceRecord, pattern_record, generation, greatest_cycle, site_name, regions}
use Rattle.journal_defs.specs.Journal.{Start}
use Rattle.journal_defs.specs.Fit.{HasFewReigns}
use Rattle.journal_defs.specs.Surviving.{spares_start, reigns}
use Rattle.journal_laws.proofs.Later.{reigns-same}
use Rattle.command_defs.specs.Commands.{Name}
use Rattle.site_defs.specs.Contents.{Taken, Contents, nothing}
use Rattle.world_defs.specs.rows.Create.{created}
use Rattle.site_defs.specs.Epochs.{MayMark, with_epochs}
use Rattle.site_defs.specs.Forward.{MayOpenAs, begun_as, opened_as}
use Rattle.site_defs.specs.Opening.{MayBegin, MayMap, MaySetMode, cut_there, cut_with, with_starts, opened, with_reign, next_reign, with_pattern, with_mode}
use Rattle.world_defs.specs.World.{Covers}
use Rattle.world_defs.specs.Fit.{IsWithinCycles, IsFitContents}
use Rattle.world_laws.proofs.Lists.{all-weaker}
use Rattle.world_laws.proofs.Instances.{name-more, cycle-same, cycle-reign, room-cut, few_at, few-same, few-later}

-- no entry's serials can fall
rise-none : SerialsRise []
rise-none i j d e low first second stamps same = let none : None ≡ Some d = first in cc

pub fit-nothing : IsFitContents nothing
fit-nothing = record { serials = rise-none; few_reigns = omega arith; cycles = tt }

pub fit-created : (name : Name) (regions : List Region) → IsFitContents (created name regions)
fit-created name regions = record { serials = rise-none; few_reigns = omega arith; cycles = tt }

-- one record more, of the same site, after which as many cycles are used; starts, epochs and texts, lost ones among them, are of no matter
fit-more : (c : Contents) (instance : List InstanceRecord) (starts : ℕ → List Start) (epochs : ℕ → List Taken) (texts losts : List (List ℕ)) → site_name instance ≡ site_name c.instance
    → greatest_cycle c.instance ≤ greatest_cycle instance → HasFewReigns (length c.sequence) instance → IsFitContents c
    → IsFitContents (record { instance = instance; starts = starts; epochs = epochs; texts = texts; losts = losts; sequence = c.sequence })
fit-more c instance starts epochs texts losts name cycle few h =
    let more : Contents = record { instance = instance; starts = starts; epochs = epochs; texts = texts; losts = losts; sequence = c.sequence } in
    record {
      serials = h.serials;
      few_reigns = few;
      cycles = all-weaker (IsWithinCycles c) (IsWithinCycles more) (λ e within own. let low = within (own ∙ name) in omega arith) c.sequence h.cycles;
    }

pub name-cut : (broken lost : List ℕ) (c : Contents) → site_name (cut_with broken lost c).instance ≡ site_name c.instance
name-cut broken lost c = name-more c.instance (records.Cut (length c.sequence) (generation c.instance + 1)) refl

pub fit-cut : (broken lost : List ℕ) (c : Contents) → IsFitContents c → IsFitContents (cut_with broken lost c)
fit-cut broken lost c h =
    let cut : Contents = cut_with broken lost c in
    let cycle = cycle-same c.instance (records.Cut (length c.sequence) (generation c.instance + 1)) refl in
    fit-more c cut.instance cut.starts cut.epochs cut.texts cut.losts (name-cut broken lost c) (omega arith)
    (few_at cut.instance (length c.sequence) (room-cut c.instance (length c.sequence) (generation c.instance + 1) h.few_reigns)) h

-- a generation that begins in some regions
pub fit-with_starts : (k : ℕ) (c : Contents) → IsFitContents c → IsFitContents (with_starts k c)
fit-with_starts k c h = record { serials = h.serials; few_reigns = h.few_reigns; cycles = h.cycles }

fit-begun_as : (anew : Bool) (k : ℕ) (c : Contents) → IsFitContents c → IsFitContents (begun_as anew k c)
fit-begun_as anew k c h = record { serials = h.serials; few_reigns = h.few_reigns; cycles = h.cycles }

pub fit-opened : (broken : List ℕ) (c : Contents) → IsFitContents c → IsFitContents (opened broken c)
fit-opened broken c h = fit-with_starts (length (regions c.instance)) (cut_there broken c) (fit-cut broken [] c h)

pub fit-opened_as : (anew : Bool) (broken : List ℕ) (c : Contents) → IsFitContents c → IsFitContents (opened_as anew broken c)
fit-opened_as anew broken c h = fit-begun_as anew (length (regions c.instance)) (cut_there broken c) (fit-cut broken [] c h)

pub name-reign : (name : Name) (c : Contents) → site_name (with_reign name c).instance ≡ site_name c.instance
name-reign name c = name-more c.instance (records.Reigned (next_reign name c)) refl

pub fit-reign : (name : Name) (c : Contents) → IsFitContents c → IsFitContents (with_reign name c)
fit-reign name c h =
    let reigned : Contents = with_reign name c in
    let cycle = cycle-reign c.instance (next_reign name c) in
    fit-more c reigned.instance reigned.starts reigned.epochs reigned.texts reigned.losts (name-reign name c) (omega arith)
    (few-later c.instance (length c.sequence) (next_reign name c) (omega arith) h.few_reigns) h

-- what opening may leave is fit, and of the same site
pub fit-may_open_as : (anew : Bool) (broken : List ℕ) (c o : Contents) → IsFitContents c → MayOpenAs anew broken c o → IsFitContents o
fit-may_open_as anew broken c o h (inl same) = subst IsFitContents (sym same) h
fit-may_open_as anew broken c o h (inr begun) = subst IsFitContents (sym begun.1) (fit-begun_as anew begun.0 (cut_there broken c) (fit-cut broken [] c h))

pub name-may_open_as : (anew : Bool) (broken : List ℕ) (c o : Contents) → MayOpenAs anew broken c o → site_name o.instance ≡ site_name c.instance
name-may_open_as anew broken c o (inl same) = ap (λ (x : Contents). site_name x.instance) same
name-may_open_as anew broken c o (inr begun) = ap (λ (x : Contents). site_name x.instance) begun.1 ∙ name-cut broken [] c

-- what beginning a reign may leave
pub fit-may_begin : (name : Name) (broken : List ℕ) (c o : Contents) → IsFitContents c → MayBegin name broken c o → IsFitContents o
fit-may_begin name broken c o h (inl before) = fit-may_open_as false broken c o h before
fit-may_begin name broken c o h (inr reign) = subst IsFitContents (sym reign) (fit-reign name (opened broken c) (fit-opened broken c h))

pub name-may_begin : (name : Name) (broken : List ℕ) (c o : Contents) → MayBegin name broken c o → site_name o.instance ≡ site_name c.instance
name-may_begin name broken c o (inl before) = name-may_open_as false broken c o before
name-may_begin name broken c o (inr reign) = ap (λ (x : Contents). site_name x.instance) reign ∙ name-reign name (opened broken c) ∙ name-cut broken [] c

-- one record more that is no CUT and no REIGN
fit-other : (c : Contents) (x : InstanceRecord) → site_name (x ∷ []) ≡ [] → greatest_cycle (x ∷ []) ≡ 0 → ((start : ℕ) → spares_start start x ≡ true) → reigns (x ∷ []) ≡ []
    → IsFitContents c → IsFitContents (record c { instance = c.instance ++ x ∷ [] })
fit-other c x nameless cycleless spares none h =
    let cycle = cycle-same c.instance x cycleless in
    fit-more c (c.instance ++ x ∷ []) c.starts c.epochs c.texts c.losts (name-more c.instance x nameless) (omega arith)
    (few-same c.instance (length c.sequence) x (reigns-same c.instance x spares none) h.few_reigns) h

-- and mapping
pub name-pattern : (region : ℕ) (text : List ℕ) (c : Contents) → site_name (with_pattern region text c).instance ≡ site_name c.instance
name-pattern region text c = name-more c.instance (pattern_record region text) refl

pub fit-pattern : (region : ℕ) (text : List ℕ) (c : Contents) → IsFitContents c → IsFitContents (with_pattern region text c)
fit-pattern region text c h = fit-other c (pattern_record region text) refl refl (λ start. refl) refl h

pub fit-may_map : (region : Name) (text : List ℕ) (c o : Contents) → IsFitContents c → MayMap region text c o → IsFitContents o
fit-may_map region text c o h (inl same) = subst IsFitContents (sym same) h
fit-may_map region text c o h (inr mapped) = subst IsFitContents (sym mapped.2) (fit-pattern mapped.0 text c h)

pub name-may_map : (region : Name) (text : List ℕ) (c o : Contents) → MayMap region text c o → site_name o.instance ≡ site_name c.instance
name-may_map region text c o (inl same) = ap (λ (x : Contents). site_name x.instance) same
name-may_map region text c o (inr mapped) = ap (λ (x : Contents). site_name x.instance) mapped.2 ∙ name-pattern mapped.0 text c

-- and setting a mode
pub name-mode : (region : ℕ) (before : Bool) (c : Contents) → site_name (with_mode region before c).instance ≡ site_name c.instance
name-mode region before c = name-more c.instance (records.Mode region before) refl

pub fit-mode : (region : ℕ) (before : Bool) (c : Contents) → IsFitContents c → IsFitContents (with_mode region before c)
fit-mode region before c h = fit-other c (records.Mode region before) refl refl (λ start. refl) refl h

pub fit-may_set : (region : Name) (before : Bool) (c o : Contents) → IsFitContents c → MaySetMode region before c o → IsFitContents o
fit-may_set region before c o h (inl same) = subst IsFitContents (sym same) h
fit-may_set region before c o h (inr set) = subst IsFitContents (sym set.2) (fit-mode set.0 before c h)

pub name-may_set : (region : Name) (before : Bool) (c o : Contents) → MaySetMode region before c o → site_name o.instance ≡ site_name c.instance
name-may_set region before c o (inl same) = ap (λ (x : Contents). site_name x.instance) same
name-may_set region before c o (inr set) = ap (λ (x : Contents). site_name x.instance) set.2 ∙ name-mode set.0 before c

-- and taking an epoch, which changes no record of the instance file and no entry
pub fit-epochs : (k : ℕ → Bool) (c : Contents) → IsFitContents c → IsFitContents (with_epochs k c)
fit-epochs k c h = record { serials = h.serials; few_reigns = h.few_reigns; cycles = h.cycles }

pub fit-may_mark : (c o : Contents) → IsFitContents c → MayMark c o → IsFitContents o
fit-may_mark c o h (inl same) = subst IsFitContents (sym same) h
fit-may_mark c o h (inr marked) = subst IsFitContents (sym marked.1) (fit-epochs marked.0 c h)

pub name-may_mark : (c o : Contents) → MayMark c o → site_name o.instance ≡ site_name c.instance
name-may_mark c o (inl same) = ap (λ (x : Contents). site_name x.instance) same
name-may_mark c o (inr marked) = ap (λ (x : Contents). site_name x.instance) marked.1

-- what fit contents cover is fit, and of the same site
pub fit-covered : (o c : Contents) → Covers o c → IsFitContents o → IsFitContents c
fit-covered o c (inl same) h = subst IsFitContents (sym same) h
fit-covered o c (inr told) h = subst IsFitContents (sym told.is) (record { serials = h.serials; few_reigns = h.few_reigns; cycles = h.cycles })

pub name-covered : (o c : Contents) → Covers o c → site_name c.instance ≡ site_name o.instance
name-covered o c (inl same) = ap (λ (x : Contents). site_name x.instance) same
name-covered o c (inr told) = ap (λ (x : Contents). site_name x.instance) told.is
