-- Complete entries.
use Rattle.std.proofs.Common.{◌≡◌, ℕ, ◌+◌, ◌<◌, ◌==◌, ◌||◌, not, Bool, true, length, drop, Option, Some, None, ◌∙◌, ap, if◌then◌else◌}
use Rattle.std.specs.List.{list_all}
use Rattle.std.specs.Option.{option_or}
use Rattle.global_defs.specs.declared.limits.TheConstants.{MOST_REGIONS}
use Rattle.global_defs.specs.Entry.{Stamp, Entry}
use Rattle.journal_defs.specs.Journal.{Part}
use Rattle.journal_defs.specs.Sequence.{REGIONS, in_mask, is_like, items_in, updates_from, updates_of, updates_by, entry_among}
use Rattle.mupip_recover.specs.Entries.{entry_in}
use Rattle.mupip_recover.proofs.RegionLists.{from_region}

-- whether the regions of a part's mask agree with it
abbrev pub agree : (ℕ → Option Part) → Part → Bool
agree part head = list_all (λ r. not (in_mask head.mask r) || is_like head (part r)) REGIONS

abbrev pub have_count : (ℕ → Option Part) → Part → Bool
have_count part head = length (items_in head.mask part) == head.count

pub by_agreement : (part : ℕ → Option Part) (head : Part) → agree part head ≡ true → updates_by part head ≡ updates_of (items_in head.mask part) head.count
by_agreement part head h = ap (λ (b : Bool). if b then updates_of (items_in head.mask part) head.count else None) h

pub by_count : (part : ℕ → Option Part) (head : Part) → agree part head ≡ true → have_count part head ≡ true → updates_by part head ≡ updates_from (items_in head.mask part) 0 head.count
by_count part head h k = by_agreement part head h ∙ ap (λ (b : Bool). if b then updates_from (items_in head.mask part) 0 head.count else None) k

pub among_first : (part : ℕ → Option Part) (stamp : Stamp) (i : ℕ) → i < MOST_REGIONS → entry_among part stamp (drop i REGIONS) ≡ option_or (entry_in part stamp i) (entry_among part stamp (drop (i + 1) REGIONS))
among_first part stamp i low = ap (entry_among part stamp) (from_region i low)

pub among_next : (part : ℕ → Option Part) (stamp : Stamp) (i : ℕ) → i < MOST_REGIONS → entry_in part stamp i ≡ None → entry_among part stamp (drop i REGIONS) ≡ entry_among part stamp (drop (i + 1) REGIONS)
among_next part stamp i low h = among_first part stamp i low ∙ ap (λ (o : Option Entry). option_or o (entry_among part stamp (drop (i + 1) REGIONS))) h

pub among_found : (part : ℕ → Option Part) (stamp : Stamp) (i : ℕ) (e : Entry) → i < MOST_REGIONS → entry_in part stamp i ≡ Some e → entry_among part stamp (drop i REGIONS) ≡ Some e
among_found part stamp i e low h = among_first part stamp i low ∙ ap (λ (o : Option Entry). option_or o (entry_among part stamp (drop (i + 1) REGIONS))) h
