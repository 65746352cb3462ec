-- The records that wait, as those of the entries' parts.
use Rattle.std.proofs.Common.{◌≡◌, ℕ, List, [], ◌∷◌, ◌++◌, Some, None, Option, refl, sym, ◌∙◌, ap}
use Rattle.std.specs.List.{filter_map}
use Rattle.std.specs.Option.{option_map}
use Rattle.std.proofs.lemmas.List.Elements.{filter_map-append}
use Rattle.journal_defs.specs.Journal.{JournalRecord, Tcom, Part}
use Rattle.journal_defs.specs.Growth.{tcoms}
use Rattle.tp_commit.specs.Parts.{PartRecords, recorded}
use Rattle.region_journals.specs.Journals.{part_in, listed}

alone : (part : ℕ → Option Part) (r : ℕ) (o : Option Part) → part r ≡ o → filter_map (λ (q : ℕ → Option Part). option_map (λ y. Tcom y) (q r)) (part ∷ []) ≡ listed (recorded o)
alone part r None is = rw is refl
alone part r (Some x) is = rw is refl

pub tcoms_more : (ps : List (ℕ → Option Part)) (part : ℕ → Option Part) (parts : PartRecords) (r : ℕ) → part_in parts r ≡ recorded (part r) → tcoms (ps ++ part ∷ []) r ≡ tcoms ps r ++ listed (part_in parts r)
tcoms_more ps part parts r is =
    filter_map-append (λ (p : ℕ → Option Part). option_map (λ x. Tcom x) (p r)) ps (part ∷ [])
    ∙ ap (λ (l : List JournalRecord). tcoms ps r ++ l) (alone part r (part r) refl ∙ ap listed (sym is))
