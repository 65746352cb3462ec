-- The signs of a region's records, and the parts that these are.
use Rattle.std.proofs.Common.{◌≡◌, inl, inr, ℕ, ◌≤◌, ◌==◌, nat_le, ◌&&◌, Bool, true, false, List, [], ◌∷◌, length, Option, Some, None, refl, sym, ap, subst, arith, if◌then◌else◌}
use Rattle.std.proofs.lemmas.Bool.{cases_lt}
use Rattle.std.proofs.lemmas.Bool.Decides.{nat_tests}
use Rattle.std.proofs.lemmas.List.{get_or_past}
use Rattle.std.specs.List.{AllZip, AllByRecursion}
use Rattle.std.specs.Option.{option_or}
use Rattle.global_defs.specs.declared.limits.TheConstants.{MOST_GENERATIONS}
use Rattle.disk_defs.specs.Disk.{Files}
use Rattle.journal_defs.specs.Numbers.{journal_file}
use Rattle.journal_defs.specs.Journal as journal
use Rattle.journal_defs.specs.Journal.{JournalRecord, Part}
use Rattle.journal_defs.specs.Instance.{InstanceRecord}
use Rattle.journal_defs.specs.Surviving.{survives}
use Rattle.journal_defs.specs.Sequence.{Placed, part_in, part_of}
use Rattle.mupip_recover.specs.Parts as parts
use Rattle.mupip_recover.proofs.Columns.{counts_for}
use Rattle.entry_index.specs.declared.placed.PlacedSign.{PlacedSign}
use Rattle.entry_index.specs.declared.sign.Sign.{Sign}
use Rattle.entry_index.specs.Places.{StandsAt, IsSignOf}
use Rattle.entry_index.specs.RecordSigns.{sign_of, span_of}
use Rattle.entry_index.specs.declared.signed_part.PartSign.{PartSign}
use Rattle.entry_index.specs.Signs.{part_said, if_numbered, if_surviving, sign_in, last_sign, signs_of, Tells, IsSign}
use Rattle.entry_index.specs.Indexes.{AreSigns}

-- what a part's sign says
abbrev said : ℕ → ℕ → Part → PartSign
said g at p = record { number = p.number; mask = p.mask; origin = record { updater = p.origin.updater; serial = p.origin.serial }; count = p.count; span = span_of p.items; place = record { generation = g; offset = at } }

module _ (files : Files) (r n : ℕ) where
  numbered : (s : PartSign) (p : Part) (c : Bool) → (c ≡ true → Tells files r n s p) → IsSign files r n (if c then Some s else None) (if c then Some p else None)
  numbered s p true h = h refl
  numbered s p false h = tt

  surviving : (s : PartSign) (p : Part) (b : Bool) → IsSign files r n (if_numbered n (Some s)) (parts.if_numbered n (Some p))
      → IsSign files r n (if_numbered n (if b then Some s else None)) (parts.if_numbered n (if b then Some p else None))
  surviving s p true h = h
  surviving s p false h = tt

  tells_part : (rs : List InstanceRecord) (g at : ℕ) (p : Part) → 1 ≤ g → g ≤ MOST_GENERATIONS → StandsAt (files (journal_file g r)) at (journal.Tcom p)
      → IsSign files r n (if_numbered n (if_surviving rs g (Some (said g at p)))) (parts.if_numbered n (parts.surviving_in rs g (journal.Tcom p)))
  tells_part rs g at p least most stands = surviving (said g at p) p (survives rs g p.number) (numbered (said g at p) p (p.number == n) (λ yes.
      let same : p.number ≡ n = grind (arith, nat_tests) in
      record {
        number = refl;
        mask = refl;
        origin = refl;
        count = refl;
        span = refl;
        stands = (least, most, same, stands);
      }))

  tells : (rs : List InstanceRecord) (g at : ℕ) (what : JournalRecord) → 1 ≤ g → g ≤ MOST_GENERATIONS → StandsAt (files (journal_file g r)) at what
      → IsSign files r n (if_numbered n (if_surviving rs g (part_said g at (sign_of what)))) (part_in rs n g what)
  tells rs g at (journal.Tcom p) least most stands =
      subst (λ (o : Option Part). IsSign files r n (if_numbered n (if_surviving rs g (Some (said g at p)))) o) (sym (counts_for rs n g (journal.Tcom p) (parts.surviving_in rs g (journal.Tcom p)) refl))
      (tells_part rs g at p least most stands)
  tells rs g at (journal.Pini s) least most stands = tt
  tells rs g at (journal.Epoch m) least most stands = tt
  tells rs g at (journal.Pblk b) least most stands = tt

  -- the sign of a record tells whether that is the surviving part of an entry
  pub tells_in : (rs : List InstanceRecord) (s : PlacedSign) (p : Placed) → IsSignOf files r s p → (1 ≤ p.generation) × (p.generation ≤ MOST_GENERATIONS) → IsSign files r n (sign_in rs n s) (part_in rs n p.generation p.what)
  tells_in rs s p is (least, most) =
      let g = p.generation in
      let yes : (nat_le 1 s.generation && nat_le s.generation MOST_GENERATIONS) ≡ true = grind (arith, nat_tests, is.generation, least, most) in
      let stands = tells rs g s.offset p.what least most is.stands in
      subst (λ (b : Bool). IsSign files r n (if_numbered n (if_surviving rs s.generation (if b then part_said s.generation s.offset s.sign else None))) (part_in rs n g p.what)) (sym yes)
      (subst (λ (k : ℕ). IsSign files r n (if_numbered n (if_surviving rs k (part_said k s.offset s.sign))) (part_in rs n g p.what)) (sym is.generation)
      (subst (λ (x : Sign). IsSign files r n (if_numbered n (if_surviving rs g (part_said g s.offset x))) (part_in rs n g p.what)) (sym is.says) stands))

  either : (a b : Option PartSign) (x y : Option Part) → IsSign files r n a x → IsSign files r n b y → IsSign files r n (option_or a b) (option_or x y)
  either None b None y h k = k
  either None b (Some p) y h k = absurd h
  either (Some s) b None y h k = absurd h
  either (Some s) b (Some p) y h k = h

  -- the last sign of an entry is that of its last surviving part
  pub last_tells : (rs : List InstanceRecord) (ss : List PlacedSign) (ps : List Placed) → AllZip (IsSignOf files r) ss ps → AllByRecursion (λ p. (1 ≤ p.generation) × (p.generation ≤ MOST_GENERATIONS)) ps
      → IsSign files r n (last_sign rs n ss) (part_of rs n ps)
  last_tells rs [] [] zip all = tt
  last_tells rs [] (p ∷ ps) zip all = absurd zip
  last_tells rs (s ∷ ss) [] zip all = absurd zip
  last_tells rs (s ∷ ss) (p ∷ ps) zip all =
      either (last_sign rs n ss) (sign_in rs n s) (part_of rs n ps) (part_in rs n p.generation p.what) (last_tells rs ss ps zip.1 all.1) (tells_in rs s p zip.0 all.0)

-- the signs of all regions tell the parts of an entry
pub all_tell : (files : Files) (signs : List (List PlacedSign)) (records : ℕ → List Placed) (rs : List InstanceRecord) (n : ℕ) → AreSigns files signs records
    → (r : ℕ) → IsSign files r n (last_sign rs n (signs_of signs r)) (part_of rs n (records r))
all_tell files signs records rs n are r = elim (cases_lt r (length signs)) [
  | inl low ↦ last_tells files r n rs (signs_of signs r) (records r) (are.each r low) (are.generations r low)
  | inr past ↦
      subst (λ (ss : List PlacedSign). IsSign files r n (last_sign rs n ss) (part_of rs n (records r))) (sym (get_or_past signs r [] past))
      (subst (λ (ps : List Placed). IsSign files r n None (part_of rs n ps)) (sym (are.no_more r past)) tt)
]

-- so do those that a table has of them
pub signed : (files : Files) (signs : List (List PlacedSign)) (records : ℕ → List Placed) (rs : List InstanceRecord) (n : ℕ) (sign : ℕ → Option PartSign) → AreSigns files signs records
    → ((r : ℕ) → sign r ≡ last_sign rs n (signs_of signs r)) → (r : ℕ) → IsSign files r n (sign r) (part_of rs n (records r))
signed files signs records rs n sign are each r = subst (λ (o : Option PartSign). IsSign files r n o (part_of rs n (records r))) (sym (each r)) (all_tell files signs records rs n are r)

-- past the last list there is no part
pub none_past : (files : Files) (signs : List (List PlacedSign)) (records : ℕ → List Placed) (rs : List InstanceRecord) (n : ℕ) → AreSigns files signs records → (r : ℕ) → length signs ≤ r → part_of rs n (records r) ≡ None
none_past files signs records rs n are r past = ap (part_of rs n) (are.no_more r past)
