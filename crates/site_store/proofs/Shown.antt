-- An entry shown from its places.
use Rattle.std.proofs.Common.{◌≡◌, inl, inr, ℕ, ◌-◌, ◌/◌, ◌<◌, ◌≤◌, ◌++◌, List, length, Option, Some, None, Result, Ok, Err, OnOk, IfSome, IsSome, refl, sym, subst, ap, ◌∙◌, true, arith}
use Rattle.std.specs.Prelude.{◌==◌, if◌then◌else◌, slice_get}
use Rattle.std.specs.Option.{option_map}
use Rattle.std.proofs.lemmas.Bool.{cases_lt}
use Rattle.std.proofs.lemmas.Option.{slice_get_past}
use Rattle.disk_defs.specs.Disk.{Files, View, IsLawful}
use Rattle.global_defs.specs.Entry.{Reign, Entry, Sequence, Transaction}
use Rattle.global_defs.specs.Extract.{entry_text}
use Rattle.journal_defs.specs.Surviving.{reigns}
use Rattle.disk_defs.proofs.Told.{weaker_told}
use Rattle.jnl_file.proofs.Newer.{all_told}
use Rattle.gvn_model.specs.declared.entry.Entry as code_entry
use Rattle.gvn_model.specs.declared.entry.Transaction as code
use Rattle.gvn_model.specs.Entries.{entry_value, transaction_value}
use Rattle.region_journals.proofs.Turns.{found}
use Rattle.entry_index.specs.declared.index.EntryIndex.{EntryIndex}
use Rattle.entry_index.specs.Parts.{InFiles}
use Rattle.entry_index.specs.Indexes.{Indexes}
use Rattle.entry_index.specs.Found.{entry_count}
use Rattle.entry_index.proofs.Rows.{past_rows}
use Rattle.entry_index.proofs.AmongLaws.{counted}
use Rattle.site_defs.specs.Contents.{Contents}
use Rattle.wire_defs.specs.Frames.{entry_bytes}
use Rattle.site_store.specs.declared.error.SiteError.{SiteError}
use Rattle.site_store.specs.declared.memory.Memory.{Memory}
use Rattle.site_store.specs.Site.{IsReady, IsOpen}
use Rattle.site_store.proofs.Indexed.{index_files}
use Rattle.site_store.proofs.Standing.{told_of}

-- where the disk tells its files, of which one fact is known
some_told : (o : Option Files) (P Q : Files → Type 0) (X : Type 0) → IsSome o → IfSome o P → IfSome o Q → ((f : Files) → P f → Q f → X) → X
some_told None P Q X some p q f = absurd (cc some)
some_told (Some files) P Q X some p q f = f files p q

module _ (files : Files) (rs : List Reign) (x : EntryIndex) (seq : Sequence) (n : ℕ) (first : 1 ≤ n) (is : Indexes (InFiles files) rs x seq) where
  -- an entry of a greater number than there are isn't among them
  pub past_entries : entry_count x < n → None ≡ slice_get seq (n - 1)
  past_entries past = elim (cases_lt 0 x.regions) [
    | inl some ↦ let count = counted x (length seq) (omega (arith, some)) is.rows in sym (slice_get_past seq (n - 1) (omega (arith, count, past, first)))
    | inr none ↦ past_rows files rs x seq n first (inl (omega (arith, none))) is
  ]

  -- and else it is
  pub is_among : n ≤ entry_count x → None ≡ slice_get seq (n - 1) → ⊥
  is_among low none = elim (cases_lt 0 x.regions) [
    | inl some ↦
        let count = counted x (length seq) (omega (arith, some)) is.rows in
        let there = found seq (n - 1) (omega (arith, count, low, first)) in
        let at = there.1 in
        absurd (cc (at, none))
    | inr small ↦
        let zero : x.regions ≡ 0 = omega (arith, small) in
        let count : entry_count x ≡ 0 = ap (λ (k : ℕ). if k == 0 then 0 else length x.places.items / k) zero in
        absurd (omega (arith, count, low, first))
  ]

-- the number of an entry that was found
number_in : (n : ℕ) (found : Option code_entry.Entry) (e : code_entry.Entry) → found ≡ Some e → IfSome found (λ y. y.number ≡ n) → e.number ≡ n
number_in n found e one number = subst (λ (o : Option code_entry.Entry). IfSome o (λ y. y.number ≡ n)) one number

-- what was added are lines of some entry
pub some_lines : (n : ℕ) (before now : List ℕ) (found : Option code_entry.Entry) (e : code_entry.Entry) → found ≡ Some e → IfSome found (λ y. y.number ≡ n) → now ≡ before ++ entry_text e.number (entry_value e)
    → (y : Entry) × (now ≡ before ++ entry_text n y)
some_lines n before now found e one number lines = (entry_value e, lines ∙ ap (λ (k : ℕ). before ++ entry_text k (entry_value e)) (number_in n found e one number))

-- the lines of entry n were added, where there is one
abbrev pub Shows : ℕ → List ℕ → List ℕ → Sequence → Type 0
Shows n before now seq = IfSome (slice_get seq (n - 1)) (λ e. now ≡ before ++ entry_text n e)

module _ (o : Option Files) (rs : List Reign) (x : EntryIndex) (n : ℕ) (first : 1 ≤ n) (before : List ℕ) where
  pub shows_none : entry_count x < n → IfSome o (λ files. (seq : Sequence) → Indexes (InFiles files) rs x seq → Shows n before before seq)
  shows_none past = all_told o (λ files. (seq : Sequence) → Indexes (InFiles files) rs x seq → Shows n before before seq)
      (λ files seq is. subst (λ (found : Option Entry). IfSome found (λ e. before ≡ before ++ entry_text n e)) (past_entries files rs x seq n first is past) tt)

  module _ (found : Option code_entry.Entry)
      (told : IfSome o (λ files. (seq : Sequence) → Indexes (InFiles files) rs x seq → option_map entry_value found ≡ slice_get seq (n - 1))) where
    pub shows_one : (now : List ℕ) (e : code_entry.Entry) → found ≡ Some e → IfSome found (λ y. y.number ≡ n) → now ≡ before ++ entry_text e.number (entry_value e)
        → IfSome o (λ files. (seq : Sequence) → Indexes (InFiles files) rs x seq → Shows n before now seq)
    shows_one now e one number lines =
        weaker_told o (λ files. (seq : Sequence) → Indexes (InFiles files) rs x seq → option_map entry_value found ≡ slice_get seq (n - 1)) (λ files. (seq : Sequence) → Indexes (InFiles files) rs x seq → Shows n before now seq) told
        (λ files is_found seq is. subst (λ (a : Option Entry). IfSome a (λ y. now ≡ before ++ entry_text n y)) (ap (option_map entry_value) (sym one) ∙ is_found seq is)
        (lines ∙ ap (λ (k : ℕ). before ++ entry_text k (entry_value e)) (number_in n found e one number)))

    pub none_outside : n ≤ entry_count x → found ≡ None → IfSome o (λ files. (seq : Sequence) → Indexes (InFiles files) rs x seq → ⊥)
    none_outside low none =
        weaker_told o (λ files. (seq : Sequence) → Indexes (InFiles files) rs x seq → option_map entry_value found ≡ slice_get seq (n - 1)) (λ files. (seq : Sequence) → Indexes (InFiles files) rs x seq → ⊥) told
        (λ files is_found seq is. is_among files rs x seq n first is low (ap (option_map entry_value) (sym none) ∙ is_found seq is))

module _ (v : View) (s : Memory) (history : List Reign) (lawful : IsLawful v) (ready : IsReady v s) (own : history ≡ reigns s.instance.records) where
  -- the parts of its entries stand in the files
  indexed : (c : Contents) (h : ℕ) → IsOpen v true c h s → IfSome v.content (λ files. Indexes (InFiles files) history s.entries c.sequence)
  indexed c h site =
      subst (λ (l : List Reign). IfSome v.content (λ files. Indexes (InFiles files) l s.entries c.sequence)) (sym (own ∙ ap reigns site.remembered.instance))
      (index_files v c h s (site.kept refl) ready site.remembered.instance lawful)

  pub shows_entry : (n : ℕ) (before now : List ℕ) (o : Result (Unit {0}) SiteError) → OnOk o (IfSome v.content (λ files. (seq : Sequence) → Indexes (InFiles files) history s.entries seq → Shows n before now seq))
      → OnOk o ((c : Contents) (h : ℕ) → IsOpen v true c h s → Shows n before now c.sequence)
  shows_entry n before now (Err e) told = tt
  shows_entry n before now (Ok x) told = λ c h site.
      some_told v.content (λ files. (seq : Sequence) → Indexes (InFiles files) history s.entries seq → Shows n before now seq) (λ files. Indexes (InFiles files) history s.entries c.sequence) (Shows n before now c.sequence)
      (told_of v c h s (site.kept refl)) told (indexed c h site) (λ files shows is. shows c.sequence is)

  pub no_outside : IfSome v.content (λ files. (seq : Sequence) → Indexes (InFiles files) history s.entries seq → ⊥) → (c : Contents) (h : ℕ) → IsOpen v true c h s → ⊥
  no_outside never c h site =
      some_told v.content (λ files. (seq : Sequence) → Indexes (InFiles files) history s.entries seq → ⊥) (λ files. Indexes (InFiles files) history s.entries c.sequence) ⊥
      (told_of v c h s (site.kept refl)) never (indexed c h site) (λ files never_so is. never_so c.sequence is)

-- ---- an entry's bytes

-- the bytes of entry n were added, where there is one
abbrev pub Ships : ℕ → List ℕ → List ℕ → Sequence → Type 0
Ships n before now seq = IfSome (slice_get seq (n - 1)) (λ e. now ≡ before ++ entry_bytes n e.transaction)

ships_one : (n : ℕ) (before now : List ℕ) (t : Transaction) (o : Option Entry) → Some t ≡ option_map (λ (e : Entry). e.transaction) o → now ≡ before ++ entry_bytes n t → IfSome o (λ e. now ≡ before ++ entry_bytes n e.transaction)
ships_one n before now t None is added = tt
ships_one n before now t (Some e) is added = let same : t ≡ e.transaction = cc is in added ∙ ap (λ (u : Transaction). before ++ entry_bytes n u) same

ships_none : (n : ℕ) (before now : List ℕ) (o : Option Entry) → None ≡ option_map (λ (e : Entry). e.transaction) o → IfSome o (λ e. now ≡ before ++ entry_bytes n e.transaction)
ships_none n before now None is = tt
ships_none n before now (Some e) is = absurd (cc is)

-- what an index tells of entry n
abbrev pub Tells : EntryIndex → ℕ → Option code.Transaction → Files → Type 0
Tells x n found files = (history : List Reign) (seq : Sequence) → Indexes (InFiles files) history x seq → option_map transaction_value found ≡ option_map (λ (e : Entry). e.transaction) (slice_get seq (n - 1))

abbrev pub ShipsAll : EntryIndex → ℕ → List ℕ → List ℕ → Files → Type 0
ShipsAll x n before now files = (history : List Reign) (seq : Sequence) → Indexes (InFiles files) history x seq → Ships n before now seq

pub ships_found : (o : Option Files) (x : EntryIndex) (n : ℕ) (before now : List ℕ) (found : Option code.Transaction) (t : code.Transaction) → found ≡ Some t → IfSome o (Tells x n found) → now ≡ before ++ entry_bytes n (transaction_value t) → IfSome o (ShipsAll x n before now)
ships_found o x n before now found t one told added =
    weaker_told o (Tells x n found) (ShipsAll x n before now) told
    (λ files is history seq at. ships_one n before now (transaction_value t) (slice_get seq (n - 1)) (ap (option_map transaction_value) (sym one) ∙ is history seq at) added)

pub ships_no_entry : (o : Option Files) (x : EntryIndex) (n : ℕ) (before now : List ℕ) (found : Option code.Transaction) → found ≡ None → IfSome o (Tells x n found) → IfSome o (ShipsAll x n before now)
ships_no_entry o x n before now found none told =
    weaker_told o (Tells x n found) (ShipsAll x n before now) told (λ files is history seq at. ships_none n before now (slice_get seq (n - 1)) (ap (option_map transaction_value) (sym none) ∙ is history seq at))

module _ (v : View) (s : Memory) (lawful : IsLawful v) (ready : IsReady v s) where
  pub ships_entry : (n : ℕ) (before now : List ℕ) (o : Result (Unit {0}) SiteError) → OnOk o (IfSome v.content (ShipsAll s.entries n before now)) → OnOk o ((c : Contents) (h : ℕ) → IsOpen v true c h s → Ships n before now c.sequence)
  ships_entry n before now (Err e) told = tt
  ships_entry n before now (Ok x) told = λ c h site.
      some_told v.content (ShipsAll s.entries n before now) (λ files. Indexes (InFiles files) (reigns s.instance.records) s.entries c.sequence) (Ships n before now c.sequence)
      (told_of v c h s (site.kept refl)) told (indexed v s (reigns s.instance.records) lawful ready refl c h site) (λ files ships is. ships (reigns s.instance.records) c.sequence is)

  pub no_bytes_outside : IfSome v.content (λ files. (history : List Reign) (seq : Sequence) → Indexes (InFiles files) history s.entries seq → ⊥) → (c : Contents) (h : ℕ) → IsOpen v true c h s → ⊥
  no_bytes_outside never c h site =
      some_told v.content (λ files. (history : List Reign) (seq : Sequence) → Indexes (InFiles files) history s.entries seq → ⊥) (λ files. Indexes (InFiles files) (reigns s.instance.records) s.entries c.sequence) ⊥
      (told_of v c h s (site.kept refl)) never (indexed v s (reigns s.instance.records) lawful ready refl c h site) (λ files never_so is. never_so (reigns s.instance.records) c.sequence is)
