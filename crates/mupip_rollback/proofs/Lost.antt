-- The extract of the entries that are to go, which are read one by one.
use Rattle.std.proofs.Common.{◌≡◌, inl, inr, ℕ, zero, suc, ◌+◌, ◌-◌, ◌≤◌, ◌<◌, List, [], ◌∷◌, ◌++◌, length, drop, slice_get, Option, Some, None, IfSome, refl, sym, ◌∙◌, ap, subst, arith, append_assoc, append-nil}
use Rattle.std.proofs.lemmas.List.{drop_all}
use Rattle.std.proofs.lemmas.Option.{slice_get_cases}
use Rattle.disk_defs.specs.Disk.{Files}
use Rattle.disk_defs.proofs.Told.{weaker_told, both_weak, told_at}
use Rattle.entry_index.specs.Found.{AreFound, entry_count}
use Rattle.entry_index.specs.Indexes.{Indexes}
use Rattle.entry_index.specs.Parts.{InFiles}
use Rattle.entry_index.proofs.AmongLaws.{counted}
use Rattle.global_defs.specs.Entry.{Reign, Entry, Sequence}
use Rattle.global_defs.specs.Extract.{entry_text, entries_text, header, extract}
use Rattle.journal_defs.specs.Instance.{site_name}
use Rattle.journal_defs.specs.Sequence.{Records}
use Rattle.site_store.specs.declared.preparing.FoundFiles.{FoundFiles}
use Rattle.site_store.specs.Standing.{HasFound, IfFound, found_signs}

-- the entries from one on
from_entry : (n : ℕ) (seq : Sequence) (e : Entry) → slice_get seq n ≡ Some e → drop n seq ≡ e ∷ drop (suc n) seq
from_entry zero [] e is = absurd (cc is)
from_entry zero (x ∷ seq) e is = let same : x ≡ e = cc is in ap (λ (y : Entry). y ∷ seq) same
from_entry (suc n) [] e is = absurd (cc is)
from_entry (suc n) (x ∷ seq) e is = from_entry n seq e is

-- its lines, and those behind it
lines_from : (n : ℕ) (seq : Sequence) (e : Entry) → slice_get seq n ≡ Some e → entry_text (n + 1) e ++ entries_text (n + 1 + 1) (drop (n + 1) seq) ≡ entries_text (n + 1) (drop n seq)
lines_from n seq e is =
    let next : n + 1 ≡ suc n = omega arith in
    ap (λ (m : ℕ). entry_text (n + 1) e ++ entries_text (n + 1 + 1) (drop m seq)) next ∙ ap (entries_text (n + 1)) (sym (from_entry n seq e is))

-- they are written, and those behind them are left
module _ (n : ℕ) (seq : Sequence) (all old new : List ℕ) (before : old ++ entries_text (n + 1) (drop n seq) ≡ all) where
  line_more : (e : Entry) → slice_get seq n ≡ Some e → new ≡ old ++ entry_text (n + 1) e → new ++ entries_text (n + 1 + 1) (drop (n + 1) seq) ≡ all
  line_more e there is =
      let rest = entries_text (n + 1 + 1) (drop (n + 1) seq) in
      ap (λ (x : List ℕ). x ++ rest) is ∙ append_assoc old (entry_text (n + 1) e) rest ∙ ap (λ (x : List ℕ). old ++ x) (lines_from n seq e there) ∙ before

  line_read : n < length seq → IfSome (slice_get seq (n + 1 - 1)) (λ e. new ≡ old ++ entry_text (n + 1) e) → new ++ entries_text (n + 1 + 1) (drop (n + 1) seq) ≡ all
  line_read low read =
      let back : n + 1 - 1 ≡ n = omega arith in
      let there : IfSome (slice_get seq n) (λ e. new ≡ old ++ entry_text (n + 1) e) = subst (λ (m : ℕ). IfSome (slice_get seq m) (λ e. new ≡ old ++ entry_text (n + 1) e)) back read in
      elim (slice_get_cases seq n).1 [
        | inl at ↦ line_more at.0 at.2 (subst (λ (o : Option Entry). IfSome o (λ e. new ≡ old ++ entry_text (n + 1) e)) at.2 there)
        | inr past ↦ absurd (omega (arith, past.0, low))
      ]

-- of a site that was found, the entries behind the first t
module _ (f : FoundFiles) (t : ℕ) (first : List ℕ) where
  -- by now those up to n were written
  abbrev pub IsWritten : ℕ → List ℕ → Files → Type 0
  IsWritten n out = IfFound f (λ u seq files. out ++ entries_text (n + 1) (drop n seq) ≡ first ++ entries_text (t + 1) (drop t seq))

  abbrev pub AreWritten : List ℕ → Files → Type 0
  AreWritten out = IfFound f (λ u seq files. out ≡ first ++ entries_text (t + 1) (drop t seq))

  -- what a read of an entry says
  abbrev pub IsAdded : ℕ → (old new : List ℕ) → Files → Type 0
  IsAdded n old new files = (seq : Sequence) → Indexes (InFiles files) f.read.log.history f.entries seq → IfSome (slice_get seq (n + 1 - 1)) (λ e. new ≡ old ++ entry_text (n + 1) e)

  -- by the history that was read
  pub by_history : (files : Files) (u : Records) (seq : Sequence) → AreFound files f.read.log.records f.read.lowest (found_signs f) f.entries u seq → Indexes (InFiles files) f.read.log.history f.entries seq
  by_history files u seq found = subst (λ (h : List Reign). Indexes (InFiles files) h f.entries seq) (sym f.read.log.surviving) found.indexed

  -- nothing was found where a read tells that the files don't have it
  pub none_found : (o n : Option Files) → n ≡ o → IfSome n (λ files. (seq : Sequence) → Indexes (InFiles files) f.read.log.history f.entries seq → ⊥) → IfSome o (IfFound f (λ u seq files. ⊥))
  none_found o n same none = weaker_told o (λ files. (seq : Sequence) → Indexes (InFiles files) f.read.log.history f.entries seq → ⊥) (IfFound f (λ u seq files. ⊥))
      (told_at o n (λ files. (seq : Sequence) → Indexes (InFiles files) f.read.log.history f.entries seq → ⊥) same none) (λ files no u seq found. no seq (by_history files u seq found))

  pub begun : (o : Option Files) → IfSome o (IsWritten t first)
  begun None = tt
  begun (Some files) = λ u seq found. refl

  module _ (has : HasFound f) where
    size : (files : Files) (u : Records) (seq : Sequence) → AreFound files f.read.log.records f.read.lowest (found_signs f) f.entries u seq → entry_count f.entries ≡ length seq
    size files u seq found = let wide = has.each_place in let some = has.form.some_region in counted f.entries (length seq) (omega (arith, wide, some)) found.indexed.rows

    pub goes_on : (o : Option Files) (n : ℕ) (old new : List ℕ) → n < entry_count f.entries → IfSome o (IsWritten n old) → IfSome o (IsAdded n old new) → IfSome o (IsWritten (n + 1) new)
    goes_on o n old new low before added = both_weak o (IsWritten n old) (IsAdded n old new) (IsWritten (n + 1) new) before added (λ files was adds u seq found.
        let many = size files u seq found in
        line_read n seq (first ++ entries_text (t + 1) (drop t seq)) old new (was u seq found) (omega (arith, low, many)) (adds seq (by_history files u seq found)))

    pub all_written : (o : Option Files) (n : ℕ) (out : List ℕ) → entry_count f.entries ≤ n → IfSome o (IsWritten n out) → IfSome o (AreWritten out)
    all_written o n out past was = weaker_told o (IsWritten n out) (AreWritten out) was (λ files is u seq found.
        let many = size files u seq found in
        sym (append-nil out) ∙ ap (λ (es : Sequence). out ++ entries_text (n + 1) es) (sym (drop_all n seq (omega (arith, past, many)))) ∙ is u seq found)

  -- behind the header they are the extract
  pub is_extract : (o : Option Files) (name text : List ℕ) → name ≡ site_name f.read.log.records → first ≡ header name (t + 1) → IfSome o (AreWritten text) → IfSome o (IfFound f (λ u seq files. text ≡ extract (site_name u.instance) seq (t + 1)))
  is_extract o name text name_is first_is are = weaker_told o (AreWritten text) (IfFound f (λ u seq files. text ≡ extract (site_name u.instance) seq (t + 1))) are (λ files is u seq found.
      let back : t ≡ t + 1 - 1 = omega arith in
      let site : name ≡ site_name u.instance = name_is ∙ ap site_name (sym found.instance_is) in
      is u seq found
      ∙ ap (λ (x : List ℕ). x ++ entries_text (t + 1) (drop t seq)) (first_is ∙ ap (λ (x : List ℕ). header x (t + 1)) site)
      ∙ ap (λ (m : ℕ). header (site_name u.instance) (t + 1) ++ entries_text (t + 1) (drop m seq)) back)
