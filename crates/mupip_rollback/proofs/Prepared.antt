-- A standing site of which the first entries are kept.
use Rattle.std.proofs.Common.{◌≡◌, ℕ, suc, ◌+◌, ◌≤◌, ◌<◌, false, List, [], ◌∷◌, ◌++◌, length, map, min, IfSome, Result, Ok, Err, IfOk, OnOk, refl, sym, ◌∙◌, ap, subst, arith}
use Rattle.disk_defs.specs.Disk.{Files, View, Image, IsLawful, Reads, AtEachMoment}
use Rattle.disk_defs.proofs.Told.{weaker_told, both_weak, told_at}
use Rattle.disk_defs.proofs.Moments.{holds_now, read_only}
use Rattle.entry_index.specs.Found.{entry_count}
use Rattle.entry_index.specs.declared.index.EntryIndex.{EntryIndex}
use Rattle.global_defs.specs.Entry.{Sequence}
use Rattle.global_defs.specs.Extract.{extract}
use Rattle.journal_defs.specs.Instance.{InstanceRecord, Create, Reigned, Cut, Map, Mode, generation, regions, site_name}
use Rattle.journal_defs.specs.Directory.{patterns}
use Rattle.journal_defs.specs.Sequence.{Placed, Records, IsSequence}
use Rattle.journal_defs.specs.Stands.{AreRecords}
use Rattle.journal_laws.proofs.Drawing as drawing
use Rattle.journal_laws.proofs.EveryTarget.{patterns_same}
use Rattle.region_opening.specs.Signs.{AllSay}
use Rattle.site_defs.specs.Contents.{Contents, Leftover}
use Rattle.site_defs.specs.OutsideBlocks.{IsOutsideRollback}
use Rattle.site_defs.specs.Stands.{IsSite, HasLeft}
use Rattle.site_files.specs.Loading.{AreUnbegun, next_cut}
use Rattle.region_store.specs.Joined.{Joined}
use Rattle.site_store.specs.declared.layout.Layout.{Layout}
use Rattle.site_store.specs.declared.preparing.FoundFiles.{FoundFiles}
use Rattle.site_store.specs.declared.preparing.StandingSite.{StandingSite}
use Rattle.site_store.specs.Finding.{HasLayout, mapping_of}
use Rattle.site_store.specs.Needing.{NoneIsWithout}
use Rattle.site_store.specs.Opening.{region_value, EachStands, AreTextsDurable, AreDatabasesDurable}
use Rattle.site_store.specs.Standing.{HasFound, WasFound, IsFoundIn, IsFoundAs, IsOpenFor, IfFound, found_records, found_signs}
use Rattle.site_store.proofs.Founded.{Given, found_count, found_moved, open_moved}
use Rattle.site_store.proofs.Without.{signs_say}
use Rattle.mupip_rollback.specs.declared.error.RollError.{RollError}
use Rattle.mupip_rollback.specs.declared.preparing.Prepared.{Prepared}
use Rattle.mupip_rollback.specs.Preparing.{AreFirst, IsPrepared, KeepsFirst, cut_records}
use Rattle.mupip_rollback.proofs.Firsts.{first_count}
use Rattle.mupip_rollback.proofs.Founded as founded
use Rattle.global_defs.proofs.Basics.{longer}
use Rattle.global_defs.specs.Region.{Region}

-- another record
pub name_more : (rs : List InstanceRecord) (x : InstanceRecord) → 0 < length rs → site_name (rs ++ x ∷ []) ≡ site_name rs
name_more [] x some = absurd (omega (arith, some))
name_more (Cut n h ∷ rs) x some = refl
name_more (Create name qs ∷ rs) x some = refl
name_more (Reigned r ∷ rs) x some = refl
name_more (Map region star name ∷ rs) x some = refl
name_more (Mode region before ∷ rs) x some = refl

pub one_more_cut : (rs : List InstanceRecord) (n m : ℕ) (k kept : Layout) → 1 ≤ length (regions rs) → kept.name ≡ k.name → kept.regions ≡ k.regions → kept.directory ≡ k.directory → kept.generation ≡ k.generation + 1
    → HasLayout (rs ++ next_cut rs n ∷ []) k → HasLayout (cut_records (cut_records rs n) m) kept
one_more_cut rs n m k kept some name named directory newest is =
    let qs = rs ++ next_cut rs n ∷ [] in
    let here : regions qs ≡ regions rs = drawing.same_regions rs n (generation rs + 1) some in
    let same : regions (cut_records qs m) ≡ regions qs = drawing.same_regions qs m (generation qs + 1) (subst (λ (l : List Region). 1 ≤ length l) (sym here) some) in
    let mapping : mapping_of qs ≡ mapping_of (cut_records qs m) = (let back = sym same in let maps : patterns qs ≡ patterns (cut_records qs m) = sym (patterns_same qs (next_cut qs m) refl) in λ i. record { regions = length (back i); patterns = maps i }) in
    record {
      name = name ∙ is.name ∙ sym (name_more qs (next_cut qs m) (longer rs (next_cut rs n)));
      regions = ap (λ rows. map region_value rows.items) named ∙ is.regions ∙ sym same;
      directory = directory ∙ is.directory ∙ mapping;
      generation = newest ∙ ap (λ (h : ℕ). h + 1) is.generation ∙ sym (drawing.generation-cut qs m (generation qs + 1) (omega arith));
    }

pub was_here : (u v : View) (f : FoundFiles) → v.content ≡ u.content → WasFound u v f → WasFound v v f
was_here u v f same was = record {
  told = told_at v.content u.content (Given v f) (sym same) was.told;
  texts = told_at v.content u.content (AreTextsDurable v (generation f.read.log.records)) (sym same) was.texts;
  databases = told_at v.content u.content (AreDatabasesDurable v (length (regions f.read.log.records))) (sym same) was.databases;
}

abbrev pub IsAhead : View → View → FoundFiles → Type 0
IsAhead v w f = IfSome v.content (λ _. (d : Files) → Image w d → AreUnbegun (suc (suc (generation f.read.log.records))) (length (regions f.read.log.records)) d)

-- the text of those that are to go behind the first t
abbrev pub IsLost : List ℕ → ℕ → FoundFiles → Files → Type 0
IsLost text t f = IfFound f (λ u seq files. text ≡ extract (site_name u.instance) seq (t + 1))

pub prepared : (v w : View) (f : FoundFiles) (t : ℕ) (k : StandingSite) (p : Prepared) (lost : List ℕ) → IsLawful w → Reads v w → HasFound f → t ≤ entry_count f.entries → IsFoundAs f k → IsOpenFor v w f t k.globals
    → p.log ≡ k.log → p.length ≡ entry_count k.entries → p.broken ≡ k.broken → p.lost ≡ lost → IfSome v.content (IsLost lost t f) → KeepsFirst t k p.kept
    → WasFound v v f → IsAhead v v f → IsPrepared w p
prepared v w f t k p text lawful reads has most stays regions_open log count broken same lost kept was ahead =
    let rs = f.read.log.records in
    let run = read_only v w reads in
    let wide = has.each_place in
    let some = has.form.some_region in
    let rows : AreFirst t f.entries p.kept.entries = subst (λ (i : EntryIndex). AreFirst t i p.kept.entries) stays.entries kept.entries in
    let size : entry_count p.kept.entries ≡ t = first_count t f.entries p.kept.entries rows (omega (arith, wide, some)) has.whole most in
    record {
      found = f;
      has = has;
      was = was_here v w f reads.content (found_moved v v w f lawful run was);
      log = log ∙ stays.log;
      counted = count ∙ ap entry_count stays.entries;
      broken = broken ∙ stays.broken;
      last_began = kept.last_began ∙ stays.last_began;
      most = omega (arith, size, most);
      entries = subst (λ (n : ℕ). AreFirst n f.entries p.kept.entries) (sym size) rows;
      layout = λ n m. one_more_cut rs n m k.layout p.kept.layout has.form.some_region kept.name kept.regions kept.directory kept.generation (stays.layout n);
      regions_open = subst (λ (n : ℕ). IsOpenFor w w f n p.kept.globals) (sym size) (subst (λ (j : Joined). IsOpenFor w w f t j) (sym kept.globals) (open_moved false w v w f t k.globals (sym reads.content) regions_open));
      lost = subst (λ (n : ℕ). IfSome w.content (IsLost p.lost n f)) (sym size) (subst (λ (l : List ℕ). IfSome w.content (IsLost l t f)) (sym same) (told_at w.content v.content (IsLost text t f) (sym reads.content) lost));
      ahead = told_at w.content v.content (λ _. (d : Files) → Image w d → AreUnbegun (suc (suc (generation rs))) (length (regions rs)) d) (sym reads.content)
          (weaker_told v.content (λ _. (d : Files) → Image v d → AreUnbegun (suc (suc (generation rs))) (length (regions rs)) d) (λ _. (d : Files) → Image w d → AreUnbegun (suc (suc (generation rs))) (length (regions rs)) d) ahead
          (λ files none d image. none d (holds_now v w (Image v) lawful run d image)));
    }

-- what was found of it, before anything else is known
module _ (u v : View) (f : FoundFiles) (has : HasFound f) (was : WasFound u v f) (to t : ℕ) (t_is : t ≡ min to (entry_count f.entries)) where
  t_so : (files : Files) (journal : ℕ → List Placed) (seq : Sequence) → IsFoundIn v f journal seq files → t ≡ min to (length seq)
  t_so files journal seq is = t_is ∙ ap (min to) (found_count v f journal seq files has is)

  pub place_at : (file offset : ℕ) → v.content ≡ u.content → IfSome v.content (IfFound f (λ x seq files. IsOutsideRollback to files file offset)) → IfSome u.content (λ files. IsOutsideRollback to files file offset)
  place_at file offset same out = both_weak u.content (Given v f) (IfFound f (λ x seq files. IsOutsideRollback to files file offset)) (λ files. IsOutsideRollback to files file offset) was.told
      (told_at u.content v.content (IfFound f (λ x seq files. IsOutsideRollback to files file offset)) same out)
      (λ files x here. here (found_records f x.0) x.1 x.2.found)

  -- what is so of all records of which the signs say so
  so_of : f.read.lowest ≡ to → (P : Records → ℕ → Type 0) → ((journal : ℕ → List Placed) → AllSay f.read.log.records t (found_signs f) journal → P (found_records f journal) t)
      → (files : Files) (journal : ℕ → List Placed) (seq : Sequence) → IsFoundIn v f journal seq files → P (found_records f journal) (min to (length seq))
  so_of lowest P all files journal seq is =
      let so = t_so files journal seq is in
      subst (P (found_records f journal)) so (all journal (signs_say files f.read.log.records f.read.lowest t (length seq) (found_signs f) journal (λ m low least. omega (arith, low, least, so, lowest)) is.found.are_kept))

  pub told_without : f.read.lowest ≡ to → (P : Records → ℕ → Type 0) → ((journal : ℕ → List Placed) → AllSay f.read.log.records t (found_signs f) journal → P (found_records f journal) t)
      → IfSome u.content (λ files. (x : Records) × (es : Sequence) × AreRecords files x × IsSequence x es × P x (min to (length es)))
  told_without lowest P all = founded.held_so u v f has was (λ x es. P x (min to (length es))) (so_of lowest P all)

  pub held_of : f.read.lowest ≡ to → (o : Result Prepared RollError) → IfOk o (λ p. p.log.records ≡ f.read.log.records) → IfOk o (λ p. entry_count p.kept.entries ≡ t)
      → OnOk o ((journal : ℕ → List Placed) → AllSay f.read.log.records t (found_signs f) journal → NoneIsWithout (found_records f journal) t)
      → IfOk o (λ p. IfSome u.content (λ files. (x : Records) × (es : Sequence) × AreRecords files x × IsSequence x es × (x.instance ≡ p.log.records) × (entry_count p.kept.entries ≡ min to (length es)) × NoneIsWithout x (min to (length es))))
  held_of lowest (Err e) records kept none = tt
  held_of lowest (Ok p) records kept none = weaker_told u.content (Given v f)
      (λ files. (x : Records) × (es : Sequence) × AreRecords files x × IsSequence x es × (x.instance ≡ p.log.records) × (entry_count p.kept.entries ≡ min to (length es)) × NoneIsWithout x (min to (length es))) was.told
      (λ files x. (found_records f x.0, x.1, x.2.found.held, x.2.found.sequence, sym records, kept ∙ t_so files x.0 x.1 x.2, so_of lowest NoneIsWithout none files x.0 x.1 x.2))

  pub kept_of : (o : Result Prepared RollError) → IfOk o (λ p. p.length ≡ entry_count f.entries) → IfOk o (λ p. entry_count p.kept.entries ≡ t) → IfOk o (λ p. entry_count p.kept.entries ≡ min to p.length)
  kept_of (Err e) all kept = tt
  kept_of (Ok p) all kept = omega (arith, all, kept, t_is)

  pub site_of : (w : View) (o : Result Prepared RollError) → IsLawful v → IsLawful w → AtEachMoment u v (Image u) → Reads v w → IfOk o (λ p. p.length ≡ entry_count f.entries)
      → IfOk o (λ p. IfSome u.content (λ files. (c : Contents) → IsSite files c → (p.length ≡ length c.sequence) × (EachStands u → (d : Files) → Image w d → IsSite d c)))
  site_of w (Err e) lawful lawful_w synced reads all = tt
  site_of w (Ok p) lawful lawful_w synced reads all =
      weaker_told u.content (λ files. (c : Contents) → IsSite files c → founded.AllStand u v f has was c) (λ files. (c : Contents) → IsSite files c → (p.length ≡ length c.sequence) × (EachStands u → (d : Files) → Image w d → IsSite d c))
      (founded.site_is u v f has was lawful synced) (λ files h c site. let r = h c site in (all ∙ r.0, λ each d image. r.1 each d (holds_now v w (Image v) lawful_w (read_only v w reads) d image)))

  pub left_of : (o : Result Prepared RollError) → IfOk o (λ p. p.broken ≡ f.broken) → IfOk o (λ p. IfSome u.content (λ files. (c : Contents) (left : Leftover) → IsSite files c → HasLeft files c left → left.broken ≡ p.broken))
  left_of (Err e) all = tt
  left_of (Ok p) all = weaker_told u.content (λ files. (c : Contents) (left : Leftover) → IsSite files c → HasLeft files c left → left.broken ≡ f.broken) (λ files. (c : Contents) (left : Leftover) → IsSite files c → HasLeft files c left → left.broken ≡ p.broken)
      (founded.left_is u v f has was) (λ files h c left site l. h c left site l ∙ sym all)

pub prepared_of : (u v w : View) (f : FoundFiles) (o : Result Prepared RollError) → v.content ≡ u.content → WasFound u v f → IsAhead u v f → IfOk o (λ p. WasFound v v f → IsAhead v v f → IsPrepared w p) → IfOk o (IsPrepared w)
prepared_of u v w f (Err e) same was ahead h = tt
prepared_of u v w f (Ok p) same was ahead h =
    h (was_here u v f same was) (told_at v.content u.content (λ _. (d : Files) → Image v d → AreUnbegun (suc (suc (generation f.read.log.records))) (length (regions f.read.log.records)) d) (sym same) ahead)
