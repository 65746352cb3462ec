-- Indexes of the first entries, as journals are read on.
use Rattle.std.proofs.Common.{◌≡◌, ◌⊎◌, inl, inr, ℕ, suc, ◌+◌, ◌*◌, ◌≤◌, ◌<◌, true, false, List, [], ◌∷◌, ◌++◌, length, map, get_or, Option, Some, None, refl, sym, ◌∙◌, ap, subst, arith, length-append}
use Rattle.std.proofs.Math.Path.{fun_ext}
use Rattle.std.proofs.lemmas.Bool.{cases_lt}
use Rattle.std.proofs.lemmas.List.{get_or-map, length-map, take_all}
use Rattle.std.specs.List.{AllByRecursion}
use Rattle.disk_defs.specs.Disk.{Files}
use Rattle.global_defs.specs.Entry.{Reign, Sequence}
use Rattle.global_defs.specs.Prefix.{stamp_at}
use Rattle.journal_defs.specs.Instance.{InstanceRecord}
use Rattle.journal_defs.specs.Journal.{JournalRecord, Part}
use Rattle.journal_defs.specs.Sequence.{Records, Placed, part_of, parts, entry, entry_with}
use Rattle.journal_defs.specs.Stands.{IsJournal}
use Rattle.journal_defs.specs.Surviving.{reigns}
use Rattle.mupip_recover.proofs.Runs.{more_run, same_run}
use Rattle.entry_index.specs.Cursors.{IsDrawn, Grows, IsDone, AreReady, AreOnWay, AreTold, AllReadOn, AllReadOut, AllSettle, IsBuilt, HaveAdded, AreAdded}
use Rattle.entry_index.specs.Found.{HaveFound}
use Rattle.entry_index.specs.Indexes.{Indexes, IsNext}
use Rattle.entry_index.specs.Parts.{InFiles, InJournals, AreParts}
use Rattle.entry_index.specs.Places.{AreSignsOf}
use Rattle.entry_index.specs.Table.{AddsRow, AreSigned}
use Rattle.entry_index.specs.Thinned.{IsThinned, AreKept}
use Rattle.entry_index.specs.declared.cursor.Cursor.{Cursor}
use Rattle.entry_index.specs.declared.index.EntryIndex.{EntryIndex}
use Rattle.entry_index.specs.declared.place.PartPlace.{PartPlace}
use Rattle.entry_index.specs.declared.placed.PlacedSign.{PlacedSign}
use Rattle.entry_index.proofs.AmongLaws.{index_behind}
use Rattle.entry_index.proofs.Complete.{some_of}
use Rattle.entry_index.proofs.Cursors.{grows_part, all_kept}
use Rattle.entry_index.proofs.IndexLaws.{first_rows, row_more}
use Rattle.entry_index.proofs.Readers.{at_end}
use Rattle.entry_index.proofs.SideBySide.{some_in, row_of, row_signed, row_among, none_past}

-- one entry more
pub built_more : (files : Files) (s : Records) (index made : EntryIndex) (n : ℕ) (places : List PartPlace) → made.regions ≡ index.regions → IsNext files (reigns s.instance) (n + 1) (parts s (n + 1)) true index.places.items made.places.items
    → made.places.items ≡ index.places.items ++ places → length places ≡ index.regions → AreParts (InJournals s.journal) (n + 1) places (parts s (n + 1)) → IsBuilt files s index n → IsBuilt files s made (n + 1)
built_more files s index made n places regions (row, added, at, some) more wide among built =
    let (e, is) = some_of (entry s (n + 1)) some in
    let next : n + 1 ≡ suc (length built.seq) = omega (arith, built.long) in
    let entry_is = subst (λ (k : ℕ). entry_with (parts s (n + 1)) (stamp_at k (reigns s.instance)) ≡ Some e) next is in
    let long : length row ≡ index.regions = omega (arith, wide, ap length added, ap length more, length-append index.places.items row, length-append index.places.items places) in
    record {
      seq = built.seq ++ e ∷ [];
      long = length-append built.seq (e ∷ []) ∙ ap (λ (k : ℕ). k + 1) built.long;
      each = more_run (entry s) 1 (n + 1) built.seq e (omega (arith, built.long)) built.each is;
      indexed = row_more (InFiles files) (reigns s.instance) index made built.seq row (parts s (n + 1)) e regions added long (subst (λ (k : ℕ). AreParts (InFiles files) k row (parts s (n + 1))) next at) entry_is built.indexed;
      among = row_more (InJournals s.journal) (reigns s.instance) index made built.seq places (parts s (n + 1)) e regions more wide (subst (λ (k : ℕ). AreParts (InJournals s.journal) k places (parts s (n + 1))) next among) entry_is built.among;
    }

-- an index of the same places
same_rows : (stands : ℕ → ℕ → ℕ → JournalRecord → Type 0) (rs : List Reign) (index made : EntryIndex) (seq : Sequence) → made.regions ≡ index.regions → made.places.items ≡ index.places.items → Indexes stands rs index seq → Indexes stands rs made seq
same_rows stands rs index made seq regions places is =
    subst (λ (l : Sequence). Indexes stands rs made l) (take_all (length seq) seq (omega arith))
    (first_rows stands rs index made seq (length seq) regions (places ∙ sym (take_all (index.regions * length seq) index.places.items (omega (arith, is.rows)))) is)

built_same : (files : Files) (s : Records) (index made : EntryIndex) (n : ℕ) → made.regions ≡ index.regions → made.places.items ≡ index.places.items → IsBuilt files s index n → IsBuilt files s made n
built_same files s index made n regions places built = record {
  seq = built.seq;
  long = built.long;
  each = built.each;
  indexed = same_rows (InFiles files) (reigns s.instance) index made built.seq regions places built.indexed;
  among = same_rows (InJournals s.journal) (reigns s.instance) index made built.seq regions places built.among;
}

-- as journals get longer
module _ (instance : List InstanceRecord) (low : ℕ) (old new : ℕ → List Placed) (grows : (r : ℕ) → Grows instance low (old r) (new r)) where
  pub entry_stays : (m : ℕ) → m ≤ low → entry (record { instance = instance; journal = new }) m ≡ entry (record { instance = instance; journal = old }) m
  entry_stays m least = ap (λ (p : ℕ → Option Part). entry_with p (stamp_at m (reigns instance))) (fun_ext (λ r. grows_part instance low (old r) (new r) m least (grows r)))

  pub built_stays : (files : Files) (index : EntryIndex) (n : ℕ) → n ≤ low → IsBuilt files (record { instance = instance; journal = old }) index n → IsBuilt files (record { instance = instance; journal = new }) index n
  built_stays files index n least built = record {
    seq = built.seq;
    long = built.long;
    each = same_run (entry (record { instance = instance; journal = old })) (entry (record { instance = instance; journal = new })) 1 built.seq (λ k first inside. entry_stays k (omega (arith, inside, least, built.long))) built.each;
    indexed = built.indexed;
    among = index_behind old new (reigns instance) index built.seq (λ r inside. ((grows r).rest, (grows r).whole)) built.among;
  }

-- an entry more, of what was read on
module _ (files : Files) (instance : List InstanceRecord) (lowest n : ℕ) (cs mid : List Cursor) (index : EntryIndex) (content : Option Files) (last : ℕ) (ready : AreReady content last mid) (have : HaveAdded files instance lowest n cs index)
    (reads : AllReadOn files instance lowest n n cs mid have.journal) where
  abbrev now : ℕ → List Placed
  now = reads.now

  told_now : AreTold files instance n mid now
  told_now = reads.told have.told

  built_now : IsBuilt files (record { instance = instance; journal = now }) index n
  built_now = built_stays instance n have.journal now reads.grows files index n (omega arith) have.built

  regions : (r : ℕ) (d : Cursor) → r < length mid → (get_or mid r d).reader.region ≡ r
  regions r d low = (ready r d low).region_is

  here : n < n + 1
  here = omega arith

  -- what its row tells
  pub this_signed : AreSigned files (row_of (n + 1) mid) (n + 1) (λ r. part_of instance (n + 1) (now r))
  this_signed = row_signed files instance lowest n (n + 1) here mid now regions reads.on_way told_now

  pub this_past : (r : ℕ) → length mid ≤ r → part_of instance (n + 1) (now r) ≡ None
  this_past r past = none_past files instance lowest n (n + 1) here mid now regions reads.on_way told_now r past

  pub added_more : (new : List Cursor) (made : EntryIndex) → length mid ≡ index.regions → made.regions ≡ index.regions → AddsRow (row_of (n + 1) mid) index.regions true index.places.items made.places.items
      → IsNext files (reigns instance) (n + 1) (λ r. part_of instance (n + 1) (now r)) true index.places.items made.places.items → AllSettle files n mid new → HaveAdded files instance lowest (n + 1) new made
  added_more new made many same row next settles = record {
    journal = now;
    on_way = settles.on_way instance lowest now reads.on_way;
    told = settles.told instance now told_now;
    built = built_more files (record { instance = instance; journal = now }) index made n row.0 same next row.1 row.2
        (row_among files instance lowest n (n + 1) here mid now regions reads.on_way told_now row.0 (row.2 ∙ sym many) (λ r low. row.3 r (omega (arith, low, many)))) built_now;
  }

  pub added_end : (made : EntryIndex) → made.regions ≡ index.regions → IsNext files (reigns instance) (n + 1) (λ r. part_of instance (n + 1) (now r)) false index.places.items made.places.items → AreAdded files instance lowest n mid made
  added_end made same next = record {
    journal = now;
    on_way = reads.on_way;
    built = built_same files (record { instance = instance; journal = now }) index made n same next.0 built_now;
    ended = let one : n + 1 ≡ suc n = omega arith in subst (λ (k : ℕ). entry (record { instance = instance; journal = now }) k ≡ None) one next.1;
  }

-- all is read: these are the records of the regions' journals, and what is kept of them
module _ (files : Files) (instance : List InstanceRecord) (lowest n low last : ℕ) (cs : List Cursor) (index : EntryIndex) (content : Option Files) (ready : AreReady content last cs) (done : (r : ℕ) (d : Cursor) → r < length cs → IsDone (get_or cs r d))
    (journal : ℕ → List Placed) (way : AreOnWay files instance lowest n cs journal) where
  pub whole_journal : (r : ℕ) → r < length cs → IsJournal files r last (get_or (map (λ c. c.reader.began) cs) r 0) (journal r)
  whole_journal r inside =
      let d = some_in cs r inside in
      let c = get_or cs r d in
      let is = ready r d inside in
      let at : IsJournal files c.reader.region c.reader.last c.reader.began (journal r) = at_end files c.reader (journal r) (done r d inside).all (way.each r d inside).at in
      subst (λ (k : ℕ). IsJournal files r last k (journal r)) (sym (get_or-map (λ (x : Cursor). x.reader.began) cs r d 0 inside))
      (subst (λ (k : ℕ). IsJournal files r k c.reader.began (journal r)) is.last_is (subst (λ (k : ℕ). IsJournal files k c.reader.last c.reader.began (journal r)) is.region_is at))

  keeps_at : (r : ℕ) → r < length cs → (k : List Placed) × AreSignsOf files r (get_or (map (λ c. c.kept.signs.items) cs) r []) k × AllByRecursion IsDrawn k × IsThinned instance lowest n None (journal r) k
  keeps_at r inside =
      let d = some_in cs r inside in
      let c = get_or cs r d in
      let keeps = all_kept files instance lowest n c (journal r) (done r d inside).none (way.each r d inside) in
      let are : AreSignsOf files r c.kept.signs.items keeps.kept = subst (λ (k : ℕ). AreSignsOf files k c.kept.signs.items keeps.kept) (ready r d inside).region_is keeps.are in (
        keeps.kept,
        subst (λ (l : List PlacedSign). AreSignsOf files r l keeps.kept) (sym (get_or-map (λ (x : Cursor). x.kept.signs.items) cs r d [] inside)) are,
        keeps.drawn,
        keeps.thinned,
      )

  kept_by : (r : ℕ) → (r < length cs) ⊎ (length cs ≤ r) → List Placed
  kept_by r (inl inside) = (keeps_at r inside).0
  kept_by r (inr past) = []

  kept_in : (r : ℕ) (o : (r < length cs) ⊎ (length cs ≤ r)) → r < length cs → AreSignsOf files r (get_or (map (λ c. c.kept.signs.items) cs) r []) (kept_by r o) × AllByRecursion IsDrawn (kept_by r o)
  unfolding kept_by keeps_at
  kept_in r (inl inside) low = ((keeps_at r inside).1, (keeps_at r inside).2)
  kept_in r (inr past) low = absurd (omega (arith, past, low))

  kept_past : (r : ℕ) (o : (r < length cs) ⊎ (length cs ≤ r)) → length cs ≤ r → kept_by r o ≡ []
  unfolding kept_by keeps_at
  kept_past r (inl inside) high = absurd (omega (arith, inside, high))
  kept_past r (inr past) high = refl

  kept_thinned : (r : ℕ) (o : (r < length cs) ⊎ (length cs ≤ r)) → IsThinned instance lowest n None (journal r) (kept_by r o)
  unfolding kept_by keeps_at
  kept_thinned r (inl inside) = (keeps_at r inside).3
  kept_thinned r (inr past) = subst (λ (l : List Placed). IsThinned instance lowest n None l []) (sym (way.no_more r past)) refl

  pub are_kept : AreKept files instance lowest n (map (λ c. c.kept.signs.items) cs) journal
  are_kept =
      let signs = map (λ (c : Cursor). c.kept.signs.items) cs in
      let wide : length signs ≡ length cs = length-map cs (λ (c : Cursor). c.kept.signs.items) in
      record {
        kept = λ r. kept_by r (cases_lt r (length cs));
        are = record {
          each = λ r inside. (kept_in r (cases_lt r (length cs)) (omega (arith, inside, wide))).0;
          generations = λ r inside. (kept_in r (cases_lt r (length cs)) (omega (arith, inside, wide))).1;
          no_more = λ r past. kept_past r (cases_lt r (length cs)) (omega (arith, past, wide));
        };
        thinned = λ r. kept_thinned r (cases_lt r (length cs));
      }

-- what is found of a site's journals
pub have_found : (files : Files) (instance : List InstanceRecord) (lowest regions n last : ℕ) (mid cs : List Cursor) (index : EntryIndex) (content : Option Files) → length cs ≡ regions → AreReady content last cs
    → ((r : ℕ) (d : Cursor) → r < length cs → IsDone (get_or cs r d)) → (added : AreAdded files instance lowest n mid index) → AllReadOut files instance lowest n (n + 1) cs added.journal
    → (journal : ℕ → List Placed) × HaveFound files instance lowest regions last (map (λ c. c.kept.signs.items) cs) (map (λ c. c.reader.began) cs) index journal
have_found files instance lowest regions n last mid cs index content many ready done added out =
    let built = built_stays instance (n + 1) added.journal out.now out.grows files index n (omega arith) added.built in
    let one : suc n ≤ n + 1 = omega arith in
    let ended : entry (record { instance = instance; journal = out.now }) (suc n) ≡ None = entry_stays instance (n + 1) added.journal out.now out.grows (suc n) one ∙ added.ended in (
      out.now,
      record {
        journals = λ r inside. whole_journal files instance lowest n (n + 1) last cs index content ready done out.now out.on_way r (omega (arith, inside, many));
        no_more = λ r past. out.on_way.no_more r (omega (arith, past, many));
        seq = built.seq;
        sequence = record { each = built.each; ended = subst (λ (k : ℕ). entry (record { instance = instance; journal = out.now }) (suc k) ≡ None) (sym built.long) ended };
        indexed = built.indexed;
        among = built.among;
        kept = subst (λ (k : ℕ). AreKept files instance lowest k (map (λ c. c.kept.signs.items) cs) out.now) (sym built.long) (are_kept files instance lowest n (n + 1) last cs index content ready done out.now out.on_way);
      },
    )
