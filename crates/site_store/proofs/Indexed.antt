-- Where the entries of an open site stand.
use Rattle.std.proofs.Common.{◌≡◌, ℕ, suc, ◌+◌, ◌≤◌, ◌<◌, List, [], ◌∷◌, ◌++◌, length, map, take, Option, Some, None, IfSome, IsSomeAnd, refl, sym, ◌∙◌, ap, subst, arith}
use Rattle.std.specs.Prelude.{slice_get, sum_by}
use Rattle.std.specs.List.{AllZip}
use Rattle.std.proofs.Math.Seq.{take-append_seam}
use Rattle.global_defs.specs.declared.limits.TheConstants.{MOST_REGIONS}
use Rattle.disk_defs.specs.Disk.{Files, View, Image, IsLawful}
use Rattle.disk_defs.specs.Gates.{Body, spelled, spelled_with}
use Rattle.gated_file.specs.State.{ones, shut}
use Rattle.global_defs.specs.Entry.{Entry}
use Rattle.global_defs.specs.Prefix.{stamp_at}
use Rattle.journal_defs.specs.Numbers.{journal_file}
use Rattle.journal_defs.specs.Journal.{JournalRecord, Tcom, Part, IsJournalBody}
use Rattle.journal_defs.specs.Instance.{InstanceRecord, regions}
use Rattle.journal_defs.specs.Surviving.{reigns}
use Rattle.journal_defs.specs.Sequence.{Placed, entry_with}
use Rattle.journal_defs.specs.Stands.{in_generation}
use Rattle.journal_defs.specs.Growth.{AreNumbered, placed}
use Rattle.jnl_file.specs.Journal as journals
use Rattle.entry_index.specs.Places.{StandsAt}
use Rattle.entry_index.specs.Order.{size_of, bytes_in, IsAmong, AreLaid}
use Rattle.entry_index.proofs.Order.{bytes_append, bytes_own, older_bytes, spelled_size, laid_stands, laid_open, laid_shut, Older, Newer, older_or_newer}
use Rattle.tp_commit.specs.Parts.{PartRecords, recorded}
use Rattle.region_journals.specs.declared.journals.RegionJournal.{RegionJournal}
use Rattle.region_journals.specs.Journals.{part_in, listed}
use Rattle.region_journals.proofs.Turns.{found}
use Rattle.entry_index.specs.declared.place.PartPlace.{PartPlace}
use Rattle.entry_index.specs.declared.index.EntryIndex.{EntryIndex}
use Rattle.entry_index.specs.Parts.{InFiles, InJournals, IsPartAt}
use Rattle.entry_index.specs.Indexes.{Indexes}
use Rattle.entry_index.specs.Among.{IsIndexOf}
use Rattle.entry_index.proofs.IndexLaws.{row_more}
use Rattle.entry_index.proofs.AmongLaws.{part_moved, index_behind, index_stands}
use Rattle.site_store.specs.declared.memory.Memory.{Memory}
use Rattle.site_defs.specs.Contents.{Contents}
use Rattle.site_store.specs.Site.{IsReady, Keeps}
use Rattle.site_store.specs.Committing.{AddsPlaces, next_place, place_behind}
use Rattle.site_store.proofs.Waiting.{whole_more, more_behind, placed_listed}
use Rattle.site_store.proofs.Newest as newest

-- where the disk tells its files
told_in : {X : Type 0} (o : Option Files) (P : Files → Type 0) → IsSomeAnd o P → ((f : Files) → P f → X) → X
told_in None P told f = absurd told
told_in (Some files) P told f = f files told

module _ (v : View) (c : Contents) (h : ℕ) (s : Memory) (k : Keeps v c h s) (ready : IsReady v s) (own : s.instance.records ≡ c.instance) where
  -- the records of a region, with those that wait
  abbrev pub with_waiting : ℕ → List Placed
  with_waiting r = k.records.journal r ++ map (in_generation (suc k.g)) (k.waits r)

  -- what they take of the newest generation's file
  bytes_are : (f : Files) → Image v f → (r : ℕ) → r < length (regions c.instance) → bytes_in (suc k.g) (with_waiting r) ≡ sum_by size_of (k.newer r) + sum_by size_of (k.waits r)
  bytes_are f image r here =
      let g = suc k.g in
      let old : bytes_in g (k.older r) ≡ 0 = older_bytes f r k.g (k.last r) g (k.older r) (k.older_files f image r here) (omega arith) in
      let parts : with_waiting r ≡ (k.older r ++ map (in_generation g) (k.newer r)) ++ map (in_generation g) (k.waits r) =
      ap (λ (l : List Placed). l ++ map (in_generation g) (k.waits r)) (k.newest.whole r here) in
      let all : bytes_in g (with_waiting r) ≡ bytes_in g (k.older r) + bytes_in g (map (in_generation g) (k.newer r)) + bytes_in g (map (in_generation g) (k.waits r)) =
      ap (bytes_in g) parts ∙ bytes_append g (k.older r ++ map (in_generation g) (k.newer r)) (map (in_generation g) (k.waits r))
      ∙ ap (λ (n : ℕ). n + bytes_in g (map (in_generation g) (k.waits r))) (bytes_append g (k.older r) (map (in_generation g) (k.newer r))) in
      omega (arith, all, old, bytes_own g (k.newer r), bytes_own g (k.waits r))

  -- its last gate stands behind them
  pub end_is : (f : Files) → Image v f → (r : ℕ) (x : RegionJournal) → slice_get s.journals.journals.items r ≡ Some x → r < length (regions c.instance) → x.journal.gated.end ≡ bytes_in (suc k.g) (with_waiting r)
  end_is f image r x at here =
      let has = k.journal_files.has r x at in
      told_in v.content (journals.HoldsRecords v x.journal (record { hard = k.newer r; opening = []; closed = k.waits r })) has (λ files held.
      let hard = spelled_size held.bodies.hard (k.newer r) held.spelled.hard in
      let opening = spelled_size held.bodies.opening [] held.spelled.opening in
      let closed = spelled_size held.bodies.closed (k.waits r) held.spelled.closed in
      omega (arith, held.held.end, hard, opening, closed, bytes_are f image r here))

  -- the next part of a region will stand there
  next_among : (f : Files) → Image v f → (parts : PartRecords) (part : ℕ → Option Part) (n r : ℕ) (o : Option Part) → r < length (regions c.instance) → part_in parts r ≡ recorded o → ((x : Part) → o ≡ Some x → x.number ≡ n)
      → IsPartAt (InJournals (λ q. with_waiting q ++ placed (suc k.g) o)) r n (next_place parts s.journals.journals.items r) o
  next_among f image parts part n r None here is numbered = ap (λ (p : Option JournalRecord). (place_behind p (slice_get s.journals.journals.items r)).generation) is
  next_among f image parts part n r (Some x) here is numbered =
      let js = s.journals.journals.items in
      let size = newest.count v c h s k ready own in
      let y = found js r (omega (arith, here, size)) in
      let place : next_place parts js r ≡ record { generation = y.0.journal.generation; offset = y.0.journal.gated.end } = ap (λ (p : Option JournalRecord). place_behind p (slice_get js r)) is ∙ ap (place_behind (Some (Tcom x))) y.1 in
      let drawn : y.0.journal.generation ≡ suc k.g = ((newest.are_ready v c h s k ready own).each r y.0 y.1).of.generation in
      let end = end_is f image r y.0 y.1 here in
      let low = k.newest.not_last in
      subst (λ (p : PartPlace). IsPartAt (InJournals (λ q. with_waiting q ++ placed (suc k.g) (Some x))) r n p (Some x)) (sym place) (
        omega (arith, drawn),
        omega (arith, drawn, low),
        numbered x refl,
        record {
          place = length (with_waiting r);
          there = got_last (with_waiting r) (record { generation = suc k.g; what = Tcom x }) ∙ ap (λ (g : ℕ). Some (record { generation = g; what = Tcom x })) (sym drawn);
          offset_is = end ∙ ap (bytes_in (suc k.g)) (sym (take-append_seam (with_waiting r) (record { generation = suc k.g; what = Tcom x } ∷ [])))
              ∙ ap (λ (g : ℕ). bytes_in g (take (length (with_waiting r)) (with_waiting r ++ record { generation = suc k.g; what = Tcom x } ∷ []))) (sym drawn);
        },
      )
    where
      got_last : (xs : List Placed) (x : Placed) → slice_get (xs ++ x ∷ []) (length xs) ≡ Some x
      got_last [] x = refl
      got_last (y ∷ xs) x = got_last xs x

  -- with the places of one entry more, whose parts wait then
  pub index_entered : (f : Files) → Image v f → (new : EntryIndex) (parts : PartRecords) (part : ℕ → Option Part) (e : Entry) → AddsPlaces parts s.journals.journals.items s.entries new
      → ((r : ℕ) → r < MOST_REGIONS → part_in parts r ≡ recorded (part r)) → ((r : ℕ) → length (regions c.instance) ≤ r → part r ≡ None) → AreNumbered (suc (length c.sequence)) part
      → entry_with part (stamp_at (suc (length c.sequence)) (reigns c.instance)) ≡ Some e
      → IsIndexOf (λ r. k.records.journal r ++ map (in_generation (suc k.g)) (k.waits r ++ listed (recorded (part r)))) (reigns c.instance) new (c.sequence ++ e ∷ [])
  index_entered f image new parts part e adds each no_other numbered entry =
      let journal : (ℕ → List Placed) = λ r. k.records.journal r ++ map (in_generation (suc k.g)) (k.waits r ++ listed (recorded (part r))) in
      let more : (r : ℕ) → journal r ≡ with_waiting r ++ placed (suc k.g) (part r) =
      λ r. more_behind (suc k.g) (k.records.journal r) (k.waits r) (listed (recorded (part r))) ∙ ap (λ (l : List Placed). with_waiting r ++ l) (placed_listed (suc k.g) (part r)) in
      let many : s.entries.regions ≡ length (regions c.instance) = ready.each_place ∙ ap (λ (l : List InstanceRecord). length (regions l)) own in
      let few = newest.few v c h s k ready own in
      row_more (InJournals journal) (reigns c.instance) s.entries new c.sequence adds.row part e adds.regions adds.places adds.count
      (record {
        each = λ r low.
            let here : r < length (regions c.instance) = omega (arith, low, adds.count, many) in
            let is : part_in parts r ≡ recorded (part r) = each r (omega (arith, here, few)) in
            subst (λ (p : PartPlace). IsPartAt (InJournals journal) r (suc (length c.sequence)) p (part r)) (sym (adds.each r (omega (arith, low, adds.count))))
            (part_moved (λ q. with_waiting q ++ placed (suc k.g) (part r)) journal r (suc (length c.sequence)) (next_place parts s.journals.journals.items r) (part r) (sym (more r))
            (next_among f image parts part (suc (length c.sequence)) r (part r) here is (λ x at. numbered r x at)));
        no_more = λ r past. no_other r (omega (arith, past, adds.count, many));
      }) entry
      (index_behind with_waiting journal (reigns c.instance) s.entries c.sequence (λ r low. (placed (suc k.g) (part r), more r)) k.indexed)

  -- what its newest journals have stands in their files
  laid : (files : Files) → v.content ≡ Some files → (r : ℕ) → r < length (regions c.instance) → AreLaid (files (journal_file (suc k.g) r)) (k.newer r ++ k.waits r)
  laid files told r here =
      let size = newest.count v c h s k ready own in
      let y = found s.journals.journals.items r (omega (arith, here, size)) in
      let held = subst (λ (o : Option Files). IsSomeAnd o (journals.HoldsRecords v y.0.journal (record { hard = k.newer r; opening = []; closed = k.waits r }))) told (k.journal_files.has r y.0 y.1) in
      let file = ((newest.are_ready v c h s k ready own).each r y.0 y.1).of.file in
      let none = none_opening held.bodies.opening held.spelled.opening in
      let text : files (journal_file (suc k.g) r) ≡ spelled 1 held.bodies.hard ++ shut held.held.gate held.bodies.closed held.held.tail =
      ap files (sym file) ∙ held.held.text ∙ ap (λ (l : List Body). spelled 1 held.bodies.hard ++ (spelled_with (ones l) l ++ shut held.held.gate held.bodies.closed held.held.tail)) none in
      subst (λ (l : List ℕ). AreLaid l (k.newer r ++ k.waits r)) (sym text)
      (laid_open held.bodies.hard (k.newer r) (k.waits r) (shut held.held.gate held.bodies.closed held.held.tail) held.held.hard held.spelled.hard
      (laid_shut held.held.gate held.bodies.closed (k.waits r) held.held.tail held.held.closed held.spelled.closed))
    where
      none_opening : (bodies : List Body) → AllZip IsJournalBody bodies [] → bodies ≡ []
      none_opening [] all = refl
      none_opening (b ∷ bodies) all = absurd all

  stands : (files : Files) → Image v files → v.content ≡ Some files → (r g o : ℕ) (x : JournalRecord) → r < length (regions c.instance) → IsAmong (with_waiting r) g o x → StandsAt (files (journal_file g r)) o x
  stands files image told r g o x here among =
      let newer = k.newer r ++ k.waits r in
      let parts : with_waiting r ≡ k.older r ++ map (in_generation (suc k.g)) newer = whole_more (suc k.g) (k.records.journal r) (k.older r) (k.newer r) (k.waits r) (k.newest.whole r here) in
      let old : bytes_in (suc k.g) (k.older r) ≡ 0 = older_bytes files r k.g (k.last r) (suc k.g) (k.older r) (k.older_files files image r here) (omega arith) in
      elim (older_or_newer (k.older r) (suc k.g) newer g o x old (subst (λ (l : List Placed). IsAmong l g o x) parts among)) [
        | Older a ↦ (k.older_stand files image r here g o x a).2
        | Newer n at drawn offset ↦
            subst (λ (m : ℕ). StandsAt (files (journal_file m r)) o x) (sym drawn)
            (subst (λ (m : ℕ). StandsAt (files (journal_file (suc k.g) r)) m x) (sym offset) (laid_stands (files (journal_file (suc k.g) r)) newer n x (laid files told r here) at))
      ]

  -- the parts of its entries stand in the files as they read
  pub index_files : IsLawful v → IfSome v.content (λ files. Indexes (InFiles files) (reigns c.instance) s.entries c.sequence)
  index_files lawful = by_content v.content refl
    where
      by_content : (o : Option Files) → v.content ≡ o → IfSome o (λ files. Indexes (InFiles files) (reigns c.instance) s.entries c.sequence)
      by_content None told = tt
      by_content (Some files) told =
          let image : Image v files = subst (λ (o : Option Files). IfSome o (λ (f : Files). Image v f)) told lawful.as_read in
          let many : s.entries.regions ≡ length (regions c.instance) = ready.each_place ∙ ap (λ (l : List InstanceRecord). length (regions l)) own in
          index_stands with_waiting files (reigns c.instance) s.entries c.sequence (λ r g o x low among. stands files image told r g o x (omega (arith, low, many)) among) k.indexed
