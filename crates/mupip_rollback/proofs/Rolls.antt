-- A site is rolled back that was prepared for it.
use Rattle.std.proofs.Common.{◌≡◌, inl, inr, ℕ, suc, ◌+◌, ◌≤◌, ◌<◌, ◌^◌, false, List, [], length, take, Option, Some, None, IfSome, true, refl, sym, ◌∙◌, ap, subst, arith}
use Rattle.std.proofs.lemmas.List.{length-take-le}
use Rattle.global_defs.specs.declared.limits.TheConstants.{NUMBERS_END}
use Rattle.disk_defs.specs.Disk.{Files, View, Image, IsLawful, From, ReadsAfter, AtEachMoment}
use Rattle.disk_defs.specs.Frames.{SameOutside, OthersStay}
use Rattle.disk_defs.specs.Gates.{records}
use Rattle.disk_defs.proofs.Told.{weaker_told, both_weak, reads_after}
use Rattle.disk_defs.proofs.Moments.{weaker, then_more}
use Rattle.entry_index.specs.Found.{IsWhole, entry_count}
use Rattle.global_defs.specs.Entry.{Sequence, state}
use Rattle.global_defs.specs.Extract.{extract}
use Rattle.global_defs.specs.Region.{Region}
use Rattle.entry_index.specs.Order.{StandUpTo}
use Rattle.journal_defs.specs.Fit.{IsSoundImage}
use Rattle.journal_defs.specs.Growth.{with_record}
use Rattle.journal_defs.specs.Instance.{InstanceRecord, generation, regions, site_name}
use Rattle.journal_defs.specs.Numbers.{journal_file, database_file}
use Rattle.journal_defs.specs.Sequence.{Placed, Records}
use Rattle.journal_defs.specs.Surviving.{reigns}
use Rattle.journal_laws.proofs.EveryTarget.{patterns_same}
use Rattle.journal_laws.proofs.Targets.{cut_keeps}
use Rattle.site_defs.specs.Behind.{IsSiteWith}
use Rattle.site_defs.specs.Contents.{Contents, Standing, bare}
use Rattle.site_defs.specs.Epochs.{marked, MayMarkLeft}
use Rattle.site_defs.specs.Opening.{cut_with, with_starts}
use Rattle.site_defs.specs.Rolling.{lost_text, cut_to, rolled, rolled_open}
use Rattle.site_defs.specs.Stands.{IsSite}
use Rattle.site_files.specs.Loading.{MayBeOpened, AreRead, WasRead, MayDraw, AreUnbegun, last_of, next_cut}
use Rattle.site_files.proofs.Ahead as ahead
use Rattle.site_files.proofs.Kept.{image_read}
use Rattle.region_store.specs.Joined.{joined}
use Rattle.site_store.specs.Needing.{NoneNeeds}
use Rattle.site_store.specs.declared.preparing.FoundFiles.{FoundFiles}
use Rattle.site_store.specs.declared.memory.Memory.{Memory}
use Rattle.site_store.specs.Opening.{AreDatabasesDurable}
use Rattle.site_store.specs.Site.{AreHeld, AreOnBlocks, AreSynced, StandOn, IsOpen}
use Rattle.site_store.specs.Standing.{IfFound, found_records}
use Rattle.site_store.proofs.Drawn.{C}
use Rattle.site_store.proofs.Founded.{Given, found_count}
use Rattle.site_store.proofs.HeldRegions.{held_stays}
use Rattle.site_store.proofs.Indexing.{index_cut, stand_images, stand_same}
use Rattle.site_store.proofs.OnBlocks.{on_same, on_chosen}
use Rattle.site_store.proofs.Rolled.{standing_either_cut}
use Rattle.site_store.proofs.TheFiles.{told_then, as_told, at_files}
use Rattle.mupip_rollback.specs.Cutting.{IsShort, MaySetAside, HasSetAside, AreSetAside, IsCutOff}
use Rattle.mupip_rollback.specs.Preparing.{IsPrepared, cut_records}
use Rattle.mupip_rollback.specs.Rolling.{StandsFor, MayStandRolled}
use Rattle.mupip_rollback.specs.declared.preparing.Prepared.{Prepared}
use Rattle.mupip_rollback.proofs.Closed.{stands_for}
use Rattle.mupip_rollback.proofs.Cuts as cuts
use Rattle.mupip_rollback.proofs.Firsts.{first_index, first_whole}
use Rattle.mupip_rollback.proofs.Prepared.{IsLost}
use Rattle.mupip_rollback.proofs.Sites.{standing_of}

module _ (v : View) (p : Prepared) (P : IsPrepared v p) where
  abbrev f : FoundFiles
  f = P.found

  abbrev pub rs : List InstanceRecord
  rs = f.read.log.records

  abbrev last : ℕ → ℕ
  last = last_of f.read.last_began.items

  abbrev many : ℕ
  many = length (regions rs)

  -- how many entries it has, and how many stay
  abbrev pub n : ℕ
  n = entry_count f.entries

  abbrev pub t : ℕ
  t = entry_count p.kept.entries

  few : n < NUMBERS_END
  few = P.has.few

  abbrev qs : List InstanceRecord
  qs = cut_records rs n

  form_on : MayBeOpened qs last
  form_on = ahead.still_opened rs n last P.has.form P.has.low few

  -- what was read of it
  pub read_at : IfSome v.content (λ files. (ended : ℕ → ℕ) × (journal : ℕ → List Placed) × WasRead v p.log.records ended journal files)
  read_at = subst (λ l. IfSome v.content (λ files. (ended : ℕ → ℕ) × (journal : ℕ → List Placed) × WasRead v l.records ended journal files)) (sym P.log)
      (weaker_told v.content (Given v f) (λ files. (ended : ℕ → ℕ) × (journal : ℕ → List Placed) × WasRead v rs ended journal files) P.was.told (λ files x. (last, x.0, x.2.read)))

  -- the rows of what stays
  pub whole_at : IsWhole p.kept.entries
  whole_at = let wide = P.has.each_place in let some = P.has.form.some_region in first_whole t f.entries p.kept.entries P.entries (omega (arith, wide, some)) P.has.whole P.most

  -- the records behind the first CUT
  pub own : (is : List InstanceRecord) → is ≡ cut_records p.log.records p.length → is ≡ qs
  own is same = same ∙ ap (λ l. cut_records l.records p.length) P.log ∙ ap (cut_records rs) P.counted

  module _ (is : List InstanceRecord) (same : is ≡ cut_records p.log.records p.length) where
    pub form_at : MayBeOpened is (last_of p.kept.last_began.items)
    form_at = subst (λ (l : List InstanceRecord). MayBeOpened l (last_of p.kept.last_began.items)) (sym (own is same)) (subst (λ l. MayBeOpened qs (last_of l.items)) (sym P.last_began) form_on)

    as_many : regions is ≡ regions rs
    as_many = ap regions (own is same) ∙ ahead.regions_kept rs n last P.has.form

    pub places_at : p.kept.entries.regions ≡ length (regions is)
    places_at = P.entries.regions ∙ P.has.each_place ∙ ap length (sym as_many)

    next : generation is ≡ suc (generation rs)
    next = ap generation (own is same) ∙ ahead.newest rs n last P.has.form

    module _ (x : View) (stays : OthersStay (AreSetAside rs) v x) where
      no_database : (r : ℕ) → r < many → AreSetAside rs (database_file r) → ⊥
      no_database r here (inl e) = omega (arith, e)
      no_database r here (inr (inl e)) = let low = P.has.form.few_regions in omega (arith, e, here, low)
      no_database r here (inr (inr e)) = let low = P.has.form.few_regions in omega (arith, e, here, low)

      no_journal : (r : ℕ) → r < many → AreSetAside rs (journal_file (suc (suc (generation rs))) r) → ⊥
      no_journal r here (inl e) = omega (arith, e)
      no_journal r here (inr (inl e)) = let fewer = P.has.form.few_regions in let low = P.has.low in omega (arith, e, here, fewer, low)
      no_journal r here (inr (inr e)) = let fewer = P.has.form.few_regions in let low = P.has.low in omega (arith, e, here, fewer, low)

      no_older : (r : ℕ) → r < many → (h : ℕ) → h ≤ generation rs → AreSetAside rs (journal_file h r) → ⊥
      no_older r here h low (inl e) = omega (arith, e)
      no_older r here h low (inr (inl e)) = let fewer = P.has.form.few_regions in let room = P.has.low in omega (arith, e, here, fewer, low, room)
      no_older r here h low (inr (inr e)) = let fewer = P.has.form.few_regions in let room = P.has.low in omega (arith, e, here, fewer, low, room)

      pub regions_at : AreHeld x (length (regions is)) p.kept.globals
      regions_at = subst (λ (l : List Region). AreHeld x (length l) p.kept.globals) (sym as_many) (held_stays v x (AreSetAside rs) many p.kept.globals stays no_database P.regions_open.regions)

      pub unbegun_at : IfSome x.content (λ _. (d : Files) → Image x d → AreUnbegun (suc (generation is)) (length (regions is)) d)
      unbegun_at =
          let Ahead = λ (m n : ℕ) (_ : Files). (d : Files) → Image x d → AreUnbegun m n d in
          subst (λ (l : List Region). IfSome x.content (Ahead (suc (generation is)) (length l))) (sym as_many)
          (subst (λ (h : ℕ). IfSome x.content (Ahead (suc h) many)) (sym next)
          (reads_after v.content x.content (SameOutside (AreSetAside rs)) (λ _. (d : Files) → Image v d → AreUnbegun (suc (suc (generation rs))) many d) (Ahead (suc (suc (generation rs))) many) stays.content P.ahead
          (λ a b none step d image r here. let from = stays.images d image in ap records (from.2 (journal_file (suc (suc (generation rs))) r) (no_journal r here)) ∙ none from.0 from.1 r here)))

      -- what is known of the first CUT
      module _ (lawful_v : IsLawful v) where
        abbrev pub IsAll : Contents → Type 0
        IsAll c = (d : Files) → Image v d → IsSite d c

        abbrev pub Aside : ℕ → Files → Type 0
        Aside k files = IsShort rs f.broken files → AtEachMoment v x (From (Image v) (MaySetAside rs k f.broken p.lost))

        abbrev pub Done : ℕ → Files → Type 0
        Done k files = IsShort rs f.broken files → (d : Files) → Image x d → From (Image v) (HasSetAside rs k f.broken p.lost) d

        abbrev pub Rolling : View → Contents → Type 0
        Rolling w c = AtEachMoment v w (MayStandRolled t (record { contents = c; broken = f.broken }))

        -- as the call has it
        abbrev pub AsideOf : List InstanceRecord → ℕ → (b l : List ℕ) → Type 0
        AsideOf ls k b l = IfSome v.content (λ files. IsShort ls b files → AtEachMoment v x (From (Image v) (MaySetAside ls k b l)))

        abbrev pub DoneOf : List InstanceRecord → ℕ → (b l : List ℕ) → Type 0
        DoneOf ls k b l = IfSome v.content (λ files. IsShort ls b files → (d : Files) → Image x d → From (Image v) (HasSetAside ls k b l) d)

        so : (F : List InstanceRecord → ℕ → (b l : List ℕ) → Type 0) (b l : List ℕ) → b ≡ p.broken → l ≡ p.lost → F p.log.records p.length b l → F rs n f.broken p.lost
        so F b l b_is l_is h =
            subst (λ (d : List ℕ). F rs n f.broken d) l_is (subst (λ (d : List ℕ). F rs n d l) (b_is ∙ P.broken)
            (subst (λ (k : ℕ). F rs k b l) P.counted (subst (λ k. F k.records p.length b l) P.log h)))

        pub aside_so : (b l : List ℕ) → b ≡ p.broken → l ≡ p.lost → AsideOf p.log.records p.length b l → IfSome v.content (Aside n)
        aside_so b l b_is l_is h = so AsideOf b l b_is l_is h

        pub done_so : (b l : List ℕ) → b ≡ p.broken → l ≡ p.lost → DoneOf p.log.records p.length b l → IfSome v.content (Done n)
        done_so b l b_is l_is h = so DoneOf b l b_is l_is h

        abbrev pub RollingOf : View → List ℕ → Type 0
        RollingOf w b = IfSome v.content (λ _. (c : Contents) → IsAll c → AtEachMoment v w (MayStandRolled t (record { contents = c; broken = b })))

        pub back : (w : View) → RollingOf w f.broken → RollingOf w p.broken
        back w h = subst (λ (b : List ℕ). RollingOf w b) (sym P.broken) h

        abbrev pub ClosedOf : View → List ℕ → Type 0
        ClosedOf z b = IfSome v.content (λ _. (c : Contents) → IsAll c → StandsFor z (rolled t b c))

        pub closed_back : (z : View) → ClosedOf z f.broken → ClosedOf z p.broken
        closed_back z h = subst (λ (b : List ℕ). ClosedOf z b) (sym P.broken) h

        abbrev pub first_cut : Contents → Contents
        first_cut c = cut_with f.broken (lost_text t c) c

        -- the files behind the first CUT, where the disk told them
        told_back : (A : Files → Type 0) → IfSome x.content A → IfSome v.content (λ _. (e : Files) × A e)
        told_back A told = among v.content x.content stays.content told
          where
            among : (o k : Option Files) → ReadsAfter (SameOutside (AreSetAside rs)) o k → IfSome k A → IfSome o (λ _. (e : Files) × A e)
            among None k stay h = tt
            among (Some b) None stay h = absurd stay
            among (Some b) (Some d) stay h = (d, h)

        -- the records that these files hold, and the sequence for which they stand
        module _ (files : Files) (told : v.content ≡ Some files) (g : Given v f files) where
          abbrev journal : ℕ → List Placed
          journal = g.0

          abbrev seq : Sequence
          seq = g.1

          abbrev S0 : Records
          S0 = found_records f journal

          size : n ≡ length seq
          size = found_count v f journal seq files P.has g.2

          most : t ≤ length seq
          most = let low = P.most in let same = size in omega (arith, low, same)

          few_so : length seq < NUMBERS_END
          few_so = let low = few in let same = size in omega (arith, low, same)

          here : Image v files
          here = at_files v.content files (λ a. v.since v.moment a) told lawful_v.as_read

          none_ahead : (d : Files) → Image v d → AreUnbegun (suc (suc (generation rs))) many d
          none_ahead = at_files v.content files (λ _. (d : Files) → Image v d → AreUnbegun (suc (suc (generation rs))) many d) told P.ahead

          lost_is : p.lost ≡ extract (site_name rs) seq (t + 1)
          lost_is = at_files v.content files (IsLost p.lost t f) told P.lost S0 seq g.2.found

          read : (a : Files) → Image v a → AreRead rs last journal a
          read a image = image_read v rs last journal files g.2.read a image

          sound : (a : Files) → AreRead rs last journal a → (c : Contents) → IsSite a c → IsSoundImage a S0 seq
          sound a rd c is = cuts.sound rs last journal seq P.has.form g.2.found.sequence P.has.low f.broken p.lost g.2.broken_is a rd c is

          short : (c : Contents) → IsSite files c → IsShort rs f.broken files
          short c is =
              let clean = (sound files g.2.read.holds c is).clean in
              let low = P.has.low in
              let length_is = ap length g.2.broken_is in
              let fewer = clean.first_broken (suc (generation rs)) (omega arith, omega (arith, low)) (omega arith) in
              record { broken_is = omega (arith, fewer, length_is); lost_is = clean.lost (suc (generation rs)) (omega arith, omega (arith, low)) }

          aside_here : IfSome v.content (Aside n) → Aside (length seq) files
          aside_here run = subst (λ (k : ℕ). Aside k files) size (at_files v.content files (Aside n) told run)

          done_here : IfSome v.content (Done n) → Done (length seq) files
          done_here done = subst (λ (k : ℕ). Done k files) size (at_files v.content files (Done n) told done)

          aside_in : IfSome v.content (Aside n) → (c : Contents) → IsAll c → Rolling x c
          aside_in run c all =
              weaker v x (From (Image v) (MaySetAside rs (length seq) f.broken p.lost)) (MayStandRolled t (record { contents = c; broken = f.broken }))
              (λ d q. cuts.may_stand rs last journal seq P.has.form g.2.found.sequence P.has.low f.broken p.lost g.2.broken_is q.0 (read q.0 q.1) c (all q.0 q.1) t lost_is d q.2)
              (aside_here run (short c (all files here)))

          abbrev ps : List InstanceRecord
          ps = cut_records rs (length seq)

          abbrev After : Contents → Type 0
          After c = (d : Files) → Image x d → IsSiteWith d (bare (first_cut c)) × AreRead ps last journal d

          after : IfSome v.content (Done n) → (c : Contents) → IsAll c → After c
          after done c all d image =
              let q = done_here done (short c (all files here)) d image in
              let a = q.0 in (
                cuts.stands rs last journal seq P.has.form g.2.found.sequence P.has.low f.broken p.lost g.2.broken_is a (read a q.1) c (all a q.1) t lost_is d q.2,
                cuts.read_on rs last journal seq P.has.form g.2.found.sequence P.has.low f.broken p.lost g.2.broken_is a (read a q.1) c (all a q.1) q.2.0 q.2.1 d (λ o out. q.2.2.others o out) (none_ahead a q.1) few_so,
              )

          -- the database files and the journals that were drawn before are as they were
          as_before : (d : Files) → Image x d → (r : ℕ) → r < many → d (database_file r) ≡ files (database_file r)
          as_before d image r low =
              let from = stays.images d image in
              from.2 (database_file r) (no_database r low) ∙ at_files v.content files (AreDatabasesDurable v many) told P.was.databases r low from.0 from.1

          stand_on : (d : Files) → Image x d → (r : ℕ) → r < many → StandUpTo d r (generation rs) (journal r)
          stand_on d image r low =
              let from = stays.images d image in
              stand_same from.0 d r (generation rs) (journal r) (λ h le. from.2 (journal_file h r) (no_older r low h le))
              (stand_images v files r (generation rs) (journal r) (g.2.read.journals r low) (g.2.stand r low) from.0 from.1)

          kept_many : regions ps ≡ regions rs
          kept_many = ahead.regions_kept rs (length seq) last P.has.form

          newest : generation ps ≡ suc (generation rs)
          newest = ahead.newest rs (length seq) last P.has.form

          stand_so : (d : Files) → Image x d → (r : ℕ) → r < length (regions ps) → StandUpTo d r (generation ps) (journal r)
          stand_so d image r low h o y among =
              let same : length (regions ps) ≡ many = ap length kept_many in
              let at = stand_on d image r (omega (arith, low, same)) h o y among in
              let next = newest in
              (at.0, omega (arith, at.1, next), at.2)

          blocks : AreOnBlocks files S0 t p.kept.globals
          blocks = at_files v.content files (IfFound f (λ u es a. StandOn false a u t p.kept.globals)) told P.regions_open.blocks S0 seq g.2.found

          nodes : IsSoundImage files S0 seq → joined p.kept.globals ≡ state (take t seq)
          nodes = at_files v.content files (IfFound f (λ u es a. IsSoundImage a u es → joined p.kept.globals ≡ state (take t es))) told P.regions_open.nodes S0 seq g.2.found

          cut_so : IfSome v.content (Done n) → (c : Contents) → IsAll c → (e : Files) → Image x e → IsCutOff x ps (first_cut c) p.kept
          cut_so done c all e there =
              let q = done_here done (short c (all files here)) e there in
              let a = q.0 in
              let was = after done c all in
              let cut : Records = with_record S0 (next_cut rs (length seq)) in
              record {
                journal = journal;
                seq = seq;
                sequence = (cuts.image rs last journal seq P.has.form g.2.found.sequence P.has.low f.broken p.lost g.2.broken_is a (read a q.1) c (all a q.1) q.2.0 q.2.1).sequence;
                none = cuts.none_broken rs last journal seq P.has.form g.2.found.sequence P.has.low f.broken p.lost g.2.broken_is a (read a q.1) c (all a q.1);
                most = most;
                reads = λ d image. subst (λ l. AreRead ps (last_of l.items) journal d) (sym P.last_began) (was d image).1;
                stands = λ d image. (was d image).0.site;
                indexed = index_cut journal rs (length seq) (generation rs + 1) p.kept.entries (take t seq) (let long = length-take-le t seq most in let low = most in omega (arith, long, low))
                    (first_index t f.entries p.kept.entries P.entries journal (reigns rs) seq g.2.indexed);
                stand = stand_so;
                synced = subst (λ (l : List Region). AreSynced x (length l)) (sym kept_many) (λ d b i j r low. as_before b j r low ∙ sym (as_before d i r low));
                on = λ d image. on_chosen d S0 cut t t p.kept.globals (ap length kept_many) (patterns_same rs (next_cut rs (length seq)) refl)
                    (λ r low. (refl, cut_keeps rs t (length seq) (generation rs + 1) (journal r) most))
                    (on_same files d S0 t p.kept.globals (as_before d image) blocks);
                globals = nodes (sound files g.2.read.holds c (all files here));
              }

          cut_at : IfSome v.content (Done n) → (c : Contents) → IsAll c → (e : Files) → Image x e → IsCutOff x is (first_cut c) p.kept
          cut_at done c all e there = subst (λ (l : List InstanceRecord). IsCutOff x l (first_cut c) p.kept) (sym (own is same ∙ ap (cut_records rs) size)) (cut_so done c all e there)

        pub aside_moments : IfSome v.content (Aside n) → IfSome v.content (λ _. (c : Contents) → IsAll c → Rolling x c)
        aside_moments run = told_then v.content (Given v f) (λ _. (c : Contents) → IsAll c → Rolling x c) P.was.told
            (λ files told g. as_told v.content files (λ _. (c : Contents) → IsAll c → Rolling x c) told (aside_in files told g run))

        module _ (w : View) where
          abbrev pub Drawing : Type 0
          Drawing = AtEachMoment x w (From (Image x) (MayDraw is t [] (last_of p.kept.last_began.items)))

          drawn_in : (files : Files) (told : v.content ≡ Some files) (g : Given v f files) → IfSome v.content (Aside n) → IfSome v.content (Done n) → Drawing → (c : Contents) → IsAll c → Rolling w c
          drawn_in files told g first done run c all =
              then_more v x w (MayStandRolled t (record { contents = c; broken = f.broken })) (From (Image x) (MayDraw is t [] (last_of p.kept.last_began.items))) (aside_in files told g first c all) run
              (λ b q.
              let cut = cut_at files told g done c all q.0 q.1 in
              let was = standing_of q.0 (bare (first_cut c)) (after files told g done c all q.0 q.1).0 in
              elim (standing_either_cut is (last_of p.kept.last_began.items) cut.journal cut.seq form_at cut.sequence cut.none t cut.most q.0 (cut.reads q.0 q.1) (bare (first_cut c)) was b q.2) [
                | inl still ↦ (bare (first_cut c), inr (inl (lost_text t c, omega arith, refl)), still)
                | inr drawn ↦ (bare (with_starts drawn.0 (cut_to t (first_cut c))), inr (inr (inl (drawn.0, refl))), drawn.1)
              ])

          pub drawn_moments : IfSome v.content (Aside n) → IfSome v.content (Done n) → IfSome x.content (λ _. Drawing) → IfSome v.content (λ _. (c : Contents) → IsAll c → Rolling w c)
          drawn_moments first done run = told_then v.content (Given v f) (λ _. (c : Contents) → IsAll c → Rolling w c) P.was.told (λ files told g.
              let drawn = at_files v.content files (λ _. (e : Files) × Drawing) told (told_back (λ _. Drawing) run) in
              as_told v.content files (λ _. (c : Contents) → IsAll c → Rolling w c) told (drawn_in files told g first done drawn.1))

          module _ (s : Memory) (lawful_x : IsLawful x) where
            abbrev pub Opens : Type 0
            Opens = (c : Contents) → IsCutOff x is c p.kept → IsOpen w true (with_starts (length (regions is)) (cut_to t c)) t s

            abbrev pub Opened : Contents → Type 0
            Opened c = IsOpen w true (rolled_open t f.broken c) (length (rolled_open t f.broken c).sequence) s

            -- it is open
            opened : (files : Files) (told : v.content ≡ Some files) (g : Given v f files) → IfSome v.content (Done n) → (e : Files) → Image x e → Opens → (c : Contents) → IsAll c → Opened c
            opened files told g done e there opens c all =
                let mine : c ≡ C rs last g.0 g.1 P.has.form g.2.found.sequence files = cuts.own rs last g.0 g.1 P.has.form g.2.found.sequence P.has.low f.broken p.lost g.2.broken_is files g.2.read.holds c (all files (here files told g)) in
                let as_many_here : length (regions is) ≡ length (regions c.instance) = ap length as_many ∙ ap (λ (y : Contents). length (regions y.instance)) (sym mine) in
                let low : t ≤ length c.sequence = (let e : length c.sequence ≡ length g.1 = ap (λ (y : Contents). length y.sequence) mine in let m = most files told g in omega (arith, e, m)) in
                subst (λ (h : ℕ). IsOpen w true (rolled_open t f.broken c) h s) (sym (length-take-le t c.sequence low))
                (subst (λ (h : ℕ). IsOpen w true (with_starts h (cut_to t (first_cut c))) t s) as_many_here (opens (first_cut c) (cut_at files told g done c all e there)))

            pub opens_now : IfSome v.content (Done n) → IfSome x.content (λ _. Opens) → IfSome v.content (λ _. (c : Contents) → IsAll c → Opened c)
            opens_now done opens = told_then v.content (Given v f) (λ _. (c : Contents) → IsAll c → Opened c) P.was.told (λ files told g.
                let d = at_files v.content files (λ _. (e : Files) × (Image x e × Opens)) told
                (told_back (λ e. Image x e × Opens) (both_weak x.content (λ e. x.since x.moment e) (λ _. Opens) (λ e. Image x e × Opens) lawful_x.as_read opens (λ e a b. (a, b)))) in
                as_told v.content files (λ _. (c : Contents) → IsAll c → Opened c) told (opened files told g done d.0 d.1.0 d.1.1))

            module _ (z : View) (open_now : IfSome v.content (λ _. (c : Contents) → IsAll c → Opened c)) where
              pub closing : IfSome v.content (λ _. (c : Contents) → IsAll c → Rolling w c)
                  → ((c : Contents) → IsOpen w true c (length c.sequence) s → AtEachMoment w z (λ b. (o : Standing) × MayMarkLeft (bare c) o × IsSiteWith b o)) → IfSome v.content (λ _. (c : Contents) → IsAll c → Rolling z c)
              closing first epoch = both_weak v.content (λ _. (c : Contents) → IsAll c → Rolling w c) (λ _. (c : Contents) → IsAll c → Opened c)
                  (λ _. (c : Contents) → IsAll c → Rolling z c) first open_now
                  (λ files run is_open c all.
                  then_more v w z (MayStandRolled t (record { contents = c; broken = f.broken })) (λ b. (o : Standing) × MayMarkLeft (bare (rolled_open t f.broken c)) o × IsSiteWith b o) (run c all) (epoch (rolled_open t f.broken c) (is_open c all))
                  (λ b q. elim q.1 [
                    | inl e ↦ (q.0, inr (inr (inl (length (regions c.instance), e))), standing_of b q.0 q.2)
                    | inr some ↦ (q.0, inr (inr (inr (some.0, some.1))), standing_of b q.0 q.2)
                  ]))

              pub closed : (after_it : Memory) → IsLawful z → ((c : Contents) → IsOpen w true c (length c.sequence) s → IsOpen z true (marked c) (length c.sequence) after_it)
                  → ((c : Contents) → IsOpen w true c (length c.sequence) s → (b : Files) → Image z b → NoneNeeds (length c.sequence) b)
                  → IfSome v.content (λ _. (c : Contents) → IsAll c → StandsFor z (rolled t f.broken c))
              closed after_it lawful_z done none = weaker_told v.content (λ _. (c : Contents) → IsAll c → Opened c)
                  (λ _. (c : Contents) → IsAll c → StandsFor z (rolled t f.broken c)) open_now
                  (λ files is_open c all. stands_for z (rolled t f.broken c) after_it lawful_z (done (rolled_open t f.broken c) (is_open c all)) (none (rolled_open t f.broken c) (is_open c all)))
