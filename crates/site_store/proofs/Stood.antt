-- A site is drawn as it stood.
use Rattle.std.proofs.Common.{◌≡◌, ℕ, suc, ◌≤◌, ◌<◌, Bool, true, false, List, [], ◌∷◌, ◌++◌, length, map, Option, Some, None, IfSome, sym, ◌∙◌, ap, subst}
use Rattle.std.specs.Prelude.{slice_get}
use Rattle.global_defs.specs.declared.limits.TheConstants.{NUMBERS_END}
use Rattle.disk_defs.specs.Disk.{Files, View, Image, IsLawful, From, AtEachMoment}
use Rattle.disk_defs.specs.Frames.{OthersStay}
use Rattle.global_defs.specs.Entry.{Sequence, state}
use Rattle.site_store.proofs.HeldRegions.{held_drawn}
use Rattle.instance_file.specs.Instance as instances
use Rattle.jnl_file.specs.Journal as journals
use Rattle.jnl_file.specs.Records.{settled}
use Rattle.jnl_file.specs.declared.journal.Journal.{Journal}
use Rattle.journal_defs.specs.Instance.{InstanceRecord, generation, regions}
use Rattle.journal_defs.specs.Numbers.{INSTANCE}
use Rattle.journal_defs.specs.Sequence.{Records, IsSequence, Placed}
use Rattle.journal_defs.specs.Stands.{AreRecords, IsInstance}
use Rattle.journal_defs.specs.Fit.{IsSoundImage}
use Rattle.site_files.specs.Loading.{AreNext, WasRead, MayDrawAs, HasDrawnAs, last_of, next_cut, next_broken, next_pini_as}
use Rattle.site_defs.specs.Contents.{Contents, Leftover}
use Rattle.site_defs.specs.Stands.{IsSite, HasLeft}
use Rattle.site_defs.specs.Forward.{opened_as}
use Rattle.site_store.specs.declared.preparing.StandingSite.{StandingSite}
use Rattle.site_store.specs.declared.memory.Memory.{Memory}
use Rattle.site_store.specs.Finding.{HasLayout}
use Rattle.region_store.specs.Joined.{joined}
use Rattle.site_store.specs.Opening.{EachStands, AreTextsDurable, AreDatabasesDurable}
use Rattle.site_store.specs.Needing.{NoneIsWithout}
use Rattle.site_store.specs.Site.{Remembers, AreHeld, IsReady, IsOpen, StandOn, WasOpened, WasOpenedFrom, count_of}
use Rattle.site_store.specs.Standing.{Stood, StandsIn, records_of}
use Rattle.site_store.proofs.TheFiles.{told_then, as_told}
use Rattle.site_store.proofs.Loaded as loaded
use Rattle.site_store.proofs.Loaded.{Moments, Lefts, StandsOpen}
use Rattle.site_store.proofs.OpenedTo.{newly}
use Rattle.entry_index.specs.Found.{entry_count, IsWhole}
use Rattle.entry_index.specs.Among.{IsIndexOf}
use Rattle.entry_index.specs.declared.index.EntryIndex.{EntryIndex}
use Rattle.entry_index.specs.Order.{StandUpTo}
use Rattle.journal_defs.specs.Surviving.{reigns}

all_three : (o : Option Files) (A B C : Files → Type 0) → IfSome o A → IfSome o B → IfSome o C → IfSome o (λ f. A f × B f × C f)
all_three None A B C a b c = tt
all_three (Some f) A B C a b c = (a, b, c)

all_six : (o : Option Files) (A B C D E G : Files → Type 0) → IfSome o A → IfSome o B → IfSome o C → IfSome o D → IfSome o E → IfSome o G → IfSome o (λ f. A f × B f × C f × D f × E f × G f)
all_six None A B C D E G a b c d e g = tt
all_six (Some f) A B C D E G a b c d e g = (a, b, c, d, e, g)

moved : (P : ℕ → List ℕ → List ℕ → Type 0) (n m : ℕ) (a b x y : List ℕ) → n ≡ m → a ≡ b → x ≡ y → P n a x → P m b y
moved P n m a b x y e f h p = subst (λ (l : List ℕ). P m b l) h (subst (λ (t : List ℕ). P m t x) f (subst (λ (k : ℕ). P k a x) e p))

-- what a drawing says of these arguments
abbrev pub IsShortOf : View → List InstanceRecord → List ℕ → (Files → Type 0) → Type 0
IsShortOf v rs broken P = IfSome v.content (λ files. length (files (next_broken rs)) ≤ length broken → P files)

module _ (anew : Bool) (u v w : View) (k : StandingSite) (st : Stood anew u v k) (lawful_v : IsLawful v) (lawful_w : IsLawful w) (synced : AtEachMoment u v (Image u)) (same : v.content ≡ u.content)
    (n : ℕ) (broken lasts : List ℕ) (n_is : n ≡ entry_count k.entries) (broken_is : broken ≡ k.broken) (lasts_is : lasts ≡ k.last_began.items) where
  abbrev rs : List InstanceRecord
  rs = k.log.records

  abbrev last : ℕ → ℕ
  last = last_of k.last_began.items

  -- the records that the files hold, and the sequence for which they stand
  abbrev Given : Files → Type 0
  Given files = (journal : ℕ → List Placed) × (seq : Sequence) × StandsIn anew v k journal seq files

  module _ (files : Files) (told : u.content ≡ Some files) (x : Given files) where
    abbrev journal : ℕ → List Placed
    journal = x.0

    abbrev seq : Sequence
    seq = x.1

    is : StandsIn anew v k journal seq files
    is = x.2

    size : n ≡ length seq
    size = n_is ∙ is.count

    read : IfSome u.content (WasRead v rs last journal)
    read = as_told u.content files (WasRead v rs last journal) told is.read

    abbrev Drawing : ℕ → List ℕ → List ℕ → Type 0
    Drawing m b l = IsShortOf v rs b (λ files. AtEachMoment v w (From (Image v) (MayDrawAs anew rs m b (last_of l))))

    drawing : Drawing n broken lasts → Drawing (length seq) k.broken k.last_began.items
    drawing run = moved Drawing n (length seq) broken k.broken lasts k.last_began.items size broken_is lasts_is run

    moments_in : Drawing n broken lasts → IfSome u.content (Moments anew u w)
    moments_in run = loaded.drawn_moments anew u v w rs last journal seq st.form is.sequence lawful_v lawful_w synced same read k.broken is.broken_is (drawing run)

    lefts_in : Drawing n broken lasts → IfSome u.content (Lefts anew u w)
    lefts_in run = loaded.drawn_left anew u v w rs last journal seq st.form is.sequence lawful_v lawful_w synced same read k.broken is.broken_is (drawing run)

    abbrev Reading : ℕ → List ℕ → List ℕ → Type 0
    Reading m b l = IsShortOf v rs b (λ files. IfSome w.content (MayDrawAs anew rs m b (last_of l) files))

    stands_in : Reading n broken lasts → IfSome u.content (StandsOpen anew w.content)
    stands_in reads = loaded.drawn_stands anew u v w rs last journal seq st.form is.sequence lawful_v lawful_w synced same read k.broken is.broken_is
        (moved Reading n (length seq) broken k.broken lasts k.last_began.items size broken_is lasts_is reads)

    room_in : IfSome u.content (λ files. (qs : List InstanceRecord) → IsInstance (files INSTANCE) qs → generation qs < 65534)
    room_in = loaded.room_left anew u v w rs last journal seq st.form is.sequence lawful_v lawful_w synced same read k.broken is.broken_is st.low

  pub moments : IsShortOf v rs broken (λ files. AtEachMoment v w (From (Image v) (MayDrawAs anew rs n broken (last_of lasts)))) → IfSome u.content (Moments anew u w)
  moments run = told_then u.content Given (Moments anew u w) st.told (λ files told x. moments_in files told x run)

  pub lefts : IsShortOf v rs broken (λ files. AtEachMoment v w (From (Image v) (MayDrawAs anew rs n broken (last_of lasts)))) → IfSome u.content (Lefts anew u w)
  lefts run = told_then u.content Given (Lefts anew u w) st.told (λ files told x. lefts_in files told x run)

  pub stands : IsShortOf v rs broken (λ files. IfSome w.content (MayDrawAs anew rs n broken (last_of lasts) files)) → IfSome u.content (StandsOpen anew w.content)
  stands reads = told_then u.content Given (StandsOpen anew w.content) st.told (λ files told x. stands_in files told x reads)

  pub room : IfSome u.content (λ files. (qs : List InstanceRecord) → IsInstance (files INSTANCE) qs → generation qs < 65534)
  room = told_then u.content Given (λ files. (qs : List InstanceRecord) → IsInstance (files INSTANCE) qs → generation qs < 65534) st.told (λ files told x. room_in files told x)

  module _ (s : Memory) (records : s.instance.records ≡ rs ++ next_cut rs n ∷ []) (entries : s.entries ≡ k.entries) (globals : s.globals ≡ k.globals) (hardened : s.hardened ≡ n) (stamp : s.stamp ≡ None) where
    counts : count_of s ≡ n
    counts = ap entry_count entries ∙ sym n_is

    few : count_of s < NUMBERS_END
    few = subst (λ (i : EntryIndex). entry_count i < NUMBERS_END) (sym entries) st.few

    pub opened_here : WasOpened s
    opened_here = loaded.was_opened rs last st.form s n records (sym counts) (hardened ∙ sym counts) few stamp

    pub read_some : (c : Contents) × (t : List ℕ) × Remembers (opened_as anew t c) (length c.sequence) s
    read_some = loaded.remembers_some anew rs n s records counts hardened st.some.0 (ap (λ j. joined j) globals ∙ st.some.1) (λ none. ap (λ j. joined j) globals ∙ st.none (sym n_is ∙ none))

    module _ (files : Files) (told : u.content ≡ Some files) (x : Given files) where
      own : s.instance.records ≡ rs ++ next_cut rs (length x.1) ∷ []
      own = subst (λ (m : ℕ). s.instance.records ≡ rs ++ next_cut rs m ∷ []) (size files told x) records

      counted : count_of s ≡ length x.1
      counted = counts ∙ size files told x

      settled_at : s.hardened ≡ length x.1
      settled_at = hardened ∙ size files told x

      indexed : IsIndexOf x.0 (reigns rs) s.entries x.1
      indexed = subst (λ (i : EntryIndex). IsIndexOf x.0 (reigns rs) i x.1) (sym entries) x.2.indexed

      found_in : IfSome u.content (λ files. (y : Records) (other : Sequence) → AreRecords files y → IsSequence y other → WasOpenedFrom y other s)
      found_in = loaded.opened_from u.content v rs last x.0 x.1 s (read files told x) x.2.sequence counted own indexed

      held_in : IfSome u.content (λ files. (y : Records) × (other : Sequence) × AreRecords files y × IsSequence y other × WasOpenedFrom y other s × (anew ≡ false → NoneIsWithout y (length other)))
      held_in = loaded.held_from (λ y other. anew ≡ false → NoneIsWithout y (length other)) u.content v rs last x.0 x.1 s (read files told x) x.2.sequence counted own indexed x.2.without

    pub found : IfSome u.content (λ files. (y : Records) (other : Sequence) → AreRecords files y → IsSequence y other → WasOpenedFrom y other s)
    found = told_then u.content Given (λ files. (y : Records) (other : Sequence) → AreRecords files y → IsSequence y other → WasOpenedFrom y other s) st.told (λ files told x. found_in files told x)

    pub held : IfSome u.content (λ files. (y : Records) × (other : Sequence) × AreRecords files y × IsSequence y other × WasOpenedFrom y other s × (anew ≡ false → NoneIsWithout y (length other)))
    held = told_then u.content Given (λ files. (y : Records) × (other : Sequence) × AreRecords files y × IsSequence y other × WasOpenedFrom y other s × (anew ≡ false → NoneIsWithout y (length other))) st.told
        (λ files told x. held_in files told x)

    module _ (begun : List Journal) (js_are : s.journals.journals.items ≡ map newly begun) where
      pub ready : length begun ≡ length (regions rs) → instances.IsReady w s.instance → s.layout ≡ k.layout
          → ((r : ℕ) (j : Journal) → slice_get begun r ≡ Some j → journals.IsReady w j × journals.IsJournalOf j r (suc (generation rs))) → OthersStay (AreNext rs) v w → IsReady w s
      ready number instance layout each stays = loaded.is_ready rs last st.form s n records w begun number js_are instance (subst (HasLayout (rs ++ next_cut rs n ∷ [])) (sym layout) (st.layout n)) each
          (subst (AreHeld w (length (regions rs))) (sym globals) (held_drawn v w rs k.globals st.form.few_regions stays st.regions)) few
          (subst IsWhole (sym entries) st.whole) (ap (λ (i : EntryIndex). i.regions) entries ∙ st.each_place)

      abbrev Finishing : ℕ → List ℕ → List ℕ → Type 0
      Finishing m b l = IsShortOf v rs b (λ files. (f : Files) → Image w f → From (Image v) (HasDrawnAs anew rs m b (last_of l) (length (regions rs))) f)

      abbrev Filed : ℕ → List ℕ → List ℕ → Type 0
      Filed m b l = IfSome v.content (λ _. instances.HasRecords w s.instance (rs ++ next_cut rs m ∷ []))

      abbrev Begins : ℕ → List ℕ → List ℕ → Type 0
      Begins m b l = IfSome v.content (λ _. (r : ℕ) (j : Journal) → slice_get begun r ≡ Some j → journals.HasRecords w j (settled (next_pini_as anew rs (last_of l) r ∷ [])))

      abbrev Opens : Files → Type 0
      Opens files = (c : Contents) (left : Leftover) → IsSite files c → HasLeft files c left → EachStands u → IsOpen w true (opened_as anew left.broken c) (length c.sequence) s

      told_in : Finishing n broken lasts → Filed n broken lasts → Begins n broken lasts → (files : Files) (told : u.content ≡ Some files) (x : Given files) → IfSome u.content Opens
      told_in finish filed begins files told x =
          let journal = x.0 in
          let seq = x.1 in
          let is = x.2 in
          let long = size files told x in
          let a = moved Finishing n (length seq) broken k.broken lasts k.last_began.items long broken_is lasts_is finish in
          let b = moved Filed n (length seq) broken k.broken lasts k.last_began.items long broken_is lasts_is filed in
          let d = moved Begins n (length seq) broken k.broken lasts k.last_began.items long broken_is lasts_is begins in
          let blocks : StandOn anew files (records_of k journal) (length seq) s.globals = subst (StandOn anew files (records_of k journal) (length seq)) (sym globals) is.blocks in
          let nodes : IsSoundImage files (records_of k journal) seq → joined s.globals ≡ state seq = subst (λ j. IsSoundImage files (records_of k journal) seq → joined j ≡ state seq) (sym globals) is.nodes in
          loaded.is_open anew u v w rs last journal seq st.form is.sequence lawful_v lawful_w synced same (read files told x) k.broken is.broken_is s (own files told x) (counted files told x) (indexed files told x) (settled_at files told x) begun js_are
          (all_six u.content (WasRead v rs last journal) (AreTextsDurable v (generation rs)) (AreDatabasesDurable v (length (regions rs))) (λ files. StandOn anew files (records_of k journal) (length seq) s.globals)
          (λ files. IsSoundImage files (records_of k journal) seq → joined s.globals ≡ state seq) (λ files. (r : ℕ) → r < length (regions rs) → StandUpTo files r (generation rs) (journal r))
          (read files told x) st.texts st.databases
          (as_told u.content files (λ files. StandOn anew files (records_of k journal) (length seq) s.globals) told blocks)
          (as_told u.content files (λ files. IsSoundImage files (records_of k journal) seq → joined s.globals ≡ state seq) told nodes)
          (as_told u.content files (λ files. (r : ℕ) → r < length (regions rs) → StandUpTo files r (generation rs) (journal r)) told is.stand))
          (all_three v.content (λ files. length (files (next_broken rs)) ≤ length k.broken → (f : Files) → Image w f → From (Image v) (HasDrawnAs anew rs (length seq) k.broken last (length (regions rs))) f)
          (λ _. instances.HasRecords w s.instance (rs ++ next_cut rs (length seq) ∷ [])) (λ _. (r : ℕ) (j : Journal) → slice_get begun r ≡ Some j → journals.HasRecords w j (settled (next_pini_as anew rs last r ∷ []))) a b d)

      pub told : Finishing n broken lasts → Filed n broken lasts → Begins n broken lasts → IfSome u.content Opens
      told finish filed begins = told_then u.content Given Opens st.told (told_in finish filed begins)
