-- A site that takes a pattern before its first generation is drawn.
use Rattle.std.proofs.Common.{◌≡◌, ◌≢◌, ◌⊎◌, inl, inr, ℕ, zero, suc, ◌+◌, ◌≤◌, ◌<◌, ◌==◌, Bool, true, false, List, [], ◌∷◌, ◌++◌, length, map, max, replicate, Option, Some, None, IfSome, refl, sym, ◌∙◌, ap, subst, arith, unwrap_or}
use Rattle.std.specs.Prelude.{◌&&◌, nat_le, nat_lt, if◌then◌else◌}
use Rattle.std.specs.FinMap as globals
use Rattle.std.specs.List.{AllByRecursion, filter_map, enumerate_from}
use Rattle.std.proofs.lemmas.Bool.{cases_eq}
use Rattle.std.proofs.lemmas.Bool.Decides.{nat_tests}
use Rattle.std.proofs.lemmas.List.{length-replicate}
use Rattle.std.proofs.lemmas.List.Elements.{filter_map-append}
use Rattle.std.proofs.Math.Path.{fun_ext}
use Rattle.global_defs.specs.declared.limits.TheConstants.{MOST_GENERATIONS, MOST_REGIONS}
use Rattle.disk_defs.specs.Disk.{Files, View, Image, IsLawful, IsDurable, AtEachMoment, ReadsAfter}
use Rattle.disk_defs.specs.Frames.{Only, OnlyOn, SameOutside, OthersStay}
use Rattle.disk_defs.specs.Gates.{records}
use Rattle.disk_defs.proofs.Told.{weaker_told, both_weak, told_at}
use Rattle.disk_defs.proofs.Moments.{weaker, then_more, holds_now}
use Rattle.global_defs.specs.Entry.{Sequence, Globals}
use Rattle.global_defs.specs.Key.{Key, key_cmp}
use Rattle.global_defs.proofs.Order.{key_total, key_same}
use Rattle.global_defs.specs.Valid.{is_name}
use Rattle.global_defs.specs.Pattern.{is_pattern, ends_in_star, stem}
use Rattle.instance_file.specs.Instance.{StandsWith}
use Rattle.journal_defs.specs.Numbers.{INSTANCE, journal_file, lost_file, broken_file, database_file}
use Rattle.journal_defs.specs.Instance.{InstanceRecord, Create, Reigned, Cut, Map, Mode, IsInForm, generation, regions, site_name, pattern_record}
use Rattle.journal_defs.specs.Directory.{Pattern, pattern_in, patterns, region_of}
use Rattle.journal_defs.specs.Broken.{broken, broken_text, parts_past}
use Rattle.journal_defs.specs.Sequence.{Placed, Records}
use Rattle.journal_defs.specs.Epochs.{Blocks, beginning, image_state, block_of}
use Rattle.journal_defs.specs.Sound.{AreWhole, Restores, region_state}
use Rattle.journal_defs.specs.Clean.{AreClean}
use Rattle.journal_defs.specs.Fit.{IsSoundImage}
use Rattle.journal_defs.specs.Stands.{IsInstance, IsJournal}
use Rattle.journal_laws.proofs.Naming as naming
use Rattle.journal_laws.proofs.Runs as runs
use Rattle.site_defs.specs.Contents.{Contents}
use Rattle.site_defs.specs.Opening.{with_pattern}
use Rattle.site_defs.specs.Stands.{IsBlank, IsSite, Stands, start_in, epoch_in, texts_of, losts_of}
use Rattle.site_store.specs.Opening.{EachStands}
use Rattle.site_making.specs.Mapping.{MayHavePattern}
use Rattle.site_store.proofs.Found.{site_instance, some_made, blank_instance}
use Rattle.block_laws.proofs.Unbroken.{flat_none}
use Rattle.entry_index.proofs.Thinning.{all_more as one_more}
use Rattle.site_files.proofs.Keeping.{no_bytes}
use Rattle.journal_laws.proofs.NewDisks.{few_nodes, no_cells}
use Rattle.site_files.proofs.WhatIsRead.{instance_one}
use Rattle.global_defs.proofs.Basics.{longer}
use Rattle.global_defs.specs.Region.{Region}

pub both_true : (a b : Bool) → a && b ≡ true → (a ≡ true) × (b ≡ true)
both_true true b h = (refl, h)
both_true false b h = absurd (cc h)

pub pattern_form : (region : ℕ) (text : List ℕ) → region < MOST_REGIONS → is_pattern text ≡ true → IsInForm (pattern_record region text)
pattern_form region text eight form =
    let both = both_true (is_name (stem text)) (nat_le (length (stem text)) 31) form in
    (eight, both.0, grind (arith, nat_tests, both.1))

-- no entry and no generation
abbrev pub plain : List InstanceRecord → Contents
plain rs = record { instance = rs; starts = λ r. []; epochs = λ r. []; texts = []; losts = []; sequence = [] }

abbrev without_journals : List InstanceRecord → Records
without_journals rs = record { instance = rs; journal = λ r. [] }

none_began : (files : Files) (r last : ℕ) (g : ℕ) (js : List Placed) → g ≡ 0 → IsJournal files r g last js → js ≡ []
none_began files r last zero js none h = h.1
none_began files r last (suc g) js none h = absurd (omega (arith, none))

no_texts : (files : Files) (g : ℕ) → g ≡ 0 → texts_of files g ≡ []
no_texts files zero none = refl
no_texts files (suc g) none = absurd (omega (arith, none))

no_losts : (files : Files) (g : ℕ) → g ≡ 0 → losts_of files g ≡ []
no_losts files zero none = refl
no_losts files (suc g) none = absurd (omega (arith, none))

none_broken : (rs : List InstanceRecord) → broken (without_journals rs) 0 ≡ []
none_broken rs = flat_none (λ (r : ℕ × Region). map (λ p. record { region = r.1.name; part = p }) (parts_past rs 0 [])) (enumerate_from 0 (regions rs)) (λ r. refl)

-- the files of the generations, none of which was drawn
pub record AreUndrawn (m : ℕ) (files : Files) : Type 0 where
  pub journals : (g r : ℕ) → 0 < g → g ≤ MOST_GENERATIONS → r < m → records (files (journal_file g r)) ≡ Some []
  pub lost : (g : ℕ) → 0 < g → g ≤ MOST_GENERATIONS → files (lost_file g) ≡ []
  pub texts : (g : ℕ) → 0 < g → g ≤ MOST_GENERATIONS → files (broken_file g) ≡ []

undrawn_same : (m : ℕ) (a b : Files) → ((f : ℕ) → f ≢ INSTANCE → b f ≡ a f) → AreUndrawn m a → AreUndrawn m b
undrawn_same m a b same are = record {
  journals = λ g r low most here. ap records (same (journal_file g r) (λ e. omega (arith, e))) ∙ are.journals g r low most here;
  lost = λ g low most. same (lost_file g) (λ e. omega (arith, e)) ∙ are.lost g low most;
  texts = λ g low most. same (broken_file g) (λ e. omega (arith, e)) ∙ are.texts g low most;
}

abbrev none_at_all : Globals
none_at_all = globals.empty

nothing_kept : (keep : Key → Bool) → globals.retain_keys globals.empty keep ≡ none_at_all
nothing_kept keep = globals.same_map key_total key_same (globals.retain_keys globals.empty keep) none_at_all same
  where
    same : (k : Key) → globals.get (globals.retain_keys none_at_all keep) k ≡ globals.get none_at_all k
    same k =
        globals.get-retain_keys none_at_all keep k (λ x e. ap keep (sym (key_same k x e)))
        ∙ elim (keep k) as (λ b. (if b then globals.get none_at_all k else None) ≡ globals.get none_at_all k) [ true ↦ refl | false ↦ sym (globals.get-empty key_cmp k) ]

-- block 0 alone, and it's whole
one_block : (blocks : Blocks) → AreWhole (image_state (beginning []) blocks)
one_block blocks zero bytes is = ap length (ap (λ (o : Option (List ℕ)). unwrap_or o bytes) (sym is)) ∙ length-replicate {A = ℕ} 4096 0
one_block blocks (suc b) bytes is =
    let past : nat_lt (suc b) 0 ≡ false = grind (arith, nat_tests) in
    let other : (suc b == 0) ≡ false = grind (arith, nat_tests) in
    let none : image_state (beginning []) blocks (suc b) ≡ None =
    ap (λ (x : Bool). if x then Some (blocks (suc b)) else if suc b == 0 then Some (replicate 4096 0) else None) past
    ∙ ap (λ (x : Bool). if x then Some (replicate 4096 0) else None) other in
    let gone : None ≡ Some bytes = sym none ∙ is in
    cc

empty_leaf : (blocks : Blocks) (g : Globals) → globals.len g ≡ 0 → Restores (image_state (beginning []) blocks) g
empty_leaf blocks g none = (
  one_block blocks,
  (
    record { next = 0; cells = [] } ∷ [],
    ((replicate 4096 0, refl, record { form = record { next = omega arith; fits = omega arith; cells = tt; rising = tt }; spelled = refl }), refl),
    tt,
    no_cells g none,
  ),
)

-- an instance file of no generation, over such files
plain_image : (files : Files) (rs : List InstanceRecord) → generation rs ≡ 0 → IsInstance (files INSTANCE) rs → AreUndrawn (length (regions rs)) files → IsSoundImage files (without_journals rs) []
plain_image files rs undrawn is are = record {
  held = record {
    instance = is;
    journals = λ r low. (0, subst (λ (g : ℕ). IsJournal files r g 0 []) (sym undrawn) (refl, refl));
    no_more = λ r past. refl;
  };
  sequence = record { each = tt; ended = runs.entry_none (without_journals rs) 1 (λ r. refl) };
  clean = record {
    journals = λ g r above low. are.journals g r (omega (arith, above.0, undrawn)) above.1 low;
    lost = λ g above. are.lost g (omega (arith, above.0, undrawn)) above.1;
    first_broken = λ g above first. (let no_byte : length (files (broken_file g)) ≡ 0 = ap length (are.texts g (omega (arith, above.0, undrawn)) above.1) in omega (arith, no_byte));
    later_broken = λ g above later. are.texts g (omega (arith, above.0, undrawn)) above.1;
  };
  sound = λ t low r here. inr (empty_leaf (block_of (files (database_file r))) (region_state (patterns rs) r [])
      (ap (λ (g : Globals). globals.len g) (nothing_kept (λ k. region_of (patterns rs) k.name == r)) ∙ globals.len-empty key_cmp (List ℕ)));
  grow = λ r low t u le high. inr (omega arith);
  at_home = λ r low. tt;
  few_nodes = few_nodes;
}

abbrev pub AreMapped : List InstanceRecord → Type 0
AreMapped rs = AllByRecursion (λ (p : Pattern). p.region < length (regions rs)) (patterns rs)

pub plain_site : (files : Files) (rs : List InstanceRecord) → 0 < length rs → AreMapped rs → generation rs ≡ 0 → IsInstance (files INSTANCE) rs → AreUndrawn (length (regions rs)) files → IsSite files (plain rs)
plain_site files rs some fits undrawn is are = record {
  made = some_made (plain rs) some;
  mapped = fits;
  records = without_journals rs;
  instance = refl;
  starts = λ r. refl;
  epochs = λ r. refl;
  texts = sym (no_texts files (generation rs) undrawn);
  losts = sym (no_losts files (generation rs) undrawn);
  image = plain_image files rs undrawn is are;
}

-- a site of no generation is such
module _ (files : Files) (c : Contents) (site : IsSite files c) (undrawn : generation c.instance ≡ 0) where
  own : generation site.records.instance ≡ 0
  own = ap generation site.instance ∙ undrawn

  no_journal : (r : ℕ) → site.records.journal r ≡ []
  no_journal r = by_region (nat_lt r (length (regions site.records.instance))) refl
    where
      by_region : (b : Bool) → nat_lt r (length (regions site.records.instance)) ≡ b → site.records.journal r ≡ []
      by_region true e = let held = site.image.held.journals r (grind (arith, nat_tests, e)) in none_began files r held.0 (generation site.records.instance) (site.records.journal r) own held.1
      by_region false e = site.image.held.no_more r (grind (arith, nat_tests, e))

  records_are : site.records ≡ without_journals site.records.instance
  records_are = ap (λ (j : ℕ → List Placed). record { instance = site.records.instance; journal = j }) (fun_ext no_journal)

  no_entry : c.sequence ≡ []
  no_entry = runs.one (without_journals site.records.instance) c.sequence [] (subst (λ (s : Records). IsSoundImage files s c.sequence) records_are site.image).sequence (record { each = tt; ended = runs.entry_none (without_journals site.records.instance) 1 (λ r. refl) })

  pub is_plain : c ≡ plain c.instance
  is_plain =
      let begun : c.starts ≡ (λ r. []) = fun_ext (λ r. site.starts r ∙ ap (λ (js : List Placed). filter_map (λ p. start_in p.what) js) (no_journal r)) in
      let taken : c.epochs ≡ (λ r. []) = fun_ext (λ r. site.epochs r ∙ ap (λ (js : List Placed). filter_map (λ p. epoch_in p.generation p.what) js) (no_journal r)) in
      let texts : c.texts ≡ [] = site.texts ∙ no_texts files (generation c.instance) undrawn in
      let losts : c.losts ≡ [] = site.losts ∙ no_losts files (generation c.instance) undrawn in
      let entries = no_entry in
      λ i. record { instance = c.instance; starts = begun i; epochs = taken i; texts = texts i; losts = losts i; sequence = entries i }

  pub are_undrawn : AreUndrawn (length (regions c.instance)) files
  are_undrawn = subst (λ (rs : List InstanceRecord). AreUndrawn (length (regions rs)) files) site.instance
      (record {
        journals = λ g r low most here. clean.journals g r (omega (arith, low, zero_there), most) here;
        lost = λ g low most. clean.lost g (omega (arith, low, zero_there), most);
        texts = λ g low most. by_first g low most;
      })
    where
      zero_there : generation site.records.instance ≡ 0
      zero_there = own

      clean : AreClean files (without_journals site.records.instance) (length c.sequence)
      clean = (subst (λ (s : Records). IsSoundImage files s c.sequence) records_are site.image).clean

      by_first : (g : ℕ) → 0 < g → g ≤ MOST_GENERATIONS → files (broken_file g) ≡ []
      by_first g low most = elim (cases_eq g (generation site.records.instance + 1)) [
        | inl e ↦ no_bytes (files (broken_file g))
            (let few = clean.first_broken g (omega (arith, low, zero_there), most) e in
            let none : length (broken_text (site_name site.records.instance) (length c.sequence) (broken (without_journals site.records.instance) (length c.sequence))) ≡ 0 =
            ap (λ (es : Sequence). length (broken_text (site_name site.records.instance) (length es) (broken (without_journals site.records.instance) (length es)))) no_entry ∙ ap (λ bs. length (broken_text (site_name site.records.instance) 0 bs)) (none_broken site.records.instance) in
            omega (arith, few, none))
        | inr ne ↦ clean.later_broken g (omega (arith, low, zero_there), most) (omega (arith, low, zero_there, ne))
      ]

generation_more : (rs : List InstanceRecord) (region : ℕ) (star : Bool) (name : List ℕ) → generation (rs ++ Map region star name ∷ []) ≡ generation rs
generation_more [] region star name = refl
generation_more (Create n named ∷ rs) region star name = generation_more rs region star name
generation_more (Reigned r ∷ rs) region star name = generation_more rs region star name
generation_more (Cut n g ∷ rs) region star name = ap (max g) (generation_more rs region star name)
generation_more (Map r s n ∷ rs) region star name = generation_more rs region star name
generation_more (Mode r before ∷ rs) region star name = generation_more rs region star name

module _ (rs : List InstanceRecord) (region : ℕ) (text : List ℕ) (inside : region < length (regions rs)) (undrawn : generation rs ≡ 0) where
  abbrev pub more : List InstanceRecord
  more = rs ++ pattern_record region text ∷ []

  some_there : (l : List InstanceRecord) → region < length (regions l) → 0 < length l
  some_there [] here = absurd (omega (arith, here))
  some_there (x ∷ l) here = omega arith

  same_regions : regions more ≡ regions rs
  same_regions = naming.same_regions rs (pattern_record region text) (omega (arith, inside))

  mapped_more : AreMapped rs → AreMapped more
  mapped_more fits =
      subst (λ (l : List Region). AllByRecursion (λ (p : Pattern). p.region < length l) (patterns more)) (sym same_regions)
      (subst (AllByRecursion (λ (p : Pattern). p.region < length (regions rs))) (sym (filter_map-append pattern_in rs (pattern_record region text ∷ [])))
      (one_more (λ (p : Pattern). p.region < length (regions rs)) (patterns rs) (record { region = region; star = ends_in_star text; name = stem text }) fits inside))

  undrawn_more : generation more ≡ 0
  undrawn_more = generation_more rs region (ends_in_star text) (stem text) ∙ undrawn

  module _ (was now : Files) (here : IsInstance (was INSTANCE) rs) (same : SameOutside (Only INSTANCE) was now) (c : Contents) (site : IsSite was c) where
    own_is : c.instance ≡ rs
    own_is = instance_one (was INSTANCE) c.instance rs (site_instance was c site) here

    own_undrawn : generation c.instance ≡ 0
    own_undrawn = ap generation own_is ∙ undrawn

    pub plain_is : c ≡ plain rs
    plain_is = is_plain was c site own_undrawn ∙ ap plain own_is

    fits_own : AreMapped rs
    fits_own = subst AreMapped own_is site.mapped

    undrawn_now : AreUndrawn (length (regions rs)) now
    undrawn_now = undrawn_same (length (regions rs)) was now same (subst (λ (l : List InstanceRecord). AreUndrawn (length (regions l)) was) own_is (are_undrawn was c site own_undrawn))

    pub unmapped_site : IsInstance (now INSTANCE) rs → IsSite now c
    unmapped_site is = subst (IsSite now) (sym plain_is) (plain_site now rs (some_there rs inside) fits_own undrawn is undrawn_now)

    pub mapped_site : IsInstance (now INSTANCE) more → IsSite now (with_pattern region text c)
    mapped_site is = subst (λ (x : Contents). IsSite now (with_pattern region text x)) (sym plain_is)
        (plain_site now more (longer rs (pattern_record region text)) (mapped_more fits_own) undrawn_more is (subst (λ (l : List Region). AreUndrawn (length l) now) (sym same_regions) undrawn_now))

    pub either_site : StandsWith rs (pattern_record region text) (now INSTANCE) → IsSite now c ⊎ IsSite now (with_pattern region text c)
    either_site (inl is) = inl (unmapped_site is)
    either_site (inr is) = inr (mapped_site is)

  -- no blank disk has these records
  not_blank : (was : Files) → IsInstance (was INSTANCE) rs → IsBlank was → ⊥
  not_blank was here blank =
      let none : rs ≡ [] = instance_one (was INSTANCE) rs [] here (blank_instance (was INSTANCE) blank.instance) in
      let size : length rs ≡ 0 = ap length none in
      let some = some_there rs inside in
      omega (arith, size, some)

  pub either_stands : (was now : Files) → IsInstance (was INSTANCE) rs → SameOutside (Only INSTANCE) was now → StandsWith rs (pattern_record region text) (now INSTANCE) → (c : Contents) → Stands was c
      → Stands now c ⊎ IsSite now (with_pattern region text c)
  either_stands was now here same stands c (inl blank) = absurd (not_blank was here blank.1)
  either_stands was now here same stands c (inr site) = elim (either_site was now here same c site stands) [
    | inl is ↦ inl (inr is)
    | inr is ↦ inr is
  ]

  pub stands_site : (was : Files) (c : Contents) → IsInstance (was INSTANCE) rs → Stands was c → IsSite was c
  stands_site was c here (inl blank) = absurd (not_blank was here blank.1)
  stands_site was c here (inr site) = site

-- nothing was written
abbrev pub Moments : View → View → ℕ → List ℕ → Files → Type 0
Moments u v region text files = (c : Contents) → IsSite files c → AtEachMoment u v (MayHavePattern u region text)

abbrev pub StandsMapped : Option Files → ℕ → List ℕ → Files → Type 0
StandsMapped n region text files = (c : Contents) → IsSite files c → IfSome n (λ now. IsSite now c ⊎ IsSite now (with_pattern region text c))

pub quiet : (u v : View) (region : ℕ) (text : List ℕ) → AtEachMoment u v (Image u) → AtEachMoment u v (MayHavePattern u region text)
quiet u v region text run = weaker u v (Image u) (MayHavePattern u region text) (λ f image. (f, image, λ c stands. inl stands)) run

pub quiet_told : (u v : View) (region : ℕ) (text : List ℕ) → AtEachMoment u v (Image u) → IfSome u.content (Moments u v region text)
quiet_told u v region text run = always u.content
  where
    always : (o : Option Files) → IfSome o (Moments u v region text)
    always None = tt
    always (Some f) = λ c site. quiet u v region text run

pub quiet_stands : (o n : Option Files) (region : ℕ) (text : List ℕ) → n ≡ o → IfSome o (StandsMapped n region text)
quiet_stands o n region text same = subst (λ (z : Option Files). IfSome o (StandsMapped z region text)) (sym same) (itself o)
  where
    itself : (o : Option Files) → IfSome o (StandsMapped o region text)
    itself None = tt
    itself (Some f) = λ c site. inl site

-- records that were read and are no site's
pub no_list : (o : Option Files) → IfSome o (λ files. (rs : List InstanceRecord) → IsInstance (files INSTANCE) rs → ⊥) → IfSome o (λ files. (c : Contents) → IsSite files c → ⊥)
no_list o none = weaker_told o (λ files. (rs : List InstanceRecord) → IsInstance (files INSTANCE) rs → ⊥) (λ files. (c : Contents) → IsSite files c → ⊥) none (λ files no c site. no c.instance (site_instance files c site))

pub no_region : (o : Option Files) (rs : List InstanceRecord) (region : ℕ) → IfSome o (λ files. IsInstance (files INSTANCE) rs) → IfSome o (λ files. (c : Contents) → IsSite files c → (generation c.instance ≡ 0) × (region < length (regions c.instance)))
    → ((region < length (regions rs)) × (generation rs ≡ 0) → ⊥) → IfSome o (λ files. (c : Contents) → IsSite files c → ⊥)
no_region o rs region reads site none = both_weak o (λ files. IsInstance (files INSTANCE) rs) (λ files. (c : Contents) → IsSite files c → (generation c.instance ≡ 0) × (region < length (regions c.instance))) (λ files. (c : Contents) → IsSite files c → ⊥) reads site
    (λ files is given c s.
    let own = instance_one (files INSTANCE) c.instance rs (site_instance files c s) is in
    let fits = given c s in
    none (subst (λ (l : List InstanceRecord). region < length (regions l)) own fits.1, subst (λ (l : List InstanceRecord). generation l ≡ 0) own fits.0))

-- the file is read, and then the MAP is appended
module _ (u v w : View) (rs : List InstanceRecord) (region : ℕ) (text : List ℕ) (inside : region < length (regions rs)) (undrawn : generation rs ≡ 0) (lawful_v : IsLawful v) (lawful_w : IsLawful w)
    (synced : AtEachMoment u v (Image u)) (same : v.content ≡ u.content) (reads : IfSome u.content (λ files. IsInstance (files INSTANCE) rs)) (durable : IfSome u.content (λ files. IsDurable v INSTANCE (files INSTANCE)))
    (stays : OthersStay (Only INSTANCE) v w) where
  abbrev pub WithMap : Files → Type 0
  WithMap = OnlyOn v INSTANCE (StandsWith rs (pattern_record region text))

  earlier : (f : Files) → Image v f → Image u f
  earlier f image = holds_now u v (Image u) lawful_v synced f image

  abbrev Here : Files → Type 0
  Here files = (d : Files) → Image v d → IsInstance (d INSTANCE) rs

  each_image : IfSome u.content Here
  each_image = both_weak u.content (λ files. IsInstance (files INSTANCE) rs) (λ files. IsDurable v INSTANCE (files INSTANCE)) Here reads durable
      (λ files is kept d image. subst (λ (b : List ℕ). IsInstance b rs) (sym (kept d image)) is)

  pub map_moments : IfSome v.content (λ _. AtEachMoment v w WithMap) → IfSome u.content (Moments u w region text)
  map_moments run = both_weak u.content Here (λ _. AtEachMoment v w WithMap) (Moments u w region text) each_image (told_at u.content v.content (λ _. AtEachMoment v w WithMap) same run)
      (λ files each m c site. then_more u v w (MayHavePattern u region text) WithMap (quiet u v region text synced) m
      (λ f q. (q.others.0, earlier q.others.0 q.others.1, λ x stands. either_stands rs region text inside undrawn q.others.0 f (each q.others.0 q.others.1) q.others.2 q.here x stands)))

  abbrev Read : Files → Type 0
  Read files = IsInstance (files INSTANCE) rs

  pub map_stands : IfSome v.content (λ _. AtEachMoment v w WithMap) → IfSome u.content (StandsMapped w.content region text)
  map_stands run = subst (λ (o : Option Files). IfSome o (StandsMapped w.content region text)) same
      (among v.content w.content stays.content (subst (λ (o : Option Files). IfSome o Read) (sym same) reads) run lawful_w.as_read)
    where
      among : (o n : Option Files) → ReadsAfter (SameOutside (Only INSTANCE)) o n → IfSome o Read → IfSome o (λ _. AtEachMoment v w WithMap) → IfSome n (λ now. Image w now) → IfSome o (StandsMapped n region text)
      among None n after is m read = tt
      among (Some a) None after is m read = absurd after
      among (Some a) (Some b) after is m read = λ c site. either_site rs region text inside undrawn a b is after c site (holds_now v w WithMap lawful_w m b read).here

  pub map_reads : IfSome v.content (λ _. IfSome w.content (λ now. IsInstance (now INSTANCE) (more rs region text inside undrawn))) → IfSome u.content (λ files. (c : Contents) → IsSite files c → IfSome w.content (λ now. IsSite now (with_pattern region text c)))
  map_reads has = subst (λ (o : Option Files). IfSome o (λ files. (c : Contents) → IsSite files c → IfSome w.content (λ now. IsSite now (with_pattern region text c)))) same
      (among v.content w.content stays.content (subst (λ (o : Option Files). IfSome o Read) (sym same) reads) has)
    where
      among : (o n : Option Files) → ReadsAfter (SameOutside (Only INSTANCE)) o n → IfSome o Read → IfSome o (λ _. IfSome n (λ now. IsInstance (now INSTANCE) (more rs region text inside undrawn))) → IfSome o (λ files. (c : Contents) → IsSite files c → IfSome n (λ now. IsSite now (with_pattern region text c)))
      among None n after is m = tt
      among (Some a) None after is m = absurd after
      among (Some a) (Some b) after is m = λ c site. mapped_site rs region text inside undrawn a b is after c site m

  pub map_images : IfSome v.content (λ _. (f : Files) → Image w f → IsInstance (f INSTANCE) (more rs region text inside undrawn))
      → IfSome u.content (λ files. (c : Contents) → IsSite files c → EachStands u → (f : Files) → Image w f → IsSite f (with_pattern region text c))
  map_images has = all u.content each_image reads (told_at u.content v.content (λ _. (f : Files) → Image w f → IsInstance (f INSTANCE) (more rs region text inside undrawn)) same has)
    where
      all : (o : Option Files) → IfSome o Here → IfSome o Read → IfSome o (λ _. (f : Files) → Image w f → IsInstance (f INSTANCE) (more rs region text inside undrawn))
          → IfSome o (λ files. (c : Contents) → IsSite files c → EachStands u → (f : Files) → Image w f → IsSite f (with_pattern region text c))
      all None each is m = tt
      all (Some files) each is m = λ c site stand f image.
          let from = stays.images f image in
          let d = from.0 in
          let here = each d from.1 in
          let o = stand d (earlier d from.1) in
          let there = stands_site rs region text inside undrawn d o.0 here o.1 in
          let alike : o.0 ≡ c = plain_is rs region text inside undrawn d f here from.2 o.0 there ∙ sym (plain_is rs region text inside undrawn files files is (λ k ne. refl) c site) in
          subst (λ (x : Contents). IsSite f (with_pattern region text x)) alike (mapped_site rs region text inside undrawn d f here from.2 o.0 there (m f image))
