-- A site that was read, whose next generation is drawn and begins.
use Rattle.std.proofs.Common.{◌≡◌, ◌≢◌, ◌⊎◌, inl, inr, ℕ, zero, suc, ◌+◌, ◌≤◌, ◌<◌, Bool, true, false, List, [], ◌∷◌, ◌++◌, length, Some, None, refl, sym, ◌∙◌, ap, subst, arith, append-nil}
use Rattle.std.specs.Prelude.{◌&&◌, not, if◌then◌else◌, nat_lt}
use Rattle.std.specs.List.{AllByRecursion, filter_map}
use Rattle.std.specs.Option.{unwrap_or}
use Rattle.std.proofs.lemmas.Bool.Decides.{nat_tests}
use Rattle.std.proofs.lemmas.List.Elements.{filter_map-append}
use Rattle.std.proofs.Math.Path.{fun_ext}
use Rattle.disk_defs.specs.Disk.{Files}
use Rattle.global_defs.specs.Entry.{Sequence}
use Rattle.global_defs.specs.Region.{Region}
use Rattle.journal_defs.specs.Numbers.{INSTANCE, lost_file, broken_file}
use Rattle.journal_defs.specs.Journal.{Start}
use Rattle.journal_defs.specs.Instance.{InstanceRecord, Cut, generation, regions, site_name}
use Rattle.journal_defs.specs.Directory.{Pattern, patterns}
use Rattle.journal_defs.specs.Broken.{broken, broken_text}
use Rattle.journal_defs.specs.Sequence.{Placed, Records, IsSequence}
use Rattle.journal_defs.specs.Growth.{NonePast}
use Rattle.journal_defs.specs.Fit.{IsSoundImage}
use Rattle.journal_defs.specs.Stands.{in_generation}
use Rattle.journal_laws.proofs.Drawing as drawing
use Rattle.journal_laws.proofs.EveryTarget.{patterns_same}
use Rattle.journal_laws.proofs.Runs as runs
use Rattle.journal_laws.proofs.Readings.{records_one}
use Rattle.site_files.specs.Loading.{MayBeOpened, AreRead, IsUncut, HasDrawnAs, MayDrawAs, next_cut, next_broken, next_journal, next_pini_as, drawn_records_as}
use Rattle.site_files.specs.Loading as files
use Rattle.site_files.proofs.Keeping as keeping
use Rattle.site_files.proofs.Kept.{held_read}
use Rattle.site_defs.specs.Contents.{Taken, Contents, Leftover, Standing, NO_LEFTOVER, bare}
use Rattle.site_defs.specs.Opening.{cut_there}
use Rattle.site_defs.specs.Forward.{begun_mode, start_as, starts_as, begun_as, MayOpenAs, MayOpenAsLeft}
use Rattle.site_defs.specs.Stands.{start_in, epoch_in, texts_of, losts_of, torn_of, IsSite, HasLeft}
use Rattle.site_defs.specs.Behind.{IsStanding}
use Rattle.site_store.proofs.Images.{left_nothing}
use Rattle.site_store.proofs.Starts.{starts_of, epochs_of, last_is}
use Rattle.site_files.proofs.Drawings.{mode_cut}

-- generations of the files that stay
pub texts_kept : (a b : Files) (g : ℕ) → ((h : ℕ) → 1 ≤ h → h ≤ g → b (broken_file h) ≡ a (broken_file h)) → texts_of a g ≡ texts_of b g
texts_kept a b zero same = refl
texts_kept a b (suc g) same =
    ap (λ (l : List (List ℕ)). l ++ a (broken_file (suc g)) ∷ []) (texts_kept a b g (λ h one low. same h one (omega (arith, low))))
    ∙ ap (λ (t : List ℕ). texts_of b g ++ t ∷ []) (sym (same (suc g) (omega arith) (omega arith)))

pub losts_kept : (a b : Files) (g : ℕ) → ((h : ℕ) → 1 ≤ h → h ≤ g → b (lost_file h) ≡ a (lost_file h)) → losts_of a g ≡ losts_of b g
losts_kept a b zero same = refl
losts_kept a b (suc g) same =
    ap (λ (l : List (List ℕ)). l ++ a (lost_file (suc g)) ∷ []) (losts_kept a b g (λ h one low. same h one (omega (arith, low))))
    ∙ ap (λ (t : List ℕ). losts_of b g ++ t ∷ []) (sym (same (suc g) (omega arith) (omega arith)))

made_more : (l : List InstanceRecord) (x : InstanceRecord) → nat_lt 0 (length (l ++ x ∷ [])) ≡ true
made_more [] x = refl
made_more (y ∷ l) x = grind (arith, nat_tests)

-- what begins in a region
begins_same : (a b : Bool) (x y : Start) (p : Placed) → start_in p.what ≡ Some y → (a ≡ true → b ≡ true → x ≡ y) → (if a && b then x ∷ [] else []) ≡ filter_map (λ (q : Placed). start_in q.what) (if a && b then p ∷ [] else [])
begins_same true true x y p is same = ap (λ (s : Start). s ∷ []) (same refl refl) ∙ rw is refl
begins_same true false x y p is same = refl
begins_same false b x y p is same = refl

no_epoch : (a b : Bool) (p : Placed) → epoch_in p.generation p.what ≡ None → [] ≡ filter_map (λ (q : Placed). epoch_in q.generation q.what) (if a && b then p ∷ [] else [])
no_epoch true true p is = rw is refl
no_epoch true false p is = refl
no_epoch false b p is = refl

-- with a CUT to t, the text of what is broken, an empty lost-transaction file, and this sequence
abbrev pub cut_at : (t : ℕ) → (broken : List ℕ) → (kept : Sequence) → Contents → Contents
cut_at t broken kept c = record c { instance = c.instance ++ Cut t (generation c.instance + 1) ∷ []; texts = c.texts ++ broken ∷ []; losts = c.losts ++ [] ∷ []; sequence = kept }

module _ (rs : List InstanceRecord) (last : ℕ → ℕ) (journal : ℕ → List Placed) (seq : Sequence) (form : MayBeOpened rs last) (sequence : IsSequence (record { instance = rs; journal = journal }) seq) where
  abbrev pub S : Records
  S = record { instance = rs; journal = journal }

  -- the text of what is broken behind the sequence
  abbrev pub text : List ℕ
  text = broken_text (site_name rs) (length seq) (broken S (length seq))

  -- what files stand for in which these records were read
  abbrev pub C : Files → Contents
  C f = record { instance = rs; starts = λ r. starts_of (journal r); epochs = λ r. epochs_of (journal r); texts = texts_of f (generation rs); losts = losts_of f (generation rs); sequence = seq }

  abbrev pub many : ℕ
  many = length (regions rs)

  past : generation rs < generation rs + 1
  past = omega arith

  newest : (n : ℕ) → generation (rs ++ next_cut rs n ∷ []) ≡ generation rs + 1
  newest n = drawing.generation-cut rs n (generation rs + 1) past

  pub newest_is : (n : ℕ) → generation (rs ++ next_cut rs n ∷ []) ≡ suc (generation rs)
  newest_is n = let e = newest n in omega (arith, e)

  pub same_regions : (n : ℕ) → regions (rs ++ next_cut rs n ∷ []) ≡ regions rs
  same_regions n = drawing.same_regions rs n (generation rs + 1) form.some_region

  -- a site of these records
  pub site_read : (f : Files) (c : Contents) → AreRead rs last journal f → IsSite f c → IsSoundImage f S seq × (c ≡ C f)
  site_read f c read site =
      let held = held_read rs last journal f read in
      let same = records_one f site.records S site.image.held held in
      let image = subst (λ (u : Records). IsSoundImage f u c.sequence) same site.image in
      let seqs : c.sequence ≡ seq = runs.one S c.sequence seq image.sequence sequence in
      let own : c.instance ≡ rs = sym site.instance ∙ ap (λ (u : Records). u.instance) same in
      let begun : c.starts ≡ (λ r. starts_of (journal r)) = fun_ext (λ r. site.starts r ∙ ap (λ (u : Records). starts_of (u.journal r)) same) in
      let taken : c.epochs ≡ (λ r. epochs_of (journal r)) = fun_ext (λ r. site.epochs r ∙ ap (λ (u : Records). epochs_of (u.journal r)) same) in
      let wrote : c.texts ≡ texts_of f (generation rs) = site.texts ∙ ap (λ (l : List InstanceRecord). texts_of f (generation l)) own in
      let lost : c.losts ≡ losts_of f (generation rs) = site.losts ∙ ap (λ (l : List InstanceRecord). losts_of f (generation l)) own in
      (subst (IsSoundImage f S) seqs image, λ i. record { instance = own i; starts = begun i; epochs = taken i; texts = wrote i; losts = lost i; sequence = seqs i })

  -- and what it has left
  pub left_read : (f : Files) (c : Contents) (left : Leftover) → AreRead rs last journal f → IsSite f c → HasLeft f c left → left.broken ≡ text
  left_read f c left read site has =
      let held = held_read rs last journal f read in
      let same : has.records ≡ S = records_one f has.records S has.held held in
      let is : c ≡ C f = (site_read f c read site).1 in
      has.broken
      ∙ ap (λ (x : Contents). broken_text (site_name x.instance) (length x.sequence) (broken has.records (length x.sequence))) is
      ∙ ap (λ (u : Records). broken_text (site_name rs) (length seq) (broken u (length seq))) same

  -- the files that stay
  module _ (a b : Files) (others : (f : ℕ) → f ≢ INSTANCE → f ≢ next_broken rs → ((r : ℕ) → r < many → f ≢ next_journal rs r) → b f ≡ a f) where
    texts_same : texts_of a (generation rs) ≡ texts_of b (generation rs)
    texts_same = texts_kept a b (generation rs) (λ h one low.
        others (broken_file h) (λ e. omega (arith, e)) (λ e. omega (arith, e, low))
        (λ r here e. let few = form.few_regions in let room = form.room in omega (arith, e, here, few, room)))

    losts_same : losts_of a (generation rs) ≡ losts_of b (generation rs)
    losts_same = losts_kept a b (generation rs) (λ h one low.
        others (lost_file h) (λ e. omega (arith, e)) (λ e. let room = form.room in omega (arith, e, low, room))
        (λ r here e. let few = form.few_regions in let room = form.room in omega (arith, e, here, few, room)))

  -- each region has begun
  pub newest_whole : (anew : Bool) (r : ℕ) → r < many → journal r ++ files.starts_in_as anew rs last many r ≡ journal r ++ in_generation (suc (generation rs)) (next_pini_as anew rs last r) ∷ []
  newest_whole anew r here =
      let there : nat_lt r many ≡ true = grind (arith, nat_tests, here) in
      ap (λ (l : List Placed). journal r ++ l) (rw there refl)

  made : nat_lt 0 (length rs) ≡ true
  made = let some = form.some in grind (arith, nat_tests, some)

  pub site_sound : (f : Files) → IsSoundImage f S seq → IsSite f (C f)
  site_sound f sound = record { made = made; mapped = form.mapped; records = S; instance = refl; starts = λ r. refl; epochs = λ r. refl; texts = refl; losts = refl; image = sound }

  pub site_uncut : (a b : Files) (broken_there : List ℕ) → AreRead rs last journal a → IsSoundImage a S seq → broken_there ≡ text → IsUncut rs broken_there a b → IsSite b (C a)
  site_uncut a b broken_there read sound is cut = record {
    made = made;
    mapped = form.mapped;
    records = S;
    instance = refl;
    starts = λ r. refl;
    epochs = λ r. refl;
    texts = texts_same a b cut.others;
    losts = losts_same a b cut.others;
    image = keeping.uncut_image a S last form seq sound broken_there b is cut;
  }

  mapped_drawn : (n : ℕ) → AllByRecursion (λ (p : Pattern). p.region < length (regions (rs ++ next_cut rs n ∷ []))) (patterns (rs ++ next_cut rs n ∷ []))
  mapped_drawn n =
      subst (λ (l : List Region). AllByRecursion (λ (p : Pattern). p.region < length l) (patterns (rs ++ next_cut rs n ∷ []))) (sym (same_regions n))
      (subst (λ (ps : List Pattern). AllByRecursion (λ (p : Pattern). p.region < length (regions rs)) ps) (sym (patterns_same rs (next_cut rs n) refl)) form.mapped)

  -- What drawing the next generation with a CUT to t leaves of such files: they are sound with these entries, and the text is written.
  abbrev pub DrawsTo : (anew : Bool) → Files → (t : ℕ) → Sequence → (broken_there : List ℕ) → Type 0
  DrawsTo anew a t kept broken_there = (b : Files) (k : ℕ) → HasDrawnAs anew rs t broken_there last k a b → IsSoundImage b (drawn_records_as anew S t last k) kept × (b (next_broken rs) ≡ broken_there)

  -- with all entries
  pub draws_all : (anew : Bool) (a : Files) (broken_there : List ℕ) → AreRead rs last journal a → IsSoundImage a S seq → broken_there ≡ text → DrawsTo anew a (length seq) seq broken_there
  draws_all anew a broken_there read sound is b k has = (keeping.drawn_image a S last form seq sound anew broken_there read k b has, keeping.text_is a S last form seq sound anew broken_there b k is has)

  module _ (anew : Bool) (a : Files) (read : AreRead rs last journal a) (sound : IsSoundImage a S seq) (t : ℕ) (kept : Sequence) (size : length kept ≡ t) (broken_there : List ℕ) (draws : DrawsTo anew a t kept broken_there) where
    abbrev pub D : Contents
    D = cut_at t broken_there kept (C a)

    start_is : (r : ℕ) → r < many → start_as anew D r ≡ record { region = r; before = begun_mode anew rs r; generation = suc (generation rs); previous = last r }
    start_is r here =
        let mode : begun_mode anew (rs ++ next_cut rs t ∷ []) r ≡ begun_mode anew rs r = ap (λ o. not anew && unwrap_or o true) (mode_cut rs t (generation rs + 1) r) in
        let g = newest_is t in
        let p = last_is a r (generation rs) (last r) (journal r) (read.older r here) in
        λ i. record { region = r; before = mode i; generation = g i; previous = p i }

    abbrev first : ℕ → Placed
    first r = record { generation = suc (generation rs); what = next_pini_as anew rs last r }

    starts_are : (k r : ℕ) → starts_of (journal r) ++ starts_as anew k D r ≡ starts_of (journal r ++ files.starts_in_as anew rs last k r)
    starts_are k r =
        ap (λ (l : List Start). starts_of (journal r) ++ l)
        (ap (λ (l : List Region). if nat_lt r k && nat_lt r (length l) then start_as anew D r ∷ [] else []) (same_regions t)
        ∙ begins_same (nat_lt r k) (nat_lt r many) (start_as anew D r) (record { region = r; before = begun_mode anew rs r; generation = suc (generation rs); previous = last r }) (first r) refl (λ low here. start_is r (grind (arith, nat_tests, here))))
        ∙ sym (filter_map-append (λ (p : Placed). start_in p.what) (journal r) (files.starts_in_as anew rs last k r))

    -- no epoch is taken
    epochs_are : (k r : ℕ) → epochs_of (journal r) ≡ epochs_of (journal r ++ files.starts_in_as anew rs last k r)
    epochs_are k r =
        sym (append-nil (epochs_of (journal r)))
        ∙ ap (λ (l : List Taken). epochs_of (journal r) ++ l) (no_epoch (nat_lt r k) (nat_lt r many) (first r) refl)
        ∙ sym (filter_map-append (λ (p : Placed). epoch_in p.generation p.what) (journal r) (files.starts_in_as anew rs last k r))

    -- nothing is in its lost-transaction file
    none_lost : (b : Files) (k : ℕ) → HasDrawnAs anew rs t broken_there last k a b → b (lost_file (suc (generation rs))) ≡ []
    none_lost b k has =
        let room = form.room in
        let few = form.few_regions in
        has.others (lost_file (suc (generation rs))) (λ e. omega (arith, e)) (λ e. omega (arith, e, room)) (λ r here e. omega (arith, e, here, few, room))
        ∙ sound.clean.lost (suc (generation rs)) (omega arith, omega (arith, room))

    pub site_drawn : (b : Files) (k : ℕ) → HasDrawnAs anew rs t broken_there last k a b → IsSite b (begun_as anew k D)
    site_drawn b k has = record {
      made = made_more rs (next_cut rs t);
      mapped = mapped_drawn t;
      records = drawn_records_as anew S t last k;
      instance = refl;
      starts = starts_are k;
      epochs = epochs_are k;
      texts = ap (λ (x : List ℕ). texts_of a (generation rs) ++ x ∷ []) (sym (draws b k has).1)
          ∙ ap (λ (l : List (List ℕ)). l ++ b (next_broken rs) ∷ []) (texts_same a b has.others)
          ∙ ap (texts_of b) (sym (newest_is t));
      losts = ap (λ (x : List ℕ). losts_of a (generation rs) ++ x ∷ []) (sym (none_lost b k has))
          ∙ ap (λ (l : List (List ℕ)). l ++ b (lost_file (suc (generation rs))) ∷ []) (losts_same a b has.others)
          ∙ ap (losts_of b) (sym (newest_is t));
      image = (draws b k has).0;
    }

    -- and nothing lies behind that
    pub left_drawn : (b : Files) (k : ℕ) → HasDrawnAs anew rs t broken_there last k a b → HasLeft b (begun_as anew k D) NO_LEFTOVER
    left_drawn b k has =
        let image = (draws b k has).0 in
        left_nothing b (begun_as anew k D) (drawn_records_as anew S t last k) image.held image.clean
        (subst (λ (n : ℕ). NonePast n (drawn_records_as anew S t last k)) (sym size) (keeping.none_past anew S t last (drawing.before a S (generation rs + 1) sound.held past) k)) refl

    pub standing_drawn : (b : Files) (k : ℕ) → HasDrawnAs anew rs t broken_there last k a b → IsStanding b (bare (begun_as anew k D))
    standing_drawn b k has = record { site = site_drawn b k has; torn = []; left = left_drawn b k has }

    -- whatever a crash leaves of it
    pub site_may : (b : Files) → broken_there ≡ text → MayDrawAs anew rs t broken_there last a b → IsSite b (C a) ⊎ ((k : ℕ) × IsSite b (begun_as anew k D))
    site_may b is (inl cut) = inl (site_uncut a b broken_there read sound is cut)
    site_may b is (inr drawn) = inr (drawn.0, site_drawn b drawn.0 drawn.1)

    pub standing_may : (b : Files) (s : Standing) → IsStanding a s → broken_there ≡ text → MayDrawAs anew rs t broken_there last a b → IsStanding b s ⊎ ((k : ℕ) × IsStanding b (bare (begun_as anew k D)))
    standing_may b s was is (inr drawn) = inr (drawn.0, standing_drawn b drawn.0 drawn.1)
    standing_may b s was is (inl cut) =
        let found = site_read a s.contents read was.site in
        let same : was.left.records ≡ S = records_one a was.left.records S was.left.held (held_read rs last journal a read) in
        inl (record {
          site = subst (IsSite b) (sym found.1) (site_uncut a b broken_there read found.0 is cut);
          torn = torn_of b (generation s.contents.instance);
          left = record {
            records = S;
            held = (keeping.uncut_image a S last form seq found.0 broken_there b is cut).held;
            broken = was.left.broken ∙ ap (λ (u : Records). broken_text (site_name s.contents.instance) (length s.contents.sequence) (broken u (length s.contents.sequence))) same;
            torn = refl;
          };
        })

  -- as a site is opened
  module _ (anew : Bool) (a : Files) (read : AreRead rs last journal a) (broken_there : List ℕ) (is : broken_there ≡ text) where
    pub site_either : (b : Files) → IsSoundImage a S seq → MayDrawAs anew rs (length seq) broken_there last a b → (o : Contents) × MayOpenAs anew broken_there (C a) o × IsSite b o
    site_either b sound may = elim (site_may anew a read sound (length seq) seq refl broken_there (draws_all anew a broken_there read sound is) b is may) [
      | inl still ↦ (C a, inl refl, still)
      | inr drawn ↦ (begun_as anew drawn.0 (cut_there broken_there (C a)), inr (drawn.0, refl), drawn.1)
    ]

    pub standing_either : (b : Files) (s : Standing) → IsStanding a s → MayDrawAs anew rs (length seq) broken_there last a b → (o : Standing) × MayOpenAsLeft anew s o × IsStanding b o
    standing_either b s was may =
        let found = site_read a s.contents read was.site in
        let there : s.broken ≡ broken_there = left_read a s.contents (record { broken = s.broken; torn = was.torn }) read was.site was.left ∙ sym is in
        elim (standing_may anew a read found.0 (length seq) seq refl broken_there (draws_all anew a broken_there read found.0 is) b s was is may) [
          | inl still ↦ (s, inl refl, still)
          | inr drawn ↦ (
            bare (begun_as anew drawn.0 (cut_there s.broken s.contents)),
            inr (drawn.0, refl),
            subst (λ (x : Contents). IsStanding b (bare (begun_as anew drawn.0 (cut_there s.broken x)))) (sym found.1)
                (subst (λ (x : List ℕ). IsStanding b (bare (begun_as anew drawn.0 (cut_there x (C a))))) (sym there) drawn.1),
          )
        ]
