-- The next generation is drawn, and begins in each region, as files have it.
use Rattle.std.proofs.Common.{◌≡◌, inl, inr, ℕ, suc, ◌+◌, ◌≤◌, ◌<◌, Bool, true, List, [], ◌∷◌, ◌++◌, length, Option, Some, None, IfSome, IsSomeAnd, refl, sym, ◌∙◌, ap, subst, arith}
use Rattle.std.proofs.Math.Path.{fun_ext}
use Rattle.std.specs.Prelude.{◌&&◌, not}
use Rattle.std.specs.Option.{option_or, unwrap_or}
use Rattle.std.specs.List.{slice_get}
use Rattle.disk_defs.specs.Disk.{Files, View, Image, IsLawful, From, OnFile, AtEachMoment, ReadsAfter}
use Rattle.disk_defs.specs.Frames.{Only, OnlyOn, SameOutside, OthersStay}
use Rattle.disk_defs.specs.Gates.{records}
use Rattle.disk_defs.proofs.Told.{with_told, weaker_told, both_weak}
use Rattle.disk_defs.proofs.Moments.{weaker, then_more, holds_now}
use Rattle.disk_defs.proofs.Frames.{others_then, others_wider}
use Rattle.journal_defs.specs.Numbers.{INSTANCE, journal_file}
use Rattle.journal_defs.specs.Instance.{InstanceRecord, Cut, generation, regions, mode_in, mode_of}
use Rattle.journal_defs.specs.Journal.{JournalRecord}
use Rattle.journal_defs.specs.Sequence.{Placed}
use Rattle.journal_defs.specs.Stands.{IsInstance}
use Rattle.journal_laws.proofs.Drawing.{generation-cut}
use Rattle.instance_file.specs.Instance.{HoldsRecords, HasRecords, StandsWith}
use Rattle.instance_file.specs.declared.instance.Instance.{Instance}
use Rattle.jnl_file.specs.Begin.{pini}
use Rattle.jnl_file.specs.Journal as journals
use Rattle.jnl_file.specs.Records.{settled}
use Rattle.jnl_file.specs.declared.journal.Journal.{Journal}
use Rattle.site_defs.specs.Forward.{begun_mode}
use Rattle.site_files.specs.Loading.{MayBeOpened, WasRead, IsUncut, HasDrawnAs, HasCut, MayCutOff, MayDrawAs, HasBegun, AreCut, AreNext, AreJournalsOf, AreUnbegun, IsNoLonger, IsWritten, last_of, first_by, next_cut, next_journal, next_broken, next_pini_as}
use Rattle.site_files.proofs.Beginning.{told_on, Sometime}

-- a CUT gives no region a mode
pub mode_cut : (rs : List InstanceRecord) (n g r : ℕ) → mode_of (rs ++ Cut n g ∷ []) r ≡ mode_of rs r
mode_cut [] n g r = refl
mode_cut (x ∷ rs) n g r = ap (λ (o : Option Bool). option_or o (mode_in x r)) (mode_cut rs n g r)

pub first_same : (anew : Bool) (rs qs : List InstanceRecord) (lasts : List ℕ) (n g : ℕ) → qs ≡ rs ++ next_cut rs n ∷ [] → g ≡ suc (generation rs) → (r : ℕ) → first_by anew qs g lasts r ≡ next_pini_as anew rs (last_of lasts) r
first_same anew rs qs lasts n g is g_is r =
    ap (λ (o : Option Bool). pini r (not anew && unwrap_or o true) g (last_of lasts r)) (ap (λ (l : List InstanceRecord). mode_of l r) is ∙ mode_cut rs n (generation rs + 1) r)
    ∙ ap (λ (k : ℕ). pini r (begun_mode anew rs r) k (last_of lasts r)) g_is

-- the generation that a CUT draws is the newest one
pub newest_is : (rs qs : List InstanceRecord) (n : ℕ) → qs ≡ rs ++ next_cut rs n ∷ [] → generation qs ≡ suc (generation rs)
newest_is rs qs n is =
    let drawn : generation (rs ++ next_cut rs n ∷ []) ≡ generation rs + 1 = generation-cut rs n (generation rs + 1) (omega arith) in
    let same : generation qs ≡ generation (rs ++ next_cut rs n ∷ []) = ap generation is in
    omega (arith, drawn, same)

-- an instance file that is open for calls has its records, where the disk tells its files
pub records_told : (v : View) (i : Instance) → IfSome v.content (HoldsRecords v i i.records) → IfSome v.content (λ _. HasRecords v i i.records)
records_told v i state = among v.content state
  where
    among : (o : Option Files) → IfSome o (HoldsRecords v i i.records) → IfSome o (λ _. IsSomeAnd o (HoldsRecords v i i.records))
    among None h = tt
    among (Some a) h = h

-- whatever generations began last
pub read_any : (u : View) (rs : List InstanceRecord) (last : ℕ → ℕ) → IfSome u.content (λ files. (journal : ℕ → List Placed) × WasRead u rs last journal files)
    → IfSome u.content (λ files. (any : ℕ → ℕ) × (journal : ℕ → List Placed) × WasRead u rs any journal files)
read_any u rs last read = weaker_told u.content (λ files. (journal : ℕ → List Placed) × WasRead u rs last journal files) (λ files. (any : ℕ → ℕ) × (journal : ℕ → List Placed) × WasRead u rs any journal files) read (λ files r. (last, r.0, r.1))

-- a fact under a premise that holds
pub given : (o : Option Files) (P : Files → Type 0) → IfSome o P → IfSome o (λ files. Unit {0} → P files)
given o P p = weaker_told o P (λ files. Unit {0} → P files) p (λ files is _. is)

pub taken : (o : Option Files) (P : Files → Type 0) → IfSome o (λ files. Unit {0} → P files) → IfSome o P
taken o P p = weaker_told o (λ files. Unit {0} → P files) P p (λ files is. is tt)

written_length : (text was now : List ℕ) → IsWritten text was now → IsNoLonger text was now
written_length text was now is = elim is [
  | inl e ↦ let size : length now ≡ length text = ap length e in omega (arith, size)
  | inr both ↦ let size : length now ≡ length was = ap length both.1 in omega (arith, size)
]

module _ (rs : List InstanceRecord) (n : ℕ) (text : List ℕ) (any : ℕ → ℕ) (form : MayBeOpened rs any) where
  abbrev pub m0 : ℕ
  m0 = length (regions rs)

  abbrev pub g0 : ℕ
  g0 = suc (generation rs)

  abbrev pub with_cut : List InstanceRecord
  with_cut = rs ++ next_cut rs n ∷ []

  pub journal_apart : (r : ℕ) → r < m0 → next_journal rs r ≡ next_broken rs → ⊥
  journal_apart r low e = let few = form.few_regions in let room = form.room in omega (arith, e, low, few, room)

  journal_kept_apart : (r : ℕ) → r < m0 → AreCut rs (next_journal rs r) → ⊥
  journal_kept_apart r low is = elim is [
    | inl e ↦ omega (arith, e)
    | inr e ↦ journal_apart r low e
  ]

  -- files where the text alone was written
  uncut_by : (a b : Files) → IsInstance (a INSTANCE) rs → AreUnbegun g0 m0 a → OnFile (next_broken rs) (IsNoLonger text) a b → IsUncut rs text a b
  uncut_by a b is none on = record {
    others = λ f ne away far. on.others f away;
    instance = subst (λ (l : List ℕ). IsInstance l rs) (sym (on.others INSTANCE (λ e. omega (arith, e)))) is;
    text = on.here;
    next = λ r low. ap records (on.others (next_journal rs r) (journal_apart r low)) ∙ none r low;
  }

  -- and then the CUT
  drawn_first : (a d c : Files) → AreUnbegun g0 m0 a → OnFile (next_broken rs) (IsWritten text) a d → SameOutside (Only INSTANCE) d c → IsInstance (c INSTANCE) with_cut → HasCut rs n text a c
  drawn_first a d c none on same is = λ last. record {
    others = λ f ne away far. same f ne ∙ on.others f away;
    instance = is;
    text = subst (λ (l : List ℕ). IsWritten text (a (next_broken rs)) l) (sym (same (next_broken rs) (λ e. omega (arith, e)))) on.here;
    begun = λ r low below. absurd (omega (arith, below));
    unbegun = λ r low least. ap records (same (next_journal rs r) (λ e. omega (arith, e)) ∙ on.others (next_journal rs r) (journal_apart r low)) ∙ none r low;
  }

  cut_by : (a d c : Files) → AreUnbegun g0 m0 a → OnFile (next_broken rs) (IsWritten text) a d → SameOutside (Only INSTANCE) d c → StandsWith rs (next_cut rs n) (c INSTANCE) → MayCutOff rs n text a c
  cut_by a d c none on same stands = elim stands [
    | inl is ↦ inl (record {
      others = λ f ne away far. same f ne ∙ on.others f away;
      instance = is;
      text = written_length text (a (next_broken rs)) (c (next_broken rs)) (subst (λ (l : List ℕ). IsWritten text (a (next_broken rs)) l) (sym (same (next_broken rs) (λ e. omega (arith, e)))) on.here);
      next = λ r low. ap records (same (next_journal rs r) (λ e. omega (arith, e)) ∙ on.others (next_journal rs r) (journal_apart r low)) ∙ none r low;
    })
    | inr is ↦ inr (drawn_first a d c none on same is)
  ]

  -- without a text nothing is written before the CUT
  not_written : text ≡ [] → (a : Files) → OnFile (next_broken rs) (IsWritten text) a a
  not_written none a = record { here = inr (none, refl); others = λ f ne. refl }

  abbrev pub Cutting : View → Files → Type 0
  Cutting u = From (Image u) (MayCutOff rs n text)

  module _ (u : View) (read : IfSome u.content (λ files. (last : ℕ → ℕ) × (journal : ℕ → List Placed) × WasRead u rs last journal files)) where
    abbrev pub Told : Files → Type 0
    Told files = (last : ℕ → ℕ) × (journal : ℕ → List Placed) × WasRead u rs last journal files

    abbrev pub IsShort : Files → Type 0
    IsShort files = length (files (next_broken rs)) ≤ length text

    was_instance : (files : Files) → Told files → (d : Files) → Image u d → IsInstance (d INSTANCE) rs
    was_instance files r d image = subst (λ (b : List ℕ). IsInstance b rs) (sym (r.2.instance d image)) r.2.holds.instance

    none_yet : (files : Files) → Told files → (d : Files) → Image u d → AreUnbegun g0 m0 d
    none_yet files r d image q low = ap records (r.2.next q low d image) ∙ r.2.holds.next q low

    pub none_here : IfSome u.content (λ _. (d : Files) → Image u d → AreUnbegun g0 m0 d)
    none_here = weaker_told u.content Told (λ _. (d : Files) → Image u d → AreUnbegun g0 m0 d) read none_yet

    -- the text is written, and then the CUT
    module _ (t : View) where
      pub text_moments : AtEachMoment u t (From (Image u) (OnFile (next_broken rs) (IsNoLonger text))) → IfSome u.content (λ files. IsShort files → AtEachMoment u t (Cutting u))
      text_moments run = weaker_told u.content Told (λ files. IsShort files → AtEachMoment u t (Cutting u)) read
          (λ files r short. weaker u t (From (Image u) (OnFile (next_broken rs) (IsNoLonger text))) (Cutting u) (λ c q. (q.0, q.1, inl (uncut_by q.0 c (was_instance files r q.0 q.1) (none_yet files r q.0 q.1) q.2))) run)

      pub text_reads : ReadsAfter (OnFile (next_broken rs) (IsNoLonger text)) u.content t.content → IfSome u.content (λ files. IsShort files → IfSome t.content (MayCutOff rs n text files))
      text_reads after = among u.content t.content after read
        where
          among : (o p : Option Files) → ReadsAfter (OnFile (next_broken rs) (IsNoLonger text)) o p → IfSome o Told → IfSome o (λ files. IsShort files → IfSome p (MayCutOff rs n text files))
          among None p after r = tt
          among (Some a) None after r = absurd after
          among (Some a) (Some b) after r = λ short. inl (uncut_by a b r.2.holds.instance r.2.holds.next after)

      -- the instance file is on the disk as it was
      pub cut_stands : OthersStay (Only (next_broken rs)) u t → IfSome t.content (λ files. IsInstance (files INSTANCE) rs)
      cut_stands stays = among u.content t.content stays.content read
        where
          among : (o p : Option Files) → ReadsAfter (SameOutside (Only (next_broken rs))) o p → IfSome o Told → IfSome p (λ files. IsInstance (files INSTANCE) rs)
          among None p after r = subst (λ (x : Option Files). IfSome x (λ files. IsInstance (files INSTANCE) rs)) (sym after) tt
          among (Some a) None after r = absurd after
          among (Some a) (Some b) after r = subst (λ (l : List ℕ). IsInstance l rs) (sym (after INSTANCE (λ e. omega (arith, e)))) r.2.holds.instance

      pub cut_durable : OthersStay (Only (next_broken rs)) u t → IfSome t.content (λ files. (c : Files) → Image t c → c INSTANCE ≡ files INSTANCE)
      cut_durable stays = among u.content t.content stays.content read
        where
          among : (o p : Option Files) → ReadsAfter (SameOutside (Only (next_broken rs))) o p → IfSome o Told → IfSome p (λ files. (c : Files) → Image t c → c INSTANCE ≡ files INSTANCE)
          among None p after r = subst (λ (x : Option Files). IfSome x (λ files. (c : Files) → Image t c → c INSTANCE ≡ files INSTANCE)) (sym after) tt
          among (Some a) None after r = absurd after
          among (Some a) (Some b) after r = λ c now.
              let from = stays.images c now in
              from.2 INSTANCE (λ e. omega (arith, e)) ∙ r.2.instance from.0 from.1 ∙ sym (after INSTANCE (λ e. omega (arith, e)))

      module _ (v : View) (first_stays : OthersStay (Only (next_broken rs)) u t) (second_stays : OthersStay (Only INSTANCE) t v) where
        pub cut_frame : OthersStay (AreCut rs) u v
        cut_frame = others_then (AreCut rs) u t v (others_wider (Only (next_broken rs)) (AreCut rs) u t (λ f e. inr e) first_stays) (others_wider (Only INSTANCE) (AreCut rs) t v (λ f e. inl e) second_stays)

        module _ (done : IfSome u.content (λ files. IsShort files → (c : Files) → Image t c → From (Image u) (OnFile (next_broken rs) (IsWritten text)) c))
            (cut : IfSome t.content (λ _. AtEachMoment t v (OnlyOn t INSTANCE (StandsWith rs (next_cut rs n))))) where
          pub cut_moments : AtEachMoment u t (From (Image u) (OnFile (next_broken rs) (IsNoLonger text))) → IfSome u.content (λ files. IsShort files → AtEachMoment u v (Cutting u))
          cut_moments text_run = among u.content read (text_moments text_run) done (told_on u.content t.content (Only (next_broken rs)) (AtEachMoment t v (OnlyOn t INSTANCE (StandsWith rs (next_cut rs n)))) first_stays.content cut)
            where
              among : (o : Option Files) → IfSome o Told → IfSome o (λ files. IsShort files → AtEachMoment u t (Cutting u)) → IfSome o (λ files. IsShort files → (c : Files) → Image t c → From (Image u) (OnFile (next_broken rs) (IsWritten text)) c)
                  → IfSome o (λ _. AtEachMoment t v (OnlyOn t INSTANCE (StandsWith rs (next_cut rs n)))) → IfSome o (λ files. IsShort files → AtEachMoment u v (Cutting u))
              among None r so_far d q = tt
              among (Some a) r so_far d q = λ short. then_more u t v (Cutting u) (OnlyOn t INSTANCE (StandsWith rs (next_cut rs n))) (so_far short) q
                  (λ c is.
                  let from = d short is.others.0 is.others.1 in
                  (from.0, from.1, cut_by from.0 is.others.0 c (none_yet a r from.0 from.1) from.2 is.others.2 is.here))

          pub cut_images : (i : Instance) → IfSome t.content (λ _. HasRecords v i with_cut) → IfSome u.content (λ files. IsShort files → (c : Files) → Image v c → From (Image u) (HasCut rs n text) c)
          cut_images i has = among u.content read done (told_on u.content t.content (Only (next_broken rs)) (HasRecords v i with_cut) first_stays.content has)
            where
              among : (o : Option Files) → IfSome o Told → IfSome o (λ files. IsShort files → (c : Files) → Image t c → From (Image u) (OnFile (next_broken rs) (IsWritten text)) c) → IfSome o (λ _. HasRecords v i with_cut)
                  → IfSome o (λ files. IsShort files → (c : Files) → Image v c → From (Image u) (HasCut rs n text) c)
              among None r d h = tt
              among (Some a) r d h = λ short c now.
                  let mid = second_stays.images c now in
                  let from = d short mid.0 mid.1 in
                  (from.0, from.1, drawn_first from.0 mid.0 c (none_yet a r from.0 from.1) from.2 mid.2 (with_told v.content (HoldsRecords v i with_cut) (IsInstance (c INSTANCE) with_cut) h (λ now_is k. k.stands c now)))

        -- as it reads
        module _ (as_read : IfSome u.content (λ files. IsShort files → ReadsAfter (OnFile (next_broken rs) (IsWritten text)) u.content t.content)) where
          pub cut_reads : IsLawful v → IfSome t.content (λ _. AtEachMoment t v (OnlyOn t INSTANCE (StandsWith rs (next_cut rs n)))) → IfSome u.content (λ files. IsShort files → IfSome v.content (MayCutOff rs n text files))
          cut_reads lawful cut = among u.content t.content v.content first_stays.content second_stays.content read as_read cut lawful.as_read
            where
              among : (o m p : Option Files) → ReadsAfter (SameOutside (Only (next_broken rs))) o m → ReadsAfter (SameOutside (Only INSTANCE)) m p → IfSome o Told
                  → IfSome o (λ files. IsShort files → ReadsAfter (OnFile (next_broken rs) (IsWritten text)) o m) → IfSome m (λ _. AtEachMoment t v (OnlyOn t INSTANCE (StandsWith rs (next_cut rs n)))) → IfSome p (λ now. Image v now)
                  → IfSome o (λ files. IsShort files → IfSome p (MayCutOff rs n text files))
              among None m p after next r w q now = tt
              among (Some a) None p after next r w q now = absurd after
              among (Some a) (Some d) None after next r w q now = absurd next
              among (Some a) (Some d) (Some c) after next r w q now = λ short.
                  let is = holds_now t v (OnlyOn t INSTANCE (StandsWith rs (next_cut rs n))) lawful q c now in
                  cut_by a d c r.2.holds.next (w short) next is.here

          pub cut_as_read : (i : Instance) → IfSome t.content (λ _. HasRecords v i with_cut) → IfSome u.content (λ files. IsShort files → IfSome v.content (HasCut rs n text files))
          cut_as_read i has = among u.content t.content v.content first_stays.content second_stays.content read as_read has
            where
              among : (o m p : Option Files) → ReadsAfter (SameOutside (Only (next_broken rs))) o m → ReadsAfter (SameOutside (Only INSTANCE)) m p → IfSome o Told
                  → IfSome o (λ files. IsShort files → ReadsAfter (OnFile (next_broken rs) (IsWritten text)) o m) → IfSome m (λ _. IsSomeAnd p (HoldsRecords v i with_cut)) → IfSome o (λ files. IsShort files → IfSome p (HasCut rs n text files))
              among None m p after next r w h = tt
              among (Some a) None p after next r w h = absurd after
              among (Some a) (Some d) None after next r w h = absurd next
              among (Some a) (Some d) (Some c) after next r w h = λ short. drawn_first a d c r.2.holds.next (w short) next h.reads

  -- no journal has begun before
  module _ (u : View) (unbegun : IfSome u.content (λ _. (d : Files) → Image u d → AreUnbegun g0 m0 d)) where
    -- the CUT is appended to the open instance file, and there is no text
    module _ (v : View) (none : text ≡ []) (stays : OthersStay (Only INSTANCE) u v) where
      pub open_frame : OthersStay (AreCut rs) u v
      open_frame = others_wider (Only INSTANCE) (AreCut rs) u v (λ f e. inl e) stays

      pub open_moments : IfSome u.content (λ _. AtEachMoment u v (OnlyOn u INSTANCE (StandsWith rs (next_cut rs n)))) → IfSome u.content (λ _. AtEachMoment u v (Cutting u))
      open_moments cut = both_weak u.content (λ _. (d : Files) → Image u d → AreUnbegun g0 m0 d) (λ _. AtEachMoment u v (OnlyOn u INSTANCE (StandsWith rs (next_cut rs n)))) (λ _. AtEachMoment u v (Cutting u)) unbegun cut
          (λ files each run. weaker u v (OnlyOn u INSTANCE (StandsWith rs (next_cut rs n))) (Cutting u)
          (λ c is. (is.others.0, is.others.1, cut_by is.others.0 is.others.0 c (each is.others.0 is.others.1) (not_written none is.others.0) is.others.2 is.here)) run)

      pub open_reads : IsLawful u → IsLawful v → IfSome u.content (λ _. AtEachMoment u v (OnlyOn u INSTANCE (StandsWith rs (next_cut rs n)))) → IfSome u.content (λ files. IfSome v.content (MayCutOff rs n text files))
      open_reads lawful_u lawful cut = among u.content v.content stays.content unbegun lawful_u.as_read cut lawful.as_read
        where
          among : (o p : Option Files) → ReadsAfter (SameOutside (Only INSTANCE)) o p → IfSome o (λ _. (d : Files) → Image u d → AreUnbegun g0 m0 d) → IfSome o (λ was. Image u was) → IfSome o (λ _. AtEachMoment u v (OnlyOn u INSTANCE (StandsWith rs (next_cut rs n))))
              → IfSome p (λ now. Image v now) → IfSome o (λ files. IfSome p (MayCutOff rs n text files))
          among None p after each was q now = tt
          among (Some a) None after each was q now = absurd after
          among (Some a) (Some c) after each was q now =
              let is = holds_now u v (OnlyOn u INSTANCE (StandsWith rs (next_cut rs n))) lawful q c now in
              cut_by a a c (each a was) (not_written none a) after is.here

      module _ (i : Instance) (has : IfSome u.content (λ _. HasRecords v i with_cut)) where
        pub open_images : IfSome u.content (λ _. (c : Files) → Image v c → From (Image u) (HasCut rs n text) c)
        open_images = both_weak u.content (λ _. (d : Files) → Image u d → AreUnbegun g0 m0 d) (λ _. HasRecords v i with_cut) (λ _. (c : Files) → Image v c → From (Image u) (HasCut rs n text) c) unbegun has
            (λ files each h c now.
            let from = stays.images c now in
            (from.0, from.1, drawn_first from.0 from.0 c (each from.0 from.1) (not_written none from.0) from.2 (with_told v.content (HoldsRecords v i with_cut) (IsInstance (c INSTANCE) with_cut) h (λ now_is k. k.stands c now))))

        pub open_as_read : IsLawful u → IfSome u.content (λ files. IfSome v.content (HasCut rs n text files))
        open_as_read lawful_u = among u.content v.content stays.content unbegun lawful_u.as_read has
          where
            among : (o p : Option Files) → ReadsAfter (SameOutside (Only INSTANCE)) o p → IfSome o (λ _. (d : Files) → Image u d → AreUnbegun g0 m0 d) → IfSome o (λ was. Image u was) → IfSome o (λ _. IsSomeAnd p (HoldsRecords v i with_cut))
                → IfSome o (λ files. IfSome p (HasCut rs n text files))
            among None p after each was h = tt
            among (Some a) None after each was h = absurd after
            among (Some a) (Some c) after each was h = drawn_first a a c (each a was) (not_written none a) after h.reads

    -- Once it's cut off. `S` is what the clauses take of the files from before.
    module _ (v : View) (cut_stays : OthersStay (AreCut rs) u v) where
      -- no journal has begun yet
      pub unbegun_here : IfSome v.content (λ _. (f : Files) → Image v f → AreUnbegun g0 m0 f)
      unbegun_here = among u.content v.content cut_stays.content unbegun
        where
          among : (o p : Option Files) → ReadsAfter (SameOutside (AreCut rs)) o p → IfSome o (λ _. (d : Files) → Image u d → AreUnbegun g0 m0 d) → IfSome p (λ _. (f : Files) → Image v f → AreUnbegun g0 m0 f)
          among None p after each = subst (λ (x : Option Files). IfSome x (λ _. (f : Files) → Image v f → AreUnbegun g0 m0 f)) (sym after) tt
          among (Some a) None after each = absurd after
          among (Some a) (Some b) after each = λ f now q low.
              let from = cut_stays.images f now in
              ap records (from.2 (next_journal rs q) (journal_kept_apart q low)) ∙ each from.0 from.1 q low

      pub draw_frame : OthersStay (AreNext rs) u v
      draw_frame = others_wider (AreCut rs) (AreNext rs) u v (λ f is. elim is [
        | inl e ↦ inl e
        | inr e ↦ inr (inl e)
      ]) cut_stays

      module _ (anew : Bool) (last : ℕ → ℕ) (S : Files → Type 0) where
        abbrev pub Drawing : Files → Type 0
        Drawing = From (Image u) (MayDrawAs anew rs n text last)

        -- before any region begins it's the same in both ways
        none_begun : (a b : Files) → HasCut rs n text a b → HasDrawnAs anew rs n text last 0 a b
        none_begun a b cut =
            let drawn = cut last in
            record { others = drawn.others; instance = drawn.instance; text = drawn.text; begun = λ r low below. absurd (omega (arith, below)); unbegun = drawn.unbegun }

        to_drawing : (a b : Files) → MayCutOff rs n text a b → MayDrawAs anew rs n text last a b
        to_drawing a b may = elim may [
          | inl cut ↦ inl cut
          | inr cut ↦ inr (0, none_begun a b cut)
        ]

        pub draw_moments : IfSome u.content (λ files. S files → AtEachMoment u v (Cutting u)) → IfSome u.content (λ files. S files → AtEachMoment u v Drawing)
        draw_moments run = weaker_told u.content (λ files. S files → AtEachMoment u v (Cutting u)) (λ files. S files → AtEachMoment u v Drawing) run
            (λ files r short. weaker u v (Cutting u) Drawing (λ c q. (q.0, q.1, to_drawing q.0 c q.2)) (r short))

        pub draw_reads : IfSome u.content (λ files. S files → IfSome v.content (MayCutOff rs n text files)) → IfSome u.content (λ files. S files → IfSome v.content (MayDrawAs anew rs n text last files))
        draw_reads reads = weaker_told u.content (λ files. S files → IfSome v.content (MayCutOff rs n text files)) (λ files. S files → IfSome v.content (MayDrawAs anew rs n text last files)) reads
            (λ files r short. weaker_told v.content (MayCutOff rs n text files) (MayDrawAs anew rs n text last files) (r short) (λ b may. to_drawing files b may))

        -- and some regions begin
        module _ (w : View) (g m : ℕ) (first : ℕ → JournalRecord) (g_is : g ≡ g0) (m_is : m ≡ m0) (first_is : (r : ℕ) → first r ≡ next_pini_as anew rs last r) where
          as_next : (k : ℕ) (was now : Files) → HasBegun g m first k was now → HasBegun g0 m0 (next_pini_as anew rs last) k was now
          as_next k was now h = subst (λ (f : ℕ → JournalRecord). HasBegun g0 m0 f k was now) (fun_ext first_is) (subst (λ (x : ℕ). HasBegun g0 x first k was now) m_is (subst (λ (x : ℕ). HasBegun x m first k was now) g_is h))

          drawn_further : (a d c : Files) (k : ℕ) → HasCut rs n text a d → HasBegun g0 m0 (next_pini_as anew rs last) k d c → HasDrawnAs anew rs n text last k a c
          drawn_further a d c k cut has =
              let before = cut last in
              record {
                others = λ f ne away far. has.others f (λ o. far o.0 o.1 o.2) ∙ before.others f ne away far;
                instance = subst (λ (l : List ℕ). IsInstance l with_cut) (sym (has.others INSTANCE (λ o. let e = o.2 in omega (arith, e)))) before.instance;
                text = subst (λ (l : List ℕ). IsWritten text (a (next_broken rs)) l) (sym (has.others (next_broken rs) (λ o. journal_apart o.0 o.1 (sym o.2)))) before.text;
                begun = has.begun;
                unbegun = has.unbegun;
              }

          on_u : (X : Type 0) → IfSome v.content (λ _. X) → IfSome u.content (λ _. X)
          on_u X x = told_on u.content v.content (AreCut rs) X cut_stays.content x

          module _ (images : IfSome u.content (λ files. S files → (f : Files) → Image v f → From (Image u) (HasCut rs n text) f)) where
            pub all_moments : IfSome u.content (λ files. S files → AtEachMoment u v (Cutting u)) → IfSome v.content (λ _. AtEachMoment v w (Sometime v g m first)) → IfSome u.content (λ files. S files → AtEachMoment u w Drawing)
            all_moments so_far run = among u.content (draw_moments so_far) images (on_u (AtEachMoment v w (Sometime v g m first)) run)
              where
                among : (o : Option Files) → IfSome o (λ files. S files → AtEachMoment u v Drawing) → IfSome o (λ files. S files → (c : Files) → Image v c → From (Image u) (HasCut rs n text) c)
                    → IfSome o (λ _. AtEachMoment v w (Sometime v g m first)) → IfSome o (λ files. S files → AtEachMoment u w Drawing)
                among None so_far d q = tt
                among (Some a) so_far d q = λ short. then_more u v w Drawing (Sometime v g m first) (so_far short) q
                    (λ c is.
                    let from = d short is.0 is.1 in
                    (from.0, from.1, inr (is.2.0, drawn_further from.0 is.0 c is.2.0 from.2 (as_next is.2.0 is.0 c is.2.1))))

            pub has_drawn : IfSome v.content (λ _. (f : Files) → Image w f → From (Image v) (HasBegun g m first m) f) → IfSome u.content (λ files. S files → (f : Files) → Image w f → From (Image u) (HasDrawnAs anew rs n text last m0) f)
            has_drawn begun = among u.content images (on_u ((f : Files) → Image w f → From (Image v) (HasBegun g m first m) f) begun)
              where
                among : (o : Option Files) → IfSome o (λ files. S files → (c : Files) → Image v c → From (Image u) (HasCut rs n text) c) → IfSome o (λ _. (f : Files) → Image w f → From (Image v) (HasBegun g m first m) f)
                    → IfSome o (λ files. S files → (f : Files) → Image w f → From (Image u) (HasDrawnAs anew rs n text last m0) f)
                among None d b = tt
                among (Some a) d b = λ short f now.
                    let mid = b f now in
                    let from = d short mid.0 mid.1 in
                    (from.0, from.1, subst (λ (k : ℕ). HasDrawnAs anew rs n text last k from.0 f) m_is (drawn_further from.0 mid.0 f m from.2 (as_next m mid.0 f mid.2)))

          pub journals_told : (js : List Journal) → IfSome v.content (λ _. (r : ℕ) (j : Journal) → slice_get js r ≡ Some j → journals.HasRecords w j (settled (first r ∷ [])))
              → IfSome u.content (λ _. (r : ℕ) (j : Journal) → slice_get js r ≡ Some j → journals.HasRecords w j (settled (next_pini_as anew rs last r ∷ [])))
          journals_told js told = on_u ((r : ℕ) (j : Journal) → slice_get js r ≡ Some j → journals.HasRecords w j (settled (next_pini_as anew rs last r ∷ [])))
              (weaker_told v.content (λ _. (r : ℕ) (j : Journal) → slice_get js r ≡ Some j → journals.HasRecords w j (settled (first r ∷ []))) (λ _. (r : ℕ) (j : Journal) → slice_get js r ≡ Some j → journals.HasRecords w j (settled (next_pini_as anew rs last r ∷ [])))
              told (λ files each r j is. subst (λ (x : JournalRecord). journals.HasRecords w j (settled (x ∷ []))) (first_is r) (each r j is)))

          module _ (stays : OthersStay (AreJournalsOf g m) v w) where
            in_next : (f : ℕ) → AreJournalsOf g m f → (r : ℕ) × (r < m0) × (f ≡ next_journal rs r)
            in_next f o = (o.0, subst (λ (k : ℕ). o.0 < k) m_is o.1, o.2 ∙ ap (λ (k : ℕ). journal_file k o.0) g_is)

            pub all_frame : OthersStay (AreNext rs) u w
            all_frame = others_then (AreNext rs) u v w draw_frame (others_wider (AreJournalsOf g m) (AreNext rs) v w (λ f o. inr (inr (in_next f o))) stays)

            -- as it reads
            pub reads_begun : IsLawful w → IfSome u.content (λ files. S files → IfSome v.content (HasCut rs n text files)) → IfSome v.content (λ _. AtEachMoment v w (Sometime v g m first)) → IfSome u.content (λ files. S files → IfSome w.content (MayDrawAs anew rs n text last files))
            reads_begun lawful cut run = among u.content v.content w.content cut_stays.content stays.content cut run lawful.as_read
              where
                by : (a d c : Files) (k : ℕ) → HasCut rs n text a d → SameOutside (AreJournalsOf g m) d c → (x : Files) → HasBegun g0 m0 (next_pini_as anew rs last) k x c → HasDrawnAs anew rs n text last k a c
                by a d c k cut same x has =
                    let before = cut last in
                    record {
                      others = λ f ne away far. same f (λ o. let q = in_next f o in far q.0 q.1 q.2) ∙ before.others f ne away far;
                      instance = subst (λ (l : List ℕ). IsInstance l with_cut) (sym (same INSTANCE (λ o. let e = o.2 in omega (arith, e)))) before.instance;
                      text = subst (λ (l : List ℕ). IsWritten text (a (next_broken rs)) l) (sym (same (next_broken rs) (λ o. let q = in_next (next_broken rs) o in journal_apart q.0 q.1 (sym q.2)))) before.text;
                      begun = has.begun;
                      unbegun = has.unbegun;
                    }

                among : (o e p : Option Files) → ReadsAfter (SameOutside (AreCut rs)) o e → ReadsAfter (SameOutside (AreJournalsOf g m)) e p → IfSome o (λ files. S files → IfSome e (HasCut rs n text files))
                    → IfSome e (λ _. AtEachMoment v w (Sometime v g m first)) → IfSome p (λ now. Image w now) → IfSome o (λ files. S files → IfSome p (MayDrawAs anew rs n text last files))
                among None e p after next d q now = tt
                among (Some a) None p after next d q now = absurd after
                among (Some a) (Some e) None after next d q now = absurd next
                among (Some a) (Some e) (Some b) after next d q now = λ short.
                    let is = holds_now v w (Sometime v g m first) lawful q b now in
                    inr (is.2.0, by a e b is.2.0 (d short) next is.0 (as_next is.2.0 is.0 b is.2.1))
