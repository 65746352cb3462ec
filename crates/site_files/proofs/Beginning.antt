-- Journals of a generation that begin, one after another.
use Rattle.std.proofs.Common.{◌≡◌, ◌⊎◌, inl, inr, ℕ, zero, suc, ◌≤◌, ◌<◌, List, [], ◌∷◌, ◌++◌, length, take, Option, Some, None, IfSome, refl, sym, ◌∙◌, ap, subst, arith}
use Rattle.std.specs.List.{AllZip, slice_get}
use Rattle.std.proofs.lemmas.Bool.{cases_lt}
use Rattle.disk_defs.specs.Disk.{Files, View, Image, IsLawful, From, AtEachMoment, ReadsAfter}
use Rattle.disk_defs.specs.Frames.{Only, SameOutside, OthersStay}
use Rattle.disk_defs.specs.Gates.{Body, records}
use Rattle.disk_defs.proofs.Told.{with_told, weaker_told, both_weak}
use Rattle.disk_defs.proofs.Moments.{started, then_more}
use Rattle.disk_defs.proofs.Frames.{others_then, others_wider}
use Rattle.journal_defs.specs.Numbers.{journal_file}
use Rattle.journal_defs.specs.Journal.{JournalRecord, IsJournalBody}
use Rattle.journal_defs.specs.Stands.{Holds}
use Rattle.jnl_file.specs.Begin.{MayBegin}
use Rattle.jnl_file.specs.Journal as journals
use Rattle.jnl_file.specs.Records.{StandsRecords, settled}
use Rattle.jnl_file.specs.declared.journal.Journal.{Journal}
use Rattle.jnl_file.proofs.Others as others
use Rattle.site_files.specs.Loading.{HasBegun, AreJournalsOf, AreUnbegun}

pub told_on : (o p : Option Files) (F : ℕ → Type 0) (X : Type 0) → ReadsAfter (SameOutside F) o p → IfSome p (λ _. X) → IfSome o (λ _. X)
told_on None p F X after x = tt
told_on (Some a) None F X after x = absurd after
told_on (Some a) (Some b) F X after x = x

-- no journal has less than nothing
none_zip : (bodies : List Body) → AllZip IsJournalBody bodies [] → bodies ≡ []
none_zip [] zip = refl
none_zip (b ∷ bodies) zip = absurd zip

none_held : (file : List ℕ) → Holds IsJournalBody file [] → records file ≡ Some []
none_held file h = h.1 ∙ ap Some (none_zip h.0 h.2)

or_none : (first : JournalRecord) (file : List ℕ) → StandsRecords [] (first ∷ []) file → (records file ≡ Some []) ⊎ Holds IsJournalBody file (first ∷ [])
or_none first file stands = by_count stands.0 stands.1 stands.2
  where
    by_count : (n : ℕ) → n ≤ 1 → Holds IsJournalBody file ([] ++ take n (first ∷ [])) → (records file ≡ Some []) ⊎ Holds IsJournalBody file (first ∷ [])
    by_count zero few h = inl (none_held file h)
    by_count (suc zero) few h = inr h
    by_count (suc (suc n)) few h = absurd (omega (arith, few))

all_held : (first : JournalRecord) (file : List ℕ) → StandsRecords (first ∷ []) [] file → Holds IsJournalBody file (first ∷ [])
all_held first file stands = by_count stands.0 stands.2
  where
    by_count : (n : ℕ) → Holds IsJournalBody file ((first ∷ []) ++ take n []) → Holds IsJournalBody file (first ∷ [])
    by_count zero h = h
    by_count (suc n) h = h

-- the last element of a list, or one before it
pub last_or : {X : Type 0} (xs : List X) (y : X) (q : ℕ) (x : X) → slice_get (xs ++ y ∷ []) q ≡ Some x → ((q < length xs) × (slice_get xs q ≡ Some x)) ⊎ ((q ≡ length xs) × (y ≡ x))
last_or [] y zero x is = inr (refl, cc is)
last_or [] y (suc q) x is = absurd (cc is)
last_or (z ∷ xs) y zero x is = inl (omega arith, is)
last_or (z ∷ xs) y (suc q) x is = elim (last_or xs y q x is) [
  | inl both ↦ let low = both.0 in inl (omega (arith, low), both.1)
  | inr both ↦ inr (ap suc both.0, both.1)
]

-- before the first one
module _ (u : View) (g n : ℕ) (first : ℕ → JournalRecord) where
  abbrev pub Sometime : Files → Type 0
  Sometime = From (Image u) (λ was now. (k : ℕ) × HasBegun g n first k was now)

  none_begun : (c : Files) → AreUnbegun g n c → HasBegun g n first 0 c c
  none_begun c none = record { others = λ f out. refl; begun = λ r low below. absurd (omega (arith, below)); unbegun = λ r low least. none r low }

  pub first_images : (o : Option Files) → IfSome o (λ _. (f : Files) → Image u f → AreUnbegun g n f) → IfSome o (λ _. (f : Files) → Image u f → From (Image u) (HasBegun g n first 0) f)
  first_images o none = weaker_told o (λ _. (f : Files) → Image u f → AreUnbegun g n f) (λ _. (f : Files) → Image u f → From (Image u) (HasBegun g n first 0) f) none
      (λ files each f now. (f, now, none_begun f (each f now)))

  pub first_moments : (o : Option Files) → IfSome o (λ _. (f : Files) → Image u f → AreUnbegun g n f) → IfSome o (λ _. AtEachMoment u u Sometime)
  first_moments o none = weaker_told o (λ _. (f : Files) → Image u f → AreUnbegun g n f) (λ _. AtEachMoment u u Sometime) none
      (λ files each. started u Sometime (λ f now. (f, now, (0, none_begun f (each f now)))))

-- one more
module _ (u v w : View) (g n : ℕ) (first : ℕ → JournalRecord) (r : ℕ) (low : r < n) where
  further : (a d c : Files) → HasBegun g n first r a d → SameOutside (Only (journal_file g r)) d c → Holds IsJournalBody (c (journal_file g r)) (first r ∷ []) → HasBegun g n first (suc r) a c
  further a d c has same here = record {
    others = λ f out. same f (λ e. out (r, low, e)) ∙ has.others f out;
    begun = λ q in_n below. elim (cases_lt q r) [
      | inl less ↦ subst (λ (b : List ℕ). Holds IsJournalBody b (first q ∷ [])) (sym (same (journal_file g q) (λ e. omega (arith, e, less)))) (has.begun q in_n less)
      | inr least ↦
          let is : r ≡ q = omega (arith, below, least) in
          subst (λ (k : ℕ). Holds IsJournalBody (c (journal_file g k)) (first k ∷ [])) is here
    ];
    unbegun = λ q in_n past. ap records (same (journal_file g q) (λ e. omega (arith, e, past))) ∙ has.unbegun q in_n (omega (arith, past));
  }

  still : (a d c : Files) → HasBegun g n first r a d → SameOutside (Only (journal_file g r)) d c → records (c (journal_file g r)) ≡ Some [] → HasBegun g n first r a c
  still a d c has same here = record {
    others = λ f out. same f (λ e. out (r, low, e)) ∙ has.others f out;
    begun = λ q in_n less. subst (λ (b : List ℕ). Holds IsJournalBody b (first q ∷ [])) (sym (same (journal_file g q) (λ e. omega (arith, e, less)))) (has.begun q in_n less);
    unbegun = λ q in_n least. elim (cases_lt r q) [
      | inl past ↦ ap records (same (journal_file g q) (λ e. omega (arith, e, past))) ∙ has.unbegun q in_n least
      | inr most ↦
          let is : r ≡ q = omega (arith, least, most) in
          subst (λ (k : ℕ). records (c (journal_file g k)) ≡ Some []) is here
    ];
  }

  begun_by : ((f : Files) → Image v f → From (Image u) (HasBegun g n first r) f) → (c : Files) → MayBegin v (journal_file g r) (first r) c → Sometime u g n first c
  begun_by so_far c q =
      let from = so_far q.0 q.1 in
      elim q.2.here [
        | inl kept ↦ (from.0, from.1, (r, still from.0 q.0 c from.2 q.2.others (kept ∙ from.2.unbegun r low (omega arith))))
        | inr stands ↦ elim (or_none (first r) (c (journal_file g r)) stands) [
          | inl none ↦ (from.0, from.1, (r, still from.0 q.0 c from.2 q.2.others none))
          | inr begun ↦ (from.0, from.1, (suc r, further from.0 q.0 c from.2 q.2.others begun))
        ]
      ]

  module _ (before : OthersStay (AreJournalsOf g n) u v) (begun : IfSome u.content (λ _. (f : Files) → Image v f → From (Image u) (HasBegun g n first r) f)) where
    pub moments_more : IfSome u.content (λ _. AtEachMoment u v (Sometime u g n first)) → IfSome v.content (λ _. AtEachMoment v w (MayBegin v (journal_file g r) (first r))) → IfSome u.content (λ _. AtEachMoment u w (Sometime u g n first))
    moments_more so_far call = both_weak u.content (λ _. ((f : Files) → Image v f → From (Image u) (HasBegun g n first r) f) × AtEachMoment u v (Sometime u g n first)) (λ _. AtEachMoment v w (MayBegin v (journal_file g r) (first r))) (λ _. AtEachMoment u w (Sometime u g n first))
        (both_weak u.content (λ _. (f : Files) → Image v f → From (Image u) (HasBegun g n first r) f) (λ _. AtEachMoment u v (Sometime u g n first)) (λ _. ((f : Files) → Image v f → From (Image u) (HasBegun g n first r) f) × AtEachMoment u v (Sometime u g n first)) begun so_far (λ files b m. (b, m)))
        (told_on u.content v.content (AreJournalsOf g n) (AtEachMoment v w (MayBegin v (journal_file g r) (first r))) before.content call)
        (λ files b m. then_more u v w (Sometime u g n first) (MayBegin v (journal_file g r) (first r)) b.1 m (λ c q. begun_by b.0 c q))

    pub begun_more : (j : Journal) → OthersStay (Only (journal_file g r)) v w → j.gated.file ≡ journal_file g r → IfSome v.content (λ _. journals.HasRecords w j (settled (first r ∷ [])))
        → IfSome u.content (λ _. (f : Files) → Image w f → From (Image u) (HasBegun g n first (suc r)) f)
    begun_more j stays at has = both_weak u.content (λ _. (f : Files) → Image v f → From (Image u) (HasBegun g n first r) f) (λ _. journals.HasRecords w j (settled (first r ∷ []))) (λ _. (f : Files) → Image w f → From (Image u) (HasBegun g n first (suc r)) f)
        begun (told_on u.content v.content (AreJournalsOf g n) (journals.HasRecords w j (settled (first r ∷ []))) before.content has)
        (λ files b h f image.
        let mid = stays.images f image in
        let from = b mid.0 mid.1 in
        let stands : StandsRecords (first r ∷ []) [] (f j.gated.file) = with_told w.content (journals.HoldsRecords w j (settled (first r ∷ []))) (StandsRecords (first r ∷ []) [] (f j.gated.file)) h (λ now held. held.stands f image) in
        (from.0, from.1, further from.0 mid.0 f from.2 mid.2 (all_held (first r) (f (journal_file g r)) (subst (λ (k : ℕ). StandsRecords (first r ∷ []) [] (f k)) at stands))))

    pub empty_here : IsLawful v → IfSome v.content (λ files. records (files (journal_file g r)) ≡ Some [])
    empty_here lawful = among u.content v.content before.content begun lawful.as_read
      where
        among : (o p : Option Files) → ReadsAfter (SameOutside (AreJournalsOf g n)) o p → IfSome o (λ _. (f : Files) → Image v f → From (Image u) (HasBegun g n first r) f) → IfSome p (λ now. Image v now) → IfSome p (λ files. records (files (journal_file g r)) ≡ Some [])
        among None p after b read = subst (λ (x : Option Files). IfSome x (λ files. records (files (journal_file g r)) ≡ Some [])) (sym after) tt
        among (Some a) None after b read = absurd after
        among (Some a) (Some c) after b read = (b c read).2.unbegun r low (omega arith)

    pub frame_more : OthersStay (Only (journal_file g r)) v w → OthersStay (AreJournalsOf g n) u w
    frame_more stays = others_then (AreJournalsOf g n) u v w before (others_wider (Only (journal_file g r)) (AreJournalsOf g n) v w (λ f e. (r, low, e)) stays)

    -- the journals that were made
    module _ (stays : OthersStay (Only (journal_file g r)) v w) (js : List Journal) (made : Journal) (number : length js ≡ r) (made_at : journals.IsJournalOf made r g)
        (were : (q : ℕ) (j : Journal) → slice_get js q ≡ Some j → journals.IsReady v j × journals.IsJournalOf j q g) where
      away : (q : ℕ) (j : Journal) → q < length js → journals.IsJournalOf j q g → Only (journal_file g r) j.gated.file → ⊥
      away q j less at is = let e : journal_file g q ≡ journal_file g r = sym at.file ∙ is in omega (arith, e, less, number)

      pub ready_more : journals.IsReady w made → (q : ℕ) (j : Journal) → slice_get (js ++ made ∷ []) q ≡ Some j → journals.IsReady w j × journals.IsJournalOf j q g
      ready_more ready q j is = elim (last_or js made q j is) [
        | inl both ↦ (others.ready_stays v w (Only (journal_file g r)) j stays (away q j both.0 (were q j both.1).1) (were q j both.1).0, (were q j both.1).1)
        | inr both ↦
            let at : r ≡ q = sym number ∙ sym both.0 in
            subst (λ (k : Journal). journals.IsReady w k × journals.IsJournalOf k q g) both.1 (ready, subst (λ (k : ℕ). journals.IsJournalOf made k g) at made_at)
      ]

      pub state_more : IfSome u.content (λ _. (q : ℕ) (j : Journal) → slice_get js q ≡ Some j → journals.HasRecords v j (settled (first q ∷ []))) → IfSome v.content (λ _. journals.HasRecords w made (settled (first r ∷ [])))
          → IfSome u.content (λ _. (q : ℕ) (j : Journal) → slice_get (js ++ made ∷ []) q ≡ Some j → journals.HasRecords w j (settled (first q ∷ [])))
      state_more old new = both_weak u.content (λ _. (q : ℕ) (j : Journal) → slice_get js q ≡ Some j → journals.HasRecords v j (settled (first q ∷ []))) (λ _. journals.HasRecords w made (settled (first r ∷ [])))
          (λ _. (q : ℕ) (j : Journal) → slice_get (js ++ made ∷ []) q ≡ Some j → journals.HasRecords w j (settled (first q ∷ []))) old
          (told_on u.content v.content (AreJournalsOf g n) (journals.HasRecords w made (settled (first r ∷ []))) before.content new)
          (λ files o h q j is. elim (last_or js made q j is) [
            | inl both ↦ others.records_stay v w (Only (journal_file g r)) j stays (away q j both.0 (were q j both.1).1) (settled (first q ∷ [])) (o q j both.1)
            | inr both ↦
                let at : r ≡ q = sym number ∙ sym both.0 in
                subst (λ (k : Journal). journals.HasRecords w k (settled (first q ∷ []))) both.1 (subst (λ (k : ℕ). journals.HasRecords w made (settled (first k ∷ []))) at h)
          ])
