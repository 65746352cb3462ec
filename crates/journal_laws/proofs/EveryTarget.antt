-- Regions that stay sound for every target.
use Rattle.std.proofs.Common.{◌≡◌, ◌⊎◌, inl, inr, ℕ, ◌≤◌, ◌<◌, ◌==◌, ◌&&◌, ◌||◌, nat_le, Bool, true, false, List, [], ◌∷◌, ◌++◌, length, take, find, Option, Some, None, IsSome, is_some, refl, sym, ◌∙◌, ap, subst, arith, length-take-le, take_all, unwrap_or, option_map, if◌then◌else◌}
use Rattle.std.proofs.lemmas.Bool.{cases_lt, cases_Bool, or_cases, or_left, or_right}
use Rattle.std.proofs.lemmas.Bool.Decides.{nat_tests}
use Rattle.std.proofs.lemmas.List.{take-take, take-append-le}
use Rattle.std.proofs.lemmas.List.Folds.{list_any-append, list_all-append}
use Rattle.std.specs.List.{AllByRecursion, list_any, cons_option}
use Rattle.global_defs.specs.Entry.{Entry, Globals, Sequence}
use Rattle.journal_defs.specs.Directory.{Pattern, pattern_in, patterns}
use Rattle.journal_defs.specs.Journal.{JournalRecord, Pini, Epoch, Pblk, Tcom, Start, Mark}
use Rattle.journal_defs.specs.Instance.{InstanceRecord, Cut}
use Rattle.journal_defs.specs.Surviving.{survives, spares}
use Rattle.journal_defs.specs.Sequence.{Placed}
use Rattle.journal_defs.specs.Epochs.{Chosen, epoch_in, last_epoch, chosen, image_state, starts_without, is_without, first_without, NeedsForward, Blocks}
use Rattle.journal_defs.specs.Undo.{SameBut, MayWrite, logged, IsEarlier, MayAppend, fresh}
use Rattle.journal_defs.specs.Sound.{Restores, IsSoundRegion, BlocksGrow, NoEpochPast}
use Rattle.std.specs.Option.{option_or}
use Rattle.journal_laws.proofs.Images.{write_keeps, image_keeps, other_keeps, write_earlier, image_earlier}
use Rattle.journal_laws.proofs.Targets as targets

-- whether forward recovery is needed, as one test over the records after the epoch
abbrev AnyWithout : List Placed → Chosen → Type 0
AnyWithout journal e = list_any (is_without journal) e.after ≡ true

found : (p : Placed → Bool) (ps : List Placed) → is_some (option_map (λ (q : Placed). q.generation) (find p ps)) ≡ list_any p ps
found p [] = refl
found p (q ∷ qs) = elim (cases_Bool (p q)) [ inl h ↦ rw h | inr h ↦ rw h (found p qs) ]

any_from : (instance : List InstanceRecord) (t : ℕ) (journal : List Placed) → NeedsForward instance t journal → AnyWithout journal (chosen instance t journal)
any_from instance t journal needs = sym (found (is_without journal) (chosen instance t journal).after) ∙ needs

needs_from : (instance : List InstanceRecord) (t : ℕ) (journal : List Placed) → AnyWithout journal (chosen instance t journal) → NeedsForward instance t journal
needs_from instance t journal any = found (is_without journal) (chosen instance t journal).after ∙ any

pub lesser_target : (instance : List InstanceRecord) (t u : ℕ) (journal : List Placed) → t ≤ u → NeedsForward instance u journal → NeedsForward instance t journal
lesser_target instance t u journal low needs =
    let earlier = targets.lesser_target instance t u journal low in
    needs_from instance t journal (
    ap (list_any (is_without journal)) earlier.1
    ∙ list_any-append (is_without journal) earlier.0 (chosen instance u journal).after
    ∙ or_right (list_any (is_without journal) earlier.0) (list_any (is_without journal) (chosen instance u journal).after) (any_from instance u journal needs))

-- what soundness says where no forward recovery is needed
abbrev Good : (Sequence → Globals) → Sequence → Blocks → Chosen → Type 0
Good of seq database e = Restores (image_state e database) (of (take e.number seq))

good_write : (of : Sequence → Globals) (seq : Sequence) (old new : Blocks) (e : Chosen) → image_state e new ≡ image_state e old → Good of seq old e → Good of seq new e
good_write of seq old new e same good = subst (λ (i : ℕ → Option (List ℕ)). Restores i (of (take e.number seq))) (sym same) good

pub write : (of : Sequence → Globals) (instance : List InstanceRecord) (seq : Sequence) (journal : List Placed) (old new : Blocks) (b : ℕ)
    → IsSoundRegion of instance seq journal old → BlocksGrow instance (length seq) journal → SameBut b old new
    → NeedsForward instance (length seq) journal ⊎ MayWrite (chosen instance (length seq) journal) b
    → IsSoundRegion of instance seq journal new
write of instance seq journal old new b sound grow same (inl needs) t low = inl (lesser_target instance t (length seq) journal low needs)
write of instance seq journal old new b sound grow same (inr may) t low = elim (sound t low) [
  | inl needs ↦ inl needs
  | inr good ↦ elim (grow t (length seq) low (omega arith)) [
    | inl needs ↦ inl needs
    | inr fewer ↦
        let e : Chosen = chosen instance t journal in
        inr (good_write of seq old new e (write_keeps e old new b same (write_earlier e (chosen instance (length seq) journal) b (targets.lesser_target instance t (length seq) journal low) fewer may)) good)
  ]
]

-- one record more
more_without : (journal : List Placed) (p q : Placed) → is_without journal q ≡ true → is_without (journal ++ p ∷ []) q ≡ true
more_without journal p q h =
    let test = λ (x : Placed). x.generation == q.generation && starts_without x.what in
    list_any-append test journal (p ∷ []) ∙ or_left (list_any test journal) (list_any test (p ∷ [])) h

any_more : (f g : Placed → Bool) (ps : List Placed) → ((q : Placed) → f q ≡ true → g q ≡ true) → list_any f ps ≡ true → list_any g ps ≡ true
any_more f g [] more h = h
any_more f g (q ∷ qs) more h = elim (or_cases (f q) (list_any f qs) h) [
  | inl here ↦ or_left (g q) (list_any g qs) (more q here)
  | inr there ↦ or_right (g q) (list_any g qs) (any_more f g qs more there)
]

needs_logged : (journal : List Placed) (p : Placed) (e : Chosen) → AnyWithout journal e → AnyWithout (journal ++ p ∷ []) (logged e p)
needs_logged journal p e any =
    let test = is_without (journal ++ p ∷ []) in
    list_any-append test e.after (p ∷ []) ∙ or_left (list_any test e.after) (list_any test (p ∷ [])) (any_more (is_without journal) test e.after (more_without journal p) any)

pub is_other : (instance : List InstanceRecord) (t g : ℕ) (e : Chosen) (database : Blocks) (what : JournalRecord) → MayAppend e database what → epoch_in instance t g what [] ≡ None
is_other instance t g e database (Pblk i) may = refl
is_other instance t g e database (Epoch m) may = absurd may
is_other instance t g e database (Pini s) may = refl
is_other instance t g e database (Tcom p) may = refl

-- a record that isn't chosen leaves the epoch where it was
chosen_logged : (instance : List InstanceRecord) (t : ℕ) (journal : List Placed) (e : Chosen) (database : Blocks) (p : Placed) → MayAppend e database p.what
    → chosen instance t (journal ++ p ∷ []) ≡ logged (chosen instance t journal) p
chosen_logged instance t journal e database p may = targets.other_record instance t journal p (is_other instance t p.generation e database p.what may)

may_earlier : (d e : Chosen) (database : Blocks) (what : JournalRecord) → IsEarlier d e → d.blocks ≤ e.blocks → MayAppend e database what → MayAppend d database what
may_earlier d e database (Pblk i) earlier fewer may = image_earlier d e database i earlier fewer may
may_earlier d e database (Epoch m) earlier fewer may = may
may_earlier d e database (Pini s) earlier fewer may = tt
may_earlier d e database (Tcom p) earlier fewer may = tt

append_keeps : (e : Chosen) (database : Blocks) (g : ℕ) (what : JournalRecord) → MayAppend e database what → image_state (logged e (record { generation = g; what = what })) database ≡ image_state e database
append_keeps e database g (Pblk i) may = image_keeps e database g i may
append_keeps e database g (Epoch m) may = absurd may
append_keeps e database g (Pini s) may = other_keeps e database (record { generation = g; what = Pini s }) (λ b. refl)
append_keeps e database g (Tcom p) may = other_keeps e database (record { generation = g; what = Tcom p }) (λ b. refl)

needs_more : (instance : List InstanceRecord) (t : ℕ) (journal : List Placed) (p : Placed) → chosen instance t (journal ++ p ∷ []) ≡ logged (chosen instance t journal) p
    → NeedsForward instance t journal → NeedsForward instance t (journal ++ p ∷ [])
needs_more instance t journal p is needs =
    needs_from instance t (journal ++ p ∷ []) (subst (λ (e : Chosen). AnyWithout (journal ++ p ∷ []) e) (sym is) (needs_logged journal p (chosen instance t journal) (any_from instance t journal needs)))

good_logged : (of : Sequence → Globals) (seq : Sequence) (database : Blocks) (e : Chosen) (p : Placed) → image_state (logged e p) database ≡ image_state e database → Good of seq database e → Good of seq database (logged e p)
good_logged of seq database e p same good = subst (λ (i : ℕ → Option (List ℕ)). Restores i (of (take e.number seq))) (sym same) good

pub record_appended : (of : Sequence → Globals) (instance : List InstanceRecord) (seq : Sequence) (journal : List Placed) (database : Blocks) (p : Placed)
    → IsSoundRegion of instance seq journal database → BlocksGrow instance (length seq) journal
    → MayAppend (chosen instance (length seq) journal) database p.what
    → IsSoundRegion of instance seq (journal ++ p ∷ []) database
record_appended of instance seq journal database p sound grow may t low =
    let last : Chosen = chosen instance (length seq) journal in
    let e : Chosen = chosen instance t journal in
    let is = chosen_logged instance t journal last database p may in
    elim (sound t low) [
      | inl needs ↦ inl (needs_more instance t journal p is needs)
      | inr good ↦ elim (grow t (length seq) low (omega arith)) [
        | inl needs ↦ inl (needs_more instance t journal p is needs)
        | inr fewer ↦ inr (subst (Good of seq database) (sym is) (good_logged of seq database e p
            (append_keeps e database p.generation p.what (may_earlier e last database p.what (targets.lesser_target instance t (length seq) journal low) fewer may)) good))
      ]
    ]

past_target : (instance : List InstanceRecord) (t g : ℕ) (m : Mark) → t < m.number → epoch_in instance t g (Epoch m) [] ≡ None
past_target instance t g m low = let no : nat_le m.number t ≡ false = grind (arith, nat_tests) in rw no (elim (cases_Bool (survives instance g m.number)) [ inl h ↦ rw h | inr h ↦ rw h ])

pub epoch_appended : (of : Sequence → Globals) (instance : List InstanceRecord) (seq : Sequence) (journal : List Placed) (database : Blocks) (g : ℕ) (m : Mark)
    → IsSoundRegion of instance seq journal database → m.number ≡ length seq → survives instance g m.number ≡ true
    → Restores (image_state (fresh m) database) (of seq)
    → IsSoundRegion of instance seq (journal ++ record { generation = g; what = Epoch m } ∷ []) database
epoch_appended of instance seq journal database g m sound is lives decodes t low =
    let p : Placed = record { generation = g; what = Epoch m } in
    elim (cases_lt t m.number) [
      | inl before ↦
          let same = targets.other_record instance t journal p (past_target instance t g m before) in
          elim (sound t low) [
            | inl needs ↦ inl (needs_more instance t journal p same needs)
            | inr good ↦ inr (subst (Good of seq database) (sym same) (good_logged of seq database (chosen instance t journal) p (other_keeps (chosen instance t journal) database p (λ b. refl)) good))
          ]
      | inr now ↦
          let here = targets.new_epoch instance t g journal m lives now in
          let all : take m.number seq ≡ seq = take_all m.number seq (omega arith) in
          inr (subst (Good of seq database) (sym here) (subst (λ (l : Sequence). Restores (image_state (fresh m) database) (of l)) (sym all) decodes))
    ]

-- a region is sound where this epoch is chosen
abbrev SoundAt : (Sequence → Globals) → Sequence → List Placed → Blocks → Chosen → Type 0
SoundAt of seq journal database e = IsSome (first_without journal e) ⊎ Good of seq database e

sound_front : (of : Sequence → Globals) (seq other : Sequence) (journal : List Placed) (database : Blocks) (e : Chosen) → take e.number other ≡ take e.number seq
    → SoundAt of seq journal database e → SoundAt of other journal database e
sound_front of seq other journal database e same (inl needs) = inl needs
sound_front of seq other journal database e same (inr good) = inr (subst (λ (l : Sequence). Restores (image_state e database) (of l)) (sym same) good)

pub cut : (of : Sequence → Globals) (instance : List InstanceRecord) (seq : Sequence) (journal : List Placed) (database : Blocks) (t g : ℕ)
    → IsSoundRegion of instance seq journal database → t ≤ length seq
    → IsSoundRegion of (instance ++ Cut t g ∷ []) (take t seq) journal database
cut of instance seq journal database t g sound few u low =
    let e : Chosen = chosen instance u journal in
    let long : length (take t seq) ≡ t = length-take-le t seq few in
    let fits : e.number ≤ u = targets.number instance u journal in
    subst (SoundAt of (take t seq) journal database) (sym (targets.cut_keeps instance u t g journal (omega arith)))
    (sound_front of seq (take t seq) journal database e (take-take e.number t seq (omega arith)) (sound u (omega arith)))

pub longer : (of : Sequence → Globals) (instance : List InstanceRecord) (seq : Sequence) (journal : List Placed) (database : Blocks) (e : Entry)
    → IsSoundRegion of instance seq journal database → NoEpochPast (length seq) instance journal
    → IsSoundRegion of instance (seq ++ e ∷ []) journal database
longer of instance seq journal database e sound none t low = elim (cases_lt (length seq) t) [
  | inl past ↦ subst (SoundAt of (seq ++ e ∷ []) journal database) (sym (none t (omega arith))) (with_more (length seq) (omega arith))
  | inr within ↦ with_more t within
]
  where
    with_more : (u : ℕ) → u ≤ length seq → SoundAt of (seq ++ e ∷ []) journal database (chosen instance u journal)
    with_more u within =
        let fits : (chosen instance u journal).number ≤ u = targets.number instance u journal in
        sound_front of seq (seq ++ e ∷ []) journal database (chosen instance u journal) (take-append-le (chosen instance u journal).number seq (e ∷ []) (omega arith)) (sound u within)

-- `blocks` of the chosen epochs
abbrev pub GrowAt : List Placed → Chosen → Chosen → Type 0
GrowAt journal d e = IsSome (first_without journal d) ⊎ (d.blocks ≤ e.blocks)

grow_needs : (instance : List InstanceRecord) (t : ℕ) (journal : List Placed) (p : Placed) (e : Chosen) → chosen instance t (journal ++ p ∷ []) ≡ logged (chosen instance t journal) p
    → ((chosen instance t journal).blocks ≤ e.blocks → GrowAt (journal ++ p ∷ []) (logged (chosen instance t journal) p) e)
    → NeedsForward instance t journal ⊎ ((chosen instance t journal).blocks ≤ e.blocks) → GrowAt (journal ++ p ∷ []) (chosen instance t (journal ++ p ∷ [])) e
grow_needs instance t journal p e is more (inl needs) = inl (needs_more instance t journal p is needs)
grow_needs instance t journal p e is more (inr fewer) = subst (λ (d : Chosen). GrowAt (journal ++ p ∷ []) d e) (sym is) (more fewer)

pub grow_record : (instance : List InstanceRecord) (n : ℕ) (journal : List Placed) (database : Blocks) (p : Placed) → BlocksGrow instance n journal
    → MayAppend (chosen instance n journal) database p.what → BlocksGrow instance n (journal ++ p ∷ [])
grow_record instance n journal database p grow may t u low high =
    let is_t = chosen_logged instance t journal (chosen instance n journal) database p may in
    let is_u = chosen_logged instance u journal (chosen instance n journal) database p may in
    subst (GrowAt (journal ++ p ∷ []) (chosen instance t (journal ++ p ∷ []))) (sym is_u)
    (grow_needs instance t journal p (logged (chosen instance u journal) p) is_t (λ fewer. inr fewer) (grow t u low high))

grow_last : (instance : List InstanceRecord) (t u g : ℕ) (journal : List Placed) (m : Mark) → survives instance g m.number ≡ true → t < m.number
    → (e : Chosen) → NeedsForward instance t journal ⊎ ((chosen instance t journal).blocks ≤ e.blocks)
    → GrowAt (journal ++ record { generation = g; what = Epoch m } ∷ []) (chosen instance t (journal ++ record { generation = g; what = Epoch m } ∷ [])) e
grow_last instance t u g journal m lives before e h =
    grow_needs instance t journal (record { generation = g; what = Epoch m }) e (targets.other_record instance t journal (record { generation = g; what = Epoch m }) (past_target instance t g m before)) (λ fewer. inr fewer) h

more_blocks : (instance : List InstanceRecord) (t n : ℕ) (journal : List Placed) (b : ℕ) → t ≤ n → NeedsForward instance n journal ⊎ ((chosen instance n journal).blocks ≤ b)
    → NeedsForward instance t journal ⊎ ((chosen instance t journal).blocks ≤ (chosen instance n journal).blocks) → NeedsForward instance t journal ⊎ ((chosen instance t journal).blocks ≤ b)
more_blocks instance t n journal b low (inl all) h = inl (lesser_target instance t n journal low all)
more_blocks instance t n journal b low (inr more) (inl needs) = inl needs
more_blocks instance t n journal b low (inr more) (inr fewer) = inr (omega arith)

pub grow_epoch : (instance : List InstanceRecord) (n g : ℕ) (journal : List Placed) (m : Mark) → BlocksGrow instance n journal
    → m.number ≡ n → survives instance g m.number ≡ true → NeedsForward instance n journal ⊎ ((chosen instance n journal).blocks ≤ m.blocks)
    → BlocksGrow instance n (journal ++ record { generation = g; what = Epoch m } ∷ [])
grow_epoch instance n g journal m grow is lives more t u low high =
    let p : Placed = record { generation = g; what = Epoch m } in
    let js : List Placed = journal ++ p ∷ [] in
    elim (cases_lt t m.number) [
      | inl t_before ↦ elim (cases_lt u m.number) [
        | inl u_before ↦
            subst (GrowAt js (chosen instance t js)) (sym (targets.other_record instance u journal p (past_target instance u g m u_before)))
            (grow_last instance t u g journal m lives t_before (logged (chosen instance u journal) p) (grow t u low high))
        | inr u_now ↦
            subst (GrowAt js (chosen instance t js)) (sym (targets.new_epoch instance u g journal m lives u_now))
            (grow_last instance t u g journal m lives t_before (fresh m) (more_blocks instance t n journal m.blocks (omega arith) more (grow t n (omega arith) (omega arith))))
      ]
      | inr t_now ↦
          subst (λ (d : Chosen). GrowAt js d (chosen instance u js)) (sym (targets.new_epoch instance t g journal m lives t_now))
          (subst (GrowAt js (fresh m)) (sym (targets.new_epoch instance u g journal m lives (omega arith))) (inr (omega arith)))
    ]

pub grow_cut : (instance : List InstanceRecord) (n t g : ℕ) (journal : List Placed) → BlocksGrow instance n journal → t ≤ n → BlocksGrow (instance ++ Cut t g ∷ []) t journal
grow_cut instance n t g journal grow few u v low high =
    subst (λ (d : Chosen). GrowAt journal d (chosen (instance ++ Cut t g ∷ []) v journal)) (sym (targets.cut_keeps instance u t g journal (omega arith)))
    (subst (GrowAt journal (chosen instance u journal)) (sym (targets.cut_keeps instance v t g journal high)) (grow u v low (omega arith)))

pub none_past_record : (instance : List InstanceRecord) (n : ℕ) (journal : List Placed) (database : Blocks) (p : Placed) → NoEpochPast n instance journal
    → MayAppend (chosen instance n journal) database p.what → NoEpochPast n instance (journal ++ p ∷ [])
none_past_record instance n journal database p none may t low =
    chosen_logged instance t journal (chosen instance n journal) database p may ∙ ap (λ (e : Chosen). logged e p) (none t low)
    ∙ sym (chosen_logged instance n journal (chosen instance n journal) database p may)

pub none_past_epoch : (instance : List InstanceRecord) (n g : ℕ) (journal : List Placed) (m : Mark) → m.number ≡ n → survives instance g m.number ≡ true
    → NoEpochPast n instance (journal ++ record { generation = g; what = Epoch m } ∷ [])
none_past_epoch instance n g journal m is lives t low =
    targets.new_epoch instance t g journal m lives (omega arith) ∙ sym (targets.new_epoch instance n g journal m lives (omega arith))

dropped_alike : (a : Bool) (g h n t u : ℕ) → h < g → t ≤ u → ((a && ((nat_le g h || nat_le n t) && true)) && nat_le n u) ≡ ((a && ((nat_le g h || nat_le n t) && true)) && nat_le n t)
dropped_alike false g h n t u old low = refl
dropped_alike true g h n t u old low = grind (arith, nat_tests)

epoch_in-alike : (instance : List InstanceRecord) (t u g h : ℕ) (what : JournalRecord) (ps : List Placed) → h < g → t ≤ u
    → epoch_in (instance ++ Cut t g ∷ []) u h what ps ≡ epoch_in (instance ++ Cut t g ∷ []) t h what ps
epoch_in-alike instance t u g h (Epoch m) ps old low =
    let is = list_all-append (spares h m.number) instance (Cut t g ∷ []) in
    ap (λ (b : Bool). if b then Some (record { number = m.number; blocks = m.blocks; after = ps }) else None)
    (ap (λ (b : Bool). b && nat_le m.number u) is ∙ dropped_alike (survives instance h m.number) g h m.number t u old low ∙ ap (λ (b : Bool). b && nat_le m.number t) (sym is))
epoch_in-alike instance t u g h (Pini s) ps old low = refl
epoch_in-alike instance t u g h (Pblk i) ps old low = refl
epoch_in-alike instance t u g h (Tcom x) ps old low = refl

last_epoch-alike : (instance : List InstanceRecord) (t u g : ℕ) (journal : List Placed) → AllByRecursion (λ p. p.generation < g) journal → t ≤ u
    → last_epoch (instance ++ Cut t g ∷ []) u journal ≡ last_epoch (instance ++ Cut t g ∷ []) t journal
last_epoch-alike instance t u g [] old low = refl
last_epoch-alike instance t u g (q ∷ qs) old low =
    ap (λ (o : Option Chosen). option_or o (epoch_in (instance ++ Cut t g ∷ []) u q.generation q.what qs)) (last_epoch-alike instance t u g qs old.1 low)
    ∙ ap (option_or (last_epoch (instance ++ Cut t g ∷ []) t qs)) (epoch_in-alike instance t u g q.generation q.what qs old.0 low)

pub none_past_cut : (instance : List InstanceRecord) (t g : ℕ) (journal : List Placed) → AllByRecursion (λ p. p.generation < g) journal → NoEpochPast t (instance ++ Cut t g ∷ []) journal
none_past_cut instance t g journal old u low = ap (λ (o : Option Chosen). unwrap_or o (record { number = 0; blocks = 0; after = journal })) (last_epoch-alike instance t u g journal old low)

pub eq_self : (n : ℕ) → (n == n) ≡ true
eq_self n = grind (arith, nat_tests)

is_there : (journal : List Placed) (g : ℕ) (s : Start) → s.before ≡ false → is_without (journal ++ record { generation = g; what = Pini s } ∷ []) (record { generation = g; what = Pini s }) ≡ true
is_there journal g s none =
    let p : Placed = record { generation = g; what = Pini s } in
    let test = λ (x : Placed). x.generation == g && starts_without x.what in
    list_any-append test journal (p ∷ []) ∙ or_right (list_any test journal) (list_any test (p ∷ [])) (rw (eq_self g, none) refl)

pub begins : (instance : List InstanceRecord) (t g : ℕ) (journal : List Placed) (s : Start) → s.before ≡ false → NeedsForward instance t (journal ++ record { generation = g; what = Pini s } ∷ [])
begins instance t g journal s none =
    let p : Placed = record { generation = g; what = Pini s } in
    let js : List Placed = journal ++ p ∷ [] in
    let e : Chosen = chosen instance t journal in
    let test = is_without js in
    needs_from instance t js (subst (λ (d : Chosen). AnyWithout js d) (sym (targets.other_record instance t journal p refl))
    (list_any-append test e.after (p ∷ []) ∙ or_right (list_any test e.after) (list_any test (p ∷ [])) (or_left (test p) false (is_there journal g s none))))

pub goes_on : (instance : List InstanceRecord) (t : ℕ) (journal : List Placed) (p : Placed) → epoch_in instance t p.generation p.what [] ≡ None → NeedsForward instance t journal → NeedsForward instance t (journal ++ p ∷ [])
goes_on instance t journal p none needs = needs_more instance t journal p (targets.other_record instance t journal p none) needs

-- an instance record that is no pattern
pub patterns_same : (instance : List InstanceRecord) (x : InstanceRecord) → pattern_in x ≡ None → patterns (instance ++ x ∷ []) ≡ patterns instance
patterns_same [] x none = rw none refl
patterns_same (r ∷ rs) x none = ap (λ (l : List Pattern). cons_option (pattern_in r) l) (patterns_same rs x none)
