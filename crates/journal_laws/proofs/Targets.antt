-- Chosen epochs.
use Rattle.std.proofs.Common.{◌≡◌, inl, inr, ℕ, ◌≤◌, ◌<◌, ◌&&◌, ◌||◌, nat_le, Bool, true, false, List, [], ◌∷◌, ◌++◌, Option, Some, None, refl, sym, ◌∙◌, ap, arith, unwrap_or, option_map, if◌then◌else◌}
use Rattle.std.proofs.lemmas.Bool.{cases_Bool}
use Rattle.std.proofs.lemmas.Bool.Decides.{nat_tests}
use Rattle.std.proofs.lemmas.List.Folds.{list_all-append}
use Rattle.std.specs.Option.{option_or}
use Rattle.journal_defs.specs.Journal.{JournalRecord, Pini, Epoch, Pblk, Tcom, Mark}
use Rattle.journal_defs.specs.Instance.{InstanceRecord, Cut}
use Rattle.journal_defs.specs.Surviving.{survives, spares}
use Rattle.journal_defs.specs.Sequence.{Placed}
use Rattle.journal_defs.specs.Epochs.{Chosen, epoch_in, last_epoch, chosen, image_state, Blocks}
use Rattle.journal_defs.specs.Undo.{logged, IsEarlier}

map_or : {A B : Type 0} (f : A → B) (a b : Option A) → option_or (option_map f a) (option_map f b) ≡ option_map f (option_or a b)
map_or f None b = refl
map_or f (Some x) b = refl

epoch_in-logged : (instance : List InstanceRecord) (t g : ℕ) (what : JournalRecord) (ps : List Placed) (p : Placed)
    → epoch_in instance t g what (ps ++ p ∷ []) ≡ option_map (λ e. logged e p) (epoch_in instance t g what ps)
epoch_in-logged instance t g (Epoch m) ps p = elim (cases_Bool (survives instance g m.number && nat_le m.number t)) [ inl h ↦ rw h | inr h ↦ rw h ]
epoch_in-logged instance t g (Pini s) ps p = refl
epoch_in-logged instance t g (Pblk i) ps p = refl
epoch_in-logged instance t g (Tcom x) ps p = refl

last_epoch-other : (instance : List InstanceRecord) (t : ℕ) (journal : List Placed) (p : Placed) → epoch_in instance t p.generation p.what [] ≡ None
    → last_epoch instance t (journal ++ p ∷ []) ≡ option_map (λ e. logged e p) (last_epoch instance t journal)
last_epoch-other instance t [] p none = none
last_epoch-other instance t (q ∷ qs) p none =
    ap (λ (o : Option Chosen). option_or o (epoch_in instance t q.generation q.what (qs ++ p ∷ []))) (last_epoch-other instance t qs p none)
    ∙ ap (option_or (option_map (λ e. logged e p) (last_epoch instance t qs))) (epoch_in-logged instance t q.generation q.what qs p)
    ∙ map_or (λ e. logged e p) (last_epoch instance t qs) (epoch_in instance t q.generation q.what qs)

unwrap_logged : (o : Option Chosen) (e : Chosen) (p : Placed) → unwrap_or (option_map (λ e. logged e p) o) (logged e p) ≡ logged (unwrap_or o e) p
unwrap_logged None e p = refl
unwrap_logged (Some x) e p = refl

pub other_record : (instance : List InstanceRecord) (t : ℕ) (journal : List Placed) (p : Placed) → epoch_in instance t p.generation p.what [] ≡ None
    → chosen instance t (journal ++ p ∷ []) ≡ logged (chosen instance t journal) p
other_record instance t journal p none =
    let start : Chosen = record { number = 0; blocks = 0; after = journal } in
    ap (λ (o : Option Chosen). unwrap_or o (logged start p)) (last_epoch-other instance t journal p none) ∙ unwrap_logged (last_epoch instance t journal) start p

here : (instance : List InstanceRecord) (t g : ℕ) (m : Mark) (after : List Placed) → survives instance g m.number ≡ true → m.number ≤ t
    → epoch_in instance t g (Epoch m) after ≡ Some (record { number = m.number; blocks = m.blocks; after = after })
here instance t g m after lives low = rw lives (grind (arith, nat_tests))

last_epoch-new : (instance : List InstanceRecord) (t g : ℕ) (journal : List Placed) (m : Mark) → survives instance g m.number ≡ true → m.number ≤ t
    → last_epoch instance t (journal ++ record { generation = g; what = Epoch m } ∷ []) ≡ Some (record { number = m.number; blocks = m.blocks; after = [] })
last_epoch-new instance t g [] m lives low = here instance t g m [] lives low
last_epoch-new instance t g (q ∷ qs) m lives low =
    ap (λ (o : Option Chosen). option_or o (epoch_in instance t q.generation q.what (qs ++ record { generation = g; what = Epoch m } ∷ []))) (last_epoch-new instance t g qs m lives low)

pub new_epoch : (instance : List InstanceRecord) (t g : ℕ) (journal : List Placed) (m : Mark) → survives instance g m.number ≡ true → m.number ≤ t
    → chosen instance t (journal ++ record { generation = g; what = Epoch m } ∷ []) ≡ record { number = m.number; blocks = m.blocks; after = [] }
new_epoch instance t g journal m lives low =
    ap (λ (o : Option Chosen). unwrap_or o (record { number = 0; blocks = 0; after = journal ++ record { generation = g; what = Epoch m } ∷ [] })) (last_epoch-new instance t g journal m lives low)

pub flushed : (n blocks b : ℕ) (database : Blocks) → b < blocks → image_state (record { number = n; blocks = blocks; after = [] }) database b ≡ Some (database b)
flushed n blocks b database low = grind (arith, nat_tests)

still : (a x : Bool) (n t u : ℕ) → t ≤ u → ((a && ((x || nat_le n u) && true)) && nat_le n t) ≡ (a && nat_le n t)
still false x n t u low = refl
still true true n t u low = refl
still true false n t u low = grind (arith, nat_tests)

-- a CUT of u drops no epoch whose number is at most u
epoch_in-cut : (instance : List InstanceRecord) (t u g h : ℕ) (what : JournalRecord) (ps : List Placed) → t ≤ u
    → epoch_in (instance ++ Cut u g ∷ []) t h what ps ≡ epoch_in instance t h what ps
epoch_in-cut instance t u g h (Epoch m) ps low = ap (λ (b : Bool). if b then Some (record { number = m.number; blocks = m.blocks; after = ps }) else None) same
  where
    same : (survives (instance ++ Cut u g ∷ []) h m.number && nat_le m.number t) ≡ (survives instance h m.number && nat_le m.number t)
    same = ap (λ (b : Bool). b && nat_le m.number t) (list_all-append (spares h m.number) instance (Cut u g ∷ [])) ∙ still (survives instance h m.number) (nat_le g h) m.number t u low
epoch_in-cut instance t u g h (Pini s) ps low = refl
epoch_in-cut instance t u g h (Pblk i) ps low = refl
epoch_in-cut instance t u g h (Tcom x) ps low = refl

last_epoch-cut : (instance : List InstanceRecord) (t u g : ℕ) (journal : List Placed) → t ≤ u → last_epoch (instance ++ Cut u g ∷ []) t journal ≡ last_epoch instance t journal
last_epoch-cut instance t u g [] low = refl
last_epoch-cut instance t u g (q ∷ qs) low =
    ap (λ (o : Option Chosen). option_or o (epoch_in (instance ++ Cut u g ∷ []) t q.generation q.what qs)) (last_epoch-cut instance t u g qs low)
    ∙ ap (option_or (last_epoch instance t qs)) (epoch_in-cut instance t u g q.generation q.what qs low)

pub cut_keeps : (instance : List InstanceRecord) (t u g : ℕ) (journal : List Placed) → t ≤ u → chosen (instance ++ Cut u g ∷ []) t journal ≡ chosen instance t journal
cut_keeps instance t u g journal low = ap (λ (o : Option Chosen). unwrap_or o (record { number = 0; blocks = 0; after = journal })) (last_epoch-cut instance t u g journal low)

-- the epoch that fits the lesser target is the earlier one, as far as there are any
abbrev Earlier : List Placed → Option Chosen → Option Chosen → Type 0
Earlier journal None None = Unit {0}
Earlier journal None (Some e) = (between : List Placed) × (journal ≡ between ++ e.after)
Earlier journal (Some d) None = ⊥
Earlier journal (Some d) (Some e) = IsEarlier d e

-- the same of one record before these
abbrev Here : List Placed → Option Chosen → Option Chosen → Type 0
Here after None None = Unit {0}
Here after None (Some e) = e.after ≡ after
Here after (Some d) None = ⊥
Here after (Some d) (Some e) = (d.after ≡ after) × (e.after ≡ after)

earlier_step : (q : Placed) (qs : List Placed) (lt lu ht hu : Option Chosen) → Earlier qs lt lu → Here qs ht hu → Earlier (q ∷ qs) (option_or lt ht) (option_or lu hu)
earlier_step q qs None None None None l h = tt
earlier_step q qs None None None (Some e) l h = (q ∷ [], ap (λ (ps : List Placed). q ∷ ps) (sym h))
earlier_step q qs None None (Some d) None l h = h
earlier_step q qs None None (Some d) (Some e) l h = ([], h.0 ∙ sym h.1)
earlier_step q qs None (Some e) None hu l h = (q ∷ l.0, ap (λ (ps : List Placed). q ∷ ps) l.1)
earlier_step q qs None (Some e) (Some d) None l h = absurd h
earlier_step q qs None (Some e) (Some d) (Some f) l h = (l.0, h.0 ∙ l.1)
earlier_step q qs (Some d) None ht hu l h = absurd l
earlier_step q qs (Some d) (Some e) ht hu l h = l

fits_more : (n t u : ℕ) → t ≤ u → nat_le n t ≡ true → nat_le n u ≡ true
fits_more n t u low h = grind (arith, nat_tests)

here_by : (x y : Bool) (e : Chosen) → (x ≡ true → y ≡ true) → Here e.after (if x then Some e else None) (if y then Some e else None)
here_by false false e h = tt
here_by false true e h = refl
here_by true true e h = (refl, refl)
here_by true false e h = let no : false ≡ true = h refl in cc

both_more : (a x y : Bool) → (x ≡ true → y ≡ true) → (a && x) ≡ true → (a && y) ≡ true
both_more false x y f h = h
both_more true x y f h = f h

epoch_in-here : (instance : List InstanceRecord) (t u g : ℕ) (what : JournalRecord) (after : List Placed) → t ≤ u → Here after (epoch_in instance t g what after) (epoch_in instance u g what after)
epoch_in-here instance t u g (Epoch m) after low =
    here_by (survives instance g m.number && nat_le m.number t) (survives instance g m.number && nat_le m.number u) (record { number = m.number; blocks = m.blocks; after = after })
    (both_more (survives instance g m.number) (nat_le m.number t) (nat_le m.number u) (fits_more m.number t u low))
epoch_in-here instance t u g (Pini s) after low = tt
epoch_in-here instance t u g (Pblk i) after low = tt
epoch_in-here instance t u g (Tcom x) after low = tt

last_epoch-earlier : (instance : List InstanceRecord) (t u : ℕ) (journal : List Placed) → t ≤ u → Earlier journal (last_epoch instance t journal) (last_epoch instance u journal)
last_epoch-earlier instance t u [] low = tt
last_epoch-earlier instance t u (q ∷ qs) low =
    earlier_step q qs (last_epoch instance t qs) (last_epoch instance u qs) (epoch_in instance t q.generation q.what qs) (epoch_in instance u q.generation q.what qs)
    (last_epoch-earlier instance t u qs low) (epoch_in-here instance t u q.generation q.what qs low)

chosen_earlier : (journal : List Placed) (lt lu : Option Chosen) → Earlier journal lt lu
    → IsEarlier (unwrap_or lt (record { number = 0; blocks = 0; after = journal })) (unwrap_or lu (record { number = 0; blocks = 0; after = journal }))
chosen_earlier journal None None h = ([], refl)
chosen_earlier journal None (Some e) h = h
chosen_earlier journal (Some d) None h = absurd h
chosen_earlier journal (Some d) (Some e) h = h

pub lesser_target : (instance : List InstanceRecord) (t u : ℕ) (journal : List Placed) → t ≤ u → IsEarlier (chosen instance t journal) (chosen instance u journal)
lesser_target instance t u journal low = chosen_earlier journal (last_epoch instance t journal) (last_epoch instance u journal) (last_epoch-earlier instance t u journal low)

-- the number of an epoch, where there is one, is at most t
abbrev IsUpTo : ℕ → Option Chosen → Type 0
IsUpTo t None = Unit {0}
IsUpTo t (Some e) = e.number ≤ t

up_to_or : (t : ℕ) (a b : Option Chosen) → IsUpTo t a → IsUpTo t b → IsUpTo t (option_or a b)
up_to_or t None b p q = q
up_to_or t (Some e) b p q = p

up_to_if : (t : ℕ) (a : Bool) (e : Chosen) → IsUpTo t (if a && nat_le e.number t then Some e else None)
up_to_if t false e = tt
up_to_if t true e = elim (cases_Bool (nat_le e.number t)) [ inl h ↦ rw h (grind (arith, nat_tests)) | inr h ↦ rw h tt ]

epoch_in-up_to : (instance : List InstanceRecord) (t g : ℕ) (what : JournalRecord) (after : List Placed) → IsUpTo t (epoch_in instance t g what after)
epoch_in-up_to instance t g (Epoch m) after = up_to_if t (survives instance g m.number) (record { number = m.number; blocks = m.blocks; after = after })
epoch_in-up_to instance t g (Pini s) after = tt
epoch_in-up_to instance t g (Pblk i) after = tt
epoch_in-up_to instance t g (Tcom x) after = tt

last_epoch-up_to : (instance : List InstanceRecord) (t : ℕ) (journal : List Placed) → IsUpTo t (last_epoch instance t journal)
last_epoch-up_to instance t [] = tt
last_epoch-up_to instance t (q ∷ qs) = up_to_or t (last_epoch instance t qs) (epoch_in instance t q.generation q.what qs) (last_epoch-up_to instance t qs) (epoch_in-up_to instance t q.generation q.what qs)

unwrap_up_to : (t : ℕ) (o : Option Chosen) (journal : List Placed) → IsUpTo t o → (unwrap_or o (record { number = 0; blocks = 0; after = journal })).number ≤ t
unwrap_up_to t None journal h = omega arith
unwrap_up_to t (Some e) journal h = h

pub number : (instance : List InstanceRecord) (t : ℕ) (journal : List Placed) → (chosen instance t journal).number ≤ t
number instance t journal = unwrap_up_to t (last_epoch instance t journal) journal (last_epoch-up_to instance t journal)
