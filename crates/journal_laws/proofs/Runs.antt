-- Sequences.
use Rattle.std.proofs.Common.{◌≡◌, ◌≢◌, inl, inr, ℕ, zero, suc, ◌+◌, ◌≤◌, ◌<◌, ◌==◌, ◌&&◌, ◌||◌, nat_le, Bool, true, false, List, [], ◌∷◌, ◌++◌, length, take, filter, Option, Some, None, refl, sym, ◌∙◌, ap, subst, arith, length-append, length-take-le, take_all, if◌then◌else◌}
use Rattle.std.proofs.Math.Path.{fun_ext}
use Rattle.std.proofs.lemmas.Bool.{cases_lt}
use Rattle.std.proofs.lemmas.Bool.Decides.{nat_tests}
use Rattle.std.proofs.lemmas.List.Folds.{list_all-append}
use Rattle.std.specs.List.{AllByRecursion, list_all}
use Rattle.std.specs.Option.{option_or, option_and_then}
use Rattle.global_defs.specs.Entry.{Entry, Sequence, Reign, Stamp}
use Rattle.global_defs.specs.Prefix.{stamp_at}
use Rattle.journal_defs.specs.Journal.{JournalRecord, Pini, Epoch, Pblk, Tcom, Part}
use Rattle.journal_defs.specs.Instance.{InstanceRecord, Create, Reigned, Cut, Map, Mode}
use Rattle.journal_defs.specs.Surviving.{survives, spares, spares_start, reigns}
use Rattle.journal_defs.specs.Sequence.{Placed, Records, parts, part_in, part_of, REGIONS, entry_by, entry_among, entry_with, entry, EntriesFrom, IsSequence}
use Rattle.journal_defs.specs.Growth.{with_record, placed, with_parts, IsBefore, NonePast, AreNumbered}

pub or_assoc : {T : Type 0} (a b c : Option T) → option_or (option_or a b) c ≡ option_or a (option_or b c)
or_assoc None b c = refl
or_assoc (Some x) b c = refl

pub or_none : {T : Type 0} (a : Option T) → option_or a None ≡ a
or_none None = refl
or_none (Some x) = refl

among_none : (part : ℕ → Option Part) (stamp : Stamp) (rs : List ℕ) → ((r : ℕ) → part r ≡ None) → entry_among part stamp rs ≡ None
among_none part stamp [] none = refl
among_none part stamp (r ∷ rs) none =
    ap (λ (o : Option Part). option_or (option_and_then (λ p. entry_by part stamp p) o) (entry_among part stamp rs)) (none r) ∙ among_none part stamp rs none

whole_none : (part : ℕ → Option Part) (stamp : Option Stamp) → ((r : ℕ) → part r ≡ None) → entry_with part stamp ≡ None
whole_none part None none = refl
whole_none part (Some stamp) none = among_none part stamp REGIONS none

pub entry_none : (s : Records) (n : ℕ) → ((r : ℕ) → parts s n r ≡ None) → entry s n ≡ None
entry_none s n none = whole_none (parts s n) (stamp_at n (reigns s.instance)) none

pub same_entry : (s u : Records) (n : ℕ) → ((r : ℕ) → parts u n r ≡ parts s n r) → stamp_at n (reigns u.instance) ≡ stamp_at n (reigns s.instance) → entry u n ≡ entry s n
same_entry s u n same stamp =
    ap (λ (p : ℕ → Option Part). entry_with p (stamp_at n (reigns u.instance))) (fun_ext same) ∙ ap (entry_with (parts s n)) stamp

-- runs of entries
pub runs_take : (at to : ℕ → Option Entry) (n t : ℕ) (seq : Sequence) → ((k : ℕ) → k < n + t → to k ≡ at k) → EntriesFrom at n seq → EntriesFrom to n (take t seq)
runs_take at to n zero seq same h = tt
runs_take at to n (suc t) [] same h = tt
runs_take at to n (suc t) (e ∷ es) same h = (same n (omega arith) ∙ h.0, runs_take at to (suc n) t es (λ k low. same k (omega arith)) h.1)

runs_more : (at to : ℕ → Option Entry) (n m : ℕ) (seq : Sequence) (e : Entry) → m ≡ n + length seq → ((k : ℕ) → k < m → to k ≡ at k) → EntriesFrom at n seq → to m ≡ Some e → EntriesFrom to n (seq ++ e ∷ [])
runs_more at to n m [] e is same h next = (subst (λ (k : ℕ). to k ≡ Some e) (omega arith) next, tt)
runs_more at to n m (x ∷ xs) e is same h next = (same n (omega arith) ∙ h.0, runs_more at to (suc n) m xs e (omega arith) same h.1 next)

runs_one : (at : ℕ → Option Entry) (n : ℕ) (a b : Sequence) → EntriesFrom at n a → EntriesFrom at n b → at (n + length a) ≡ None → at (n + length b) ≡ None → a ≡ b
runs_one at n [] [] h k ha hb = refl
runs_one at n [] (y ∷ ys) h k ha hb = let stop : at n ≡ None = subst (λ (j : ℕ). at j ≡ None) (omega arith) ha in let go : at n ≡ Some y = k.0 in cc
runs_one at n (x ∷ xs) [] h k ha hb = let stop : at n ≡ None = subst (λ (j : ℕ). at j ≡ None) (omega arith) hb in let go : at n ≡ Some x = h.0 in cc
runs_one at n (x ∷ xs) (y ∷ ys) h k ha hb =
    let first : x ≡ y = (let p : at n ≡ Some x = h.0 in let q : at n ≡ Some y = k.0 in cc) in
    let rest : xs ≡ ys = runs_one at (suc n) xs ys h.1 k.1 (subst (λ (j : ℕ). at j ≡ None) (omega arith) ha) (subst (λ (j : ℕ). at j ≡ None) (omega arith) hb) in
    cc

pub one : (s : Records) (a b : Sequence) → IsSequence s a → IsSequence s b → a ≡ b
one s a b h k = runs_one (entry s) 1 a b h.each k.each (subst (λ (j : ℕ). entry s j ≡ None) (omega arith) h.ended) (subst (λ (j : ℕ). entry s j ≡ None) (omega arith) k.ended)

-- what a CUT spares
survives_cut : (instance : List InstanceRecord) (t g h n : ℕ) → survives (instance ++ Cut t g ∷ []) h n ≡ (survives instance h n && ((nat_le g h || nat_le n t) && true))
survives_cut instance t g h n = list_all-append (spares h n) instance (Cut t g ∷ [])

spared : (a x : Bool) (n t : ℕ) → n ≤ t → (a && ((x || nat_le n t) && true)) ≡ a
spared false x n t low = refl
spared true true n t low = refl
spared true false n t low = grind (arith, nat_tests)

dropped : (a : Bool) (g h n t : ℕ) → h < g → t < n → (a && ((nat_le g h || nat_le n t) && true)) ≡ false
dropped false g h n t old high = refl
dropped true g h n t old high = grind (arith, nat_tests)

part_in-cut : (instance : List InstanceRecord) (t g h n : ℕ) (what : JournalRecord) → n ≤ t → part_in (instance ++ Cut t g ∷ []) n h what ≡ part_in instance n h what
part_in-cut instance t g h n (Tcom p) low = ap (λ (b : Bool). if p.number == n && b then Some p else None) (survives_cut instance t g h n ∙ spared (survives instance h n) (nat_le g h) n t low)
part_in-cut instance t g h n (Pini s) low = refl
part_in-cut instance t g h n (Epoch m) low = refl
part_in-cut instance t g h n (Pblk b) low = refl

if_not : (b : Bool) (p : Part) → (if b && false then Some p else None) ≡ None
if_not false p = refl
if_not true p = refl

part_in-dropped : (instance : List InstanceRecord) (t g h n : ℕ) (what : JournalRecord) → h < g → t < n → part_in (instance ++ Cut t g ∷ []) n h what ≡ None
part_in-dropped instance t g h n (Tcom p) old high =
    ap (λ (b : Bool). if p.number == n && b then Some p else None) (survives_cut instance t g h n ∙ dropped (survives instance h n) g h n t old high) ∙ if_not (p.number == n) p
part_in-dropped instance t g h n (Pini s) old high = refl
part_in-dropped instance t g h n (Epoch m) old high = refl
part_in-dropped instance t g h n (Pblk b) old high = refl

pub part_of-cut : (instance : List InstanceRecord) (t g n : ℕ) (ps : List Placed) → n ≤ t → part_of (instance ++ Cut t g ∷ []) n ps ≡ part_of instance n ps
part_of-cut instance t g n [] low = refl
part_of-cut instance t g n (p ∷ ps) low =
    ap (λ (o : Option Part). option_or o (part_in (instance ++ Cut t g ∷ []) n p.generation p.what)) (part_of-cut instance t g n ps low)
    ∙ ap (option_or (part_of instance n ps)) (part_in-cut instance t g p.generation n p.what low)

part_of-dropped : (instance : List InstanceRecord) (t g n : ℕ) (ps : List Placed) → AllByRecursion (λ p. p.generation < g) ps → t < n → part_of (instance ++ Cut t g ∷ []) n ps ≡ None
part_of-dropped instance t g n [] old high = refl
part_of-dropped instance t g n (p ∷ ps) old high =
    ap (λ (o : Option Part). option_or o (part_in (instance ++ Cut t g ∷ []) n p.generation p.what)) (part_of-dropped instance t g n ps old.1 high)
    ∙ part_in-dropped instance t g p.generation n p.what old.0 high

pub none_past_cut : (s : Records) (t g : ℕ) → IsBefore g s → NonePast t (with_record s (Cut t g))
none_past_cut s t g old n r high = part_of-dropped s.instance t g n (s.journal r) (old r) high

-- which reigns a CUT leaves
abbrev pub starts_by : ℕ → Reign → Bool
starts_by t r = nat_le r.start t

kept_reign : (a b : Bool) (r : Reign) (rs : List Reign) → filter (λ (x : Reign). b) [] ≡ [] → (if a && (b && true) then r ∷ rs else rs) ≡ (if a then (if b then r ∷ rs else rs) else rs)
kept_reign false b r rs h = refl
kept_reign true false r rs h = refl
kept_reign true true r rs h = refl

if_filter : (a : Bool) (t : ℕ) (r : Reign) (rs : List Reign)
    → (if a then (if nat_le r.start t then r ∷ filter (starts_by t) rs else filter (starts_by t) rs) else filter (starts_by t) rs) ≡ filter (starts_by t) (if a then r ∷ rs else rs)
if_filter false t r rs = refl
if_filter true t r rs = refl

pub reigns-cut : (instance : List InstanceRecord) (t g : ℕ) → reigns (instance ++ Cut t g ∷ []) ≡ filter (starts_by t) (reigns instance)
reigns-cut [] t g = refl
reigns-cut (Reigned r ∷ rs) t g =
    ap (λ (b : Bool). if b then r ∷ reigns (rs ++ Cut t g ∷ []) else reigns (rs ++ Cut t g ∷ [])) (list_all-append (spares_start r.start) rs (Cut t g ∷ []))
    ∙ kept_reign (list_all (spares_start r.start) rs) (nat_le r.start t) r (reigns (rs ++ Cut t g ∷ [])) refl
    ∙ ap (λ (l : List Reign). if list_all (spares_start r.start) rs then (if nat_le r.start t then r ∷ l else l) else l) (reigns-cut rs t g)
    ∙ if_filter (list_all (spares_start r.start) rs) t r (reigns rs)
reigns-cut (Create name regions ∷ rs) t g = reigns-cut rs t g
reigns-cut (Cut m h ∷ rs) t g = reigns-cut rs t g
reigns-cut (Map region star name ∷ rs) t g = reigns-cut rs t g
reigns-cut (Mode region before ∷ rs) t g = reigns-cut rs t g

-- the stamp that a reign gives to n
abbrev stamp_by : ℕ → Reign → Option Stamp
stamp_by n r = if nat_le r.start n then Some r.stamp else None

stamp_kept : (n t : ℕ) (r : Reign) (rs : List Reign) → n ≤ t → stamp_at n (if nat_le r.start t then r ∷ rs else rs) ≡ option_or (stamp_at n rs) (stamp_by n r)
stamp_kept n t r rs low = elim (cases_lt t r.start) [
  | inl late ↦
      let a : nat_le r.start t ≡ false = grind (arith, nat_tests) in
      let b : nat_le r.start n ≡ false = grind (arith, nat_tests) in
      rw (a, b) (sym (or_none (stamp_at n rs)))
  | inr early ↦
      let a : nat_le r.start t ≡ true = grind (arith, nat_tests) in
      rw a refl
]

stamp_at-filter : (n t : ℕ) (rs : List Reign) → n ≤ t → stamp_at n (filter (starts_by t) rs) ≡ stamp_at n rs
stamp_at-filter n t [] low = refl
stamp_at-filter n t (r ∷ rs) low = stamp_kept n t r (filter (starts_by t) rs) low ∙ ap (λ (o : Option Stamp). option_or o (stamp_by n r)) (stamp_at-filter n t rs low)

stamp_at-cut : (instance : List InstanceRecord) (n t g : ℕ) → n ≤ t → stamp_at n (reigns (instance ++ Cut t g ∷ [])) ≡ stamp_at n (reigns instance)
stamp_at-cut instance n t g low = ap (stamp_at n) (reigns-cut instance t g) ∙ stamp_at-filter n t (reigns instance) low

pub cut : (s : Records) (seq : Sequence) (t g : ℕ) → IsSequence s seq → t ≤ length seq → IsBefore g s → IsSequence (with_record s (Cut t g)) (take t seq)
cut s seq t g h few old = record {
  each = runs_take (entry s) (entry (with_record s (Cut t g))) 1 t seq (λ k low. same_entry s (with_record s (Cut t g)) k (λ r. part_of-cut s.instance t g k (s.journal r) (omega arith)) (stamp_at-cut s.instance k t g (omega arith))) h.each;
  ended = entry_none (with_record s (Cut t g)) (suc (length (take t seq))) (λ r. none_past_cut s t g old (suc (length (take t seq))) r (omega (arith, length-take-le t seq few)));
}

-- parts at the ends of journals
pub part_of-append : (instance : List InstanceRecord) (n : ℕ) (ps qs : List Placed) → part_of instance n (ps ++ qs) ≡ option_or (part_of instance n qs) (part_of instance n ps)
part_of-append instance n [] qs = sym (or_none (part_of instance n qs))
part_of-append instance n (p ∷ ps) qs =
    ap (λ (o : Option Part). option_or o (part_in instance n p.generation p.what)) (part_of-append instance n ps qs)
    ∙ or_assoc (part_of instance n qs) (part_of instance n ps) (part_in instance n p.generation p.what)

placed_other : (instance : List InstanceRecord) (n m g : ℕ) (o : Option Part) → ((p : Part) → o ≡ Some p → p.number ≡ m) → n ≢ m → part_of instance n (placed g o) ≡ None
placed_other instance n m g None numbered other = refl
placed_other instance n m g (Some p) numbered other = let is : p.number ≡ m = numbered p refl in let no : (p.number == n) ≡ false = grind (arith, nat_tests) in rw no refl

placed_here : (instance : List InstanceRecord) (n g : ℕ) (o : Option Part) → ((p : Part) → o ≡ Some p → p.number ≡ n) → survives instance g n ≡ true → part_of instance n (placed g o) ≡ o
placed_here instance n g None numbered lives = refl
placed_here instance n g (Some p) numbered lives = let is : p.number ≡ n = numbered p refl in let yes : (p.number == n) ≡ true = grind (arith, nat_tests) in rw (yes, lives) refl

pub parts_other : (s : Records) (n m g : ℕ) (part : ℕ → Option Part) → AreNumbered m part → n ≢ m → (r : ℕ) → parts (with_parts s g part) n r ≡ parts s n r
parts_other s n m g part numbered other r =
    part_of-append s.instance n (s.journal r) (placed g (part r)) ∙ ap (λ (o : Option Part). option_or o (parts s n r)) (placed_other s.instance n m g (part r) (numbered r) other)

pub parts_here : (s : Records) (n g : ℕ) (part : ℕ → Option Part) → AreNumbered n part → survives s.instance g n ≡ true → ((r : ℕ) → parts s n r ≡ None) → (r : ℕ) → parts (with_parts s g part) n r ≡ part r
parts_here s n g part numbered lives none r =
    part_of-append s.instance n (s.journal r) (placed g (part r))
    ∙ ap (λ (o : Option Part). option_or o (parts s n r)) (placed_here s.instance n g (part r) (numbered r) lives)
    ∙ ap (option_or (part r)) (none r) ∙ or_none (part r)

pub none_past_longer : (s : Records) (n g : ℕ) (part : ℕ → Option Part) → NonePast n s → AreNumbered n part → NonePast n (with_parts s g part)
none_past_longer s n g part none numbered k r high = parts_other s k n g part numbered (λ same. omega arith) r ∙ none k r high

pub longer : (s : Records) (seq : Sequence) (n g : ℕ) (part : ℕ → Option Part) (e : Entry) → IsSequence s seq → NonePast (length seq) s
    → n ≡ length seq + 1 → AreNumbered n part → survives s.instance g n ≡ true
    → entry_with part (stamp_at n (reigns s.instance)) ≡ Some e → IsSequence (with_parts s g part) (seq ++ e ∷ [])
longer s seq n g part e h none is numbered lives whole_is = record {
  each = runs_more (entry s) (entry (with_parts s g part)) 1 n seq e (omega arith)
      (λ k low. same_entry s (with_parts s g part) k (parts_other s k n g part numbered (λ same. omega arith)) refl) h.each
      (ap (λ (p : ℕ → Option Part). entry_with p (stamp_at n (reigns s.instance))) (fun_ext (parts_here s n g part numbered lives (λ r. none n r (omega arith)))) ∙ whole_is);
  ended = entry_none (with_parts s g part) (suc (length (seq ++ e ∷ [])))
      (λ r. let more : length (seq ++ e ∷ []) ≡ length seq + 1 = length-append seq (e ∷ []) in
      parts_other s (suc (length (seq ++ e ∷ []))) n g part numbered (λ same. omega arith) r ∙ none (suc (length (seq ++ e ∷ []))) r (omega arith));
}

pub and_true : (a b : Bool) → b ≡ true → (a && (b && true)) ≡ a
and_true false b h = refl
and_true true b h = rw h refl

part_in-sparing : (instance : List InstanceRecord) (x : InstanceRecord) (n h : ℕ) (what : JournalRecord) → ((g m : ℕ) → spares g m x ≡ true) → part_in (instance ++ x ∷ []) n h what ≡ part_in instance n h what
part_in-sparing instance x n h (Tcom p) spare = ap (λ (b : Bool). if p.number == n && b then Some p else None) (list_all-append (spares h n) instance (x ∷ []) ∙ and_true (survives instance h n) (spares h n x) (spare h n))
part_in-sparing instance x n h (Pini s) spare = refl
part_in-sparing instance x n h (Epoch m) spare = refl
part_in-sparing instance x n h (Pblk b) spare = refl

pub part_of-sparing : (instance : List InstanceRecord) (x : InstanceRecord) (n : ℕ) (ps : List Placed) → ((g m : ℕ) → spares g m x ≡ true) → part_of (instance ++ x ∷ []) n ps ≡ part_of instance n ps
part_of-sparing instance x n [] spare = refl
part_of-sparing instance x n (p ∷ ps) spare =
    ap (λ (o : Option Part). option_or o (part_in (instance ++ x ∷ []) n p.generation p.what)) (part_of-sparing instance x n ps spare)
    ∙ ap (option_or (part_of instance n ps)) (part_in-sparing instance x n p.generation p.what spare)

if_and_true : (a b : Bool) (r : Reign) (l : List Reign) → b ≡ true → (if a && (b && true) then r ∷ l else l) ≡ (if a then r ∷ l else l)
if_and_true a b r l h = ap (λ (c : Bool). if c then r ∷ l else l) (and_true a b h)

if_append : (a : Bool) (r x : Reign) (l : List Reign) → (if a then r ∷ (l ++ x ∷ []) else l ++ x ∷ []) ≡ (if a then r ∷ l else l) ++ x ∷ []
if_append false r x l = refl
if_append true r x l = refl

pub reigns-more : (instance : List InstanceRecord) (x : Reign) → reigns (instance ++ Reigned x ∷ []) ≡ reigns instance ++ x ∷ []
reigns-more [] x = refl
reigns-more (Reigned r ∷ rs) x =
    ap (λ (b : Bool). if b then r ∷ reigns (rs ++ Reigned x ∷ []) else reigns (rs ++ Reigned x ∷ [])) (list_all-append (spares_start r.start) rs (Reigned x ∷ []))
    ∙ if_and_true (list_all (spares_start r.start) rs) true r (reigns (rs ++ Reigned x ∷ [])) refl
    ∙ ap (λ (l : List Reign). if list_all (spares_start r.start) rs then r ∷ l else l) (reigns-more rs x)
    ∙ if_append (list_all (spares_start r.start) rs) r x (reigns rs)
reigns-more (Create name regions ∷ rs) x = reigns-more rs x
reigns-more (Cut m h ∷ rs) x = reigns-more rs x
reigns-more (Map region star name ∷ rs) x = reigns-more rs x
reigns-more (Mode region before ∷ rs) x = reigns-more rs x

stamp_at-later : (n : ℕ) (rs : List Reign) (x : Reign) → n < x.start → stamp_at n (rs ++ x ∷ []) ≡ stamp_at n rs
stamp_at-later n [] x late = let no : nat_le x.start n ≡ false = grind (arith, nat_tests) in rw no refl
stamp_at-later n (r ∷ rs) x late = ap (λ (o : Option Stamp). option_or o (stamp_by n r)) (stamp_at-later n rs x late)

pub reign : (s : Records) (seq : Sequence) (r : Reign) → IsSequence s seq → NonePast (length seq) s → length seq < r.start → IsSequence (with_record s (Reigned r)) seq
reign s seq r h none late =
    let u : Records = with_record s (Reigned r) in
    let same = λ (k j : ℕ). part_of-sparing s.instance (Reigned r) k (s.journal j) (λ g m. refl) in
    record {
      each = subst (λ (l : Sequence). EntriesFrom (entry u) 1 l) (take_all (length seq) seq (omega arith))
          (runs_take (entry s) (entry u) 1 (length seq) seq (λ k low. same_entry s u k (same k) (ap (stamp_at k) (reigns-more s.instance r) ∙ stamp_at-later k (reigns s.instance) r (omega arith))) h.each);
      ended = entry_none u (suc (length seq)) (λ j. same (suc (length seq)) j ∙ none (suc (length seq)) j (omega arith));
    }

-- records of which each entry is as in others
pub sequence_by : (s u : Records) (seq : Sequence) → ((k : ℕ) → entry u k ≡ entry s k) → IsSequence s seq → IsSequence u seq
sequence_by s u seq equal h = record {
  each = subst (λ (l : Sequence). EntriesFrom (entry u) 1 l) (take_all (length seq) seq (omega arith)) (runs_take (entry s) (entry u) 1 (length seq) seq (λ k low. equal k) h.each);
  ended = equal (suc (length seq)) ∙ h.ended;
}
