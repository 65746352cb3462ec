-- A reader's stage goes on with a line exactly where an extract does.
use Rattle.std.proofs.Common.{◌≡◌, ℕ, suc, ◌+◌, ◌<◌, ◌≤◌, ◌^◌, ◌==◌, ◌&&◌, Bool, true, false, cond, List, [], ◌∷◌, ◌++◌, Option, Some, None, length, map, refl, ap, sym, subst, ◌∙◌, arith, nat_lt, append_assoc, length-append}
use Rattle.std.specs.List.{enumerate_from, AllByRecursion}
use Rattle.std.specs.Str.{bytes_eq}
use Rattle.std.proofs.lemmas.List.{append-nil, map-append}
use Rattle.std.proofs.lemmas.List.Concat.{flat_map-append}
use Rattle.std.proofs.lemmas.Bool.{and_parts, eqb-true, eq-eqb, ltb-true}
use Rattle.global_defs.specs.declared.limits.TheConstants.{NUMBERS_END}
use Rattle.global_defs.specs.Entry.{Update, Entry, Sequence}
use Rattle.global_defs.specs.Fields.{IsStamp, IsOrigin}
use Rattle.jnl_extract.specs.Extracts.{IsSpelled, IsEntry}
use Rattle.jnl_extract.specs.Lines.{Head, Line, Opens, Holds, Closes, IsLine, Stage, stage_of, head_of, updates_of, made_entry, follows, same_head, begun, gone_on, next_stage}
use Rattle.jnl_extract.proofs.Forms.{entry_of_form}
use Rattle.jnl_extract.proofs.FieldLaws.{bytes_same}
use Rattle.jnl_extract.proofs.LineTexts.{lines_from, entry_lines, all_lines}

abbrev pub entries_of : List (ℕ × Entry) → Sequence
entries_of ps = map (λ p. p.1) ps

-- an entry that is being read
pub record IsPending (next : ℕ) (p : ℕ × Entry) : Type 0 where
  pub number : p.0 ≡ next
  pub below : next < NUMBERS_END
  pub stamp : IsStamp p.1.stamp
  pub origin : IsOrigin p.1.transaction.origin
  pub few : length (updates_of p) ≤ 256
  pub each : AllByRecursion IsSpelled (updates_of p)

abbrev pub ArePending : ℕ → Option (ℕ × Entry) → Type 0
ArePending next None = Unit {0}
ArePending next (Some p) = IsPending next p

-- entries in order from a number on
pub record AreEntries (from next : ℕ) (entries : List (ℕ × Entry)) : Type 0 where
  pub next_is : next ≡ from + length entries
  pub numbered : entries ≡ enumerate_from from (entries_of entries)
  pub each : AllByRecursion IsEntry (entries_of entries)
  pub room : next ≤ NUMBERS_END

pub record IsStage (from : ℕ) (s : Stage) : Type 0 where
  pub entries : AreEntries from s.next s.entries
  pub pending : ArePending s.next s.pending

abbrev pub pending_lines : Option (ℕ × Entry) → List Line
pending_lines None = []
pending_lines (Some p) = Opens (head_of p) ∷ map (Holds (head_of p)) (updates_of p)

abbrev pub lines_at : List (ℕ × Entry) → Option (ℕ × Entry) → List Line
lines_at entries pending = all_lines entries ++ pending_lines pending

-- the lines that a stage has read
abbrev pub stage_lines : Stage → List Line
stage_lines s = lines_at s.entries s.pending

-- lists

pub all_more : {A : Type 0} (P : A → Type 0) (xs ys : List A) → AllByRecursion P xs → AllByRecursion P ys → AllByRecursion P (xs ++ ys)
all_more P [] ys p q = q
all_more P (x ∷ xs) ys p q = (p.0, all_more P xs ys p.1 q)

enumerate_more : {A : Type 0} (n : ℕ) (xs : List A) (x : A) → enumerate_from n (xs ++ x ∷ []) ≡ enumerate_from n xs ++ (n + length xs, x) ∷ []
enumerate_more {A} n [] x = ap (λ (k : ℕ). (let p : ℕ × A = (k, x) in p) ∷ []) (let e : n ≡ n + 0 = omega arith in e)
enumerate_more {A} n (y ∷ xs) x =
    ap (λ (r : List (ℕ × A)). (n, y) ∷ r) (enumerate_more (n + 1) xs x
    ∙ ap (λ (k : ℕ). enumerate_from (n + 1) xs ++ (let p : ℕ × A = (k, x) in p) ∷ []) (let e : (n + 1) + length xs ≡ n + suc (length xs) = omega arith in e))

pub same_length : (entries : List (ℕ × Entry)) → length entries ≡ length (entries_of entries)
same_length [] = refl
same_length (p ∷ entries) = ap suc (same_length entries)

-- one entry more
pub pushed : (from next : ℕ) (entries : List (ℕ × Entry)) (p : ℕ × Entry) → AreEntries from next entries → p.0 ≡ next → next < NUMBERS_END → IsEntry p.1 → AreEntries from (next + 1) (entries ++ p ∷ [])
pushed from next entries p a n small e =
    let number : p.0 ≡ from + length (entries_of entries) = n ∙ a.next_is ∙ ap (λ (k : ℕ). from + k) (same_length entries) in
    record {
      next_is = omega (arith, a.next_is, length-append entries (p ∷ []));
      numbered =
          ap (λ (x : List (ℕ × Entry)). x ++ p ∷ []) a.numbered
          ∙ ap (λ (k : ℕ). enumerate_from from (entries_of entries) ++ (let q : ℕ × Entry = (k, p.1) in q) ∷ []) number
          ∙ sym (enumerate_more from (entries_of entries) p.1)
          ∙ ap (enumerate_from from) (sym (map-append (λ (q : ℕ × Entry). q.1) entries (p ∷ [])));
      each = subst (AllByRecursion IsEntry) (sym (map-append (λ (q : ℕ × Entry). q.1) entries (p ∷ []))) (all_more IsEntry (entries_of entries) (p.1 ∷ []) a.each (e, tt));
      room = omega arith;
    }

-- what a stage goes on to

if_some : {A : Type 0} (b : Bool) (x y : A) → cond b (Some x) None ≡ Some y → (b ≡ true) × (x ≡ y)
if_some true x y e = (refl, cc)
if_some false x y e = cc

pub record Goes (from : ℕ) (entries : List (ℕ × Entry)) (pending : Option (ℕ × Entry)) (l : Line) (t : Stage) : Type 0 where
  pub stage : IsStage from t
  pub lines : stage_lines t ≡ lines_at entries pending ++ l ∷ []

ends : (xs : List Line) (l : Line) → (xs ++ l ∷ []) ++ [] ≡ (xs ++ []) ++ l ∷ []
ends xs l = append-nil (xs ++ l ∷ []) ∙ ap (λ (x : List Line). x ++ l ∷ []) (sym (append-nil xs))

begins : (from next : ℕ) (entries : List (ℕ × Entry)) (l : Line) (t : Stage) → AreEntries from next entries → IsLine l → begun next entries l ≡ Some t → Goes from entries None l t
begins from next entries (Opens h) t a i e =
    let s = if_some (follows next h) (stage_of next entries (Some (made_entry h []))) t e in
    let f = and_parts (h.number == next) (nat_lt next NUMBERS_END) s.0 in
    let at : Goes from entries None (Opens h) (stage_of next entries (Some (made_entry h []))) = record {
      stage = record {
        entries = a;
        pending = record { number = eqb-true h.number next f.0; below = ltb-true next NUMBERS_END f.1; stamp = i.stamp; origin = i.origin; few = omega arith; each = tt };
      };
      lines = ap (λ (x : List Line). x ++ Opens h ∷ []) (sym (append-nil (all_lines entries)));
    } in
    subst (Goes from entries None (Opens h)) s.1 at
begins from next entries (Holds h u) t a i e =
    let p : ℕ × Entry = made_entry h (u ∷ []) in
    let s = if_some (follows next h) (stage_of (next + 1) (entries ++ p ∷ []) None) t e in
    let f = and_parts (h.number == next) (nat_lt next NUMBERS_END) s.0 in
    let good : IsEntry p.1 = entry_of_form p.1 i.0.stamp i.0.origin (omega arith) (omega arith) (i.1, tt) in
    let at : Goes from entries None (Holds h u) (stage_of (next + 1) (entries ++ p ∷ []) None) = record {
      stage = record { entries = pushed from next entries p a (eqb-true h.number next f.0) (ltb-true next NUMBERS_END f.1) good; pending = tt };
      lines = ap (λ (x : List Line). x ++ []) (flat_map-append entry_lines entries (p ∷ [])) ∙ ends (all_lines entries) (Holds h u);
    } in
    subst (Goes from entries None (Holds h u)) s.1 at
begins from next entries (Closes h) t a i e = absurd (let n : None ≡ Some t = e in cc)

same_bytes : (xs ys : List ℕ) → bytes_eq xs ys ≡ true → xs ≡ ys
same_bytes [] [] e = refl
same_bytes [] (y ∷ ys) e = cc
same_bytes (x ∷ xs) [] e = cc
same_bytes (x ∷ xs) (y ∷ ys) e =
    let a = and_parts (x == y) (bytes_eq xs ys) e in
    let h : x ≡ y = eqb-true x y a.0 in
    let t : xs ≡ ys = same_bytes xs ys a.1 in cc

heads : (m n c d u v s t : ℕ) (r q : List ℕ) → m ≡ n → r ≡ q → c ≡ d → u ≡ v → s ≡ t
    → (let x : Head = record { number = m; stamp = record { root = r; cycle = c }; origin = record { updater = u; serial = s } } in x)
    ≡ record { number = n; stamp = record { root = q; cycle = d }; origin = record { updater = v; serial = t } }
heads m n c d u v s t r q a b e f g = cc

pub head_same : (p : ℕ × Entry) (h : Head) → same_head p h ≡ true → head_of p ≡ h
head_same p h e =
    let s = and_parts (p.0 == h.number && bytes_eq p.1.stamp.root h.stamp.root && p.1.stamp.cycle == h.stamp.cycle && p.1.transaction.origin.updater == h.origin.updater) (p.1.transaction.origin.serial == h.origin.serial) e in
    let u = and_parts (p.0 == h.number && bytes_eq p.1.stamp.root h.stamp.root && p.1.stamp.cycle == h.stamp.cycle) (p.1.transaction.origin.updater == h.origin.updater) s.0 in
    let c = and_parts (p.0 == h.number && bytes_eq p.1.stamp.root h.stamp.root) (p.1.stamp.cycle == h.stamp.cycle) u.0 in
    let r = and_parts (p.0 == h.number) (bytes_eq p.1.stamp.root h.stamp.root) c.0 in
    heads p.0 h.number p.1.stamp.cycle h.stamp.cycle p.1.transaction.origin.updater h.origin.updater p.1.transaction.origin.serial h.origin.serial p.1.stamp.root h.stamp.root
    (eqb-true p.0 h.number r.0) (same_bytes p.1.stamp.root h.stamp.root r.1) (eqb-true p.1.stamp.cycle h.stamp.cycle c.1)
    (eqb-true p.1.transaction.origin.updater h.origin.updater u.1) (eqb-true p.1.transaction.origin.serial h.origin.serial s.1)

pub own_head : (p : ℕ × Entry) → same_head p (head_of p) ≡ true
own_head p = rw (eq-eqb p.0 p.0 refl, bytes_same p.1.stamp.root, eq-eqb p.1.stamp.cycle p.1.stamp.cycle refl, eq-eqb p.1.transaction.origin.updater p.1.transaction.origin.updater refl, eq-eqb p.1.transaction.origin.serial p.1.transaction.origin.serial refl) refl

-- the lines of two updates or more
pub in_brackets : (h : Head) (us : List Update) → 1 < length us → lines_from h us ≡ Opens h ∷ (map (Holds h) us ++ Closes h ∷ [])
in_brackets h [] e = absurd (omega arith)
in_brackets h (u ∷ []) e = absurd (omega arith)
in_brackets h (u ∷ v ∷ us) e = refl

goes_on : (from next : ℕ) (entries : List (ℕ × Entry)) (p : ℕ × Entry) (l : Line) (t : Stage) → AreEntries from next entries → IsPending next p → IsLine l → gone_on next entries p l ≡ Some t → Goes from entries (Some p) l t
goes_on from next entries p (Opens h) t a q i e = absurd (let n : None ≡ Some t = e in cc)
goes_on from next entries p (Holds h u) t a q i e =
    let n : ℕ × Entry = made_entry (head_of p) (updates_of p ++ u ∷ []) in
    let s = if_some (same_head p h && nat_lt (length (updates_of p)) 256) (stage_of next entries (Some n)) t e in
    let f = and_parts (same_head p h) (nat_lt (length (updates_of p)) 256) s.0 in
    let g : head_of p ≡ h = head_same p h f.0 in
    let few : length (updates_of p) < 256 = ltb-true (length (updates_of p)) 256 f.1 in
    let at : Goes from entries (Some p) (Holds (head_of p) u) (stage_of next entries (Some n)) = record {
      stage = record {
        entries = a;
        pending = record {
          number = q.number;
          below = q.below;
          stamp = q.stamp;
          origin = q.origin;
          few = omega (arith, few, length-append (updates_of p) (u ∷ []));
          each = all_more IsSpelled (updates_of p) (u ∷ []) q.each (i.1, tt);
        };
      };
      lines = ap (λ (x : List Line). all_lines entries ++ Opens (head_of p) ∷ x) (map-append (Holds (head_of p)) (updates_of p) (u ∷ []))
          ∙ sym (append_assoc (all_lines entries) (Opens (head_of p) ∷ map (Holds (head_of p)) (updates_of p)) (Holds (head_of p) u ∷ []));
    } in
    subst (Goes from entries (Some p) (Holds h u)) s.1 (subst (λ (x : Head). Goes from entries (Some p) (Holds x u) (stage_of next entries (Some n))) g at)
goes_on from next entries p (Closes h) t a q i e =
    let s = if_some (same_head p h && nat_lt 1 (length (updates_of p))) (stage_of (next + 1) (entries ++ p ∷ []) None) t e in
    let f = and_parts (same_head p h) (nat_lt 1 (length (updates_of p))) s.0 in
    let g : head_of p ≡ h = head_same p h f.0 in
    let many : 1 < length (updates_of p) = ltb-true 1 (length (updates_of p)) f.1 in
    let good : IsEntry p.1 = entry_of_form p.1 q.stamp q.origin (omega (arith, many)) q.few q.each in
    let at : Goes from entries (Some p) (Closes (head_of p)) (stage_of (next + 1) (entries ++ p ∷ []) None) = record {
      stage = record { entries = pushed from next entries p a q.number q.below good; pending = tt };
      lines = append-nil (all_lines (entries ++ p ∷ []))
          ∙ flat_map-append entry_lines entries (p ∷ [])
          ∙ ap (λ (x : List Line). all_lines entries ++ x) (append-nil (entry_lines p) ∙ in_brackets (head_of p) (updates_of p) many)
          ∙ sym (append_assoc (all_lines entries) (Opens (head_of p) ∷ map (Holds (head_of p)) (updates_of p)) (Closes (head_of p) ∷ []));
    } in
    subst (Goes from entries (Some p) (Closes h)) s.1 (subst (λ (x : Head). Goes from entries (Some p) (Closes x) (stage_of (next + 1) (entries ++ p ∷ []) None)) g at)

goes_at : (from next : ℕ) (entries : List (ℕ × Entry)) (pending : Option (ℕ × Entry)) (l : Line) (t : Stage) → AreEntries from next entries → ArePending next pending → IsLine l
    → next_stage (stage_of next entries pending) l ≡ Some t → Goes from entries pending l t
goes_at from next entries None l t a q i e = begins from next entries l t a i e
goes_at from next entries (Some p) l t a q i e = goes_on from next entries p l t a q i e

pub goes : (from : ℕ) (s : Stage) (l : Line) (t : Stage) → IsStage from s → IsLine l → next_stage s l ≡ Some t → Goes from s.entries s.pending l t
goes from s l t a i e = goes_at from s.next s.entries s.pending l t a.entries a.pending i e
