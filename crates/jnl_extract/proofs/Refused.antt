-- No extract goes on with a line that a stage refuses.
use Rattle.std.proofs.Common.{◌≡◌, ℕ, suc, ◌+◌, ◌<◌, ◌≤◌, ◌^◌, ◌==◌, ◌&&◌, Bool, true, false, cond, List, [], ◌∷◌, ◌++◌, Option, Some, None, length, map, refl, ap, sym, subst, ◌∙◌, arith, inl, inr, ◌⊎◌, nat_lt, append_assoc, length-append}
use Rattle.std.specs.List.{enumerate_from, AllByRecursion}
use Rattle.std.proofs.lemmas.List.{append-nil}
use Rattle.std.proofs.lemmas.Bool.{and_from, eq-eqb, lt-ltb}
use Rattle.global_defs.specs.declared.limits.TheConstants.{NUMBERS_END}
use Rattle.global_defs.specs.Entry.{Update, Entry, Sequence}
use Rattle.jnl_extract.specs.Extracts.{IsEntry}
use Rattle.jnl_extract.specs.Lines.{Head, Line, Opens, Holds, Closes, Stage, stage_of, head_of, updates_of, made_entry, follows, same_head, begun, gone_on, next_stage}
use Rattle.jnl_extract.proofs.LineTexts.{lines_from, entry_lines, all_lines}
use Rattle.jnl_extract.proofs.Grammar.{entries_of, IsStage, pending_lines, stage_lines, own_head, same_length}

heads_eq : {A : Type 0} (x y : A) (xs ys : List A) → x ∷ xs ≡ y ∷ ys → x ≡ y
heads_eq x y xs ys e = cc

tails_eq : {A : Type 0} (x y : A) (xs ys : List A) → x ∷ xs ≡ y ∷ ys → xs ≡ ys
tails_eq x y xs ys e = cc

opens_eq : (h g : Head) → Opens h ≡ Opens g → h ≡ g
opens_eq h g e = cc

holds_eq : (h g : Head) (u v : Update) → Holds h u ≡ Holds g v → (h ≡ g) × (u ≡ v)
holds_eq h g u v e = let p : h ≡ g = cc in let q : u ≡ v = cc in (p, q)

no_open : (h g : Head) (u : Update) → Opens h ≡ Holds g u → ⊥
no_open h g u e = cc

no_close : (h g : Head) (u : Update) → Closes h ≡ Holds g u → ⊥
no_close h g u e = cc

-- the updates of an entry behind its first line are told
inner : (h : Head) (us vs : List Update) (a b : List Line) → (map (Holds h) us ++ Closes h ∷ []) ++ a ≡ (map (Holds h) vs ++ Closes h ∷ []) ++ b → (us ≡ vs) × (a ≡ b)
inner h [] [] a b e = (refl, tails_eq (Closes h) (Closes h) a b e)
inner h [] (v ∷ vs) a b e = absurd (no_close h h v (heads_eq (Closes h) (Holds h v) a ((map (Holds h) vs ++ Closes h ∷ []) ++ b) e))
inner h (u ∷ us) [] a b e = absurd (no_close h h u (sym (heads_eq (Holds h u) (Closes h) ((map (Holds h) us ++ Closes h ∷ []) ++ a) b e)))
inner h (u ∷ us) (v ∷ vs) a b e =
    let x : List Line = (map (Holds h) us ++ Closes h ∷ []) ++ a in
    let y : List Line = (map (Holds h) vs ++ Closes h ∷ []) ++ b in
    let f = holds_eq h h u v (heads_eq (Holds h u) (Holds h v) x y e) in
    let r = inner h us vs a b (tails_eq (Holds h u) (Holds h v) x y e) in
    (ap (λ (z : Update). z ∷ us) f.1 ∙ ap (λ (z : List Update). v ∷ z) r.0, r.1)

-- an entry is told by its lines
same_entry : (h g : Head) (us vs : List Update) (a b : List Line) → 1 ≤ length us → 1 ≤ length vs → lines_from h us ++ a ≡ lines_from g vs ++ b → (h ≡ g) × (us ≡ vs) × (a ≡ b)
same_entry h g [] vs a b p q e = absurd (omega arith)
same_entry h g (u ∷ us) [] a b p q e = absurd (omega arith)
same_entry h g (u ∷ []) (v ∷ []) a b p q e =
    let f = holds_eq h g u v (heads_eq (Holds h u) (Holds g v) a b e) in
    (f.0, ap (λ (z : Update). z ∷ []) f.1, tails_eq (Holds h u) (Holds g v) a b e)
same_entry h g (u ∷ []) (v ∷ w ∷ vs) a b p q e =
    absurd (no_open g h u (sym (heads_eq (Holds h u) (Opens g) a ((map (Holds g) (v ∷ w ∷ vs) ++ Closes g ∷ []) ++ b) e)))
same_entry h g (u ∷ w ∷ us) (v ∷ []) a b p q e =
    absurd (no_open h g v (heads_eq (Opens h) (Holds g v) ((map (Holds h) (u ∷ w ∷ us) ++ Closes h ∷ []) ++ a) b e))
same_entry h g (u ∷ w ∷ us) (v ∷ z ∷ vs) a b p q e =
    let x : List Line = (map (Holds h) (u ∷ w ∷ us) ++ Closes h ∷ []) ++ a in
    let y : List Line = (map (Holds g) (v ∷ z ∷ vs) ++ Closes g ∷ []) ++ b in
    let f = opens_eq h g (heads_eq (Opens h) (Opens g) x y e) in
    let r = inner h (u ∷ w ∷ us) (v ∷ z ∷ vs) a b (tails_eq (Opens h) (Opens g) x y e ∙ ap (λ (k : Head). (map (Holds k) (v ∷ z ∷ vs) ++ Closes k ∷ []) ++ b) (sym f)) in
    (f, r.0, r.1)

same_made : (n : ℕ) (e d : Entry) → head_of (n, e) ≡ head_of (n, d) → e.transaction.updates ≡ d.transaction.updates → e ≡ d
same_made n e d h u =
    ap (λ (k : Head). (made_entry k e.transaction.updates).1) h ∙ ap (λ (us : List Update). (made_entry (head_of (n, d)) us).1) u

pub some_lines : (h : Head) (us : List Update) → 1 ≤ length us → 1 ≤ length (lines_from h us)
some_lines h [] p = absurd (omega arith)
some_lines h (u ∷ []) p = omega arith
some_lines h (u ∷ v ∷ us) p = omega arith

pub record Stripped (n : ℕ) (ds es : Sequence) (x : List Line) : Type 0 where
  pub more : Sequence
  pub entries_are : es ≡ ds ++ more
  pub lines_are : x ≡ all_lines (enumerate_from (n + length ds) more)

-- lines that begin with those of some entries are of these and others
pub strip : (n : ℕ) (ds es : Sequence) (x : List Line) → AllByRecursion IsEntry ds → AllByRecursion IsEntry es → all_lines (enumerate_from n es) ≡ all_lines (enumerate_from n ds) ++ x → Stripped n ds es x
strip n [] es x p q e = record {
  more = es;
  entries_are = refl;
  lines_are = sym e ∙ ap (λ (k : ℕ). all_lines (enumerate_from k es)) (let z : n ≡ n + 0 = omega arith in z);
}
strip n (d ∷ ds) [] x p q e =
    let a : List Line = entry_lines (n, d) in
    let b : List Line = all_lines (enumerate_from (n + 1) ds) in
    let s : 1 ≤ length a = some_lines (head_of (n, d)) d.transaction.updates p.0.transaction.some in
    let z : 0 ≡ length ((a ++ b) ++ x) = ap length e in
    absurd (omega (arith, s, z, length-append (a ++ b) x, length-append a b))
strip n (d ∷ ds) (e ∷ es) x p q eq =
    let b : List Line = all_lines (enumerate_from (n + 1) ds) in
    let s = same_entry (head_of (n, e)) (head_of (n, d)) e.transaction.updates d.transaction.updates (all_lines (enumerate_from (n + 1) es)) (b ++ x) q.0.transaction.some p.0.transaction.some
    (eq ∙ append_assoc (entry_lines (n, d)) b x) in
    let r = strip (n + 1) ds es x p.1 q.1 s.2 in
    record {
      more = r.more;
      entries_are = ap (λ (z : Entry). z ∷ es) (same_made n e d s.0 s.1) ∙ ap (λ (z : Sequence). d ∷ z) r.entries_are;
      lines_are = r.lines_are ∙ ap (λ (k : ℕ). all_lines (enumerate_from k r.more)) (let z : (n + 1) + length ds ≡ n + suc (length ds) = omega arith in z);
    }

no_none : {A : Type 0} (b : Bool) (x : A) → b ≡ true → cond b (Some x) None ≡ None → ⊥
no_none true x e f = cc
no_none false x e f = cc

first_line : (h : Head) (us : List Update) (a x : List Line) (l : Line) → 1 ≤ length us → l ∷ x ≡ lines_from h us ++ a → ((u : Update) × (l ≡ Holds h u)) ⊎ (l ≡ Opens h)
first_line h [] a x l p e = absurd (omega arith)
first_line h (u ∷ []) a x l p e = inl (u, heads_eq l (Holds h u) x a e)
first_line h (u ∷ v ∷ us) a x l p e = inr (heads_eq l (Opens h) x ((map (Holds h) (u ∷ v ∷ us) ++ Closes h ∷ []) ++ a) e)

refused_between : (next : ℕ) (entries : List (ℕ × Entry)) (l : Line) (more : Sequence) (x : List Line) → AllByRecursion IsEntry more → next + length more ≤ NUMBERS_END
    → l ∷ x ≡ all_lines (enumerate_from next more) → begun next entries l ≡ None → ⊥
refused_between next entries l [] x p q e n = cc
refused_between next entries l (d ∷ ds) x p q e n =
    let h : Head = head_of (next, d) in
    let f : follows next h ≡ true = and_from (next == next) (nat_lt next NUMBERS_END) (eq-eqb next next refl) (lt-ltb next NUMBERS_END (omega (arith, q))) in
    elim (first_line h d.transaction.updates (all_lines (enumerate_from (next + 1) ds)) x l p.0.transaction.some e) [
      | inl u ↦ no_none (follows next h) (stage_of (next + 1) (entries ++ made_entry h (u.0 ∷ []) ∷ []) None) f (ap (begun next entries) (sym u.1) ∙ n)
      | inr o ↦ no_none (follows next h) (stage_of next entries (Some (made_entry h []))) f (ap (begun next entries) (sym o) ∙ n)
    ]

pub record Bracketed (h g : Head) (us ws : List Update) (b a : List Line) : Type 0 where
  pub head : h ≡ g
  pub many : 1 < length ws
  pub lines : map (Holds h) us ++ b ≡ (map (Holds h) ws ++ Closes h ∷ []) ++ a

brackets : (h g : Head) (us ws : List Update) (b a : List Line) → 1 ≤ length ws → (Opens h ∷ map (Holds h) us) ++ b ≡ lines_from g ws ++ a → Bracketed h g us ws b a
brackets h g us [] b a p e = absurd (omega arith)
brackets h g us (w ∷ []) b a p e = absurd (no_open h g w (heads_eq (Opens h) (Holds g w) (map (Holds h) us ++ b) a e))
brackets h g us (w ∷ v ∷ ws) b a p e =
    let x : List Line = map (Holds h) us ++ b in
    let y : List Line = (map (Holds g) (w ∷ v ∷ ws) ++ Closes g ∷ []) ++ a in
    let f = opens_eq h g (heads_eq (Opens h) (Opens g) x y e) in
    record {
      head = f;
      many = omega arith;
      lines = tails_eq (Opens h) (Opens g) x y e ∙ ap (λ (k : Head). (map (Holds k) (w ∷ v ∷ ws) ++ Closes k ∷ []) ++ a) (sym f);
    }

next_in : (h : Head) (us ws : List Update) (l : Line) (x a : List Line) → map (Holds h) us ++ l ∷ x ≡ (map (Holds h) ws ++ Closes h ∷ []) ++ a
    → ((u : Update) × (l ≡ Holds h u) × (length us < length ws)) ⊎ ((l ≡ Closes h) × (us ≡ ws))
next_in h [] [] l x a e = inr (heads_eq l (Closes h) x a e, refl)
next_in h [] (w ∷ ws) l x a e = inl (w, heads_eq l (Holds h w) x ((map (Holds h) ws ++ Closes h ∷ []) ++ a) e, omega arith)
next_in h (u ∷ us) [] l x a e = absurd (no_close h h u (sym (heads_eq (Holds h u) (Closes h) (map (Holds h) us ++ l ∷ x) a e)))
next_in h (u ∷ us) (w ∷ ws) l x a e =
    let m : List Line = map (Holds h) us ++ l ∷ x in
    let y : List Line = (map (Holds h) ws ++ Closes h ∷ []) ++ a in
    let f = holds_eq h h u w (heads_eq (Holds h u) (Holds h w) m y e) in
    elim (next_in h us ws l x a (tails_eq (Holds h u) (Holds h w) m y e)) [
      | inl r ↦ inl (r.0, r.1, omega (arith, r.2))
      | inr r ↦ inr (r.0, ap (λ (z : Update). z ∷ us) f.1 ∙ ap (λ (z : List Update). w ∷ z) r.1)
    ]

refused_within : (next : ℕ) (entries : List (ℕ × Entry)) (p : ℕ × Entry) (l : Line) (more : Sequence) (x : List Line) → AllByRecursion IsEntry more
    → (Opens (head_of p) ∷ map (Holds (head_of p)) (updates_of p)) ++ l ∷ x ≡ all_lines (enumerate_from next more) → gone_on next entries p l ≡ None → ⊥
refused_within next entries p l [] x i e n = cc
refused_within next entries p l (d ∷ ds) x i e n =
    let h : Head = head_of p in
    let us : List Update = updates_of p in
    let ws : List Update = d.transaction.updates in
    let a : List Line = all_lines (enumerate_from (next + 1) ds) in
    let k = brackets h (head_of (next, d)) us ws (l ∷ x) a i.0.transaction.some e in
    elim (next_in h us ws l x a k.lines) [
      | inl r ↦
          (let f : (same_head p h && nat_lt (length us) 256) ≡ true = and_from (same_head p h) (nat_lt (length us) 256) (own_head p) (lt-ltb (length us) 256 (omega (arith, r.2, i.0.transaction.few))) in
          no_none (same_head p h && nat_lt (length us) 256) (stage_of next entries (Some (made_entry h (us ++ r.0 ∷ [])))) f (ap (gone_on next entries p) (sym r.1) ∙ n))
      | inr r ↦
          (let f : (same_head p h && nat_lt 1 (length us)) ≡ true = and_from (same_head p h) (nat_lt 1 (length us)) (own_head p) (lt-ltb 1 (length us) (omega (arith, k.many, ap length r.1))) in
          no_none (same_head p h && nat_lt 1 (length us)) (stage_of (next + 1) (entries ++ p ∷ []) None) f (ap (gone_on next entries p) (sym r.0) ∙ n))
    ]

refused_at : (next : ℕ) (entries : List (ℕ × Entry)) (pending : Option (ℕ × Entry)) (l : Line) (more : Sequence) (x : List Line) → AllByRecursion IsEntry more → next + length more ≤ NUMBERS_END
    → pending_lines pending ++ l ∷ x ≡ all_lines (enumerate_from next more) → next_stage (stage_of next entries pending) l ≡ None → ⊥
refused_at next entries None l more x i r e n = refused_between next entries l more x i r e n
refused_at next entries (Some p) l more x i r e n = refused_within next entries p l more x i e n

all_after : {A : Type 0} (P : A → Type 0) (xs ys : List A) → AllByRecursion P (xs ++ ys) → AllByRecursion P ys
all_after P [] ys h = h
all_after P (x ∷ xs) ys h = all_after P xs ys h.1

-- what stands behind the entries that a stage has
pub record Behind (next : ℕ) (x : List Line) : Type 0 where
  pub more : Sequence
  pub each : AllByRecursion IsEntry more
  pub room : next + length more ≤ NUMBERS_END
  pub lines_are : x ≡ all_lines (enumerate_from next more)

pub behind : (from : ℕ) (s : Stage) (es : Sequence) (x : List Line) → IsStage from s → AllByRecursion IsEntry es → from + length es ≤ NUMBERS_END
    → all_lines (enumerate_from from es) ≡ all_lines s.entries ++ x → Behind s.next x
behind from s es x a i r e =
    let ds : Sequence = entries_of s.entries in
    let t = strip from ds es x a.entries.each i (e ∙ ap (λ (ps : List (ℕ × Entry)). all_lines ps ++ x) a.entries.numbered) in
    let n : from + length ds ≡ s.next = ap (λ (k : ℕ). from + k) (sym (same_length s.entries)) ∙ sym a.entries.next_is in
    record {
      more = t.more;
      each = all_after IsEntry ds t.more (subst (AllByRecursion IsEntry) t.entries_are i);
      room = omega (arith, r, n, ap length t.entries_are, length-append ds t.more);
      lines_are = t.lines_are ∙ ap (λ (k : ℕ). all_lines (enumerate_from k t.more)) n;
    }

pub refused : (from : ℕ) (s : Stage) (es : Sequence) (l : Line) (x : List Line) → IsStage from s → AllByRecursion IsEntry es → from + length es ≤ NUMBERS_END
    → all_lines (enumerate_from from es) ≡ stage_lines s ++ l ∷ x → next_stage s l ≡ None → ⊥
refused from s es l x a i r e n =
    let b = behind from s es (pending_lines s.pending ++ l ∷ x) a i r (e ∙ append_assoc (all_lines s.entries) (pending_lines s.pending) (l ∷ x)) in
    refused_at s.next s.entries s.pending l b.more x b.each b.room b.lines_are n

no_end : (h : Head) (us ws : List Update) (a : List Line) → map (Holds h) us ++ [] ≡ (map (Holds h) ws ++ Closes h ∷ []) ++ a → ⊥
no_end h [] [] a e = cc
no_end h [] (w ∷ ws) a e = cc
no_end h (u ∷ us) [] a e = no_close h h u (sym (heads_eq (Holds h u) (Closes h) (map (Holds h) us ++ []) a e))
no_end h (u ∷ us) (w ∷ ws) a e = no_end h us ws a (tails_eq (Holds h u) (Holds h w) (map (Holds h) us ++ []) ((map (Holds h) ws ++ Closes h ∷ []) ++ a) e)

open_at : (next : ℕ) (p : ℕ × Entry) (more : Sequence) → AllByRecursion IsEntry more → pending_lines (Some p) ≡ all_lines (enumerate_from next more) → ⊥
open_at next p [] i e = cc
open_at next p (d ∷ ds) i e =
    let k = brackets (head_of p) (head_of (next, d)) (updates_of p) d.transaction.updates [] (all_lines (enumerate_from (next + 1) ds)) i.0.transaction.some (append-nil (pending_lines (Some p)) ∙ e) in
    no_end (head_of p) (updates_of p) d.transaction.updates (all_lines (enumerate_from (next + 1) ds)) k.lines

some_open : (next : ℕ) (pending : Option (ℕ × Entry)) (more : Sequence) → (pending ≡ None → ⊥) → AllByRecursion IsEntry more → pending_lines pending ≡ all_lines (enumerate_from next more) → ⊥
some_open next None more o i e = o refl
some_open next (Some p) more o i e = open_at next p more i e

-- no extract ends within an entry
pub unended : (from : ℕ) (s : Stage) (es : Sequence) → IsStage from s → AllByRecursion IsEntry es → from + length es ≤ NUMBERS_END → (s.pending ≡ None → ⊥) → all_lines (enumerate_from from es) ≡ stage_lines s → ⊥
unended from s es a i r o e =
    let b = behind from s es (pending_lines s.pending) a i r e in
    some_open s.next s.pending b.more o b.each b.lines_are
