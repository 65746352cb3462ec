-- Parts with spaces between them, and where the first one ends.
use Rattle.std.proofs.Common.{◌≡◌, ◌⊎◌, ℕ, zero, suc, ◌<◌, ◌≤◌, ◌&&◌, ◌||◌, ◌==◌, not, Bool, true, false, List, [], ◌∷◌, ◌++◌, length, take, drop, replicate, refl, sym, ap, ◌∙◌, subst, inl, inr, length-append, arith}
use Rattle.std.specs.Prelude.{if◌then◌else◌}
use Rattle.std.proofs.lemmas.List.{append-nil, nil_from_length}
use Rattle.std.proofs.lemmas.Bool.{cases_Bool, eqb-true, eqb-false}
use Rattle.std.proofs.Math.Nat.{suc_inj}
use Rattle.std.proofs.Math.Seq.{take-append_seam, drop-append_seam, take-length, drop-length}
use Rattle.std.proofs.lemmas.Bool.Decides.{eqb_tells}
use Rattle.script_defs.specs.Parts.{part_end, word_end, without_spaces}
use Rattle.command_defs.specs.Parts.{with_byte, before_spaces}
use Rattle.command_defs.specs.Spelling.{stops_quoted, IsPart, Joins, nothing, last, more}

-- A text with no space at its end, and none at its front.

abbrev pub IsTight : List ℕ → Type 0
IsTight t = before_spaces t ≡ t

abbrev pub IsFronted : List ℕ → Type 0
IsFronted t = without_spaces t ≡ t

tail_tight : (b : ℕ) (bs more : List ℕ) → with_byte b more ≡ b ∷ bs → more ≡ bs
tail_tight b bs [] e = elim (eqb_tells b 32) [
  | inl same ↦ absurd (cc (rw same.0 at e))
  | inr other ↦ (let f : b ∷ [] ≡ b ∷ bs = rw other.0 at e in cc)
]
tail_tight b bs (c ∷ cs) e = cc

pub tight_tail : (b : ℕ) (bs : List ℕ) → IsTight (b ∷ bs) → IsTight bs
tight_tail b bs h = tail_tight b bs (before_spaces bs) h

pub tight_drop : (n : ℕ) (t : List ℕ) → IsTight t → IsTight (drop n t)
tight_drop zero t h = h
tight_drop (suc n) [] h = refl
tight_drop (suc n) (b ∷ bs) h = tight_drop n bs (tight_tail b bs h)

pub tight_without : (t : List ℕ) → IsTight t → IsTight (without_spaces t)
tight_without [] h = refl
tight_without (b ∷ bs) h = elim (eqb_tells b 32) [
  | inl same ↦ subst IsTight (sym (rw same.0 refl)) (tight_without bs (tight_tail b bs h))
  | inr other ↦ subst IsTight (sym (rw other.0 refl)) h
]

pub fronted_without : (t : List ℕ) → IsFronted (without_spaces t)
fronted_without [] = refl
fronted_without (b ∷ bs) = elim (eqb_tells b 32) [
  | inl same ↦ (let e : without_spaces (b ∷ bs) ≡ without_spaces bs = rw same.0 refl in subst (λ (x : List ℕ). IsFronted x) (sym e) (fronted_without bs))
  | inr other ↦ (let e : without_spaces (b ∷ bs) ≡ b ∷ bs = rw other.0 refl in subst (λ (x : List ℕ). IsFronted x) (sym e) e)
]

without_shorter : (t : List ℕ) → length (without_spaces t) ≤ length t
without_shorter [] = omega arith
without_shorter (b ∷ bs) = let below = without_shorter bs in elim (eqb_tells b 32) [
  | inl same ↦ rw same.0 (omega (arith, below))
  | inr other ↦ rw other.0 (omega arith)
]

-- spaces, and what stands behind them
pub front_spaces : (t : List ℕ) → (k : ℕ) × (t ≡ replicate k 32 ++ without_spaces t)
front_spaces [] = (0, refl)
front_spaces (b ∷ bs) = elim (eqb_tells b 32) [
  | inl same ↦ (let below = front_spaces bs in (suc below.0, rw same.0 (ap (λ (x : ℕ). x ∷ bs) same.1 ∙ ap (λ (x : List ℕ). 32 ∷ x) below.1)))
  | inr other ↦ (0, rw other.0 refl)
]

-- a tight text of spaces alone is empty
pub tight_none : (t : List ℕ) → IsTight t → without_spaces t ≡ [] → t ≡ []
tight_none [] h e = refl
tight_none (b ∷ bs) h e = elim (eqb_tells b 32) [
  | inl same ↦ (let none : bs ≡ [] = tight_none bs (tight_tail b bs h) (rw same.0 at e) in
      let gone : with_byte b [] ≡ b ∷ bs = subst (λ (x : List ℕ). with_byte b (before_spaces x) ≡ b ∷ bs) none h in
      absurd (cc (rw same.0 at gone)))
  | inr other ↦ absurd (cc (rw other.0 at e))
]

-- The first part of a text and what stands behind it.
record Splits (quoted : Bool) (t : List ℕ) : Type 0 where
  part : List ℕ
  rest : List ℕ
  text : t ≡ part ++ rest
  ends : part_end 32 quoted t ≡ length part
  own : part_end 32 quoted part ≡ length part
  next : (rest ≡ []) ⊎ ((r : List ℕ) × (rest ≡ 32 ∷ r) × (stops_quoted quoted part ≡ false))

stops : (quoted same : Bool) → (not quoted && (same || same)) ≡ true → (quoted ≡ false) × (same ≡ true)
stops true same h = cc
stops false true h = (refl, refl)
stops false false h = cc

splits : (quoted : Bool) (t : List ℕ) → Splits quoted t
splits quoted [] = record { part = []; rest = []; text = refl; ends = refl; own = refl; next = inl refl }
splits quoted (b ∷ bs) = elim (cases_Bool (not quoted && (b == 32 || b == 32))) [
  | inl stop ↦ (let s = stops quoted (b == 32) stop in record {
    part = [];
    rest = b ∷ bs;
    text = refl;
    ends = rw stop refl;
    own = refl;
    next = inr (bs, ap (λ (x : ℕ). x ∷ bs) (eqb-true b 32 s.1), s.0);
  })
  | inr on ↦ (let below = splits (if b == 34 then not quoted else quoted) bs in record {
    part = b ∷ below.part;
    rest = below.rest;
    text = ap (λ (x : List ℕ). b ∷ x) below.text;
    ends = rw on (ap suc below.ends);
    own = rw on (ap suc below.own);
    next = below.next;
  })
]

part_taken : (t : List ℕ) (s : Splits false t) → take (word_end t) t ≡ s.part
part_taken t s = ap (λ (n : ℕ). take n t) s.ends ∙ (ap (take (length s.part)) s.text ∙ take-append_seam s.part s.rest)

part_dropped : (t : List ℕ) (s : Splits false t) → drop (word_end t) t ≡ s.rest
part_dropped t s = ap (λ (n : ℕ). drop n t) s.ends ∙ (ap (drop (length s.part)) s.text ∙ drop-append_seam s.part s.rest)

joins_nil : {parts : List (List ℕ)} {t : List ℕ} → Joins parts t → t ≡ [] → parts ≡ []
joins_nil nothing e = refl
joins_nil (last {part} p) e = absurd (omega (arith, p.0, ap length e))
joins_nil (more {part} {next} {text} {parts} n p c j) e = absurd (omega (arith, ap length e, length-append part (32 ∷ (replicate n 32 ++ text))))

joins_none : {parts : List (List ℕ)} {t : List ℕ} → Joins parts t → parts ≡ [] → t ≡ []
joins_none nothing e = refl
joins_none (last p) e = absurd (cc)
joins_none (more n p c j) e = absurd (cc)

-- a part that isn't empty begins with no space
part_front : (part rest : List ℕ) → IsPart part → without_spaces (part ++ rest) ≡ part ++ rest
part_front [] rest p = absurd (omega (arith, p.0))
part_front (b ∷ bs) rest p = elim (eqb_tells b 32) [
  | inl same ↦ absurd (let e : 0 ≡ length (b ∷ bs) = rw same.0 at p.1 in omega (arith, e))
  | inr other ↦ rw other.0 refl
]

closed_end : (quoted : Bool) (part rest : List ℕ) → part_end 32 quoted part ≡ length part → stops_quoted quoted part ≡ false → part_end 32 quoted (part ++ 32 ∷ rest) ≡ length part
closed_end quoted [] rest e c = rw c refl
closed_end quoted (b ∷ bs) rest e c = elim (cases_Bool (not quoted && (b == 32 || b == 32))) [
  | inl stop ↦ absurd (let f : 0 ≡ length (b ∷ bs) = rw stop at e in omega (arith, f))
  | inr on ↦ rw on (ap suc (closed_end (if b == 34 then not quoted else quoted) bs rest (let f : suc (part_end 32 (if b == 34 then not quoted else quoted) bs) ≡ suc (length bs) = rw on at e in suc_inj f) c))
]

-- what a text of parts begins with
pub record Begins (part : List ℕ) (parts : List (List ℕ)) (t : List ℕ) : Type 0 where
  pub some : 0 < length t
  pub fronted : IsFronted t
  pub first : take (word_end t) t ≡ part
  pub behind : Joins parts (without_spaces (drop (word_end t) t))

pub joins_fronted : {parts : List (List ℕ)} {t : List ℕ} → Joins parts t → IsFronted t
joins_fronted nothing = refl
joins_fronted (last {part} p) = subst IsFronted (append-nil part) (part_front part [] p)
joins_fronted (more {part} {next} {text} n p c j) = part_front part (32 ∷ (replicate n 32 ++ text)) p

pub spaces_gone : (n : ℕ) (t : List ℕ) → IsFronted t → without_spaces (replicate n 32 ++ t) ≡ t
spaces_gone zero t h = h
spaces_gone (suc n) t h = spaces_gone n t h

pub begins : {part : List ℕ} {parts : List (List ℕ)} {t : List ℕ} → Joins (part ∷ parts) t → Begins part parts t
begins (last {part} p) = record {
  some = p.0;
  fronted = subst IsFronted (append-nil part) (part_front part [] p);
  first = ap (λ (n : ℕ). take n part) p.1 ∙ take-length part;
  behind = subst (λ (x : List ℕ). Joins [] (without_spaces x)) (sym (ap (λ (n : ℕ). drop n part) p.1 ∙ drop-length part)) nothing;
}
begins (more {part} {next} {text} {parts} n p c j) =
    let rest = 32 ∷ (replicate n 32 ++ text) in
    let ends = closed_end false part (replicate n 32 ++ text) p.1 c in
    record {
      some = omega (arith, p.0, length-append part rest);
      fronted = part_front part rest p;
      first = ap (λ (k : ℕ). take k (part ++ rest)) ends ∙ take-append_seam part rest;
      behind = subst (λ (x : List ℕ). Joins (next ∷ parts) (without_spaces x)) (sym (ap (λ (k : ℕ). drop k (part ++ rest)) ends ∙ drop-append_seam part rest))
          (subst (λ (x : List ℕ). Joins (next ∷ parts) x) (sym (spaces_gone n text (joins_fronted j))) j);
    }

pub begins_none : {t : List ℕ} → Joins [] t → t ≡ []
begins_none j = joins_none j refl

part_there : (t : List ℕ) (s : Splits false t) → IsFronted t → 0 < length t → 0 < length s.part
part_there t s fronted some = elim (cases_Bool (length s.part == 0)) [
  | inl e ↦ absurd (elim s.next [
    | inl none ↦ omega (arith, some, ap length s.text, length-append s.part s.rest, ap length none, eqb-true (length s.part) 0 e)
    | inr r ↦ (let bare : t ≡ 32 ∷ r.0 = s.text ∙ (ap (λ (x : List ℕ). x ++ s.rest) (nil_from_length s.part (eqb-true (length s.part) 0 e)) ∙ r.1) in
        let f : without_spaces r.0 ≡ 32 ∷ r.0 = subst IsFronted bare fronted in omega (arith, ap length f, without_shorter r.0))
  ])
  | inr e ↦ omega (arith, eqb-false (length s.part) 0 e)
]

joins_more : (t : List ℕ) (parts : List (List ℕ)) (s : Splits false t) → IsTight t → 0 < length s.part → Joins parts (without_spaces s.rest)
    → (r : List ℕ) → s.rest ≡ 32 ∷ r → stops_quoted false s.part ≡ false → Joins (s.part ∷ parts) t
joins_more t [] s tight some j r e c =
    let none : without_spaces (drop (word_end t) t) ≡ [] = ap without_spaces (part_dropped t s) ∙ joins_none j refl in
    absurd (cc (sym (part_dropped t s) ∙ tight_none (drop (word_end t) t) (tight_drop (word_end t) t tight) none, e))
joins_more t (next ∷ parts) s tight some j r e c =
    let f = front_spaces r in
    let behind : without_spaces s.rest ≡ without_spaces r = ap without_spaces e in
    let whole : t ≡ s.part ++ 32 ∷ (replicate f.0 32 ++ without_spaces r) = s.text ∙ ap (λ (x : List ℕ). s.part ++ x) (e ∙ ap (λ (x : List ℕ). 32 ∷ x) f.1) in
    subst (λ (x : List ℕ). Joins (s.part ∷ next ∷ parts) x) (sym whole) (more f.0 (some, s.own) c (subst (λ (x : List ℕ). Joins (next ∷ parts) x) behind j))

joins_at : (t : List ℕ) (parts : List (List ℕ)) (s : Splits false t) → IsTight t → 0 < length s.part → Joins parts (without_spaces s.rest) → Joins (s.part ∷ parts) t
joins_at t parts s tight some j = elim s.next [
  | inl none ↦ (let no : parts ≡ [] = joins_nil j (ap without_spaces none) in
      subst (λ (x : List (List ℕ)). Joins (s.part ∷ x) t) (sym no) (subst (λ (x : List ℕ). Joins (s.part ∷ []) x) (sym (s.text ∙ (ap (λ (x : List ℕ). s.part ++ x) none ∙ append-nil s.part))) (last (some, s.own))))
  | inr r ↦ joins_more t parts s tight some j r.0 r.1 r.2
]

-- the first part of a text, and the parts of what stands behind it, are the parts of the text
pub joins : (t : List ℕ) (parts : List (List ℕ)) → IsTight t → IsFronted t → 0 < length t → Joins parts (without_spaces (drop (word_end t) t)) → Joins (take (word_end t) t ∷ parts) t
joins t parts tight fronted some j =
    let s = splits false t in
    subst (λ (x : List ℕ). Joins (x ∷ parts) t) (sym (part_taken t s))
    (joins_at t parts s tight (part_there t s fronted some) (subst (λ (x : List ℕ). Joins parts (without_spaces x)) (part_dropped t s) j))

-- a part, one or more spaces, and what stands behind them
pub parted : (t : List ℕ) → 0 < length (without_spaces (drop (word_end t) t)) → (k : ℕ) × (t ≡ take (word_end t) t ++ 32 ∷ (replicate k 32 ++ without_spaces (drop (word_end t) t)))
parted t some =
    let s = splits false t in
    let dropped = part_dropped t s in
    elim s.next [
      | inl none ↦ absurd (let e : without_spaces (drop (word_end t) t) ≡ [] = ap without_spaces (dropped ∙ none) in omega (arith, some, ap length e))
      | inr r ↦ (let f = front_spaces r.0 in
          let behind : without_spaces (drop (word_end t) t) ≡ without_spaces r.0 = ap without_spaces (dropped ∙ r.1) in (
            f.0,
            s.text ∙ (ap (λ (x : List ℕ). s.part ++ x) (r.1 ∙ ap (λ (x : List ℕ). 32 ∷ x) (f.1 ∙ ap (λ (x : List ℕ). replicate f.0 32 ++ x) (sym behind)))
                ∙ ap (λ (x : List ℕ). x ++ 32 ∷ (replicate f.0 32 ++ without_spaces (drop (word_end t) t))) (sym (part_taken t s))),
          ))
    ]

-- the first part and what stands behind it and the spaces
pub record Cuts (part rest t : List ℕ) : Type 0 where
  pub some : 0 < length t
  pub first : take (word_end t) t ≡ part
  pub behind : without_spaces (drop (word_end t) t) ≡ rest

pub cuts : (part : List ℕ) (n : ℕ) (rest : List ℕ) → IsPart part → stops_quoted false part ≡ false → IsFronted rest → Cuts part rest (part ++ 32 ∷ (replicate n 32 ++ rest))
cuts part n rest p c fronted =
    let tail = 32 ∷ (replicate n 32 ++ rest) in
    let ends = closed_end false part (replicate n 32 ++ rest) p.1 c in
    record {
      some = omega (arith, p.0, length-append part tail);
      first = ap (λ (k : ℕ). take k (part ++ tail)) ends ∙ take-append_seam part tail;
      behind = ap (λ (k : ℕ). without_spaces (drop k (part ++ tail))) ends ∙ (ap without_spaces (drop-append_seam part tail) ∙ spaces_gone n rest fronted);
    }

pub part_fronted : (part rest : List ℕ) → IsPart part → IsFronted (part ++ rest)
part_fronted = part_front
