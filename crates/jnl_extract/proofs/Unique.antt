-- A text is the extract of one sequence at most, and has one first bad line at most.
use Rattle.std.proofs.Common.{◌≡◌, ℕ, ◌+◌, ◌-◌, ◌<◌, ◌≤◌, ◌^◌, ◌==◌, false, List, [], ◌∷◌, ◌++◌, IfOk, IfErr, length, drop, refl, ap, sym, subst, ◌∙◌, arith, inl, inr, append_assoc, length-append}
use Rattle.std.specs.Prelude.{Result, Ok, Err}
use Rattle.std.specs.List.{enumerate_from, AllByRecursion, list_any}
use Rattle.std.proofs.lemmas.List.{append-nil}
use Rattle.std.proofs.lemmas.Bool.{cases_order, cases_Bool, eqb-true}
use Rattle.global_defs.specs.declared.limits.TheConstants.{NUMBERS_END}
use Rattle.global_defs.specs.Entry.{Sequence}
use Rattle.global_defs.specs.Extract.{extract, header, entries_text}
use Rattle.jnl_extract.specs.Extracts.{IsEntry, IsExtract, IsExtractOf, extract_text, IsFront, IsBadLine, ended, is_feed}
use Rattle.jnl_extract.specs.Lines.{Line, line_body, header_body, head_of}
use Rattle.jnl_extract.specs.Values.{TellsBadLine, Gives, TellsAt}
use Rattle.jnl_extract.specs.declared.reading.Extract.{Extract}
use Rattle.jnl_extract.specs.declared.reading.ExtractError.{ExtractError}
use Rattle.jnl_extract.specs.declared.reading.ExtractError.TheVariants.{BadLine, NoMemory}
use Rattle.jnl_extract.proofs.LineTexts.{text_of, all_lines, entry_lines, extract_is}
use Rattle.jnl_extract.proofs.Refused.{strip, some_lines}
use Rattle.jnl_extract.proofs.Fronts.{one_line, header_clean, same_site, same_from, common, lines_fit}

nil_text : (ls : List Line) → [] ≡ text_of ls → ls ≡ []
nil_text [] e = refl
nil_text (l ∷ ls) e =
    let b : List ℕ = line_body l in
    let z : 0 ≡ length ((b ++ 10 ∷ []) ++ text_of ls) = ap length e in
    absurd (omega (arith, z, length-append (b ++ 10 ∷ []) (text_of ls), length-append b (10 ∷ [])))

nil_lines : (n : ℕ) (es : Sequence) → AllByRecursion IsEntry es → [] ≡ all_lines (enumerate_from n es) → es ≡ []
nil_lines n [] i e = refl
nil_lines n (d ∷ es) i e =
    let z : 0 ≡ length (entry_lines (n, d) ++ all_lines (enumerate_from (n + 1) es)) = ap length e in
    absurd (omega (arith, z, length-append (entry_lines (n, d)) (all_lines (enumerate_from (n + 1) es)), some_lines (head_of (n, d)) d.transaction.updates i.0.transaction.some))

all_after : (xs ys : Sequence) → AllByRecursion IsEntry (xs ++ ys) → AllByRecursion IsEntry ys
all_after [] ys h = h
all_after (x ∷ xs) ys h = all_after xs ys h.1

same_entries : (n : ℕ) (es fs : Sequence) → n + length es ≤ NUMBERS_END → n + length fs ≤ NUMBERS_END → AllByRecursion IsEntry es → AllByRecursion IsEntry fs
    → text_of (all_lines (enumerate_from n es)) ≡ text_of (all_lines (enumerate_from n fs)) → es ≡ fs
same_entries n es fs r s i j e =
    let a : List Line = all_lines (enumerate_from n es) in
    let b : List Line = all_lines (enumerate_from n fs) in
    let c = common a b [] (lines_fit n es r i) (lines_fit n fs s j) (e ∙ sym (append-nil (text_of b))) in
    let same : a ≡ b ++ [] = c.lines_are ∙ ap (λ (x : List Line). b ++ x) (nil_text c.more c.rest_is) in
    let t = strip n fs es [] j i same in
    let more : AllByRecursion IsEntry t.more = all_after fs t.more (subst (AllByRecursion IsEntry) t.entries_are i) in
    t.entries_are ∙ ap (λ (x : Sequence). fs ++ x) (nil_lines (n + length fs) t.more more t.lines_are) ∙ append-nil fs

-- a text is the extract of one sequence at most
pub one_extract : (site name : List ℕ) (from n : ℕ) (es fs : Sequence) → IsExtract site from es → IsExtract name n fs → extract_text site from es ≡ extract_text name n fs → (site ≡ name) × (from ≡ n) × (es ≡ fs)
one_extract site name from n es fs p q e =
    let a : from ≤ NUMBERS_END = omega (arith, p.last) in
    let b : n ≤ NUMBERS_END = omega (arith, q.last) in
    let h = one_line (header_body site from) (header_body name n) (text_of (all_lines (enumerate_from from es))) (text_of (all_lines (enumerate_from n fs)))
    (header_clean site from p.name a) (header_clean name n q.name b) (sym (extract_is site from es) ∙ e ∙ extract_is name n fs) in
    let k : from ≡ n = same_from site name from n p.name q.name a b h.0 in
    let r : from + length fs ≤ NUMBERS_END = omega (arith, k, q.last) in (
      same_site site name from n p.name q.name h.0,
      k,
      same_entries from es fs p.last r p.each q.each (h.1 ∙ ap (λ (m : ℕ). text_of (all_lines (enumerate_from m fs))) (sym k)),
    )

behind : (xs es : Sequence) → drop (length xs) (xs ++ es) ≡ es
behind [] es = refl
behind (x ∷ xs) es = behind xs es

-- the part of a sequence from a number on has the extract from that number
pub extract_part : (site : List ℕ) (before es : Sequence) → extract site (before ++ es) (length before + 1) ≡ extract_text site (length before + 1) es
extract_part site before es =
    ap (λ (x : Sequence). header site (length before + 1) ++ entries_text (length before + 1) x)
    (ap (λ (k : ℕ). drop k (before ++ es)) (let z : (length before + 1) - 1 ≡ length before = omega arith in z) ∙ behind before es)

-- what lines up to a place say of those up to a later one

longer : (xs ys p q : List ℕ) → xs ++ p ≡ ys ++ q → length xs ≤ length ys → (r : List ℕ) × (ys ≡ xs ++ r) × (p ≡ r ++ q)
longer [] ys p q e h = (ys, refl, e)
longer (x ∷ xs) [] p q e h = absurd (omega arith)
longer (x ∷ xs) (y ∷ ys) p q e h =
    let a : x ≡ y = cc in
    let b : xs ++ p ≡ ys ++ q = cc in
    let t = longer xs ys p q b (omega (arith, h)) in
    (t.0, ap (λ (z : ℕ). z ∷ ys) (sym a) ∙ ap (λ (z : List ℕ). x ∷ z) t.1, t.2)

-- the last byte, 10 where there is none
abbrev last_byte : List ℕ → ℕ
last_byte [] = 10
last_byte (b ∷ []) = b
last_byte (b ∷ c ∷ bs) = last_byte (c ∷ bs)

last_after : (xs : List ℕ) (b : ℕ) (bs : List ℕ) → last_byte (xs ++ b ∷ bs) ≡ last_byte (b ∷ bs)
last_after [] b bs = refl
last_after (x ∷ []) b bs = refl
last_after (x ∷ y ∷ xs) b bs = last_after (y ∷ xs) b bs

at_end : (xs more : List ℕ) → last_byte more ≡ 10 → last_byte ((xs ++ 10 ∷ []) ++ more) ≡ 10
at_end xs [] h = ap last_byte (append-nil (xs ++ 10 ∷ [])) ∙ last_after xs 10 []
at_end xs (b ∷ bs) h = last_after (xs ++ 10 ∷ []) b bs ∙ h

ended_last : (lines : List (List ℕ)) → last_byte (ended lines) ≡ 10
ended_last [] = refl
ended_last (line ∷ lines) = at_end line (ended lines) (ended_last lines)

-- a text that ends in a line feed has a first line
pub record FirstLine (text : List ℕ) : Type 0 where
  pub line : List ℕ
  pub more : List ℕ
  pub clean : list_any is_feed line ≡ false
  pub text_is : text ≡ line ++ 10 ∷ more

first_whole : (b : ℕ) (bs : List ℕ) → last_byte (b ∷ bs) ≡ 10 → FirstLine (b ∷ bs)
first_whole b [] h = record { line = []; more = []; clean = refl; text_is = ap (λ (z : ℕ). z ∷ []) h }
first_whole b (c ∷ bs) h =
    let r = first_whole c bs h in
    elim (cases_Bool (b == 10)) [
      | inl e ↦ record { line = []; more = c ∷ bs; clean = refl; text_is = ap (λ (z : ℕ). z ∷ c ∷ bs) (eqb-true b 10 e) }
      | inr e ↦ record { line = b ∷ r.line; more = r.more; clean = rw e r.clean; text_is = ap (λ (z : List ℕ). b ∷ z) r.text_is }
    ]

front_of_front : (bytes more : List ℕ) → IsFront (bytes ++ more) → IsFront bytes
front_of_front bytes more f = record { site = f.site; from = f.from; entries = f.entries; rest = more ++ f.rest; form = f.form; begins = f.begins ∙ append_assoc bytes more f.rest }

regroup : (xs line more : List ℕ) → xs ++ (line ++ 10 ∷ more) ≡ (xs ++ (line ++ 10 ∷ [])) ++ more
regroup xs line more =
    ap (λ (z : List ℕ). xs ++ z) (sym (append_assoc line (10 ∷ []) more)) ∙ sym (append_assoc xs (line ++ 10 ∷ []) more)

no_more : (xs ys r p q : List ℕ) → ys ≡ xs ++ r → p ≡ r ++ q → length xs < length ys → last_byte ys ≡ 10 → IsFront ys
    → ((line more : List ℕ) → list_any is_feed line ≡ false → p ≡ line ++ 10 ∷ more → IsFront (xs ++ (line ++ 10 ∷ [])) → ⊥) → ⊥
no_more xs ys [] p q e f h l front outside = omega (arith, h, ap length e, length-append xs [])
no_more xs ys (b ∷ bs) p q e f h l front outside =
    let w = first_whole b bs (sym (last_after xs b bs) ∙ ap last_byte (sym e) ∙ l) in
    let whole : ys ≡ (xs ++ (w.line ++ 10 ∷ [])) ++ w.more = e ∙ ap (λ (z : List ℕ). xs ++ z) w.text_is ∙ regroup xs w.line w.more in
    outside w.line (w.more ++ q) w.clean (f ∙ ap (λ (z : List ℕ). z ++ q) w.text_is ∙ append_assoc w.line (10 ∷ w.more) q)
    (front_of_front (xs ++ (w.line ++ 10 ∷ [])) w.more (subst IsFront whole front))

later_by : (xs ys p q : List ℕ) → xs ++ p ≡ ys ++ q → length xs < length ys → last_byte ys ≡ 10 → IsFront ys
    → ((line more : List ℕ) → list_any is_feed line ≡ false → p ≡ line ++ 10 ∷ more → IsFront (xs ++ (line ++ 10 ∷ [])) → ⊥) → ⊥
later_by xs ys p q e h l front outside =
    let t = longer xs ys p q e (omega arith) in
    no_more xs ys t.0 p q t.1 t.2 h l front outside

-- a bad line isn't before another
later : (text : List ℕ) (a b : ℕ) → IsBadLine text a → IsBadLine text b → a < b → ⊥
later text a b p q h = later_by (ended p.lines) (ended q.lines) p.rest q.rest (sym p.text_is ∙ q.text_is) (omega (arith, h, p.place, q.place)) (ended_last q.lines) q.front p.outside

pub one_bad_line : (text : List ℕ) (a b : ℕ) → IsBadLine text a → IsBadLine text b → a ≡ b
one_bad_line text a b p q = elim (cases_order a b) [
  | inl e ↦ e
  | inr o ↦ elim o [ inl less ↦ absurd (later text a b p q less) | inr more ↦ absurd (later text b a q p more) ]
]

-- an answer is that of an extract, and tells the one bad line

pub gives : (text : List ℕ) (r : Result Extract ExtractError) → IfOk r (λ x. IsExtractOf text x.site x.from x.entries) → IfErr r (λ e. TellsBadLine text e)
    → (site : List ℕ) (from : ℕ) (es : Sequence) → IsExtract site from es → text ≡ extract_text site from es → Gives site from es r
gives text (Ok x) h k site from es v e =
    let s = one_extract x.site site x.from from h.sequence es h.form v (sym h.text_is ∙ e) in
    (s.0, s.1, h.numbered ∙ ap (λ (n : ℕ). enumerate_from n h.sequence) s.1 ∙ ap (enumerate_from from) s.2)
gives text (Err NoMemory) h k site from es v e = refl
gives text (Err (BadLine at)) h k site from es v e = absurd (k.unfinished site from es v e)

pub tells : (text : List ℕ) (r : Result Extract ExtractError) → IfOk r (λ x. IsExtractOf text x.site x.from x.entries) → IfErr r (λ e. TellsBadLine text e)
    → (at : ℕ) → IsBadLine text at → TellsAt at r
tells text (Ok x) h k at b = b.unfinished x.site x.from h.sequence h.form h.text_is
tells text (Err NoMemory) h k at b = tt
tells text (Err (BadLine n)) h k at b = one_bad_line text n at k b
