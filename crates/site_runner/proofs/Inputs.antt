-- What is known of an input once lines of it were taken.
use Rattle.std.proofs.Common.{◌≡◌, ℕ, ◌+◌, ◌<◌, ◌≤◌, ◌==◌, true, false, List, [], ◌∷◌, ◌++◌, length, None, Some, refl, ap, sym, ◌∙◌, append_assoc, subst, inl, inr, arith, length-append}
use Rattle.std.specs.Prelude.{Option, IfSome}
use Rattle.std.specs.List.{list_all, list_any}
use Rattle.std.specs.Io.KnownBytes.{Consumes, IsAtEnd}
use Rattle.std.proofs.lemmas.List.{append-nil}
use Rattle.std.proofs.lemmas.List.Concat.{flat_map-append}
use Rattle.std.proofs.lemmas.Bool.{cases_Bool}
use Rattle.command_defs.specs.Commands.{Command}
use Rattle.command_defs.specs.Lines.{onto, lines_of, ended}
use Rattle.command_defs.specs.Script.{Position, IsBadAt}
use Rattle.site_runner.specs.Ends.{ComeTo, IsInput}
use Rattle.line_reader.specs.Lines.{IsPiece}
use Rattle.site_runner.proofs.Told.{consumes_then}
use Rattle.site_runner.proofs.LineLaws.{is_clean, last_line, first_line, lines_ended}
use Rattle.site_runner.proofs.Readings.{bad_here, long_line}
use Rattle.jnl_extract.proofs.Cuts.{split_and, split_or}

pub if_some : {A : Type 0} (o : Option A) (P Q : A → Type 0) → ((x : A) → P x → Q x) → IfSome o P → IfSome o Q
if_some None P Q f h = tt
if_some (Some x) P Q f h = f x h

-- lines that are all of an input
pub just_these : (lines : List (List ℕ)) → list_all is_clean lines ≡ true → lines_of (ended lines ++ []) ≡ lines
just_these lines h = lines_ended lines [] h ∙ append-nil lines

-- There is an input that begins with these lines: the one that the source tells, or these alone.
pub with_input : (o m : Option (List ℕ)) (taken : List (List ℕ)) (X : Type 0) → list_all is_clean taken ≡ true → Consumes o m (ended taken)
    → ((input : List ℕ) (more : List (List ℕ)) → IsInput o input → lines_of input ≡ taken ++ more → X) → X
with_input None m taken X h c f = f (ended taken ++ []) [] tt (lines_ended taken [] h)
with_input (Some u) None taken X h c f = absurd c
with_input (Some u) (Some v) taken X h c f = f u (lines_of v) refl (ap lines_of c ∙ lines_ended taken v h)

-- There is an input of which that holds: the one that the source tells, or another.
pub for_input : (o : Option (List ℕ)) (P : List ℕ → Type 0) (X : Type 0) (other : List ℕ) → P other → IfSome o P → ((input : List ℕ) → IsInput o input → P input → X) → X
for_input None P X other h p f = f other tt h
for_input (Some u) P X other h p f = f u refl p

-- all bytes were taken
all_taken : (o n : Option (List ℕ)) (bytes : List ℕ) → Consumes o n bytes → IsAtEnd n → IfSome o (λ input. input ≡ bytes)
all_taken None n bytes c e = tt
all_taken (Some u) None bytes c e = absurd c
all_taken (Some u) (Some v) bytes c e = c ∙ ap (λ x. bytes ++ x) e ∙ append-nil bytes

abbrev pub LinesAre : Option (List ℕ) → List (List ℕ) → Type 0
LinesAre o lines = IfSome o (λ input. lines_of input ≡ lines)

-- at the end, with nothing behind the last line feed
pub lines_at_end : (o n : Option (List ℕ)) (lines : List (List ℕ)) → list_all is_clean lines ≡ true → Consumes o n (ended lines) → IsAtEnd n → LinesAre o lines
lines_at_end o n lines h c e =
    if_some o (λ input. input ≡ ended lines) (λ input. lines_of input ≡ lines)
    (λ input s. ap lines_of (s ∙ sym (append-nil (ended lines))) ∙ lines_ended lines [] h ∙ append-nil lines) (all_taken o n (ended lines) c e)

pub then_nothing : (o m n : Option (List ℕ)) (bytes : List ℕ) → Consumes o m bytes → Consumes m n [] → Consumes o n bytes
then_nothing o m n bytes a b = subst (λ (x : List ℕ). Consumes o n x) (append-nil bytes) (consumes_then o m n bytes [] a b)

-- at the end, behind a last line without its line feed
pub lines_at_last : (o m n : Option (List ℕ)) (lines : List (List ℕ)) (line : List ℕ) → list_all is_clean lines ≡ true → IsPiece line → 0 < length line → Consumes o m (ended lines) → Consumes m n line → IsAtEnd n → LinesAre o (lines ++ line ∷ [])
lines_at_last o m n lines line h p l a b e =
    if_some o (λ input. input ≡ ended lines ++ line) (λ input. lines_of input ≡ lines ++ line ∷ [])
    (λ input s. ap lines_of s ∙ lines_ended lines line h ∙ ap (λ x. lines ++ x) (last_line line p l)) (all_taken o n (ended lines ++ line) (consumes_then o m n (ended lines) line a b) e)

pub one_more_line : (o m n : Option (List ℕ)) (lines : List (List ℕ)) (line : List ℕ) → Consumes o m (ended lines) → Consumes m n (line ++ 10 ∷ []) → Consumes o n (ended (lines ++ line ∷ []))
one_more_line o m n lines line a b =
    let e : ended lines ++ (line ++ 10 ∷ []) ≡ ended (lines ++ line ∷ []) = ap (λ x. ended lines ++ x) (sym (append-nil (line ++ 10 ∷ []))) ∙ sym (flat_map-append (λ l. l ++ 10 ∷ []) lines (line ∷ [])) in
    subst (λ (x : List ℕ). Consumes o n x) e (consumes_then o m n (ended lines) (line ++ 10 ∷ []) a b)

pub more_clean : (lines : List (List ℕ)) (line : List ℕ) → list_all is_clean lines ≡ true → IsPiece line → list_all is_clean (lines ++ line ∷ []) ≡ true
more_clean [] line h p = rw p refl
more_clean (l ∷ lines) line h p =
    let s = split_and (is_clean l) (list_all is_clean lines) h in
    rw s.0 (more_clean lines line s.1 p)

pub one_longer : (lines : List (List ℕ)) (line : List ℕ) (k : ℕ) → length lines ≡ k → length (lines ++ line ∷ []) ≡ k + 1
one_longer lines line k e = omega (arith, e, length-append lines (line ∷ []))

pub longer_bytes : (lines : List (List ℕ)) (line : List ℕ) → length (ended (lines ++ line ∷ [])) ≡ length (ended lines) + (length line + 1)
longer_bytes lines line =
    let e : ended (lines ++ line ∷ []) ≡ ended lines ++ (line ++ 10 ∷ []) = flat_map-append (λ l. l ++ 10 ∷ []) lines (line ∷ []) ∙ ap (λ x. ended lines ++ x) (append-nil (line ++ 10 ∷ [])) in
    ap length e ∙ omega (arith, length-append (ended lines) (line ++ 10 ∷ []), length-append line (10 ∷ []))

-- the input begins with these lines and then this one
abbrev pub Begin : Option (List ℕ) → List (List ℕ) → List ℕ → Type 0
Begin o lines line = IfSome o (λ input. (more : List (List ℕ)) × (lines_of input ≡ lines ++ line ∷ more))

-- the input is these bytes and others
front_taken : (o n : Option (List ℕ)) (bytes : List ℕ) → Consumes o n bytes → IfSome o (λ input. (rest : List ℕ) × (input ≡ bytes ++ rest))
front_taken None n bytes c = tt
front_taken (Some u) None bytes c = absurd c
front_taken (Some u) (Some v) bytes c = (v, c)

pub begin_fed : (o m n : Option (List ℕ)) (lines : List (List ℕ)) (line : List ℕ) → list_all is_clean lines ≡ true → IsPiece line → Consumes o m (ended lines) → Consumes m n (line ++ 10 ∷ []) → Begin o lines line
begin_fed o m n lines line h p a b =
    if_some o (λ input. (rest : List ℕ) × (input ≡ (ended lines ++ (line ++ 10 ∷ [])) ++ rest)) (λ input. (more : List (List ℕ)) × (lines_of input ≡ lines ++ line ∷ more))
    (λ input (rest, s). (lines_of rest, ap lines_of (s ∙ fed_parts lines line rest) ∙ lines_ended lines (line ++ 10 ∷ rest) h ∙ ap (λ x. lines ++ x) (first_line line rest p)))
    (front_taken o n (ended lines ++ (line ++ 10 ∷ [])) (consumes_then o m n (ended lines) (line ++ 10 ∷ []) a b))
  where
    fed_parts : (lines : List (List ℕ)) (line rest : List ℕ) → (ended lines ++ (line ++ 10 ∷ [])) ++ rest ≡ ended lines ++ (line ++ 10 ∷ rest)
    fed_parts lines line rest = append_assoc (ended lines) (line ++ 10 ∷ []) rest ∙ ap (λ x. ended lines ++ x) (append_assoc line (10 ∷ []) rest)

pub begin_last : (o : Option (List ℕ)) (lines : List (List ℕ)) (line : List ℕ) → LinesAre o (lines ++ line ∷ []) → Begin o lines line
begin_last o lines line l = if_some o (λ input. lines_of input ≡ lines ++ line ∷ []) (λ input. (more : List (List ℕ)) × (lines_of input ≡ lines ++ line ∷ more)) (λ input s. ([], s)) l

-- a first line of more bytes
record Longer (line bytes : List ℕ) : Type 0 where
  rest : List ℕ
  more : List (List ℕ)
  spelled : lines_of bytes ≡ (line ++ rest) ∷ more

onto_some : (b : ℕ) (ls : List (List ℕ)) → (x : List ℕ) × ((more : List (List ℕ)) × (onto b ls ≡ (b ∷ x) ∷ more))
onto_some b [] = ([], ([], refl))
onto_some b (l ∷ ls) = (l, (ls, refl))

onto_clean : (b : ℕ) (bytes l : List ℕ) (more : List (List ℕ)) → (b == 10) ≡ false → lines_of bytes ≡ l ∷ more → lines_of (b ∷ bytes) ≡ (b ∷ l) ∷ more
onto_clean b bytes l more h e = rw (h, e) refl

longer : (line rest : List ℕ) → list_any (λ b. b == 10) line ≡ false → 0 < length line → Longer line (line ++ rest)
longer [] rest h n = absurd (omega arith)
longer (b ∷ []) rest h n =
    let s = split_or (b == 10) false h in
    let o = onto_some b (lines_of rest) in
    record { rest = o.0; more = o.1.0; spelled = rw s.0 o.1.1 }
longer (b ∷ c ∷ bs) rest h n =
    let s = split_or (b == 10) (list_any (λ b. b == 10) (c ∷ bs)) h in
    let l = longer (c ∷ bs) rest s.1 (omega arith) in
    record { rest = l.rest; more = l.more; spelled = onto_clean b ((c ∷ bs) ++ rest) ((c ∷ bs) ++ l.rest) l.more s.0 l.spelled }

some_line : (b : ℕ) (rest : List ℕ) → (l : List ℕ) × ((more : List (List ℕ)) × (lines_of (b ∷ rest) ≡ l ∷ more))
some_line b rest = elim (cases_Bool (b == 10)) [
  | inl h ↦ ([], (lines_of rest, rw h refl))
  | inr h ↦ (let o = onto_some b (lines_of rest) in (b ∷ o.0, (o.1.0, rw h o.1.1)))
]

-- a line that is too long
pub bad_long : (o m n : Option (List ℕ)) (taken : List (List ℕ)) (line : List ℕ) (cs : List Command) (p : Position) (k : ℕ) → list_all is_clean taken ≡ true → IsPiece line → length line ≡ 4097
    → Consumes o m (ended taken) → Consumes m n line → ComeTo taken cs p → k ≡ length taken + 1 → k ≤ 100000 → IfSome o (λ input. IsBadAt (lines_of input) k 4097)
bad_long o m n taken line cs p k h q l a b e f few =
    if_some o (λ input. (rest : List ℕ) × (input ≡ (ended taken ++ line) ++ rest)) (λ input. IsBadAt (lines_of input) k 4097)
    (λ input (rest, s).
    let x = longer line rest q (omega (arith, l)) in
    let t : lines_of input ≡ taken ++ (line ++ x.rest) ∷ x.more = ap lines_of (s ∙ append_assoc (ended taken) line rest) ∙ lines_ended taken (line ++ rest) h ∙ ap (λ y. taken ++ y) x.spelled in
    subst (λ (y : List (List ℕ)). IsBadAt y k 4097) (sym t) (bad_here taken (line ++ x.rest) x.more cs p k 4097 f few e (long_line p (line ++ x.rest) (omega (arith, l, length-append line x.rest)))))
    (front_taken o n (ended taken ++ line) (consumes_then o m n (ended taken) line a b))

-- a byte behind lines begins one line more
pub long_more : (o m n : Option (List ℕ)) (taken : List (List ℕ)) (byte : ℕ) → list_all is_clean taken ≡ true → Consumes o m (ended taken) → Consumes m n (byte ∷ [])
    → IfSome o (λ input. (more : List (List ℕ)) × (lines_of input ≡ taken ++ more) × (0 < length more))
long_more o m n taken byte h a b =
    if_some o (λ input. (rest : List ℕ) × (input ≡ (ended taken ++ byte ∷ []) ++ rest)) (λ input. (more : List (List ℕ)) × (lines_of input ≡ taken ++ more) × (0 < length more))
    (λ input (rest, s).
    let x = some_line byte rest in
    (x.0 ∷ x.1.0, ap lines_of (s ∙ append_assoc (ended taken) (byte ∷ []) rest) ∙ lines_ended taken (byte ∷ rest) h ∙ ap (λ y. taken ++ y) x.1.1, omega arith))
    (front_taken o n (ended taken ++ byte ∷ []) (consumes_then o m n (ended taken) (byte ∷ []) a b))
