-- Lines that were read, and one more.
use Rattle.std.proofs.Common.{◌≡◌, ℕ, ◌+◌, ◌-◌, ◌<◌, ◌≤◌, List, [], ◌∷◌, ◌++◌, length, take, drop, get_or, None, Some, refl, ap, sym, ◌∙◌, subst, inl, inr, arith, length-append, fold}
use Rattle.std.specs.Prelude.{Option, slice_get}
use Rattle.std.proofs.lemmas.List.{take-append-drop, take_more, length-take-le}
use Rattle.std.proofs.lemmas.List.Sums.{fold-append}
use Rattle.std.proofs.lemmas.Option.{slice_get-get_or, slice_get_within}
use Rattle.std.proofs.Math.Seq.{get_or-append_seam, take-append_seam, take-append-add, take-length}
use Rattle.std.proofs.lemmas.Bool.{lt-ltb, cases_lt}
use Rattle.global_defs.specs.declared.limits.TheConstants.{MOST_LINES}
use Rattle.command_defs.specs.Commands.{Command}
use Rattle.command_defs.specs.Sections.{Section}
use Rattle.command_defs.specs.Script.{Position, Outside, Within, Reading, Skips, Wrong, Goes, Ends, Lines, line_reading, gone_on, then_line, lines_reading, IsScript, IsBadAt, in_line, behind_all}
use Rattle.repl_script.specs.Feeds.{Moves}
use Rattle.site_runner.specs.Ends.{ComeTo, IsTooLong}
use Rattle.site_runner.specs.Going.{Leads}

read_more : (taken : List (List ℕ)) (line : List ℕ) → lines_reading (taken ++ line ∷ []) ≡ then_line (lines_reading taken) line
read_more taken line = fold-append then_line (Some (record { commands = []; position = Outside })) taken (line ∷ [])

moved : (r : Reading) (cs : List Command) (p q : Position) → Moves p q r → gone_on (record { commands = cs; position = p }) r ≡ Some (record { commands = cs; position = q })
moved Skips cs p q m = ap (λ (x : Position). Some (record { commands = cs; position = x })) (sym m)
moved (Wrong at) cs p q m = absurd m
moved (Goes position) cs p q m = ap (λ (x : Position). Some (record { commands = cs; position = x })) (sym m)
moved (Ends command) cs p q m = absurd m

-- a line that ends no command
pub come_on : (taken : List (List ℕ)) (line : List ℕ) (cs : List Command) (p q : Position) → Moves p q (line_reading p line) → ComeTo taken cs p → ComeTo (taken ++ line ∷ []) cs q
come_on taken line cs p q m h = read_more taken line ∙ ap (λ (o : Option Lines). then_line o line) h ∙ moved (line_reading p line) cs p q m

-- a line that ends one
pub come_to_end : (taken : List (List ℕ)) (line : List ℕ) (cs : List Command) (p : Position) (c : Command) → line_reading p line ≡ Ends c → ComeTo taken cs p → ComeTo (taken ++ line ∷ []) (cs ++ c ∷ []) Outside
come_to_end taken line cs p c e h = read_more taken line ∙ ap (λ (o : Option Lines). then_line o line) h ∙ ap (λ (r : Reading). gone_on (record { commands = cs; position = p }) r) e

pub leads_on : (p q : Position) (line : List ℕ) → Moves p q (line_reading p line) → Leads p q line
leads_on p q line m taken cs h = (cs, come_on taken line cs p q m h)

pub leads_to_end : (p q : Position) (line : List ℕ) (c : Command) → line_reading p line ≡ Ends c → q ≡ Outside → Leads p q line
leads_to_end p q line c e o taken cs h = (cs ++ c ∷ [], subst (λ (x : Position). ComeTo (taken ++ line ∷ []) (cs ++ c ∷ []) x) (sym o) (come_to_end taken line cs p c e h))

-- a line that is too long is bad
pub long_line : (p : Position) (line : List ℕ) → 4096 < length line → line_reading p line ≡ Wrong 4097
long_line p line h = rw (lt-ltb 4096 (length line) h) refl

pub line_there : (taken : List (List ℕ)) (line : List ℕ) (more : List (List ℕ)) → slice_get (taken ++ line ∷ more) (length taken) ≡ Some line
line_there taken line more =
    slice_get-get_or (taken ++ line ∷ more) (length taken) line (omega (arith, length-append taken (line ∷ more)))
    ∙ ap (λ (x : List ℕ). Some x) (get_or-append_seam taken line more line)

-- the first line that is bad
pub bad_here : (taken : List (List ℕ)) (line : List ℕ) (more : List (List ℕ)) (cs : List Command) (p : Position) (n at : ℕ) → n ≡ length taken + 1 → n ≤ 100000 → ComeTo taken cs p → line_reading p line ≡ Wrong at → IsBadAt (taken ++ line ∷ more) n at
bad_here taken line more cs p n at e few h w =
    let front : take (length taken) (taken ++ line ∷ more) ≡ taken = take-append_seam taken (line ∷ more) in
    subst (λ (k : ℕ). IsBadAt (taken ++ line ∷ more) k at) (sym e)
    (in_line (length taken) (record { commands = cs; position = p }) (omega (arith, e, few)) (line_there taken line more)
    (ap lines_reading front ∙ h) w)

-- Of an input at most one of these is so: it is a script, it has a first bad line, it is too long.

none_stays : (lines : List (List ℕ)) → fold then_line None lines ≡ None
none_stays [] = refl
none_stays (line ∷ lines) = none_stays lines

-- behind a bad line nothing is read
none_behind : (lines more : List (List ℕ)) → lines_reading lines ≡ None → lines_reading (lines ++ more) ≡ None
none_behind lines more h =
    fold-append then_line (Some (record { commands = []; position = Outside })) lines more ∙ ap (λ (o : Option Lines). fold then_line o more) h ∙ none_stays more

same_line : {x y : List ℕ} → Some x ≡ Some y → x ≡ y
same_line e = cc

none_at : (lines : List (List ℕ)) (n at : ℕ) (line : List ℕ) (before : Lines) → slice_get lines n ≡ Some line → lines_reading (take n lines) ≡ Some before → line_reading before.position line ≡ Wrong at → lines_reading (take (n + 1) lines) ≡ None
none_at lines n at line before there reads wrong =
    let inside : n < length lines = slice_get_within lines n line there in
    let here : get_or lines n line ≡ line = same_line (sym (slice_get-get_or lines n line inside) ∙ there) in
    let taken : take (n + 1) lines ≡ take n lines ++ line ∷ [] = take_more lines n line inside ∙ ap (λ (x : List ℕ). take n lines ++ x ∷ []) here in
    ap lines_reading taken ∙ read_more (take n lines) line ∙ ap (λ (o : Option Lines). then_line o line) reads ∙ ap (gone_on before) wrong

none_past : (lines : List (List ℕ)) (n at k : ℕ) (line : List ℕ) (before : Lines) → slice_get lines n ≡ Some line → lines_reading (take n lines) ≡ Some before → line_reading before.position line ≡ Wrong at → n < k → lines_reading (take k lines) ≡ None
none_past lines n at k line before there reads wrong h =
    let inside : n < length lines = slice_get_within lines n line there in
    let front = take (n + 1) lines in
    let long : length front ≡ n + 1 = length-take-le (n + 1) lines (omega (arith, inside)) in
    let parts : take k lines ≡ front ++ take (k - (n + 1)) (drop (n + 1) lines) =
    ap (λ (m : ℕ). take m lines) (the_same k (n + 1) (length front) long (omega (arith, h)))
    ∙ ap (take (length front + (k - (n + 1)))) (sym (take-append-drop (n + 1) lines))
    ∙ take-append-add front (drop (n + 1) lines) (k - (n + 1)) in
    ap lines_reading parts ∙ none_behind front (take (k - (n + 1)) (drop (n + 1) lines)) (none_at lines n at line before there reads wrong)
  where
    the_same : (k m l : ℕ) → l ≡ m → m ≤ k → k ≡ l + (k - m)
    the_same k m l e h = omega (arith, e, h)

take_whole : (lines : List (List ℕ)) → take (length lines) lines ≡ lines
take_whole lines = take-length lines

none_some : {r : Lines} (o : Option Lines) → o ≡ None → o ≡ Some r → ⊥
none_some o e h = cc

same_lines : {x y : Lines} → Some x ≡ Some y → x ≡ y
same_lines e = cc

same_wrong : {a b : ℕ} → Wrong a ≡ Wrong b → a ≡ b
same_wrong e = cc

-- a script has no bad line
pub not_bad : (lines : List (List ℕ)) (n at : ℕ) → IsScript lines → IsBadAt lines n at → ⊥
not_bad lines n at s (in_line m {line} before few there reads wrong) =
    let inside : m < length lines = slice_get_within lines m line there in
    none_some (lines_reading lines) (ap lines_reading (sym (take_whole lines)) ∙ none_past lines m at (length lines) line before there reads wrong inside) s.reads
not_bad lines n at s (behind_all all section few reads within) = outside_within section all.position s.read.position within s.closed (ap (λ (r : Lines). r.position) (same_lines (sym reads ∙ s.reads)))
  where
    outside_within : (s : Section) (p q : Position) → p ≡ Within s → q ≡ Outside → p ≡ q → ⊥
    outside_within s p q a b e = cc

-- no script is too long
pub not_long : (lines : List (List ℕ)) → IsScript lines → IsTooLong lines → ⊥
not_long lines s l = omega (arith, s.count, l.more)

-- lines that are too many have no bad one among the first
pub long_not_bad : (lines : List (List ℕ)) (n at : ℕ) → IsTooLong lines → IsBadAt lines n at → ⊥
long_not_bad lines n at l (in_line m {line} before few there reads wrong) =
    none_some (lines_reading (take MOST_LINES lines)) (none_past lines m at MOST_LINES line before there reads wrong (omega (arith, few))) l.front
long_not_bad lines n at l (behind_all all section few reads within) = omega (arith, few, l.more)

-- a bad line is the first one
pub one_bad : (lines : List (List ℕ)) (n at m to : ℕ) → IsBadAt lines n at → IsBadAt lines m to → (n ≡ m) × (at ≡ to)
one_bad lines n at m to (in_line i {line} before few there reads wrong) (in_line k {line = row} front rare here comes bad) = elim (cases_lt i k) [
  | inl h ↦ absurd (none_some (lines_reading (take k lines)) (none_past lines i at k line before there reads wrong h) comes)
  | inr h ↦ elim (cases_lt k i) [
    | inl g ↦ absurd (none_some (lines_reading (take i lines)) (none_past lines k to i row front here comes bad g) reads)
    | inr g ↦ (
        let e : i ≡ k = omega (arith, h, g) in
        let l : line ≡ row = same_line (sym there ∙ ap (slice_get lines) e ∙ here) in
        let b : before ≡ front = same_lines (sym reads ∙ ap (λ (x : ℕ). lines_reading (take x lines)) e ∙ comes) in
        (ap (λ (x : ℕ). x + 1) e, same_wrong (sym wrong ∙ ap (λ (x : Lines). line_reading x.position line) b ∙ ap (line_reading front.position) l ∙ bad)))
  ]
]
one_bad lines n at m to (in_line i {line} before few there reads wrong) (behind_all all section rare comes within) =
    absurd (none_some (lines_reading lines) (ap lines_reading (sym (take_whole lines)) ∙ none_past lines i at (length lines) line before there reads wrong (slice_get_within lines i line there)) comes)
one_bad lines n at m to (behind_all all section rare comes within) (in_line i {line} before few there reads wrong) =
    absurd (none_some (lines_reading lines) (ap lines_reading (sym (take_whole lines)) ∙ none_past lines i to (length lines) line before there reads wrong (slice_get_within lines i line there)) comes)
one_bad lines n at m to (behind_all all section rare comes within) (behind_all all2 section2 rare2 comes2 within2) = (refl, refl)
