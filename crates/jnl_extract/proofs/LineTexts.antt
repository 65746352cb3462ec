-- An extract's text is that of its lines.
use Rattle.std.proofs.Common.{◌≡◌, ℕ, ◌+◌, List, [], ◌∷◌, ◌++◌, codes, map, refl, ap, sym, ◌∙◌, append_assoc}
use Rattle.std.specs.Prelude.{decimal}
use Rattle.std.specs.List.{flat_map, enumerate_from}
use Rattle.std.proofs.lemmas.List.{append-nil, map-append}
use Rattle.std.proofs.lemmas.List.Concat.{flat_map-append}
use Rattle.global_defs.specs.Entry.{Update, Set, Kill, ZKill, Entry, Sequence}
use Rattle.global_defs.specs.Extract.{header, entries_text, updates_text, update_line, bracket_line}
use Rattle.jnl_extract.specs.Extracts.{ended, extract_text}
use Rattle.jnl_extract.specs.Lines.{Head, Line, Opens, Holds, Closes, line_body, header_body, update_tail, stamp_text, origin_text, head_of, updates_of}

abbrev pub text_of : List Line → List ℕ
text_of ls = ended (map line_body ls)

-- the lines of an entry
abbrev pub lines_from : Head → List Update → List Line
lines_from h [] = []
lines_from h (u ∷ []) = Holds h u ∷ []
lines_from h (u ∷ v ∷ us) = Opens h ∷ (map (Holds h) (u ∷ v ∷ us) ++ Closes h ∷ [])

abbrev pub entry_lines : ℕ × Entry → List Line
entry_lines p = lines_from (head_of p) (updates_of p)

abbrev pub all_lines : List (ℕ × Entry) → List Line
all_lines ps = flat_map entry_lines ps

pub text-append : (xs ys : List Line) → text_of (xs ++ ys) ≡ text_of xs ++ text_of ys
text-append xs ys = ap ended (map-append line_body xs ys) ∙ flat_map-append (λ (line : List ℕ). line ++ 10 ∷ []) (map line_body xs) (map line_body ys)

held : (w N S O T : List ℕ) → (w ++ (((92 ∷ N) ++ (92 ∷ S)) ++ (92 ∷ O))) ++ (92 ∷ T) ≡ w ++ 92 ∷ (N ++ 92 ∷ (S ++ 92 ∷ (O ++ 92 ∷ T)))
held w N S O T =
    append_assoc w (((92 ∷ N) ++ (92 ∷ S)) ++ (92 ∷ O)) (92 ∷ T)
    ∙ ap (λ (x : List ℕ). w ++ x) (append_assoc ((92 ∷ N) ++ (92 ∷ S)) (92 ∷ O) (92 ∷ T) ∙ append_assoc (92 ∷ N) (92 ∷ S) (92 ∷ (O ++ 92 ∷ T)))

bracketed : (w N S O : List ℕ) → w ++ (((92 ∷ N) ++ (92 ∷ S)) ++ (92 ∷ O)) ≡ w ++ 92 ∷ (N ++ 92 ∷ (S ++ 92 ∷ O))
bracketed w N S O = ap (λ (x : List ℕ). w ++ x) (append_assoc (92 ∷ N) (92 ∷ S) (92 ∷ O))

update_is : (n : ℕ) (e : Entry) (u : Update) → update_line n e u ≡ line_body (Holds (head_of (n, e)) u) ++ 10 ∷ []
update_is n e (Set key value) = ap (λ (x : List ℕ). x ++ 10 ∷ []) (held (codes "SET") (decimal n) (stamp_text e.stamp) (origin_text e.transaction.origin) (update_tail (Set key value)))
update_is n e (Kill key) = ap (λ (x : List ℕ). x ++ 10 ∷ []) (held (codes "KILL") (decimal n) (stamp_text e.stamp) (origin_text e.transaction.origin) (update_tail (Kill key)))
update_is n e (ZKill key) = ap (λ (x : List ℕ). x ++ 10 ∷ []) (held (codes "ZKILL") (decimal n) (stamp_text e.stamp) (origin_text e.transaction.origin) (update_tail (ZKill key)))

opens_is : (n : ℕ) (e : Entry) → bracket_line (codes "TSTART") n e ≡ line_body (Opens (head_of (n, e))) ++ 10 ∷ []
opens_is n e = ap (λ (x : List ℕ). x ++ 10 ∷ []) (bracketed (codes "TSTART") (decimal n) (stamp_text e.stamp) (origin_text e.transaction.origin))

closes_is : (n : ℕ) (e : Entry) → bracket_line (codes "TCOM") n e ≡ line_body (Closes (head_of (n, e))) ++ 10 ∷ []
closes_is n e = ap (λ (x : List ℕ). x ++ 10 ∷ []) (bracketed (codes "TCOM") (decimal n) (stamp_text e.stamp) (origin_text e.transaction.origin))

updates_are : (n : ℕ) (e : Entry) (us : List Update) → flat_map (update_line n e) us ≡ text_of (map (Holds (head_of (n, e))) us)
updates_are n e [] = refl
updates_are n e (u ∷ us) =
    ap (λ (x : List ℕ). x ++ flat_map (update_line n e) us) (update_is n e u)
    ∙ ap (λ (x : List ℕ). (line_body (Holds (head_of (n, e)) u) ++ 10 ∷ []) ++ x) (updates_are n e us)

whole_is : (n : ℕ) (e : Entry) (us : List Update) → updates_text n e us ≡ text_of (lines_from (head_of (n, e)) us)
whole_is n e [] = refl
whole_is n e (u ∷ []) = update_is n e u ∙ sym (append-nil (line_body (Holds (head_of (n, e)) u) ++ 10 ∷ []))
whole_is n e (u ∷ v ∷ us) =
    let all : List Update = u ∷ v ∷ us in
    let o : List ℕ = line_body (Opens (head_of (n, e))) ++ 10 ∷ [] in
    let k : List ℕ = line_body (Closes (head_of (n, e))) ++ 10 ∷ [] in
    let m : List ℕ = text_of (map (Holds (head_of (n, e))) all) in
    ap (λ (x : List ℕ). (x ++ flat_map (update_line n e) all) ++ bracket_line (codes "TCOM") n e) (opens_is n e)
    ∙ ap (λ (x : List ℕ). (o ++ x) ++ bracket_line (codes "TCOM") n e) (updates_are n e all)
    ∙ ap (λ (x : List ℕ). (o ++ m) ++ x) (closes_is n e)
    ∙ append_assoc o m k
    ∙ ap (λ (x : List ℕ). o ++ (m ++ x)) (sym (append-nil k))
    ∙ ap (λ (x : List ℕ). o ++ x) (sym (text-append (map (Holds (head_of (n, e))) all) (Closes (head_of (n, e)) ∷ [])))

entries_are : (n : ℕ) (es : Sequence) → entries_text n es ≡ text_of (all_lines (enumerate_from n es))
entries_are n [] = refl
entries_are n (e ∷ es) =
    ap (λ (x : List ℕ). x ++ entries_text (n + 1) es) (whole_is n e e.transaction.updates)
    ∙ ap (λ (x : List ℕ). text_of (entry_lines (n, e)) ++ x) (entries_are (n + 1) es)
    ∙ sym (text-append (entry_lines (n, e)) (all_lines (enumerate_from (n + 1) es)))

head_line : (w s d : List ℕ) → (w ++ (92 ∷ s)) ++ (92 ∷ d) ≡ w ++ 92 ∷ (s ++ 92 ∷ d)
head_line w s d = append_assoc w (92 ∷ s) (92 ∷ d)

pub header_is : (site : List ℕ) (from : ℕ) → header site from ≡ header_body site from ++ 10 ∷ []
header_is site from = ap (λ (x : List ℕ). x ++ 10 ∷ []) (head_line (codes "GTMRJEX01") site (decimal from))

-- the text of an extract, line by line
pub extract_is : (site : List ℕ) (from : ℕ) (es : Sequence) → extract_text site from es ≡ (header_body site from ++ 10 ∷ []) ++ text_of (all_lines (enumerate_from from es))
extract_is site from es =
    ap (λ (x : List ℕ). x ++ entries_text from es) (header_is site from)
    ∙ ap (λ (x : List ℕ). (header_body site from ++ 10 ∷ []) ++ x) (entries_are from es)
