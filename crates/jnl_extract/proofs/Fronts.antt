-- A text that a stage has read up to a line is a front of an extract, and what the stage refuses is no further line of one.
use Rattle.std.proofs.Common.{◌≡◌, ℕ, ◌+◌, ◌-◌, ◌<◌, ◌≤◌, ◌^◌, ◌==◌, Bool, true, false, List, [], ◌∷◌, ◌++◌, Option, Some, None, length, map, codes, refl, ap, sym, subst, ◌∙◌, arith, inl, inr, append_assoc, length-append}
use Rattle.std.specs.Prelude.{decimal}
use Rattle.std.specs.List.{enumerate_from, AllByRecursion}
use Rattle.std.proofs.lemmas.List.{append-nil, map-append, append_cancel_left}
use Rattle.std.proofs.lemmas.Fmt.{decimal_injective}
use Rattle.std.proofs.lemmas.List.Concat.{flat_map-append}
use Rattle.std.proofs.lemmas.Bool.{cases_lt, eqb-true}
use Rattle.global_defs.specs.declared.limits.TheConstants.{NUMBERS_END}
use Rattle.global_defs.specs.Entry.{Update, Set, Kill, ZKill, Entry, Sequence}
use Rattle.global_defs.specs.Jobs as jobs
use Rattle.global_defs.specs.Fields.{IsSiteName}
use Rattle.script_defs.proofs.StatementsWritten.{statement_written}
use Rattle.jnl_extract.specs.Extracts.{IsSpelled, IsEntry, IsExtract, IsExtractOf, extract_text, IsFront, IsBadLine}
use Rattle.jnl_extract.specs.Lines.{Head, Line, Opens, Holds, Closes, line_body, line_head, line_rest, line_word, header_body, stamp_text, origin_text, IsHead, IsLine, Stage, head_of, updates_of, made_entry, Refuses, Takes, Begins}
use Rattle.jnl_extract.proofs.Forms.{entry_of_form}
use Rattle.jnl_extract.proofs.Cuts.{one_cut}
use Rattle.jnl_extract.proofs.FieldLaws.{number_clean, name_clean}
use Rattle.jnl_extract.proofs.LineLaws.{same_line, is_head as head_is}
use Rattle.jnl_extract.proofs.LineTexts.{text_of, text-append, lines_from, entry_lines, all_lines, extract_is}
use Rattle.jnl_extract.proofs.Clean.{Clean, clean_both, tail_clean}
use Rattle.jnl_extract.proofs.Grammar.{entries_of, ArePending, AreEntries, IsStage, pending_lines, lines_at, stage_lines, all_more, pushed, in_brackets, goes, same_length}
use Rattle.jnl_extract.proofs.Refused.{refused, unended}

-- lines have no line feed

clean_stamp : (h : Head) → IsHead h → Clean (stamp_text h.stamp)
clean_stamp h i = clean_both h.stamp.root (46 ∷ decimal h.stamp.cycle) (name_clean 10 h.stamp.root refl i.stamp.root) (number_clean 10 h.stamp.cycle refl (omega (arith, i.stamp.cycle)))

clean_origin : (h : Head) → IsHead h → Clean (origin_text h.origin)
clean_origin h i = clean_both (decimal h.origin.updater) (46 ∷ decimal h.origin.serial) (number_clean 10 h.origin.updater refl (omega (arith, i.origin.updater))) (number_clean 10 h.origin.serial refl (omega (arith, i.origin.serial)))

clean_word : (l : Line) → Clean (line_word l)
clean_word (Opens h) = refl
clean_word (Holds h (Set key value)) = refl
clean_word (Holds h (Kill key)) = refl
clean_word (Holds h (ZKill key)) = refl
clean_word (Closes h) = refl

clean_rest : (l : Line) → IsLine l → Clean (line_rest l)
clean_rest (Opens h) i = clean_origin h i
clean_rest (Holds h u) i = clean_both (origin_text h.origin) (92 ∷ _) (clean_origin h i.0) (tail_clean u i.1)
clean_rest (Closes h) i = clean_origin h i

pub line_clean : (l : Line) → IsLine l → Clean (line_body l)
line_clean l i =
    let h : Head = line_head l in
    clean_both (line_word l) (92 ∷ (decimal h.number ++ 92 ∷ (stamp_text h.stamp ++ 92 ∷ line_rest l))) (clean_word l)
    (clean_both (decimal h.number) (92 ∷ (stamp_text h.stamp ++ 92 ∷ line_rest l)) (number_clean 10 h.number refl (head_is l i).number)
    (clean_both (stamp_text h.stamp) (92 ∷ line_rest l) (clean_stamp h (head_is l i)) (clean_rest l i)))

pub header_clean : (site : List ℕ) (from : ℕ) → IsSiteName site → from ≤ NUMBERS_END → Clean (header_body site from)
header_clean site from i r = clean_both site (92 ∷ decimal from) (name_clean 10 site refl i) (number_clean 10 from refl (omega (arith, r)))

-- texts are cut into their lines in one way

pub one_line : (a b x y : List ℕ) → Clean a → Clean b → (a ++ 10 ∷ []) ++ x ≡ (b ++ 10 ∷ []) ++ y → (a ≡ b) × (x ≡ y)
one_line a b x y p q e = one_cut 10 a x b y p q (sym (append_assoc a (10 ∷ []) x) ∙ e ∙ append_assoc b (10 ∷ []) y)

pub record Common (ls ps : List Line) (x : List ℕ) : Type 0 where
  pub more : List Line
  pub lines_are : ls ≡ ps ++ more
  pub rest_is : x ≡ text_of more
  pub good : AllByRecursion IsLine more

pub common : (ls ps : List Line) (x : List ℕ) → AllByRecursion IsLine ls → AllByRecursion IsLine ps → text_of ls ≡ text_of ps ++ x → Common ls ps x
common ls [] x i j e = record { more = ls; lines_are = refl; rest_is = sym e; good = i }
common [] (p ∷ ps) x i j e =
    let b : List ℕ = line_body p in
    let z : 0 ≡ length (((b ++ 10 ∷ []) ++ text_of ps) ++ x) = ap length e in
    absurd (omega (arith, z, length-append ((b ++ 10 ∷ []) ++ text_of ps) x, length-append (b ++ 10 ∷ []) (text_of ps), length-append b (10 ∷ [])))
common (l ∷ ls) (p ∷ ps) x i j e =
    let s = one_line (line_body l) (line_body p) (text_of ls) (text_of ps ++ x) (line_clean l i.0) (line_clean p j.0) (e ∙ append_assoc (line_body p ++ 10 ∷ []) (text_of ps) x) in
    let r = common ls ps x i.1 j.1 s.1 in
    record {
      more = r.more;
      lines_are = ap (λ (z : Line). z ∷ ls) (same_line l p i.0 j.0 s.0) ∙ ap (λ (z : List Line). p ∷ z) r.lines_are;
      rest_is = r.rest_is;
      good = r.good;
    }

pub record First (ls : List Line) (body : List ℕ) : Type 0 where
  pub line : Line
  pub more : List Line
  pub lines_are : ls ≡ line ∷ more
  pub good : IsLine line
  pub body_is : line_body line ≡ body

first : (ls : List Line) (body rest : List ℕ) → AllByRecursion IsLine ls → Clean body → (body ++ 10 ∷ []) ++ rest ≡ text_of ls → First ls body
first [] body rest i c e =
    let z : length ((body ++ 10 ∷ []) ++ rest) ≡ 0 = ap length e in
    absurd (omega (arith, z, length-append (body ++ 10 ∷ []) rest, length-append body (10 ∷ [])))
first (l ∷ ls) body rest i c e =
    let s = one_line body (line_body l) rest (text_of ls) c (line_clean l i.0) e in
    record { line = l; more = ls; lines_are = refl; good = i.0; body_is = sym s.0 }

-- the lines of entries of their form are of their form

holds_fit : (h : Head) (us : List Update) → IsHead h → AllByRecursion IsSpelled us → AllByRecursion IsLine (map (Holds h) us)
holds_fit h [] i p = tt
holds_fit h (u ∷ us) i p = ((i, p.0), holds_fit h us i p.1)

entry_fit : (h : Head) (us : List Update) → IsHead h → AllByRecursion IsSpelled us → AllByRecursion IsLine (lines_from h us)
entry_fit h [] i p = tt
entry_fit h (u ∷ []) i p = ((i, p.0), tt)
entry_fit h (u ∷ v ∷ us) i p = (i, all_more IsLine (map (Holds h) (u ∷ v ∷ us)) (Closes h ∷ []) (holds_fit h (u ∷ v ∷ us) i p) (i, tt))

pub lines_fit : (n : ℕ) (es : Sequence) → n + length es ≤ NUMBERS_END → AllByRecursion IsEntry es → AllByRecursion IsLine (all_lines (enumerate_from n es))
lines_fit n [] r i = tt
lines_fit n (e ∷ es) r i =
    let h : IsHead (head_of (n, e)) = record { number = omega (arith, r); stamp = i.0.stamp; origin = i.0.transaction.origin } in
    all_more IsLine (entry_lines (n, e)) (all_lines (enumerate_from (n + 1) es)) (entry_fit (head_of (n, e)) e.transaction.updates h i.0.each) (lines_fit (n + 1) es (omega (arith, r)) i.1)

pending_fit : (next : ℕ) (pending : Option (ℕ × Entry)) → ArePending next pending → AllByRecursion IsLine (pending_lines pending)
pending_fit next None i = tt
pending_fit next (Some p) i =
    let h : IsHead (head_of p) = record { number = omega (arith, i.number, i.below); stamp = i.stamp; origin = i.origin } in
    (h, holds_fit (head_of p) (updates_of p) h i.each)

stage_fit : (from : ℕ) (s : Stage) → IsStage from s → AllByRecursion IsLine (stage_lines s)
stage_fit from s a =
    let r : from + length (entries_of s.entries) ≤ NUMBERS_END = omega (arith, a.entries.next_is, a.entries.room, same_length s.entries) in
    all_more IsLine (all_lines s.entries) (pending_lines s.pending)
    (subst (λ (ps : List (ℕ × Entry)). AllByRecursion IsLine (all_lines ps)) (sym a.entries.numbered) (lines_fit from (entries_of s.entries) r a.entries.each))
    (pending_fit s.next s.pending a.pending)

-- a stage's lines are a front

whole_text : (from : ℕ) (site : List ℕ) (entries : List (ℕ × Entry)) (next : ℕ) → AreEntries from next entries → extract_text site from (entries_of entries) ≡ (header_body site from ++ 10 ∷ []) ++ text_of (all_lines entries)
whole_text from site entries next a =
    extract_is site from (entries_of entries) ∙ ap (λ (ps : List (ℕ × Entry)). (header_body site from ++ 10 ∷ []) ++ text_of (all_lines ps)) (sym a.numbered)

of_form : (site : List ℕ) (from next : ℕ) (entries : List (ℕ × Entry)) → IsSiteName site → 1 ≤ from → AreEntries from next entries → IsExtract site from (entries_of entries)
of_form site from next entries n f a = record { name = n; first = f; last = omega (arith, a.next_is, a.room, same_length entries); each = a.each }

some_spelled : IsSpelled (Kill (record { name = 65 ∷ []; subs = [] }))
some_spelled = statement_written (jobs.Kill (record { name = 65 ∷ []; subs = [] })) (refl, tt)

-- updates that make an entry whole
pub record Completed (us : List Update) : Type 0 where
  pub more : List Update
  pub many : 1 < length (us ++ more)
  pub few : length (us ++ more) ≤ 256
  pub each : AllByRecursion IsSpelled (us ++ more)

completed : (us : List Update) → length us ≤ 256 → AllByRecursion IsSpelled us → Completed us
completed us few each = elim (cases_lt (length us) 2) [
  | inl less ↦
      (let k : Update = Kill (record { name = 65 ∷ []; subs = [] }) in
      record {
        more = k ∷ k ∷ [];
        many = omega (arith, length-append us (k ∷ k ∷ []));
        few = omega (arith, less, length-append us (k ∷ k ∷ []));
        each = all_more IsSpelled us (k ∷ k ∷ []) each (some_spelled, (some_spelled, tt));
      })
  | inr most ↦ record {
    more = [];
    many = omega (arith, most, length-append us []);
    few = omega (arith, few, length-append us []);
    each = all_more IsSpelled us [] each tt;
  }
]

front_at : (site : List ℕ) (from next : ℕ) (entries : List (ℕ × Entry)) (pending : Option (ℕ × Entry)) → IsSiteName site → 1 ≤ from → AreEntries from next entries → ArePending next pending
    → IsFront ((header_body site from ++ 10 ∷ []) ++ text_of (lines_at entries pending))
front_at site from next entries None n f a i = record {
  site = site;
  from = from;
  entries = entries_of entries;
  rest = [];
  form = of_form site from next entries n f a;
  begins =
      whole_text from site entries next a
      ∙ ap (λ (x : List Line). (header_body site from ++ 10 ∷ []) ++ text_of x) (sym (append-nil (all_lines entries)))
      ∙ sym (append-nil ((header_body site from ++ 10 ∷ []) ++ text_of (all_lines entries ++ [])));
}
front_at site from next entries (Some p) n f a i =
    let c = completed (updates_of p) i.few i.each in
    let h : Head = head_of p in
    let us : List Update = updates_of p in
    let q : ℕ × Entry = made_entry h (us ++ c.more) in
    let good : IsEntry q.1 = entry_of_form q.1 i.stamp i.origin (omega (arith, c.many)) c.few c.each in
    let w : AreEntries from (next + 1) (entries ++ q ∷ []) = pushed from next entries q a i.number i.below good in
    let behind : List Line = map (Holds h) c.more ++ Closes h ∷ [] in
    let front : List Line = lines_at entries (Some p) in
    let lines : all_lines (entries ++ q ∷ []) ≡ front ++ behind =
    flat_map-append entry_lines entries (q ∷ [])
    ∙ ap (λ (x : List Line). all_lines entries ++ x) (append-nil (entry_lines q) ∙ in_brackets h (us ++ c.more) c.many)
    ∙ ap (λ (x : List Line). all_lines entries ++ Opens h ∷ (x ++ Closes h ∷ [])) (map-append (Holds h) us c.more)
    ∙ ap (λ (x : List Line). all_lines entries ++ Opens h ∷ x) (append_assoc (map (Holds h) us) (map (Holds h) c.more) (Closes h ∷ []))
    ∙ sym (append_assoc (all_lines entries) (Opens h ∷ map (Holds h) us) behind) in
    record {
      site = site;
      from = from;
      entries = entries_of (entries ++ q ∷ []);
      rest = text_of behind;
      form = of_form site from (next + 1) (entries ++ q ∷ []) n f w;
      begins =
          whole_text from site (entries ++ q ∷ []) (next + 1) w
          ∙ ap (λ (x : List Line). (header_body site from ++ 10 ∷ []) ++ text_of x) lines
          ∙ ap (λ (x : List ℕ). (header_body site from ++ 10 ∷ []) ++ x) (text-append front behind)
          ∙ sym (append_assoc (header_body site from ++ 10 ∷ []) (text_of front) (text_of behind));
    }

-- a text, up to what a stage has left of it
pub record IsRead (text site : List ℕ) (from : ℕ) (s : Stage) (left : List ℕ) : Type 0 where
  pub stage : IsStage from s
  pub text_is : text ≡ (header_body site from ++ 10 ∷ []) ++ (text_of (stage_lines s) ++ left)

pub take_line : (text site : List ℕ) (from : ℕ) (s t : Stage) (left rest : List ℕ) → IsRead text site from s left → Takes s left t rest → IsRead text site from t rest
take_line text site from s t left rest r k =
    let g = goes from s k.line t r.stage k.good k.next_is in
    let b : List ℕ = line_body k.line in
    record {
      stage = g.stage;
      text_is =
          r.text_is
          ∙ ap (λ (x : List ℕ). (header_body site from ++ 10 ∷ []) ++ x)
          (ap (λ (x : List ℕ). text_of (stage_lines s) ++ x) (k.left_is ∙ sym (append_assoc b (10 ∷ []) rest))
          ∙ ap (λ (x : List ℕ). text_of (stage_lines s) ++ (x ++ rest)) (sym (append-nil (b ++ 10 ∷ [])))
          ∙ sym (append_assoc (text_of (stage_lines s)) (text_of (k.line ∷ [])) rest)
          ∙ ap (λ (x : List ℕ). x ++ rest) (sym (text-append (stage_lines s) (k.line ∷ [])))
          ∙ ap (λ (x : List Line). text_of x ++ rest) (sym g.lines));
    }

pub read_whole : (text site : List ℕ) (from : ℕ) (rest : List ℕ) (s : Stage) → Begins text site from rest → IsRead text site from s [] → s.pending ≡ None → IsExtractOf text site from s.entries
read_whole text site from rest s b r n = record {
  sequence = entries_of s.entries;
  numbered = r.stage.entries.numbered;
  form = of_form site from s.next s.entries b.name b.first r.stage.entries;
  text_is =
      r.text_is
      ∙ ap (λ (x : List ℕ). (header_body site from ++ 10 ∷ []) ++ x) (append-nil (text_of (stage_lines s)))
      ∙ ap (λ (o : Option (ℕ × Entry)). (header_body site from ++ 10 ∷ []) ++ text_of (all_lines s.entries ++ pending_lines o)) n
      ∙ ap (λ (x : List Line). (header_body site from ++ 10 ∷ []) ++ text_of x) (append-nil (all_lines s.entries))
      ∙ sym (whole_text from site s.entries s.next r.stage.entries);
}

-- an extract's text that begins so has the lines of the stage, and others

pub record Beyond (from : ℕ) (es : Sequence) (s : Stage) (x : List ℕ) : Type 0 where
  pub each : AllByRecursion IsEntry es
  pub room : from + length es ≤ NUMBERS_END
  pub more : List Line
  pub good : AllByRecursion IsLine more
  pub lines_are : all_lines (enumerate_from from es) ≡ stage_lines s ++ more
  pub rest_is : x ≡ text_of more

pub same_site : (site name : List ℕ) (from n : ℕ) → IsSiteName site → IsSiteName name → header_body site from ≡ header_body name n → site ≡ name
same_site site name from n p q e =
    let f : site ++ 92 ∷ decimal from ≡ name ++ 92 ∷ decimal n = append_cancel_left (codes "GTMRJEX01\\") (site ++ 92 ∷ decimal from) (name ++ 92 ∷ decimal n) e in
    (one_cut 92 site (decimal from) name (decimal n) (name_clean 92 site refl p) (name_clean 92 name refl q) f).0

pub same_from : (site name : List ℕ) (from n : ℕ) → IsSiteName site → IsSiteName name → from ≤ NUMBERS_END → n ≤ NUMBERS_END → header_body site from ≡ header_body name n → from ≡ n
same_from site name from n p q a b e =
    let f : site ++ 92 ∷ decimal from ≡ name ++ 92 ∷ decimal n = append_cancel_left (codes "GTMRJEX01\\") (site ++ 92 ∷ decimal from) (name ++ 92 ∷ decimal n) e in
    let g = one_cut 92 site (decimal from) name (decimal n) (name_clean 92 site refl p) (name_clean 92 name refl q) f in
    decimal_injective from n (omega (arith, a)) (omega (arith, b)) g.1

beyond : (site : List ℕ) (from : ℕ) (s : Stage) (x name : List ℕ) (n : ℕ) (es : Sequence) → IsSiteName site → from ≤ NUMBERS_END → IsStage from s → IsExtract name n es
    → extract_text name n es ≡ (header_body site from ++ 10 ∷ []) ++ (text_of (stage_lines s) ++ x) → Beyond from es s x
beyond site from s x name n es p r a v e =
    let small : n ≤ NUMBERS_END = omega (arith, v.last) in
    let h = one_line (header_body name n) (header_body site from) (text_of (all_lines (enumerate_from n es))) (text_of (stage_lines s) ++ x)
    (header_clean name n v.name small) (header_clean site from p r) (sym (extract_is name n es) ∙ e) in
    let same : n ≡ from = same_from name site n from v.name p small r h.0 in
    let room : from + length es ≤ NUMBERS_END = omega (arith, same, v.last) in
    let c = common (all_lines (enumerate_from from es)) (stage_lines s) x (lines_fit from es room v.each) (stage_fit from s a)
    (ap (λ (k : ℕ). text_of (all_lines (enumerate_from k es))) (sym same) ∙ h.1) in
    record { each = v.each; room = room; more = c.more; good = c.good; lines_are = c.lines_are; rest_is = c.rest_is }

-- what a stage refuses

no_line : (site : List ℕ) (from : ℕ) (s : Stage) (left name line rest more : List ℕ) (n : ℕ) (es : Sequence) → IsSiteName site → from ≤ NUMBERS_END → IsStage from s → Refuses s left → IsExtract name n es
    → Clean line → left ≡ line ++ 10 ∷ more → extract_text name n es ≡ (header_body site from ++ 10 ∷ []) ++ (text_of (stage_lines s) ++ ((line ++ 10 ∷ []) ++ rest)) → ⊥
no_line site from s left name line rest more n es p r a refuses v c is e =
    let b = beyond site from s ((line ++ 10 ∷ []) ++ rest) name n es p r a v e in
    let f = first b.more line rest b.good c b.rest_is in
    refused from s es f.line f.more a b.each b.room (b.lines_are ∙ ap (λ (x : List Line). stage_lines s ++ x) f.lines_are)
    (refuses f.line more f.good (is ∙ ap (λ (x : List ℕ). x ++ 10 ∷ more) (sym f.body_is)))

ends_somewhere : (site : List ℕ) (from : ℕ) (s : Stage) (left : List ℕ) (es : Sequence) (more : List Line) → IsStage from s → Refuses s left → (left ≡ [] → s.pending ≡ None → ⊥)
    → AllByRecursion IsEntry es → from + length es ≤ NUMBERS_END → AllByRecursion IsLine more → all_lines (enumerate_from from es) ≡ stage_lines s ++ more → left ≡ text_of more → ⊥
ends_somewhere site from s left es [] a refuses o i r g e is = unended from s es a i r (o is) (e ∙ append-nil (stage_lines s))
ends_somewhere site from s left es (l ∷ more) a refuses o i r g e is =
    refused from s es l more a i r e (refuses l (text_of more) g.0 (is ∙ append_assoc (line_body l) (10 ∷ []) (text_of more)))

pub bad_here : (text site : List ℕ) (from : ℕ) (rest : List ℕ) (s : Stage) (left : List ℕ) → Begins text site from rest → IsRead text site from s left → Refuses s left → (left ≡ [] → s.pending ≡ None → ⊥)
    → IsBadLine text (length text - length left)
bad_here text site from rest s left b r refuses o =
    let before : List ℕ = (header_body site from ++ 10 ∷ []) ++ text_of (stage_lines s) in
    let whole : text ≡ before ++ left = r.text_is ∙ sym (append_assoc (header_body site from ++ 10 ∷ []) (text_of (stage_lines s)) left) in
    record {
      lines = header_body site from ∷ map line_body (stage_lines s);
      rest = left;
      text_is = whole;
      place = omega (arith, ap length whole, length-append before left);
      front = front_at site from s.next s.entries s.pending b.name b.first r.stage.entries r.stage.pending;
      outside = λ line more c is f.
          no_line site from s left f.site line f.rest more f.from f.entries b.name b.last r.stage refuses f.form c is
          (f.begins ∙ append_assoc before (line ++ 10 ∷ []) f.rest ∙ append_assoc (header_body site from ++ 10 ∷ []) (text_of (stage_lines s)) ((line ++ 10 ∷ []) ++ f.rest));
      unfinished = λ name n es v e.
          (let y = beyond site from s left name n es b.name b.last r.stage v (sym e ∙ r.text_is) in
          ends_somewhere site from s left es y.more r.stage refuses o y.each y.room y.good y.lines_are y.rest_is);
    }

-- a text without a header

pub no_header : (text : List ℕ) → ((site : List ℕ) (from : ℕ) (more : List ℕ) → IsSiteName site → 1 ≤ from → from ≤ NUMBERS_END → text ≡ header_body site from ++ 10 ∷ more → ⊥) → IsBadLine text 0
no_header text none = record {
  lines = [];
  rest = text;
  text_is = refl;
  place = refl;
  front = record { site = 65 ∷ []; from = 1; entries = []; rest = extract_text (65 ∷ []) 1 []; form = record { name = (refl, refl, omega arith); first = omega arith; last = omega arith; each = tt }; begins = refl };
  outside = λ line more c is f.
      (let small : f.from ≤ NUMBERS_END = omega (arith, f.form.last) in
      let h = one_line (header_body f.site f.from) line (text_of (all_lines (enumerate_from f.from f.entries))) f.rest (header_clean f.site f.from f.form.name small) c
      (sym (extract_is f.site f.from f.entries) ∙ f.begins) in
      none f.site f.from more f.form.name f.form.first small (is ∙ ap (λ (x : List ℕ). x ++ 10 ∷ more) (sym h.0)));
  unfinished = λ site from es v e.
      none site from (text_of (all_lines (enumerate_from from es))) v.name v.first (omega (arith, v.last))
      (e ∙ extract_is site from es ∙ append_assoc (header_body site from) (10 ∷ []) (text_of (all_lines (enumerate_from from es))));
}

-- what is left of a text

pub no_line_in : (line more : List ℕ) → [] ≡ line ++ 10 ∷ more → ⊥
no_line_in [] more e = cc
no_line_in (b ∷ line) more e = cc

pub not_empty : (left : List ℕ) (b : Bool) → b ≡ (length left == 0) → b ≡ false → left ≡ [] → ⊥
not_empty [] b e f g = let t : true ≡ false = sym e ∙ f in cc
not_empty (x ∷ left) b e f g = cc

pub is_empty : (left : List ℕ) (b : Bool) → b ≡ (length left == 0) → b ≡ true → left ≡ []
is_empty [] b e f = refl
is_empty (x ∷ left) b e f = absurd (omega (arith, eqb-true (length (x ∷ left)) 0 (sym e ∙ f)))

pub not_open : (o : Option (ℕ × Entry)) (p : ℕ × Entry) → o ≡ Some p → o ≡ None → ⊥
not_open o p e f = let t : Some p ≡ None = sym e ∙ f in cc
