-- A line is read in one way.
use Rattle.std.proofs.Common.{◌≡◌, ℕ, ◌==◌, true, false, List, ◌∷◌, ◌++◌, Option, Some, None, IfOk, IfSome, MatchOption, codes, refl, ap, sym, subst, ◌∙◌, arith, get_or}
use Rattle.std.specs.Prelude.{decimal, Result, Ok, Err}
use Rattle.std.specs.List.{list_any}
use Rattle.global_defs.specs.Entry.{Update, Set, Kill, ZKill, Stamp, Origin}
use Rattle.script_defs.specs.Statements.{statement_text, statement_reading}
use Rattle.script_defs.proofs.StatementsRead.{statement_read}
use Rattle.jnl_extract.specs.Updates.{statement_of}
use Rattle.jnl_extract.specs.Extracts.{IsSpelled}
use Rattle.jnl_extract.specs.Lines.{Head, Line, Opens, Holds, Closes, line_body, line_word, line_head, line_rest, update_word, update_tail, stamp_text, origin_text, IsHead, IsLine, IsHeld, FieldsAre, PartsAre}
use Rattle.jnl_extract.proofs.Cuts.{one_cut}
use Rattle.jnl_extract.proofs.FieldLaws.{halves, whole, number_clean, stamp_clean, origin_clean, same_stamp, same_origin, same_number}

pub at_none : {A : Type 0} (o : Option A) (P : Type 0) (Q : A → Type 0) → o ≡ None → MatchOption o P Q → P
at_none None P Q e h = h
at_none (Some x) P Q e h = cc

pub at_some : {A : Type 0} (o : Option A) (x : A) (P : Type 0) (Q : A → Type 0) → o ≡ Some x → MatchOption o P Q → Q x
at_some {A} o x P Q e h = subst (λ (y : Option A). MatchOption y P Q) e h

pub of_some : {A : Type 0} (o : Option A) (x : A) (Q : A → Type 0) → o ≡ Some x → IfSome o Q → Q x
of_some {A} o x Q e h = subst (λ (y : Option A). IfSome y Q) e h

pub update_words : (u : Update) → statement_text (statement_of u) ≡ update_word u ++ 32 ∷ update_tail u
update_words (Set key value) = refl
update_words (Kill key) = refl
update_words (ZKill key) = refl

pub no_space : (u : Update) → list_any (λ b. b == 32) (update_word u) ≡ false
no_space (Set key value) = refl
no_space (Kill key) = refl
no_space (ZKill key) = refl

pub spaced : (word : List ℕ) (u : Update) → list_any (λ b. b == 32) word ≡ true → word ≡ update_word u → ⊥
spaced word u h e = let f : true ≡ false = sym h ∙ ap (list_any (λ b. b == 32)) e ∙ no_space u in cc

pub word_clean : (l : Line) → list_any (λ b. b == 92) (line_word l) ≡ false
word_clean (Opens h) = refl
word_clean (Holds h (Set key value)) = refl
word_clean (Holds h (Kill key)) = refl
word_clean (Holds h (ZKill key)) = refl
word_clean (Closes h) = refl

pub is_head : (l : Line) → IsLine l → IsHead (line_head l)
is_head (Opens h) i = i
is_head (Holds h u) i = i.0
is_head (Closes h) i = i

-- a text cut three times
pub record Cuts (text word number stamp rest : List ℕ) : Type 0 where
  pub middle : List ℕ
  pub end : List ℕ
  pub text_is : text ≡ word ++ 92 ∷ middle
  pub middle_is : middle ≡ number ++ 92 ∷ end
  pub end_is : end ≡ stamp ++ 92 ∷ rest
  pub word_first : list_any (λ b. b == 92) word ≡ false
  pub number_first : list_any (λ b. b == 92) number ≡ false
  pub stamp_first : list_any (λ b. b == 92) stamp ≡ false

pub behind_word : (l : Line) (text word middle : List ℕ) → text ≡ word ++ 92 ∷ middle → list_any (λ b. b == 92) word ≡ false → text ≡ line_body l
    → (word ≡ line_word l) × (middle ≡ decimal (line_head l).number ++ 92 ∷ (stamp_text (line_head l).stamp ++ 92 ∷ line_rest l))
behind_word l text word middle e p b =
    halves 92 text word middle (line_word l) (decimal (line_head l).number ++ 92 ∷ (stamp_text (line_head l).stamp ++ 92 ∷ line_rest l)) e b p (word_clean l)

pub behind_number : (l : Line) (middle number end : List ℕ) → IsLine l → middle ≡ number ++ 92 ∷ end → list_any (λ b. b == 92) number ≡ false
    → middle ≡ decimal (line_head l).number ++ 92 ∷ (stamp_text (line_head l).stamp ++ 92 ∷ line_rest l)
    → (number ≡ decimal (line_head l).number) × (end ≡ stamp_text (line_head l).stamp ++ 92 ∷ line_rest l)
behind_number l middle number end i e p b =
    halves 92 middle number end (decimal (line_head l).number) (stamp_text (line_head l).stamp ++ 92 ∷ line_rest l) e b p (number_clean 92 (line_head l).number refl (is_head l i).number)

pub parts_of : (l : Line) (text word number stamp rest : List ℕ) → Cuts text word number stamp rest → IsLine l → text ≡ line_body l → PartsAre l word number stamp rest
parts_of l text word number stamp rest c i b =
    let w = behind_word l text word c.middle c.text_is c.word_first b in
    let n = behind_number l c.middle number c.end i c.middle_is c.number_first w.1 in
    let s = halves 92 c.end stamp rest (stamp_text (line_head l).stamp) (line_rest l) c.end_is n.1 c.stamp_first (stamp_clean (line_head l).stamp (is_head l i).stamp) in
    record { word_is = w.0; number_is = n.0; stamp_is = s.0; rest_is = s.1 }

pub body_of : (l : Line) (text word number stamp rest : List ℕ) → Cuts text word number stamp rest → PartsAre l word number stamp rest → text ≡ line_body l
body_of l text word number stamp rest c p =
    c.text_is ∙ ap (λ (x : List ℕ). word ++ 92 ∷ x) (c.middle_is ∙ ap (λ (x : List ℕ). number ++ 92 ∷ x) c.end_is)
    ∙ ap (λ (x : List ℕ). x ++ 92 ∷ (number ++ 92 ∷ (stamp ++ 92 ∷ rest))) p.word_is
    ∙ ap (λ (x : List ℕ). line_word l ++ 92 ∷ (x ++ 92 ∷ (stamp ++ 92 ∷ rest))) p.number_is
    ∙ ap (λ (x : List ℕ). line_word l ++ 92 ∷ (decimal (line_head l).number ++ 92 ∷ (x ++ 92 ∷ rest))) p.stamp_is
    ∙ ap (λ (x : List ℕ). line_word l ++ 92 ∷ (decimal (line_head l).number ++ 92 ∷ (stamp_text (line_head l).stamp ++ 92 ∷ x))) p.rest_is

-- what is found of the parts is found of the whole
pub line_from : {L E : Type 0} (view : L → Line) (r : Result (Option L) E) (text word number stamp rest : List ℕ) → Cuts text word number stamp rest
    → IfOk r (λ found. MatchOption found ((l : Line) → IsLine l → PartsAre l word number stamp rest → ⊥) (λ l. IsLine (view l) × PartsAre (view l) word number stamp rest))
    → IfOk r (λ found. MatchOption found ((l : Line) → IsLine l → text ≡ line_body l → ⊥) (λ l. IsLine (view l) × (text ≡ line_body (view l))))
line_from view (Ok None) text word number stamp rest c h = λ l i b. h l i (parts_of l text word number stamp rest c i b)
line_from view (Ok (Some l)) text word number stamp rest c h = (h.0, body_of (view l) text word number stamp rest c h.1)
line_from view (Err e) text word number stamp rest c h = tt

-- without a further backslash no update stands there
pub none_held : (word number stamp rest : List ℕ) → ((a b : List ℕ) → rest ≡ a ++ 92 ∷ b → ⊥) → ((h : Head) → IsHead h → FieldsAre h number stamp rest → ⊥)
    → (l : Line) → IsLine l → PartsAre l word number stamp rest → ⊥
none_held word number stamp rest cut none (Opens h) i p = none h i (record { number_is = p.number_is; stamp_is = p.stamp_is; origin_is = p.rest_is })
none_held word number stamp rest cut none (Holds h u) i p = cut (origin_text h.origin) (update_tail u) p.rest_is
none_held word number stamp rest cut none (Closes h) i p = none h i (record { number_is = p.number_is; stamp_is = p.stamp_is; origin_is = p.rest_is })

-- the parts of an update's line
pub record HeldParts (l : Line) (word number stamp origin tail : List ℕ) : Type 0 where
  pub head : Head
  pub update : Update
  pub line_is : l ≡ Holds head update
  pub good : IsHead head
  pub spelled : IsSpelled update
  pub fields : FieldsAre head number stamp origin
  pub word_is : word ≡ update_word update
  pub tail_is : tail ≡ update_tail update

no_backslash : (h : Head) (rest origin tail : List ℕ) → IsHead h → rest ≡ origin ++ 92 ∷ tail → rest ≡ origin_text h.origin → ⊥
no_backslash h rest origin tail i e f =
    whole 92 origin tail (ap (list_any (λ b. b == 92)) (sym e ∙ f) ∙ origin_clean h.origin i.origin)

pub held_parts : (word number stamp rest origin tail : List ℕ) → rest ≡ origin ++ 92 ∷ tail → list_any (λ b. b == 92) origin ≡ false
    → (l : Line) → IsLine l → PartsAre l word number stamp rest → HeldParts l word number stamp origin tail
held_parts word number stamp rest origin tail e q (Opens h) i p = absurd (no_backslash h rest origin tail i e p.rest_is)
held_parts word number stamp rest origin tail e q (Closes h) i p = absurd (no_backslash h rest origin tail i e p.rest_is)
held_parts word number stamp rest origin tail e q (Holds h u) i p =
    let s = halves 92 rest origin tail (origin_text h.origin) (update_tail u) e p.rest_is q (origin_clean h.origin i.0.origin) in
    record { head = h; update = u; line_is = refl; good = i.0; spelled = i.1; fields = record { number_is = p.number_is; stamp_is = p.stamp_is; origin_is = s.0 }; word_is = p.word_is; tail_is = s.1 }

heads : (m n : ℕ) (r t : Stamp) (o q : Origin) → m ≡ n → r ≡ t → o ≡ q → (let x : Head = record { number = m; stamp = r; origin = o } in x) ≡ record { number = n; stamp = t; origin = q }
heads m n r t o q e f g = cc

-- fields are told by their texts
pub same_fields : (h g : Head) (number stamp origin : List ℕ) → IsHead h → IsHead g → FieldsAre h number stamp origin → FieldsAre g number stamp origin → h ≡ g
same_fields h g number stamp origin p q a b =
    heads h.number g.number h.stamp g.stamp h.origin g.origin
    (same_number number h.number g.number a.number_is b.number_is p.number q.number)
    (same_stamp h.stamp g.stamp p.stamp q.stamp (sym a.stamp_is ∙ b.stamp_is))
    (same_origin h.origin g.origin p.origin q.origin (sym a.origin_is ∙ b.origin_is))

held_line : (l : Line) (g : Head) (word number stamp rest origin tail : List ℕ) → rest ≡ origin ++ 92 ∷ tail → IsHead g → FieldsAre g number stamp origin
    → IsHeld l g word tail → IsLine l × PartsAre l word number stamp rest
held_line l g word number stamp rest origin tail e i f h =
    let P : Line → Type 0 = λ x. IsLine x × PartsAre x word number stamp rest in
    subst P (sym h.line_is) (
      (i, h.spelled),
      record {
        word_is = h.word_is;
        number_is = f.number_is;
        stamp_is = f.stamp_is;
        rest_is = e ∙ ap (λ (x : List ℕ). x ++ 92 ∷ tail) f.origin_is ∙ ap (λ (x : List ℕ). origin_text g.origin ++ 92 ∷ x) h.tail_is;
      },
    )

-- what the update's part found is found of the line
pub held_from : {L E : Type 0} (view : L → Line) (r : Result (Option L) E) (g : Head) (word number stamp rest origin tail : List ℕ)
    → rest ≡ origin ++ 92 ∷ tail → list_any (λ b. b == 92) origin ≡ false → IsHead g → FieldsAre g number stamp origin
    → IfOk r (λ found. MatchOption found ((u : Update) → IsSpelled u → word ≡ update_word u → tail ≡ update_tail u → ⊥) (λ l. IsHeld (view l) g word tail))
    → IfOk r (λ found. MatchOption found ((l : Line) → IsLine l → PartsAre l word number stamp rest → ⊥) (λ l. IsLine (view l) × PartsAre (view l) word number stamp rest))
held_from view (Ok None) g word number stamp rest origin tail e q i f h = λ l il p.
    let s = held_parts word number stamp rest origin tail e q l il p in h s.update s.spelled s.word_is s.tail_is
held_from view (Ok (Some l)) g word number stamp rest origin tail e q i f h =
    held_line (view l) g word number stamp rest origin tail e i f h
held_from view (Err x) g word number stamp rest origin tail e q i f h = tt

pub no_update : (found : Option Update) (u : Update) → found ≡ None → found ≡ Some u → ⊥
no_update found u e f = let s : None ≡ Some u = sym e ∙ f in cc

statements_apart : (u v : Update) → statement_of u ≡ statement_of v → u ≡ v
statements_apart (Set k x) (Set m y) e = cc
statements_apart (Set k x) (Kill m) e = cc
statements_apart (Set k x) (ZKill m) e = cc
statements_apart (Kill k) (Set m y) e = cc
statements_apart (Kill k) (Kill m) e = cc
statements_apart (Kill k) (ZKill m) e = cc
statements_apart (ZKill k) (Set m y) e = cc
statements_apart (ZKill k) (Kill m) e = cc
statements_apart (ZKill k) (ZKill m) e = cc

oks : {A E : Type 0} (a b : A) → (let x : Result A E = Ok a in x) ≡ Ok b → a ≡ b
oks a b e = cc

pub same_update : (u v : Update) → IsSpelled u → IsSpelled v → update_word u ≡ update_word v → update_tail u ≡ update_tail v → u ≡ v
same_update u v p q e f =
    let t : statement_text (statement_of u) ≡ statement_text (statement_of v) =
    update_words u ∙ ap (λ (x : List ℕ). x ++ 32 ∷ update_tail u) e ∙ ap (λ (x : List ℕ). update_word v ++ 32 ∷ x) f ∙ sym (update_words v) in
    let r = sym (statement_read (statement_text (statement_of u)) (statement_of u) p) ∙ ap statement_reading t ∙ statement_read (statement_text (statement_of v)) (statement_of v) q in
    statements_apart u v (oks (statement_of u) (statement_of v) r)

starts_apart : codes "TSTART" ≡ codes "TCOM" → ⊥
starts_apart e = let n : 83 ≡ 67 = ap (λ (x : List ℕ). get_or x 1 0) e in omega (arith, n)

fields_of : (h : Head) → FieldsAre h (decimal h.number) (stamp_text h.stamp) (origin_text h.origin)
fields_of h = record { number_is = refl; stamp_is = refl; origin_is = refl }

own_parts : (l : Line) → IsLine l → Cuts (line_body l) (line_word l) (decimal (line_head l).number) (stamp_text (line_head l).stamp) (line_rest l)
own_parts l i = record {
  middle = decimal (line_head l).number ++ 92 ∷ (stamp_text (line_head l).stamp ++ 92 ∷ line_rest l);
  end = stamp_text (line_head l).stamp ++ 92 ∷ line_rest l;
  text_is = refl;
  middle_is = refl;
  end_is = refl;
  word_first = word_clean l;
  number_first = number_clean 92 (line_head l).number refl (is_head l i).number;
  stamp_first = stamp_clean (line_head l).stamp (is_head l i).stamp;
}

bracket_fields : (h g : Head) → IsHead h → IsHead g → decimal h.number ≡ decimal g.number → stamp_text h.stamp ≡ stamp_text g.stamp → origin_text h.origin ≡ origin_text g.origin → h ≡ g
bracket_fields h g p q a b c = same_fields h g (decimal h.number) (stamp_text h.stamp) (origin_text h.origin) p q (fields_of h) (record { number_is = a; stamp_is = b; origin_is = c })

with_parts : (l m : Line) → IsLine l → IsLine m → PartsAre m (line_word l) (decimal (line_head l).number) (stamp_text (line_head l).stamp) (line_rest l) → l ≡ m
with_parts (Opens h) (Opens g) i j p = ap Opens (bracket_fields h g i j p.number_is p.stamp_is p.rest_is)
with_parts (Opens h) (Closes g) i j p = absurd (starts_apart p.word_is)
with_parts (Opens h) (Holds g u) i j p = absurd (no_backslash h (origin_text h.origin) (origin_text g.origin) (update_tail u) i p.rest_is refl)
with_parts (Closes h) (Opens g) i j p = absurd (starts_apart (sym p.word_is))
with_parts (Closes h) (Closes g) i j p = ap Closes (bracket_fields h g i j p.number_is p.stamp_is p.rest_is)
with_parts (Closes h) (Holds g u) i j p = absurd (no_backslash h (origin_text h.origin) (origin_text g.origin) (update_tail u) i p.rest_is refl)
with_parts (Holds h u) (Opens g) i j p = absurd (no_backslash g (origin_text g.origin) (origin_text h.origin) (update_tail u) j (sym p.rest_is) refl)
with_parts (Holds h u) (Closes g) i j p = absurd (no_backslash g (origin_text g.origin) (origin_text h.origin) (update_tail u) j (sym p.rest_is) refl)
with_parts (Holds h u) (Holds g v) i j p =
    let s = one_cut 92 (origin_text h.origin) (update_tail u) (origin_text g.origin) (update_tail v) (origin_clean h.origin i.0.origin) (origin_clean g.origin j.0.origin) p.rest_is in
    let f : h ≡ g = bracket_fields h g i.0 j.0 p.number_is p.stamp_is s.0 in
    let w : u ≡ v = same_update u v i.1 j.1 p.word_is s.1 in
    ap (λ (x : Head). Holds x u) f ∙ ap (λ (x : Update). Holds g x) w

-- lines are told by their texts
pub same_line : (l m : Line) → IsLine l → IsLine m → line_body l ≡ line_body m → l ≡ m
same_line l m i j e = with_parts l m i j (parts_of m (line_body l) (line_word l) (decimal (line_head l).number) (stamp_text (line_head l).stamp) (line_rest l) (own_parts l i) j e)
