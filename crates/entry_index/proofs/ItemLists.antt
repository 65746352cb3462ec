-- Items, one and many, that are passed over but for their positions.
use Rattle.std.proofs.Common.{◌≡◌, ℕ, suc, ◌+◌, ◌<◌, ◌≤◌, ◌^◌, ◌==◌, ◌&&◌, Bool, true, false, List, [], ◌∷◌, ◌++◌, length, arith, Some, None, refl, ap, sym, ◌∙◌, subst, length-append}
use Rattle.std.proofs.lemmas.Bool.Decides.{nat_tests}
use Rattle.journal_defs.specs.Journal.{Item}
use Rattle.jnl_record.proofs.ItemLists.{some_item as item_read, GoesOn, goes_first, goes_on, goes_out, goes_done}
use Rattle.entry_index.specs.Fields.{Reads, Sees, Skips, byte, half, update, item, items}
use Rattle.entry_index.specs.RecordSigns.{is_row, span_of}
use Rattle.entry_index.specs.declared.sign.Span.{Span}

-- an item whose update is passed over
pub some_item : (low count : ℕ) (small : count < 2 ^ 16) (bytes r : List ℕ) (four : Reads byte bytes (Some (4, r))) (n : ℕ) (s : List ℕ) (half_read : Reads half r (Some (n, s))) (t : List ℕ) → low ≤ n → n < count → Skips update s (Some t)
    → Sees (item low count) (λ i. i.position) bytes (Some (n, t))
some_item low count small bytes r four n s half_read t from below skips = (record { position = n; update = skips.0 }, refl, item_read low count small bytes r four n s half_read skips.0 t from below skips.1)

-- So many items were passed over, whose positions lie so.
pub record Passed (n count : ℕ) (bytes : List ℕ) (i low : ℕ) (span : Span) (rest : List ℕ) : Type 0 where
  pub made : List Item
  pub many : length made ≡ i
  pub lie : span ≡ span_of made
  pub so_far : GoesOn n count bytes i low made rest

pub passed_first : (n count : ℕ) (bytes : List ℕ) → Passed n count bytes 0 0 (record { first = 0; many = 0; in_a_row = true }) bytes
passed_first n count bytes = record { made = []; many = refl; lie = refl; so_far = goes_first n count bytes }

module _ (n count : ℕ) (bytes : List ℕ) (i low : ℕ) (span : Span) (rest : List ℕ) (p : Passed n count bytes i low span rest) where
  pub passed_more : (position : ℕ) (r : List ℕ) (longer : Span) → Sees (item low count) (λ i. i.position) rest (Some (position, r))
      → ((list : List Item) (x : Item) → x.position ≡ position → span ≡ span_of list → longer ≡ span_of (list ++ x ∷ [])) → Passed n count bytes (i + 1) (position + 1) longer r
  passed_more position r longer sees gives = record {
    made = p.made ++ sees.0 ∷ [];
    many = omega (arith, length-append p.made (sees.0 ∷ []), p.many);
    lie = gives p.made sees.0 sees.1 p.lie;
    so_far = subst (λ (k : ℕ). GoesOn n count bytes (i + 1) (k + 1) (p.made ++ sees.0 ∷ []) r) sees.1 (goes_on n count bytes i low p.made rest p.so_far sees.0 r sees.2);
  }

  pub passed_out : i < n → Sees (item low count) (λ i. i.position) rest None → Sees (items 0 n count) span_of bytes None
  passed_out inside none = goes_out n count bytes i low p.made rest p.so_far inside none

  pub passed_all : i ≡ n → Sees (items 0 n count) span_of bytes (Some (span, rest))
  passed_all all = (p.made, sym p.lie, goes_done n count bytes i low p.made rest p.so_far all)

  pub many_passed : span.many ≡ i
  many_passed = ap (λ (s : Span). s.many) p.lie ∙ p.many

-- how positions lie with one more behind them
abbrev span : ℕ → ℕ → Bool → Span
span first many row = record { first = first; many = many; in_a_row = row }

spans_same : (f g m n : ℕ) (b d : Bool) → f ≡ g → m ≡ n → b ≡ d → span f m b ≡ span g n d
spans_same f g m n b d first many row i = span (first i) (many i) (row i)

row_more : (p : ℕ) (list : List Item) (x : Item) → is_row p (list ++ x ∷ []) ≡ (is_row p list && (x.position == p + length list))
row_more p [] x = grind (arith, nat_tests)
row_more p (i ∷ list) x = row_ends (i.position == p) (is_row (p + 1) list) (x.position == p + 1 + length list) (x.position == p + suc (length list)) (is_row (p + 1) (list ++ x ∷ [])) (row_more (p + 1) list x) (same_place p (length list) x.position)
  where
    same_place : (p n q : ℕ) → (q == p + 1 + n) ≡ (q == p + suc n)
    same_place p n q = let same : p + 1 + n ≡ p + suc n = omega arith in ap (λ (k : ℕ). q == k) same

    row_ends : (a b c d e : Bool) → e ≡ (b && c) → c ≡ d → (a && e) ≡ ((a && b) && d)
    row_ends true b c d e is same = is ∙ ap (λ (x : Bool). b && x) same
    row_ends false b c d e is same = refl

pub span_longer : (list : List Item) (x : Item) (position first many : ℕ) (row last : Bool) → x.position ≡ position → span first many row ≡ span_of list → 0 < many → last ≡ (row && (position == first + many))
    → span first (many + 1) last ≡ span_of (list ++ x ∷ [])
span_longer [] x position first many row last is lie some last_is = absurd (omega (arith, some, ap (λ (s : Span). s.many) lie))
span_longer (i ∷ list) x position first many row last is lie some last_is =
    let first_is : first ≡ i.position = ap (λ (s : Span). s.first) lie in
    let many_is : many ≡ length (i ∷ list) = ap (λ (s : Span). s.many) lie in
    let row_is : row ≡ is_row i.position (i ∷ list) = ap (λ (s : Span). s.in_a_row) lie in
    let place : first + many ≡ i.position + length (i ∷ list) = omega (arith, first_is, many_is) in
    spans_same first i.position (many + 1) (length ((i ∷ list) ++ x ∷ [])) last (is_row i.position ((i ∷ list) ++ x ∷ [])) first_is
    (omega (arith, many_is, length-append (i ∷ list) (x ∷ [])))
    (last_is ∙ ap (λ (b : Bool). b && (position == first + many)) row_is ∙ ap (λ (k : ℕ). is_row i.position (i ∷ list) && (k == first + many)) (sym is)
    ∙ ap (λ (k : ℕ). is_row i.position (i ∷ list) && (x.position == k)) place ∙ sym (row_more i.position (i ∷ list) x))
