-- An update's text has no line feed.
use Rattle.std.proofs.Common.{◌≡◌, ℕ, zero, suc, Bool, true, false, ◌||◌, ◌==◌, nat_lt, List, [], ◌∷◌, ◌++◌, map, replicate, None, refl, ap, sym, ◌∙◌, arith, inl, inr}
use Rattle.std.specs.List.{list_all, list_any, flat_map, join_with_byte}
use Rattle.std.specs.Char.{is_ascii_digit, is_ascii_alphabetic, is_ascii_alphanumeric}
use Rattle.std.specs.Str.Parse.{AllDigits}
use Rattle.std.specs.Fmt.{decimal}
use Rattle.std.proofs.lemmas.List.Folds.{list_any-append}
use Rattle.std.proofs.lemmas.Bool.{and_parts, or_from, cases_Bool, ne_eqb, true≢false, ltb-true}
use Rattle.global_defs.specs.Zwr.{is_plain, quoted_byte}
use Rattle.global_defs.specs.NodeText.{pointed}
use Rattle.global_defs.specs.Valid.{is_name}
use Rattle.global_defs.specs.Entry.{Update, Set, Kill, ZKill}
use Rattle.global_defs.specs.Key.{Key}
use Rattle.global_defs.specs.Jobs.{Statement}
use Rattle.global_defs.specs.Jobs as jobs
use Rattle.global_defs.proofs.Numerals.{IsSigned, nought, minus, plus, numeral_signed, positive_parts, IsParts}
use Rattle.gvn_key.specs.ZwrText.{IsPiece, quoted, coded, IsZwr, one, more}
use Rattle.gvn_key.specs.KeyText.{IsSubText, number, string, IsSubsText, last, another, IsKeyText, bare, branched}
use Rattle.gvn_key.specs.Faults.{key_fault}
use Rattle.script_defs.specs.Parts.{IsNode}
use Rattle.script_defs.specs.Statements.{IsOperand, set, kill, zkill, incr, get, defined, order, check_is, check_at_least, SpellsStatement, statement_text}
use Rattle.jnl_extract.specs.Extracts.{IsSpelled}
use Rattle.jnl_extract.specs.Lines.{update_tail}
use Rattle.jnl_extract.proofs.Cuts.{none_of}
use Rattle.jnl_extract.proofs.FieldLaws.{number_clean}
use Rattle.gvn_key.proofs.Decoded.{ascii_digits}

-- no line feed
abbrev pub Clean : List ℕ → Type 0
Clean xs = list_any (λ b. b == 10) xs ≡ false

pub clean_both : (xs ys : List ℕ) → Clean xs → Clean ys → Clean (xs ++ ys)
clean_both xs ys p q = list_any-append (λ b. b == 10) xs ys ∙ or_from (list_any (λ b. b == 10) xs) (list_any (λ b. b == 10) ys) p q

clean_digits : (ds : List ℕ) → AllDigits 10 ds → Clean ds
clean_digits ds h = none_of is_ascii_digit 10 ds refl (ascii_digits ds h)

plain_byte : (b : ℕ) → is_plain b ≡ true → (b == 10) ≡ false
plain_byte b h = ne_eqb b 10 (λ e. true≢false (sym h ∙ ap is_plain e))

clean_byte : (b : ℕ) → is_plain b ≡ true → Clean (quoted_byte b)
clean_byte b h = elim (cases_Bool (b == 34)) [ inl e ↦ rw e refl | inr e ↦ rw e (rw (plain_byte b h) refl) ]

clean_quoted : (bs : List ℕ) → list_all is_plain bs ≡ true → Clean (flat_map quoted_byte bs)
clean_quoted [] h = refl
clean_quoted (b ∷ bs) h =
    let a = and_parts (is_plain b) (list_all is_plain bs) h in
    clean_both (quoted_byte b) (flat_map quoted_byte bs) (clean_byte b a.0) (clean_quoted bs a.1)

clean_codes : (bs : List ℕ) → list_all (λ c. nat_lt c 256) bs ≡ true → Clean (join_with_byte 44 (map decimal bs))
clean_codes [] h = refl
clean_codes (b ∷ []) h =
    let small = ltb-true b 256 (and_parts (nat_lt b 256) true h).0 in
    number_clean 10 b refl (omega (arith, small))
clean_codes (b ∷ c ∷ cs) h =
    let a = and_parts (nat_lt b 256) (list_all (λ c. nat_lt c 256) (c ∷ cs)) h in
    let small = ltb-true b 256 a.0 in
    clean_both (decimal b) (44 ∷ join_with_byte 44 (map decimal (c ∷ cs))) (number_clean 10 b refl (omega (arith, small))) (clean_codes (c ∷ cs) a.1)

clean_piece : {t v : List ℕ} → IsPiece t v → Clean t
clean_piece (quoted bs p) = clean_both (flat_map quoted_byte bs) (34 ∷ []) (clean_quoted bs p) refl
clean_piece (coded b bs p) = clean_both (join_with_byte 44 (map decimal (b ∷ bs))) (41 ∷ []) (clean_codes (b ∷ bs) p) refl

clean_zwr : {t v : List ℕ} → IsZwr t v → Clean t
clean_zwr (one p) = clean_piece p
clean_zwr (more {t} {v} {u} {w} p z) = clean_both t (95 ∷ u) (clean_piece p) (clean_zwr z)

clean_point : (f : List ℕ) → AllDigits 10 f → Clean (pointed f)
clean_point [] h = refl
clean_point (d ∷ ds) h = clean_digits (d ∷ ds) h

clean_parts : (bs w f : List ℕ) → IsParts bs w f → Clean bs
clean_parts bs w f p = ap (list_any (λ b. b == 10)) p.text ∙ clean_both w (pointed f) (clean_digits w p.whole) (clean_point f p.fraction)

clean_signed : {s : List ℕ} → IsSigned s → Clean s
clean_signed nought = refl
clean_signed (minus bs h few) = let p = positive_parts bs h few in clean_parts bs p.0 p.1 p.2
clean_signed (plus b bs ne h few) = let p = positive_parts (b ∷ bs) h few in clean_parts (b ∷ bs) p.0 p.1 p.2

clean_value : {t v : List ℕ} → IsSubText t v → Clean t
clean_value (number s h) = clean_signed (numeral_signed s h)
clean_value (string z) = clean_zwr z

clean_subs : {t : List ℕ} {subs : List (List ℕ)} → IsSubsText t subs → Clean t
clean_subs (last {t} {v} p) = clean_both t (41 ∷ []) (clean_value p) refl
clean_subs (another {t} {v} {u} {subs} p z) = clean_both t (44 ∷ u) (clean_value p) (clean_subs z)

clean_name : (name : List ℕ) → is_name name ≡ true → Clean name
clean_name [] h = refl
clean_name (b ∷ bs) h =
    let a = and_parts (b == 37 || is_ascii_alphabetic b) (list_all is_ascii_alphanumeric bs) h in
    let first : (b == 10) ≡ false = ne_eqb b 10 (λ e. true≢false (sym a.0 ∙ ap (λ c. c == 37 || is_ascii_alphabetic c) e)) in
    rw first (none_of is_ascii_alphanumeric 10 bs refl a.1)

clean_key : {t name : List ℕ} {subs : List (List ℕ)} → is_name name ≡ true → IsKeyText t name subs → Clean t
clean_key good (bare name) = clean_name name good
clean_key good (branched name {t} {subs} z) = clean_both name (40 ∷ t) (clean_name name good) (clean_subs z)

fault_first : (b : Bool) (name : List ℕ) (subs : List (List ℕ)) → is_name name ≡ b → key_fault name subs ≡ None → b ≡ true
fault_first true name subs e f = refl
fault_first false name subs e f = let g = rw e at f in cc

clean_node : {t : List ℕ} {key : Key} → IsNode t key → Clean t
clean_node p = clean_key (fault_first _ p.name p.subs refl p.no_fault) p.text_is

clean_spaces : (n : ℕ) (rest : List ℕ) → Clean rest → Clean (replicate n 32 ++ rest)
clean_spaces zero rest h = h
clean_spaces (suc n) rest h = clean_spaces n rest h

abbrev is_change : Statement → Bool
is_change (jobs.Set key value) = true
is_change (jobs.Kill key) = true
is_change (jobs.ZKill key) = true
is_change _ = false

clean_operand : {word t : List ℕ} {s : Statement} → IsOperand word t s → is_change s ≡ true → Clean t
clean_operand (set {k} {v} {value} {key} p q few) h = clean_both k (61 ∷ v) (clean_node p) (clean_value q)
clean_operand (kill p) h = clean_node p
clean_operand (zkill p) h = clean_node p
clean_operand (incr d n p e) h = cc
clean_operand (get p) h = cc
clean_operand (defined p) h = cc
clean_operand (order p) h = cc
clean_operand (check_is p q few) h = cc
clean_operand (check_at_least d p e) h = cc

clean_word : {word t : List ℕ} {s : Statement} → IsOperand word t s → Clean word
clean_word (set p q few) = refl
clean_word (kill p) = refl
clean_word (zkill p) = refl
clean_word (incr d n p e) = refl
clean_word (get p) = refl
clean_word (defined p) = refl
clean_word (order p) = refl
clean_word (check_is p q few) = refl
clean_word (check_at_least d p e) = refl

clean_text : (text : List ℕ) (s : Statement) → SpellsStatement text s → is_change s ≡ true → Clean text
clean_text text s p h =
    ap (list_any (λ b. b == 10)) p.text_is
    ∙ clean_both p.word (32 ∷ (replicate p.more 32 ++ p.operand)) (clean_word p.operand_is) (clean_spaces p.more p.operand (clean_operand p.operand_is h))

pub tail_clean : (u : Update) → IsSpelled u → Clean (update_tail u)
tail_clean (Set key value) p = clean_text (statement_text (jobs.Set key value)) (jobs.Set key value) p refl
tail_clean (Kill key) p = clean_text (statement_text (jobs.Kill key)) (jobs.Kill key) p refl
tail_clean (ZKill key) p = clean_text (statement_text (jobs.ZKill key)) (jobs.ZKill key) p refl
