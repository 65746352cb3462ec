-- Writing byte by byte gives the ZWR form.
use Rattle.std.proofs.Common.{◌≡◌, ℕ, false, List, [], ◌∷◌, ◌++◌, map, cond, refl, ap, sym, ◌∙◌, append_assoc}
use Rattle.std.proofs.lemmas.List.{append-nil}
use Rattle.std.proofs.lemmas.Bool.{cases_Bool}
use Rattle.std.proofs.Common.{inl, inr, length, nat_eq}
use Rattle.std.specs.List.{flat_map, join_with_byte}
use Rattle.std.specs.Fmt.{decimal}
use Rattle.global_defs.specs.Zwr.{is_plain, onto, runs, quoted_byte, piece, zwr}
use Rattle.gvn_key.specs.declared.zwr.Open.TheVariants.{Nothing, Quotes, Codes}
use Rattle.gvn_key.specs.Pieces.{remaining_text}

-- the pieces behind another piece
abbrev pub pieces_after : List (List ℕ) → List ℕ
pieces_after [] = []
pieces_after (r ∷ rs) = 95 ∷ join_with_byte 95 (map piece (r ∷ rs))

-- the rest of the text inside quotes
abbrev pub after_quotes : List (List ℕ) → List ℕ
after_quotes [] = 34 ∷ []
after_quotes ([] ∷ more) = 34 ∷ pieces_after more
after_quotes ((c ∷ run) ∷ more) = cond (is_plain c) (flat_map quoted_byte (c ∷ run) ++ (34 ∷ pieces_after more)) (34 ∷ pieces_after ((c ∷ run) ∷ more))

abbrev pub each_code : List ℕ → List ℕ
each_code [] = []
each_code (c ∷ run) = 44 ∷ decimal c ++ each_code run

-- the rest of the text inside codes
abbrev pub after_codes : List (List ℕ) → List ℕ
after_codes [] = 41 ∷ []
after_codes ([] ∷ more) = 41 ∷ pieces_after more
after_codes ((c ∷ run) ∷ more) = cond (is_plain c) (41 ∷ pieces_after ((c ∷ run) ∷ more)) (each_code (c ∷ run) ++ (41 ∷ pieces_after more))

joined_codes : (c : ℕ) (run : List ℕ) → join_with_byte 44 (map decimal (c ∷ run)) ≡ decimal c ++ each_code run
joined_codes c [] = sym (append-nil (decimal c))
joined_codes c (d ∷ run) = ap (λ x. decimal c ++ (44 ∷ x)) (joined_codes d run)

join_pieces : (p : List ℕ) (more : List (List ℕ)) → join_with_byte 95 (p ∷ map piece more) ≡ p ++ pieces_after more
join_pieces p [] = sym (append-nil p)
join_pieces p (r ∷ rs) = refl

regrouped : (x y rest : List ℕ) → ((36 ∷ 67 ∷ 40 ∷ (x ++ y)) ++ (41 ∷ [])) ++ rest ≡ 36 ∷ 67 ∷ 40 ∷ x ++ (y ++ (41 ∷ rest))
regrouped x y rest = simp append_assoc

-- a piece of codes, and what follows it
code_piece : (b : ℕ) (run rest : List ℕ) → is_plain b ≡ false → piece (b ∷ run) ++ rest ≡ 36 ∷ 67 ∷ 40 ∷ decimal b ++ (each_code run ++ (41 ∷ rest))
code_piece b run rest h = rw h (ap (λ x. ((36 ∷ 67 ∷ 40 ∷ x) ++ (41 ∷ [])) ++ rest) (joined_codes b run) ∙ regrouped (decimal b) (each_code run) rest)

quotes_step : (b : ℕ) (rs : List (List ℕ)) → cond (is_plain b) (quoted_byte b ++ after_quotes rs) (34 ∷ 95 ∷ 36 ∷ 67 ∷ 40 ∷ decimal b ++ after_codes rs) ≡ after_quotes (onto b rs)
quotes_step b [] = elim (cases_Bool (is_plain b)) [ inl h ↦ rw h (simp append_assoc) | inr h ↦ rw h refl ]
quotes_step b ([] ∷ more) = elim (cases_Bool (is_plain b)) [ inl h ↦ rw h (simp append_assoc) | inr h ↦ rw (join_pieces (piece (b ∷ [])) more, h) (simp append_assoc) ]
quotes_step b ((c ∷ run) ∷ more) = elim (cases_Bool (is_plain b)) [
  | inl h ↦ elim (cases_Bool (is_plain c)) [ inl k ↦ rw (h, k) (rw h (simp append_assoc)) | inr k ↦ rw (h, k) (rw h (simp append_assoc)) ]
  | inr h ↦ elim (cases_Bool (is_plain c)) [ inl k ↦ rw (h, k) (rw h (simp append_assoc)) | inr k ↦ rw (h, k) (rw (join_pieces (piece (b ∷ c ∷ run)) more, code_piece b (c ∷ run) (pieces_after more) h) (rw h refl)) ]
]

codes_step : (b : ℕ) (rs : List (List ℕ)) → cond (is_plain b) (41 ∷ 95 ∷ 34 ∷ quoted_byte b ++ after_quotes rs) (44 ∷ decimal b ++ after_codes rs) ≡ after_codes (onto b rs)
codes_step b [] = elim (cases_Bool (is_plain b)) [ inl h ↦ rw h (simp append_assoc) | inr h ↦ rw h (simp append_assoc) ]
codes_step b ([] ∷ more) = elim (cases_Bool (is_plain b)) [ inl h ↦ rw (join_pieces (piece (b ∷ [])) more, h) (simp append_assoc) | inr h ↦ rw h (simp append_assoc) ]
codes_step b ((c ∷ run) ∷ more) = elim (cases_Bool (is_plain b)) [
  | inl h ↦ elim (cases_Bool (is_plain c)) [ inl k ↦ rw (h, k) (rw (join_pieces (piece (b ∷ c ∷ run)) more, h) (simp append_assoc)) | inr k ↦ rw (h, k) (rw h (simp append_assoc)) ]
  | inr h ↦ elim (cases_Bool (is_plain c)) [ inl k ↦ rw (h, k) (rw h (simp append_assoc)) | inr k ↦ rw (h, k) (rw h (simp append_assoc)) ]
]

first_step : (b : ℕ) (rs : List (List ℕ)) → cond (is_plain b) (34 ∷ quoted_byte b ++ after_quotes rs) (36 ∷ 67 ∷ 40 ∷ decimal b ++ after_codes rs) ≡ join_with_byte 95 (map piece (onto b rs))
first_step b [] = elim (cases_Bool (is_plain b)) [ inl h ↦ rw h (simp append_assoc) | inr h ↦ rw h refl ]
first_step b ([] ∷ more) = elim (cases_Bool (is_plain b)) [ inl h ↦ rw (join_pieces (piece (b ∷ [])) more, h) (simp append_assoc) | inr h ↦ rw (join_pieces (piece (b ∷ [])) more, h) (simp append_assoc) ]
first_step b ((c ∷ run) ∷ more) = elim (cases_Bool (is_plain b)) [
  | inl h ↦ elim (cases_Bool (is_plain c)) [ inl k ↦ rw (h, k) (rw (join_pieces (piece (b ∷ c ∷ run)) more, h) (simp append_assoc)) | inr k ↦ rw (h, k) (rw h (simp append_assoc)) ]
  | inr h ↦ elim (cases_Bool (is_plain c)) [ inl k ↦ rw (h, k) (rw h (simp append_assoc)) | inr k ↦ rw (h, k) (rw (join_pieces (piece (b ∷ c ∷ run)) more, code_piece b (c ∷ run) (pieces_after more) h) refl) ]
]

-- the rest of the text, by the runs of the rest
record Rests (bs : List ℕ) : Type 0 where
  quotes : remaining_text Quotes bs ≡ after_quotes (runs bs)
  codes : remaining_text Codes bs ≡ after_codes (runs bs)

in_quotes : (b : ℕ) (bs : List ℕ) → Rests bs → remaining_text Quotes (b ∷ bs) ≡ cond (is_plain b) (quoted_byte b ++ after_quotes (runs bs)) (34 ∷ 95 ∷ 36 ∷ 67 ∷ 40 ∷ decimal b ++ after_codes (runs bs))
in_quotes b bs r = elim (cases_Bool (is_plain b)) [ inl h ↦ rw (h, r.quotes) refl | inr h ↦ rw (h, r.codes) refl ]

in_codes : (b : ℕ) (bs : List ℕ) → Rests bs → remaining_text Codes (b ∷ bs) ≡ cond (is_plain b) (41 ∷ 95 ∷ 34 ∷ quoted_byte b ++ after_quotes (runs bs)) (44 ∷ decimal b ++ after_codes (runs bs))
in_codes b bs r = elim (cases_Bool (is_plain b)) [ inl h ↦ rw (h, r.quotes) refl | inr h ↦ rw (h, r.codes) refl ]

at_first : (b : ℕ) (bs : List ℕ) → Rests bs → remaining_text Nothing (b ∷ bs) ≡ cond (is_plain b) (34 ∷ quoted_byte b ++ after_quotes (runs bs)) (36 ∷ 67 ∷ 40 ∷ decimal b ++ after_codes (runs bs))
at_first b bs r = elim (cases_Bool (is_plain b)) [ inl h ↦ rw (h, r.quotes) refl | inr h ↦ rw (h, r.codes) refl ]

rests : (bs : List ℕ) → Rests bs
rests [] = record { quotes = refl; codes = refl }
rests (b ∷ bs) = record { quotes = in_quotes b bs (rests bs) ∙ quotes_step b (runs bs); codes = in_codes b bs (rests bs) ∙ codes_step b (runs bs) }

pub zwr_is : (bs : List ℕ) → nat_eq (length bs) 0 ≡ false → remaining_text Nothing bs ≡ zwr bs
zwr_is [] h = cc
zwr_is (b ∷ bs) h = at_first b bs (rests bs) ∙ first_step b (runs bs)
