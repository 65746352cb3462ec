-- The ZWR form of bytes is a text in ZWR form.
use Rattle.std.proofs.Common.{◌≡◌, ℕ, suc, true, false, not, cond, nat_lt, List, [], ◌∷◌, ◌++◌, map, refl, ap, sym, subst, ◌∙◌, inl, inr}
use Rattle.std.specs.List.{list_all, join_with_byte}
use Rattle.std.proofs.lemmas.List.{append-nil}
use Rattle.std.proofs.lemmas.Bool.{and_parts, and_from, cases_Bool, lt-ltb}
use Rattle.global_defs.specs.Zwr.{is_plain, onto, runs, piece, zwr}
use Rattle.gvn_key.specs.ZwrText.{IsPiece, quoted, coded, IsZwr, one, more, IsBytes}

-- a run that begins with a printable byte has no other, and all are bytes
data IsRun : List ℕ → Type 0 where
  plain : (b : ℕ) (run : List ℕ) → list_all is_plain (b ∷ run) ≡ true → IsRun (b ∷ run)
  other : (b : ℕ) (run : List ℕ) → is_plain b ≡ false → list_all (λ c. nat_lt c 256) (b ∷ run) ≡ true → IsRun (b ∷ run)

abbrev AllRuns : List (List ℕ) → Type 0
AllRuns [] = Unit {0}
AllRuns (r ∷ rs) = IsRun r × AllRuns rs

run_piece : {r : List ℕ} → IsRun r → IsPiece (piece r) r
run_piece (plain b run p) = rw (and_parts (is_plain b) (list_all is_plain run) p).0 (quoted (b ∷ run) p)
run_piece (other b run h p) = rw h (coded b run p)

alone : (b : ℕ) → nat_lt b 256 ≡ true → IsRun (b ∷ [])
alone b small = elim (cases_Bool (is_plain b)) [
  | inl h ↦ plain b [] (and_from (is_plain b) true h refl)
  | inr h ↦ other b [] h (and_from (nat_lt b 256) true small refl)
]

onto_run : (b : ℕ) {r : List ℕ} (rs : List (List ℕ)) → nat_lt b 256 ≡ true → IsRun r → AllRuns rs → AllRuns (onto b (r ∷ rs))
onto_run b rs small (plain c run p) all = elim (cases_Bool (is_plain b)) [
  | inl h ↦ rw (h, (and_parts (is_plain c) (list_all is_plain run) p).0) (plain b (c ∷ run) (and_from (is_plain b) (list_all is_plain (c ∷ run)) h p), all)
  | inr h ↦ rw (h, (and_parts (is_plain c) (list_all is_plain run) p).0) (alone b small, (plain c run p, all))
]
onto_run b rs small (other c run k p) all = elim (cases_Bool (is_plain b)) [
  | inl h ↦ rw (h, k) (alone b small, (other c run k p, all))
  | inr h ↦ rw (h, k) (other b (c ∷ run) h (and_from (nat_lt b 256) (list_all (λ d. nat_lt d 256) (c ∷ run)) small p), all)
]

onto_runs : (b : ℕ) (rs : List (List ℕ)) → nat_lt b 256 ≡ true → AllRuns rs → AllRuns (onto b rs)
onto_runs b [] small all = (alone b small, tt)
onto_runs b (r ∷ rs) small all = onto_run b rs small all.0 all.1

all_runs : (bs : List ℕ) → list_all (λ c. nat_lt c 256) bs ≡ true → AllRuns (runs bs)
all_runs [] h = tt
all_runs (b ∷ bs) h = let t = and_parts (nat_lt b 256) (list_all (λ c. nat_lt c 256) bs) h in onto_runs b (runs bs) t.0 (all_runs bs t.1)

abbrev flat : List (List ℕ) → List ℕ
flat [] = []
flat (r ∷ rs) = r ++ flat rs

onto_flat : (b : ℕ) (rs : List (List ℕ)) → flat (onto b rs) ≡ b ∷ flat rs
onto_flat b [] = refl
onto_flat b ([] ∷ rs) = refl
onto_flat b ((c ∷ run) ∷ rs) = elim (cases_Bool (cond (is_plain b) (is_plain c) (not (is_plain c)))) [ inl h ↦ rw h refl | inr h ↦ rw h refl ]

runs_flat : (bs : List ℕ) → flat (runs bs) ≡ bs
runs_flat [] = refl
runs_flat (b ∷ bs) = onto_flat b (runs bs) ∙ ap (λ x. b ∷ x) (runs_flat bs)

joined : (r : List ℕ) (rs : List (List ℕ)) → AllRuns (r ∷ rs) → IsZwr (join_with_byte 95 (map piece (r ∷ rs))) (flat (r ∷ rs))
joined r [] all = subst (IsZwr (piece r)) (sym (append-nil r)) (one (run_piece all.0))
joined r (s ∷ rs) all = more (run_piece all.0) (joined s rs all.1)

some_joined : (rs : List (List ℕ)) (b : ℕ) (bs : List ℕ) → AllRuns rs → flat rs ≡ b ∷ bs → IsZwr (join_with_byte 95 (map piece rs)) (flat rs)
some_joined [] b bs all e = cc
some_joined (r ∷ rs) b bs all e = joined r rs all

bytes_small : (bs : List ℕ) → IsBytes bs → list_all (λ c. nat_lt c 256) bs ≡ true
bytes_small [] h = refl
bytes_small (b ∷ bs) h = and_from (nat_lt b 256) (list_all (λ c. nat_lt c 256) bs) (lt-ltb b 256 (h 0)) (bytes_small bs (λ i. h (suc i)))

pub zwr_written : (bs : List ℕ) → IsBytes bs → IsZwr (zwr bs) bs
zwr_written [] h = one (quoted [] refl)
zwr_written (b ∷ bs) h =
    let rs : List (List ℕ) = runs (b ∷ bs) in
    subst (IsZwr (join_with_byte 95 (map piece rs))) (runs_flat (b ∷ bs)) (some_joined rs b bs (all_runs (b ∷ bs) (bytes_small (b ∷ bs) h)) (runs_flat (b ∷ bs)))
