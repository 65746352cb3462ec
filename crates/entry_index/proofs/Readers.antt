-- Where a reader of a region's journals is.
use Rattle.std.proofs.Common.{◌≡◌, ℕ, suc, ◌+◌, ◌≤◌, ◌<◌, nat_eq, Bool, false, List, [], ◌∷◌, ◌++◌, length, map, sum_by, Some, None, refl, sym, ◌∙◌, ap, subst, arith}
use Rattle.std.proofs.lemmas.Bool.Decides.{nat_tests}
use Rattle.global_defs.specs.declared.limits.TheConstants.{MOST_GENERATIONS}
use Rattle.disk_defs.specs.Disk.{Files}
use Rattle.disk_defs.specs.Gates.{spelled}
use Rattle.journal_defs.specs.Numbers.{journal_file}
use Rattle.journal_defs.specs.Journal.{JournalRecord}
use Rattle.journal_defs.specs.Sequence.{Placed}
use Rattle.journal_defs.specs.Stands.{IsJournal, in_generation}
use Rattle.jnl_record.specs.Values.{record_value}
use Rattle.jnl_file.specs.Generations.{HasNewer}
use Rattle.jnl_file.specs.Newer.{Reached}
use Rattle.jnl_file.proofs.Newer.{reached_start, reached_next, reached_end}
use Rattle.entry_index.specs.Cursors.{IsAt, IsNextRecord, placed_by}
use Rattle.entry_index.specs.Generations.{MayJoin}
use Rattle.entry_index.specs.Order.{bytes_in, size_of}
use Rattle.entry_index.specs.Pieces.{FindsSign, IsBodyOf}
use Rattle.entry_index.specs.Telling.{TellsSign}
use Rattle.entry_index.specs.declared.place.PartPlace.{PartPlace}
use Rattle.entry_index.specs.declared.placed.PlacedSign.{PlacedSign}
use Rattle.entry_index.specs.declared.signed_part.PartSign.{PartSign}
use Rattle.entry_index.specs.declared.reader.Reader.{Reader}
use Rattle.entry_index.specs.declared.sign.Sign.{Sign}
use Rattle.entry_index.proofs.Indexing.{join_of}
use Rattle.entry_index.proofs.Stands.{sign_found}
use Rattle.entry_index.proofs.Order.{bytes_append, bytes_own, older_bytes, spelled_size}

-- before all records
pub at_start : (files : Files) (p : Reader) → p.generation ≡ 1 → p.previous ≡ 0 → p.began ≡ 0 → p.at ≡ 0 → IsAt files p []
at_start files p first previous began at = record {
  before = 0;
  next = first;
  older = [];
  older_is = (previous, refl);
  reached = subst (λ (b : ℕ). Reached p.region p.generation p.previous (files (journal_file p.generation p.region)) p.at [] [] b) (previous ∙ sym began)
      (subst (λ (k : ℕ). Reached p.region p.generation p.previous (files (journal_file p.generation p.region)) k [] [] p.previous) (sym at)
      (reached_start p.region p.generation p.previous (files (journal_file p.generation p.region)) []));
  past = λ late. (refl, began ∙ sym previous, omega (arith, late, first));
}

-- with another piece at hand
pub at_piece : (files : Files) (p q : Reader) (journal : List Placed) → q ≡ record p { pieces = q.pieces } → IsAt files p journal → IsAt files q journal
at_piece files p q journal same is =
    subst (λ (x : Reader). IsAt files x journal) (sym same) (record { before = is.before; next = is.next; older = is.older; older_is = is.older_is; reached = is.reached; past = is.past })

-- how many bytes stand before it in its generation
pub at_bytes : (files : Files) (p : Reader) (journal : List Placed) → IsAt files p journal → p.at ≡ bytes_in p.generation journal
at_bytes files p journal is =
    let r = is.reached in
    let none : bytes_in p.generation is.older ≡ 0 = older_bytes files p.region is.before p.previous p.generation is.older is.older_is (omega (arith, is.next)) in
    let size : length (spelled 1 r.done) ≡ sum_by size_of r.earlier = spelled_size r.done r.earlier r.spelled_done in
    let whole : bytes_in p.generation journal ≡ bytes_in p.generation is.older + bytes_in p.generation (map (in_generation p.generation) r.earlier) =
    ap (bytes_in p.generation) r.whole ∙ bytes_append p.generation is.older (map (in_generation p.generation) r.earlier) in
    omega (arith, r.place, none, size, whole, bytes_own p.generation r.earlier)

module _ (files : Files) (p q : Reader) (journal : List Placed) (inside : p.generation ≤ p.last) (is : IsAt files p journal) where
  abbrev file : List ℕ
  file = files (journal_file p.generation p.region)

  -- past a record
  pub at_next : (s : Sign) (next : ℕ) → p.generation ≤ MOST_GENERATIONS → FindsSign file p.at (Some (s, next)) → MayJoin (nat_eq p.at 0) p.region p.generation p.previous s → q ≡ record p { at = next; began = p.generation }
      → IsNextRecord files p.region q journal (record { generation = p.generation; offset = p.at; sign = s })
  at_next s next most found may same =
      let r : JournalRecord = record_value found.0 in
      let joins = join_of (nat_eq p.at 0) p.region p.generation p.previous r (subst (λ (x : Sign). MayJoin (nat_eq p.at 0) p.region p.generation p.previous x) found.2 may) in
      record {
        what = in_generation p.generation r;
        drawn = (omega (arith, is.next), most);
        sign = record { generation = refl; says = found.2; stands = found.3 };
        offset = at_bytes files p journal is;
        at = subst (λ (x : Reader). IsAt files x (journal ++ in_generation p.generation r ∷ [])) (sym same) (record {
          before = is.before;
          next = is.next;
          older = is.older;
          older_is = is.older_is;
          reached = reached_next p.region p.generation p.previous file p.at is.older journal p.began is.reached found.0 next found.1 joins;
          past = λ late. absurd (omega (arith, late, inside));
        });
      }

  -- past a part, by its body
  pub at_part : (body : List ℕ) (s : PartSign) → p.generation ≤ MOST_GENERATIONS → IsBodyOf file p.at body → TellsSign body (Some (placed_by s).sign) → s.place ≡ record { generation = p.generation; offset = p.at } → (p.at ≡ 0 → ⊥)
      → q ≡ record p { at = p.at + 5 + length body; began = p.generation } → IsNextRecord files p.region q journal (placed_by s)
  at_part body s most of tells place later same =
      let sign : Sign = (placed_by s).sign in
      let found : FindsSign file p.at (Some (sign, p.at + 5 + length body)) = sign_found file p.at (length body) of.has body of.shown sign tells in
      let no : nat_eq p.at 0 ≡ false = grind (arith, nat_tests, later) in
      let may : MayJoin (nat_eq p.at 0) p.region p.generation p.previous sign = subst (λ (b : Bool). MayJoin b p.region p.generation p.previous sign) (sym no) tt in
      let here : record { generation = p.generation; offset = p.at; sign = sign } ≡ placed_by s = ap (λ (x : PartPlace). record { generation = x.generation; offset = x.offset; sign = sign }) (sym place) in
      subst (λ (x : PlacedSign). IsNextRecord files p.region q journal x) here (at_next sign (p.at + 5 + length body) most found may same)

  -- at the start of the next journal
  pub at_turn : FindsSign file p.at None → q.region ≡ p.region → q.last ≡ p.last → q.generation ≡ p.generation + 1 → q.previous ≡ p.began → q.began ≡ p.began → q.at ≡ 0 → IsAt files q journal
  at_turn shut region last generation previous began at =
      let ended : HasNewer p.region p.generation p.previous file is.older journal p.began = reached_end p.region p.generation p.previous file p.at is.older journal p.began is.reached shut in
      let here = subst (λ (k : ℕ). HasNewer p.region k p.previous (files (journal_file k p.region)) is.older journal p.began) is.next ended in
      let whole : IsJournal files p.region (suc is.before) p.began journal = (p.previous, is.older, here.newer, is.older_is, here.newer_is, here.begins, here.began_is, here.whole) in
      let older : IsJournal files q.region p.generation q.previous journal =
      subst (λ (r : ℕ). IsJournal files r p.generation q.previous journal) (sym region)
      (subst (λ (b : ℕ). IsJournal files p.region p.generation b journal) (sym previous) (subst (λ (k : ℕ). IsJournal files p.region k p.began journal) (sym is.next) whole)) in
      record {
        before = p.generation;
        next = omega (arith, generation);
        older = journal;
        older_is = older;
        reached = subst (λ (b : ℕ). Reached q.region q.generation q.previous (files (journal_file q.generation q.region)) q.at journal journal b) (previous ∙ sym began)
            (subst (λ (k : ℕ). Reached q.region q.generation q.previous (files (journal_file q.generation q.region)) k journal journal q.previous) (sym at)
            (reached_start q.region q.generation q.previous (files (journal_file q.generation q.region)) journal));
        past = λ late. (refl, began ∙ sym previous, omega (arith, late, generation, last, inside));
      }

-- all is read
pub at_end : (files : Files) (p : Reader) (journal : List Placed) → p.last < p.generation → IsAt files p journal → IsJournal files p.region p.last p.began journal
at_end files p journal late is =
    let past = is.past late in
    subst (λ (k : ℕ). IsJournal files p.region k p.began journal) past.2
    (subst (λ (b : ℕ). IsJournal files p.region is.before b journal) (sym past.1)
    (subst (λ (l : List Placed). IsJournal files p.region is.before p.previous l) (sym past.0) is.older_is))
