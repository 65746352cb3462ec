-- What a crate above may cite of places among records: records that come behind leave them, they stand in files, and an index counts its entries.
use Rattle.std.proofs.Common.{◌≡◌, ℕ, zero, suc, ◌+◌, ◌*◌, ◌/◌, ◌==◌, ◌≤◌, ◌<◌, ◌&&◌, nat_le, Bool, true, false, List, [], ◌∷◌, ◌++◌, length, take, slice_get, Option, Some, None, refl, sym, ◌∙◌, ap, subst, arith, if◌then◌else◌}
use Rattle.std.specs.Option.{option_or}
use Rattle.std.proofs.Math.Nat.{mul-div_cancel_left, mul-le-mul_left}
use Rattle.std.proofs.lemmas.Bool.Decides.{nat_tests}
use Rattle.std.proofs.lemmas.List.{take-append-le}
use Rattle.std.proofs.lemmas.Option.{slice_get_within}
use Rattle.global_defs.specs.declared.limits.TheConstants.{MOST_GENERATIONS}
use Rattle.disk_defs.specs.Disk.{Files}
use Rattle.global_defs.specs.Entry.{Reign, Stamp, Sequence}
use Rattle.global_defs.specs.Prefix.{stamp_at}
use Rattle.journal_defs.specs.Instance.{InstanceRecord}
use Rattle.journal_defs.specs.Journal.{JournalRecord, Tcom, Part}
use Rattle.journal_defs.specs.Numbers.{journal_file}
use Rattle.journal_defs.specs.Sequence.{Placed, entry_with}
use Rattle.journal_defs.specs.Surviving.{survives}
use Rattle.entry_index.specs.Places.{StandsAt, IsSignOf, AreSignsOf}
use Rattle.entry_index.specs.Order.{IsAmong, bytes_in}
use Rattle.entry_index.specs.declared.placed.PlacedSign.{PlacedSign}
use Rattle.entry_index.specs.declared.sign.Sign.{Sign}
use Rattle.entry_index.specs.declared.sign.Sign.TheVariants.{Pini, Epoch, Pblk, Tcom as TcomSign}
use Rattle.entry_index.proofs.Stands.{one_stands}
use Rattle.entry_index.specs.declared.place.PartPlace.{PartPlace}
use Rattle.entry_index.specs.declared.signed_part.PartSign.{PartSign}
use Rattle.entry_index.specs.declared.index.EntryIndex.{EntryIndex}
use Rattle.entry_index.specs.Parts.{InFiles, InJournals, IsPartAt}
use Rattle.entry_index.specs.Signs.{part_said, part_sign_in, if_numbered, if_surviving, sign_in, last_sign, signs_of}
use Rattle.entry_index.specs.Completing.{place_told}
use Rattle.entry_index.specs.Indexes.{place_of, Indexes, AreSigns}
use Rattle.entry_index.specs.Among.{IsIndexOf, AreAllInOrder, ArePlaced}
use Rattle.entry_index.specs.Found.{entry_count, IsWhole}
use Rattle.entry_index.proofs.IndexLaws.{moved, elsewhere}

got_front : {X : Type 0} (xs ys : List X) (k : ℕ) (x : X) → slice_get xs k ≡ Some x → slice_get (xs ++ ys) k ≡ Some x
got_front [] ys k x is = absurd (cc is)
got_front (y ∷ xs) ys zero x is = is
got_front (y ∷ xs) ys (suc k) x is = got_front xs ys k x is

-- records behind
pub among_more : (journal rest : List Placed) (g o : ℕ) (r : JournalRecord) → IsAmong journal g o r → IsAmong (journal ++ rest) g o r
among_more journal rest g o r a =
    let low = slice_get_within journal a.place (record { generation = g; what = r }) a.there in
    record {
      place = a.place;
      there = got_front journal rest a.place (record { generation = g; what = r }) a.there;
      offset_is = a.offset_is ∙ ap (bytes_in g) (sym (take-append-le a.place journal rest (omega (arith, low))));
    }

-- a part among the same records
pub part_moved : (old new : ℕ → List Placed) (r n : ℕ) (p : PartPlace) (x : Option Part) → old r ≡ new r → IsPartAt (InJournals old) r n p x → IsPartAt (InJournals new) r n p x
part_moved old new r n p x same is = moved (InJournals old) (InJournals new) r n p x (λ y among. subst (λ (l : List Placed). IsAmong l p.generation p.offset y) same among) is

-- records behind, in the regions of the index
pub index_behind : (old new : ℕ → List Placed) (rs : List Reign) (index : EntryIndex) (seq : Sequence) → ((r : ℕ) → r < index.regions → (rest : List Placed) × (new r ≡ old r ++ rest))
    → IsIndexOf old rs index seq → IsIndexOf new rs index seq
index_behind old new rs index seq longer is = elsewhere (InJournals old) (InJournals new) rs index seq
    (λ n r x low among.
    let rest = longer r low in
    let p = place_of index n r in
    subst (λ (l : List Placed). IsAmong l p.generation p.offset x) (sym rest.1) (among_more (old r) rest.0 p.generation p.offset x among))
    is

-- where its records stand in files, so do its entries
pub index_stands : (journal : ℕ → List Placed) (files : Files) (rs : List Reign) (index : EntryIndex) (seq : Sequence)
    → ((r g o : ℕ) (x : JournalRecord) → r < index.regions → IsAmong (journal r) g o x → StandsAt (files (journal_file g r)) o x) → IsIndexOf journal rs index seq → Indexes (InFiles files) rs index seq
index_stands journal files rs index seq stand is = elsewhere (InJournals journal) (InFiles files) rs index seq (λ n r x low among. stand r (place_of index n r).generation (place_of index n r).offset x low among) is

-- other reigns, that give these entries the same stamps
pub index_stamps : (journal : ℕ → List Placed) (rs qs : List Reign) (index : EntryIndex) (seq : Sequence) → ((n : ℕ) → n < length seq → stamp_at (suc n) qs ≡ stamp_at (suc n) rs)
    → IsIndexOf journal rs index seq → IsIndexOf journal qs index seq
index_stamps journal rs qs index seq stamps is = record {
  rows = is.rows;
  each = λ n e at.
      let x = is.each n e at in
      record {
        part = x.part;
        places = x.places;
        no_more = x.no_more;
        entry = ap (λ (s : Option Stamp). entry_with x.part s) (stamps n (slice_get_within seq n e at)) ∙ x.entry;
      };
}

-- as many entries as it has rows
pub counted : (index : EntryIndex) (n : ℕ) → 1 ≤ index.regions → length index.places.items ≡ index.regions * n → entry_count index ≡ n
counted index n some rows =
    let no : (index.regions == 0) ≡ false = grind (arith, nat_tests, some) in
    rw no (ap (λ (k : ℕ). k / index.regions) rows ∙ mul-div_cancel_left n (omega (arith, some)))

pub counts_entries : (journal : ℕ → List Placed) (rs : List Reign) (index : EntryIndex) (seq : Sequence) → 1 ≤ index.regions → IsIndexOf journal rs index seq → entry_count index ≡ length seq
counts_entries journal rs index seq some is = counted index (length seq) some is.rows

pub whole_rows : (index : EntryIndex) (n : ℕ) → 1 ≤ index.regions → length index.places.items ≡ index.regions * n → IsWhole index
whole_rows index n some rows = rows ∙ ap (λ (k : ℕ). index.regions * k) (sym (counted index n some rows))

-- the sign that tells a part's place
pub chosen : (b : Bool) (o : Option PartSign) (s : PartSign) → (if b then o else None) ≡ Some s → o ≡ Some s
chosen true o s is = is
chosen false o s is = absurd (cc is)

numbered_is : (n : ℕ) (o : Option PartSign) (s : PartSign) → if_numbered n o ≡ Some s → o ≡ Some s
numbered_is n None s is = absurd (cc is)
numbered_is n (Some t) s is = chosen (t.number == n) (Some t) s is

surviving_is : (instance : List InstanceRecord) (g : ℕ) (o : Option PartSign) (s : PartSign) → if_surviving instance g o ≡ Some s → o ≡ Some s
surviving_is instance g None s is = absurd (cc is)
surviving_is instance g (Some t) s is = chosen (survives instance g t.number) (Some t) s is

said_there : (g at : ℕ) (x : Sign) (s : PartSign) → part_said g at x ≡ Some s → s.place ≡ record { generation = g; offset = at }
said_there g at (TcomSign number mask origin count span) s is =
    let same : record { number = number; mask = mask; origin = origin; count = count; span = span; place = record { generation = g; offset = at } } ≡ s = cc is in
    ap (λ (t : PartSign). t.place) (sym same)
said_there g at (Pini region before generation previous) s is = absurd (cc is)
said_there g at (Epoch closing number blocks) s is = absurd (cc is)
said_there g at (Pblk block) s is = absurd (cc is)

sign_there : (instance : List InstanceRecord) (n : ℕ) (p : PlacedSign) (s : PartSign) → sign_in instance n p ≡ Some s → s.place ≡ record { generation = p.generation; offset = p.offset }
sign_there instance n p s is =
    let told = surviving_is instance p.generation (part_sign_in p) s (numbered_is n (if_surviving instance p.generation (part_sign_in p)) s is) in
    said_there p.generation p.offset p.sign s (chosen (nat_le 1 p.generation && nat_le p.generation MOST_GENERATIONS) (part_said p.generation p.offset p.sign) s told)

record IsOneOf (signs : List PlacedSign) (place : PartPlace) : Type 0 where
  at : ℕ
  sign : PlacedSign
  there : slice_get signs at ≡ Some sign
  place_is : place ≡ record { generation = sign.generation; offset = sign.offset }

found_in : (instance : List InstanceRecord) (n : ℕ) (p : PlacedSign) (ss : List PlacedSign) (s : PartSign) (o : Option PartSign) → (last_sign instance n ss ≡ Some s → IsOneOf ss s.place) → last_sign instance n ss ≡ o
    → option_or o (sign_in instance n p) ≡ Some s → IsOneOf (p ∷ ss) s.place
found_in instance n p ss s None later none is = record { at = zero; sign = p; there = refl; place_is = sign_there instance n p s is }
found_in instance n p ss s (Some t) later some is =
    let one = later (some ∙ is) in
    record { at = suc one.at; sign = one.sign; there = one.there; place_is = one.place_is }

last_found : (instance : List InstanceRecord) (n : ℕ) (ss : List PlacedSign) (s : PartSign) → last_sign instance n ss ≡ Some s → IsOneOf ss s.place
last_found instance n [] s is = absurd (cc is)
last_found instance n (p ∷ ss) s is = found_in instance n p ss s (last_sign instance n ss) (λ some. last_found instance n ss s some) refl is

record_at : (files : Files) (r : ℕ) (signs : List PlacedSign) (js : List Placed) (k : ℕ) (s : PlacedSign) → AreSignsOf files r signs js → slice_get signs k ≡ Some s → (p : Placed) × (slice_get js k ≡ Some p) × IsSignOf files r s p
record_at files r [] [] k s all there = absurd (cc there)
record_at files r [] (q ∷ js) k s all there = absurd all
record_at files r (x ∷ signs) [] k s all there = absurd all
record_at files r (x ∷ signs) (q ∷ js) zero s all there = let same : x ≡ s = cc there in (q, refl, subst (λ (t : PlacedSign). IsSignOf files r t q) same all.0)
record_at files r (x ∷ signs) (q ∷ js) (suc k) s all there = record_at files r signs js k s all.1 there

pub placed_is : (q : Placed) (g : ℕ) (x : JournalRecord) → q.generation ≡ g → q.what ≡ x → q ≡ record { generation = g; what = x }
placed_is q g x drawn what = ap (λ (h : ℕ). record { generation = h; what = q.what }) drawn ∙ ap (λ (y : JournalRecord). record { generation = g; what = y }) what

-- an index by signs, which have the places of these records
module _ (files : Files) (instance : List InstanceRecord) (signs : List (List PlacedSign)) (journal : ℕ → List Placed) (are : AreSigns files signs journal) (ordered : AreAllInOrder signs journal) where
  among_there : (n r : ℕ) (p : PartPlace) (x : JournalRecord) → r < length signs → 1 ≤ p.generation → p ≡ place_told (last_sign instance n (signs_of signs r)) → StandsAt (files (journal_file p.generation r)) p.offset x
      → IsAmong (journal r) p.generation p.offset x
  among_there n r p x low drawn told stands = by_last (last_sign instance n (signs_of signs r)) refl told
    where
      by_last : (o : Option PartSign) → last_sign instance n (signs_of signs r) ≡ o → p ≡ place_told o → IsAmong (journal r) p.generation p.offset x
      by_last None none is = let nowhere : p.generation ≡ 0 = ap (λ (q : PartPlace). q.generation) is in absurd (omega (arith, drawn, nowhere))
      by_last (Some s) some is =
          let found = last_found instance n (signs_of signs r) s some in
          let at = record_at files r (signs_of signs r) (journal r) found.at found.sign (are.each r low) found.there in
          let q = at.0 in
          let place : p ≡ record { generation = found.sign.generation; offset = found.sign.offset } = is ∙ found.place_is in
          let generation : p.generation ≡ q.generation = ap (λ (z : PartPlace). z.generation) place ∙ at.2.generation in
          let offset : p.offset ≡ found.sign.offset = ap (λ (z : PartPlace). z.offset) place in
          let here : StandsAt (files (journal_file q.generation r)) found.sign.offset x =
          subst (λ (o : ℕ). StandsAt (files (journal_file q.generation r)) o x) offset (subst (λ (g : ℕ). StandsAt (files (journal_file g r)) p.offset x) generation stands) in
          let what : q.what ≡ x = one_stands (files (journal_file q.generation r)) found.sign.offset q.what x at.2.stands here in
          record {
            place = found.at;
            there = at.1 ∙ ap Some (placed_is q p.generation x (sym generation) what);
            offset_is = offset ∙ ordered r low found.at found.sign found.there ∙ ap (λ (g : ℕ). bytes_in g (take found.at (journal r))) (sym (ap (λ (z : PartPlace). z.generation) place));
          }

  part_among : (n r : ℕ) (p : PartPlace) (x : Option Part) → r < length signs → p ≡ place_told (last_sign instance n (signs_of signs r)) → IsPartAt (InFiles files) r n p x → IsPartAt (InJournals journal) r n p x
  part_among n r p None low told is = is
  part_among n r p (Some x) low told is = (is.0, is.1, is.2, among_there n r p (Tcom x) low is.0 told is.3)

  pub index_among : (rs : List Reign) (index : EntryIndex) (seq : Sequence) → index.regions ≡ length signs → ArePlaced instance signs index → Indexes (InFiles files) rs index seq → IsIndexOf journal rs index seq
  index_among rs index seq many placed is = record {
    rows = is.rows;
    each = λ m e h.
        let at = is.each m e h in
        let low : m < length seq = slice_get_within seq m e h in
        let fits : index.regions * (m + 1) ≤ index.regions * length seq = mul-le-mul_left {m = m + 1} {n = length seq} index.regions (omega (arith, low)) in
        let next : m + 1 ≡ suc m = omega arith in
        record {
          part = at.part;
          places = λ r within.
              let told : place_of index (suc m) r ≡ place_told (last_sign instance (m + 1) (signs_of signs r)) = placed.each m r within (omega (arith, fits, is.rows)) in
              part_among (suc m) r (place_of index (suc m) r) (at.part r) (omega (arith, within, many)) (told ∙ ap (λ (n : ℕ). place_told (last_sign instance n (signs_of signs r))) next) (at.places r within);
          no_more = at.no_more;
          entry = at.entry;
        };
  }
