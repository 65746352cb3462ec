-- The beginning of a gated file.
use Rattle.std.proofs.Common.{◌≡◌, ◌≢◌, ℕ, suc, ◌<◌, ◌^◌, Bool, true, false, List, [], ◌∷◌, ◌++◌, length, get_or, Option, Some, None, IfSome, IsSomeAnd, MatchBool, Result, Ok, Err, IfOk, refl, sym, ◌∙◌, ap, subst, arith}
use Rattle.std.proofs.lemmas.Bool.{false≢true}
use Rattle.std.proofs.lemmas.Bool.Decides.{nat_tests}
use Rattle.std.specs.List.{AllByRecursion}
use Rattle.std.specs.Option.{option_map}
use Rattle.disk_defs.specs.Disk.{Files, View, Image, IsLawful, OnFile, Torn, Passes, Reads, ReadsAfter, AtEachMoment, IsDurable}
use Rattle.disk_defs.specs.Gates.{Body, Gate, Open, Shut, NoGate, gate_of, behind, bodies_from, bodies_within, records, spelled, IsBody}
use Rattle.disk_defs.specs.Frames.{Only, SameOutside, OthersStay}
use Rattle.disk_defs.proofs.Told.{weaker_told, both_weak, told_at}
use Rattle.disk_defs.proofs.Moments.{goes_on, then_more, weaker, read_only, nothing_new, holds_now}
use Rattle.gated_file.specs.State.{State, settled}
use Rattle.gated_file.specs.Gated.{Holds, HasState, IsReady, IsStanding}
use Rattle.gated_file.specs.Begin.{IsBegun, KeepsRecords}
use Rattle.gated_file.specs.declared.gated.Gated.{Gated}
use Rattle.gated_file.proofs.Steps.{holds_by, text_image}
use Rattle.gated_file.proofs.Gates.{records_in}
use Rattle.disk_defs.proofs.Texts.{records_short as short_records}

-- an open first gate gives a record or nothing
opened_some : (g : Gate) (next : List ℕ → Option (List Body)) → g ≢ Shut → bodies_from next g ≡ Some [] → ⊥
opened_some Shut next not_shut is = absurd (not_shut refl)
opened_some NoGate next not_shut is = absurd (cc is)
opened_some (Open body rest) next not_shut is = more (next rest) is
  where
    more : (o : Option (List Body)) → option_map (λ bodies. body ∷ bodies) o ≡ Some [] → ⊥
    more None e = absurd (cc e)
    more (Some bodies) e = absurd (cc e)

behind_open : (rest : List ℕ) → behind rest ≢ Shut
behind_open rest is = grind (arith, nat_tests)

-- a file without records that doesn't begin with a closed gate is shorter than two bytes
pub is_short : (file : List ℕ) → records file ≡ Some [] → get_or file 0 1 ≡ 1 → length file < 2
is_short [] empty first = omega arith
is_short (gate ∷ []) empty first = omega arith
is_short (gate ∷ b ∷ rest) empty first =
    let n = suc (length rest) in
    let one : gate ≡ 1 = first in
    let opened : bodies_from (λ r. bodies_within n r) (gate_of (1 ∷ b ∷ rest)) ≡ bodies_from (λ r. bodies_within n r) (gate_of (gate ∷ b ∷ rest)) = ap (λ (x : ℕ). bodies_from (λ r. bodies_within n r) (gate_of (x ∷ b ∷ rest))) (sym one) in
    absurd (opened_some (behind (b ∷ rest)) (λ r. bodies_within n r) (behind_open (b ∷ rest)) (opened ∙ sym (records_in (gate ∷ b ∷ rest) (omega arith)) ∙ empty))

-- what a crash makes of a short file while its first byte is written
torn_short : (old new : List ℕ) → length old < 2 → Torn 0 1 old new → length new < 2
torn_short old new short torn = omega (arith, short, torn.no_longer)

-- an image from before the call keeps its records
pub keeps : (v : View) (file : ℕ) (c : Files) → Image v c → KeepsRecords v file c
keeps v file c now = (c, now, record { here = refl; others = λ f ne. refl })

pub keeps_all : (v w : View) (file : ℕ) → AtEachMoment v w (Image v) → AtEachMoment v w (KeepsRecords v file)
keeps_all v w file run = weaker v w (Image v) (KeepsRecords v file) (λ c now. keeps v file c now) run

-- one call after another
pub keeps_then : (u v w : View) (file : ℕ) → IsLawful v → AtEachMoment u v (KeepsRecords u file) → AtEachMoment v w (KeepsRecords v file) → AtEachMoment u w (KeepsRecords u file)
keeps_then u v w file lawful first second = then_more u v w (KeepsRecords u file) (KeepsRecords v file) first second (λ c q. goes q.0 c q.2 (holds_now u v (KeepsRecords u file) lawful first q.0 q.1))
  where
    goes : (d c : Files) → OnFile file (λ was now. records now ≡ records was) d c → KeepsRecords u file d → KeepsRecords u file c
    goes d c on p = (p.0, p.1, record { here = on.here ∙ p.2.here; others = λ f ne. on.others f ne ∙ p.2.others f ne })

-- the file before its first gate is written
pub record Empty (v : View) (file : ℕ) (files : Files) : Type 0 where
  pub durable : IsDurable v file (files file)
  pub none : records (files file) ≡ Some []
  pub first : get_or (files file) 0 1 ≡ 1

pub still_durable : (v w : View) (file : ℕ) (bytes : List ℕ) → Reads v w → IsDurable v file bytes → IsDurable w file bytes
still_durable v w file bytes reads durable c now = let from = reads.passes.images c now in ap (λ (x : Files). x file) from.2 ∙ durable from.0 from.1

module _ (v w x : View) (file : ℕ) (reads : Reads v w) (call : Passes (OnFile file (Torn 0 1)) w x) where
  written_image : (files : Files) → Empty v file files → (c : Files) → Image x c → KeepsRecords v file c
  written_image files empty c now =
      let torn = call.images c now in
      let same = reads.passes.images torn.0 torn.1 in
      let was : Image v torn.0 = subst (Image v) (sym same.2) same.1 in
      let is : torn.0 file ≡ files file = empty.durable torn.0 was in
      let short : length (torn.0 file) < 2 = subst (λ (l : List ℕ). length l < 2) (sym is) (is_short (files file) empty.none empty.first) in
      let now_short : length (c file) < 2 = torn_short (torn.0 file) (c file) short torn.2.here in
      (torn.0, was, record { here = short_records (c file) now_short ∙ sym (short_records (torn.0 file) short); others = torn.2.others })

  -- each image while the gate is written
  pub written_moments : (files : Files) → Empty v file files → AtEachMoment v x (KeepsRecords v file)
  written_moments files empty = goes_on v w x (KeepsRecords v file) (keeps_all v w file (read_only v w reads)) call (λ c now. written_image files empty c now)

  pub synced_moments : (y : View) (files : Files) → Empty v file files → IsLawful x → AtEachMoment x y (Image x) → AtEachMoment v y (KeepsRecords v file)
  synced_moments y files empty lawful call = nothing_new v x y (KeepsRecords v file) lawful (written_moments files empty) call

-- all its records are on the disk
pub settled_holds : (v : View) (g : Gated) (files : Files) (bodies : List Body) (gate : ℕ) (tail : List ℕ) (number end : ℕ) → IsStanding g number end → gate ≢ 1 → AllByRecursion IsBody bodies → files number ≡ spelled 1 bodies ++ gate ∷ tail → IsDurable v number (files number)
    → end ≡ length (spelled 1 bodies) → Holds v g (settled bodies) files
settled_holds v g files bodies gate tail number end standing shut all is durable end_is =
    let reads : files g.file ≡ spelled 1 bodies ++ gate ∷ tail = ap files standing.file ∙ is in
    holds_by v g (settled bodies) files gate tail shut reads
    (λ c now. text_image (settled bodies) gate tail g.synced (c g.file) (ap c standing.file ∙ durable c now ∙ is))
    all tt tt (omega (arith, standing.end, end_is)) standing.closed

pub standing_ready : (v : View) (g : Gated) (number end : ℕ) → IsLawful v → IsStanding g number end → end < 2 ^ 64 → IfSome v.content (λ files. (s : State) × Holds v g s files) → IsReady v g
standing_ready v g number end lawful standing low state =
    let none : length g.closed.items ≡ 0 = ap length standing.closed in
    record {
      state = state;
      room = lawful.less_room g.file _ _ 0 0 (omega (arith, none, standing.bodies, standing.syncs)) (omega (arith, none, standing.bodies, standing.bytes)) (lawful.no_room g.file);
      gates = omega (arith, none, standing.bodies);
      buffer = omega (arith, standing.bytes, standing.buffer);
      places = omega (arith, standing.end, standing.bodies, standing.bytes, low);
    }

pub begun_holds : (v : View) (g : Gated) (files : Files) (number : ℕ) → IsStanding g number 0 → IsBegun v number (files number) → Holds v g (settled []) files
begun_holds v g files number standing begun = settled_holds v g files [] begun.gate begun.tail number 0 standing begun.shut tt begun.is begun.durable refl

pub if_ok : {T E : Type 0} (r : Result T E) (P Q : T → Type 0) → IfOk r P → ((t : T) → P t → Q t) → IfOk r Q
if_ok (Ok t) P Q p k = k t p
if_ok (Err e) P Q p k = tt

-- what is known before the first gate is written
pub empty_of : (v : View) (file : ℕ) (closed : Bool) → IfSome v.content (λ files. IsDurable v file (files file)) → IfSome v.content (λ files. records (files file) ≡ Some []) → IfSome v.content (λ files. MatchBool closed (get_or (files file) 0 1 ≢ 1) (get_or (files file) 0 1 ≡ 1)) → closed ≡ false
    → IfSome v.content (Empty v file)
empty_of v file true durable none value is = absurd (false≢true (sym is))
empty_of v file false durable none value is =
    both_weak v.content (λ files. IsDurable v file (files file) × (records (files file) ≡ Some [])) (λ files. get_or (files file) 0 1 ≡ 1) (Empty v file)
    (both_weak v.content (λ files. IsDurable v file (files file)) (λ files. records (files file) ≡ Some []) (λ files. IsDurable v file (files file) × (records (files file) ≡ Some [])) durable none (λ files d n. (d, n))) value
    (λ files p first. record { durable = p.0; none = p.1; first = first })

-- what `settle` leaves
pub settle_keeps : (v w : View) (file : ℕ) → AtEachMoment v w (Image v) → IfSome v.content (λ _. AtEachMoment v w (KeepsRecords v file))
settle_keeps v w file run = told_always v.content (AtEachMoment v w (KeepsRecords v file)) (keeps_all v w file run)
  where
    told_always : (o : Option Files) (P : Type 0) → P → IfSome o (λ _. P)
    told_always None P p = tt
    told_always (Some f) P p = p

pub settle_then : (u v w : View) (file : ℕ) → IsLawful v → v.content ≡ u.content → AtEachMoment u v (Image u) → IfSome v.content (λ _. AtEachMoment v w (KeepsRecords v file)) → IfSome u.content (λ _. AtEachMoment u w (KeepsRecords u file))
settle_then u v w file lawful content run more =
    weaker_told u.content (λ _. AtEachMoment v w (KeepsRecords v file)) (λ _. AtEachMoment u w (KeepsRecords u file)) (told_at u.content v.content (λ _. AtEachMoment v w (KeepsRecords v file)) content more)
    (λ files second. keeps_then u v w file lawful (keeps_all u v file run) second)

pub begun_ready : (w : View) (g : Gated) (number : ℕ) → IsLawful w → IsStanding g number 0 → IfSome w.content (λ files. IsBegun w number (files number)) → IsReady w g
begun_ready w g number lawful standing begun = standing_ready w g number 0 lawful standing (omega arith)
    (weaker_told w.content (λ files. IsBegun w number (files number)) (λ files. (s : State) × Holds w g s files) begun (λ files is. (settled [], begun_holds w g files number standing is)))

-- a disk that told its files still tells them
still_told : (F : ℕ → Type 0) (v w : View) (P : Files → Type 0) → OthersStay F v w → IfSome w.content P → IfSome v.content (λ _. IsSomeAnd w.content P)
still_told F v w P stay p = at_content v.content w.content stay.content p
  where
    at_content : (o n : Option Files) → ReadsAfter (SameOutside F) o n → IfSome n P → IfSome o (λ _. IsSomeAnd n P)
    at_content None n after p = tt
    at_content (Some a) None after p = absurd after
    at_content (Some a) (Some b) after p = p

pub begun_state : (u v w : View) (g : Gated) (number : ℕ) → IsStanding g number 0 → v.content ≡ u.content → OthersStay (Only number) v w → IfSome w.content (λ files. IsBegun w number (files number)) → IfSome u.content (λ _. HasState w g (settled []))
begun_state u v w g number standing content stay begun = told_at u.content v.content (λ _. HasState w g (settled [])) content
    (still_told (Only number) v w (Holds w g (settled [])) stay (weaker_told w.content (λ files. IsBegun w number (files number)) (Holds w g (settled [])) begun (λ files is. begun_holds w g files number standing is)))
