-- From gate to gate to the first closed one.
use Rattle.std.proofs.Common.{◌≡◌, ◌≢◌, ℕ, zero, suc, ◌+◌, ◌-◌, ◌≤◌, List, [], ◌∷◌, ◌++◌, length, take, drop, get_or, Some, None, refl, sym, ◌∙◌, ap, arith, append_assoc, length-append, length-take, length-drop, take-append-drop}
use Rattle.std.proofs.lemmas.Bool.Decides.{nat_tests}
use Rattle.std.proofs.lemmas.List.{take-take, drop-take, drop-drop, drop_more}
use Rattle.std.specs.Int.{to_be_bytes, w32}
use Rattle.std.specs.List.{AllByRecursion}
use Rattle.disk_defs.specs.Gates.{Body, Shut, NoGate, gate_of, behind, bodies_from, bodies_within, records, framed, spelled, IsBody}
use Rattle.disk_defs.proofs.Texts.{stands, within_open, length-spelled}
use Rattle.std.specs.Option.{option_map}
use Rattle.gated_file.specs.Reading.{HasBody, EndsAt}
use Rattle.disk_defs.specs.OutsideGates.{LeadsTo, IsOutside}
use Rattle.gated_file.proofs.Pieces.{spelled_push}
use Rattle.gated_file.proofs.Steps.{all_append, stands_none}
use Rattle.gated_file.proofs.Gates.{records_in}
use Rattle.disk_defs.proofs.Walks.{gate_in as at_long}

take_sum : (m n : ℕ) (l : List ℕ) → take (m + n) l ≡ take m l ++ take n (drop m l)
take_sum m n l = sym (take-append-drop m (take (m + n) l)) ∙ ap (λ (x : List ℕ). x ++ drop m (take (m + n) l)) (take-take m (m + n) l (omega arith)) ∙ ap (λ (x : List ℕ). take m l ++ x) (drop-take m n l)

-- the bytes of an open record
record_is : (file : List ℕ) (at n : ℕ) → HasBody file at n → take (n + 5) (drop at file) ≡ 1 ∷ framed (take n (drop (at + 5) file))
record_is file at n has =
    let body = take n (drop (at + 5) file) in
    let long : length body ≡ n = omega (arith, length-take n (drop (at + 5) file), length-drop (at + 5) file, has.inside) in
    let four : at + 1 + 4 ≡ at + 5 = omega arith in
    let all : n + 5 ≡ 1 + (4 + n) = omega arith in
    ap (λ (k : ℕ). take k (drop at file)) all
    ∙ take_sum 1 (4 + n) (drop at file)
    ∙ ap (λ (l : List ℕ). l ++ take (4 + n) (drop 1 (drop at file))) has.gate
    ∙ ap (λ (l : List ℕ). 1 ∷ take (4 + n) l) (drop-drop 1 at file)
    ∙ ap (λ (l : List ℕ). 1 ∷ l) (take_sum 4 n (drop (at + 1) file) ∙ ap (λ (l : List ℕ). l ++ take n (drop 4 (drop (at + 1) file))) has.head
    ∙ ap (λ (l : List ℕ). to_be_bytes w32 n ++ take n l) (drop-drop 4 (at + 1) file ∙ ap (λ (k : ℕ). drop k file) four)
    ∙ ap (λ (k : ℕ). to_be_bytes w32 k ++ body) (sym long))

pub leads_next : (file : List ℕ) (at n : ℕ) (bodies : List Body) → LeadsTo file at bodies → HasBody file at n → LeadsTo file (at + (n + 5)) (bodies ++ take n (drop (at + 5) file) ∷ [])
leads_next file at n bodies leads has =
    let body = take n (drop (at + 5) file) in
    let long : length body ≡ n = omega (arith, length-take n (drop (at + 5) file), length-drop (at + 5) file, has.inside) in
    let is_body : IsBody body = record { not_empty = omega (arith, long, has.not_empty); not_long = omega (arith, long, has.not_long) } in
    record {
      front = take_sum at (n + 5) file ∙ ap (λ (l : List ℕ). l ++ take (n + 5) (drop at file)) leads.front ∙ ap (λ (l : List ℕ). spelled 1 bodies ++ l) (record_is file at n has) ∙ sym (spelled_push 1 bodies body);
      all = all_append bodies (body ∷ []) leads.all (is_body, tt);
      inside = omega (arith, has.inside);
    }

-- the file from here on
split_at : (file : List ℕ) (at : ℕ) (bodies : List Body) → LeadsTo file at bodies → file ≡ spelled 1 bodies ++ drop at file
split_at file at bodies leads = sym (take-append-drop at file) ∙ ap (λ (l : List ℕ). l ++ drop at file) leads.front

pub leads_place : (file : List ℕ) (at : ℕ) (bodies : List Body) → LeadsTo file at bodies → at ≡ length (spelled 1 bodies)
leads_place file at bodies leads = omega (arith, ap length leads.front, length-take at file, leads.inside)

shut_byte : (gate : ℕ) (rest : List ℕ) → gate_of (gate ∷ rest) ≡ Shut → gate ≢ 1
shut_byte gate rest is one = behind_open rest (ap (λ (g : ℕ). gate_of (g ∷ rest)) (sym one) ∙ is)
  where
    behind_open : (rest : List ℕ) → behind rest ≢ Shut
    behind_open rest is = grind (arith, nat_tests)

-- the closed gate at the end, and what stands behind it
pub record Closed (file : List ℕ) (bodies : List Body) : Type 0 where
  pub gate : ℕ
  pub tail : List ℕ
  pub shut : gate ≢ 1
  pub is : file ≡ spelled 1 bodies ++ gate ∷ tail

pub closed_at : (file : List ℕ) (end : ℕ) (bodies : List Body) → 2 ≤ length file → EndsAt file bodies end → Closed file bodies
closed_at file end bodies long ends =
    let here : drop end file ≡ get_or file end 0 ∷ drop (end + 1) file = drop_more file end 0 ends.leads.inside in
    record {
      gate = get_or file end 0;
      tail = drop (end + 1) file;
      shut = shut_byte (get_or file end 0) (drop (end + 1) file) (ap gate_of (sym here) ∙ sym (at_long file end long) ∙ ends.shut);
      is = split_at file end bodies ends.leads ∙ ap (λ (l : List ℕ). spelled 1 bodies ++ l) here;
    }

pub ends_records : (file : List ℕ) (end : ℕ) (bodies : List Body) → 2 ≤ length file → EndsAt file bodies end → records file ≡ Some bodies
ends_records file end bodies long ends =
    let closed = closed_at file end bodies long ends in
    ap records closed.is ∙ stands_none bodies (spelled 1 bodies ++ closed.gate ∷ closed.tail) (stands bodies [] [] closed.gate closed.tail refl ends.leads.all tt closed.shut)

-- a gate outside the format leaves no list
within_none : (bodies : List Body) (m n : ℕ) (rest : List ℕ) → m ≡ length bodies + suc n → AllByRecursion IsBody bodies → 1 ≤ length rest → gate_of rest ≡ NoGate → bodies_within m (spelled 1 bodies ++ rest) ≡ None
within_none [] zero n rest fuel all next is = absurd (omega arith)
within_none [] (suc m) n rest fuel all next is = ap (bodies_from (λ r. bodies_within m r)) is
within_none (body ∷ bodies) zero n rest fuel all next is = absurd (omega arith)
within_none (body ∷ bodies) (suc m) n rest fuel all next is =
    ap (λ (r : List ℕ). bodies_within (suc m) (1 ∷ r)) (append_assoc (framed body) (spelled 1 bodies) rest)
    ∙ within_open m body (spelled 1 bodies ++ rest) all.0 (omega (arith, length-append (spelled 1 bodies) rest))
    ∙ ap (option_map (λ bs. body ∷ bs)) (within_none bodies m n rest (omega (arith, fuel)) all.1 next is)

pub outside_none : (file : List ℕ) (offset : ℕ) → 2 ≤ length file → IsOutside file offset → records file ≡ None
outside_none file offset long outside =
    let bodies = outside.bodies in
    let split = split_at file offset bodies outside.leads in
    let some : 1 ≤ length (drop offset file) = omega (arith, length-drop offset file, outside.leads.inside) in
    let turns : length file ≡ length bodies + suc (length file - suc (length bodies)) = omega (arith, length-spelled 1 bodies, leads_place file offset bodies outside.leads, outside.leads.inside) in
    records_in file long ∙ ap (bodies_within (length file)) split
    ∙ within_none bodies (length file) (length file - suc (length bodies)) (drop offset file) turns outside.leads.all some (sym (at_long file offset long) ∙ outside.here)
