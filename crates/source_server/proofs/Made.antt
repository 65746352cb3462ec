-- What a Source Server has made and sent.
use Rattle.std.proofs.Common.{◌≡◌, ℕ, ◌+◌, ◌-◌, ◌≤◌, ◌==◌, if◌then◌else◌, Bool, true, false, List, [], ◌∷◌, ◌++◌, length, refl, sym, ap, subst, ◌∙◌, arith, append_assoc, append-nil, length-append}
use Rattle.std.proofs.lemmas.Bool.Decides.{nat_tests}
use Rattle.global_defs.specs.Entry.{Reign}
use Rattle.global_defs.specs.Fields.{IsSiteName, IsReign, short}
use Rattle.std.specs.Int.{to_be_bytes, w32, w64}
use Rattle.wire_defs.specs.Frames.{Resume, History, Bye, IsFrame, spelled_frame, stream}
use Rattle.ship_defs.specs.Shipping.{reign_at, announced, entry_frame, shipped_bytes, resumed_bytes}
use Rattle.source_server.specs.Sources.{Shipping, resumed_at, made_of, HasSent, HasTaken, AllFrom, bye_if, HasShipped}

name_short : (name : List ℕ) → IsSiteName name → length name ≤ 15
name_short [] h = absurd h
name_short (b ∷ bs) h = let few = h.2 in omega (arith, few)

-- a HISTORY of its form is short enough
pub history_form : (r : Reign) → IsReign r → IsFrame (History r)
history_form r h = record {
  fields = h;
  short =
      let root = name_short r.stamp.root h.stamp.root in
      let head = length-append (short r.stamp.root ++ to_be_bytes w32 r.stamp.cycle) (to_be_bytes w64 r.start) in
      let front = length-append (short r.stamp.root) (to_be_bytes w32 r.stamp.cycle) in
      omega (arith, root, head, front);
}

-- entries one after another

pub from_push : (Is : ℕ → List ℕ → Type 0) (n : ℕ) (entries : List (List ℕ)) (entry : List ℕ) → AllFrom Is n entries → Is (n + length entries) entry → AllFrom Is n (entries ++ entry ∷ [])
from_push Is n [] entry all is = (let same : n + 0 ≡ n = omega arith in subst (λ (k : ℕ). Is k entry) same is, tt)
from_push Is n (e ∷ entries) entry all is =
    let same : n + length (e ∷ entries) ≡ n + 1 + length entries = omega arith in
    (all.0, from_push Is (n + 1) entries entry all.1 (subst (λ (k : ℕ). Is k entry) same is))

pub from_all : (Is All : ℕ → List ℕ → Type 0) (n : ℕ) (entries : List (List ℕ)) → ((k : ℕ) (entry : List ℕ) → Is k entry → All k entry) → AllFrom Is n entries → AllFrom All n entries
from_all Is All n [] to all = tt
from_all Is All n (e ∷ entries) to all = (to n e all.0, from_all Is All (n + 1) entries to all.1)

-- the bytes with one entry more
pub bytes_push : (reigns : List Reign) (first : Bool) (n : ℕ) (entries : List (List ℕ)) (entry : List ℕ)
    → shipped_bytes reigns first n (entries ++ entry ∷ [])
    ≡ shipped_bytes reigns first n entries ++ (stream (announced (if length entries == 0 then first else false) (n + length entries) (reign_at (n + length entries) reigns)) ++ entry_frame entry)
bytes_push reigns first n [] entry =
    let same : n ≡ n + 0 = omega arith in
    append-nil (stream (announced first n (reign_at n reigns)) ++ entry_frame entry)
    ∙ ap (λ (k : ℕ). stream (announced first k (reign_at k reigns)) ++ entry_frame entry) same
bytes_push reigns first n (e ∷ entries) entry =
    let same : n + 1 + length entries ≡ n + length (e ∷ entries) = omega arith in
    let later : (length (e ∷ entries) == 0) ≡ false = grind (arith, nat_tests) in
    let before = stream (announced first n (reign_at n reigns)) ++ entry_frame e in
    let more : List ℕ = stream (announced false (n + length (e ∷ entries)) (reign_at (n + length (e ∷ entries)) reigns)) ++ entry_frame entry in
    rw later (ap (λ (l : List ℕ). before ++ l) (bytes_push reigns false (n + 1) entries entry
    ∙ ap (λ (l : List ℕ). shipped_bytes reigns false (n + 1) entries ++ l) (never_first (length entries == 0) (n + 1 + length entries) entry
    ∙ ap (λ (k : ℕ). stream (announced false k (reign_at k reigns)) ++ entry_frame entry) same))
    ∙ sym (append_assoc before (shipped_bytes reigns false (n + 1) entries) more))
  where
    never_first : (b : Bool) (k : ℕ) (entry : List ℕ) → stream (announced (if b then false else false) k (reign_at k reigns)) ++ entry_frame entry ≡ stream (announced false k (reign_at k reigns)) ++ entry_frame entry
    never_first true k entry = refl
    never_first false k entry = refl

if_itself : (b : Bool) → (if b then true else false) ≡ b
if_itself true = refl
if_itself false = refl

some_left : (entries : List (List ℕ)) (entry : List ℕ) → (length (entries ++ entry ∷ []) == 0) ≡ false
some_left [] entry = refl
some_left (e ∷ entries) entry = grind (arith, nat_tests)

-- all that was made, by what it ships by
abbrev whole : ℕ → List (List ℕ) → Shipping → List ℕ
whole from entries s = resumed_bytes s.reigns from entries ++ bye_if s.ended (s.next - 1)

pub begins : (reigns : List Reign) (from : ℕ) → HasShipped (resumed_at reigns from) (spelled_frame (Resume from)) from []
begins reigns from = record { next = omega arith; first = refl; bytes = sym (append-nil (spelled_frame (Resume from) ++ [])) }

pub stays : (a b : Shipping) (sent now : List ℕ) (from : ℕ) (entries : List (List ℕ)) → HasSent a b sent now → HasShipped a sent from entries → HasShipped b now from entries
stays a b sent now from entries h s = record {
  next = ap (λ (x : Shipping). x.next) h.after ∙ s.next;
  first = ap (λ (x : Shipping). x.first) h.after ∙ s.first;
  bytes = h.bytes ∙ (s.bytes ∙ sym (ap (whole from entries) h.after));
}

-- before BYE
open_bytes : (a : Shipping) (sent : List ℕ) (from : ℕ) (entries : List (List ℕ)) → a.ended ≡ false → HasShipped a sent from entries → sent ++ a.pending ≡ resumed_bytes a.reigns from entries
open_bytes a sent from entries goes s =
    s.bytes ∙ (ap (λ (b : Bool). resumed_bytes a.reigns from entries ++ bye_if b (a.next - 1)) goes ∙ append-nil (resumed_bytes a.reigns from entries))

pub takes : (entry : List ℕ) (a b : Shipping) (sent now : List ℕ) (from : ℕ) (entries : List (List ℕ))
    → HasTaken entry a b sent now → HasShipped a sent from entries → HasShipped b now from (entries ++ entry ∷ [])
takes entry a b sent now from entries h s =
    let resume = spelled_frame (Resume from) in
    let shipped = shipped_bytes a.reigns true from entries in
    let part : Bool → ℕ → List ℕ = λ first n. stream (announced first n (reign_at n a.reigns)) ++ entry_frame entry in
    let more = part (if length entries == 0 then true else false) (from + length entries) in
    let made : made_of a entry ≡ more
    = ap (λ (x : Bool). part x a.next) (s.first ∙ sym (if_itself (length entries == 0))) ∙ ap (λ (n : ℕ). part (if length entries == 0 then true else false) n) s.next in
    let goes : b.ended ≡ false = ap (λ (x : Shipping). x.ended) h.after ∙ h.goes_on in
    let end_ : whole from (entries ++ entry ∷ []) b ≡ resume ++ (shipped ++ more)
    = ap (λ (x : Shipping). resumed_bytes x.reigns from (entries ++ entry ∷ []) ++ bye_if b.ended (b.next - 1)) h.after
    ∙ (ap (λ (x : Bool). resumed_bytes a.reigns from (entries ++ entry ∷ []) ++ bye_if x (b.next - 1)) goes
    ∙ (append-nil (resumed_bytes a.reigns from (entries ++ entry ∷ [])) ∙ ap (λ (l : List ℕ). resume ++ l) (bytes_push a.reigns true from entries entry))) in
    record {
      next = ap (λ (x : Shipping). x.next) h.after ∙ (ap (λ (n : ℕ). n + 1) s.next ∙ (let size = length-append entries (entry ∷ []) in omega (arith, size)));
      first = ap (λ (x : Shipping). x.first) h.after ∙ sym (some_left entries entry);
      bytes = h.bytes ∙ (ap (λ (l : List ℕ). l ++ made_of a entry) (open_bytes a sent from entries h.goes_on s)
          ∙ (ap (λ (l : List ℕ). (resume ++ shipped) ++ l) made ∙ (append_assoc resume shipped more ∙ sym end_)));
    }

pub ends : (a : Shipping) (sent : List ℕ) (from : ℕ) (entries : List (List ℕ)) → a.ended ≡ false → HasShipped a sent from entries
    → HasShipped (record a { ended = true; pending = a.pending ++ spelled_frame (Bye (a.next - 1)) }) sent from entries
ends a sent from entries goes s = record {
  next = s.next;
  first = s.first;
  bytes = sym (append_assoc sent a.pending (spelled_frame (Bye (a.next - 1)))) ∙ ap (λ (l : List ℕ). l ++ spelled_frame (Bye (a.next - 1))) (open_bytes a sent from entries goes s);
}

-- what a step sends
