-- What is kept of the bytes that have come.
use Rattle.std.proofs.Common.{◌≡◌, ◌⊎◌, inl, inr, ℕ, ◌+◌, ◌-◌, ◌^◌, ◌<◌, ◌≤◌, Bool, true, false, List, [], ◌∷◌, ◌++◌, length, take, refl, sym, ap, subst, arith, length-append}
use Rattle.std.specs.List.{AllByRecursion}
use Rattle.std.proofs.lemmas.List.{length-take}
use Rattle.wire_defs.specs.Frames.{Frame, IsFrame, BeginsFrame, spelled_frame, stream}
use Rattle.repl_wire.specs.Feeds.{Takes, Refuses}
use Rattle.receiver_server.specs.Incomings.{IsLeft, IsInbox}
use Rattle.receiver_server.proofs.Steps.{begins_empty}

-- the first frame that waits is taken

left_first : (f : Frame) (fs : List Frame) (rest : List ℕ) (fresh count after : ℕ) (bad : Bool) → after ≡ count - length (spelled_frame f) → IsLeft bad (f ∷ fs) rest fresh count → IsLeft bad fs rest fresh after
left_first f fs rest fresh count after true is l = tt
left_first f fs rest fresh count after false is l = let size = length-append (spelled_frame f) (stream fs) in (omega (arith, is, l.0, size), l.1)

idle_first : (f : Frame) (fs : List Frame) (fresh : ℕ) → (fresh ≡ 0) ⊎ (f ∷ fs ≡ []) → (fresh ≡ 0) ⊎ (fs ≡ [])
idle_first f fs fresh (inl zero) = inl zero
idle_first f fs fresh (inr none) = let no : ⊥ = cc in absurd no

pub taken_first : (f : Frame) (fs : List Frame) (rest : List ℕ) (bad : Bool) (fresh : ℕ) (piece : List ℕ) (count after : ℕ) → IsInbox (f ∷ fs) rest bad fresh piece count → after ≡ count - length (spelled_frame f) → IsInbox fs rest bad fresh piece after
taken_first f fs rest bad fresh piece count after i is = record {
  form = i.form.1;
  room = i.room;
  most = i.most;
  inside = i.inside;
  idle = idle_first f fs fresh i.idle;
  left = left_first f fs rest fresh count after bad is i.left;
}

pub begins_inbox : (waiting : List Frame) (rest piece : List ℕ) → waiting ≡ [] → rest ≡ [] → length piece ≡ 4096 → IsInbox waiting rest false 0 piece 0
begins_inbox waiting rest piece none nothing size =
    subst (λ (l : List Frame). IsInbox l rest false 0 piece 0) (sym none) (subst (λ (l : List ℕ). IsInbox [] l false 0 piece 0) (sym nothing)
    (record { form = tt; room = omega (arith, size); most = omega (arith, size); inside = omega arith; idle = inl refl; left = (omega arith, begins_empty) }))

-- the bytes received are read

module _ (rest : List ℕ) (fresh : ℕ) (piece : List ℕ) (count : ℕ) (i : IsInbox [] rest false fresh piece count) where
  pub read_inbox : (offset at : ℕ) (behind : List ℕ) (list : List Frame) → Takes offset (rest ++ take fresh piece) [] list at behind → BeginsFrame behind → IsInbox list behind false 0 piece count
  read_inbox offset at behind list t begins =
      let same : t.frames ≡ list = sym t.added in
      let got = length-append rest (take fresh piece) in
      let taken = length-take fresh piece in
      let whole : length (rest ++ take fresh piece) ≡ length (stream t.frames ++ behind) = ap length t.are.whole in
      let parts = length-append (stream t.frames) behind in
      let sized : count ≡ length (stream t.frames) + length behind + 0 = omega (arith, got, taken, whole, parts, i.left.0, i.inside) in
      record {
        form = subst (λ (l : List Frame). AllByRecursion IsFrame l) same t.are.each;
        room = i.room;
        most = i.most;
        inside = omega arith;
        idle = inl refl;
        left = (subst (λ (l : List Frame). count ≡ length (stream l) + length behind + 0) same sized, begins);
      }

  pub bad_inbox : (offset at : ℕ) (list : List Frame) → Refuses offset (rest ++ take fresh piece) [] list at → IsInbox list rest true 0 piece count
  bad_inbox offset at list r =
      let same : r.takes.frames ≡ list = sym r.takes.added in
      record {
        form = subst (λ (l : List Frame). AllByRecursion IsFrame l) same r.takes.are.each;
        room = i.room;
        most = i.most;
        inside = omega arith;
        idle = inl refl;
        left = tt;
      }

-- a frame that isn't whole has few bytes
pub begins_few : (rest : List ℕ) → BeginsFrame rest → length rest ≤ 1048580
begins_few rest b =
    let size = length-append rest (b.1 ∷ b.2) in
    let same : length (spelled_frame b.0) ≡ length (rest ++ b.1 ∷ b.2) = ap length b.4 in
    let short = b.3.short in
    omega (arith, size, same, short)

-- how many bytes are left where no frame waits and none is unread
pub few_left : (rest piece : List ℕ) (waiting : List Frame) (bad : Bool) (fresh count : ℕ) → bad ≡ false → waiting ≡ [] → fresh ≡ 0 → IsInbox waiting rest bad fresh piece count → (count ≤ 1048580) × (length piece < 2 ^ 32)
few_left rest piece waiting bad fresh count good none zero i =
    let l : (count ≡ length (stream []) + length rest + fresh) × BeginsFrame rest = subst (λ (b : Bool). IsLeft b [] rest fresh count) good (subst (λ (w : List Frame). IsLeft bad w rest fresh count) none i.left) in
    let few = begins_few rest l.1 in
    (omega (arith, l.0, few, zero), i.most)

pub begins_left : (bad : Bool) (waiting : List Frame) (rest : List ℕ) (fresh count : ℕ) → bad ≡ false → IsLeft bad waiting rest fresh count → BeginsFrame rest
begins_left bad waiting rest fresh count good left =
    let l : (count ≡ length (stream waiting) + length rest + fresh) × BeginsFrame rest = subst (λ (b : Bool). IsLeft b waiting rest fresh count) good left in
    l.1
