-- What the calls of a gated file make of it.
use Rattle.std.proofs.Common.{◌≡◌, ◌≢◌, ℕ, zero, suc, ◌+◌, ◌≤◌, Bool, List, [], ◌∷◌, ◌++◌, length, take, drop, Some, IfSome, true, refl, sym, ◌∙◌, ap, subst, arith, append_assoc}
use Rattle.std.proofs.lemmas.List.{append-nil}
use Rattle.std.specs.List.{AllByRecursion}
use Rattle.disk_defs.specs.Disk.{Files, View, Image, RoomUsed}
use Rattle.disk_defs.specs.Frames.{OnlyOn}
use Rattle.disk_defs.proofs.Told.{weaker_told}
use Rattle.disk_defs.specs.Gates.{Body, spelled, IsBody, records, Stands}
use Rattle.disk_defs.proofs.Texts.{stands}
use Rattle.gated_file.specs.State.{State, shut, ones, text_with, text, IsImage, place, places, synced}
use Rattle.gated_file.specs.Gated.{Holds, IsReady}
use Rattle.gated_file.specs.declared.gated.Gated.{Gated}
use Rattle.gated_file.proofs.Pieces.{length-text_with, length-ones, length-shut, shut_first, spelled-append, spelled_with-ones}

pub room_step : (v w : View) (file n : ℕ) (calls bytes fewer_calls fewer_bytes : ℕ) → RoomUsed file n v w → v.has_room file calls bytes → calls ≡ fewer_calls + 1 → bytes ≡ fewer_bytes + n → w.has_room file fewer_calls fewer_bytes
room_step v w file n calls bytes fewer_calls fewer_bytes used room calls_is bytes_is =
    used.used fewer_calls fewer_bytes (subst (λ (k : ℕ). v.has_room file k (fewer_bytes + n)) calls_is (subst (λ (k : ℕ). v.has_room file calls k) bytes_is room))

-- what makes a state stand for its records
pub record IsSound (s : State) (gate : ℕ) : Type 0 where
  pub shut : gate ≢ 1
  pub hard : AllByRecursion IsBody s.hard
  pub opening : AllByRecursion IsBody s.opening

pub image_stands : (s : State) (gate : ℕ) (tail : List ℕ) (is_synced : Bool) (bytes : List ℕ) → IsSound s gate → IsImage s gate tail is_synced bytes → Stands s.hard s.opening bytes
image_stands s gate tail is_synced bytes h im = subst (Stands s.hard s.opening) (sym im.is) (stands s.hard im.gates s.opening gate im.rest im.same h.hard h.opening h.shut)

pub all_append : (xs ys : List Body) → AllByRecursion IsBody xs → AllByRecursion IsBody ys → AllByRecursion IsBody (xs ++ ys)
all_append [] ys all more = more
all_append (x ∷ xs) ys all more = (all.0, all_append xs ys all.1 more)

pub stands_none : (xs : List Body) (bytes : List ℕ) → Stands xs [] bytes → records bytes ≡ Some xs
stands_none xs bytes h = nothing h.0 h.1 h.2
  where
    nothing : (n : ℕ) → n ≤ 0 → records bytes ≡ Some (xs ++ take n []) → records bytes ≡ Some xs
    nothing zero le is = is ∙ ap Some (append-nil xs)
    nothing (suc n) le is = absurd (omega arith)

-- with all its opened gates open, the file has all of them for sure
pub text_synced : (s : State) (gate : ℕ) (tail : List ℕ) → text s gate tail ≡ text (synced s) gate tail
text_synced s gate tail =
    let rest = shut gate s.closed tail in
    ap (λ (l : List ℕ). spelled 1 s.hard ++ (l ++ rest)) (spelled_with-ones s.opening)
    ∙ sym (append_assoc (spelled 1 s.hard) (spelled 1 s.opening) rest)
    ∙ ap (λ (l : List ℕ). l ++ rest) (sym (spelled-append 1 s.hard s.opening))

-- the file as it reads is an image in which all is settled
pub text_image : (s : State) (gate : ℕ) (tail : List ℕ) (is_synced : Bool) (bytes : List ℕ) → bytes ≡ text s gate tail → IsImage s gate tail is_synced bytes
text_image s gate tail is_synced bytes reads = record {
  gates = ones s.opening;
  rest = drop 1 (shut gate s.closed tail);
  same = length-ones s.opening;
  is = reads ∙ ap (text_with s.hard (ones s.opening) s.opening) (shut_first gate s.closed tail);
  settled = λ is. sym (shut_first gate s.closed tail);
}

pub text_reads : (s : State) (gate : ℕ) (tail bytes : List ℕ) → IsSound s gate → bytes ≡ text s gate tail → records bytes ≡ Some (s.hard ++ s.opening)
text_reads s gate tail bytes h reads =
    stands_none (s.hard ++ s.opening) bytes (image_stands (synced s) gate tail true bytes (record { shut = h.shut; hard = all_append s.hard s.opening h.hard h.opening; opening = tt })
    (text_image (synced s) gate tail true bytes (reads ∙ text_synced s gate tail)))

-- an image in which this file has P, and the others are as in an image from before the call
pub only_from : (v : View) (file : ℕ) (P : List ℕ → Type 0) (d c : Files) → Image v d → P (c file) → ((f : ℕ) → f ≢ file → c f ≡ d f) → OnlyOn v file P c
only_from v file P d c was here others = record { here = here; others = (d, was, λ f out. others f out) }

pub only_now : (v : View) (file : ℕ) (P : List ℕ → Type 0) (c : Files) → Image v c → P (c file) → OnlyOn v file P c
only_now v file P c now here = only_from v file P c c now here (λ f ne. refl)

pub here_stands : (v : View) (g : Gated) (s : State) (files c : Files) → Holds v g s files → Image v c → OnlyOn v g.file (Stands s.hard s.opening) c
here_stands v g s files c h now = only_now v g.file (Stands s.hard s.opening) c now (h.stands c now)

-- a file from its bytes alone
pub holds_by : (v : View) (g : Gated) (s : State) (files : Files) (gate : ℕ) (tail : List ℕ) → gate ≢ 1 → files g.file ≡ text s gate tail → ((c : Files) → Image v c → IsImage s gate tail g.synced (c g.file))
    → AllByRecursion IsBody s.hard → AllByRecursion IsBody s.opening → AllByRecursion IsBody s.closed → g.end ≡ place s + length (spelled 1 s.closed) → g.closed.items ≡ places (place s) s.closed → Holds v g s files
holds_by v g s files gate tail is_shut reads images hard opening closed end_is places_are =
    let sound : IsSound s gate = record { shut = is_shut; hard = hard; opening = opening } in
    record {
      reads = text_reads s gate tail (files g.file) sound reads;
      stands = λ c now. image_stands s gate tail g.synced (c g.file) sound (images c now);
      gate = gate;
      tail = tail;
      shut = is_shut;
      text = reads;
      images = images;
      hard = hard;
      opening = opening;
      closed = closed;
      end = end_is;
      places = places_are;
    }

-- the last closed gate lies in the file
pub inside : (v : View) (g : Gated) → IsReady v g → IfSome v.content (λ files. g.end + 1 ≤ length (files g.file))
inside v g ready = weaker_told v.content (λ files. (s : State) × Holds v g s files) (λ files. g.end + 1 ≤ length (files g.file)) ready.state (λ files has.
    let s = has.0 in
    let h = has.1 in
    omega (arith, h.end, ap length h.text, length-text_with s.hard (ones s.opening) s.opening (shut h.gate s.closed h.tail) (length-ones s.opening), length-shut h.gate s.closed h.tail))
