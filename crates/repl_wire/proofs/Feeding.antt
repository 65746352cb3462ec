-- Frames one after another, and how bytes end.
use Rattle.std.proofs.Common.{◌≡◌, ℕ, ◌+◌, ◌-◌, ◌^◌, ◌<◌, min, List, [], ◌∷◌, ◌++◌, length, take, refl, sym, ap, ◌∙◌, subst, arith, append_assoc, append-nil, length-append, inl, inr}
use Rattle.std.specs.Prelude.{◌⊎◌}
use Rattle.std.specs.List.{AllByRecursion}
use Rattle.std.proofs.Math.Seq.{take-append_seam}
use Rattle.global_defs.specs.Prefix.{IsPrefix}
use Rattle.wire_defs.specs.Frames.{Frame, IsFrame, BeginsFrame, BeginsNone, spelled_frame, stream}
use Rattle.repl_wire.specs.declared.field.Part.TheVariants.{Whole}
use Rattle.repl_wire.specs.declared.field.Scan.{Scan}
use Rattle.repl_wire.specs.Layout.{Framed}
use Rattle.repl_wire.specs.Scans.{Awaits, Completing}
use Rattle.repl_wire.specs.declared.frame.FrameError.{FrameError}
use Rattle.repl_wire.specs.declared.frame.FrameError.TheVariants.{BadFrame, NoMemory}
use Rattle.repl_wire.specs.Feeds.{Takes, Refuses, Fails, IsSpelled, IsWithin, Runs}
use Rattle.repl_wire.specs.declared.run.Ran.TheVariants as ran
use Rattle.repl_wire.proofs.Forms.{framed_from, framed_to}
use Rattle.repl_wire.proofs.Witness.{some_completion}
use Rattle.repl_wire.proofs.Apart.{Splits, split, frame_one}
use Rattle.repl_wire.proofs.Runs.{not_done, done}

-- lists of frames

pub stream_more : (fs gs : List Frame) → stream (fs ++ gs) ≡ stream fs ++ stream gs
stream_more [] gs = refl
stream_more (f ∷ fs) gs = ap (λ (l : List ℕ). spelled_frame f ++ l) (stream_more fs gs) ∙ sym (append_assoc (spelled_frame f) (stream fs) (stream gs))

pub all_more : (fs gs : List Frame) → AllByRecursion IsFrame fs → AllByRecursion IsFrame gs → AllByRecursion IsFrame (fs ++ gs)
all_more [] gs a b = b
all_more (f ∷ fs) gs a b = (a.0, all_more fs gs a.1 b)

pub takes_none : (offset : ℕ) (bytes : List ℕ) (before : List Frame) → offset < 2 ^ 64 → Takes offset bytes before before offset bytes
takes_none offset bytes before small = record {
  frames = [];
  are = record { whole = refl; each = tt };
  added = sym (append-nil before);
  at_is = omega arith;
}

-- one frame more
pub takes_one : (offset : ℕ) (bytes : List ℕ) (before after : List Frame) (at : ℕ) (rest : List ℕ) (f : Frame) (front back : List ℕ) (later : List Frame) (at_later : ℕ)
    → Takes offset bytes before after at rest → IsFrame f → spelled_frame f ≡ front → rest ≡ front ++ back → later ≡ after ++ f ∷ [] → at_later ≡ min (at + length front) (2 ^ 64 - 1)
    → Takes offset bytes before later at_later back
takes_one offset bytes before after at rest f front back later at_later t form spelled cut push told = record {
  frames = t.frames ++ f ∷ [];
  are = record {
    whole = t.are.whole ∙ ap (λ (l : List ℕ). stream t.frames ++ l) (cut ∙ ap (λ (l : List ℕ). l ++ back) (sym spelled ∙ sym (append-nil (spelled_frame f))))
        ∙ sym (append_assoc (stream t.frames) (spelled_frame f ++ []) back) ∙ ap (λ (l : List ℕ). l ++ back) (sym (stream_more t.frames (f ∷ [])));
    each = all_more t.frames (f ∷ []) t.are.each (form, tt);
  };
  added = push ∙ ap (λ (l : List Frame). l ++ f ∷ []) t.added ∙ append_assoc before t.frames (f ∷ []);
  at_is =
      let size = ap length (stream_more t.frames (f ∷ [])) ∙ length-append (stream t.frames) (spelled_frame f ++ []) in
      let one = length-append (spelled_frame f) [] in
      let same = ap length spelled in
      let first = t.at_is in
      omega arith;
}

-- more frames behind some
pub takes_more : (offset : ℕ) (bytes : List ℕ) (before after : List Frame) (at : ℕ) (rest : List ℕ) (later : List Frame) (at_later : ℕ) (back : List ℕ)
    → Takes offset bytes before after at rest → Takes at rest after later at_later back → Takes offset bytes before later at_later back
takes_more offset bytes before after at rest later at_later back t u = record {
  frames = t.frames ++ u.frames;
  are = record {
    whole = t.are.whole ∙ ap (λ (l : List ℕ). stream t.frames ++ l) u.are.whole ∙ sym (append_assoc (stream t.frames) (stream u.frames) back) ∙ ap (λ (l : List ℕ). l ++ back) (sym (stream_more t.frames u.frames));
    each = all_more t.frames u.frames t.are.each u.are.each;
  };
  added = u.added ∙ ap (λ (l : List Frame). l ++ u.frames) t.added ∙ append_assoc before t.frames u.frames;
  at_is =
      let size = ap length (stream_more t.frames u.frames) ∙ length-append (stream t.frames) (stream u.frames) in
      let first = t.at_is in
      let second = u.at_is in
      omega arith;
}

pub refuses_more : (offset : ℕ) (bytes : List ℕ) (before after : List Frame) (at : ℕ) (rest : List ℕ) (later : List Frame) (at_later : ℕ)
    → Takes offset bytes before after at rest → Refuses at rest after later at_later → Refuses offset bytes before later at_later
refuses_more offset bytes before after at rest later at_later t r = record { rest = r.rest; takes = takes_more offset bytes before after at rest later at_later r.rest t r.takes; none = r.none }

pub prefix_more : {X : Type 0} (before after later : List X) → IsPrefix before after → IsPrefix after later → IsPrefix before later
prefix_more {X} before after later p q = (p.0 ++ q.0, q.1 ∙ ap (λ (l : List X). l ++ q.0) p.1 ∙ append_assoc before p.0 q.0)

pub prefix_same : (before : List Frame) → IsPrefix before before
prefix_same before = ([], sym (append-nil before))

pub takes_prefix : (offset : ℕ) (bytes : List ℕ) (before after : List Frame) (at : ℕ) (rest : List ℕ) → Takes offset bytes before after at rest → IsPrefix before after
takes_prefix offset bytes before after at rest t = (t.frames, t.added)

pub takes_kept : (offset : ℕ) (bytes : List ℕ) (before after : List Frame) (at : ℕ) (rest : List ℕ) (at_too : ℕ) (rest_too : List ℕ) → Takes offset bytes before after at rest → at_too ≡ at → rest_too ≡ rest → Takes offset bytes before after at_too rest_too
takes_kept offset bytes before after at rest at_too rest_too t e f = record { frames = t.frames; are = record { whole = t.are.whole ∙ ap (λ (l : List ℕ). stream t.frames ++ l) (sym f); each = t.are.each }; added = t.added; at_is = e ∙ t.at_is }

pub fails_more : (e : FrameError) (offset : ℕ) (bytes : List ℕ) (before after : List Frame) (at : ℕ) (rest : List ℕ) (later : List Frame) → Takes offset bytes before after at rest → Fails e at rest after later → Fails e offset bytes before later
fails_more (BadFrame told) offset bytes before after at rest later t f = refuses_more offset bytes before after at rest later told t f
fails_more NoMemory offset bytes before after at rest later t f = prefix_more before after later (takes_prefix offset bytes before after at rest t) f

-- the frame that the bytes kept and the first of a piece are
pub takes_first : (offset : ℕ) (kept piece front back : List ℕ) (before after : List Frame) (f : Frame) (at : ℕ) → offset < 2 ^ 64 → piece ≡ front ++ back → IsFrame f → spelled_frame f ≡ kept ++ front → after ≡ before ++ f ∷ [] → at ≡ min (offset + length (kept ++ front)) (2 ^ 64 - 1)
    → Takes offset (kept ++ piece) before after at back
takes_first offset kept piece front back before after f at small cut form spelled push told =
    takes_one offset (kept ++ piece) before before offset (kept ++ piece) f (kept ++ front) back after at (takes_none offset (kept ++ piece) before small) form spelled
    (ap (λ (l : List ℕ). kept ++ l) cut ∙ sym (append_assoc kept front back)) push told

-- a scan behind bytes of a frame

pub framed_within : (s : Scan) → Awaits s Framed → (s.part ≡ Whole → ⊥) → IsWithin s []
framed_within s a open_ = record {
  awaits = record { sound = a.sound; only = λ w h. framed_from w (a.only w h); each = λ w h. a.each w (framed_to w h) };
  open_ = open_;
}

pub fresh_open : (s : Scan) → Awaits s Framed → s.part ≡ Whole → ⊥
fresh_open s a e = a.only [] (done s e)

module _ (s : Scan) (kept : List ℕ) (within : IsWithin s kept) where
  pub moved : (a w : List ℕ) → IsSpelled ((kept ++ a) ++ w) → IsSpelled (kept ++ (a ++ w))
  moved a w h = subst IsSpelled (append_assoc kept a w) h

  pub open_within : (next : Scan) (bytes : List ℕ) → Runs (ran.Open next) (Completing s) bytes → IsWithin next (kept ++ bytes)
  open_within next bytes r = record {
    awaits = record {
      sound = r.0.sound;
      only = λ w h. subst IsSpelled (sym (append_assoc kept bytes w)) (within.awaits.only (bytes ++ w) (r.0.only w h));
      each = λ w h. r.0.each w (within.awaits.each (bytes ++ w) (moved bytes w h));
    };
    open_ = r.1;
  }

  -- a frame goes on behind the bytes kept
  pub begins : BeginsFrame kept
  begins =
      let w = some_completion s.part s.left s.items within.awaits.sound in
      by_rest w.0 w.1
    where
      by_rest : (w : List ℕ) → Completing s w → BeginsFrame kept
      by_rest [] h = absurd (not_done s within.awaits.sound within.open_ h)
      by_rest (b ∷ w) h = let f = within.awaits.only (b ∷ w) h in (f.frame, b, w, f.is_frame, f.spelled)

  pub whole_spelled : (count : ℕ) (bytes : List ℕ) → Runs (ran.Whole count) (Completing s) bytes → IsSpelled (kept ++ take count bytes)
  whole_spelled count bytes r = within.awaits.only (take count bytes) r.2

  -- no frame begins so
  pub none_begins : (bytes : List ℕ) → Runs ran.Bad (Completing s) bytes → BeginsNone (kept ++ bytes)
  none_begins bytes bad = record {
    none_goes_on = λ f more form e. bad.0 more (within.awaits.each (bytes ++ more) (record { frame = f; is_frame = form; spelled = e ∙ append_assoc kept bytes more }));
    none_stands = λ f more form e. by_split f more form (split kept bytes (spelled_frame f) more e);
  }
    where
      by_split : (f : Frame) (more : List ℕ) → IsFrame f → Splits kept bytes (spelled_frame f) more → ⊥
      by_split f more form s = elim s as (λ _. ⊥) [ inl p ↦ in_piece f more form p.0 p.1 p.2 | inr p ↦ in_kept f form p.0 p.1 ]
        where
          in_piece : (f : Frame) (more : List ℕ) → IsFrame f → (x : List ℕ) → spelled_frame f ≡ kept ++ x → bytes ≡ x ++ more → ⊥
          in_piece f more form x spelled cut =
              let size = ap length cut ∙ length-append x more in
              let front : take (length x) bytes ≡ x = ap (λ (l : List ℕ). take (length x) l) cut ∙ take-append_seam x more in
              bad.1 (length x) (omega arith) (within.awaits.each (take (length x) bytes) (record { frame = f; is_frame = form; spelled = spelled ∙ ap (λ (l : List ℕ). kept ++ l) (sym front) }))

          in_kept : (f : Frame) → IsFrame f → (x : List ℕ) → kept ≡ spelled_frame f ++ x → ⊥
          in_kept f form x cut =
              let g = begins in
              let one = frame_one f g.0 (x ++ g.1 ∷ g.2) [] form g.3
              (sym (append_assoc (spelled_frame f) x (g.1 ∷ g.2)) ∙ ap (λ (l : List ℕ). l ++ g.1 ∷ g.2) (sym cut) ∙ sym g.4 ∙ sym (append-nil (spelled_frame g.0))) in
              let none = ap length one.1 in
              omega (arith, none, length-append x (g.1 ∷ g.2))

-- what begins a frame, or none, has no frame at its front
pub not_both : (bytes : List ℕ) → BeginsFrame bytes → BeginsNone bytes → ⊥
not_both bytes b n = n.none_goes_on b.0 (b.1 ∷ b.2) b.3 b.4

stands : (f : Frame) (more bytes : List ℕ) → IsFrame f → bytes ≡ spelled_frame f ++ more → BeginsFrame bytes ⊎ BeginsNone bytes → ⊥
stands f more bytes form e x = elim x as (λ _. ⊥) [
  | inl b ↦
      let one = frame_one f b.0 (more ++ b.1 ∷ b.2) [] form b.3
      (sym (append_assoc (spelled_frame f) more (b.1 ∷ b.2)) ∙ ap (λ (l : List ℕ). l ++ b.1 ∷ b.2) (sym e) ∙ sym b.4 ∙ sym (append-nil (spelled_frame b.0))) in
      let none = ap length one.1 in
      omega (arith, none, length-append more (b.1 ∷ b.2))
  | inr n ↦ n.none_stands f more form e
]

-- two readings of one stream

pub streams_one : (fs gs : List Frame) (r s : List ℕ) → AllByRecursion IsFrame fs → AllByRecursion IsFrame gs → stream fs ++ r ≡ stream gs ++ s → BeginsFrame r ⊎ BeginsNone r → BeginsFrame s ⊎ BeginsNone s → (fs ≡ gs) × (r ≡ s)
streams_one [] [] r s a b e x y = (refl, e)
streams_one [] (g ∷ gs) r s a b e x y = absurd (stands g (stream gs ++ s) r b.0 (e ∙ append_assoc (spelled_frame g) (stream gs) s) x)
streams_one (f ∷ fs) [] r s a b e x y = absurd (stands f (stream fs ++ r) s a.0 (sym e ∙ append_assoc (spelled_frame f) (stream fs) r) y)
streams_one (f ∷ fs) (g ∷ gs) r s a b e x y =
    let one = frame_one f g (stream fs ++ r) (stream gs ++ s) a.0 b.0 (sym (append_assoc (spelled_frame f) (stream fs) r) ∙ e ∙ append_assoc (spelled_frame g) (stream gs) s) in
    let rest = streams_one fs gs r s a.1 b.1 one.1 x y in
    ((λ i. one.0 i ∷ rest.0 i), rest.1)

-- what came of a stream reads to frames that the stream begins with
pub front_one : (fs gs : List Frame) (r s : List ℕ) → AllByRecursion IsFrame fs → AllByRecursion IsFrame gs → stream fs ++ r ≡ stream gs ++ s → BeginsFrame s ⊎ BeginsNone s → IsPrefix fs gs
front_one [] gs r s a b e x = (gs, refl)
front_one (f ∷ fs) [] r s a b e x = absurd (stands f (stream fs ++ r) s a.0 (sym e ∙ append_assoc (spelled_frame f) (stream fs) r) x)
front_one (f ∷ fs) (g ∷ gs) r s a b e x =
    let one = frame_one f g (stream fs ++ r) (stream gs ++ s) a.0 b.0 (sym (append_assoc (spelled_frame f) (stream fs) r) ∙ e ∙ append_assoc (spelled_frame g) (stream gs) s) in
    let rest = front_one fs gs r s a.1 b.1 one.1 x in
    (rest.0, (λ i. sym one.0 i ∷ rest.1 i))
