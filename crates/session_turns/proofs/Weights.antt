-- How much is left of a connection: it falls with each turn behind which the connection goes on.
use Rattle.std.proofs.Common.{◌≡◌, ◌⊎◌, inl, inr, ℕ, ◌+◌, ◌*◌, ◌-◌, ◌^◌, ◌<◌, ◌≤◌, ◌==◌, Bool, true, false, IsTrue, List, [], ◌∷◌, ◌++◌, length, refl, ap, ◌∙◌, arith, length-append, if◌then◌else◌}
use Rattle.global_defs.specs.declared.limits.TheConstants.{NUMBERS_END}
use Rattle.global_defs.specs.Entry.{Reign}
use Rattle.wire_defs.specs.Frames.{Frame, Hello, Resume, RollbackFirst, History, Entry, Bye, IsFrame}
use Rattle.wire_defs.specs.Links.{Sending, Receiving, KnowAll}
use Rattle.ship_defs.specs.Hearing as ship
use Rattle.ship_defs.specs.Hearing.{Purpose, Heard, Last, Fits, IsUnbegun, IsBetween, IsUnder, behind_resume, entered, with_entry, with_reign}
use Rattle.receiver_server.specs.Incomings.{Incoming}
use Rattle.receiver_server.specs.Listenings.{Listening, HasHeard}
use Rattle.receiver_server.proofs.Kept.{begins_few}
use Rattle.receiver_server.proofs.Pulled.{unheard_is}
use Rattle.session_turns.specs.Progress.{HasReceived, HasMoved, IsStill, HasSentOn}
use Rattle.session_turns.proofs.Walk.{entered_shipped}

-- how many frames may come before the next entry's
abbrev stage : Last → ℕ
stage ship.Unbegun = 4
stage ship.Resumed = 2
stage (ship.Reigning r) = 1
stage ship.Shipped = 2
stage ship.Over = 0

-- how many frames may still be heard, at most
abbrev to_hear : Heard → ℕ
to_hear h = 3 * (NUMBERS_END - h.count) + stage h.last

at_first : (l : Last) → IsUnbegun l → stage l ≡ 4
at_first ship.Unbegun u = refl
at_first ship.Resumed u = absurd u
at_first (ship.Reigning r) u = absurd u
at_first ship.Shipped u = absurd u
at_first ship.Over u = absurd u

at_between : (l : Last) → IsBetween l → stage l ≡ 2
at_between ship.Unbegun u = absurd u
at_between ship.Resumed u = refl
at_between (ship.Reigning r) u = absurd u
at_between ship.Shipped u = refl
at_between ship.Over u = absurd u

at_under : (l : Last) → IsUnder l → 1 ≤ stage l
at_under ship.Unbegun u = absurd u
at_under ship.Resumed u = absurd u
at_under (ship.Reigning r) u = omega arith
at_under ship.Shipped u = omega arith
at_under ship.Over u = absurd u

at_resume : (p : Purpose) → stage (behind_resume p) ≤ 2
at_resume ship.Asks = omega arith
at_resume ship.Ships = omega arith

one_more : (h : Heard) (r : Reign) (b : Bool) → (if b then with_reign h r else with_entry h).count ≡ h.count + 1
one_more h r true = refl
one_more h r false = refl

entered_more : (h : Heard) (l : Last) → (entered h l).count ≡ h.count + 1
entered_more h ship.Unbegun = refl
entered_more h ship.Resumed = refl
entered_more h (ship.Reigning r) = one_more h r (r.start == h.count + 1)
entered_more h ship.Shipped = refl
entered_more h ship.Over = refl

-- another frame than an entry's
other_less : (h now : Heard) (l : Last) → now ≡ record h { last = l } → stage l < stage h.last → to_hear now < to_hear h
other_less h now l is less =
    let same : to_hear now ≡ 3 * (NUMBERS_END - h.count) + stage l = ap to_hear is in
    omega (arith, same, less)

heard_less : (p : Purpose) (h now : Heard) (f : Frame) → IsFrame f → Fits p h f now → to_hear now < to_hear h
heard_less p h now (Hello version name history) form x = absurd x
heard_less p h now (Resume n) form x = other_less h now (behind_resume p) x.2 (let first = at_first h.last x.0 in let most = at_resume p in omega (arith, first, most))
heard_less p h now (RollbackFirst n) form x = other_less h now ship.Over x.3 (let first = at_first h.last x.0 in omega (arith, first))
heard_less p h now (History r) form x = other_less h now (ship.Reigning r) x.2 (let between = at_between h.last x.0 in omega (arith, between))
heard_less p h now (Entry n t) form x =
    let count : now.count ≡ h.count + 1 = ap (λ (y : Heard). y.count) x.2 ∙ entered_more h h.last in
    let last : stage now.last ≡ 2 = ap (λ (y : Heard). stage y.last) x.2 ∙ ap stage (entered_shipped h h.last) in
    let under = at_under h.last x.0 in
    let number : n < NUMBERS_END = form.fields.0.1 in
    let is : n ≡ h.count + 1 = x.1 in
    omega (arith, count, last, under, number, is)
heard_less p h now (Bye n) form x = other_less h now ship.Over x.2 (let between = at_between h.last x.0 in omega (arith, between))

-- how many bytes may still come before a frame is whole, at most, where none waits
abbrev to_come : List Frame → Bool → ℕ → ℕ
to_come [] false rest = 1 + (2 ^ 21 - rest)
to_come [] true rest = 0
to_come (f ∷ fs) bad rest = 0

come_most : (fs : List Frame) (bad : Bool) (rest : ℕ) → to_come fs bad rest ≤ 1 + 2 ^ 21
come_most [] false rest = omega arith
come_most [] true rest = omega arith
come_most (f ∷ fs) bad rest = omega arith

abbrev come_of : Incoming → ℕ
come_of i = to_come i.waiting i.bad (length i.reading.rest)

-- how much a Receiver Server may still do, at most
abbrev pub to_do : Listening → ℕ
to_do l = to_hear l.heard * 2 ^ 22 + come_of l.incoming

fewer_come : (fs : List Frame) (bad : Bool) (before after : ℕ) → (fs ≡ [] → bad ≡ false → (before < after) × (after ≤ 1048580)) → to_come fs bad after < 1 + (2 ^ 21 - before)
fewer_come [] false before after h = let x = h refl refl in let more = x.0 in let most = x.1 in omega (arith, more, most)
fewer_come [] true before after h = omega arith
fewer_come (f ∷ fs) bad before after h = omega arith

received_less : (a b : Listening) → a.incoming.fresh ≡ [] → HasReceived a b → to_do b < to_do a
received_less a b empty h =
    let heard : to_hear b.heard ≡ to_hear a.heard = ap (λ (l : Listening). to_hear l.heard) h.got.after in
    let before : come_of a.incoming ≡ 1 + (2 ^ 21 - length a.incoming.reading.rest)
    = ap (λ (w : List Frame). to_come w a.incoming.bad (length a.incoming.reading.rest)) h.got.frames ∙ ap (λ (x : Bool). to_come [] x (length a.incoming.reading.rest)) h.got.good in
    let after = fewer_come b.incoming.waiting b.incoming.bad (length a.incoming.reading.rest) (length b.incoming.reading.rest)
    (λ none good. (
      let was = unheard_is a.incoming h.got.frames h.got.good in
          let is = unheard_is b.incoming none good in
          let fresh : length a.incoming.fresh ≡ 0 = ap (λ (l : List ℕ). length l) empty in
          let now_fresh : length b.incoming.fresh ≡ 0 = ap (λ (l : List ℕ). length l) h.read in
          let more = h.more empty good in
          omega (arith, was, is, fresh, now_fresh, more),
      begins_few b.incoming.reading.rest (h.begins good),
    )) in
    omega (arith, heard, before, after)

heard_one_less : (a b : Listening) (f : Frame) → HasHeard f a b → to_do b < to_do a
heard_one_less a b f h =
    let less = heard_less a.purpose a.heard b.heard f h.form h.fits in
    let most = come_most b.incoming.waiting b.incoming.bad (length b.incoming.reading.rest) in
    omega (arith, less, most)

pub moved_less : (a b : Listening) (r s : Receiving) → a.incoming.fresh ≡ [] → HasMoved a b r s → to_do b < to_do a
moved_less a b r s empty h = elim h.moved [
  | inl received ↦ received_less a b empty received
  | inr heard ↦ heard_one_less a b heard.0 heard.1
]

-- all bytes that have come are read
pub read_again : (a b : Listening) (r s : Receiving) → a.incoming.fresh ≡ [] → HasMoved a b r s ⊎ IsStill a b r s → b.incoming.fresh ≡ []
read_again a b r s empty (inl h) = elim h.moved [
  | inl received ↦ received.read
  | inr heard ↦ ap (λ (l : Listening). l.incoming.fresh) heard.1.after ∙ empty
]
read_again a b r s empty (inr h) = ap (λ (l : Listening). l.incoming.fresh) h.same ∙ empty

-- whether an end knows nothing that has come
abbrev unknown : List ℕ → Bool → ℕ
unknown [] false = 1
unknown [] true = 0
unknown (b ∷ bytes) ended = 0

known_most : (bytes : List ℕ) (ended : Bool) → unknown bytes ended ≤ 1
known_most [] false = omega arith
known_most [] true = omega arith
known_most (b ∷ bytes) ended = omega arith

known_some : (bytes : List ℕ) (ended : Bool) → (0 < length bytes) ⊎ IsTrue ended → unknown bytes ended ≡ 0
known_some [] false (inl some) = absurd (omega (arith, some))
known_some [] false (inr end_) = absurd (cc)
known_some [] true h = refl
known_some (b ∷ bytes) ended h = refl

-- what is left of a connection: what the secondary may still hear, and how long nothing may come
abbrev pub left_over : (told : Bool) → Listening → Receiving → ℕ
left_over told l r = 2 * to_do l + (if told then unknown r.unread r.ended else r.patience)

module _ (a b : Listening) (x y : Sending) (r s : Receiving) (empty : a.incoming.fresh ≡ []) where
  pub untold_less : r.told ≡ false → HasMoved a b r s ⊎ IsStill a b r s → left_over false b s < left_over false a r
  untold_less untold (inl h) =
      let less = moved_less a b r s empty h in
      let cost = h.patience untold empty in
      omega (arith, less, cost)
  untold_less untold (inr h) =
      let same : to_do b ≡ to_do a = ap to_do h.same in
      let cost = h.patience untold empty in
      omega (arith, same, cost)

  moved_told : HasMoved a b r s → left_over true b s < left_over true a r
  moved_told h =
      let less = moved_less a b r s empty h in
      let most = known_most s.unread s.ended in
      omega (arith, less, most)

  -- what was sent is known to have come
  comes : KnowAll x r → KnowAll y s → r.unread ≡ [] → s.received ≡ r.received → HasSentOn x y → (0 < length s.unread) ⊎ IsTrue s.ended
  comes before after none same (inl more) =
      let was : length (r.received ++ r.unread) ≡ length x.sent = ap length before.unread in
      let is : length (s.received ++ s.unread) ≡ length y.sent = ap length after.unread in
      let nothing : length r.unread ≡ 0 = ap (λ (l : List ℕ). length l) none in
      let received : length s.received ≡ length r.received = ap (λ (l : List ℕ). length l) same in
      let parts = length-append r.received r.unread in
      let now_parts = length-append s.received s.unread in
      inl (omega (arith, more, was, is, nothing, received, parts, now_parts))
  comes before after none same (inr over) = inr (after.ended ∙ over.1)

  pub told_less : IsTrue r.told → IsTrue r.shown → KnowAll x r → KnowAll y s → HasMoved a b r s ⊎ IsStill a b r s → HasMoved a b r s ⊎ HasSentOn x y → left_over true b s < left_over true a r
  told_less told shown before after (inl h) sent = moved_told h
  told_less told shown before after (inr h) (inl moved) = moved_told moved
  told_less told shown before after (inr h) (inr sent) =
      let nothing = h.nothing told in
      let was : unknown r.unread r.ended ≡ 1 = ap (λ (l : List ℕ). unknown l r.ended) nothing.0 ∙ ap (λ (e : Bool). unknown [] e) nothing.1 in
      let is = known_some s.unread s.ended (comes before after nothing.0 (h.received shown) sent) in
      let same : to_do b ≡ to_do a = ap to_do h.same in
      omega (arith, was, is, same)

-- the same whether bytes are told or not
pub turn_less : (told : Bool) (a b : Listening) (x y : Sending) (r s : Receiving) → a.incoming.fresh ≡ [] → r.told ≡ told → HasMoved a b r s ⊎ IsStill a b r s
    → (IsTrue told → IsTrue r.shown × KnowAll x r × KnowAll y s × (HasMoved a b r s ⊎ HasSentOn x y)) → left_over told b s < left_over told a r
turn_less true a b x y r s empty is h sent = let t = sent refl in told_less a b x y r s empty is t.0 t.1 t.2 h t.3
turn_less false a b x y r s empty is h sent = untold_less a b x y r s empty is h
