use Rattle.std.proofs.Common.{◌≡◌, ℕ, Bool, true, false, List, [], ◌++◌, map, take, sym, ap, subst, ◌∙◌, refl}
use Rattle.wire_defs.specs.Frames as defs
use Rattle.wire_defs.specs.Frames.{Reading, BeginsFrame}
use Rattle.repl_wire.specs.Values.{frame_value}
use Rattle.repl_wire.specs.Feeds.{Takes, Refuses}
use Rattle.receiver_server.specs.Incomings.{Incoming, Reads, begins, begins_none, HasRead, IsInbox}
use Rattle.receiver_server.specs.declared.inbox.Inbox.TheInside.{Inside}
use Rattle.receiver_server.proofs.Kept.{read_inbox, bad_inbox}
use Rattle.receiver_server.proofs.inbox.Inbox.read.Goals as goal
use Rattle.receiver_server.proofs.inbox.Inbox.read.Goals.{in-Ok, in-Err-BadFrame}

pub invariant_of-self-2 : goal.invariant_of-self-2
invariant_of-self-2 c =
    let i = c.self.inside in
    let good : i.bad ≡ false = ap (λ (x : Incoming). x.bad) c.self.view_is ∙ c.requires.good in
    let none : map frame_value i.waiting.items ≡ [] = ap (λ (x : Incoming). x.waiting) c.self.view_is ∙ c.requires.empty in
    let here : IsInbox [] i.frames.rest false i.fresh i.piece.items i.left
    = subst (λ (b : Bool). IsInbox [] i.frames.rest b i.fresh i.piece.items i.left) good (subst (λ (l : List defs.Frame). IsInbox l i.frames.rest i.bad i.fresh i.piece.items i.left) none c.self.invariant) in
    let was : map frame_value i.waiting.items ≡ [] = ap (λ (x : Incoming). x.waiting) c.self.view_is ∙ c.requires.empty in
    let empty : c.of-list.result ≡ [] = c.of-list.ensures ∙ (ap (map frame_value) (c.from-items.ensures.0 ∙ ap (λ q. q.items) c.replace-heard.ensures.value) ∙ was) in
    let items : map frame_value c.from.result.items ≡ c.feed.new.out = ap (map frame_value) c.from.ensures.0 ∙ c.into_vec.ensures in
    let bytes : i.frames.rest ++ take i.fresh c.deref.result.now ≡ i.frames.rest ++ take i.fresh i.piece.items = ap (λ (l : List ℕ). i.frames.rest ++ take i.fresh l) c.deref.ensures.value in
    subst (λ (l : List defs.Frame). IsInbox l c.match-feed.self-inside.frames.rest c.match-feed.self-inside.bad 0 c.match-feed.self-inside.piece.items c.match-feed.self-inside.left) (sym items) (elim c.match-feed.branch [
      | in-Ok w ↦ (
          let t0 = subst (λ (l : List defs.Frame). Takes i.frames.offset (i.frames.rest ++ take i.fresh c.deref.result.now) l c.feed.new.out c.feed.new.self.offset c.feed.new.self.rest) empty w.in-Ok.ensures.ok in
          let t = subst (λ (l : List ℕ). Takes i.frames.offset l [] c.feed.new.out c.feed.new.self.offset c.feed.new.self.rest) bytes t0 in
          let there : IsInbox c.feed.new.out c.feed.new.self.rest false 0 i.piece.items i.left = read_inbox i.frames.rest i.fresh i.piece.items i.left here i.frames.offset c.feed.new.self.offset c.feed.new.self.rest c.feed.new.out t w.in-Ok.ensures.partial in
          let there2 : IsInbox c.feed.new.out c.feed.new.self.rest i.bad 0 i.piece.items i.left = subst (λ (b : Bool). IsInbox c.feed.new.out c.feed.new.self.rest b 0 i.piece.items i.left) (sym good) there in
          subst (λ (x : Inside). IsInbox c.feed.new.out x.frames.rest x.bad 0 x.piece.items x.left) (sym w.self-inside-is) there2)
      | in-Err-BadFrame w ↦ (
          let r0 = rw w.in-Err-BadFrame.field-0-is at w.in-Err-BadFrame.ensures.err in
          let r1 = subst (λ (l : List defs.Frame). Refuses i.frames.offset (i.frames.rest ++ take i.fresh c.deref.result.now) l c.feed.new.out w.in-Err-BadFrame.field-0-0) empty r0 in
          let r = subst (λ (l : List ℕ). Refuses i.frames.offset l [] c.feed.new.out w.in-Err-BadFrame.field-0-0) bytes r1 in
          let there : IsInbox c.feed.new.out i.frames.rest true 0 i.piece.items i.left = bad_inbox i.frames.rest i.fresh i.piece.items i.left here i.frames.offset w.in-Err-BadFrame.field-0-0 c.feed.new.out r in
          let there2 : IsInbox c.feed.new.out c.feed.new.self.rest true 0 i.piece.items i.left = subst (λ (x : Reading). IsInbox c.feed.new.out x.rest true 0 i.piece.items i.left) (sym w.in-Err-BadFrame.ensures.unchanged) there in
          subst (λ (x : Inside). IsInbox c.feed.new.out x.frames.rest x.bad 0 x.piece.items x.left) (sym w.self-inside-is) there2)
    ])

pub returns-clause-ok : goal.returns-clause-ok
returns-clause-ok c =
    let i = c.self.inside in
    let good : i.bad ≡ false = ap (λ (x : Incoming). x.bad) c.self.view_is ∙ c.requires.good in
    let was : map frame_value i.waiting.items ≡ [] = ap (λ (x : Incoming). x.waiting) c.self.view_is ∙ c.requires.empty in
    let empty : c.of-list.result ≡ [] = c.of-list.ensures ∙ (ap (map frame_value) (c.from-items.ensures.0 ∙ ap (λ q. q.items) c.replace-heard.ensures.value) ∙ was) in
    let items : map frame_value c.from.result.items ≡ c.feed.new.out = ap (map frame_value) c.from.ensures.0 ∙ c.into_vec.ensures in
    let bytes : i.frames.rest ++ take i.fresh c.deref.result.now ≡ i.frames.rest ++ take i.fresh i.piece.items = ap (λ (l : List ℕ). i.frames.rest ++ take i.fresh l) c.deref.ensures.value in
    let before : Incoming = record { waiting = map frame_value i.waiting.items; reading = i.frames; bad = i.bad; fresh = take i.fresh i.piece.items } in
    let after : Inside → List defs.Frame → Incoming = λ x l. record { waiting = l; reading = x.frames; bad = x.bad; fresh = [] } in
    let reads : Reads before (after c.match-feed.self-inside c.feed.new.out) = elim c.match-feed.branch [
      | in-Ok w ↦ (
          let t0 = subst (λ (l : List defs.Frame). Takes i.frames.offset (i.frames.rest ++ take i.fresh c.deref.result.now) l c.feed.new.out c.feed.new.self.offset c.feed.new.self.rest) empty w.in-Ok.ensures.ok in
          let t = subst (λ (l : List ℕ). Takes i.frames.offset l [] c.feed.new.out c.feed.new.self.offset c.feed.new.self.rest) bytes t0 in
          subst (λ (x : Inside). Reads before (after x c.feed.new.out)) (sym w.self-inside-is) (begins t w.in-Ok.ensures.partial good))
      | in-Err-BadFrame w ↦ (
          let r0 = rw w.in-Err-BadFrame.field-0-is at w.in-Err-BadFrame.ensures.err in
          let r1 = subst (λ (l : List defs.Frame). Refuses i.frames.offset (i.frames.rest ++ take i.fresh c.deref.result.now) l c.feed.new.out w.in-Err-BadFrame.field-0-0) empty r0 in
          let r = subst (λ (l : List ℕ). Refuses i.frames.offset l [] c.feed.new.out w.in-Err-BadFrame.field-0-0) bytes r1 in
          subst (λ (x : Inside). Reads before (after x c.feed.new.out)) (sym w.self-inside-is) (begins_none w.in-Err-BadFrame.field-0-0 r w.in-Err-BadFrame.ensures.unchanged refl))
    ] in
    subst (λ (a : Incoming). HasRead a (after c.match-feed.self-inside (map frame_value c.from.result.items))) c.self.view_is
    (record { reads = subst (λ (l : List defs.Frame). Reads before (after c.match-feed.self-inside l)) (sym items) reads; fresh = refl })
