use Rattle.std.proofs.Common.{◌≡◌, ℕ, ◌+◌, ◌-◌, ◌<◌, ◌≤◌, min, List, [], ◌∷◌, ◌++◌, length, sym, ap, ◌∙◌, arith}
use Rattle.wire_defs.specs.PoolWords.{word_count}
use Rattle.pool_rule.specs.declared.views.View.{View}
use Rattle.jnl_pool.specs.Pooling.{Reading}
use Rattle.jnl_pool.specs.Holds.{addressed, Fetched}
use Rattle.jnl_pool.proofs.Whole.{got_view, whole}
use Rattle.jnl_pool.proofs.reader.Reader.read.Goals as goal

pub invariant_of-self-2 : goal.invariant_of-self-2
invariant_of-self-2 c =
    let v : View = c.self.inside.seat.view in
    let k = c.self.invariant in
    let hard : ℕ = c.load_hard-hard.result in
    let claim : ℕ = c.load_claim-claim.result in
    let bytes : List ℕ = c.fetch.new.bytes.items in
    let u : View = c.fetch.new.seat.view in
    let f : Fetched c.load_hard-hard.new.r.view u c.self.inside.place c.min-most.result bytes c.fetch.result = c.fetch.ensures.fetched in
    let h : List (ℕ × ℕ) = addressed c.self.inside.place (f.number ∷ f.len ∷ f.body) in
    let is : u ≡ record v { hard = hard; hard_loads = v.hard_loads + 1; held = h } = f.view ∙ ap (λ (x : View). record x { held = h }) c.load_hard-hard.ensures.view in
    let place : u.place ≡ c.self.inside.place = ap (λ (x : View). x.place) is ∙ k.same.1 in
    let size : u.size ≡ c.self.inside.size = ap (λ (x : View). x.size) is ∙ k.same.0 in
    let hard' : u.hard ≡ hard = ap (λ (x : View). x.hard) is in
    let low = c.if-claim-saturating_add.false in
    let sat = c.saturating_add.ensures in
    let past = c.if-hard-self.false in
    let le : claim ≤ u.place + u.size = omega arith in
    let within = c.load_claim-claim.ensures.within le in
    let most : c.min-most.result ≡ min (u.hard - u.place) u.size = c.min-most.ensures ∙ (λ i. min (sym hard' i - sym place i) (sym size i)) in
    let before : u.place < u.hard = omega arith in
    let final : c.load_claim-claim.new.r.view ≡ got_view (record v { hard = hard; hard_loads = v.hard_loads + 1; held = h }) claim bytes =
    c.load_claim-claim.ensures.whole le ∙ whole c.load_hard-hard.new.r.view u claim c.self.inside.place c.min-most.result bytes c.fetch.result f (sym place) most before within ∙ ap (λ (x : View). got_view x claim bytes) is in
    let div = c.div_ceil.ensures in
    let len = c.len.ensures in
    let ok = c.fetch.new.bytes.ok in
    let count : c.self.inside.place + (2 + c.div_ceil.result) ≡ c.self.inside.place + word_count (length bytes) = omega arith in
    let moved_to : c.load_claim-claim.new.r.view.place ≡ v.place + word_count (length bytes) = ap (λ (x : View). x.place) final in
    let was = k.same.1 in
    let cap = c.fetch.ensures.capacity in
    let room = k.room_is in
    record {
      same = (ap (λ (x : View). x.size) final ∙ k.same.0, omega arith);
      sizes = k.sizes;
      room_is = omega arith;
      none_held = ap (λ (x : View). x.held) final;
    }

pub returns-clause-answer : goal.returns-clause-answer
returns-clause-answer c =
    let v : View = c.self.inside.seat.view in
    let k = c.self.invariant in
    let hard : ℕ = c.load_hard-hard.result in
    let claim : ℕ = c.load_claim-claim.result in
    let bytes : List ℕ = c.fetch.new.bytes.items in
    let u : View = c.fetch.new.seat.view in
    let f : Fetched c.load_hard-hard.new.r.view u c.self.inside.place c.min-most.result bytes c.fetch.result = c.fetch.ensures.fetched in
    let h : List (ℕ × ℕ) = addressed c.self.inside.place (f.number ∷ f.len ∷ f.body) in
    let is : u ≡ record v { hard = hard; hard_loads = v.hard_loads + 1; held = h } = f.view ∙ ap (λ (x : View). record x { held = h }) c.load_hard-hard.ensures.view in
    let place : u.place ≡ c.self.inside.place = ap (λ (x : View). x.place) is ∙ k.same.1 in
    let size : u.size ≡ c.self.inside.size = ap (λ (x : View). x.size) is ∙ k.same.0 in
    let hard' : u.hard ≡ hard = ap (λ (x : View). x.hard) is in
    let low = c.if-claim-saturating_add.false in
    let sat = c.saturating_add.ensures in
    let past = c.if-hard-self.false in
    let le : claim ≤ u.place + u.size = omega arith in
    let within = c.load_claim-claim.ensures.within le in
    let most : c.min-most.result ≡ min (u.hard - u.place) u.size = c.min-most.ensures ∙ (λ i. min (sym hard' i - sym place i) (sym size i)) in
    let before : u.place < u.hard = omega arith in
    let final : c.load_claim-claim.new.r.view ≡ got_view (record v { hard = hard; hard_loads = v.hard_loads + 1; held = h }) claim bytes =
    c.load_claim-claim.ensures.whole le ∙ whole c.load_hard-hard.new.r.view u claim c.self.inside.place c.min-most.result bytes c.fetch.result f (sym place) most before within ∙ ap (λ (x : View). got_view x claim bytes) is in
    let div = c.div_ceil.ensures in
    let len = c.len.ensures in
    let ok = c.fetch.new.bytes.ok in
    let count : c.self.inside.place + (2 + c.div_ceil.result) ≡ c.self.inside.place + word_count (length bytes) = omega arith in
    let table = c.load_claim-claim.ensures.table ∙ c.fetch.ensures.table ∙ c.load_hard-hard.ensures.table in
    let at : c.args.self.now.place ≡ c.self.inside.place = sym (ap (λ (r : Reading). r.place) c.self.view_is) in
    let words : c.args.self.now.size ≡ c.self.inside.size = sym (ap (λ (r : Reading). r.size) c.self.view_is) in
    let now_hard : c.load_claim-claim.new.r.view.hard ≡ hard = ap (λ (x : View). x.hard) final in
    let now_claim : c.load_claim-claim.new.r.view.claim ≡ claim = ap (λ (x : View). x.claim) final in (
      omega arith,
      omega arith,
      (λ i. record { table = table i; size = c.self.inside.size; place = count i; next = (final i).next; hard = c.load_claim-claim.new.r.view.hard; claim = c.load_claim-claim.new.r.view.claim; hard_loads = (final i).hard_loads; claim_loads = (final i).claim_loads; told = (final i).hardened; got = (final i).got; notes = (final i).notes; bytes = bytes })
          ∙ ap (λ (r : Reading). record r { hard = c.load_claim-claim.new.r.view.hard; claim = c.load_claim-claim.new.r.view.claim; hard_loads = r.hard_loads + 1; claim_loads = r.claim_loads + 1; got = r.got ++ (r.next, bytes) ∷ []; place = r.place + word_count (length bytes); next = r.next + 1; bytes = bytes }) c.self.view_is,
    )
