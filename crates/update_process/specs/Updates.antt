-- What an Update Process does with one entry that came.
use Rattle.std.specs.Prelude.{◌≡◌, ◌⊎◌, ◌<◌, ◌≤◌, List, [], ◌∷◌, ◌++◌, length, Option, Some, Result, Ok, Err, ⊤}
use Rattle.global_defs.specs.Entry.{Reign}
use Rattle.ship_defs.specs.Hearing.{HasRoom}
use Rattle.ship_defs.specs.Arrivals.{Arrival}
use Rattle.update_process.specs.Copies.{Copy, history_of, next_of, MayAdopt, told, Takes, hardened}
use Rattle.update_process.specs.declared.sink.ApplyError.{ApplyError}
use Rattle.update_process.specs.declared.sink.ApplyError.TheVariants as apply
use Rattle.update_process.specs.declared.update.Applied.{Applied}
use Rattle.update_process.specs.declared.update.Applied.TheVariants.{One, Skipped, Nothing}
use Rattle.update_process.specs.declared.update.UpdateError.{UpdateError}
use Rattle.update_process.specs.declared.update.UpdateError.TheVariants as update

-- the arrival is the first of these, if there is one
abbrev pub IsFirst : List Arrival → Arrival → Type 0
IsFirst [] x = Unit {0}
IsFirst (y ∷ ys) x = x ≡ y

-- the next arrival was taken; `ahead` were known to be next
pub record IsTaken (ahead before after : List Arrival) (x : Arrival) : Type 0 where
  pub is : after ≡ before ++ x ∷ []
  pub first : IsFirst ahead x

-- The next entry was applied and hardened, under the reign of a HISTORY right before it, or the site's own.
abbrev pub Follows : Arrival → Copy → Copy → Type 0
Follows x c now = (x.number ≡ next_of c) × ((m : Copy) × Takes x.transaction (told c x.reign) m × (now ≡ hardened m))

-- what was done with an arrival
abbrev pub Did : Applied → Arrival → (c now : Copy) → Type 0
Did (One n) x c now = (x.number ≡ n) × Follows x c now
Did Skipped x c now = (x.number ≤ length c.sequence) × (now ≡ c)
Did Nothing x c now = ⊥

-- the same of the next one that has come
abbrev pub After : Applied → (ahead before after : List Arrival) → (c now : Copy) → Type 0
After (One n) ahead before after c now = (x : Arrival) × IsTaken ahead before after x × Did (One n) x c now
After Skipped ahead before after c now = (x : Arrival) × IsTaken ahead before after x × Did Skipped x c now
After Nothing ahead before after c now = (ahead ≡ []) × (after ≡ before) × (now ≡ c)

-- a HISTORY tells a reign that the site may not adopt
abbrev pub IsStrange : Copy → Option Reign → Type 0
IsStrange c reign = (r : Reign) × (reign ≡ Some r) × (MayAdopt (history_of c) r → ⊥)

-- The arrival is past the site's next entry, or comes with a reign that can't be that entry's.
abbrev pub IsAstray : Arrival → Copy → Type 0
IsAstray x c = (next_of c < x.number) ⊎ ((x.number ≡ next_of c) × IsStrange c x.reign)

-- it is the site's next entry, and there is no room for its nodes
abbrev pub IsTooLarge : Arrival → Copy → Type 0
IsTooLarge x c = (x.number ≡ next_of c) × (HasRoom c.globals x.transaction.updates → ⊥)

module _ {E : Type 0} where
  -- a fact where an entry wasn't applied for another reason than its nodes
  abbrev pub OnOther : Result (Unit {0}) (ApplyError E) → Type 0 → Type 0
  OnOther (Ok u) P = ⊤
  OnOther (Err apply.Full) P = ⊤
  OnOther (Err (apply.Other e)) P = P

  -- the failure is the site's own
  abbrev pub IsSites : UpdateError E → Type 0
  IsSites (update.BadFrame offset) = ⊥
  IsSites (update.Site e) = ⊤

  -- There is no room for an arrival's nodes, so its frame is bad, and the site is as it was. Another failure may leave the entry applied.
  abbrev pub Refuses : UpdateError E → Arrival → (c now : Copy) → Type 0
  Refuses (update.BadFrame offset) x c now = (x.at ≡ offset) × (HasRoom c.globals x.transaction.updates → ⊥) × (now ≡ c)
  Refuses (update.Site e) x c now = (now ≡ c) ⊎ Takes x.transaction c now

  -- An arrival wasn't applied. Where its frame is bad, the site has at most adopted the reign of a HISTORY right before it.
  abbrev pub FailedAt : UpdateError E → Arrival → (c now : Copy) → Type 0
  FailedAt (update.BadFrame offset) x c now = (x.at ≡ offset) × ((IsAstray x c × (now ≡ c)) ⊎ (IsTooLarge x c × (now ≡ told c x.reign)))
  FailedAt (update.Site e) x c now = (x.number ≡ next_of c) × ((now ≡ c) ⊎ ((now ≡ told c x.reign) ⊎ Takes x.transaction (told c x.reign) now))

  -- the same of the next one that has come
  abbrev pub Failed : UpdateError E → (ahead before after : List Arrival) → (c now : Copy) → Type 0
  Failed e ahead before after c now = (x : Arrival) × IsTaken ahead before after x × FailedAt e x c now
