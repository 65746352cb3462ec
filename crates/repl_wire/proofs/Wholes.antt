-- A frame at the front of bytes, read at once.
use Rattle.std.proofs.Common.{◌≡◌, ℕ, List, [], ◌∷◌, ◌++◌, sym, ap, ◌∙◌, subst, append_assoc, append-nil}
use Rattle.std.specs.List.{flat_map, AllByRecursion}
use Rattle.std.proofs.lemmas.Grind.{flat_map-append}
use Rattle.global_defs.specs.Encoded.{encoded}
use Rattle.global_defs.specs.Entry.{Update, Set}
use Rattle.global_defs.specs.Fields.{IsUpdate, short, long, spelled_update}
use Rattle.global_defs.specs.Key.{Key}
use Rattle.wire_defs.specs.Frames.{Frame, BeginsFrame, BeginsNone}
use Rattle.repl_wire.specs.declared.field.Scan.{Scan}
use Rattle.repl_wire.specs.Feeds.{Takes, Refuses, IsWithin}
use Rattle.repl_wire.specs.Wholes.{StandBefore}
use Rattle.repl_wire.proofs.Feeding.{begins}

-- updates at the front

each_more : (us vs : List Update) → AllByRecursion IsUpdate us → AllByRecursion IsUpdate vs → AllByRecursion IsUpdate (us ++ vs)
each_more [] vs a b = b
each_more (u ∷ us) vs a b = (a.0, each_more us vs a.1 b)

pub stand_more : (made later : List Update) (bytes rest behind : List ℕ) (u : Update) → StandBefore made bytes rest → later ≡ made ++ u ∷ [] → IsUpdate u → rest ≡ spelled_update u ++ behind → StandBefore later bytes behind
stand_more made later bytes rest behind u s push form cut = subst (λ (l : List Update). StandBefore l bytes behind) (sym push) (record {
  each = each_more made (u ∷ []) s.each (form, tt);
  cut = s.cut ∙ ap (λ (l : List ℕ). flat_map spelled_update made ++ l) (cut ∙ ap (λ (l : List ℕ). l ++ behind) (sym (append-nil (spelled_update u))))
      ∙ sym (append_assoc (flat_map spelled_update made) (spelled_update u ++ []) behind) ∙ ap (λ (l : List ℕ). l ++ behind) (sym (flat_map-append spelled_update made (u ∷ [])));
})

pub set_stands : (bytes rest value behind : List ℕ) (k : Key) → bytes ≡ short (encoded k) ++ rest → rest ≡ long value ++ behind → 1 ∷ bytes ≡ spelled_update (Set k value) ++ behind
set_stands bytes rest value behind k e1 e2 = ap (λ (l : List ℕ). 1 ∷ l) (e1 ∙ ap (λ (l : List ℕ). short (encoded k) ++ l) e2 ∙ sym (append_assoc (short (encoded k)) (long value) behind))

-- the fields of an entry and its updates, one after another

pub refused : (offset : ℕ) (bytes : List ℕ) (before after : List Frame) (at : ℕ) (rest : List ℕ) → Takes offset bytes before after at rest → BeginsNone rest → Refuses offset bytes before after at
refused offset bytes before after at rest t none = record { rest = rest; takes = t; none = none }

-- behind no bytes

pub within_fresh : (s : Scan) (kept rest now : List ℕ) → kept ≡ [] → now ≡ kept ++ rest → IsWithin s rest → IsWithin s now
within_fresh s kept rest now none add w = subst (λ (l : List ℕ). IsWithin s l) (sym (add ∙ ap (λ (l : List ℕ). l ++ rest) none)) w

pub begins_fresh : (s : Scan) (kept rest now : List ℕ) → kept ≡ [] → now ≡ kept ++ rest → IsWithin s rest → BeginsFrame now
begins_fresh s kept rest now none add w = begins s now (within_fresh s kept rest now none add w)
