-- What holds of one site, as its sequence grows or becomes a front of one.
use Rattle.std.proofs.Common.{◌≡◌, inl, inr, ℕ, ◌+◌, ◌-◌, ◌<◌, ◌≤◌, List, [], ◌∷◌, ◌++◌, length, take, sym, ◌∙◌, ap, subst, arith, take-take, get_or-set_same}
use Rattle.std.proofs.Math.ListN.{length-set}
use Rattle.std.proofs.lemmas.Option.{slice_get_within}
use Rattle.global_defs.specs.declared.limits.TheConstants.{MOST_UPDATERS}
use Rattle.global_defs.specs.Entry.{Update, Stamp, Entry, Sequence}
use Rattle.global_defs.specs.Serial.{entry_of, serial_at}
use Rattle.global_defs.specs.Prefix.{IsPrefix}
use Rattle.lineage_defs.specs.Sites.{Primary, Following, Site, World}
use Rattle.lineage_defs.specs.Events.{picked_once}
use Rattle.lineage_defs.specs.Lineage.{ArePast, IsReigning, HasPrimary}
use Rattle.resync_core.proofs.Fronts as lists
use Rattle.global_defs.proofs.Lists.{at_least, get-push}
use Rattle.global_defs.specs.Rising.{SerialsRise}

pub rise-front : (xs ys : Sequence) → IsPrefix xs ys → SerialsRise ys → SerialsRise xs
rise-front xs ys p rise i j d e low first second = rise i j d e low (lists.prefix-get xs ys i d p first) (lists.prefix-get xs ys j e p second)

pub reigning-as : (s : Site) (stamp other : Stamp) (serials others : List ℕ) → Primary stamp serials ≡ Primary other others → IsReigning stamp serials s → IsReigning other others s
reigning-as s stamp other serials others e r =
    let one : stamp ≡ other = cc in let two : serials ≡ others = cc in
    subst (λ (x : Stamp). IsReigning x others s) one (subst (λ (l : List ℕ). IsReigning stamp l s) two r)

pub session-as : (w : World) (name other : List ℕ) (sent received out in_ seq : Sequence) → Following name sent received ≡ Following other out in_
    → HasPrimary w name sent received seq → HasPrimary w other out in_ seq
session-as w name other sent received out in_ seq e s =
    let one : name ≡ other = cc in let two : sent ≡ out = cc in let three : received ≡ in_ = cc in
    subst (λ (x : List ℕ). HasPrimary w x out in_ seq) one
    (subst (λ (x : Sequence). HasPrimary w name x in_ seq) two
    (subst (λ (x : Sequence). HasPrimary w name sent x seq) three s))

-- what was hardened still is
pub grown : (h n : ℕ) (xs ys : Sequence) → h ≤ length xs → h ≤ n → IsPrefix (take h xs) (take n (xs ++ ys))
grown h n xs ys within le =
    subst (λ (l : Sequence). IsPrefix l (take n (xs ++ ys))) (lists.front-longer h xs ys within) (lists.fronts h n (xs ++ ys) le)

pub left : (h k n : ℕ) (xs : Sequence) → h ≤ k → k ≤ n → IsPrefix (take h xs) (take k (take n xs))
left h k n xs le most = subst (λ (l : Sequence). IsPrefix (take h xs) l) (sym (take-take k n xs most)) (lists.fronts h k xs le)

-- what stands before each updater's next serial still does once an updater took its own
pub next-raised : (stamp : Stamp) (serials : List ℕ) (u : ℕ) (seq : Sequence) → ArePast stamp serials seq → ArePast stamp (picked_once serials u) seq
next-raised stamp serials u seq next i e is its =
    let low = next i e is its in let more = at_least serials (e.transaction.origin.updater - 1) (u - 1) in omega arith

pub next-more : (stamp : Stamp) (serials : List ℕ) (u : ℕ) (updates : List Update) (seq : Sequence) → 1 ≤ u → u ≤ MOST_UPDATERS → length serials ≡ 64 → ArePast stamp serials seq
    → ArePast stamp (picked_once serials u) (seq ++ entry_of stamp u (serial_at serials u) updates ∷ [])
next-more stamp serials u updates seq least most size next i e is its = elim (get-push seq made i e is) [
  | inl old ↦ next-raised stamp serials u seq next i e old its
  | inr new ↦
      let there = get_or-set_same serials (u - 1) (serial_at serials u + 1) 1 (omega arith) in
      subst (λ (x : Entry). x.transaction.origin.serial < serial_at (picked_once serials u) x.transaction.origin.updater) (sym new.1) (omega arith)
]
  where
    made : Entry
    made = entry_of stamp u (serial_at serials u) updates

pub raised-size : (serials : List ℕ) (u : ℕ) → length serials ≡ 64 → length (picked_once serials u) ≡ 64
raised-size serials u size = length-set serials (u - 1) (serial_at serials u + 1) ∙ size

-- an entry more, whose serial is the updater's next one
pub rise-more : (stamp : Stamp) (serials : List ℕ) (u : ℕ) (updates : List Update) (seq : Sequence) → SerialsRise seq → ArePast stamp serials seq
    → SerialsRise (seq ++ entry_of stamp u (serial_at serials u) updates ∷ [])
rise-more stamp serials u updates seq rise next i j d e low first second stamps same = elim (get-push seq made i d first) [
  | inl old ↦ elim (get-push seq made j e second) [
    | inl also ↦ rise i j d e low old also stamps same
    | inr last ↦
        let below = next i d old (stamps ∙ ap (λ (x : Entry). x.stamp) last.1) in
        let updater : d.transaction.origin.updater ≡ u = same ∙ ap (λ (x : Entry). x.transaction.origin.updater) last.1 in
        let own : e.transaction.origin.serial ≡ serial_at serials u = ap (λ (x : Entry). x.transaction.origin.serial) last.1 in
        subst (λ (n : ℕ). d.transaction.origin.serial < n) (sym own)
        (subst (λ (k : ℕ). d.transaction.origin.serial < serial_at serials k) updater below)
  ]
  | inr last ↦ elim (get-push seq made j e second) [
    | inl also ↦ let within = slice_get_within seq j e also in let here = last.0 in absurd (omega arith)
    | inr both ↦ let here = last.0 in let there = both.0 in absurd (omega arith)
  ]
]
  where
    made : Entry
    made = entry_of stamp u (serial_at serials u) updates
