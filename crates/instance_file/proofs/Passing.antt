-- Reading an instance file from record to record.
use Rattle.std.proofs.Common.{◌≡◌, inl, inr, ℕ, ◌+◌, ◌==◌, List, [], ◌∷◌, ◌++◌, length, drop, Option, Some, None, IfSome, refl, sym, ◌∙◌, ap, subst, arith, append-nil}
use Rattle.disk_defs.specs.Gates.{Body, Open, gate_at, bodies_at, records, spelled}
use Rattle.disk_defs.specs.Disk.{Files}
use Rattle.disk_defs.proofs.Told.{both_weak}
use Rattle.disk_defs.proofs.Walks.{at_shut, at_open, at_none}
use Rattle.gated_file.specs.State.{places}
use Rattle.journal_defs.specs.Instance.{InstanceRecord, IsInstanceBody, generation}
use Rattle.journal_laws.proofs.Readings.{instance_body}
use Rattle.journal_laws.proofs.Appending.{zip_append}
use Rattle.instance_file.specs.Values.{record_value}
use Rattle.instance_file.specs.Order.{MayStand, last_after}
use Rattle.site_defs.specs.OutsideInstance.{AreOrdered, HasWrongRecord}
use Rattle.instance_file.specs.Reading.{FindsRecord, IsNoRecord}
use Rattle.instance_file.specs.Walks.{IsListed}
use Rattle.instance_file.specs.declared.record.InstanceRecord as code
use Rattle.instance_file.proofs.Orders.{stand_follows, follows_stand, generation_next}
use Rattle.instance_file.proofs.Zips.{AreBodiesOf}
use Rattle.gated_file.proofs.Append.{places_push}
use Rattle.gated_file.proofs.Listed.{begun, list_after, next_place}

-- Up to this place stand these records, whose gates have these places, and the last CUT has this generation.
pub record Passed (file : List ℕ) (at : ℕ) (rs : List InstanceRecord) (gates : List ℕ) (last : ℕ) : Type 0 where
  pub done : List Body
  pub rest : List Body
  pub list : records file ≡ Some (done ++ rest)
  pub here : bodies_at file at ≡ Some rest
  pub place : at ≡ length (spelled 1 done)
  pub spelled_done : AreBodiesOf done rs
  pub gates_are : gates ≡ places 0 done
  pub ordered : AreOrdered rs
  pub last_is : last ≡ generation rs

pub passed_none : (file : List ℕ) (bodies : List Body) → records file ≡ Some bodies → Passed file 0 [] [] 0
passed_none file bodies list = record {
  done = [];
  rest = bodies;
  list = list;
  here = list;
  place = refl;
  spelled_done = tt;
  gates_are = refl;
  ordered = record { create = tt; cuts = tt };
  last_is = refl;
}

module _ (file : List ℕ) (at : ℕ) (rs : List InstanceRecord) (gates : List ℕ) (last : ℕ) (p : Passed file at rs gates last) where
  may_follow : (x : InstanceRecord) → MayStand (length rs == 0) last x → MayStand (length rs == 0) (generation rs) x
  may_follow x may = subst (λ (n : ℕ). MayStand (length rs == 0) n x) p.last_is may

  pub passed_next : (x : code.InstanceRecord) (next : ℕ) → FindsRecord file at (Some (x, next)) → MayStand (length rs == 0) last (record_value x)
      → Passed file next (rs ++ record_value x ∷ []) (gates ++ at ∷ []) (last_after last (record_value x))
  passed_next x next found may =
      let b = begun found.0 (bodies_at file next) p.rest (sym (at_open file at found.0 next found.1) ∙ p.here) in
      let follows = may_follow (record_value x) may in
      record {
        done = p.done ++ found.0 ∷ [];
        rest = b.more;
        list = list_after file p.done p.rest b.more found.0 p.list b.is;
        here = b.rest;
        place = next_place p.done found.0 at next p.place found.2;
        spelled_done = zip_append IsInstanceBody p.done (found.0 ∷ []) rs (record_value x ∷ []) p.spelled_done (found.3, tt);
        gates_are = ap (λ (l : List ℕ). l ++ at ∷ []) p.gates_are ∙ ap (λ (n : ℕ). places 0 p.done ++ n ∷ []) (let here : at ≡ 0 + length (spelled 1 p.done) = omega (arith, p.place) in here) ∙ sym (places_push 0 p.done found.0);
        ordered = stand_follows rs (record_value x) p.ordered follows;
        last_is = ap (λ (n : ℕ). last_after n (record_value x)) p.last_is ∙ sym (generation_next rs (record_value x) follows);
      }

  pub passed_end : FindsRecord file at None → IsListed file rs gates
  passed_end shut =
      let rest : Some p.rest ≡ Some [] = sym p.here ∙ at_shut file at shut in
      let none : p.rest ≡ [] = cc rest in
      record {
        bodies = p.done;
        list = p.list ∙ ap Some (ap (λ (l : List Body). p.done ++ l) none ∙ append-nil p.done);
        spelled = p.spelled_done;
        places = p.gates_are;
        ordered = p.ordered;
      }

  wrong_here : (body : Body) (next : ℕ) → gate_at file at ≡ Open body (drop next file)
      → ((r : InstanceRecord) → IsInstanceBody body r → AreOrdered (rs ++ r ∷ []) → ⊥) → HasWrongRecord file at
  wrong_here body next gate wrong =
      let b = begun body (bodies_at file next) p.rest (sym (at_open file at body next gate) ∙ p.here) in
      record {
        before = p.done;
        body = body;
        after = b.more;
        list = p.list ∙ ap Some (ap (λ (l : List Body). p.done ++ l) b.is);
        place = p.place;
        earlier = rs;
        spelled_before = p.spelled_done;
        so_far = p.ordered;
        wrong = wrong;
      }

  pub passed_wrong : (x : code.InstanceRecord) (next : ℕ) → FindsRecord file at (Some (x, next)) → (MayStand (length rs == 0) last (record_value x) → ⊥) → HasWrongRecord file at
  passed_wrong x next found refused = wrong_here found.0 next found.1 (λ r is follows.
      refused (subst (λ (n : ℕ). MayStand (length rs == 0) n (record_value x)) (sym p.last_is)
      (follows_stand rs (record_value x) (subst (λ (y : InstanceRecord). AreOrdered (rs ++ y ∷ [])) (instance_body found.0 r (record_value x) is found.3) follows))))

  pub passed_no_record : IsNoRecord file at → HasWrongRecord file at
  passed_no_record none = elim none [
    | inl no_gate ↦ absurd (no_list (sym p.here ∙ at_none file at no_gate))
    | inr found ↦ wrong_here found.0 found.1 found.2 (λ r is follows. found.3 r is)
  ]
    where
      no_list : Some p.rest ≡ None → ⊥
      no_list is = cc is

-- the same of a file that the disk tells, or doesn't
module _ (o : Option Files) (file at : ℕ) (rs : List InstanceRecord) (gates : List ℕ) (last : ℕ) (p : IfSome o (λ files. Passed (files file) at rs gates last)) where
  pub told_next : (x : code.InstanceRecord) (next : ℕ) → IfSome o (λ files. FindsRecord (files file) at (Some (x, next))) → MayStand (length rs == 0) last (record_value x)
      → IfSome o (λ files. Passed (files file) next (rs ++ record_value x ∷ []) (gates ++ at ∷ []) (last_after last (record_value x)))
  told_next x next found may =
      both_weak o (λ files. Passed (files file) at rs gates last) (λ files. FindsRecord (files file) at (Some (x, next)))
      (λ files. Passed (files file) next (rs ++ record_value x ∷ []) (gates ++ at ∷ []) (last_after last (record_value x))) p found
      (λ files w is. passed_next (files file) at rs gates last w x next is may)

  pub told_wrong : (x : code.InstanceRecord) (next : ℕ) → IfSome o (λ files. FindsRecord (files file) at (Some (x, next))) → (MayStand (length rs == 0) last (record_value x) → ⊥) → IfSome o (λ files. HasWrongRecord (files file) at)
  told_wrong x next found refused =
      both_weak o (λ files. Passed (files file) at rs gates last) (λ files. FindsRecord (files file) at (Some (x, next))) (λ files. HasWrongRecord (files file) at) p found
      (λ files w is. passed_wrong (files file) at rs gates last w x next is refused)

  pub told_no_record : IfSome o (λ files. IsNoRecord (files file) at) → IfSome o (λ files. HasWrongRecord (files file) at)
  told_no_record none =
      both_weak o (λ files. Passed (files file) at rs gates last) (λ files. IsNoRecord (files file) at) (λ files. HasWrongRecord (files file) at) p none
      (λ files w is. passed_no_record (files file) at rs gates last w is)

  pub told_end : IfSome o (λ files. FindsRecord (files file) at None) → IfSome o (λ files. IsListed (files file) rs gates)
  told_end shut =
      both_weak o (λ files. Passed (files file) at rs gates last) (λ files. FindsRecord (files file) at None) (λ files. IsListed (files file) rs gates) p shut
      (λ files w is. passed_end (files file) at rs gates last w is)
