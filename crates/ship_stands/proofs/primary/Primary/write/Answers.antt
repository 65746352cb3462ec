use Rattle.std.proofs.Common.{◌≡◌, ℕ, List, [], ◌∷◌, ◌++◌, ap, ◌∙◌, ◌%◌, ◌^◌, append_assoc, w32, w64}
use Rattle.std.specs.Int.{to_be_bytes}
use Rattle.ship_stands.proofs.primary.Primary.write.Goals as goal

-- four pieces behind one another
joined : (o a b d u one two three four : List ℕ) → one ≡ o ++ a → two ≡ one ++ b → three ≡ two ++ d → four ≡ three ++ u → four ≡ o ++ (a ++ (b ++ (d ++ u)))
joined o a b d u one two three four first second third fourth =
    fourth ∙ ap (λ (l : List ℕ). l ++ u) (third ∙ ap (λ (l : List ℕ). l ++ d) (second ∙ ap (λ (l : List ℕ). l ++ b) first))
    ∙ append_assoc ((o ++ a) ++ b) d u ∙ append_assoc (o ++ a) b (d ++ u) ∙ append_assoc o a (b ++ (d ++ u))

pub returns : goal.returns
returns c =
    joined c.args.out.now (to_be_bytes w64 c.args.number) (1 ∷ []) (to_be_bytes w32 (c.args.number % 2 ^ 32)) c.args.self.now.updates c.push_all.new.self c.push.new.self c.push_all-2.new.self c.push_all-3.new.self
    (c.in_ok-push_all.ensures.ok ∙ ap (λ (l : List ℕ). c.args.out.now ++ l) c.to_be_bytes.ensures) c.in_ok-push.ensures.ok
    (c.in_ok-push_all-2.ensures.ok ∙ ap (λ (l : List ℕ). c.push.new.self ++ l) c.to_be_bytes-2.ensures)
    (c.in_ok-push_all-3.ensures.ok ∙ ap (λ (l : List ℕ). c.push_all-2.new.self ++ l) c.as_slice.ensures)
