-- Bytes that were added one after the other.
use Rattle.std.proofs.Common.{◌≡◌, ℕ, List, ◌++◌, ap, ◌∙◌, append_assoc}

pub then : (o p q a b : List ℕ) → p ≡ o ++ a → q ≡ p ++ b → q ≡ o ++ (a ++ b)
then o p q a b first second = second ∙ ap (λ x. x ++ b) first ∙ append_assoc o a b

pub three : (o p q r a b d : List ℕ) → p ≡ o ++ a → q ≡ p ++ b → r ≡ q ++ d → r ≡ o ++ ((a ++ b) ++ d)
three o p q r a b d first second third = then o q r (a ++ b) d (then o p q a b first second) third
