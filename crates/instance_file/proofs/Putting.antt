-- One body more, moment by moment.
use Rattle.std.proofs.Common.{◌≡◌, ℕ, zero, suc, List, [], ◌∷◌, ◌++◌, take, Some, refl, ◌∙◌, ap, subst, arith, append-nil}
use Rattle.disk_defs.specs.Disk.{View, IsLawful, AtEachMoment}
use Rattle.disk_defs.specs.Frames.{Only, OnlyOn}
use Rattle.disk_defs.specs.Gates.{Body, Stands}
use Rattle.disk_defs.proofs.Moments.{only_then, only_weaker}

pub take_none : (bodies : List Body) (n : ℕ) → bodies ++ take n [] ≡ bodies ++ []
take_none bodies zero = refl
take_none bodies (suc n) = refl

stands_none : (bodies : List Body) (body : Body) (file : List ℕ) → Stands bodies [] file → Stands bodies (body ∷ []) file
stands_none bodies body file stands = (0, omega arith, stands.2 ∙ ap (λ (l : List Body). Some l) (take_none bodies stands.0))

stands_more : (bodies : List Body) (body : Body) (file : List ℕ) → Stands (bodies ++ []) (body ∷ []) file → Stands bodies (body ∷ []) file
stands_more bodies body file stands = subst (λ (l : List Body). Stands l (body ∷ []) file) (append-nil bodies) stands

-- its body is appended,
pub put_first : (old new : View) (file : ℕ) (bodies : List Body) (body : Body) → AtEachMoment old new (OnlyOn old file (Stands bodies []))
    → AtEachMoment old new (OnlyOn old file (Stands bodies (body ∷ [])))
put_first old new file bodies body run = only_weaker old new (Only file) (λ c. Stands bodies [] (c file)) (λ c. Stands bodies (body ∷ []) (c file)) (λ c stands. stands_none bodies body (c file) stands) run

-- then it is synced,
pub put_then : (old mid new : View) (file mid_file : ℕ) (bodies : List Body) (body : Body) → IsLawful mid → mid_file ≡ file → AtEachMoment old mid (OnlyOn old file (Stands bodies (body ∷ [])))
    → AtEachMoment mid new (OnlyOn mid mid_file (Stands bodies [])) → AtEachMoment old new (OnlyOn old file (Stands bodies (body ∷ [])))
put_then old mid new file mid_file bodies body lawful same first second =
    only_then old mid new (Only file) (Only file) (λ c. Stands bodies (body ∷ []) (c file)) (λ c. Stands bodies [] (c file)) lawful (λ f is. is) first
    (subst (λ (f : ℕ). AtEachMoment mid new (OnlyOn mid f (Stands bodies []))) same second)
    (λ d c was p stays q. stands_none bodies body (c file) q)

-- and its gate is opened.
pub put_more : (old mid new : View) (file mid_file : ℕ) (bodies : List Body) (body : Body) → IsLawful mid → mid_file ≡ file → AtEachMoment old mid (OnlyOn old file (Stands bodies (body ∷ [])))
    → AtEachMoment mid new (OnlyOn mid mid_file (Stands (bodies ++ []) (body ∷ []))) → AtEachMoment old new (OnlyOn old file (Stands bodies (body ∷ [])))
put_more old mid new file mid_file bodies body lawful same first second =
    only_then old mid new (Only file) (Only file) (λ c. Stands bodies (body ∷ []) (c file)) (λ c. Stands (bodies ++ []) (body ∷ []) (c file)) lawful (λ f is. is) first
    (subst (λ (f : ℕ). AtEachMoment mid new (OnlyOn mid f (Stands (bodies ++ []) (body ∷ [])))) same second)
    (λ d c was p stays q. stands_more bodies body (c file) q)
