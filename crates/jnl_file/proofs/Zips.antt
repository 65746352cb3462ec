-- Lists of bodies beside lists of records.
use Rattle.std.proofs.Common.{◌≡◌, ℕ, zero, suc, List, [], ◌∷◌, ◌++◌, length, take, refl, ap}
use Rattle.std.specs.List.{AllZip}

module _ {A B : Type 0} (R : A → B → Type 0) where
  pub zip_append : (xs us : List A) (ys vs : List B) → AllZip R xs ys → AllZip R us vs → AllZip R (xs ++ us) (ys ++ vs)
  zip_append [] us [] vs zip more = more
  zip_append [] us (y ∷ ys) vs zip more = absurd zip
  zip_append (x ∷ xs) us [] vs zip more = absurd zip
  zip_append (x ∷ xs) us (y ∷ ys) vs zip more = (zip.0, zip_append xs us ys vs zip.1 more)

  pub zip_length : (xs : List A) (ys : List B) → AllZip R xs ys → length xs ≡ length ys
  zip_length [] [] zip = refl
  zip_length [] (y ∷ ys) zip = absurd zip
  zip_length (x ∷ xs) [] zip = absurd zip
  zip_length (x ∷ xs) (y ∷ ys) zip = ap suc (zip_length xs ys zip.1)

  pub zip_take : (n : ℕ) (xs : List A) (ys : List B) → AllZip R xs ys → AllZip R (take n xs) (take n ys)
  zip_take zero xs ys zip = tt
  zip_take (suc n) [] [] zip = tt
  zip_take (suc n) [] (y ∷ ys) zip = absurd zip
  zip_take (suc n) (x ∷ xs) [] zip = absurd zip
  zip_take (suc n) (x ∷ xs) (y ∷ ys) zip = (zip.0, zip_take n xs ys zip.1)

  -- what stands beside two lists, and beside the element between them
  pub record Split (before after : List A) (x : A) (ys : List B) : Type 0 where
    pub left : List B
    pub here : B
    pub right : List B
    pub is : ys ≡ left ++ here ∷ right
    pub left_zip : AllZip R before left
    pub here_is : R x here

  pub zip_split : (before after : List A) (x : A) (ys : List B) → AllZip R (before ++ x ∷ after) ys → Split before after x ys
  zip_split [] after x [] zip = absurd zip
  zip_split [] after x (y ∷ ys) zip = record { left = []; here = y; right = ys; is = refl; left_zip = tt; here_is = zip.0 }
  zip_split (b ∷ before) after x [] zip = absurd zip
  zip_split (b ∷ before) after x (y ∷ ys) zip =
      let rest = zip_split before after x ys zip.1 in
      record { left = y ∷ rest.left; here = rest.here; right = rest.right; is = ap (λ (l : List B). y ∷ l) rest.is; left_zip = (zip.0, rest.left_zip); here_is = rest.here_is }
