-- Lists of calls and answers that grow by one, the latest first.
use Rattle.std.proofs.Common.{◌≡◌, ℕ, ◌+◌, ◌<◌, List, [], ◌∷◌, ◌++◌, map, reverse, length, get_or, take, set, sym, ap, ◌∙◌}
use mathlib.Core.List.{reverse-append}
use Rattle.std.proofs.lemmas.List.{take_more, take_more_set}

module _ {A B : Type 0} (f : A → B) where
  latest : (xs ys : List A) (x : A) → ys ≡ xs ++ x ∷ [] → map f (reverse ys) ≡ f x ∷ map f (reverse xs)
  latest xs ys x is = ap (λ zs. map f (reverse zs)) is ∙ ap (map f) (reverse-append xs (x ∷ []))

  pub latest_more : (xs : List A) (i : ℕ) (x : A) → i < length xs → x ≡ get_or xs i x → map f (reverse (take (i + 1) xs)) ≡ f x ∷ map f (reverse (take i xs))
  latest_more xs i x l is = latest (take i xs) (take (i + 1) xs) x (take_more xs i x l ∙ ap (λ y. take i xs ++ y ∷ []) (sym is))

  pub latest_set : (xs : List A) (i : ℕ) (y : A) → i < length xs → map f (reverse (take (i + 1) (set xs i y))) ≡ f y ∷ map f (reverse (take i xs))
  latest_set xs i y l = latest (take i xs) (take (i + 1) (set xs i y)) y (take_more_set xs i y l)
