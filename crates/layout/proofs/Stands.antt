-- A list that stands at a place of another, and its parts.
use Rattle.std.proofs.Common.{◌≡◌, ℕ, ◌+◌, ◌<◌, ◌≤◌, List, ◌++◌, length, get_or, take, drop, refl, ap, ◌∙◌, arith, length-append, length-drop, length-take}
use Rattle.std.proofs.lemmas.List.{get_or-take, get_or-drop, take-take, take_at, take_all, drop_at, drop-take, drop-drop}

-- ys stands at place p of bs
abbrev pub Stands : List ℕ → ℕ → List ℕ → Type 0
Stands ys p bs = take (length ys) (drop p bs) ≡ ys

-- its bytes, and where it ends
pub stands_at : (ys : List ℕ) (p : ℕ) (bs : List ℕ) (k : ℕ) → Stands ys p bs → k < length ys → get_or bs (p + k) 0 ≡ get_or ys k 0
stands_at ys p bs k h l = grind (arith, get_or-drop p bs k 0, get_or-take (length ys) (drop p bs) k 0 l)

pub stands_fits : (ys : List ℕ) (p : ℕ) (bs : List ℕ) → Stands ys p bs → 1 ≤ length ys → p + length ys ≤ length bs
stands_fits ys p bs h l = omega (arith, ap length h, length-take (length ys) (drop p bs), length-drop p bs)

-- its front, and what is behind the front
pub stands_front : (xs ys : List ℕ) (p : ℕ) (bs : List ℕ) → Stands (xs ++ ys) p bs → Stands xs p bs
stands_front xs ys p bs h =
    grind (arith, take-take (length xs) (length (xs ++ ys)) (drop p bs), length-append xs ys, take_at xs ys (length xs) refl)

pub stands_rest : (xs ys : List ℕ) (p : ℕ) (bs : List ℕ) → Stands (xs ++ ys) p bs → Stands ys (p + length xs) bs
stands_rest xs ys p bs h =
    grind (arith, drop-drop (length xs) p bs, drop-take (length xs) (length ys) (drop p bs), length-append xs ys, drop_at xs ys (length xs) refl)

pub stands_behind : (xs ys : List ℕ) → Stands ys (length xs) (xs ++ ys)
stands_behind xs ys = ap (take (length ys)) (drop_at xs ys (length xs) refl) ∙ take_all (length ys) ys (omega arith)
