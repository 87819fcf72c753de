-- The verdicts as lists and numbers that compute at a given position.
use Rattle.std.specs.Prelude.{ℕ, zero, suc, Bool, true, false, cond, not, ◌&&◌, ◌||◌, List, [], ◌∷◌, length, Some, None, Option}
use Rattle.game.specs.Below.{below, bit, byte, elem}
use Rattle.game.specs.declared.player.Player.{Player}
use Rattle.game.specs.declared.player.Player.TheVariants.{One, Two}
use Rattle.theory.specs.Positions.{Position}

-- whether each member of a list passes the test, and whether some member does
unfoldable pub every : (ℕ → Bool) → List ℕ → Bool
every p [] = true
every p (y ∷ ys) = p y && every p ys

unfoldable pub some : (ℕ → Bool) → List ℕ → Bool
some p [] = false
some p (y ∷ ys) = p y || some p ys

-- whether the members of one list are members of another
unfoldable pub inside : List ℕ → List ℕ → Bool
inside xs ys = every (λ y. elem y ys) xs

-- the earlier answer, or else n if it passed
abbrev pub or_at : Option ℕ → Bool → ℕ → Option ℕ
or_at (Some k) b n = Some k
or_at None b n = cond b (Some n) None

-- the least number below n that passes the test
unfoldable pub first : (ℕ → Bool) → ℕ → Option ℕ
first p zero = None
first p (suc n) = or_at (first p n) (p n) n

abbrev pub number_or_zero : Option ℕ → ℕ
number_or_zero (Some k) = k
number_or_zero None = 0

-- the members of a layer with those that the step takes from it
unfoldable pub next_list : ℕ → (List ℕ → ℕ → Bool) → List ℕ → List ℕ
next_list n step X = below (λ s. elem s X || step X s) n

-- the numbers below n in the layers up to k
unfoldable pub upto_list : ℕ → (ℕ → Bool) → (List ℕ → ℕ → Bool) → ℕ → List ℕ
upto_list n start step zero = below start n
upto_list n start step (suc k) = next_list n step (upto_list n start step k)

module _ (x : Position) where
  -- the moves that a player keeps at a state
  abbrev pub moves : Player → ℕ → List ℕ
  moves p s = below (bit (x.kept p s)) 8

  -- whether the move a leads from s into X, whatever player 2 replies
  unfoldable pub leads_into : List ℕ → ℕ → ℕ → Bool
  leads_into X s a = every (λ b. every (λ t. elem t X) (x.game.support s a b)) (moves Two s)

  -- Sure.
  unfoldable pub forces : List ℕ → ℕ → Bool
  forces X s = some (λ a. leads_into X s a) (moves One s)

  abbrev pub sure_list : ℕ → List ℕ
  sure_list = upto_list x.game.size x.target forces

  unfoldable pub sure_rank : ℕ → Option ℕ
  sure_rank s = first (λ k. elem s (sure_list k)) (suc x.game.size)

  -- the kept moves of player 1 that lead into X, whatever player 2 replies
  abbrev pub stays : List ℕ → ℕ → ℕ → Bool
  stays X s a = bit (x.kept One s) a && leads_into X s a

  abbrev pub stay_set : List ℕ → ℕ → ℕ
  stay_set X s = byte (λ a. stays X s a)

  -- the moves handed out at a state of that rank
  abbrev pub set_at : ℕ → Option ℕ → ℕ
  set_at s None = 0
  set_at s (Some zero) = 0
  set_at s (Some (suc r)) = stay_set (sure_list r) s

  unfoldable pub sure_set : ℕ → ℕ
  sure_set s = set_at s (sure_rank s)

  -- Almost.
  unfoldable pub touches : List ℕ → List ℕ → ℕ → Bool
  touches Y X s = elem s Y && every (λ b. some (λ a. leads_into Y s a && some (λ t. elem t X) (x.game.support s a b)) (moves One s)) (moves Two s)

  abbrev pub level_list : List ℕ → ℕ → List ℕ
  level_list Y = upto_list x.game.size x.target (touches Y)

  -- all levels of Y
  unfoldable pub levels : List ℕ → List ℕ
  levels Y = level_list Y x.game.size

  unfoldable pub outer_list : ℕ → List ℕ
  outer_list zero = below (λ _. true) x.game.size
  outer_list (suc j) = levels (outer_list j)

  unfoldable pub rounds : ℕ
  rounds = number_or_zero (first (λ j. inside (outer_list j) (outer_list (suc j))) (suc x.game.size))

  unfoldable pub almost_list : List ℕ
  almost_list = outer_list rounds

  -- the rank of a state in the levels of Y, and the stay moves of Y at a state of it outside the target
  unfoldable pub level_rank : List ℕ → ℕ → Option ℕ
  level_rank Y s = first (λ k. elem s (level_list Y k)) (suc x.game.size)

  unfoldable pub level_set : List ℕ → ℕ → ℕ
  level_set Y s = cond (elem s Y && not (x.target s)) (stay_set Y s) 0

  abbrev pub almost_rank : ℕ → Option ℕ
  almost_rank = level_rank almost_list

  abbrev pub almost_set : ℕ → ℕ
  almost_set = level_set almost_list

  -- how many states are sure, how many are almost sure, and the outer rounds
  abbrev pub told : ℕ × ℕ × ℕ
  told = (length (sure_list x.game.size), length almost_list, rounds)

  -- whether b and t are a reply to the move a at s
  abbrev pub replies : ℕ → ℕ → ℕ → ℕ → Bool
  replies s a b t = bit (x.kept Two s) b && (elem t (x.game.support s a b) && not (elem t (sure_list x.game.size)))
