-- What the verdicts are: sure, almost sure, the moves handed out, and the reply.
use Rattle.std.specs.Prelude.{ℕ, zero, suc}
use Rattle.game.specs.declared.player.Player.TheVariants.{One, Two}
use Rattle.theory.specs.Layers.{Upto, Enters, Least}
use Rattle.theory.specs.Positions.{Position, State, Keeps, Leads, Target}

module _ (x : Position) where
  -- the move a leads from s into X, whatever player 2 replies
  abbrev pub Into : (ℕ → Type 0) → ℕ → ℕ → Type 0
  Into X s a = (b : ℕ) → Keeps x Two s b → (t : ℕ) → Leads x s a b t → X t

  -- player 1 keeps a move at s that leads into X, whatever player 2 replies
  abbrev pub Forced : (ℕ → Type 0) → ℕ → Type 0
  Forced X s = State x s × ((a : ℕ) × Keeps x One s a × Into X s a)

  -- Sure. The target states have rank 0, and a state without a rank so far gets rank k + 1 when it is forced into the ranks up to k.
  abbrev pub Sure : ℕ → ℕ → Type 0
  Sure = Upto (Target x) Forced

  abbrev pub SureRank : ℕ → ℕ → Type 0
  SureRank = Enters Sure

  -- the moves handed out at a state of rank r + 1: all that lead into lower ranks, whatever player 2 replies
  abbrev pub SureMove : ℕ → ℕ → Type 0
  SureMove s a = (r : ℕ) × SureRank (suc r) s × Keeps x One s a × Into (Sure r) s a

  -- Almost. The stay moves of Y: all that lead into Y, whatever player 2 replies.
  abbrev pub Stay : (ℕ → Type 0) → ℕ → ℕ → Type 0
  Stay Y s a = Keeps x One s a × Into Y s a

  -- whatever player 2 replies at s, a state of Y, some stay move can lead into X
  abbrev pub Touches : (ℕ → Type 0) → (ℕ → Type 0) → ℕ → Type 0
  Touches Y X s = Y s × ((b : ℕ) → Keeps x Two s b → (a : ℕ) × Stay Y s a × ((t : ℕ) × Leads x s a b t × X t))

  -- the levels of Y: level 0 is the target, and a state of Y in no level so far enters level k + 1 when it touches the levels up to k
  abbrev pub Level : (ℕ → Type 0) → ℕ → ℕ → Type 0
  Level Y = Upto (Target x) (Touches Y)

  -- Y(0) is all states, and Y(j + 1) the union of the levels of Y(j)
  abbrev pub Outer : ℕ → ℕ → Type 0
  Outer zero s = State x s
  Outer (suc j) s = (k : ℕ) × Level (Outer j) k s

  -- Y(j + 1) = Y(j), of which one half always holds
  abbrev pub Settled : ℕ → Type 0
  Settled j = (s : ℕ) → Outer j s → Outer (suc j) s

  -- the outer rounds: the least j with Y(j + 1) = Y(j)
  abbrev pub OuterRounds : ℕ → Type 0
  OuterRounds = Least Settled

  -- the almost-sure states, their ranks, and the moves handed out there
  abbrev pub Almost : ℕ → Type 0
  Almost s = (j : ℕ) × OuterRounds j × Outer j s

  abbrev pub AlmostRank : ℕ → ℕ → Type 0
  AlmostRank r s = (j : ℕ) × OuterRounds j × Enters (Level (Outer j)) r s

  abbrev pub AlmostMove : ℕ → ℕ → Type 0
  AlmostMove s a = (Target x s → ⊥) × ((j : ℕ) × OuterRounds j × Outer j s × Stay (Outer j) s a)

  -- a reply to the move a at a state that is not sure: a kept move b of player 2 and a successor that is not sure
  abbrev pub Reply : ℕ → ℕ → ℕ → ℕ → Type 0
  Reply s a b t = Keeps x Two s b × Leads x s a b t × ((k : ℕ) → Sure k t → ⊥)
