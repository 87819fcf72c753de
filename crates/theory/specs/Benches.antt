-- Benches: a game's moves barred and allowed, its states put into the target and taken out, and verdicts asked for, as a relation over
-- lists of calls and their answers.
use Rattle.std.specs.Prelude.{◌≡◌, ℕ, ◌<◌, ◌≤◌, Bool, true, false, cond, List, [], ◌∷◌, ◌==◌, ◌≢◌}
use Rattle.game.specs.Below.{bit, rank}
use Rattle.game.specs.Games.{Game}
use Rattle.game.specs.Refusals.{Told, bare, with_value}
use Rattle.game.specs.declared.mode.Mode.{Mode}
use Rattle.game.specs.declared.mode.Mode.TheVariants.{Sure as InSure, Almost as InAlmost}
use Rattle.game.specs.declared.player.Player.{Player}
use Rattle.game.specs.declared.player.Player.TheVariants.{One}
use Rattle.theory.specs.Positions.{Position, Keeps}
use Rattle.theory.specs.Verdicts.{SureRank, SureMove, OuterRounds, AlmostRank, AlmostMove, Reply}

-- a bench on a game: the target, the kept moves of each player at each state, and whether verdicts are known
pub record Bench : Type 0 where
  pub target : ℕ → Bool
  pub kept : Player → ℕ → ℕ
  pub solved : Bool

-- a new bench keeps all moves, has an empty target and is unsolved
abbrev pub opened : Game → Bench
opened g = record { target = λ s. false; kept = g.choices; solved = false }

-- the position that a bench stands for
abbrev pub position : Game → Bench → Position
position g b = record { game = g; kept = b.kept; target = b.target }

pub data Call : Type 0 where
  mark : ℕ → Call
  unmark : ℕ → Call
  bar : Player → ℕ → ℕ → Call
  allow : Player → ℕ → ℕ → Call
  solve : Call
  verdict : Mode → ℕ → Call
  moves : Mode → ℕ → Call
  reply : ℕ → ℕ → Call

pub data Answer : Type 0 where
  -- an edit was made
  done : Answer
  refused : Told → Answer
  -- how many states are sure, how many almost sure, and the outer rounds
  told : ℕ → ℕ → ℕ → Answer
  ranked : ℕ → Answer
  not_winning : Answer
  -- a set of moves, one bit for each move
  set : ℕ → Answer
  -- a move of player 2 and a successor
  replied : ℕ → ℕ → Answer

-- the call names the state
abbrev pub Names : Call → ℕ → Type 0
Names (mark s) t = s ≡ t
Names (unmark s) t = s ≡ t
Names (bar p s m) t = s ≡ t
Names (allow p s m) t = s ≡ t
Names solve t = ⊥
Names (verdict mode s) t = s ≡ t
Names (moves mode s) t = s ≡ t
Names (reply s a) t = s ≡ t

-- the ranks and the moves handed out in a mode
abbrev pub Rank : Position → Mode → ℕ → ℕ → Type 0
Rank x InSure = SureRank x
Rank x InAlmost = AlmostRank x

abbrev pub Handed : Position → Mode → ℕ → ℕ → Type 0
Handed x InSure = SureMove x
Handed x InAlmost = AlmostMove x

-- k numbers below n have P: some test tells those that have it, and k numbers below n pass the test
pub record Counts (P : ℕ → Type 0) (n k : ℕ) : Type 0 where
  pub passes : ℕ → Bool
  pub sound : (s : ℕ) → s < n → passes s ≡ true → P s
  pub whole : (s : ℕ) → s < n → P s → passes s ≡ true
  pub many : rank passes n ≡ k

-- Why a call is refused: the first cause in this order.
pub data Refuses (g : Game) (b : Bench) : Call → Told → Type 0 where
  no_state : (call : Call) (s : ℕ) → Names call s → g.size ≤ s → Refuses g b call (with_value 1 s)
  bar_no_move : (p : Player) (s m : ℕ) → s < g.size → bit (g.choices p s) m ≡ false → Refuses g b (bar p s m) (with_value 2 m)
  allow_no_move : (p : Player) (s m : ℕ) → s < g.size → bit (g.choices p s) m ≡ false → Refuses g b (allow p s m) (with_value 2 m)
  marked_already : (s : ℕ) → s < g.size → b.target s ≡ true → Refuses g b (mark s) (bare 3)
  unmarked_already : (s : ℕ) → s < g.size → b.target s ≡ false → Refuses g b (unmark s) (bare 3)
  barred_already : (p : Player) (s m : ℕ) → s < g.size → bit (g.choices p s) m ≡ true → bit (b.kept p s) m ≡ false → Refuses g b (bar p s m) (bare 3)
  allowed_already : (p : Player) (s m : ℕ) → s < g.size → bit (g.choices p s) m ≡ true → Keeps (position g b) p s m → Refuses g b (allow p s m) (bare 3)
  only_move : (p : Player) (s m : ℕ) → s < g.size → bit (g.choices p s) m ≡ true → Keeps (position g b) p s m → ((i : ℕ) → Keeps (position g b) p s i → i ≡ m) → Refuses g b (bar p s m) (bare 4)
  verdict_unsolved : (mode : Mode) (s : ℕ) → s < g.size → b.solved ≡ false → Refuses g b (verdict mode s) (bare 5)
  moves_unsolved : (mode : Mode) (s : ℕ) → s < g.size → b.solved ≡ false → Refuses g b (moves mode s) (bare 5)
  reply_unsolved : (s a : ℕ) → s < g.size → b.solved ≡ false → Refuses g b (reply s a) (bare 5)
  moves_not_winning : (mode : Mode) (s : ℕ) → s < g.size → b.solved ≡ true → ((r : ℕ) → Rank (position g b) mode r s → ⊥) → Refuses g b (moves mode s) (bare 6)
  reply_sure : (s a r : ℕ) → s < g.size → b.solved ≡ true → SureRank (position g b) r s → Refuses g b (reply s a) (bare 7)
  reply_not_kept : (s a : ℕ) → s < g.size → b.solved ≡ true → ((r : ℕ) → SureRank (position g b) r s → ⊥) → bit (b.kept One s) a ≡ false → Refuses g b (reply s a) (with_value 8 a)

-- What a question is answered. An edit makes the bench unsolved, so the verdicts of a solved bench are those of its present position.
pub data Tells (g : Game) (b : Bench) : Call → Answer → Type 0 where
  verdict_ranked : (mode : Mode) (s r : ℕ) → s < g.size → b.solved ≡ true → Rank (position g b) mode r s → Tells g b (verdict mode s) (ranked r)
  verdict_not_winning : (mode : Mode) (s : ℕ) → s < g.size → b.solved ≡ true → ((r : ℕ) → Rank (position g b) mode r s → ⊥) → Tells g b (verdict mode s) not_winning
  moves_set : (mode : Mode) (s r c : ℕ) → s < g.size → b.solved ≡ true → Rank (position g b) mode r s → c < 256 → ((a : ℕ) → (bit c a ≡ true → Handed (position g b) mode s a) × (Handed (position g b) mode s a → bit c a ≡ true)) → Tells g b (moves mode s) (set c)
  replies : (s a m t : ℕ) → s < g.size → b.solved ≡ true → ((r : ℕ) → SureRank (position g b) r s → ⊥) → Keeps (position g b) One s a → Reply (position g b) s a m t → Tells g b (reply s a) (replied m t)

-- a set of states after one was put in or taken out
abbrev pub with_state : (ℕ → Bool) → ℕ → Bool → ℕ → Bool
with_state target s v t = cond (t == s) v (target t)

-- The kept moves after one move m of p at s was allowed (true) or barred (false): no other move changes.
pub record MoveSet (old new : Player → ℕ → ℕ) (p : Player) (s m : ℕ) (v : Bool) : Type 0 where
  pub few : new p s < 256
  pub there : bit (new p s) m ≡ v
  pub other_moves : (i : ℕ) → (i ≢ m) → bit (new p s) i ≡ bit (old p s) i
  pub elsewhere : (q : Player) (t : ℕ) → ((q ≡ p) × (t ≡ s) → ⊥) → new q t ≡ old q t

-- What a call answers, and what the bench is after it. A refusal and a question leave it the same.
pub data Step (g : Game) : Bench → Call → Answer → Bench → Type 0 where
  refuses : (b : Bench) (call : Call) (why : Told) → Refuses g b call why → Step g b call (refused why) b
  tells : (b : Bench) (call : Call) (answer : Answer) → Tells g b call answer → Step g b call answer b
  marks : (b : Bench) (s : ℕ) → s < g.size → b.target s ≡ false → Step g b (mark s) done (record { target = with_state b.target s true; kept = b.kept; solved = false })
  unmarks : (b : Bench) (s : ℕ) → s < g.size → b.target s ≡ true → Step g b (unmark s) done (record { target = with_state b.target s false; kept = b.kept; solved = false })
  bars : (b : Bench) (p : Player) (s m i : ℕ) (new : Player → ℕ → ℕ) → s < g.size → bit (g.choices p s) m ≡ true → Keeps (position g b) p s m → Keeps (position g b) p s i → (i ≢ m) → MoveSet b.kept new p s m false → Step g b (bar p s m) done (record { target = b.target; kept = new; solved = false })
  allows : (b : Bench) (p : Player) (s m : ℕ) (new : Player → ℕ → ℕ) → s < g.size → bit (g.choices p s) m ≡ true → bit (b.kept p s) m ≡ false → MoveSet b.kept new p s m true → Step g b (allow p s m) done (record { target = b.target; kept = new; solved = false })
  solves : (b : Bench) (sure almost rounds : ℕ) → Counts (λ s. (r : ℕ) × SureRank (position g b) r s) g.size sure → Counts (λ s. (r : ℕ) × AlmostRank (position g b) r s) g.size almost → OuterRounds (position g b) rounds → Step g b solve (told sure almost rounds) (record { target = b.target; kept = b.kept; solved = true })

-- the calls of a bench on g since it was opened, the latest first, each with its answer
pub data Ran (g : Game) : List Call → List Answer → Bench → Type 0 where
  begins : Ran g [] [] (opened g)
  then : {calls : List Call} {answers : List Answer} {b c : Bench} {call : Call} {answer : Answer} → Ran g calls answers b → Step g b call answer c → Ran g (call ∷ calls) (answer ∷ answers) c
