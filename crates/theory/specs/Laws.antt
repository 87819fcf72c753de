-- What the calls and answers of a bench say, the latest first, and the law that joins them to the bench.
use Rattle.std.specs.Prelude.{◌≡◌, ℕ, true, ◌⊎◌, List, [], ◌∷◌}
use Rattle.game.specs.Below.{bit}
use Rattle.game.specs.Games.{Game}
use Rattle.game.specs.Refusals.{bare}
use Rattle.game.specs.declared.mode.Mode.{Mode}
use Rattle.game.specs.declared.mode.Mode.TheVariants.{Sure as InSure, Almost as InAlmost}
use Rattle.game.specs.declared.player.Player.{Player}
use Rattle.theory.specs.Positions.{Playable, Keeps}
use Rattle.theory.specs.Verdicts.{AlmostRank}
use Rattle.theory.specs.Strategies.{Strategy, Forces, ForcedIn, KeptInReach}
use Rattle.theory.specs.Benches.{Bench, position, Call, mark, unmark, bar, allow, solve, verdict, Answer, done, refused, ranked, not_winning, replied, Step}

-- each of two statements follows from the other
abbrev pub Exactly : Type 0 → Type 0 → Type 0
Exactly A B = (A → B) × (B → A)

-- the latest call of one of two kinds was of the first kind
abbrev pub Latest : (Call → Answer → Type 0) → (Call → Answer → Type 0) → List Call → List Answer → Type 0
Latest First Second [] answers = ⊥
Latest First Second (call ∷ calls) [] = ⊥
Latest First Second (call ∷ calls) (answer ∷ answers) = First call answer ⊎ (Latest First Second calls answers × (Second call answer → ⊥))

-- this call was accepted
abbrev pub Accepted : Call → Call → Answer → Type 0
Accepted this call answer = (call ≡ this) × (answer ≡ done)

-- the last accepted mark or unmark of s was a mark
abbrev pub InTarget : List Call → List Answer → ℕ → Type 0
InTarget calls answers s = Latest (Accepted (mark s)) (Accepted (unmark s)) calls answers

-- the last accepted bar or allow of the move was a bar
abbrev pub Barred : List Call → List Answer → Player → ℕ → ℕ → Type 0
Barred calls answers p s m = Latest (Accepted (bar p s m)) (Accepted (allow p s m)) calls answers

-- some solve has no accepted edit after it
abbrev pub GivesVerdicts : List Call → List Answer → Type 0
GivesVerdicts = Latest (λ call answer. call ≡ solve) (λ call answer. answer ≡ done)

-- an answer to verdict that is no refusal
abbrev pub Judged : Answer → Type 0
Judged answer = ((r : ℕ) × (answer ≡ ranked r)) ⊎ (answer ≡ not_winning)

-- two answers to reply that are no refusals
abbrev pub BothReply : Answer → Answer → Type 0
BothReply v w = (m : ℕ) × ((t : ℕ) × ((n : ℕ) × ((u : ℕ) × (v ≡ replied m t) × (w ≡ replied n u))))

-- What a bench on g is after calls with their answers.
pub record BenchLaw (g : Game) (calls : List Call) (answers : List Answer) (b : Bench) : Type 0 where
  pub playable : Playable (position g b)
  -- the target is what was marked last
  pub in_target : (s : ℕ) → Exactly (b.target s ≡ true) (InTarget calls answers s)
  -- a move is kept when the game has it and it was not barred last
  pub kept : (p : Player) (s m : ℕ) → Exactly (Keeps (position g b) p s m) ((bit (g.choices p s) m ≡ true) × (Barred calls answers p s m → ⊥))
  -- verdicts are known when some solve has no accepted edit after it
  pub solved : Exactly (b.solved ≡ true) (GivesVerdicts calls answers)

-- What verdict answers at a state s after those calls.
pub record VerdictLaw (g : Game) (calls : List Call) (answers : List Answer) (b : Bench) (s : ℕ) : Type 0 where
  -- no answer changes the bench
  pub same_bench : (mode : Mode) (answer : Answer) (c : Bench) → Step g b (verdict mode s) answer c → c ≡ b
  -- it is a rank or `not winning` when some solve has no accepted edit after it, and else the refusal 5
  pub judged : (mode : Mode) (answer : Answer) (c : Bench) → Step g b (verdict mode s) answer c → Exactly (Judged answer) (GivesVerdicts calls answers)
  pub unsolved : (mode : Mode) (answer : Answer) (c : Bench) → Step g b (verdict mode s) answer c → Exactly (answer ≡ refused (bare 5)) (GivesVerdicts calls answers → ⊥)
  -- in mode sure the rank is the least number of rounds in which a strategy forces the target
  pub ranked_sure : (r : ℕ) → Exactly (Step g b (verdict InSure s) (ranked r) b) (GivesVerdicts calls answers × ForcedIn (position g b) r s)
  pub not_sure : Exactly (Step g b (verdict InSure s) not_winning b) (GivesVerdicts calls answers × ((names : List ℕ → ℕ → ℕ) (k : ℕ) → Strategy (position g b) names → Forces (position g b) names s k → ⊥))
  -- in mode almost there is a rank when some rule of move sets keeps the target within reach
  pub almost_rank : (r : ℕ) → Exactly (Step g b (verdict InAlmost s) (ranked r) b) (GivesVerdicts calls answers × AlmostRank (position g b) r s)
  pub ranked_almost : Exactly ((r : ℕ) × Step g b (verdict InAlmost s) (ranked r) b) (GivesVerdicts calls answers × KeptInReach (position g b) s)
  pub not_almost : Exactly (Step g b (verdict InAlmost s) not_winning b) (GivesVerdicts calls answers × (KeptInReach (position g b) s → ⊥))
