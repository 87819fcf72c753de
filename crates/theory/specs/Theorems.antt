-- The theorems on verdicts and plays, each over every playable position.
use Rattle.std.specs.Prelude.{◌≡◌, ℕ, suc, ◌<◌, ◌≤◌, true, ◌⊎◌, ◌↔◌, List, Some, None}
use Rattle.game.specs.Below.{bit, elem}
use Rattle.game.specs.Games.{Game, WellFormed}
use Rattle.game.specs.declared.player.Player.TheVariants.{One, Two}
use Rattle.theory.specs.Positions.{Position, Playable, State, Keeps, Leads, Target}
use Rattle.theory.specs.Verdicts.{Sure, SureRank, SureMove, Outer, OuterRounds, Almost, AlmostRank, AlmostMove, Reply}
use Rattle.theory.specs.Strategies.{Strategy, Forces, ForcedIn, KeptInReach}
use Rattle.theory.specs.Computed.{sure_list, sure_rank, sure_set, outer_list, rounds, almost_list, almost_rank, almost_set, replies}
use Rattle.theory.specs.Benches.{Bench, Step, Ran, Call as BenchCall, Answer as BenchAnswer}
use Rattle.theory.specs.Laws.{BothReply, BenchLaw, VerdictLaw}
use Rattle.theory.specs.Plays.{Call, Answer, Play, Played, Guided, resting}

-- a state has a rank, or is in no layer
abbrev pub SureDecided : Type 0
SureDecided = (x : Position) → Playable x → (s : ℕ) → ((r : ℕ) × SureRank x r s) ⊎ ((k : ℕ) → Sure x k s → ⊥)

-- a rank is below the number of states
abbrev pub SureBound : Type 0
SureBound = (x : Position) → Playable x → (r s : ℕ) → SureRank x r s → r < x.game.size

-- a rank is the least number of rounds in which a strategy forces the target
abbrev pub SureMeans : Type 0
SureMeans = (x : Position) → Playable x → (r s : ℕ) → State x s → (SureRank x r s → ForcedIn x r s) × (ForcedIn x r s → SureRank x r s)

-- from a state without a rank no strategy forces the target
abbrev pub NeverForced : Type 0
NeverForced = (x : Position) → Playable x → (s : ℕ) → State x s → ((r : ℕ) → SureRank x r s → ⊥) → (names : List ℕ → ℕ → ℕ) (k : ℕ) → Strategy x names → Forces x names s k → ⊥

-- at a rank above 0 some move is handed out
abbrev pub SureMoveSome : Type 0
SureMoveSome = (x : Position) → Playable x → (r s : ℕ) → SureRank x (suc r) s → (a : ℕ) × SureMove x s a

-- each move handed out leads into lower ranks
abbrev pub SureMoveLower : Type 0
SureMoveLower = (x : Position) → Playable x → (r s a b t : ℕ) → SureRank x r s → SureMove x s a → Keeps x Two s b → Leads x s a b t → (q : ℕ) × (q < r) × SureRank x q t

-- at a state that is not sure each move has a reply
abbrev pub ReplySome : Type 0
ReplySome = (x : Position) → Playable x → (s a : ℕ) → State x s → ((k : ℕ) → Sure x k s → ⊥) → Keeps x One s a → (b : ℕ) × ((t : ℕ) × Reply x s a b t)

-- the outer rounds end, and there is one number of them, at most the number of states
abbrev pub RoundsEnd : Type 0
RoundsEnd = (x : Position) → Playable x → ((j : ℕ) × OuterRounds x j) × ((j k : ℕ) → OuterRounds x j → OuterRounds x k → j ≡ k) × ((j : ℕ) → OuterRounds x j → j ≤ x.game.size)

-- a state has one rank below the number of states, or is not almost sure
abbrev pub AlmostDecided : Type 0
AlmostDecided = (x : Position) → Playable x → (s : ℕ) → ((r : ℕ) × AlmostRank x r s) ⊎ (Almost x s → ⊥)

abbrev pub AlmostBound : Type 0
AlmostBound = (x : Position) → Playable x → (r s : ℕ) → AlmostRank x r s → Almost x s × (r < x.game.size) × ((q : ℕ) → AlmostRank x q s → q ≡ r)

-- a state is almost sure exactly when some rule of move sets keeps the target within reach
abbrev pub AlmostMeans : Type 0
AlmostMeans = (x : Position) → Playable x → (s : ℕ) → State x s → (Almost x s → KeptInReach x s) × (KeptInReach x s → Almost x s)

-- sure states are almost sure
abbrev pub SureAlmost : Type 0
SureAlmost = (x : Position) → Playable x → (k s : ℕ) → Sure x k s → Almost x s

-- outside the target some move is handed out at an almost-sure state
abbrev pub AlmostMoveSome : Type 0
AlmostMoveSome = (x : Position) → Playable x → (s : ℕ) → Almost x s → (Target x s → ⊥) → (a : ℕ) × AlmostMove x s a

-- A play begun at a state of rank r and played from the moves handed out has met the target once r rounds are settled.
abbrev pub PlayArrives : Type 0
PlayArrives = (x : Position) → Playable x → (r s : ℕ) → SureRank x r s → (calls : List Call) (answers : List Answer) (p : Play) (run : Played x s calls answers p) → Guided run → r ≤ (resting p).rounds → (resting p).met ≡ true

-- The computed verdicts are the verdicts. First sure: the states in the layers, the ranks, and the moves handed out.
abbrev pub SureComputed : Type 0
SureComputed = (x : Position) → Playable x → (k s : ℕ) → (elem s (sure_list x k) ≡ true) ↔ Sure x k s

abbrev pub SureRankComputed : Type 0
SureRankComputed = (x : Position) → Playable x → (s : ℕ) → ((r : ℕ) → (sure_rank x s ≡ Some r) ↔ SureRank x r s) × ((sure_rank x s ≡ None) ↔ ((r : ℕ) → SureRank x r s → ⊥))

abbrev pub SureMoveComputed : Type 0
SureMoveComputed = (x : Position) → Playable x → (s a : ℕ) → (bit (sure_set x s) a ≡ true) ↔ SureMove x s a

-- the sets of the outer rounds, and their number
abbrev pub OuterComputed : Type 0
OuterComputed = (x : Position) → Playable x → (j s : ℕ) → (elem s (outer_list x j) ≡ true) ↔ Outer x j s

abbrev pub RoundsComputed : Type 0
RoundsComputed = (x : Position) → Playable x → (j : ℕ) → (rounds x ≡ j) ↔ OuterRounds x j

-- almost sure: the states, the ranks, and the moves handed out
abbrev pub AlmostComputed : Type 0
AlmostComputed = (x : Position) → Playable x → (s : ℕ) → (elem s (almost_list x) ≡ true) ↔ Almost x s

abbrev pub AlmostRankComputed : Type 0
AlmostRankComputed = (x : Position) → Playable x → (s : ℕ) → ((r : ℕ) → (almost_rank x s ≡ Some r) ↔ AlmostRank x r s) × ((almost_rank x s ≡ None) ↔ (Almost x s → ⊥))

abbrev pub AlmostMoveComputed : Type 0
AlmostMoveComputed = (x : Position) → Playable x → (s a : ℕ) → (bit (almost_set x s) a ≡ true) ↔ AlmostMove x s a

-- the replies
abbrev pub ReplyComputed : Type 0
ReplyComputed = (x : Position) → Playable x → (s a b t : ℕ) → (replies x s a b t ≡ true) ↔ Reply x s a b t

-- After every run of calls the bench is what the calls and answers say, and its verdicts at each state mean strategies and rules.
abbrev pub RunsLaw : Type 0
RunsLaw = (g : Game) → WellFormed g → (calls : List BenchCall) (answers : List BenchAnswer) (b : Bench) → Ran g calls answers b → BenchLaw g calls answers b × ((s : ℕ) → s < g.size → VerdictLaw g calls answers b s)

-- after every run each call has an answer
abbrev pub CallsAnswered : Type 0
CallsAnswered = (g : Game) → WellFormed g → (calls : List BenchCall) (answers : List BenchAnswer) (b : Bench) → Ran g calls answers b → (call : BenchCall) → (answer : BenchAnswer) × ((c : Bench) × Step g b call answer c)

-- and one answer only, but for the choice of a reply
abbrev pub OneAnswer : Type 0
OneAnswer = (g : Game) → WellFormed g → (calls : List BenchCall) (answers : List BenchAnswer) (b : Bench) → Ran g calls answers b → (call : BenchCall) (v w : BenchAnswer) (c d : Bench) → Step g b call v c → Step g b call w d → (v ≡ w) ⊎ BothReply v w
