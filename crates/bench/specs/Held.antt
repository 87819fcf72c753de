-- What a bench holds, and what its calls leave.
use Rattle.std.specs.Prelude.{◌≡◌, ℕ, ◌<◌, ◌≤◌, true, false, List, Some, None, Ok, Err, Result}
use Rattle.game.specs.Below.{bit}
use Rattle.game.specs.Games.{Game}
use Rattle.game.specs.Refusals.{Told, bare, with_value}
use Rattle.game.specs.declared.mode.Mode.{Mode}
use Rattle.game.specs.declared.mode.Mode.TheVariants.{Sure}
use Rattle.game.specs.declared.player.Player.{Player}
use Rattle.game.specs.declared.player.Player.TheVariants.{One, Two}
use Rattle.game.specs.declared.refusal.Refusal.{Refusal}
use Rattle.game.specs.declared.source.Source.{Ghosts}
use Rattle.theory.specs.Benches.{Bench as Held, Call, Step}
use Rattle.theory.specs.Positions.{Position, Keeps, Leads}
use Rattle.solver.specs.Entries.{kept_in, target_in, verdict_in, position_of, rank_of}
use Rattle.solver.specs.declared.entries.Entry.{Entry}
use Rattle.bench.specs.declared.bench.Bench.{Bench}
use Rattle.bench.specs.Answers.{edited}

module _ {S : Type 0} {meaning : Ghosts S} where
  -- the game of a bench's source
  abbrev pub game_of : Bench S meaning → Game
  game_of b = meaning.game b.source

  -- the bench of the definitions that a bench stands for, and its position
  abbrev pub held : Bench S meaning → Held
  held b = record { target = target_in b.entries.at; kept = kept_in b.entries.at; solved = b.solved }

  abbrev pub position : Bench S meaning → Position
  position b = position_of (game_of b) b.entries.at

  -- An accepted edit leaves the entries given, with one field of one entry changed, and makes the bench unsolved; a refused one changes nothing.
  abbrev pub OneField : Result Unit Refusal → Bench S meaning → Bench S meaning → List Entry → Type 0
  OneField (Ok _) b c changed = (c.entries.at ≡ changed) × (c.solved ≡ false)
  OneField (Err _) b c changed = c ≡ b

  -- kept moves and target stay
  abbrev pub Stay : Bench S meaning → Bench S meaning → Type 0
  Stay b c = ((p : Player) (s : ℕ) → kept_in c.entries.at p s ≡ kept_in b.entries.at p s) × ((s : ℕ) → target_in c.entries.at s ≡ target_in b.entries.at s)

  -- each reply to the move a at s has only successors that are sure by the verdicts held
  abbrev pub NoReply : Bench S meaning → ℕ → ℕ → Type 0
  NoReply b s a = (m : ℕ) → Keeps (position b) Two s m → (t : ℕ) → Leads (position b) s a m t → (r : ℕ) × (rank_of (verdict_in b.entries.at Sure t) ≡ Some r)

  -- a reply by the verdicts held: player 2 keeps the move, and the successor is not sure
  abbrev pub RepliesBy : Bench S meaning → ℕ → ℕ → ℕ → ℕ → Type 0
  RepliesBy b s a m t = Keeps (position b) Two s m × Leads (position b) s a m t × (rank_of (verdict_in b.entries.at Sure t) ≡ None)

-- What an edit answers, and what it leaves.
pub record Edit {S : Type 0} {meaning : Ghosts S} (call : Call) (r : Result Unit Refusal) (b c : Bench S meaning) (changed : List Entry) : Type 0 where
  pub source : c.source ≡ b.source
  pub step : Step (game_of b) (held b) call (edited r) (held c)
  pub field : OneField r b c changed

-- The game lacks the state, or the player has no such move there.
pub data NoMoveThere (g : Game) (p : Player) (s m : ℕ) (t : Told) : Type 0 where
  no_state : g.size ≤ s → t ≡ with_value 1 s → NoMoveThere g p s m t
  no_move : s < g.size → bit (g.choices p s) m ≡ false → t ≡ with_value 2 m → NoMoveThere g p s m t

-- A question on s is not answered: the game lacks the state, or the bench is unsolved.
pub data NotAsked {S : Type 0} {meaning : Ghosts S} (b : Bench S meaning) (s : ℕ) (t : Told) : Type 0 where
  lacks_state : (game_of b).size ≤ s → t ≡ with_value 1 s → NotAsked b s t
  unsolved : s < (game_of b).size → b.solved ≡ false → t ≡ bare 5 → NotAsked b s t

-- The moves at s are not told: no question on s is answered, or the verdict held is that s is not winning.
pub data NotHanded {S : Type 0} {meaning : Ghosts S} (b : Bench S meaning) (mode : Mode) (s : ℕ) (t : Told) : Type 0 where
  not_asked : NotAsked b s t → NotHanded b mode s t
  not_winning : s < (game_of b).size → b.solved ≡ true → rank_of (verdict_in b.entries.at mode s) ≡ None → t ≡ bare 6 → NotHanded b mode s t

-- A reply to the move a at s is not told: no question on s is answered, the verdict held is that s is sure, or player 1 does not keep the move.
pub data NotCountered {S : Type 0} {meaning : Ghosts S} (b : Bench S meaning) (s a : ℕ) (t : Told) : Type 0 where
  not_asked : NotAsked b s t → NotCountered b s a t
  sure_state : (r : ℕ) → s < (game_of b).size → b.solved ≡ true → rank_of (verdict_in b.entries.at Sure s) ≡ Some r → t ≡ bare 7 → NotCountered b s a t
  not_kept : s < (game_of b).size → b.solved ≡ true → rank_of (verdict_in b.entries.at Sure s) ≡ None → bit (kept_in b.entries.at One s) a ≡ false → t ≡ with_value 8 a → NotCountered b s a t
