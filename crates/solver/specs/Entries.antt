-- What the entries of a bench hold.
use Rattle.std.specs.Prelude.{ℕ, Bool, false, List, None, Option, slice_index_or, slice_set}
use Rattle.game.specs.Games.{Game}
use Rattle.game.specs.declared.mode.Mode.{Mode}
use Rattle.game.specs.declared.mode.Mode.TheVariants.{Sure, Almost}
use Rattle.game.specs.declared.player.Player.{Player}
use Rattle.game.specs.declared.player.Player.TheVariants.{One, Two}
use Rattle.theory.specs.Positions.{Position}
use Rattle.solver.specs.declared.entries.Entry.{Entry}
use Rattle.solver.specs.declared.entries.Verdict.{Verdict}

-- the rank that a verdict tells, if there is one, and the moves that it hands out
abbrev pub rank_of : Verdict → Option ℕ
rank_of v = v.rank

abbrev pub moves_of : Verdict → ℕ
moves_of v = v.moves

-- no rank, and no moves
abbrev pub no_verdict : Verdict
no_verdict = record { rank = None; moves = 0 }

-- no kept moves, not in the target, no verdicts
abbrev pub blank : Entry
blank = record { one = 0; two = 0; target = false; sure = no_verdict; almost = no_verdict }

-- the entry of s; past the last one, an entry that keeps no moves
abbrev pub entry : List Entry → ℕ → Entry
entry entries s = slice_index_or entries s blank

-- the kept moves of a player, and the verdict in a mode
abbrev pub kept_of : Entry → Player → ℕ
kept_of e One = e.one
kept_of e Two = e.two

abbrev pub kept_in : List Entry → Player → ℕ → ℕ
kept_in entries p s = kept_of (entry entries s) p

abbrev pub target_in : List Entry → ℕ → Bool
target_in entries s = (entry entries s).target

abbrev pub verdict_of : Entry → Mode → Verdict
verdict_of e Sure = e.sure
verdict_of e Almost = e.almost

abbrev pub verdict_in : List Entry → Mode → ℕ → Verdict
verdict_in entries mode s = verdict_of (entry entries s) mode

-- the position that the entries stand for
abbrev pub position_of : Game → List Entry → Position
position_of g entries = record { game = g; kept = kept_in entries; target = target_in entries }

-- an entry with one field changed, and the entries with such an entry at s
abbrev pub keeping : Entry → Player → ℕ → Entry
keeping e One moves = record { one = moves; two = e.two; target = e.target; sure = e.sure; almost = e.almost }
keeping e Two moves = record { one = e.one; two = moves; target = e.target; sure = e.sure; almost = e.almost }

abbrev pub with_kept : List Entry → Player → ℕ → ℕ → List Entry
with_kept entries p s moves = slice_set entries s (keeping (entry entries s) p moves)

abbrev pub with_target : List Entry → ℕ → Bool → List Entry
with_target entries s v = slice_set entries s (record { one = (entry entries s).one; two = (entry entries s).two; target = v; sure = (entry entries s).sure; almost = (entry entries s).almost })

abbrev pub with_verdicts : List Entry → ℕ → Verdict → Verdict → List Entry
with_verdicts entries s sure almost = slice_set entries s (record { one = (entry entries s).one; two = (entry entries s).two; target = (entry entries s).target; sure = sure; almost = almost })
