-- Cases of which the outcome is known beforehand, shown of the definitions.
use Rattle.std.specs.Prelude.{false, [], ◌∷◌, Some}
use Rattle.game.specs.declared.refusal.Layer.TheVariants.{Set}
use Rattle.game.specs.Refusals.{bare}
use Rattle.game.specs.declared.player.Player.TheVariants.{Two}
use Rattle.layout.specs.Faults.{fault, BadRecord}
use Rattle.layout.specs.Opening.{one_state}
use Rattle.layout.specs.Writing.{Records}
use Rattle.theory.specs.Benches.{Bench, Refuses, bar}
use Rattle.theory.specs.Known.{Known, hide_game, hide_barred}

-- The record of the game with one state, and what its damaged forms are told: the last byte as 00, as 02, and missing.
pub record OneStateRecord : Type 0 where
  pub whole : Records (0 ∷ 1 ∷ 1 ∷ 1 ∷ 0 ∷ 0 ∷ 0 ∷ 1 ∷ []) one_state
  pub zero_last : BadRecord (0 ∷ 1 ∷ 1 ∷ 1 ∷ 0 ∷ 0 ∷ 0 ∷ 0 ∷ []) (fault 12 7 Set (Some 0))
  pub two_last : BadRecord (0 ∷ 1 ∷ 1 ∷ 1 ∷ 0 ∷ 0 ∷ 0 ∷ 2 ∷ []) (fault 14 7 Set (Some 0))
  pub none_last : BadRecord (0 ∷ 1 ∷ 1 ∷ 1 ∷ 0 ∷ 0 ∷ 0 ∷ []) (fault 11 7 Set (Some 0))

-- In game H with move 1 of player 2 barred at state 0, a bar of its move 0 there is refused, since it is the only move kept.
abbrev pub barred_bench : Bench
barred_bench = record { target = hide_barred.target; kept = hide_barred.kept; solved = false }

abbrev pub OnlyMove : Type 0
OnlyMove = Refuses hide_game barred_bench (bar Two 0 0) (bare 4)

-- the verdicts of the known games, that refusal, and the record of one state with its damaged forms
pub record KnownCases : Type 0 where
  pub games : Known
  pub only_move : OnlyMove
  pub records : OneStateRecord
