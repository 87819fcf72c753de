-- What a refusal tells: its number, and its values.
use Rattle.std.specs.Prelude.{ℕ, Some, None, Option}
use Rattle.game.specs.declared.refusal.Fault.{Fault}
use Rattle.game.specs.declared.refusal.Refusal.{Refusal}
use Rattle.game.specs.declared.refusal.Refusal.TheVariants.{NoState, NoMove, AlreadySo, OnlyMove, Unsolved, NotWinning, SureState, NotKept, NotSuccessor, PlayFull, EndsEarly, ZeroGroup, EmptySupport, MemberOutside, ZeroMoves, BytesRemain, TooLong, MonitorStates, TooManyStates, MonitorTable, ShortBuffer}

pub data Told : Type 0 where
  -- a number alone
  bare : ℕ → Told
  -- a number and one value: a state, a move, a successor or a place
  with_value : ℕ → ℕ → Told
  -- a number and where the fault stands
  at : ℕ → Fault → Told

abbrev pub told : Refusal → Told
told (NoState s) = with_value 1 s
told (NoMove m) = with_value 2 m
told AlreadySo = bare 3
told OnlyMove = bare 4
told Unsolved = bare 5
told NotWinning = bare 6
told SureState = bare 7
told (NotKept m) = with_value 8 m
told (NotSuccessor t) = with_value 9 t
told PlayFull = bare 10
told (EndsEarly f) = at 11 f
told (ZeroGroup f) = at 12 f
told (EmptySupport f) = at 13 f
told (MemberOutside f) = at 14 f
told (ZeroMoves f) = at 15 f
told (BytesRemain f) = at 16 f
told (TooLong f) = at 17 f
told MonitorStates = bare 18
told TooManyStates = bare 19
told (MonitorTable p) = with_value 20 p
told ShortBuffer = bare 21

abbrev pub number : Told → ℕ
number (bare n) = n
number (with_value n v) = n
number (at n f) = n

abbrev pub place : Told → Option Fault
place (bare n) = None
place (with_value n v) = None
place (at n f) = Some f
