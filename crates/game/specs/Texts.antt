-- What players, modes, layers, faults and refusals are printed as.
use Rattle.std.specs.Prelude.{ℕ, List, [], ◌++◌, Some, None, Option, codes}
use Rattle.std.specs.Fmt.{decimal}
use Rattle.game.specs.Refusals.{told, number}
use Rattle.game.specs.declared.mode.Mode.{Mode}
use Rattle.game.specs.declared.mode.Mode.TheVariants.{Sure, Almost}
use Rattle.game.specs.declared.player.Player.{Player}
use Rattle.game.specs.declared.player.Player.TheVariants.{One, Two}
use Rattle.game.specs.declared.refusal.Fault.{Fault}
use Rattle.game.specs.declared.refusal.Layer.{Layer}
use Rattle.game.specs.declared.refusal.Layer.TheVariants.{Set, Row, Record}
use Rattle.game.specs.declared.refusal.Refusal.{Refusal}
use Rattle.game.specs.declared.refusal.Refusal.TheVariants.{NoState, NoMove, AlreadySo, OnlyMove, Unsolved, NotWinning, SureState, NotKept, NotSuccessor, PlayFull, EndsEarly, ZeroGroup, EmptySupport, MemberOutside, ZeroMoves, BytesRemain, TooLong, MonitorStates, TooManyStates, MonitorTable, ShortBuffer}

abbrev pub player_text : Player → List ℕ
player_text One = codes "1"
player_text Two = codes "2"

abbrev pub mode_text : Mode → List ℕ
mode_text Sure = codes "sure"
mode_text Almost = codes "almost"

abbrev pub layer_text : Layer → List ℕ
layer_text Set = codes "set"
layer_text Row = codes "row"
layer_text Record = codes "record"

-- the state in whose row a fault stands, if it stands in a row
abbrev pub row_text : Option ℕ → List ℕ
row_text None = []
row_text (Some s) = codes " state " ++ decimal s

-- as `at 7 in set state 0`
abbrev pub fault_text : Fault → List ℕ
fault_text f = codes "at " ++ decimal f.place ++ codes " in " ++ layer_text f.layer ++ row_text f.state

-- what stands behind the number of a refusal
abbrev pub values_text : Refusal → List ℕ
values_text (NoState s) = codes " state " ++ decimal s
values_text (NoMove m) = codes " move " ++ decimal m
values_text AlreadySo = []
values_text OnlyMove = []
values_text Unsolved = []
values_text NotWinning = []
values_text SureState = []
values_text (NotKept m) = codes " move " ++ decimal m
values_text (NotSuccessor t) = codes " state " ++ decimal t
values_text PlayFull = []
values_text (EndsEarly f) = codes " " ++ fault_text f
values_text (ZeroGroup f) = codes " " ++ fault_text f
values_text (EmptySupport f) = codes " " ++ fault_text f
values_text (MemberOutside f) = codes " " ++ fault_text f
values_text (ZeroMoves f) = codes " " ++ fault_text f
values_text (BytesRemain f) = codes " " ++ fault_text f
values_text (TooLong f) = codes " " ++ fault_text f
values_text MonitorStates = []
values_text TooManyStates = []
values_text (MonitorTable p) = codes " at " ++ decimal p
values_text ShortBuffer = []

-- as `refused 14 at 7 in set state 0`
abbrev pub refusal_text : Refusal → List ℕ
refusal_text r = codes "refused " ++ decimal (number (told r)) ++ values_text r
