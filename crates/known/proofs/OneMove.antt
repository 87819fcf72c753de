-- In the barred game player 2 keeps one move at state 0.
use Rattle.std.proofs.Common.{◌≡◌, ℕ, true, refl, arith}
use Rattle.game.specs.Below.{bit}
use Rattle.game.specs.declared.player.Player.TheVariants.{Two}
use Rattle.game.proofs.Below.{bit_past}
use Rattle.theory.specs.Benches.{only_move}
use Rattle.known.specs.Cases.{OnlyMove}

zero_alone : (i : ℕ) → bit 1 i ≡ true → i ≡ 0
zero_alone i e = grind (arith, bit_past 1 1 i)

pub one_move : OnlyMove
one_move = only_move Two 0 0 (omega arith) refl refl zero_alone
