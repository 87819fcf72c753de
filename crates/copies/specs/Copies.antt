-- What comes of opening bytes and writing the game again.
use Rattle.std.specs.Prelude.{◌≡◌, ℕ, zero, suc, ◌+◌, ◌*◌, ◌<◌, List, ◌++◌, length, drop, count_ones}
use Rattle.game.specs.Games.{Game}
use Rattle.game.specs.Refusals.{Told, bare}
use Rattle.game.specs.declared.player.Player.TheVariants.{One, Two}
use Rattle.layout.specs.Opening.{NotOpened}
use Rattle.layout.specs.Writing.{Records}

-- The bytes are the record of a game, and the buffer begins with the same bytes; what lay behind them stays.
pub record Rewritten (bs old new : List ℕ) (len : ℕ) : Type 0 where
  pub same_length : len ≡ length bs
  pub same_bytes : new ≡ bs ++ drop len old

-- The bytes are no record of a game, or the buffer is shorter than they are; the buffer stays as it was.
pub data NotRewritten (bs old new : List ℕ) (t : Told) : Type 0 where
  not_opened : NotOpened bs t → new ≡ old → NotRewritten bs old new t
  no_room : (g : Game) → Records bs g → length old < length bs → t ≡ bare 21 → new ≡ old → NotRewritten bs old new t

-- how many supports the states below n have: at each state one for each move of player 1 and each move of player 2
abbrev pub supports_below : Game → ℕ → ℕ
supports_below g zero = 0
supports_below g (suc n) = supports_below g n + count_ones (g.choices One n) * count_ones (g.choices Two n)
