-- What writing a record leaves and tells.
use Rattle.std.specs.Prelude.{◌≡◌, ℕ, ◌<◌, ◌≤◌, List, ◌++◌, length, drop, None, Ok, Err, Result}
use Rattle.game.specs.Refusals.{Told, bare, told}
use Rattle.game.specs.declared.refusal.Layer.TheVariants.{Record}
use Rattle.game.specs.declared.refusal.Refusal.{Refusal}
use Rattle.layout.specs.Faults.{fault}

-- Why a record of len bytes is not written into a buffer of room bytes: it is too long, 17, or else has no room, 21.
pub data NotWritten (len room : ℕ) (t : Told) : Type 0 where
  too_long : 60000 < len → t ≡ fault 17 0 Record None → NotWritten len room t
  no_room : len ≤ 60000 → room < len → t ≡ bare 21 → NotWritten len room t

-- The record bs is written into a buffer that held old and now holds new: the buffer begins with the record, and the
-- bytes past it stay; or it is refused, and the whole buffer stays.
abbrev pub Writes : List ℕ → List ℕ → List ℕ → Result ℕ Refusal → Type 0
Writes bs old new (Ok len) = (len ≡ length bs) × (len ≤ 60000) × (len ≤ length old) × (new ≡ bs ++ drop len old)
Writes bs old new (Err e) = (new ≡ old) × NotWritten (length bs) (length old) (told e)
