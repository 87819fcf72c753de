-- The damaged forms of the record of one state: nothing is wrong before the last byte of its support.
use Rattle.std.proofs.Common.{ℕ, ◌≤◌, List, [], ◌∷◌, length, Some, refl, arith}
use Rattle.game.specs.Below.{below}
use Rattle.game.specs.Refusals.{Told}
use Rattle.game.specs.declared.refusal.Layer.TheVariants.{Set}
use Rattle.layout.specs.Faults.{fault, BadGroup, missing, zero_byte, outside, BadRecord, bad_group, bad_set, bad_support, bad_row}
use Rattle.layout.specs.Reading.{map_bit, group_place, sets_end, moves_in, row_sets, row_place}
use Rattle.layout.proofs.Opens.{one_state_record}
use Rattle.known.specs.Cases.{OneStateRecord}

-- a record of one state that is whole up to the byte at 7, where the byte of group 0 of its support stands
at_seven : (rest : List ℕ) (t : Told) → length rest ≤ 1 → BadGroup 1 (0 ∷ 1 ∷ 1 ∷ 1 ∷ 0 ∷ 0 ∷ 0 ∷ rest) 3 0 (Some 0) t → BadRecord (0 ∷ 1 ∷ 1 ∷ 1 ∷ 0 ∷ 0 ∷ 0 ∷ rest) t
unfolding map_bit sets_end moves_in row_sets row_place below
at_seven rest t l bad =
    bad_row (omega arith) (omega arith) 0 (omega arith) (λ r h. absurd (omega arith))
    (bad_support (omega arith) (omega arith) (omega arith) 0 (omega arith) (λ j h. absurd (omega arith))
    (bad_set (bad_group (omega arith) 0 (omega arith) refl (λ h k. absurd (omega arith)) bad)))

pub one_state_cases : OneStateRecord
unfolding group_place below
one_state_cases =
    record {
      whole = one_state_record;
      zero_last = at_seven (0 ∷ []) (fault 12 7 Set (Some 0)) (omega arith) (zero_byte (omega arith) refl refl);
      two_last = at_seven (2 ∷ []) (fault 14 7 Set (Some 0)) (omega arith) (outside (omega arith) 1 (omega arith) refl (omega arith) refl);
      none_last = at_seven [] (fault 11 7 Set (Some 0)) (omega arith) (missing (omega arith) refl);
    }
