-- What is at fault is not good, layer by layer.
use Rattle.std.proofs.Common.{ℕ, List, Option, arith}
use Rattle.game.specs.Refusals.{Told}
use Rattle.layout.specs.Reading.{GoodGroup, GoodSet, GoodSupport, GoodRow, GoodRecord}
use Rattle.layout.specs.Faults.{BadGroup, missing, zero_byte, outside, BadSet, short_map, bad_group, BadSupport, bad_set, no_member}
use Rattle.layout.specs.Faults.{BadRow, no_first, zero_first, no_second, zero_second, bad_support, BadRecord, too_long, no_count, bad_row, remain}

module _ (n : ℕ) (bs : List ℕ) where
  pub bad_group_not_good : (p g : ℕ) (s : Option ℕ) (t : Told) → BadGroup n bs p g s t → GoodGroup n bs p g → ⊥
  bad_group_not_good p g s t (missing h e) good = omega arith
  bad_group_not_good p g s t (zero_byte h z e) good = omega arith
  bad_group_not_good p g s t (outside h i l b o e) good = omega (arith, good.2 i l b)

  pub bad_set_not_good : (p : ℕ) (s : Option ℕ) (t : Told) → BadSet n bs p s t → GoodSet n bs p → ⊥
  bad_set_not_good p s t (short_map h e) good = omega arith
  bad_set_not_good p s t (bad_group h g l b before bad) good = bad_group_not_good p g s t bad (good.1 g l b)

  pub bad_support_not_good : (p : ℕ) (s : Option ℕ) (t : Told) → BadSupport n bs p s t → GoodSupport n bs p → ⊥
  bad_support_not_good p s t (bad_set bad) good = bad_set_not_good p s t bad good.0
  bad_support_not_good p s t (no_member h z e) good = omega arith

  pub bad_row_not_good : (p s : ℕ) (t : Told) → BadRow n bs p s t → GoodRow n bs p → ⊥
  bad_row_not_good p s t (no_first h e) good = omega arith
  bad_row_not_good p s t (zero_first h z e) good = omega arith
  bad_row_not_good p s t (no_second h c e) good = omega arith
  bad_row_not_good p s t (zero_second h c z e) good = omega arith
  bad_row_not_good p s t (bad_support h c d k l before bad) good = bad_support_not_good _ _ t bad (good.3 k l)

pub bad_not_good : (bs : List ℕ) (t : Told) → BadRecord bs t → GoodRecord bs → ⊥
bad_not_good bs t (too_long h e) good = omega arith
bad_not_good bs t (no_count h e) good = omega arith
bad_not_good bs t (bad_row h l s m before bad) good = bad_row_not_good _ bs _ s t bad (good.2 s m)
bad_not_good bs t (remain h l rows r e) good = omega arith
