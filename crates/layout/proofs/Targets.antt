-- What is said of the bytes of a set once they are read, and once they are refused.
use Rattle.std.proofs.Common.{◌≡◌, ℕ, suc, min, List, [], ◌∷◌, length, sym, ap, ◌∙◌, arith}
use Rattle.std.proofs.lemmas.List.{take_all}
use Rattle.std.proofs.lemmas.Slice.{between_to_end}
use Rattle.game.specs.Games.{Ascends}
use Rattle.game.specs.Refusals.{Told}
use Rattle.game.proofs.Below.{ascends_below}
use Rattle.layout.specs.Writing.{set_bytes}
use Rattle.layout.specs.Reading.{set_end, set_at, in_set, Bytes, GoodSet}
use Rattle.layout.specs.Targets.{SetOf, GoodTarget, BadTarget, too_long, bad_set, remain, TargetRead, NotTarget}
use Rattle.layout.proofs.Exclusive.{bad_set_not_good}
use Rattle.layout.proofs.SetShown.{set_shows}
use Rattle.layout.proofs.SetWritten.{set_written}
use Rattle.layout.proofs.Stands.{Stands}

ascends_both : (m a b : ℕ) (xs : List ℕ) → Ascends m a xs → Ascends m b xs → Ascends m (min a b) xs
ascends_both m a b [] p q = tt
ascends_both m a b (x ∷ xs) p q = (p.0, omega arith, ascends_both (suc x) a b xs p.2 q.2)

set_at_ascends : (bs : List ℕ) → Ascends 0 256 (set_at bs 0)
unfolding set_at
set_at_ascends bs = ascends_below (in_set bs 0) 256

module _ (n : ℕ) (bs : List ℕ) where
  -- what stands in the bytes of a set
  written : (ys : List ℕ) → SetOf n bs ys → GoodTarget n bs × (set_at bs 0 ≡ ys)
  written ys s =
      let stands : Stands (set_bytes ys) 0 bs = take_all (length (set_bytes ys)) bs (omega (arith, ap length s.bytes)) ∙ sym s.bytes in
      let w = set_written (min n 256) bs 0 ys (omega arith) s.states stands in
      let good : GoodSet n bs 0 = (w.0.0, λ g l e. let h = w.0.1 g l e in (h.0, h.1, λ i j f. omega (arith, h.2 i j f))) in
      ((s.short, good, omega (arith, w.1, ap length s.bytes)), w.2)

  pub target_read : Bytes bs → GoodTarget n bs → TargetRead n bs (set_at bs 0)
  target_read whole good =
      let shows = set_shows n bs 0 whole good.1 in
      record {
        set_of_it =
            record {
              states = ascends_both 0 n 256 (set_at bs 0) shows.2 (set_at_ascends bs);
              bytes = sym shows.1 ∙ between_to_end bs 0 (set_end bs 0) (omega (arith, good.2));
              short = good.0;
            };
        no_other = λ ys s. sym (written ys s).1;
      }

  bad_target : (t : Told) → BadTarget n bs t → GoodTarget n bs → ⊥
  bad_target t (too_long l e) good = omega (arith, good.0)
  bad_target t (bad_set l b) good = bad_set_not_good n bs 0 _ t b good.1
  bad_target t (remain l g r e) good = omega (arith, good.2)

  pub not_target : (t : Told) → BadTarget n bs t → NotTarget n bs t
  not_target t bad = record { first_fault = bad; no_set = λ ys s. bad_target t bad (written ys s).0 }
