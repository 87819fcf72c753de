-- What a table says once it is opened, once it is refused, and before its first opening.
use Rattle.std.proofs.Common.{◌≡◌, ℕ, zero, suc, ◌<◌, true, cond, ◌&&◌, eqb, List, [], ◌∷◌, refl, ap, ◌∙◌, arith}
use lib.Dec.{eqb-suc-zero}
use Rattle.std.proofs.lemmas.Bool.{both_ways, ne_eqb, cond-false, cond_both}
use Rattle.game.specs.Below.{below, bit, elem, weigh}
use Rattle.game.proofs.Below.{bit_past, bit_zero}
use Rattle.game.specs.Games.{Ascends, Chosen, WellFormed, Same}
use Rattle.game.specs.Refusals.{Told}
use Rattle.layout.specs.Writing.{group, map_byte, set_bytes, row_bytes, record_of, Records}
use Rattle.layout.specs.Reading.{shown, Bytes, GoodRecord}
use Rattle.layout.specs.Faults.{BadRecord}
use Rattle.layout.specs.Placed.{Ready}
use Rattle.layout.specs.Opening.{Opened, NotOpened, one_state}
use Rattle.layout.proofs.Exclusive.{bad_not_good}
use Rattle.layout.proofs.Ready.{ready_known}
use Rattle.layout.proofs.Shown.{good_shows}
use Rattle.layout.proofs.Written.{record_good}

pub ready_game : (bs rows firsts supports : List ℕ) → ∥ Ready bs rows firsts supports ∥₁ → WellFormed (shown bs)
ready_game bs rows firsts supports ready = let r = ready_known bs rows firsts supports ready in (good_shows bs r.0 r.1).game

pub opened : (bs : List ℕ) → Bytes bs → GoodRecord bs → Opened bs (shown bs)
opened bs whole good = record { record_of_it = good_shows bs whole good; no_other = λ g r. (record_good bs g r).1 }

pub not_opened : (bs : List ℕ) (t : Told) → BadRecord bs t → NotOpened bs t
not_opened bs t bad = record { first_fault = bad; no_record = λ g r. bad_not_good bs t bad (record_good bs g r).0 }

-- the one move set that has a move is that of state 0, and its one move is 0
zero_state : (s i : ℕ) → bit (cond (eqb s 0) 1 0) i ≡ true → (s ≡ 0) × (i ≡ 0)
zero_state zero zero e = (refl, refl)
zero_state zero (suc i) e = absurd (both_ways _ (bit_past 1 1 (suc i) (omega arith) (omega arith)) e)
zero_state (suc s) i e = absurd (both_ways _ (ap (λ t. bit (cond t 1 0) i) (eqb-suc-zero s) ∙ bit_zero i) e)

bit_one_zero : bit 1 0 ≡ true
bit_one_zero = refl

one_next : (s a b : ℕ) → Chosen one_state s a b → one_state.support s a b ≡ 0 ∷ []
one_next s a b c =
    let first = zero_state s a c.0 in
    let second = zero_state s b c.1 in
    rw (first.0, first.1, second.1)

one_ascends : (s a b : ℕ) → Ascends 0 1 (one_state.support s a b)
one_ascends s a b = cond_both (eqb s 0 && eqb a 0 && eqb b 0) (0 ∷ []) [] (Ascends 0 1) (λ _. (omega arith, omega arith, tt)) (λ _. tt)

one_no_next : (s a b : ℕ) → (Chosen one_state s a b → ⊥) → one_state.support s a b ≡ []
one_no_next zero zero zero n = absurd (n (bit_one_zero, bit_one_zero))
one_no_next (suc s) a b n = rw (eqb-suc-zero s)
one_no_next zero (suc a) b n = rw (eqb-suc-zero a)
one_no_next zero zero (suc b) n = rw (eqb-suc-zero b)

one_state_game : WellFormed one_state
one_state_game =
    record {
      some_state = omega arith;
      few_states = omega arith;
      some_move = λ p s l. let z : s ≡ 0 = omega arith in rw z (omega arith);
      few_moves = λ p s. cond_both (eqb s 0) 1 0 (λ m. m < 256) (λ _. omega arith) (λ _. omega arith);
      no_move = λ p s l. cond-false (eqb s 0) 1 0 (ne_eqb s 0 (omega arith));
      some_next = λ s a b c. rw (one_next s a b c) (omega arith);
      ascends = one_ascends;
      no_next = one_no_next;
    }

one_state_bytes : record_of one_state ≡ 0 ∷ 1 ∷ 1 ∷ 1 ∷ 0 ∷ 0 ∷ 0 ∷ 1 ∷ []
unfolding record_of row_bytes set_bytes map_byte group weigh elem below
one_state_bytes = refl

pub one_state_record : Records (0 ∷ 1 ∷ 1 ∷ 1 ∷ 0 ∷ 0 ∷ 0 ∷ 1 ∷ []) one_state
one_state_record = record { game = one_state_game; bytes = one_state_bytes; short = omega arith }

pub one_state_shown : Same one_state (shown (0 ∷ 1 ∷ 1 ∷ 1 ∷ 0 ∷ 0 ∷ 0 ∷ 1 ∷ []))
one_state_shown = (record_good _ _ one_state_record).1

pub one_state_opens : (t : Told) → BadRecord (0 ∷ 1 ∷ 1 ∷ 1 ∷ 0 ∷ 0 ∷ 0 ∷ 1 ∷ []) t → ⊥
one_state_opens t bad = bad_not_good _ t bad (record_good _ _ one_state_record).0
