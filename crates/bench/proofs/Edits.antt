-- Edits of entries, as steps of the bench.
use Rattle.std.proofs.Common.{◌≡◌, ℕ, ◌<◌, ◌≤◌, Bool, true, false, cond, not, eqb, ltb, ◌⊎◌, List, length, set, sym, refl, ap, ◌∙◌, subst, inl, inr, ⊎_elim, arith, get_or-set_other, get_or-set_same}
use mathlib.Core.Bool.{beq}
use mathlib.Core.Logic.{∥∥₁_map}
use mathlib.Core.Path.{fun_ext}
use Rattle.std.proofs.lemmas.List.{get_or_past}
use Rattle.std.proofs.lemmas.Bool.{cases_lt, lt-ltb, false≢true, both_ways, cases_eq, eq-eqb, ne_eqb, cond-true, cond-false}
use Rattle.game.specs.Below.{bit}
use Rattle.game.specs.Games.{Game, WellFormed}
use Rattle.game.specs.declared.player.Player.{Player}
use Rattle.game.specs.declared.player.Player.TheVariants.{One, Two}
use Rattle.game.specs.Refusals.{Told, bare, with_value}
use Rattle.game.specs.declared.source.Source.{Ghosts}
use Rattle.theory.specs.Benches.{Bench as Held, opened, position as at_game, with_state, MoveSet, Call, Refuses, no_state, bar_no_move, allow_no_move, marked_already, unmarked_already, Step, refuses, mark, unmark, marks, unmarks, bars, allows, done, refused, bar, allow}
use Rattle.solver.specs.Entries.{entry, blank, kept_of, kept_in, target_in, keeping, with_kept, with_target}
use Rattle.solver.specs.declared.entries.Entry.{Entry}
use Rattle.bench.specs.Answers.{target_call}
use Rattle.bench.specs.Held.{game_of, held, Edit, NoMoveThere}
use Rattle.bench.specs.Sound.{Sound}
use Rattle.bench.specs.Held as there
use Rattle.bench.specs.declared.bench.Bench.{Bench}
use Rattle.solver.specs.declared.entries.Entries.{Entries}
use Rattle.game.proofs.Below.{bit_zero, bit_in_byte}
use Rattle.theory.specs.Positions.{Playable}
use Rattle.theory.proofs.Benches.{step_playable, opened_playable}
use Rattle.theory.proofs.Supports.{byte_found}

-- the entry at t after the one at s was changed
entry_set : (es : List Entry) (s t : ℕ) (e : Entry) → s < length es → (A : Type 0) (f : Entry → A) → f (entry (set es s e) t) ≡ cond (eqb t s) (f e) (f (entry es t))
entry_set es s t e l A f =
    ⊎_elim
    (λ is. ap (λ i. f (entry (set es s e) i)) is ∙ ap f (get_or-set_same es s e blank l) ∙ sym (cond-true (eqb t s) (f e) (f (entry es t)) (eq-eqb t s is)))
    (λ off. ap f (get_or-set_other es s t e blank off) ∙ sym (cond-false (eqb t s) (f e) (f (entry es t)) (ne_eqb t s off)))
    (cases_eq t s)

-- a field that the change leaves
entry_kept : (es : List Entry) (s t : ℕ) (e : Entry) → s < length es → (A : Type 0) (f : Entry → A) → f e ≡ f (entry es s) → f (entry (set es s e) t) ≡ f (entry es t)
entry_kept es s t e l A f same =
    ⊎_elim
    (λ is. ap (λ i. f (entry (set es s e) i)) is ∙ ap f (get_or-set_same es s e blank l) ∙ same ∙ ap (λ i. f (entry es i)) (sym is))
    (λ off. ap f (get_or-set_other es s t e blank off))
    (cases_eq t s)

-- marks and unmarks
target_new : (es : List Entry) (s : ℕ) (v : Bool) → s < length es → target_in (with_target es s v) ≡ with_state (target_in es) s v
target_new es s v l = fun_ext (λ t. entry_set es s t _ l Bool (λ e. e.target))

target_kept : (es : List Entry) (s : ℕ) (v : Bool) → s < length es → kept_in (with_target es s v) ≡ kept_in es
target_kept es s v l = fun_ext (λ p. fun_ext (λ t. entry_kept es s t _ l ℕ (λ e. kept_of e p) (same p)))
  where
    same : (p : Player) → kept_of (record { one = (entry es s).one; two = (entry es s).two; target = v; sure = (entry es s).sure; almost = (entry es s).almost }) p ≡ kept_of (entry es s) p
    same One = refl
    same Two = refl

-- the bench of entries
abbrev pub bench_of : List Entry → Bool → Held
bench_of es solved = record { target = target_in es; kept = kept_in es; solved = solved }

pub bench_is : {target target' : ℕ → Bool} {kept kept' : Player → ℕ → ℕ} → target ≡ target' → kept ≡ kept' → (solved : Bool) → ◌≡◌ {A = Held} (record { target = target; kept = kept; solved = solved }) (record { target = target'; kept = kept'; solved = solved })
bench_is e f solved = rw (e, f) refl

pub target_step : {S : Type 0} {meaning : Ghosts S} (valid : (source : S) → WellFormed (meaning.game source)) (b : Bench S meaning) (new : Entries) (s : ℕ) (v : Bool) → s < (game_of b).size → target_in b.entries.at s ≡ not v → new.at ≡ with_target b.entries.at s v → Step (game_of b) (held b) (target_call v s) done (bench_of new.at false)
target_step valid b new s v n off is = rw is (step v off)
  where
    l : s < length b.entries.at
    l = omega (arith, b.entries.whole, (valid b.source).few_states)

    step : (v : Bool) → target_in b.entries.at s ≡ not v → Step (game_of b) (held b) (target_call v s) done (bench_of (with_target b.entries.at s v) false)
    step true off = subst (Step (game_of b) (held b) (mark s) done) (sym (bench_is (target_new b.entries.at s true l) (target_kept b.entries.at s true l) false)) (marks (held b) s n off)
    step false off = subst (Step (game_of b) (held b) (unmark s) done) (sym (bench_is (target_new b.entries.at s false l) (target_kept b.entries.at s false l) false)) (unmarks (held b) s n off)

-- bars and allows
kept_target : (es : List Entry) (p : Player) (s c : ℕ) → s < length es → target_in (with_kept es p s c) ≡ target_in es
kept_target es p s c l = fun_ext (λ t. entry_kept es s t _ l Bool (λ e. e.target) (same p))
  where
    same : (p : Player) → (keeping (entry es s) p c).target ≡ (entry es s).target
    same One = refl
    same Two = refl

kept_there : (e : Entry) (p : Player) (c : ℕ) → kept_of (keeping e p c) p ≡ c
kept_there e One c = refl
kept_there e Two c = refl

kept_other : (e : Entry) (p q : Player) (c : ℕ) → (q ≡ p → ⊥) → kept_of (keeping e p c) q ≡ kept_of e q
kept_other e One One c off = absurd (off refl)
kept_other e One Two c off = refl
kept_other e Two One c off = refl
kept_other e Two Two c off = absurd (off refl)

same_player : (p q : Player) → (q ≡ p) ⊎ (q ≡ p → ⊥)
same_player One One = inl refl
same_player One Two = inr (λ e. grind arith)
same_player Two One = inr (λ e. grind arith)
same_player Two Two = inl refl

-- the kept moves that were put there
kept_here : (es : List Entry) (p : Player) (s c : ℕ) → s < length es → kept_in (with_kept es p s c) p s ≡ c
kept_here es p s c l = ap (λ e. kept_of e p) (get_or-set_same es s (keeping (entry es s) p c) blank l) ∙ kept_there (entry es s) p c

-- the kept moves after the bits of one set were changed at m
kept_set : (es : List Entry) (p : Player) (s m c : ℕ) (v : Bool) → s < length es → c < 256 → ((j : ℕ) → bit c j ≡ cond (eqb j m) v (bit (kept_in es p s) j)) → MoveSet (kept_in es) (kept_in (with_kept es p s c)) p s m v
kept_set es p s m c v l few bits = record {
  few = rw here few;
  there = ap (λ d. bit d m) here ∙ bits m ∙ cond-true (eqb m m) v (bit (kept_in es p s) m) (eq-eqb m m refl);
  other_moves = λ i off. ap (λ d. bit d i) here ∙ bits i ∙ cond-false (eqb i m) v (bit (kept_in es p s) i) (ne_eqb i m off);
  elsewhere = λ q t out.
      ⊎_elim
      (λ is. ⊎_elim
      (λ at. absurd (out (is, at)))
      (λ off. ap (λ e. kept_of e q) (get_or-set_other es s t (keeping (entry es s) p c) blank off))
      (cases_eq t s))
      (λ off. entry_kept es s t (keeping (entry es s) p c) l ℕ (λ e. kept_of e q) (kept_other (entry es s) p q c off))
      (same_player p q);
}
  where
    here : kept_in (with_kept es p s c) p s ≡ c
    here = kept_here es p s c l

-- no bit but m stands: m is the only one
pub only_bit : (old left m : ℕ) → ((j : ℕ) → bit left j ≡ cond (eqb j m) false (bit old j)) → left ≡ 0 → (i : ℕ) → bit old i ≡ true → i ≡ m
only_bit old left m bits none i on =
    ⊎_elim
    (λ is. is)
    (λ off. absurd (both_ways (bit old i) (sym (cond-false (eqb i m) false (bit old i) (ne_eqb i m off)) ∙ sym (bits i) ∙ ap (λ c. bit c i) none ∙ bit_zero i) on))
    (cases_eq i m)

-- another bit stands
other_bit : (old left m : ℕ) → left < 256 → ((j : ℕ) → bit left j ≡ cond (eqb j m) false (bit old j)) → (left ≡ 0 → ⊥) → (i : ℕ) × (bit old i ≡ true) × (i ≡ m → ⊥)
other_bit old left m small bits some =
    let (i, on) = byte_found left (omega arith) small in
    let off : i ≡ m → ⊥ = λ is. both_ways (bit left i) (bits i ∙ cond-true (eqb i m) false (bit old i) (eq-eqb i m is)) on in
    (i, sym (cond-false (eqb i m) false (bit old i) (ne_eqb i m off)) ∙ sym (bits i) ∙ on, off)

-- The kept moves of p at s were read, changed at the move m, which p has there, and put back.
module _ {S : Type 0} {meaning : Ghosts S} (valid : (source : S) → WellFormed (meaning.game source)) (b : Bench S meaning) (new : Entries) (p : Player) (s m old c : ℕ) (has : (s < (game_of b).size) × (bit ((game_of b).choices p s) m ≡ true)) (there : old ≡ kept_in b.entries.at p s) (few : c < 256) (is : new.at ≡ with_kept b.entries.at p s c) where
  l : s < length b.entries.at
  l = omega (arith, b.entries.whole, (valid b.source).few_states, has.0)

  pub kept_again : new.at ≡ with_kept b.entries.at p s (kept_in new.at p s)
  kept_again = is ∙ ap (λ d. with_kept b.entries.at p s d) (sym (ap (λ es. kept_in es p s) is ∙ kept_here b.entries.at p s c l))

  step_kept : (call : Call) → Step (game_of b) (held b) call done (record { target = target_in b.entries.at; kept = kept_in (with_kept b.entries.at p s c); solved = false }) → Step (game_of b) (held b) call done (bench_of new.at false)
  step_kept call step = rw is (subst (Step (game_of b) (held b) call done) (sym (bench_is (kept_target b.entries.at p s c l) refl false)) step)

  moved : (v : Bool) → ((j : ℕ) → bit c j ≡ cond (eqb j m) v (bit old j)) → MoveSet (kept_in b.entries.at) (kept_in (with_kept b.entries.at p s c)) p s m v
  moved v bits = kept_set b.entries.at p s m c v l few (λ j. bits j ∙ ap (λ k. cond (eqb j m) v (bit k j)) there)

  pub bar_step : ((j : ℕ) → bit c j ≡ cond (eqb j m) false (bit old j)) → bit old m ≡ true → (c ≡ 0 → ⊥) → Step (game_of b) (held b) (bar p s m) done (bench_of new.at false)
  bar_step bits on some =
      let (i, other, off) = other_bit old c m few bits some in
      let now = ap (λ k. bit k i) (sym there) ∙ other in
      step_kept (bar p s m) (bars (held b) p s m i (kept_in (with_kept b.entries.at p s c)) has.0 has.1 (ap (λ k. bit k m) (sym there) ∙ on) now off (moved false bits))

  pub allow_step : ((j : ℕ) → bit c j ≡ cond (eqb j m) (ltb m 8) (bit old j)) → bit old m ≡ false → Step (game_of b) (held b) (allow p s m) done (bench_of new.at false)
  allow_step bits off =
      let low : ltb m 8 ≡ true = lt-ltb m 8 (bit_in_byte ((game_of b).choices p s) m ((valid b.source).few_moves p s) has.1) in
      step_kept (allow p s m) (allows (held b) p s m (kept_in (with_kept b.entries.at p s c)) has.0 has.1 (ap (λ k. bit k m) (sym there) ∙ off) (moved true (λ j. bits j ∙ ap (λ v. cond (eqb j m) v (bit old j)) low)))

-- an edit leaves a bench sound
pub edited_sound : {g : Game} {call : Call} {es new : List Entry} {solved : Bool} → ∥ Sound g es solved ∥₁ → Step g (bench_of es solved) call done (bench_of new false) → ∥ Sound g new false ∥₁
edited_sound {g = g} sound step = ∥∥₁_map sound (λ so. record { playable = step_playable g step so.playable; ranks = λ e. absurd (false≢true e); moves = λ e. absurd (false≢true e) })

-- marks and unmarks that are refused
pub target_no_state : {S : Type 0} {meaning : Ghosts S} (b : Bench S meaning) (v : Bool) (s : ℕ) {t : Told} → (game_of b).size ≤ s → t ≡ with_value 1 s → Step (game_of b) (held b) (target_call v s) (refused t) (held b)
target_no_state b true s {t} l is = refuses (held b) (mark s) t (rw is (no_state (mark s) s refl l))
target_no_state b false s {t} l is = refuses (held b) (unmark s) t (rw is (no_state (unmark s) s refl l))

pub target_already : (g : Game) (b : Held) (v : Bool) (s : ℕ) → s < g.size → b.target s ≡ v → Refuses g b (target_call v s) (bare 3)
target_already g b true s l e = marked_already s l e
target_already g b false s l e = unmarked_already s l e

-- a test of two truth values that fails
pub other_truth : (v w : Bool) → beq v w ≡ false → v ≡ not w
other_truth true true e = absurd (both_ways true e refl)
other_truth true false e = refl
other_truth false true e = refl
other_truth false false e = absurd (both_ways true e refl)

-- bars and allows of a move that is not there
module _ {S : Type 0} {meaning : Ghosts S} (b : Bench S meaning) (p : Player) (s m : ℕ) where
  pub bar_no_such : {t : Told} → NoMoveThere (game_of b) p s m t → Step (game_of b) (held b) (bar p s m) (refused t) (held b)
  bar_no_such {t} (there.no_state l is) = refuses (held b) (bar p s m) t (rw is (no_state (bar p s m) s refl l))
  bar_no_such {t} (there.no_move l off is) = refuses (held b) (bar p s m) t (rw is (bar_no_move p s m l off))

  pub allow_no_such : {t : Told} → NoMoveThere (game_of b) p s m t → Step (game_of b) (held b) (allow p s m) (refused t) (held b)
  allow_no_such {t} (there.no_state l is) = refuses (held b) (allow p s m) t (rw is (no_state (allow p s m) s refl l))
  allow_no_such {t} (there.no_move l off is) = refuses (held b) (allow p s m) t (rw is (allow_no_move p s m l off))

-- a new bench: all moves of the game at each entry, and no target
kept_past : (es : Entries) (p : Player) (s : ℕ) → 256 ≤ s → kept_in es.at p s ≡ 0
kept_past es p s l = ap (λ e. kept_of e p) (get_or_past es.at s blank (omega (arith, es.whole))) ∙ none p
  where
    none : (p : Player) → kept_of blank p ≡ 0
    none One = refl
    none Two = refl

pub opened_is : (g : Game) → WellFormed g → (es : Entries) → ((p : Player) (s : ℕ) → s < 256 → kept_in es.at p s ≡ g.choices p s) → ((s : ℕ) → target_in es.at s ≡ false) → bench_of es.at false ≡ opened g
opened_is g ok es kept target =
    bench_is
    (fun_ext target)
    (fun_ext (λ p. fun_ext (λ s. ⊎_elim (kept p s) (λ l. kept_past es p s l ∙ sym (ok.no_move p s (omega (arith, ok.few_states)))) (cases_lt s 256))))
    false

pub opened_sound : (g : Game) → WellFormed g → (es : List Entry) → bench_of es false ≡ opened g → ∥ Sound g es false ∥₁
opened_sound g ok es is = ∣ record {
  playable = subst (λ h. Playable (at_game g h)) (sym is) (opened_playable g ok);
  ranks = λ e. absurd (false≢true e);
  moves = λ e. absurd (false≢true e);
} ∣₁
