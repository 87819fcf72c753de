-- The verdicts that entries hold, as they are put there one state at a time.
use Rattle.std.proofs.Common.{◌≡◌, ℕ, ◌+◌, ◌<◌, true, cond, List, length, get_or, Option, sym, refl, ap, ◌∙◌, subst, ⊎_elim, arith, get_or-set_other, get_or-set_same, below_more}
use mathlib.Core.Path.{fun_ext}
use Rattle.std.proofs.lemmas.Bool.{cases_eq}
use Rattle.game.specs.Below.{bit}
use Rattle.game.specs.Games.{Game}
use Rattle.game.specs.declared.mode.Mode.{Mode}
use Rattle.game.specs.declared.mode.Mode.TheVariants.{Sure, Almost}
use Rattle.game.specs.declared.player.Player.{Player}
use Rattle.game.specs.declared.player.Player.TheVariants.{One, Two}
use Rattle.theory.specs.Laws.{Exactly}
use Rattle.theory.specs.Positions.{Position, Playable}
use Rattle.theory.specs.Ranking.{rank_at, up_to, Within, RankFull, RankSays, MovesSay}
use Rattle.theory.specs.Verdicts.{Sure as InSure, Level, Outer, OuterRounds, Stay}
use Rattle.theory.proofs.Told.{sure_says, sure_moves, almost_says, almost_moves}
use Rattle.solver.specs.Entries.{blank, entry, kept_of, kept_in, target_in, verdict_in, position_of, with_verdicts, rank_of, moves_of}
use Rattle.solver.specs.Moves.{LowerMove}
use Rattle.solver.specs.declared.entries.Entry.{Entry}
use Rattle.solver.specs.declared.entries.Verdict.{Verdict}

-- entries that keep the same moves and have the same target
abbrev pub Alike : List Entry → List Entry → Type 0
Alike new old = ((p : Player) (s : ℕ) → kept_in new p s ≡ kept_in old p s) × ((s : ℕ) → target_in new s ≡ target_in old s)

pub alike_position : (g : Game) (new old : List Entry) → Alike new old → position_of g new ≡ position_of g old
alike_position g new old (kept, target) =
    ap (λ k. record { game = g; kept = k; target = target_in new }) (fun_ext (λ p. fun_ext (kept p)))
    ∙ ap (λ t. record { game = g; kept = kept_in old; target = t }) (fun_ext target)

-- the kept moves do not see the verdicts
kept_put : (e : Entry) (sure almost : Verdict) (p : Player) → kept_of (record { one = e.one; two = e.two; target = e.target; sure = sure; almost = almost }) p ≡ kept_of e p
kept_put e sure almost One = refl
kept_put e sure almost Two = refl

pub alike_put : (entries : List Entry) (n : ℕ) (sure almost : Verdict) → n < length entries → Alike (with_verdicts entries n sure almost) entries
alike_put entries n sure almost l = (
  λ p s.
      ⊎_elim
      (λ e. subst (λ i. kept_in (with_verdicts entries n sure almost) p i ≡ kept_in entries p i) (sym e) (ap (λ v. kept_of v p) (get_or-set_same entries n _ blank l) ∙ kept_put (entry entries n) sure almost p))
      (λ off. ap (λ v. kept_of v p) (get_or-set_other entries n s _ blank off))
      (cases_eq s n),
  λ s.
      ⊎_elim
      (λ e. subst (λ i. target_in (with_verdicts entries n sure almost) i ≡ target_in entries i) (sym e) (ap (λ v. v.target) (get_or-set_same entries n _ blank l)))
      (λ off. ap (λ v. v.target) (get_or-set_other entries n s _ blank off))
      (cases_eq s n),
)

-- the verdicts on s: in mode sure as the ranks tell, in mode almost as the levels and the stay moves tell
pub record Tells (x : Position) (ranks levels : List (Option ℕ)) (stay : List ℕ) (s : ℕ) (sure almost : Verdict) : Type 0 where
  pub sure_rank : rank_of sure ≡ rank_at ranks s
  pub sure_moves : (a : ℕ) → Exactly (bit (moves_of sure) a ≡ true) (LowerMove x ranks s a)
  pub almost_rank : rank_of almost ≡ rank_at levels s
  pub almost_moves : moves_of almost ≡ cond (x.target s) 0 (cond (up_to 255 (rank_at levels s)) (get_or stay s 0) 0)

-- entries like the old ones that hold the verdicts on the first n states
pub record Held (g : Game) (old : List Entry) (ranks levels : List (Option ℕ)) (stay : List ℕ) (n : ℕ) (new : List Entry) : Type 0 where
  pub alike : Alike new old
  pub verdicts : (s : ℕ) → s < n → Tells (position_of g old) ranks levels stay s (entry new s).sure (entry new s).almost

module _ {g : Game} {old : List Entry} {ranks levels : List (Option ℕ)} {stay : List ℕ} where
  pub held_none : Held g old ranks levels stay 0 old
  held_none = record { alike = (λ p s. refl, λ s. refl); verdicts = λ s l. absurd (omega arith) }

  -- one state on
  pub held_more : {n : ℕ} {now next : List Entry} (sure almost : Verdict) → n < length now → Held g old ranks levels stay n now → Tells (position_of g now) ranks levels stay n sure almost → next ≡ with_verdicts now n sure almost → Held g old ranks levels stay (n + 1) next
  held_more {n = n} {now = now} sure almost l held tells is =
      let (kept, target) = alike_put now n sure almost l in
      subst (Held g old ranks levels stay (n + 1)) (sym is)
      (record {
        alike = (λ p s. kept p s ∙ held.alike.0 p s, λ s. target s ∙ held.alike.1 s);
        verdicts =
            below_more (λ s. ToldOf s (entry (with_verdicts now n sure almost) s)) n
            (λ s m. subst (ToldOf s) (sym (get_or-set_other now n s _ blank (λ e. omega arith))) (held.verdicts s m))
            (subst (ToldOf n) (sym (get_or-set_same now n _ blank l)) (subst (λ x. Tells x ranks levels stay n sure almost) (alike_position g now old held.alike) tells));
      })
    where
      ToldOf : ℕ → Entry → Type 0
      ToldOf s e = Tells (position_of g old) ranks levels stay s e.sure e.almost

-- What the entries say at last, where the ranks are those of mode sure, and the levels and stay moves those of the last set Y(j).
module _
    {g : Game}
    {old new : List Entry}
    {ranks levels : List (Option ℕ)}
    {stay : List ℕ}
    {j : ℕ}
    (outer : List (Option ℕ))
    (held : Held g old ranks levels stay g.size new)
    (ok : Playable (position_of g old))
    (sure_full : (s : ℕ) → RankFull (InSure (position_of g old)) s (rank_at ranks s))
    (rounds : OuterRounds (position_of g old) j)
    (last : (s : ℕ) → Exactly (Within outer 255 s) (Outer (position_of g old) j s))
    (level_full : (s : ℕ) → RankFull (Level (position_of g old) (Within outer 255)) s (rank_at levels s))
    (stays : (s : ℕ) → Within outer 255 s → (a : ℕ) → Exactly (bit (get_or stay s 0) a ≡ true) (Stay (position_of g old) (Within outer 255) s a))
  where
    pub held_ranks : (mode : Mode) (s : ℕ) → s < g.size → RankSays (position_of g old) mode s (rank_of (verdict_in new mode s))
    held_ranks Sure s l = subst (RankSays (position_of g old) Sure s) (sym (held.verdicts s l).sure_rank) (sure_says (position_of g old) s (rank_at ranks s) (sure_full s))
    held_ranks Almost s l =
        subst (RankSays (position_of g old) Almost s) (sym (held.verdicts s l).almost_rank)
        (almost_says (position_of g old) ok j rounds (Within outer 255) last s (rank_at levels s) (level_full s))

    pub held_moves : (mode : Mode) (s : ℕ) → s < g.size → MovesSay (position_of g old) mode s (moves_of (verdict_in new mode s))
    held_moves Sure s l = λ a.
        let put = (held.verdicts s l).sure_moves a in
        let lower = sure_moves (position_of g old) ok ranks sure_full s a in
        (λ e. lower.0 (put.0 e), λ h. put.1 (lower.1 h))
    held_moves Almost s l =
        subst (MovesSay (position_of g old) Almost s) (sym (held.verdicts s l).almost_moves)
        (almost_moves (position_of g old) ok j rounds (Within outer 255) last s l (rank_at levels s) (level_full s) (get_or stay s 0) (stays s))
