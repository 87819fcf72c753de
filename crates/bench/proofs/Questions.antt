-- Questions on a solved bench, as steps of the bench.
use Rattle.std.proofs.Common.{◌≡◌, ℕ, ◌<◌, true, false, List, is_some, Some, None, Ok, Option, sym, refl}
use Rattle.std.proofs.lemmas.Bool.{false≢true}
use Rattle.std.specs.Option.{MatchOption}
use Rattle.game.specs.Games.{WellFormed}
use Rattle.game.specs.Refusals.{Told, bare}
use Rattle.game.specs.declared.mode.Mode.{Mode}
use Rattle.game.specs.declared.mode.Mode.TheVariants.{Sure as InSure}
use Rattle.game.specs.declared.player.Player.TheVariants.{One}
use Rattle.game.specs.declared.source.Source.{Ghosts}
use Rattle.theory.specs.Benches.{Call, Names, verdict, moves, reply, Refuses, no_state, verdict_unsolved, moves_unsolved, reply_unsolved, moves_not_winning, reply_sure, reply_not_kept, verdict_ranked, verdict_not_winning, moves_set, replies, refused, ranked, not_winning, set, replied, Step, refuses, tells}
use Rattle.theory.specs.Positions.{Position, Playable, Keeps}
use Rattle.theory.specs.Ranking.{RankSays}
use Rattle.theory.specs.Verdicts.{Sure, SureRank}
use Rattle.theory.proofs.Finite.{leads_state}
use Rattle.theory.proofs.Layers.{upto_enters}
use Rattle.theory.proofs.Sure.{sure_grows, reply_some}
use Rattle.solver.specs.Entries.{verdict_in, rank_of, moves_of}
use Rattle.solver.specs.declared.entries.Entry.{Entry}
use Rattle.bench.specs.Answers.{judged}
use Rattle.bench.specs.Sound.{Sound}
use Rattle.bench.specs.Held.{game_of, held, position, NotAsked, NotHanded, NotCountered, NoReply, RepliesBy}
use Rattle.bench.specs.Held as there
use Rattle.bench.specs.declared.bench.Bench.{Bench}
use Rattle.bench.specs.declared.bench.Reply.{Reply}
use Rattle.bench.proofs.Sound.{sound_known}

-- whether there is a rank
pub rank_there : (v : Option ℕ) → is_some v ≡ true → (r : ℕ) × (v ≡ Some r)
rank_there (Some r) e = (r, refl)
rank_there None e = absurd (false≢true e)

pub no_rank : (v : Option ℕ) → is_some v ≡ false → v ≡ None
no_rank (Some r) e = absurd (false≢true (sym e))
no_rank None e = refl

-- the verdict held is that t is sure
abbrev pub HeldSure : List Entry → ℕ → Type 0
HeldSure entries t = (r : ℕ) × (rank_of (verdict_in entries InSure t) ≡ Some r)

-- a state without a rank is in no layer
never_sure : (x : Position) → Playable x → (s : ℕ) → ((r : ℕ) → SureRank x r s → ⊥) → (k : ℕ) → Sure x k s → ⊥
never_sure x ok s none k h = let (r, _, e) = upto_enters (sure_grows x ok) k s h in none r e

module _ {S : Type 0} {meaning : Ghosts S} (valid : (source : S) → WellFormed (meaning.game source)) (b : Bench S meaning) where
  sound : Sound (game_of b) b.entries.at b.solved
  sound = sound_known (valid b.source) b.sound

  -- what the verdict held on a state of a solved bench says
  rank_says : b.solved ≡ true → (mode : Mode) (s : ℕ) → s < (game_of b).size → {v : Option ℕ} → rank_of (verdict_in b.entries.at mode s) ≡ v → RankSays (position b) mode s v
  rank_says solved mode s l is = rw is at (sound.ranks solved mode s l)

  -- a question on a state that the game lacks, or on an unsolved bench, is refused
  not_asked_refused : (call : Call) (s : ℕ) → Names call s → (s < (game_of b).size → b.solved ≡ false → Refuses (game_of b) (held b) call (bare 5)) → {t : Told} → NotAsked b s t → Refuses (game_of b) (held b) call t
  not_asked_refused call s names unsolved (there.lacks_state l is) = rw is (no_state call s names l)
  not_asked_refused call s names unsolved (there.unsolved l e is) = rw is (unsolved l e)

  -- verdict
  pub verdict_step : (mode : Mode) (s : ℕ) (v : Option ℕ) → s < (game_of b).size → b.solved ≡ true → v ≡ rank_of (verdict_in b.entries.at mode s) → Step (game_of b) (held b) (verdict mode s) (judged (Ok v)) (held b)
  verdict_step mode s (Some r) l solved is = tells (held b) (verdict mode s) (ranked r) (verdict_ranked mode s r l solved (rank_says solved mode s l (sym is)))
  verdict_step mode s None l solved is = tells (held b) (verdict mode s) not_winning (verdict_not_winning mode s l solved (rank_says solved mode s l (sym is)))

  pub not_asked_step : (mode : Mode) (s : ℕ) {t : Told} → NotAsked b s t → Step (game_of b) (held b) (verdict mode s) (refused t) (held b)
  not_asked_step mode s {t} cause = refuses (held b) (verdict mode s) t (not_asked_refused (verdict mode s) s refl (verdict_unsolved mode s) cause)

  -- moves
  pub moves_step : (mode : Mode) (s r c : ℕ) → c < 256 → s < (game_of b).size → b.solved ≡ true → rank_of (verdict_in b.entries.at mode s) ≡ Some r → c ≡ moves_of (verdict_in b.entries.at mode s) → Step (game_of b) (held b) (moves mode s) (set c) (held b)
  moves_step mode s r c few l solved there is = tells (held b) (moves mode s) (set c) (moves_set mode s r c l solved (rank_says solved mode s l there) few (rw is (sound.moves solved mode s l)))

  not_handed_refused : (mode : Mode) (s : ℕ) {t : Told} → NotHanded b mode s t → Refuses (game_of b) (held b) (moves mode s) t
  not_handed_refused mode s (there.not_asked cause) = not_asked_refused (moves mode s) s refl (moves_unsolved mode s) cause
  not_handed_refused mode s (there.not_winning l solved none is) = rw is (moves_not_winning mode s l solved (rank_says solved mode s l none))

  pub not_handed_step : (mode : Mode) (s : ℕ) {t : Told} → NotHanded b mode s t → Step (game_of b) (held b) (moves mode s) (refused t) (held b)
  not_handed_step mode s {t} cause = refuses (held b) (moves mode s) t (not_handed_refused mode s cause)

  -- reply
  pub sure_held : (s a : ℕ) → s < (game_of b).size → b.solved ≡ true → is_some (rank_of (verdict_in b.entries.at InSure s)) ≡ true → NotCountered b s a (bare 7)
  sure_held s a l solved ranked_there = let (r, is) = rank_there (rank_of (verdict_in b.entries.at InSure s)) ranked_there in there.sure_state r l solved is refl

  pub reply_step : (s a m t : ℕ) → s < (game_of b).size → b.solved ≡ true → is_some (rank_of (verdict_in b.entries.at InSure s)) ≡ false → Keeps (position b) One s a → RepliesBy b s a m t → Step (game_of b) (held b) (reply s a) (replied m t) (held b)
  reply_step s a m t l solved none kept (keeps, leads, out) =
      let ok = sound.playable in
      let never = never_sure (position b) ok t (rank_says solved InSure t (leads_state ok s a m t leads) out) in
      tells (held b) (reply s a) (replied m t) (replies s a m t l solved (rank_says solved InSure s l (no_rank (rank_of (verdict_in b.entries.at InSure s)) none)) kept (keeps, leads, never))

  -- a state that is not sure has a reply to each kept move
  some_reply : (s a : ℕ) → s < (game_of b).size → b.solved ≡ true → is_some (rank_of (verdict_in b.entries.at InSure s)) ≡ false → Keeps (position b) One s a → NoReply b s a → ⊥
  some_reply s a l solved none kept all =
      let x = position b in
      let ok = sound.playable in
      let (m, (t, (keeps, leads, never))) = reply_some x ok s a l (never_sure x ok s (rank_says solved InSure s l (no_rank (rank_of (verdict_in b.entries.at InSure s)) none))) kept in
      let (r, is) = all m keeps t leads in
      let sure : SureRank x r t = rank_says solved InSure t (leads_state ok s a m t leads) is in
      never r sure.0

  pub reply_found : (s a : ℕ) → s < (game_of b).size → b.solved ≡ true → is_some (rank_of (verdict_in b.entries.at InSure s)) ≡ false → Keeps (position b) One s a → (found : Option Reply) → MatchOption found (NoReply b s a) (λ reply. RepliesBy b s a reply.b reply.successor) → is_some found ≡ true
  reply_found s a l solved none kept (Some back) h = refl
  reply_found s a l solved none kept None all = absurd (some_reply s a l solved none kept all)

  not_countered_refused : (s a : ℕ) {t : Told} → NotCountered b s a t → Refuses (game_of b) (held b) (reply s a) t
  not_countered_refused s a (there.not_asked cause) = not_asked_refused (reply s a) s refl (reply_unsolved s a) cause
  not_countered_refused s a (there.sure_state r l solved there is) = rw is (reply_sure s a r l solved (rank_says solved InSure s l there))
  not_countered_refused s a (there.not_kept l solved none off is) = rw is (reply_not_kept s a l solved (rank_says solved InSure s l none) off)

  pub not_countered_step : (s a : ℕ) {t : Told} → NotCountered b s a t → Step (game_of b) (held b) (reply s a) (refused t) (held b)
  not_countered_step s a {t} cause = refuses (held b) (reply s a) t (not_countered_refused s a cause)
