-- The ways in which a call is answered exclude each other: each call has one answer, but for the choice of a reply.
use Rattle.std.proofs.Common.{◌≡◌, ℕ, ◌<◌, true, false, ◌⊎◌, sym, refl, ap, ◌∙◌, inl, inr, arith, ◌≤◌}
use Rattle.std.proofs.lemmas.Bool.{both_ways}
use Rattle.game.specs.Below.{bit}
use Rattle.game.specs.Games.{Game}
use Rattle.game.proofs.Below.{rank_same}
use Rattle.game.proofs.Digits.{same_bits}
use Rattle.game.specs.declared.mode.Mode.{Mode}
use Rattle.game.specs.declared.mode.Mode.TheVariants.{Sure as InSure, Almost as InAlmost}
use Rattle.game.specs.declared.player.Player.{Player}
use Rattle.game.specs.Refusals.{Told, with_value}
use Rattle.theory.specs.Positions.{Position, Playable, Keeps}
use Rattle.theory.specs.Laws.{BothReply}
use Rattle.theory.proofs.Sure.{sure_grows}
use Rattle.theory.proofs.Layers.{enters_one}
use Rattle.theory.proofs.Almost.{almost_rank_one}
use Rattle.theory.proofs.Rounds.{rounds_unique}
use Rattle.theory.specs.Benches.{Bench, position, Call, mark, unmark, bar, allow, solve, Names, Refuses, no_state, bar_no_move, allow_no_move, marked_already, unmarked_already, barred_already, allowed_already, only_move, verdict_unsolved, moves_unsolved, reply_unsolved, moves_not_winning, reply_sure, reply_not_kept, Rank, Counts, Answer, refused, ranked, set, Tells, verdict_ranked, verdict_not_winning, moves_set, replies, Step, refuses, tells, marks, unmarks, bars, allows, solves}
use Rattle.theory.proofs.Benches.{refuses_solve}

-- a call names one state
names_one : (call : Call) (s t : ℕ) → Names call s → Names call t → s ≡ t
names_one solve s t e f = absurd e
names_one call s t e f = sym e ∙ f

-- a refused call that names a state past the last is told that state
refuses_past : {g : Game} {b : Bench} {call : Call} {v : Told} → Refuses g b call v → (s : ℕ) → Names call s → g.size ≤ s → v ≡ with_value 1 s
refuses_past (no_state call t f m) s e i = ap (with_value 1) (names_one call t s f e)
refuses_past (bar_no_move p t m l h) s e i = absurd (omega (arith, e))
refuses_past (barred_already p t m l h k) s e i = absurd (omega (arith, e))
refuses_past (only_move p t m l h k o) s e i = absurd (omega (arith, e))
refuses_past (allow_no_move p t m l h) s e i = absurd (omega (arith, e))
refuses_past (allowed_already p t m l h k) s e i = absurd (omega (arith, e))
refuses_past (marked_already t l h) s e i = absurd (omega (arith, e))
refuses_past (unmarked_already t l h) s e i = absurd (omega (arith, e))
refuses_past (verdict_unsolved mode t l u) s e i = absurd (omega (arith, e))
refuses_past (moves_unsolved mode t l u) s e i = absurd (omega (arith, e))
refuses_past (moves_not_winning mode t l u n) s e i = absurd (omega (arith, e))
refuses_past (reply_unsolved t a l u) s e i = absurd (omega (arith, e))
refuses_past (reply_sure t a r l u h) s e i = absurd (omega (arith, e))
refuses_past (reply_not_kept t a l u n k) s e i = absurd (omega (arith, e))

-- of two causes for which a call at a state of the game is refused, each is the other
refuses_one : {g : Game} {b : Bench} {call : Call} {v w : Told} → Refuses g b call v → Refuses g b call w → v ≡ w
refuses_one (no_state call s e i) k = sym (refuses_past k s e i)
refuses_one h (no_state call s e i) = refuses_past h s e i
refuses_one (bar_no_move p s m l h) (barred_already _ _ _ l' h' k') = absurd (grind arith)
refuses_one (bar_no_move p s m l h) (only_move _ _ _ l' h' k' o') = absurd (grind arith)
refuses_one (barred_already p s m l h k) (bar_no_move _ _ _ l' h') = absurd (grind arith)
refuses_one (barred_already p s m l h k) (only_move _ _ _ l' h' k' o') = absurd (grind arith)
refuses_one (only_move p s m l h k o) (bar_no_move _ _ _ l' h') = absurd (grind arith)
refuses_one (only_move p s m l h k o) (barred_already _ _ _ l' h' k') = absurd (grind arith)
refuses_one (allow_no_move p s m l h) (allowed_already _ _ _ l' h' k') = absurd (grind arith)
refuses_one (allowed_already p s m l h k) (allow_no_move _ _ _ l' h') = absurd (grind arith)
refuses_one (moves_unsolved mode s l u) (moves_not_winning _ _ l' u' n') = absurd (grind arith)
refuses_one (moves_not_winning mode s l u n) (moves_unsolved _ _ l' u') = absurd (grind arith)
refuses_one (reply_unsolved s a l u) (reply_sure _ _ r' l' u' h') = absurd (grind arith)
refuses_one (reply_unsolved s a l u) (reply_not_kept _ _ l' u' n' k') = absurd (grind arith)
refuses_one (reply_sure s a r l u h) (reply_unsolved _ _ l' u') = absurd (grind arith)
refuses_one (reply_sure s a r l u h) (reply_not_kept _ _ l' u' n' k') = absurd (n' r h)
refuses_one (reply_not_kept s a l u n k) (reply_unsolved _ _ l' u') = absurd (grind arith)
refuses_one (reply_not_kept s a l u n k) (reply_sure _ _ r' l' u' h') = absurd (n r' h')
refuses_one h k = refl

-- a question that is refused is not answered
refuses_tells : {g : Game} {b : Bench} {call : Call} {v : Told} {w : Answer} → Refuses g b call v → Tells g b call w → ⊥
refuses_tells (no_state _ z e i) (verdict_ranked mode s r l u h) = omega (arith, e, i, l)
refuses_tells (no_state _ z e i) (verdict_not_winning mode s l u n) = omega (arith, e, i, l)
refuses_tells (no_state _ z e i) (moves_set mode s r c l u h small those) = omega (arith, e, i, l)
refuses_tells (no_state _ z e i) (replies s a m t l u n k h) = omega (arith, e, i, l)
refuses_tells (verdict_unsolved mode s l u) (verdict_ranked _ _ r' l' u' h') = grind arith
refuses_tells (verdict_unsolved mode s l u) (verdict_not_winning _ _ l' u' n') = grind arith
refuses_tells (moves_unsolved mode s l u) (moves_set _ _ r' c' l' u' h' small' those') = grind arith
refuses_tells (moves_not_winning mode s l u n) (moves_set _ _ r' c' l' u' h' small' those') = n r' h'
refuses_tells (reply_unsolved s a l u) (replies _ _ m' t' l' u' n' k' h') = grind arith
refuses_tells (reply_sure s a r l u h) (replies _ _ m' t' l' u' n' k' h') = n' r h
refuses_tells (reply_not_kept s a l u n k) (replies _ _ m' t' l' u' n' k' h') = grind arith
refuses_tells h i = elim i [ ]

rank_one : (x : Position) → Playable x → (mode : Mode) (q r s : ℕ) → Rank x mode q s → Rank x mode r s → q ≡ r
rank_one x ok InSure q r s h k = enters_one (sure_grows x ok) q r s h k
rank_one x ok InAlmost q r s h k = almost_rank_one x ok q r s h k

counts_one : {P : ℕ → Type 0} {n j k : ℕ} → Counts P n j → Counts P n k → j ≡ k
counts_one {n = n} h i = sym h.many ∙ rank_same h.passes i.passes n (λ s l. grind (arith, h.sound s l, i.whole s l, i.sound s l, h.whole s l)) ∙ i.many

-- a question has one answer, but for the choice of a reply
tells_one : (g : Game) (b : Bench) → Playable (position g b) → {call : Call} {v w : Answer} → Tells g b call v → Tells g b call w → (v ≡ w) ⊎ BothReply v w
tells_one g b ok (verdict_ranked mode s r l u h) (verdict_ranked _ _ r' l' u' h') = inl (ap ranked (rank_one (position g b) ok mode r r' s h h'))
tells_one g b ok (verdict_ranked mode s r l u h) (verdict_not_winning _ _ l' u' n') = absurd (n' r h)
tells_one g b ok (verdict_not_winning mode s l u n) (verdict_ranked _ _ r' l' u' h') = absurd (n r' h')
tells_one g b ok (verdict_not_winning mode s l u n) (verdict_not_winning _ _ l' u' n') = inl refl
tells_one g b ok (moves_set mode s r c l u h small those) (moves_set _ _ r' c' l' u' h' small' those') = inl (ap set (same_bits 8 c c' small small' (λ i _. grind (arith, (those i).0, (those' i).1, (those' i).0, (those i).1))))
tells_one g b ok (replies s a m t l u n k h) (replies _ _ m' t' l' u' n' k' h') = inr (m, (t, (m', (t', refl, refl))))

-- an edit that is refused is not made
refuses_mark : {g : Game} {b : Bench} {s : ℕ} {v : Told} → Refuses g b (mark s) v → s < g.size → b.target s ≡ false → ⊥
refuses_mark (no_state _ z e i) l h = omega (arith, e, i, l)
refuses_mark {b = b} (marked_already s _ e) l h = both_ways (b.target s) h e

refuses_unmark : {g : Game} {b : Bench} {s : ℕ} {v : Told} → Refuses g b (unmark s) v → s < g.size → b.target s ≡ true → ⊥
refuses_unmark (no_state _ z e i) l h = omega (arith, e, i, l)
refuses_unmark {b = b} (unmarked_already s _ e) l h = both_ways (b.target s) e h

refuses_bar : {g : Game} {b : Bench} {p : Player} {s m : ℕ} {v : Told} → Refuses g b (bar p s m) v → s < g.size → bit (g.choices p s) m ≡ true → Keeps (position g b) p s m → (i : ℕ) → Keeps (position g b) p s i → (i ≡ m → ⊥) → ⊥
refuses_bar (no_state _ z e j) l h k i other off = omega (arith, e, j, l)
refuses_bar {g} (bar_no_move p s m _ e) l h k i other off = both_ways (bit (g.choices p s) m) e h
refuses_bar {b = b} (barred_already p s m _ _ e) l h k i other off = both_ways (bit (b.kept p s) m) e k
refuses_bar (only_move p s m _ _ _ only) l h k i other off = off (only i other)

refuses_allow : {g : Game} {b : Bench} {p : Player} {s m : ℕ} {v : Told} → Refuses g b (allow p s m) v → s < g.size → bit (g.choices p s) m ≡ true → bit (b.kept p s) m ≡ false → ⊥
refuses_allow (no_state _ z e j) l h k = omega (arith, e, j, l)
refuses_allow {g} (allow_no_move p s m _ e) l h k = both_ways (bit (g.choices p s) m) e h
refuses_allow {b = b} (allowed_already p s m _ _ e) l h k = both_ways (bit (b.kept p s) m) k e

-- a refused call has no other answer
refuses_step : {g : Game} {b c : Bench} {call : Call} {v : Told} {w : Answer} → Refuses g b call v → Step g b call w c → refused v ≡ w
refuses_step h (refuses _ _ why k) = ap refused (refuses_one h k)
refuses_step h (tells _ _ w k) = absurd (refuses_tells h k)
refuses_step h (marks _ s l n) = absurd (refuses_mark h l n)
refuses_step h (unmarks _ s l n) = absurd (refuses_unmark h l n)
refuses_step h (bars _ p s m i new l had k other off by) = absurd (refuses_bar h l had k i other off)
refuses_step h (allows _ p s m new l had n by) = absurd (refuses_allow h l had n)
refuses_step h (solves _ i j n x y z) = absurd (refuses_solve h)

-- each call has one answer, but for the choice of a reply
pub one_answer : (g : Game) {b c d : Bench} {call : Call} {v w : Answer} → Playable (position g b) → Step g b call v c → Step g b call w d → (v ≡ w) ⊎ BothReply v w
one_answer g ok (refuses b call why h) k = inl (refuses_step h k)
one_answer g ok h (refuses _ _ why k) = inl (sym (refuses_step k h))
one_answer g ok (tells b call v h) (tells _ _ w h') = tells_one g b ok h h'
one_answer g ok (tells b call v h) k = elim h [ ]
one_answer g ok h (tells _ call w k) = elim k [ ]
one_answer g ok (solves b i j n x y z) (solves _ i' j' n' x' y' z') = inl (rw (counts_one x x', counts_one y y', rounds_unique (position g b) n n' z z') refl)
one_answer g ok h k = inl refl
