use Rattle.std.proofs.Common.{◌≡◌, ℕ, false, get_or, arith, below_more}
use Rattle.std.proofs.lemmas.Bool.{both_ways}
use Rattle.game.specs.declared.player.Player.TheVariants.{One, Two}
use Rattle.game.proofs.Below.{bit_in_byte}
use Rattle.theory.specs.Positions.{Keeps, Leads}
use Rattle.theory.specs.Ranking.{rank_at, up_to, Within}
use Rattle.theory.specs.Verdicts.{Stay}
use Rattle.theory.proofs.Supports.{place_elem, all_members, all_bits, gathers_skip, gathers_put}
use Rattle.solver.specs.Positions.{meant}
use Rattle.solver.proofs.position.Position.moves_into.Goals as goal

-- a reply with a member of the support that is not in the ranks
pub moves-preserved-then-not-within : goal.moves-preserved-then-not-within
moves-preserved-then-not-within g c =
    let x = meant g.S.Source.game c.args.self.now in
    let s = c.args.state in
    let b = c.loop-b.b in
    let support = x.game.support s c.moves.a b in
    let t = get_or support c.loop-k.k 0 in
    let replied : Keeps x Two s b = cc in
    let out : up_to c.args.level (rank_at c.args.ranks.now.at t) ≡ false = cc in
    gathers_skip (Stay x (Within c.args.ranks.now.at c.args.level) s) c.moves.a c.moves.moves c.moves.invariant
    (λ stay. both_ways _ out (stay.1 b replied t (place_elem support c.loop-k.k (omega arith))))

pub loop-b-preserved : goal.loop-b-preserved
loop-b-preserved g c =
    let x = meant g.S.Source.game c.args.self.now in
    let s = c.args.state in
    let a = c.moves.a in
    let b = c.loop-b.b in
    let inside = Within c.args.ranks.now.at c.args.level in
    below_more (λ b. Keeps x Two s b → (t : ℕ) → Leads x s a b t → inside t) b c.loop-b.invariant
    (λ _. all_members inside (x.game.support s a b) (λ k l. c.loop-k.invariant k (omega arith)))

pub moves-preserved : goal.moves-preserved
moves-preserved g c =
    let x = meant g.S.Source.game c.args.self.now in
    let s = c.args.state in
    let kept : Keeps x One s c.moves.a = cc in
    let inside = Within c.args.ranks.now.at c.args.level in
    let into = all_bits (λ b. (t : ℕ) → Leads x s c.moves.a b t → inside t) (x.kept Two s) c.loop-b.b (omega arith) (omega arith) c.loop-b.invariant in
    gathers_put (Stay x inside s) c.moves.a c.moves.moves c.with_bit-moves.result c.moves.invariant c.moves-test.true (kept, into) c.with_bit-moves.ensures

pub returns : goal.returns
returns g c a =
    let x = meant g.S.Source.game c.args.self.now in (
      (λ e. ((c.moves.invariant a).0 e).1),
      (λ stay. (c.moves.invariant a).1 (omega (arith, bit_in_byte (x.kept One c.args.state) a (omega arith) stay.0), stay)),
    )
