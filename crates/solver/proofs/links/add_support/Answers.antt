use Rattle.std.proofs.Common.{◌≡◌, ℕ, ◌<◌, true, [], length, get_or, set, subst, arith, length-set, get_or-set_same, below_more}
use Rattle.game.specs.Games.{Game, WellFormed}
use Rattle.game.proofs.Below.{ascends_at}
use Rattle.theory.proofs.Supports.{all_members}
use Rattle.solver.specs.Links.{link}
use Rattle.solver.proofs.Linking.{Grows, row_grows}
use Rattle.solver.proofs.links.add_support.Goals as goal

-- a member of a support is a state
member_lt : {g : Game} → WellFormed g → (s a b k : ℕ) → k < length (g.support s a b) → get_or (g.support s a b) k 0 < 256
member_lt {g} valid s a b k l = let (_, state) = ascends_at 0 g.size (g.support s a b) k (valid.ascends s a b) l in omega (arith, valid.few_states)

pub bounds-before-from : goal.bounds-before-from
bounds-before-from g c = omega (arith, member_lt (g.S.Source.valid c.args.source.now) c.args.state c.args.a c.args.b c.loop-k.k (omega arith))

pub loop-k-preserved : goal.loop-k-preserved
loop-k-preserved g c =
    let support = (g.S.Source.game c.args.source.now).support c.args.state c.args.a c.args.b in
    let k = c.loop-k.k in
    let before = c.loop-k.before in
    let row = c.note.new.row in
    let t = c.from.result in
    let is : t ≡ get_or support k 0 = cc in
    let small : t < length before = omega (arith, is, c.loop-k.invariant.whole, member_lt (g.S.Source.valid c.args.source.now) c.args.state c.args.a c.args.b k (omega arith)) in
    let grows : Grows before (set before t row) = row_grows before t row small c.note.ensures.stay in
    let here : link (set before t row) c.args.state t ≡ true = rw (get_or-set_same before t row [] small) c.note.ensures.noted in
    record {
      whole = simp length-set c.loop-k.invariant.whole;
      grows = λ s u e. grows s u (c.loop-k.invariant.grows s u e);
      noted =
          below_more (λ k. link (set before t row) c.args.state (get_or support k 0) ≡ true) k
          (λ k l. grows c.args.state (get_or support k 0) (c.loop-k.invariant.noted k l))
          (subst (λ u. link (set before t row) c.args.state u ≡ true) is here);
    }

pub returns-clause-noted : goal.returns-clause-noted
returns-clause-noted g c =
    all_members (λ t. link c.loop-k.before c.args.state t ≡ true) ((g.S.Source.game c.args.source.now).support c.args.state c.args.a c.args.b) (λ k l. c.loop-k.invariant.noted k (omega arith))
