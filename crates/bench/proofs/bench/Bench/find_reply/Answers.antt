use Rattle.std.proofs.Common.{rules, ◌≡◌, ℕ, get_or, Some, arith, below_more}
use Rattle.game.specs.declared.mode.Mode.TheVariants.{Sure}
use Rattle.game.specs.declared.player.Player.TheVariants.{Two}
use Rattle.theory.specs.Positions.{Keeps, Leads}
use Rattle.theory.proofs.Supports.{place_elem, all_members, all_bits}
use Rattle.solver.specs.Entries.{verdict_in, rank_of}
use Rattle.bench.specs.Held.{position}
use Rattle.bench.proofs.Questions.{rank_there, no_rank, HeldSure}
use Rattle.bench.proofs.bench.Bench.find_reply.Goals as goal

pub returns-then-is_none : goal.returns-then-is_none
returns-then-is_none g c = search (rules, place_elem, no_rank)

pub loop-k-preserved : goal.loop-k-preserved
loop-k-preserved g c =
    let entries = c.args.self.now.entries.at in
    let support = (g.S.Source.game c.args.self.now.source).support c.args.state c.args.a c.loop-b.b in
    let (r, there) = rank_there (rank_of c.verdict.result) c.if-is_none.ensures in
    let sure : rank_of (verdict_in entries Sure (get_or support c.loop-k.k 0)) ≡ Some r = cc in
    below_more (λ k. HeldSure entries (get_or support k 0)) c.loop-k.k c.loop-k.invariant (r, sure)

pub loop-b-preserved : goal.loop-b-preserved
loop-b-preserved g c =
    let x = position c.args.self.now in
    let s = c.args.state in
    let a = c.args.a in
    let b = c.loop-b.b in
    let sure = HeldSure c.args.self.now.entries.at in
    below_more (λ b. Keeps x Two s b → (t : ℕ) → Leads x s a b t → sure t) b c.loop-b.invariant
    (λ _. all_members sure (x.game.support s a b) (λ k l. c.loop-k.invariant k (omega arith)))

pub returns : goal.returns
returns g c =
    let x = position c.args.self.now in
    let s = c.args.state in
    all_bits (λ b. (t : ℕ) → Leads x s c.args.a b t → HeldSure c.args.self.now.entries.at t) (x.kept Two s) c.loop-b.b (omega arith) (omega arith) c.loop-b.invariant
