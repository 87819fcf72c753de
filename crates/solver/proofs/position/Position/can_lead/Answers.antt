use Rattle.std.proofs.Common.{◌≡◌, ℕ, true, get_or, refl, arith, below_more}
use Rattle.std.proofs.lemmas.Bool.{false≢true}
use Rattle.game.specs.Below.{bit}
use Rattle.game.specs.declared.player.Player.TheVariants.{Two}
use Rattle.theory.specs.Positions.{Keeps, Leads}
use Rattle.theory.specs.Ranking.{Within}
use Rattle.theory.proofs.Supports.{place_elem, all_members, all_bits}
use Rattle.solver.specs.Positions.{meant}
use Rattle.solver.proofs.position.Position.can_lead.Goals as goal

pub replies-preserved : goal.replies-preserved
replies-preserved g c =
    let x = meant g.S.Source.game c.args.self.now in
    let s = c.args.state in
    let a = c.loop-a.a in
    let b = c.replies.b in
    let inside = Within c.args.ranks.now.at c.args.level in
    let t = get_or (x.game.support s a b) c.loop-k.k 0 in
    let chosen : bit c.args.moves a ≡ true = cc in
    let found : inside t = cc in
    below_more (λ b. Keeps x Two s b → (a : ℕ) × (bit c.args.moves a ≡ true) × ((t : ℕ) × Leads x s a b t × inside t)) b c.replies.invariant
    (λ _. (a, chosen, (t, place_elem (x.game.support s a b) c.loop-k.k (omega arith), found)))

pub loop-a-preserved : goal.loop-a-preserved
loop-a-preserved g c =
    let x = meant g.S.Source.game c.args.self.now in
    let s = c.args.state in
    let a = c.loop-a.a in
    let b = c.replies.b in
    let inside = Within c.args.ranks.now.at c.args.level in
    below_more (λ a. bit c.args.moves a ≡ true → (t : ℕ) → Leads x s a b t → inside t → ⊥) a c.loop-a.invariant
    (λ _. all_members (λ t. inside t → ⊥) (x.game.support s a b) (λ k l. c.loop-k.invariant k (omega arith)))

pub returns-in-replies : goal.returns-in-replies
returns-in-replies g c =
    let x = meant g.S.Source.game c.args.self.now in
    let s = c.args.state in
    let b = c.replies.b in
    let inside = Within c.args.ranks.now.at c.args.level in
    let replied : Keeps x Two s b = cc in
    let none = all_bits (λ a. (t : ℕ) → Leads x s a b t → inside t → ⊥) c.args.moves c.loop-a.a (omega arith) (omega arith) c.loop-a.invariant in (
      (λ e. absurd (false≢true e)),
      (λ can. let (a, chosen, (t, leads, found)) = can b replied in absurd (none a chosen t leads found)),
    )

pub returns : goal.returns
returns g c =
    let x = meant g.S.Source.game c.args.self.now in
    let s = c.args.state in
    let inside = Within c.args.ranks.now.at c.args.level in
    let all = all_bits (λ b. (a : ℕ) × (bit c.args.moves a ≡ true) × ((t : ℕ) × Leads x s a b t × inside t)) (x.kept Two s) c.replies.b (omega arith) (omega arith) c.replies.invariant in
    ((λ _. all), (λ _. refl))
