use Rattle.std.proofs.Common.{◌≡◌, ℕ, zero, suc, Bool, cond, [], ◌∷◌, ◌++◌, map, length, refl, sym, ap, ◌∙◌, subst, add-one, rules, arith}
use borrow.Author.Tests.{tests}
use Rattle.std.proofs.lemmas.Iterator.{YieldsList-from_range}
use Rattle.std.proofs.lemmas.Iterator.Consumers.{YieldsList-at, YieldsList-from_filter, count_from_yields_List}
use Rattle.std.proofs.lemmas.List.{map-id}
use Rattle.std.proofs.lemmas.List.FromFn.{filter_of_map_range_with_len_more}
use Rattle.std.specs.List.{filter, range_with_len}
use Rattle.game.specs.Below.{below}
use Rattle.theory.specs.Ranking.{rank_at, up_to}
use Rattle.solver.proofs.ranks.Ranks.count.Goals as goal

filter_range : (p : ℕ → Bool) (n : ℕ) → filter p (map (λ (k : ℕ). k) (range_with_len 0 n)) ≡ below p n
unfolding below
filter_range p zero = refl
filter_range p (suc n) =
    subst (λ m. filter p (map (λ (k : ℕ). k) (range_with_len 0 m)) ≡ below p m) (add-one n)
    (filter_of_map_range_with_len_more p (λ k. k) 0 n n (omega arith) ∙ ap (λ xs. xs ++ cond (p n) (n ∷ []) []) (filter_range p n) ∙ sym (ap (below p) (add-one n)))

pub returns : goal.returns
returns c =
    let p : ℕ → Bool = λ s. up_to 255 (rank_at c.args.self.now.at s) in
    let n = c.args.states in
    count_from_yields_List c.filter.result _ c.count.ensures.ran
    (YieldsList-from_filter _ p (YieldsList-at c.filter.ensures.source (YieldsList-from_range 0 n n refl (omega arith))) c.filter.ensures.closure (λ x b q k. search (rules, tests)))
    ∙ ap (λ xs. length (filter p xs)) (sym (map-id (range_with_len 0 n)))
    ∙ ap length (filter_range p n)
