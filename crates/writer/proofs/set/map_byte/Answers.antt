use Rattle.std.proofs.Common.{◌≡◌, ℕ, zero, suc, ◌+◌, ◌*◌, ◌%◌, ◌^◌, ◌<◌, ◌≤◌, Bool, cond, map, refl, sym, ap, ◌∙◌, ⊎_elim, add-one, arith, rules, tests}
use Rattle.std.specs.List.{sum, range_with_len}
use Rattle.std.proofs.lemmas.Bool.{cases_Bool}
use Rattle.std.proofs.lemmas.Iterator.{YieldsList-from_range, YieldsList-from_map}
use Rattle.std.proofs.lemmas.Iterator.Consumers.{YieldsList-at, sum_from_yields_List, fits_from_yields_list}
use Rattle.std.proofs.lemmas.List.FromFn.{map-range_with_len_more}
use Rattle.std.proofs.lemmas.List.Sums.{fold_push}
use Rattle.std.proofs.lemmas.Nat.{one_shl}
use Rattle.game.specs.Below.{weigh}
use Rattle.game.proofs.Digits.{weigh_yes, weigh_no, weigh_byte}
use Rattle.writer.specs.Sets.{in_map, map_of}
use Rattle.writer.proofs.set.map_byte.Goals as goal

-- the weight of bit i if it passes, as the code works it out
abbrev weight : (ℕ → Bool) → ℕ → ℕ
weight p i = cond (p i) 1 0 * 2 ^ i % 256

weigh_more : (p : ℕ → Bool) (n : ℕ) → n < 8 → weigh p n + weight p n ≡ weigh p (n + 1)
weigh_more p n h =
    ⊎_elim (λ e. rw e (omega (arith, weigh_yes p n e, one_shl n 8 h))) (λ e. rw e (omega (arith, weigh_no p n e))) (cases_Bool (p n))

weights : (p : ℕ → Bool) (n : ℕ) → n ≤ 8 → sum (map (weight p) (range_with_len 0 n)) ≡ weigh p n
weights p zero h = unfold weigh in refl
weights p (suc n) h =
    ap (λ k. sum (map (weight p) (range_with_len 0 k))) (sym (add-one n))
    ∙ ap sum (map-range_with_len_more (weight p) 0 n n (omega arith))
    ∙ fold_push ◌+◌ 0 (map (weight p) (range_with_len 0 n)) (weight p n)
    ∙ ap (λ m. m + weight p n) (weights p n (omega arith))
    ∙ weigh_more p n (omega arith)
    ∙ ap (weigh p) (add-one n)

pub sum-requires-clause-fits : goal.sum-requires-clause-fits
sum-requires-clause-fits c =
    let p = in_map c.args.groups.now c.args.j in
    fits_from_yields_list c.map.result 256 (YieldsList-from_map _ (weight p) (YieldsList-at c.map.ensures.source (YieldsList-from_range 0 8 8 refl refl)) c.map.ensures.closure (λ x r q k. search (rules, tests))) (rw (weights p 8 (omega arith)) (weigh_byte p 8 (omega arith)))

pub returns : goal.returns
unfolding map_of
returns c =
    let p = in_map c.args.groups.now c.args.j in
    sum_from_yields_List c.map.result _ c.sum.ensures.ran (YieldsList-from_map _ (weight p) (YieldsList-at c.map.ensures.source (YieldsList-from_range 0 8 8 refl refl)) c.map.ensures.closure (λ x r q k. search (rules, tests))) ∙ weights p 8 (omega arith)
