use Rattle.std.proofs.Common.{◌≡◌, ℕ, ◌<◌, Bool, true, false, List, length, get_or, MatchBool, refl, sym, ◌∙◌, subst, ⊎_elim, zero-add, arith, rules, tests}
use Rattle.std.specs.List.{HoldsAt, AllWithin, range_with_len}
use Rattle.std.proofs.lemmas.Bool.{cases_Bool}
use Rattle.std.proofs.lemmas.Iterator.{cases_from_any, YieldsList-from_range}
use Rattle.std.proofs.lemmas.List.FromFn.{length-range_with_len, get_or-range_with_len}
use Rattle.game.specs.Below.{elem}
use Rattle.theory.proofs.Supports.{place_elem, elem_place}
use Rattle.bench.proofs.play.can_lead.Goals as goal

-- t stands at some place of a list, or at none
elem_from_places : (r : Bool) (t : ℕ) (xs : List ℕ) → (let places : List ℕ = range_with_len 0 (length xs) in MatchBool r ((k : ℕ) × (k < length places) × HoldsAt (λ i. get_or xs i 0 ≡ t) places k) (AllWithin (λ i. get_or xs i 0 ≡ t → ⊥) places 0 (length places))) → r ≡ elem t xs
elem_from_places true t xs (k, l, here) =
    let m : k < length xs = subst (λ n. k < n) (length-range_with_len 0 (length xs)) l in
    let is : get_or xs k 0 ≡ t = subst (λ i. get_or xs i 0 ≡ t) (get_or-range_with_len 0 (length xs) k 0 m ∙ zero-add k) (here 0) in
    sym (subst (λ u. elem u xs ≡ true) is (place_elem xs k m))
elem_from_places false t xs none =
    ⊎_elim
    (λ e.
    let (k, m, is) = elem_place xs t e in
    let l : k < length (range_with_len 0 (length xs)) = subst (λ n. k < n) (sym (length-range_with_len 0 (length xs))) m in
    absurd (none k 0 (omega arith) l (subst (λ i. get_or xs i 0 ≡ t) (sym (get_or-range_with_len 0 (length xs) k 0 m ∙ zero-add k)) is)))
    (λ e. sym e)
    (cases_Bool (elem t xs))

pub returns : goal.returns
returns g c =
    let t = c.args.successor in
    let xs = (g.S.Source.game c.args.source.now).support c.args.state c.args.a c.args.b in
    elem_from_places c.any.result t xs
    (cases_from_any _ _ c.any.result (λ k. get_or xs k 0 ≡ t) (λ k. get_or xs k 0 ≡ t → ⊥) c.any.ensures.ran (YieldsList-from_range 0 c.support_size.result (length xs) refl (omega (arith, c.support_size.ensures))) (λ k q h. search (rules, tests)) (λ k q h. search (rules, tests)))
