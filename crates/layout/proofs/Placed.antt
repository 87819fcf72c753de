-- The places noted so far, with one row more.
use Rattle.std.proofs.Common.{◌≡◌, ℕ, ◌+◌, ◌<◌, ◌≢◌, List, length, get_or, set, sym, ap, ◌∙◌, subst, arith, get_or-set_other, get_or-set_same, below_more}
use Rattle.layout.specs.Placed.{Placed}
use Rattle.layout.specs.Reading.{sets_end, row_sets, row_place}

module _ (bs rows firsts old new : List ℕ) (s place first next : ℕ) where
  pub placed_more : Placed bs rows firsts old s first → place ≡ row_place bs s → s < length rows → s < length firsts → next ≡ first + row_sets bs place → ((j : ℕ) → j < first → get_or new j 0 ≡ get_or old j 0) → ((k : ℕ) → k < row_sets bs place → get_or new (first + k) 0 ≡ sets_end bs (place + 2) k) → Placed bs (set rows s place) (set firsts s first) new (s + 1) next
  placed_more before here r f more kept noted =
      below_more _ s
      (λ q l.
      let other : q ≢ s = omega arith in
      let was = before q l in
      let same : get_or (set firsts s first) q 0 ≡ get_or firsts q 0 = get_or-set_other firsts s q first 0 other in (
        get_or-set_other rows s q place 0 other ∙ was.0,
        omega (arith, was.1),
        λ k h. ap (λ i. get_or new (i + k) 0) same ∙ kept (get_or firsts q 0 + k) (omega (arith, was.1)) ∙ was.2 k h,
      )) (
        get_or-set_same rows s place 0 r ∙ here,
        omega (arith, get_or-set_same firsts s first 0 f, ap (row_sets bs) here),
        λ k h.
            ap (λ i. get_or new (i + k) 0) (get_or-set_same firsts s first 0 f)
            ∙ noted k (subst (λ p. k < row_sets bs p) (sym here) h)
            ∙ ap (λ p. sets_end bs (p + 2) k) here,
      )
