use Rattle.std.proofs.Common.{◌≡◌, ℕ, ◌+◌, ◌*◌, ◌<◌, List, length, get_or, Some, sym, refl, ap, ◌∙◌, subst, ap₂, arith, get_or-set_other, get_or-set_same, rules, below_more}
use Rattle.std.proofs.lemmas.Result.{err_from_is_err_and}
use Rattle.game.specs.Refusals.{told}
use Rattle.layout.specs.Reading.{moves_in, row_sets, row_end, set_end, sets_end, GoodSupport}
use Rattle.layout.specs.Faults.{BadSupport, bad_support}
use Rattle.layout.proofs.Places.{sets_end_first, sets_end_more}
use Rattle.records.proofs.row_reader.RowReader.read_row.Goals as goal

-- the row ends behind its last support
end_of : (bs : List ℕ) (p k : ℕ) → k ≡ row_sets bs p → sets_end bs (p + 2) k ≡ row_end bs p
unfolding row_end
end_of bs p k e = ap (sets_end bs (p + 2)) e

-- the number of supports of the row, from its two move bytes
counted : (bs : List ℕ) (p m n x y : ℕ) → x ≡ moves_in m → y ≡ moves_in n → m ≡ get_or bs p 0 → n ≡ get_or bs (p + 1) 0 → x * y ≡ row_sets bs p
unfolding row_sets
counted bs p m n x y e f g h = ap₂ ◌*◌ (e ∙ ap moves_in g) (f ∙ ap moves_in h)

pub loop-k-init : goal.loop-k-init
loop-k-init c =
    let m = c.in_ok-first.ensures in
    record {
      place = sym (sets_end_first c.args.self.now.bytes.now (c.args.from.place + 2));
      inside = m.0;
      room = omega (arith, c.args.from.room);
      rows = refl;
      before = λ j h. refl;
      good = λ j h. absurd (omega arith);
      noted = λ j h. absurd (omega arith);
    }

pub returns-in_err-place-clause-cases : goal.returns-in_err-place-clause-cases
returns-in_err-place-clause-cases c =
    let p = err_from_is_err_and c.from_residual-in_err-place.result c.from_residual-in_err-place.ensures.1 in
    let r = c.args.self.now in
    let bs = r.bytes.now in
    let from = c.args.from in
    let m = c.in_ok-first.ensures in
    let inv = c.loop-k.invariant in
    let all = counted bs from.place _ _ _ _ c.count_bits.ensures.count c.count_bits-2.ensures.count m.1 m.2 in
    rw (p.1, p.2) (bad_support m.0 (omega arith) (omega arith) c.loop-k.k (omega (arith, all, c.from-count.ensures, c.loop-k-test.true)) inv.good (subst (λ q. BadSupport r.states bs q (Some r.state) (told c.in_err-place.field-0.0)) inv.place c.in_err-place.ensures))

pub loop-k-preserved : goal.loop-k-preserved
loop-k-preserved c =
    let r = c.args.self.now in
    let bs = r.bytes.now in
    let start = c.args.from.place + 2 in
    let first = c.args.from.support in
    let k = c.loop-k.k in
    let inv = c.loop-k.invariant in
    let new = c.in_ok-place.ensures in
    let xs = c.loop-k.places.supports in
    let room : first + k < length xs = search rules in
    record {
      place = new.0 ∙ ap (set_end bs) inv.place ∙ sym (sets_end_more bs start k);
      inside = new.1;
      room = omega (arith, new.2);
      rows = inv.rows;
      before = λ j h. get_or-set_other xs (first + k) j _ 0 (omega arith) ∙ inv.before j h;
      good = below_more _ k inv.good (subst (GoodSupport r.states bs) inv.place new.3);
      noted = below_more _ k (λ j h. get_or-set_other xs (first + k) (first + j) _ 0 (omega arith) ∙ inv.noted j h) (get_or-set_same xs (first + k) _ 0 room ∙ inv.place);
    }

pub returns-clause-cases : goal.returns-clause-cases
returns-clause-cases c =
    let bs = c.args.self.now.bytes.now in
    let from = c.args.from in
    let m = c.in_ok-first.ensures in
    let inv = c.loop-k.invariant in
    let all = counted bs from.place _ _ _ _ c.count_bits.ensures.count c.count_bits-2.ensures.count m.1 m.2 in
    let done : c.loop-k.k ≡ row_sets bs from.place = omega (arith, all, c.from-count.ensures) in (
      inv.place ∙ end_of bs from.place c.loop-k.k done,
      ap (λ n. from.support + n) (c.from-count.ensures ∙ all),
      inv.inside,
      (m.0, omega arith, omega arith, λ k h. inv.good k (omega arith)),
      λ k h. inv.noted k (omega arith),
    )
