use Rattle.std.proofs.Common.{◌≡◌, ℕ, ◌+◌, ◌-◌, take, drop, ap, ◌∙◌, arith, rules}
use borrow.Author.Tests.{tests}
use Rattle.std.specs.List.{sum_by}
use Rattle.records.specs.declared.set.WholeSet.{WholeSet}
use Rattle.std.proofs.lemmas.Iterator.{YieldsList-from_slice, YieldsList-from_map}
use Rattle.std.proofs.lemmas.Iterator.Consumers.{sum_by_from_yields_List, fits_by_from_yields_list}
use Rattle.game.specs.Below.{rank}
use Rattle.game.proofs.Below.{rank_le}
use Rattle.layout.specs.Reading.{map_bit, in_set, set_at, set_end, moves_in}
use Rattle.layout.proofs.Places.{set_end_le, set_end_is, set_end_rank}
use Rattle.records.proofs.Groups.{sum_bytes}
use Rattle.records.proofs.set.WholeSet.size.Goals as goal

-- the bytes between the map and the end of the set count all its members
counted : (s : WholeSet) (end : ℕ) → end ≡ set_end s.map.bytes.now s.map.at → sum_by moves_in (take (end - (s.map.at + 4)) (drop (s.map.at + 4) s.map.bytes.now)) ≡ rank (in_set s.map.bytes.now s.map.at) 256
counted s end e =
    let bs = s.map.bytes.now in
    let p = s.map.at in
    let here : end - (p + 4) ≡ rank (map_bit bs p) 32 = omega (arith, e, set_end_rank bs p) in
    ap (λ k. sum_by moves_in (take k (drop (p + 4) bs))) here ∙ sum_bytes bs p 32 (omega (arith, s.whole, set_end_is bs p))

pub slice_bounds-groups-count : goal.slice_bounds-groups-count
slice_bounds-groups-count c = let m = c.args.self.now.map in omega (arith, c.end.ensures, set_end_le m.bytes.now m.at)

pub slice_bounds-groups-start : goal.slice_bounds-groups-start
slice_bounds-groups-start c = let m = c.args.self.now.map in omega (arith, c.end.ensures, set_end_le m.bytes.now m.at)

pub sum-requires-clause-fits : goal.sum-requires-clause-fits
sum-requires-clause-fits c =
    let m = c.args.self.now.map in
    let xs = take (c.end.result - (m.at + 4)) (drop (m.at + 4) m.bytes.now) in
    fits_by_from_yields_list moves_in xs c.map.result 65536 (YieldsList-from_map _ moves_in (YieldsList-from_slice xs cc) c.map.ensures.closure (λ x r q k. search (rules, tests)))
    (omega (arith, counted c.args.self.now c.end.result c.end.ensures, rank_le (in_set m.bytes.now m.at) 256))

pub returns : goal.returns
unfolding set_at
returns c =
    let m = c.args.self.now.map in
    let xs = take (c.end.result - (m.at + 4)) (drop (m.at + 4) m.bytes.now) in
    sum_by_from_yields_List moves_in xs c.map.result c.sum.result c.sum.ensures.ran (YieldsList-from_map _ moves_in (YieldsList-from_slice xs cc) c.map.ensures.closure (λ x r q k. search (rules, tests)))
    ∙ counted c.args.self.now c.end.result c.end.ensures
