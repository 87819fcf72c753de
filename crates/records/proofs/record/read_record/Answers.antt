use Rattle.std.proofs.Common.{◌≡◌, ◌+◌, ◌<◌, length, map, sym, ap, ◌∙◌, subst₂, arith, rules, below_more}
use Rattle.std.proofs.lemmas.List.{length-map, map-set}
use Rattle.std.proofs.lemmas.Result.{err_from_is_err_and}
use Rattle.game.specs.Refusals.{told}
use Rattle.layout.specs.Reading.{states_in, row_end, GoodRow}
use Rattle.layout.specs.Faults.{BadRow, bad_row}
use Rattle.layout.proofs.Places.{row_place_first, row_place_more}
use Rattle.layout.proofs.Placed.{placed_more}
use Rattle.records.specs.declared.places.Row.{Row}
use Rattle.records.proofs.record.read_record.Goals as goal

pub loop-state-init : goal.loop-state-init
loop-state-init c =
    let first = c.first-cursor.ensures in
    record {
      place = first.place ∙ sym (row_place_first c.args.bytes.now);
      inside = omega (arith, first.place, c.in-Some.ensures.item.3.0);
      good = λ r h. absurd (omega arith);
      noted = λ r h. absurd (omega arith);
    }

pub returns-in_err-cursor : goal.returns-in_err-cursor
returns-in_err-cursor c =
    let p = err_from_is_err_and c.from_residual-in_err-cursor.result c.from_residual-in_err-cursor.ensures.1 in
    let bs = c.args.bytes.now in
    let s = c.loop-state.state in
    let inv = c.loop-state.invariant in
    let states : c.from-states.result + 1 ≡ states_in bs = omega (arith, c.from-states.ensures, c.in-Some.ensures.item.3.1 0) in
    rw (p.1, p.2)
    (bad_row (omega arith) (omega (arith, c.in-Some.ensures.item.3.0)) s (omega (arith, states)) inv.good (subst₂ (λ n q. BadRow n bs q s (told c.in_err-cursor.field-0.0)) states inv.place c.in_err-cursor.ensures.cases))

pub loop-state-preserved : goal.loop-state-preserved
loop-state-preserved c =
    let bs = c.args.bytes.now in
    let s = c.loop-state.state in
    let inv = c.loop-state.invariant in
    let from = c.loop-state.cursor in
    let to = c.in_ok-cursor.cursor in
    let row = c.in_ok-cursor.ensures in
    let rows = c.loop-state.places.rows in
    let last = c.read_row.new.places in
    let states : c.from-states.result + 1 ≡ states_in bs = omega (arith, c.from-states.ensures, c.in-Some.ensures.item.3.1 0) in
    let noted : Row = record { place = from.place; first = from.support } in
    let room : s < length rows = search rules in
    let placed = placed_more bs (map (λ r. r.place) rows) (map (λ r. r.first) rows) c.loop-state.places.supports last.supports s from.place from.support to.support inv.noted inv.place (omega (arith, length-map rows (λ (r : Row). r.place))) (omega (arith, length-map rows (λ (r : Row). r.first))) row.cases.1 row.before row.cases.4 in
    record {
      place = row.cases.0 ∙ ap (row_end bs) inv.place ∙ sym (row_place_more bs s);
      inside = row.cases.2;
      good = below_more _ s inv.good (subst₂ (λ n q. GoodRow n bs q) states inv.place row.cases.3);
      noted = rw (row.rows, c.from.ensures, map-set (λ (r : Row). r.place) rows s noted, map-set (λ (r : Row). r.first) rows s noted) placed;
    }
