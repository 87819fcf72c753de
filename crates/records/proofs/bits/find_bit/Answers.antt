use Rattle.std.proofs.Common.{refl, sym, ◌∙◌, ap₂, rules}
use borrow.Author.Tests.{tests}
use Rattle.std.specs.List.{slice_get}
use Rattle.std.proofs.lemmas.Iterator.{YieldsList-from_range}
use Rattle.std.proofs.lemmas.Iterator.Adapters.{option_map_id}
use Rattle.std.proofs.lemmas.Iterator.Consumers.{YieldsList-from_filter, nth_from_yields_List}
use Rattle.game.specs.Below.{below, bit}
use Rattle.records.proofs.Groups.{filter-range, element_or}
use Rattle.records.proofs.bits.find_bit.Goals as goal

pub returns-clause-found : goal.returns-clause-found
returns-clause-found c =
    let byte = c.args.byte in
    let nth = nth_from_yields_List c.nth.result _ c.from.result c.nth.ensures.ran (YieldsList-from_filter _ (bit byte) (YieldsList-from_range 0 8 8 c.filter.ensures.source refl) c.filter.ensures.closure (λ x b q k. search (rules, tests))) in
    element_or (below (bit byte) 8) c.args.k c.nth.result c.map_or.result (sym (option_map_id c.nth.result) ∙ nth ∙ ap₂ slice_get (filter-range (bit byte) 8) c.from.ensures) c.map_or.ensures
