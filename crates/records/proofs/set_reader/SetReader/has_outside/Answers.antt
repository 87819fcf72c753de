use Rattle.std.proofs.Common.{◌≡◌, ℕ, ◌+◌, ◌*◌, ◌<◌, ◌≤◌, true, refl, rules}
use borrow.Author.Tests.{tests}
use Rattle.std.proofs.lemmas.Iterator.{YieldsList-from_range, cases_from_any}
use Rattle.game.specs.Below.{bit}
use Rattle.records.proofs.Groups.{any_below}
use Rattle.records.proofs.set_reader.SetReader.has_outside.Goals as goal

pub returns : goal.returns
returns c =
    let n = c.args.self.now.states in
    let first = 8 * c.args.group in
    let Yes : ℕ → Type 0 = λ i. (bit c.args.byte i ≡ true) × (n ≤ first + i) in
    let No : ℕ → Type 0 = λ i. bit c.args.byte i ≡ true → first + i < n in
    any_below 8 Yes No c.any.result (cases_from_any _ _ c.any.result Yes No c.any.ensures.ran (YieldsList-from_range 0 8 8 refl refl) (λ x q k. search (rules, tests)) (λ x q k. search (rules, tests)))
