use Rattle.std.proofs.Common.{None, ap, ◌∙◌, arith}
use Rattle.std.proofs.lemmas.Result.{err_from_is_err_and}
use Rattle.layout.specs.Targets.{bad_set, remain}
use Rattle.layout.specs.Faults.{fault}
use Rattle.layout.proofs.Targets.{target_read, not_target}
use Rattle.game.specs.declared.refusal.Layer.TheVariants.{Record}
use Rattle.records.proofs.target.StateSet.read.Goals as goal

pub returns-in_err-set : goal.returns-in_err-set
returns-in_err-set c =
    let p = err_from_is_err_and c.from_residual-in_err-set.result c.from_residual-in_err-set.ensures.1 in
    rw (p.1, p.2) (not_target _ _ _ (bad_set c.in_ok-check_length.ensures c.in_err-set.ensures))

pub returns-in_err-check_end : goal.returns-in_err-check_end
returns-in_err-check_end c =
    let p = err_from_is_err_and c.from_residual-in_err-check_end.result c.from_residual-in_err-check_end.ensures.1 in
    let set = c.in_ok-set.ensures in
    let end = rw (set.0, set.1) at c.end.ensures in
    let more = c.in_err-check_end.ensures in
    rw (p.1, p.2) (not_target _ _ _ (remain c.in_ok-check_length.ensures set.2 (omega (arith, end, more.0)) (more.1 ∙ ap (λ p. fault 16 p Record None) end)))

pub returns : goal.returns
returns c =
    let bs = c.args.bytes.now in
    let set = c.in_ok-set.ensures in
    let end = rw (set.0, set.1) at c.end.ensures in
    let whole = rw (set.0, set.1) at c.in_ok-set.set.whole in
    rw (c.groups-groups.ensures, set.0, set.1) (target_read c.args.states bs (λ k l. (c.type_inv.bytes k).fits) (c.in_ok-check_length.ensures, set.2, omega (arith, end, whole, c.in_ok-check_end.ensures)))
