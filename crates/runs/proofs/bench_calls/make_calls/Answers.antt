use Rattle.std.proofs.Common.{◌≡◌, get_or, sym, refl, ◌∙◌, subst, arith}
use Rattle.std.proofs.lemmas.List.{get_or_default}
use Rattle.theory.specs.Benches.{opened}
use Rattle.bench.specs.Held.{held}
use Rattle.runs.specs.Calls.{RanAll}
use Rattle.runs.specs.declared.call.Call.TheVariants.{Mark}
use Rattle.runs.proofs.Made.{made_none, made_more, made_all}
use Rattle.runs.proofs.bench_calls.make_calls.Goals as goal

pub loop-i-init : goal.loop-i-init
loop-i-init g c =
    let bench = c.open-bench.result in
    made_none bench.source c.args.calls.now c.args.answers.now bench refl
    (subst (λ s. held bench ≡ opened (g.S.Source.game s)) (sym c.open-bench.ensures.source) c.open-bench.ensures.bench)

pub loop-i-preserved : goal.loop-i-preserved
loop-i-preserved g c =
    let call = get_or c.args.calls.now c.loop-i.i (Mark 0) in
    made_more c.open-bench.result.source c.args.calls.now c.args.answers.now c.loop-i.answers c.loop-i.i c.loop-i.bench c.make_call.new.bench call c.make_call.result c.loop-i.invariant
    c.loop-i-test.true c.if-answers-calls.false (get_or_default c.args.calls.now c.loop-i.i (Mark 0) call c.loop-i-test.true) c.make_call.ensures.source c.make_call.ensures.step

pub returns : goal.returns
returns g c =
    let same = c.open-bench.ensures.source in
    let source = c.open-bench.result.source in
    let calls = c.args.calls.now in
    let all : RanAll (g.S.Source.game source) calls c.args.answers.now c.loop-i.answers (held c.loop-i.bench) =
    made_all source calls c.args.answers.now (g.S.Source.valid source) c.loop-i.answers c.loop-i.i c.loop-i.bench c.if-answers-calls.false (omega arith) c.loop-i.invariant in
    (c.loop-i.invariant.same_source ∙ same, subst (λ s. RanAll (g.S.Source.game s) calls c.args.answers.now c.loop-i.answers (held c.loop-i.bench)) same all)
