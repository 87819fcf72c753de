use Rattle.std.proofs.Common.{rules, ◌≡◌, ◌+◌, length, get_or, drop, sym, refl, subst, inl, inr, add-one, arith, drop-cons}
use Rattle.std.proofs.lemmas.List.{get_or_default}
use Rattle.bench.specs.Held.{position}
use Rattle.runs.specs.PlayCalls.{play_of}
use Rattle.runs.specs.declared.play_call.PlayCall.TheVariants.{Commit}
use Rattle.runs.proofs.PlayMade.{PlayMade, play_none, play_more, play_ends}
use Rattle.runs.proofs.play_calls.make_play_calls.Goals as goal

pub loop-made-init : goal.loop-made-init
loop-made-init g c = search (rules, play_none)

pub loop-made-preserved : goal.loop-made-preserved
loop-made-preserved g c =
    let call = get_or c.args.calls.now c.loop-made.made (Commit 0) in
    play_more (position c.args.bench.now) c.args.state c.args.calls.now c.args.answers.now c.loop-made.answers c.loop-made.made
    (play_of c.loop-made.stage) (play_of c.make_play_call-next.result.0) call c.in-Some.answer c.loop-made.invariant c.loop-made-test.true c.if-answers-calls.false
    (get_or_default c.args.calls.now c.loop-made.made (Commit 0) call c.loop-made-test.true) (rw c.in-Some.is at c.make_play_call-next.ensures)

pub returns : goal.returns
returns g c =
    let x = position c.args.bench.now in
    let calls = c.args.calls.now in
    let made = c.loop-made.invariant in
    let end : c.loop-made.made ≡ length calls = omega (arith, made.few) in
    play_ends x c.args.bench.now.solved c.args.state calls c.args.answers.now c.loop-made.answers (length calls)
    (play_of c.loop-made.stage) c.in_ok-play.ensures c.if-answers-calls.false
    (subst (λ i. PlayMade x c.args.state calls c.args.answers.now c.loop-made.answers i (play_of c.loop-made.stage)) end made) (inl refl)

pub returns-in-None : goal.returns-in-None
returns-in-None g c =
    let x = position c.args.bench.now in
    let calls = c.args.calls.now in
    let i = c.loop-made.made in
    let none = rw c.in-None.is at c.make_play_call-next.ensures in
    play_ends x c.args.bench.now.solved c.args.state calls c.args.answers.now c.loop-made.answers i
    (play_of c.make_play_call-next.result.0) c.in_ok-play.ensures c.if-answers-calls.false
    (subst (PlayMade x c.args.state calls c.args.answers.now c.loop-made.answers i) (sym none.1) c.loop-made.invariant)
    (inr (get_or calls i (Commit 0), (drop (i + 1) calls, rw (add-one i) (drop-cons calls i (Commit 0) c.loop-made-test.true), rw none.1 none.0)))
