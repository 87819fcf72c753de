use Rattle.std.proofs.Common.{rules}
use Rattle.std.proofs.lemmas.Option.{MatchOption-at_some}
use Rattle.bench.specs.Held.{NoReply, RepliesBy, not_asked, not_kept}
use Rattle.bench.proofs.Questions.{no_rank, reply_step, reply_found, sure_held, not_countered_step}
use Rattle.bench.proofs.bench.Bench.reply.Goals as goal

pub returns-in_err-check_solved-clause-step : goal.returns-in_err-check_solved-clause-step
returns-in_err-check_solved-clause-step g c = search (rules, not_countered_step, not_asked)

pub returns-then-is_some : goal.returns-then-is_some
returns-then-is_some g c =
    let why = sure_held g.S.Source.valid c.args.self.now c.args.state c.args.a (search rules) (search rules) (search rules) in
    record { stored = why; step = not_countered_step g.S.Source.valid c.args.self.now c.args.state c.args.a why }

pub returns-then-not-has_bit-clause-step : goal.returns-then-not-has_bit-clause-step
returns-then-not-has_bit-clause-step g c = search (rules, not_countered_step, not_kept, no_rank)

pub unwrap-requires : goal.unwrap-requires
unwrap-requires g c =
    reply_found g.S.Source.valid c.args.self.now c.args.state c.args.a (search rules) (search rules) (search rules) (search rules) c.find_reply.result c.find_reply.ensures

pub returns-clause-step : goal.returns-clause-step
returns-clause-step g c =
    let b = c.args.self.now in
    let s = c.args.state in
    let a = c.args.a in
    let by = MatchOption-at_some (NoReply b s a) (λ reply. RepliesBy b s a reply.b reply.successor) c.unwrap.result c.unwrap.ensures c.find_reply.ensures in
    reply_step g.S.Source.valid b s a c.unwrap.result.b c.unwrap.result.successor (search rules) (search rules) (search rules) (search rules) by
