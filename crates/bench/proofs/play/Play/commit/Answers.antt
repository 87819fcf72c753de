use Rattle.std.proofs.Common.{rules}
use Rattle.std.proofs.lemmas.Bool.{both_ways}
use Rattle.theory.specs.Plays.{commit_not_kept, commit_full, commits}
use Rattle.bench.proofs.play.Play.commit.Goals as goal

pub returns-then-not-has_bit : goal.returns-then-not-has_bit
returns-then-not-has_bit g c = search (rules, commit_not_kept, both_ways)

pub returns-then-self-eq-MOST_ROUNDS : goal.returns-then-self-eq-MOST_ROUNDS
returns-then-self-eq-MOST_ROUNDS g c = search (rules, commit_full)

pub returns : goal.returns
returns g c = search (rules, commits)
