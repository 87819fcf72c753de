-- What the counts of solve are printed as.
use Rattle.std.specs.Prelude.{ℕ, List, ◌++◌, codes}
use Rattle.std.specs.Fmt.{decimal}
use Rattle.solver.specs.declared.verdicts.Tally.{Tally}

-- as `sure 2 almost 2 rounds 2`
abbrev pub tally_text : Tally → List ℕ
tally_text t = codes "sure " ++ decimal t.sure ++ codes " almost " ++ decimal t.almost ++ codes " rounds " ++ decimal t.rounds
