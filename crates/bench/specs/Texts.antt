-- What a reply is printed as.
use Rattle.std.specs.Prelude.{ℕ, List, ◌++◌, codes}
use Rattle.std.specs.Fmt.{decimal}
use Rattle.bench.specs.declared.bench.Reply.{Reply}

-- as `move 1 to 2`
abbrev pub reply_text : Reply → List ℕ
reply_text r = codes "move " ++ decimal r.b ++ codes " to " ++ decimal r.successor
