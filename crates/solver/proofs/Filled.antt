-- Lists filled with one value.
use Rattle.std.proofs.Common.{◌≡◌, ℕ, get_or, replicate, ⊎_elim, arith}
use Rattle.std.proofs.lemmas.List.{get_or_past, get_or-replicate, length-replicate}
use Rattle.std.proofs.lemmas.Bool.{cases_lt}

pub get_or_filled : {A : Type 0} (n i : ℕ) (a : A) → get_or (replicate n a) i a ≡ a
get_or_filled n i a = ⊎_elim (λ l. get_or-replicate n i a a l) (λ l. get_or_past (replicate n a) i a (omega (arith, length-replicate n a))) (cases_lt i n)
