-- Writing the game whose record was opened gives the same bytes.
use Rattle.std.proofs.Common.{◌≡◌, ℕ, List, ◌++◌, length, drop, Ok, Err, Result, ap, ◌∙◌, arith, MatchResult}
use Rattle.game.specs.Games.{Game}
use Rattle.game.specs.Refusals.{Told, told}
use Rattle.game.specs.declared.refusal.Refusal.{Refusal}
use Rattle.layout.specs.Writing.{record_of, Records}
use Rattle.writer.specs.Outcomes.{Writes, NotWritten, too_long, no_room}
use Rattle.copies.specs.Copies.{Rewritten, NotRewritten}
use Rattle.copies.specs.Copies as copies

not_again : (bs old new : List ℕ) (g : Game) (t : Told) → Records bs g → new ≡ old → NotWritten (length (record_of g)) (length old) t → NotRewritten bs old new t
not_again bs old new g t r same (too_long h e) = absurd (omega (arith, r.short, ap length r.bytes))
not_again bs old new g t r same (no_room h l e) = copies.no_room g r (omega (arith, ap length r.bytes)) e same

pub written_again : (bs old new : List ℕ) (g : Game) (r : Result ℕ Refusal) → Records bs g → Writes (record_of g) old new r → MatchResult r (Rewritten bs old new) (λ e. NotRewritten bs old new (told e))
written_again bs old new g (Ok len) r w = record { same_length = w.0 ∙ ap length r.bytes; same_bytes = w.3 ∙ ap (λ xs. xs ++ drop len old) r.bytes }
written_again bs old new g (Err e) r w = not_again bs old new g (told e) r w.0 w.1
