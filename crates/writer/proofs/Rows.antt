-- The bytes of a row and of a record, piece by piece.
use Rattle.std.proofs.Common.{◌≡◌, ℕ, ◌+◌, ◌-◌, ◌<◌, ◌≤◌, Bool, true, false, List, [], ◌∷◌, length, refl, arith}
use Rattle.std.specs.List.{flat_map}
use Rattle.game.specs.Below.{below, bit}
use Rattle.game.specs.Games.{Game}
use Rattle.game.specs.declared.player.Player.TheVariants.{One, Two}
use Rattle.layout.specs.Writing.{row_bytes, record_of}
use Rattle.writer.specs.Rows.{support_bytes, replies}
use Rattle.writer.specs.Sets.{Gathers, packed}
use Rattle.writer.specs.Sinks.{SinkLaws}
use Rattle.layout.proofs.Joined.{joined_yes, joined_no, length_joined_yes, length_joined_mono, length_joined_small}
use Rattle.writer.proofs.Sets.{packed_is, set_small}

pub row_is : (g : Game) (s : ℕ) → row_bytes g s ≡ g.choices One s ∷ g.choices Two s ∷ flat_map (replies g s) (below (bit (g.choices One s)) 8)
unfolding row_bytes replies support_bytes
row_is g s = refl

pub record_is : (g : Game) → record_of g ≡ (g.size - 1) ∷ flat_map (row_bytes g) (below (λ _. true) g.size)
unfolding record_of
record_is g = refl

-- the groups of a support give its bytes
pub support_is : (g : Game) (s a b : ℕ) (gs : List ℕ) → Gathers gs (g.support s a b) → packed gs ≡ support_bytes g s a b
unfolding support_bytes
support_is g s a b gs h = packed_is gs (g.support s a b) h

pub support_small : (g : Game) (s a b : ℕ) → length (support_bytes g s a b) ≤ 36
unfolding support_bytes
support_small g s a b = set_small (g.support s a b)

pub replies_small : (g : Game) (s a : ℕ) → length (replies g s a) ≤ 288
unfolding replies
replies_small g s a = length_joined_small (support_bytes g s a) (bit (g.choices Two s)) 36 8 (support_small g s a)

pub row_small : (g : Game) (s : ℕ) → length (row_bytes g s) ≤ 2306
row_small g s =
    rw row_is (omega (arith, length_joined_small (replies g s) (bit (g.choices One s)) 288 8 (replies_small g s)))

pub record_small : (g : Game) → g.size ≤ 256 → length (record_of g) ≤ 590337
record_small g few = rw record_is (omega (arith, length_joined_small (row_bytes g) (λ _. true) 2306 g.size (row_small g)))

-- pieces that are joined over the numbers that pass a test, put into a sink
module _ {K : Type 0} {room : K → ℕ} {takes : K → List ℕ → K → Type 0} (laws : SinkLaws room takes) (f : ℕ → List ℕ) (q : ℕ → Bool) {x y : K} (n : ℕ) (was : takes x (flat_map f (below q n)) y) where
  -- pieces below m have room
  pub piece_fits : (m : ℕ) → length (flat_map f (below q m)) ≤ room x → n < m → q n ≡ true → length (f n) ≤ room y
  piece_fits m fits h e = omega (arith, fits, laws.room_left was, length_joined_mono f q (n + 1) m (omega arith), length_joined_yes f q n e)

  pub piece_put : {z : K} → q n ≡ true → takes y (f n) z → takes x (flat_map f (below q (n + 1))) z
  piece_put e more = rw (joined_yes f q n e) (laws.append was more)

  pub no_piece : q n ≡ false → takes x (flat_map f (below q (n + 1))) y
  no_piece e = rw (joined_no f q n e) was

-- the two move sets, and then the supports
pub row_put : {K : Type 0} {room : K → ℕ} {takes : K → List ℕ → K → Type 0} (laws : SinkLaws room takes) (g : Game) (s : ℕ) {x y z : K} {m n : ℕ} → m ≡ g.choices One s → n ≡ g.choices Two s → takes x (m ∷ []) y → takes y (n ∷ []) z → {w : K} → takes z (flat_map (replies g s) (below (bit (g.choices One s)) 8)) w → takes x (row_bytes g s) w
row_put laws g s e f first second rest = rw row_is (laws.append (laws.append (rw e at first) (rw f at second)) rest)
