-- Laws of `group` and `set_bytes`.
pub use Rattle.game.proofs.Members.{place_elem as elem_at, elem_past, elem_below}
use Rattle.std.proofs.Common.{◌≡◌, ℕ, ◌+◌, ◌*◌, ◌/◌, ◌%◌, ◌<◌, ◌≤◌, true, List, [], ◌∷◌, map, length, get_or, ap, ◌∙◌, arith}
use lib.ListN.{length-map}
use Rattle.std.proofs.lemmas.List.{get_or-append-add, get_or-map}
use Rattle.std.proofs.lemmas.Bool.{lt-ltb}
use Rattle.std.proofs.lemmas.Grind.{get_or_head, get_or_tail}
use Rattle.game.specs.Below.{below, rank, bit, elem}
use Rattle.game.specs.Games.{Ascends}
use Rattle.game.proofs.Below.{rank_lt, get_or_below, ascends_at, bit_some}
use Rattle.game.proofs.Digits.{bit_weigh}
use Rattle.layout.specs.Writing.{group, filled, map_byte, set_bytes}

-- the bits of a group's byte, and of a byte of the map
pub group_bit : (xs : List ℕ) (g i : ℕ) → i < 8 → bit (group xs g) i ≡ elem (8 * g + i) xs
unfolding group
group_bit xs g i h = bit_weigh (λ i. elem (8 * g + i) xs) 8 i h

pub state_bit : (xs : List ℕ) (s : ℕ) → bit (group xs (s / 8)) (s % 8) ≡ elem s xs
state_bit xs s = group_bit xs (s / 8) (s % 8) (omega arith) ∙ ap (λ t. elem t xs) (omega arith)

pub map_byte_bit : (xs : List ℕ) (g : ℕ) → bit (map_byte xs (g / 8)) (g % 8) ≡ filled xs g
unfolding map_byte
map_byte_bit xs g = bit_weigh (λ i. filled xs (8 * (g / 8) + i)) 8 (g % 8) (omega arith) ∙ ap (filled xs) (omega arith)

-- a set with a member has a group
pub some_group : (n : ℕ) (xs : List ℕ) → n ≤ 256 → Ascends 0 n xs → 1 ≤ length xs → 1 ≤ rank (filled xs) 32
some_group n xs l h m =
    let s : ℕ = get_or xs 0 0 in
    let some = lt-ltb 0 (group xs (s / 8)) (bit_some (group xs (s / 8)) (s % 8) (state_bit xs s ∙ elem_at xs 0 m)) in
    omega (arith, rank_lt (filled xs) (s / 8) 32 (omega (arith, ascends_at 0 n xs 0 h m)) some)

-- what the bytes of a set are, place by place
pub length_set_bytes : (xs : List ℕ) → length (set_bytes xs) ≡ 4 + rank (filled xs) 32
unfolding set_bytes
length_set_bytes xs = omega (arith, length-map (below (filled xs) 32) (group xs))

pub get_or_four : (f : ℕ → ℕ) (xs : List ℕ) (j : ℕ) → j < 4 → get_or (f 0 ∷ f 1 ∷ f 2 ∷ f 3 ∷ xs) j 0 ≡ f j
get_or_four f xs j h = grind (arith, get_or_head, get_or_tail)

pub set_bytes_map : (xs : List ℕ) (j : ℕ) → j < 4 → get_or (set_bytes xs) j 0 ≡ map_byte xs j
unfolding set_bytes
set_bytes_map xs j h = get_or_four (map_byte xs) _ j h

pub set_bytes_group : (xs : List ℕ) (g : ℕ) → g < 32 → filled xs g ≡ true → get_or (set_bytes xs) (4 + rank (filled xs) g) 0 ≡ group xs g
unfolding set_bytes
set_bytes_group xs g h e =
    get_or-append-add (map_byte xs 0 ∷ map_byte xs 1 ∷ map_byte xs 2 ∷ map_byte xs 3 ∷ []) (map (group xs) (below (filled xs) 32)) (rank (filled xs) g) 0
    ∙ grind (arith, get_or-map (group xs) (below (filled xs) 32) (rank (filled xs) g) 0 0, rank_lt (filled xs) g 32 h e, get_or_below (filled xs) g 32 0 h e)
