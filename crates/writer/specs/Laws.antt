-- Both sinks keep the laws of sinks.
use Rattle.std.proofs.Common.{◌≡◌, ℕ, ◌+◌, ◌-◌, List, [], ◌++◌, length, take, drop, sym, refl, ap, ◌∙◌, arith}
use Rattle.std.proofs.lemmas.List.{append-nil, append_assoc, length-append, length-drop, take-append-drop, drop-drop}
use Rattle.writer.specs.Sinks.{SinkLaws, uncounted, Counts, Stores}

-- count is the number that a value has come to
module _ {K : Type 0} (count : K → ℕ) where
  pub counts_laws : SinkLaws (λ x. uncounted (count x)) (λ x bs y. Counts (count x) bs (count y))
  counts_laws = record {
    none = λ x. record { fits = omega arith; after = omega arith };
    append = λ {x} {y} {z} {bs} {cs} was more. record { fits = omega (arith, length-append bs cs); after = omega (arith, length-append bs cs) };
    room_left = λ was. omega arith;
  }

-- how long a buffer is, from what stands before and behind a place
length_split : (n : ℕ) (xs : List ℕ) → length xs ≡ length (take n xs) + length (drop n xs)
length_split n xs = ap length (sym (take-append-drop n xs)) ∙ length-append (take n xs) (drop n xs)

stores_none : (old : List ℕ) (from : ℕ) → Stores old from [] old from
stores_none old from = record { fits = omega arith; after = omega arith; front = sym (append-nil (take from old)); back = refl }

stores_room : {old : List ℕ} {from : ℕ} {bs new : List ℕ} {to : ℕ} → Stores old from bs new to → length old - from ≡ length bs + (length new - to)
stores_room {old} {from} {bs} {new} {to} was = omega (arith, ap length was.back, length-drop to new, length-drop to old, ap length was.front, length-append (take from old) bs, length_split to new)

stores_append : {old : List ℕ} {from : ℕ} {bs new : List ℕ} {to : ℕ} {cs newer : List ℕ} {end : ℕ} → Stores old from bs new to → Stores new to cs newer end → Stores old from (bs ++ cs) newer end
stores_append {old} {from} {bs} {new} {to} {cs} {newer} {end} was more =
    let back : drop (length cs) (drop to new) ≡ drop (length cs) (drop to old) = ap (drop (length cs)) was.back in
    record {
      fits = omega (arith, length-append bs cs, stores_room was);
      after = omega (arith, length-append bs cs);
      front = more.front ∙ ap (λ l. l ++ cs) was.front ∙ append_assoc (take from old) bs cs;
      back = more.back ∙ rw (more.after, ← (drop-drop (length cs) to new), ← (drop-drop (length cs) to old)) back;
    }

-- held is the buffer of a value, at the place in it, and name tells one buffer from another
module _ {K N : Type 0} (name : K → N) (held : K → List ℕ) (at : K → ℕ) where
  pub stores_laws : SinkLaws (λ x. length (held x) - at x) (λ x bs y. (name y ≡ name x) × Stores (held x) (at x) bs (held y) (at y))
  stores_laws = record {
    none = λ x. (refl, stores_none (held x) (at x));
    append = λ was more. (more.0 ∙ was.0, stores_append was.1 more.1);
    room_left = λ was. stores_room was.1;
  }
