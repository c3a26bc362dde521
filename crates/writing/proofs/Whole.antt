-- The writing of a whole text at a buffer's start, in two parts, or not at all.
use Prim.Native.Nat.{ℕ, ◌+◌, ◌*◌, ◌≤◌, ◌<◌}
use mathlib.Core.{Path.{◌≡◌, refl, ap, ◌∙◌}, Bool.{Bool, true, false, cond}, List.{List, ◌++◌}}
use native.Mathlib.Omega.{arith}
use lib.{Dec.{leb}, ListN.{length, drop, length-append, length-drop}}
use borrow.Author.Tests.{le-leb, lt-leb, leb-true}
use Rattle.std.specs.Prelude.{Option, Some, None}
use Rattle.tables.{specs.Parts.{parts_of}, proofs.Parts.{parts_length}}
use Rattle.writing.specs.{Text.{all_lines}, Put.{Put, WrittenFirst}}
use Rattle.writing.proofs.{Filling.{Filling, filling_start, filling_room, filling_rest, text_step}, Lengths.{text_most}}
use Rattle.writing.proofs.LinesWriting.{lines_text}

-- lines of values take at most seven bytes a value
pub table_most : (k m : ℕ) (t : List ℕ) → 0 < k → m * k ≤ length t → all_lines k (parts_of k m t) ≡ true
    → length (lines_text (parts_of k m t)) ≤ 7 * length t
table_most k m t n h v =
    let c : 7 * k * length (parts_of k m t) ≡ 7 * k * m = ap (λ (j : ℕ). 7 * k * j) (parts_length k m t) in
    omega (arith, text_most k (parts_of k m t) n v)

module _ (s u b : List ℕ) where
  pub too_short : length b < length s + length u → WrittenFirst (s ++ u) b b None
  too_short h =
      let l : length b < length (s ++ u) = rw length-append h in
      record { answer = rw (lt-leb (length (s ++ u)) (length b) l); holds = rw (lt-leb (length (s ++ u)) (length b) l) }

  module _ (room : length s + length u ≤ length b) where
    whole_room : 0 + length (s ++ u) ≤ length b
    whole_room = rw length-append (omega arith)

    first_part : {c : List ℕ} {p : ℕ} → Put b 0 s c p → Filling b 0 (s ++ u) c p u
    first_part q = text_step (filling_start b 0 (s ++ u) whole_room) s u refl q

    pub second_room : {c : List ℕ} {p : ℕ} → Put b 0 s c p → p + length u ≤ length c
    second_room q = filling_room (first_part q)

    pub both_parts : {c d : List ℕ} {p r : ℕ} → Put b 0 s c p → Put c p u d r → WrittenFirst (s ++ u) b d (Some r)
    both_parts {r = r} q w =
        let a = filling_rest (first_part q) w in
        let e : r ≡ length (s ++ u) = omega (arith, a.next) in
        let l : length (s ++ u) ≤ length b = omega (arith, whole_room) in
        record {
          answer = rw (le-leb (length (s ++ u)) (length b) l, e);
          holds = rw (le-leb (length (s ++ u)) (length b) l) (a.holds ∙ rw e);
        }

-- the buffer keeps its length
pub written_size : {t before after : List ℕ} {r : Option ℕ} → WrittenFirst t before after r → length after ≡ length before
written_size {t} {before} w = go (leb (length t) (length before)) refl w.holds
  where
    go : (b : Bool) → leb (length t) (length before) ≡ b → {after : List ℕ} → after ≡ cond b (t ++ drop (length t) before) before
        → length after ≡ length before
    go true e h =
        ap length h ∙ length-append t (drop (length t) before)
        ∙ omega (arith, length-drop (length t) before, leb-true (length t) (length before) e)
    go false e h = ap length h
