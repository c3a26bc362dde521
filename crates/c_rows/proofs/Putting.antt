-- Numbers put one after the other: each has its own eight bytes.
use Prim.Native.Nat.{ℕ, ◌+◌, ◌-◌, ◌*◌, ◌≤◌, ◌<◌}
use mathlib.Core.{Path.{◌≡◌, refl, sym, ap, ◌∙◌}, Logic.{◌⊎◌, inl, inr}, List.{List, [], ◌∷◌, ◌++◌, append_assoc, append-nil}}
use native.Mathlib.{Nat.{eq-or-lt_of_le}, Numerals.{add-one}, Omega.{arith}}
use lib.{IntN.{ℤ, pos}, ListN.{length, get_or, take, drop}, Seq.{take-suc, take-add, take_all}}
use mir.{Syntax.{w64}, Val.{SFits}}
use borrow.Rule.Slice.PartMut.{put_mid}
use Rattle.tables.{specs.Parts.{Written}, proofs.Writing.{put_written}}
use Rattle.c_bytes.{specs.Bytes.{number_bytes, bytes_of, bytes_of_all, numbers_of}, proofs.Reading.{bytes_length, numbers_back}}
use Rattle.c_rows.specs.Put.{Put}

-- the bytes of the first n numbers, each of which fits 64 signed bits, are put into a part of so many bytes
pub record PutTo (numbers : List ℤ) (bytes n : ℕ) (part : List ℕ) : Type 0 where
  pub size : length part ≡ bytes
  pub front : take (number_bytes * n) part ≡ bytes_of_all (take n numbers)
  pub fit : (k : ℕ) → k < n → SFits w64 (get_or numbers k (pos 0))

bytes_append : (a b : List ℤ) → bytes_of_all (a ++ b) ≡ bytes_of_all a ++ bytes_of_all b
unfolding bytes_of_all
bytes_append [] b = refl
bytes_append (z ∷ a) b = rw (bytes_append a b, append_assoc)

pub put_start : {bytes : ℕ} (numbers : List ℤ) (part : List ℕ) → length part ≡ bytes → PutTo numbers bytes 0 part
unfolding bytes_of_all
put_start numbers part e = record { size = e; front = refl; fit = λ k h. absurd (omega arith) }

-- one number more
module _ {numbers : List ℤ} {bytes i : ℕ} {u : List ℕ} (p : PutTo numbers bytes i u) (within : i < length numbers)
    (room : number_bytes * i + number_bytes ≤ bytes) (fits : SFits w64 (get_or numbers i (pos 0))) where
  abbrev part : List ℕ
  part = bytes_of (get_or numbers i (pos 0))

  abbrev a : ℕ
  a = number_bytes * i

  abbrev after : List ℕ
  after = put_mid a (a + number_bytes - a) u part

  more : number_bytes * (i + 1) ≡ a + number_bytes
  more = omega arith

  written : Written number_bytes i part u after
  written = put_written number_bytes i u part (omega (arith, p.size)) (bytes_length (get_or numbers i (pos 0)))

  after_front : take (a + number_bytes) after ≡ bytes_of_all (take i numbers) ++ part
  after_front =
      take-add a number_bytes after
      ∙ ap (λ l. l ++ take number_bytes (drop a after)) (written.front ∙ p.front)
      ∙ ap (λ l. bytes_of_all (take i numbers) ++ l) written.part_is

  bytes_one : bytes_of_all (get_or numbers i (pos 0) ∷ []) ≡ part
  unfolding bytes_of_all
  bytes_one = append-nil part

  put_step : PutTo numbers bytes (i + 1) after
  put_step =
      record {
        size = written.size ∙ p.size;
        front = rw (more, add-one, take-suc numbers i (pos 0) within, bytes_append, bytes_one) after_front;
        fit = λ k h. at k (eq-or-lt_of_le (omega arith));
      }
    where
      at : (k : ℕ) → (k ≡ i) ⊎ (k < i) → SFits w64 (get_or numbers k (pos 0))
      at k (inl e) = rw e fits
      at k (inr h) = p.fit k h

  -- as the code has it: where the number starts, how many are put then, and its eight bytes
  pub put_next : (start n : ℕ) {row : List ℕ} → start ≡ number_bytes * i → n ≡ i + 1 → row ≡ bytes_of (get_or numbers i (pos 0))
      → PutTo numbers bytes n (put_mid start (start + number_bytes - start) u row)
  put_next start n e f h = rw (e, f, h) put_step

-- all of them
pub put_all : {numbers : List ℤ} {bytes n : ℕ} {part : List ℕ} → PutTo numbers bytes n part → n ≡ length numbers → number_bytes * n ≡ bytes
    → Put numbers part
put_all {numbers} {bytes} {n} {part} p e f =
    let b : part ≡ bytes_of_all numbers =
    sym (take_all (number_bytes * n) part (omega (arith, p.size))) ∙ p.front ∙ ap bytes_of_all (take_all n numbers (omega arith)) in
    record { bytes = b; read = ap (numbers_of (length numbers)) b ∙ numbers_back numbers (λ k h. p.fit k (omega arith)) }
