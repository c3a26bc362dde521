-- The summary table: six numbers a station, one station after the other.
use Prim.Native.Nat.{ℕ, suc, ◌+◌, ◌*◌, ◌-◌, ◌≤◌, ◌<◌}
use mathlib.Core.{Path.{◌≡◌, refl, sym, ap, ◌∙◌}, List.{List, [], ◌∷◌, ◌++◌, append_assoc}}
use native.Mathlib.{Numerals.{add-one}, Omega.{arith}}
use lib.{IntN.{ℤ, pos}, ListN.{length, get_or, take, drop, length-append, length-drop, take-append-drop}}
use lib.Seq.{take_at, drop_at, length-take-le, drop-drop}
use borrow.Rule.Slice.PartMut.{put_mid, Post-is}
use Rattle.station_sums.specs.{declared.Sums.{Sums}, Summary.{filled, station_length}, Sums.{none, six, sixes, put_at}}

-- a part of six numbers put in the place of station i
pub put_at_lem : (i : ℕ) (t x y : List ℤ) → x ≡ y
    → put_mid (station_length * i) (station_length * (i + 1) - station_length * i) t x ≡ put_at i y t
unfolding put_at
put_at_lem i t x y e =
    let next : station_length * (i + 1) ≡ station_length * i + station_length = omega arith in
    rw (next, e, Post-is (station_length * i) (station_length * i + station_length) t (omega arith))

six_long : (station : ℤ) (s : Sums) → length (six station s) ≡ station_length
unfolding six
six_long station s = refl

-- the parts of a table into which station i was put
module _ (i : ℕ) (x t : List ℤ) (long : length x ≡ station_length) (h : station_length * i + station_length ≤ length t) where
  front : length (take (station_length * i) t ++ x) ≡ station_length * (i + 1)
  front = length-append (take (station_length * i) t) x ∙ omega (arith, length-take-le (station_length * i) t (omega arith))

  put_split_lem : put_at i x t ≡ (take (station_length * i) t ++ x) ++ drop (station_length * i + station_length) t
  unfolding put_at
  put_split_lem = sym (append_assoc (take (station_length * i) t) x (drop (station_length * i + station_length) t))

  put_take : take (station_length * (i + 1)) (put_at i x t) ≡ take (station_length * i) t ++ x
  put_take =
      rw put_split_lem (take_at (take (station_length * i) t ++ x) (drop (station_length * i + station_length) t) (station_length * (i + 1)) front)

  put_drop : drop (station_length * (i + 1)) (put_at i x t) ≡ drop (station_length * i + station_length) t
  put_drop =
      rw put_split_lem (drop_at (take (station_length * i) t ++ x) (drop (station_length * i + station_length) t) (station_length * (i + 1)) front)

  put_length : length (put_at i x t) ≡ length t
  put_length =
      rw put_split_lem
      (length-append (take (station_length * i) t ++ x) (drop (station_length * i + station_length) t)
      ∙ omega (arith, front, length-drop (station_length * i + station_length) t))

-- ---- the pass that fills it: the stations before i are written

-- the stations from i on
abbrev left : List ℤ → List Sums → ℕ → ℕ → List (List ℤ)
left stations sums count i = sixes stations sums i (count - i)

pub record Putting (stations : List ℤ) (sums : List Sums) (count : ℕ) (before : List ℤ) (i : ℕ) (table : List ℤ) : Type 0 where
  pub most : i ≤ count
  pub size : length table ≡ length before
  pub rest : filled (sixes stations sums 0 count) before
      ≡ take (station_length * i) table ++ filled (left stations sums count i) (drop (station_length * i) table)

module _ {stations : List ℤ} {sums : List Sums} {count : ℕ} {before : List ℤ} {i : ℕ} {t : List ℤ}
    (a : Putting stations sums count before i t) where
  left_next : i < count → left stations sums count i ≡ six (get_or stations i (pos 0)) (get_or sums i none) ∷ left stations sums count (i + 1)
  unfolding sixes
  left_next h =
      let z : count - i ≡ suc (count - suc i) = omega arith in
      rw (add-one, z)

  pub putting_next : {u : List ℤ} → i < count → station_length * count ≤ length before
      → u ≡ put_at i (six (get_or stations i (pos 0)) (get_or sums i none)) t → Putting stations sums count before (i + 1) u
  unfolding filled
  putting_next {u} h room e =
      let x = six (get_or stations i (pos 0)) (get_or sums i none) in
      let z = six_long (get_or stations i (pos 0)) (get_or sums i none) in
      let f : station_length * i + station_length ≤ length t = omega (arith, a.size) in
      record {
        most = omega arith;
        size = rw e (put_length i x t z f ∙ a.size);
        rest =
            a.rest ∙ ap (λ (k : List (List ℤ)). take (station_length * i) t ++ filled k (drop (station_length * i) t)) (left_next h)
            ∙ sym (append_assoc (take (station_length * i) t) x
            (filled (left stations sums count (i + 1)) (drop station_length (drop (station_length * i) t))))
            ∙ rw (e, drop-drop station_length (station_length * i) t, put_take i x t z f, put_drop i x t z f);
      }

  pub putting_end : count ≤ i → t ≡ filled (sixes stations sums 0 count) before
  unfolding filled sixes
  putting_end h =
      let z : count - i ≡ 0 = omega arith in
      let none_left : left stations sums count i ≡ [] = rw z in
      sym (a.rest ∙ ap (λ (k : List (List ℤ)). take (station_length * i) t ++ filled k (drop (station_length * i) t)) none_left
      ∙ take-append-drop (station_length * i) t)
