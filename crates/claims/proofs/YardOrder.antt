-- The list of yards by line and rod counts: at which index each yard stands, and which yard stands at each index.
use Prim.Native.Nat.{ℕ, zero, suc, ◌+◌, ◌*◌, ◌-◌, ◌/◌, ◌%◌, ◌≤◌, ◌<◌}
use mathlib.Core.{Path.{◌≡◌, refl, sym, ap, ◌∙◌}, Bool.{Bool, true, false, cond}, List.{[], map}}
use native.Mathlib.{Nat.{div-add-mod', mul-div_cancel, mul-mod_left}, Decide.{dec_lt}, Omega.{arith}}
use lib.{ListN.{length, get_or, length-append, get_or-append}, Seq.{get_or-append-add}}
use borrow.Author.Tests.{eqb-true, eq-eqb, ne_eqb, le-leb}
use Rattle.whole.specs.Count.{one}
use Rattle.text.{specs.Text.{same}, proofs.Clash.{clash}}
use Rattle.case.specs.{declared.Case.{Case}, Bounds.{Between}, Columns.{columns, in_range, name_index}, Parts.{range_at}, Check.{count_from}}
use Rattle.yards.specs.Yards.{spacing, space_range, fits, yard, rod_counts, yards_of, yards_from, yards}
use Rattle.yards.proofs.Trying.{lines_next, lines_end}
use Rattle.claims.specs.Yards.{with_yard, Fits, YardTried, Fitting}
use Rattle.claims.specs.Yards as claim
use Rattle.claims.proofs.{Betweens.{and_yes, between_yes}, Lines.{map_at}}

-- ---- a count that fits

fits_is : {side lines space : ℕ} → Fits side lines space → (fits side lines ≡ true) × (spacing side lines ≡ space)
unfolding fits spacing space_range range_at columns in_range name_index same
fits_is {side} {lines} {space} f =
    let some : 0 < lines - 1 = omega (arith, f.counts.low) in
    let share : space * (lines - 1) / (lines - 1) ≡ space = mul-div_cancel space some in
    let e : side / (lines - 1) ≡ space = rw (← f.multiple) share in
    let none : side % (lines - 1) ≡ 0 = rw (← f.multiple) (mul-mod_left space (lines - 1)) in
    (rw (eq-eqb (side % (lines - 1)) 0 none, e, le-leb 2500 space f.spacing.low, le-leb space 30000 f.spacing.high), e)

is_fits : {side lines : ℕ} → Between 2 lines 25 → fits side lines ≡ true → Fits side lines (spacing side lines)
unfolding fits spacing space_range range_at columns in_range name_index same
is_fits {side} {lines} b h =
    let p = and_yes _ _ h in
    let none : side % (lines - 1) ≡ 0 = eqb-true (side % (lines - 1)) 0 p.0 in
    record {
      counts = b;
      multiple = omega (arith, div-add-mod' side (lines - 1));
      spacing = between_yes 2500 (side / (lines - 1)) 30000
          p.1;
    }

-- ---- the yard with some lines and rods

yard_without : (c : Case) (side lines : ℕ) → yard c side lines 0 ≡ with_yard lines lines (spacing side lines) 0 0 0 c
unfolding yard
yard_without c side lines = refl

yard_with : (c : Case) (side lines k : ℕ) → 1 ≤ k
    → yard c side lines (4 * k) ≡ with_yard lines lines (spacing side lines) (4 * k) c.rodlen 1 c
unfolding yard
yard_with c side lines k h = rw (ne_eqb (4 * k) 0 (λ e. omega arith))

pub tried_is : {c : Case} {side lines k : ℕ} {y : Case} → YardTried c side lines k y
    → (fits side lines ≡ true) × (y ≡ yard c side lines (4 * k))
tried_is {c} {side} {lines} {k} {y} t = let f = fits_is t.fits in (f.0, go k refl f.1)
  where
    go : (m : ℕ) → k ≡ m → spacing side lines ≡ t.space → y ≡ yard c side lines (4 * k)
    go zero e s = t.without_rods e ∙ rw (e, ← s) (sym (yard_without c side lines))
    go (suc m) e s = let h : 1 ≤ k = omega arith in t.with_rods h ∙ rw (← s) (sym (yard_with c side lines k h))

pub is_tried : (c : Case) {side lines k : ℕ} → Between 2 lines 25 → fits side lines ≡ true → k ≤ 10
    → YardTried c side lines k (yard c side lines (4 * k))
is_tried c {side} {lines} {k} b f h =
    record {
      space = spacing side lines;
      fits = is_fits b f;
      rods = h;
      without_rods = λ e. rw e (yard_without c side lines);
      with_rods = λ l. yard_with c side lines k l;
    }

-- ---- how many counts fit

-- how many of n counts, from a first one on, fit the side
unfoldable pub fitting : ℕ → ℕ → ℕ → ℕ
fitting side first zero = 0
fitting side first (suc n) = one (fits side first) + fitting side (first + 1) n

pub fitting_is : (side n first : ℕ) → 2 ≤ first → first + n ≤ 26 → Fitting side first n (fitting side first n)
unfolding fitting one
fitting_is side zero first l m = claim.none
fitting_is side (suc n) first l m = go (fits side first) refl (fitting_is side n (first + 1) (omega arith) (omega arith))
  where
    no_fit : fits side first ≡ true → fits side first ≡ false → ⊥
    no_fit p q = clash cc

    go : (b : Bool) → fits side first ≡ b → Fitting side (first + 1) n (fitting side (first + 1) n)
        → Fitting side first (suc n) (cond b 1 0 + fitting side (first + 1) n)
    go true f more =
        let z : 1 + fitting side (first + 1) n ≡ suc (fitting side (first + 1) n) = omega arith in
        rw z (claim.fits (is_fits (record { low = l; high = omega arith }) f) more)
    go false f more =
        let z : 0 + fitting side (first + 1) n ≡ fitting side (first + 1) n = omega arith in
        rw z (claim.skipped (λ space h. no_fit (fits_is h).0 f) more)

pub fitting_more : (side first n m : ℕ)
    → fitting side first (n + suc m) ≡ fitting side first n + one (fits side (first + n)) + fitting side (first + n + 1) m
unfolding fitting
fitting_more side first zero m =
    let z : 0 + suc m ≡ suc m = omega arith in
    let w : first + 0 ≡ first = omega arith in
    rw (z, w) (omega arith)
fitting_more side first (suc n) m =
    let z : suc n + suc m ≡ suc (n + suc m) = omega arith in
    let w : first + suc n ≡ first + 1 + n = omega arith in
    rw (z, w) (omega (arith, fitting_more side (first + 1) n m))

of_length : (c : Case) (side lines : ℕ) → length (yards_of c side lines 0) ≡ 11 * one (fits side lines)
unfolding yards_of rod_counts one count_from
of_length c side lines = go (fits side lines)
  where
    go : (b : Bool) → length (cond b (map (yard c side lines) (rod_counts 0)) []) ≡ 11 * cond b 1 0
    go true = refl
    go false = refl

pub yards_length : (n from : ℕ) (c : Case) (side : ℕ) → from + n ≡ 26 → length (yards_from c side from) ≡ 11 * fitting side from n
unfolding fitting
yards_length zero from c side e = rw (lines_end c side from (omega arith)) refl
yards_length (suc n) from c side e =
    rw (lines_next c side from (omega arith), length-append)
    (omega (arith, of_length c side from, yards_length n (from + 1) c side (omega arith)))

-- ---- the yards of one count

count_at : (first n i : ℕ) → i < n → get_or (count_from first n) i 0 ≡ first + i
unfolding count_from
count_at first zero i h = absurd (omega arith)
count_at first (suc n) zero h = omega arith
count_at first (suc n) (suc i) h = omega (arith, count_at (suc first) n i (omega arith))

count_length : (first n : ℕ) → length (count_from first n) ≡ n
unfolding count_from
count_length first zero = refl
count_length first (suc n) = ap suc (count_length (suc first) n)

rods_at : (k : ℕ) → k ≤ 10 → get_or (rod_counts 0) k 0 ≡ 4 * k
unfolding rod_counts
rods_at k h =
    map_at (λ i. 4 * i) (count_from 0 11) k 0 0 (omega (arith, count_length 0 11))
    ∙ ap (λ (i : ℕ). 4 * i) (count_at 0 11 k (omega arith)) ∙ omega arith

of_entry : (c : Case) (side lines k : ℕ) → fits side lines ≡ true → k ≤ 10 → get_or (yards_of c side lines 0) k c ≡ yard c side lines (4 * k)
unfolding yards_of rod_counts count_from
of_entry c side lines k f h = rw f (map_at (yard c side lines) (rod_counts 0) k 0 c (omega arith) ∙ ap (yard c side lines) (rods_at k h))

-- ---- the index of each yard

module _ (c : Case) (side : ℕ) where
  abbrev index_from : ℕ → ℕ → ℕ → ℕ
  index_from from n k = 11 * fitting side from n + k

  stands : (n from k : ℕ) → from + n ≤ 25 → fits side (from + n) ≡ true → k ≤ 10
      → get_or (yards_from c side from) (index_from from n k) c ≡ yard c side (from + n) (4 * k)
  unfolding fitting one
  stands zero from k m f h =
      let z : from + 0 ≡ from = omega arith in
      let e : 11 * 0 + k ≡ k = omega arith in
      let g : fits side from ≡ true = rw z at f in
      let w : k < length (yards_of c side from 0) = rw (of_length c side from, g) (omega arith) in
      rw (lines_next c side from (omega arith), z, e)
      (get_or-append (yards_of c side from 0) (yards_from c side (from + 1)) c k w ∙ of_entry c side from k g h)
  stands (suc n) from k m f h =
      let z : from + suc n ≡ from + 1 + n = omega arith in
      let e : 11 * (one (fits side from) + fitting side (from + 1) n) + k ≡ length (yards_of c side from 0) + index_from (from + 1) n k
      = omega (arith, of_length c side from) in
      rw (lines_next c side from (omega arith), z, e)
      (get_or-append-add (yards_of c side from 0) (yards_from c side (from + 1)) (index_from (from + 1) n k) c
      ∙ stands n (from + 1) k (omega arith) (rw z at f) h)

  -- ---- the yard at each index

  pub record Located (from i : ℕ) : Type 0 where
    pub more : ℕ
    pub fours : ℕ
    pub most : from + more ≤ 25
    pub fits_so : fits side (from + more) ≡ true
    pub few : fours ≤ 10
    pub index : i ≡ index_from from more fours

  located : (n from i : ℕ) → from + n ≡ 26 → i < length (yards_from c side from) → Located from i
  unfolding fitting one
  located zero from i e h = absurd (omega (arith, ap length (lines_end c side from (omega arith)), nothing))
    where
      nothing : length {A = Case} [] ≡ 0
      nothing = refl
  located (suc n) from i e h =
      go (fits side from) refl (dec_lt i (length (yards_of c side from 0)))
      (λ l. located n (from + 1) (i - length (yards_of c side from 0)) (omega arith) (rest l))
    where
      rest : length (yards_of c side from 0) ≤ i → i - length (yards_of c side from 0) < length (yards_from c side (from + 1))
      rest l =
          omega (
            arith,
            ap length (lines_next c side from (omega arith)),
            length-append (yards_of c side from 0)
                (yards_from c side (from + 1)),
          )

      later : length (yards_of c side from 0) ≤ i → Located (from + 1) (i - length (yards_of c side from 0)) → Located from i
      later l p =
          let shift : from + suc p.more ≡ from + 1 + p.more = omega arith in
          record {
            more = suc p.more;
            fours = p.fours;
            most = omega (arith, p.most);
            fits_so = rw shift p.fits_so;
            few = p.few;
            index = omega (arith, p.index, of_length c side from);
          }

      go : (b : Bool) → fits side from ≡ b → Dec (i < length (yards_of c side from 0))
          → (length (yards_of c side from 0) ≤ i → Located (from + 1) (i - length (yards_of c side from 0))) → Located from i
      go b f (no l) next = let k : length (yards_of c side from 0) ≤ i = omega (arith, l) in later k (next k)
      go false f (yes l) next = let w : length (yards_of c side from 0) ≡ 0 = of_length c side from ∙ rw f in absurd (omega arith)
      go true f (yes l) next =
          let w : length (yards_of c side from 0) ≡ 11 = of_length c side from ∙ rw f in
          let z : from + 0 ≡ from = omega arith in
          record { more = 0; fours = i; most = omega arith; fits_so = rw z f; few = omega arith; index = omega arith }

  -- ---- of the whole list

  pub yards_count : length (yards c side) ≡ 11 * fitting side 2 24
  unfolding yards
  yards_count = yards_length 24 2 c side (omega arith)

  module _ {lines k : ℕ} (l : 2 ≤ lines) (m : lines ≤ 25) (f : fits side lines ≡ true) (h : k ≤ 10) where
    pub at_index : get_or (yards c side) (index_from 2 (lines - 2) k) c ≡ yard c side lines (4 * k)
    unfolding yards
    at_index =
        let z : 2 + (lines - 2) ≡ lines = omega arith in
        rw z at (stands (lines - 2) 2 k (omega arith) (rw z f) h)

    -- and before every yard with more lines
    pub index_before : (n : ℕ) → lines < n → n ≤ 26 → index_from 2 (lines - 2) k < 11 * fitting side 2 (n - 2)
    unfolding one
    index_before n p q =
        let z : lines - 2 + suc (n - lines - 1) ≡ n - 2 = omega arith in
        let w : 2 + (lines - 2) ≡ lines = omega arith in
        let e : fitting side 2 (n - 2) ≡ fitting side 2 (lines - 2) + 1 + fitting side (lines + 1) (n - lines - 1)
        = rw (z, w, f) at (fitting_more side 2 (lines - 2) (n - lines - 1)) in
        omega arith

    pub index_within : index_from 2 (lines - 2) k < length (yards c side)
    index_within = omega (arith, index_before 26 (omega arith) (omega arith), yards_count)

  pub located_at : (i : ℕ) → i < length (yards c side) → Located 2 i
  unfolding yards
  located_at i h = located 24 2 i (omega arith) h
