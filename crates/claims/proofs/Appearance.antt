-- Numbers by first appearance: which line each comes from.
use Prim.Native.Nat.{ℕ, suc, ◌+◌, ◌<◌}
use mathlib.Core.{Path.{◌≡◌, refl, sym, ap, ◌∙◌}, Bool.{Bool, true, false, cond, ◌||◌, false≢true}, List.{List, [], ◌∷◌, ◌++◌}}
use native.Mathlib.{Decide.{ℕ_discrete}, Omega.{arith}}
use lib.{Dec.{eqb}, IntN.{ℤ, pos}, ListN.{length, get_or, drop, length-append, get_or-append}, Seq.{get_or-append-add, get_or-drop, drop-drop}}
use borrow.Author.Tests.{eq-eqb, ne_eqb}
use Rattle.text.proofs.Clash.{clash}
use Rattle.station_sums.{specs.Summary.{same_z, among, by_appearance}, proofs.Same.{same_refl, same_eq}}
use Rattle.claims.specs.Summary.{ByAppearance}

-- a number among others stands at some place
among_place : (x : ℤ) (ys : List ℤ) → among x ys ≡ true → (j : ℕ) × (j < length ys) × (get_or ys j (pos 0) ≡ x)
unfolding among
among_place x [] h = clash cc
among_place x (y ∷ ys) h = go (same_z x y) refl h (among_place x ys)
  where
    go : (b : Bool) → same_z x y ≡ b → b || among x ys ≡ true → (among x ys ≡ true → (j : ℕ) × (j < length ys) × (get_or ys j (pos 0) ≡ x))
        → (j : ℕ) × (j < suc (length ys)) × (get_or (y ∷ ys) j (pos 0) ≡ x)
    go true e k later = (0, omega arith, sym (same_eq x y e))
    go false e k later = let p = later k in (suc p.0, omega (arith, p.1), p.2)

-- the first k of the numbers zs have been looked at, and these were found
record Found (zs : List ℤ) (k : ℕ) (found : List ℤ) : Type 0 where
  line : ℕ → ℕ
  within : (j : ℕ) → j < length found → line j < k
  own : (j : ℕ) → j < length found → get_or zs (line j) (pos 0) ≡ get_or found j (pos 0)
  first : (j : ℕ) → j < length found → (i : ℕ) → i < line j → ¬ (get_or zs i (pos 0) ≡ get_or found j (pos 0))
  rising : (j l : ℕ) → j < l → l < length found → line j < line l
  every : (i : ℕ) → i < k → among (get_or zs i (pos 0)) found ≡ true

module _ (zs : List ℤ) where
  abbrev at : ℕ → ℤ
  at i = get_or zs i (pos 0)

  found_old : {k : ℕ} {found : List ℤ} → Found zs k found → among (at k) found ≡ true → Found zs (k + 1) found
  found_old {k} {found} f e =
      record {
        line = f.line;
        within = λ j l. omega (arith, f.within j l);
        own = f.own;
        first = f.first;
        rising = f.rising;
        every = λ i l. go i (ℕ_discrete i k) l;
      }
    where
      go : (i : ℕ) → Dec (i ≡ k) → i < k + 1 → among (at i) found ≡ true
      go i (yes p) l = rw p e
      go i (no p) l = f.every i (omega (arith, p))

  among_more : (x y : ℤ) (found : List ℤ) → among x found ≡ true → among x (found ++ (y ∷ [])) ≡ true
  unfolding among
  among_more x y [] h = clash cc
  among_more x y (z ∷ found) h = go (same_z x z) h (among_more x y found)
    where
      go : (b : Bool) → b || among x found ≡ true → (among x found ≡ true → among x (found ++ (y ∷ [])) ≡ true)
          → b || among x (found ++ (y ∷ [])) ≡ true
      go true k later = refl
      go false k later = later k

  among_last : (y : ℤ) (found : List ℤ) → among y (found ++ (y ∷ [])) ≡ true
  unfolding among
  among_last y [] = rw (same_refl y)
  among_last y (z ∷ found) = go (same_z y z) (among_last y found)
    where
      go : (b : Bool) → among y (found ++ (y ∷ [])) ≡ true → b || among y (found ++ (y ∷ [])) ≡ true
      go true k = refl
      go false k = k

  -- a new number joins at the end
  module _ {k : ℕ} {found : List ℤ} (f : Found zs k found) (new : among (at k) found ≡ false) where
    abbrev more : List ℤ
    more = found ++ (at k ∷ [])

    abbrev line_now : ℕ → ℕ
    line_now j = cond (eqb j (length found)) k (f.line j)

    count : length more ≡ length found + 1
    count = length-append found (at k ∷ [])

    old_line : (j : ℕ) → j < length found → line_now j ≡ f.line j
    old_line j l = rw (ne_eqb j (length found) (λ e. omega arith))

    old_entry : (j : ℕ) → j < length found → get_or more j (pos 0) ≡ get_or found j (pos 0)
    old_entry j l = get_or-append found (at k ∷ []) (pos 0) j l

    new_line : line_now (length found) ≡ k
    new_line = rw (eq-eqb (length found) (length found) refl)

    new_entry : get_or more (length found) (pos 0) ≡ at k
    new_entry =
        let z : length found + 0 ≡ length found = omega arith in
        rw z at (get_or-append-add found (at k ∷ []) 0 (pos 0))

    -- an old place, or the last
    each : (P : ℕ → Type 0) → ((j : ℕ) → j < length found → P j) → P (length found) → (j : ℕ) → j < length more → P j
    each P old last j l = go (ℕ_discrete j (length found))
      where
        go : Dec (j ≡ length found) → P j
        go (yes p) = rw p last
        go (no p) = old j (omega (arith, p, count))

    found_new : Found zs (k + 1) more
    found_new =
        record {
          line = line_now;
          within = each (λ j. line_now j < k + 1) (λ j l. rw (old_line j l) (omega (arith, f.within j l))) (rw new_line (omega arith));
          own =
              each (λ j. at (line_now j) ≡ get_or more j (pos 0)) (λ j l. rw (old_line j l, old_entry j l) (f.own j l))
              (rw (new_line, new_entry) refl);
          first =
              each (λ j. (i : ℕ) → i < line_now j → ¬ (at i ≡ get_or more j (pos 0)))
              (λ j l i g e. f.first j l i (rw (old_line j l) at g) (e ∙ old_entry j l))
              (λ i g e. false≢true (sym new ∙ rw (← new_entry, ← e) (f.every i (rw new_line at g))));
          rising =
              λ j l g h.
              each (λ l. (j : ℕ) → j < l → line_now j < line_now l)
              (λ l h j g. rw (old_line j (omega arith), old_line l h) (f.rising j l g h))
              (λ j g. rw (old_line j g, new_line) (f.within j g)) l h j g;
          every = λ i l. go i (ℕ_discrete i k) l;
        }
      where
        go : (i : ℕ) → Dec (i ≡ k) → i < k + 1 → among (at i) more ≡ true
        go i (yes p) l = rw p (among_last (at k) found)
        go i (no p) l = among_more (at i) (at k) found (f.every i (omega (arith, p)))

  found_all : (xs : List ℤ) (k : ℕ) (found : List ℤ) → drop k zs ≡ xs → Found zs k found → Found zs (k + length xs) (by_appearance found xs)
  unfolding by_appearance
  found_all [] k found e f = let z : k + 0 ≡ k = omega arith in rw z f
  found_all (x ∷ xs) k found e f =
      let z : k + 0 ≡ k = omega arith in
      let w : k + suc (length xs) ≡ k + 1 + length xs = omega arith in
      let here : x ≡ at k = ap (λ (l : List ℤ). get_or l 0 (pos 0)) (sym e) ∙ (rw z at (get_or-drop k zs 0 (pos 0))) in
      let rest : drop (k + 1) zs ≡ xs = sym (drop-drop 1 k zs) ∙ ap (drop 1) e in
      rw (w, here) (go (among (at k) found) refl (λ now g. found_all xs (k + 1) now rest g))
    where
      go : (b : Bool) → among (at k) found ≡ b
          → ((now : List ℤ) → Found zs (k + 1) now → Found zs (k + 1 + length xs) (by_appearance now xs))
          → Found zs (k + 1 + length xs) (by_appearance (cond b found (found ++ (at k ∷ []))) xs)
      go true q next = next found (found_old f q)
      go false q next = next (found ++ (at k ∷ [])) (found_new f q)

  appearance : Found zs (0 + length zs) (by_appearance [] zs)
  appearance =
      found_all zs 0 [] refl
      (record {
        line = λ j. 0;
        within = λ j l. absurd (omega arith);
        own = λ j l. absurd (omega arith);
        first = λ j l. absurd (omega arith);
        rising = λ j l g h. absurd (omega arith);
        every = λ i l. absurd (omega arith);
      })

  -- the law, of numbers that are those of the list and of its numbers by first appearance
  pub by_appearance_lem : {n m : ℕ} (station order : ℕ → ℤ) → n ≡ length zs → m ≡ length (by_appearance [] zs)
      → ((i : ℕ) → i < n → station i ≡ at i)
      → ((j : ℕ) → j < m → order j ≡ get_or (by_appearance [] zs) j (pos 0)) → ByAppearance station n m order
  by_appearance_lem {n} {m} station order p q s o =
      let f = appearance in
      record {
        line = f.line;
        within = λ j l. omega (arith, f.within j (omega arith));
        own = λ j l. s (f.line j) (omega (arith, f.within j (omega arith))) ∙ f.own j (omega arith) ∙ sym (o j l);
        first = λ j l i g e. f.first j (omega arith) i g (sym (s i (omega (arith, f.within j (omega arith)))) ∙ e ∙ o j l);
        rising = λ j k g l. f.rising j k g (omega arith);
        every =
            λ i l.
            let a = among_place (at i) (by_appearance [] zs) (f.every i (omega arith)) in
            (a.0, omega (arith, a.1), o a.0 (omega (arith, a.1)) ∙ a.2 ∙ sym (s i l));
      }
