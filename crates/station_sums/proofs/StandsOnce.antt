-- Every station of some rows stands once among the stations by first appearance, and no other number does.
use Prim.Native.Nat.{◌+◌}
use mathlib.Core.{Path.{◌≡◌, refl, sym, ap, ◌∙◌}, Bool.{Bool, true, false, cond, ◌||◌}, List.{List, [], ◌∷◌, ◌++◌}}
use native.Mathlib.Omega.{arith}
use lib.IntN.{ℤ}
use Rattle.whole.specs.Count.{one}
use Rattle.row.specs.declared.Row.{Row}
use Rattle.station_sums.specs.{Summary.{same_z, among, by_appearance, stations_of, stations}, Meaning.{times}}
use Rattle.station_sums.proofs.Same.{same_eq, same_comm}

-- ---- one number more at the end

or_more : (a b c : Bool) → a || (b || c) ≡ (a || b) || c
or_more true b c = refl
or_more false b c = refl

none_more : (b : Bool) → b || false ≡ b
none_more true = refl
none_more false = refl

times_more : (x y : ℤ) (l : List ℤ) → times x (l ++ (y ∷ [])) ≡ times x l + one (same_z y x)
unfolding times
times_more x y [] = omega arith
times_more x y (z ∷ l) = omega (arith, times_more x y l)

among_more : (x y : ℤ) (l : List ℤ) → among x (l ++ (y ∷ [])) ≡ among x l || same_z x y
unfolding among
among_more x y [] = none_more (same_z x y)
among_more x y (z ∷ l) = ap (λ (b : Bool). same_z x z || b) (among_more x y l) ∙ or_more (same_z x z) (among x l) (same_z x y)

-- ---- no two of the stations found are equal

-- a number stands once in a list that has it, and not in another
abbrev Once : ℤ → List ℤ → Type 0
Once x l = times x l ≡ one (among x l)

-- a station that is not among those found joins them
once_more : (x y : ℤ) (l : List ℤ) → among y l ≡ false → Once x l → Once x (l ++ (y ∷ []))
unfolding one
once_more x y l new o = times_more x y l ∙ go (same_z x y) refl ∙ ap one (sym (among_more x y l))
  where
    go : (b : Bool) → same_z x y ≡ b → times x l + one (same_z y x) ≡ one (among x l || same_z x y)
    go true e =
        let z : x ≡ y = same_eq x y e in
        let absent : among x l ≡ false = ap (λ (w : ℤ). among w l) z ∙ new in
        let s : same_z y x ≡ true = same_comm y x ∙ e in
        let t : times x l ≡ 0 = o ∙ ap one absent in
        rw (s, e, absent) (omega arith)
    go false e =
        let s : same_z y x ≡ false = same_comm y x ∙ e in
        rw (s, e) (omega (arith, o ∙ ap one (sym (none_more (among x l)))))

once_from : (x : ℤ) (found xs : List ℤ) → Once x found → times x (by_appearance found xs) ≡ one (among x found || among x xs)
unfolding by_appearance among one
once_from x found [] o = o ∙ ap one (sym (none_more (among x found)))
once_from x found (y ∷ xs) o = go (among y found) refl (λ f p. once_from x f xs p)
  where
    known : (b : Bool) → same_z x y ≡ b → among y found ≡ true → among x found || among x xs ≡ among x found || (b || among x xs)
    known true e k = rw (ap (λ (w : ℤ). among w found) (same_eq x y e) ∙ k)
    known false e k = refl

    go : (b : Bool) → among y found ≡ b → ((f : List ℤ) → Once x f → times x (by_appearance f xs) ≡ one (among x f || among x xs))
        → times x (by_appearance (cond b found (found ++ (y ∷ []))) xs) ≡ one (among x found || (same_z x y || among x xs))
    go true k rest = rest found o ∙ ap one (known (same_z x y) refl k)
    go false k rest =
        rest (found ++ (y ∷ [])) (once_more x y found k o) ∙ ap (λ (b : Bool). one (b || among x xs)) (among_more x y found)
        ∙ ap one (sym (or_more (among x found) (same_z x y) (among x xs)))

pub stands_once : (x : ℤ) (rows : List Row) → times x (stations rows) ≡ one (among x (stations_of rows))
unfolding stations times among one
stands_once x rows = once_from x [] (stations_of rows) refl
