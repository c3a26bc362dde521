-- One row more at the end of some rows: the rows of a station, its counts and its worst season.
use Prim.Native.Nat.{ℕ, suc, ◌+◌}
use mathlib.Core.{Path.{◌≡◌, refl, sym, ap, ◌∙◌}, Bool.{Bool, true, false, cond, ◌||◌}, List.{List, [], ◌∷◌, ◌++◌}}
use native.Mathlib.Omega.{arith}
use lib.{Dec.{eqb}, IntN.{ℤ}, ListN.{length, length-append}, Signed.{lt_z}}
use borrow.Author.Tests.{ne_eqb}
use Rattle.whole.specs.Count.{one}
use Rattle.decision.specs.{declared.Verdict.{TheVariants.{Safe, Unsafe, Undecided}, Verdict}, Verdict.{verdict_number}}
use Rattle.row.specs.declared.Row.{Row}
use Rattle.station_sums.specs.{declared.Sums.{Sums}, Summary.{same_z, rows_of, count_of, higher, highest, worst_season}}
use Rattle.station_sums.specs.Sums.{entry_of, worst, add_to, worst_mesh, sums_of}

-- sums are equal by their six numbers
cong_sums : {a b c d a' b' c' d' : ℕ} {e f e' f' : ℤ} → a ≡ a' → b ≡ b' → c ≡ c' → d ≡ d' → e ≡ e' → f ≡ f'
    → ◌≡◌ {A = Sums} (record { seasons = a; safe = b; not_safe = c; undecided = d; season = e; mesh = f })
    (record { seasons = a'; safe = b'; not_safe = c'; undecided = d'; season = e'; mesh = f' })
cong_sums p q r s t u = rw (p, q, r, s, t, u)

pub rows_more : (station : ℤ) (rows : List Row) (r : Row)
    → rows_of station (rows ++ (r ∷ [])) ≡ cond (same_z station r.station) (rows_of station rows ++ (r ∷ [])) (rows_of station rows)
unfolding rows_of
rows_more station [] r = go (same_z station r.station)
  where
    go : (b : Bool) → cond b (r ∷ []) [] ≡ cond b ([] ++ (r ∷ [])) []
    go true = refl
    go false = refl
rows_more station (x ∷ rows) r = go (same_z station x.station) (same_z station r.station) (rows_more station rows r)
  where
    go : {more : List Row} (a b : Bool) → more ≡ cond b (rows_of station rows ++ (r ∷ [])) (rows_of station rows)
        → cond a (x ∷ more) more ≡ cond b (cond a (x ∷ rows_of station rows) (rows_of station rows) ++ (r ∷ [])) (cond a (x
        ∷ rows_of station rows) (rows_of station rows))
    go true true e = ap (λ (l : List Row). x ∷ l) e
    go true false e = ap (λ (l : List Row). x ∷ l) e
    go false true e = e
    go false false e = e

count_more : (v : Verdict) (rows : List Row) (r : Row)
    → count_of v (rows ++ (r ∷ [])) ≡ count_of v rows + one (eqb (verdict_number r.verdict) (verdict_number v))
unfolding count_of
count_more v [] r = omega arith
count_more v (x ∷ rows) r = omega (arith, count_more v rows r)

highest_more : (x : Row) (rows : List Row) (r : Row) → highest x (rows ++ (r ∷ [])) ≡ higher (highest x rows) r
unfolding highest
highest_more x [] r = refl
highest_more x (y ∷ rows) r = highest_more (higher x y) rows r

higher_number : (f : Row → ℤ) (x y : Row) → f (higher x y) ≡ cond (lt_z x.mesh.upper y.mesh.upper) (f y) (f x)
unfolding higher
higher_number f x y = go (lt_z x.mesh.upper y.mesh.upper)
  where
    go : (b : Bool) → f (cond b y x) ≡ cond b (f y) (f x)
    go true = refl
    go false = refl

-- no row before, or the highest of those before is lower
some_worst : (n : ℕ) (b : Bool) → eqb (suc n) 0 || b ≡ b
some_worst n b = rw (ne_eqb (suc n) 0 (λ e. omega arith))

-- ---- season and mesh end of the highest row

season_more : (rows : List Row) (r : Row)
    → worst_season (rows ++ (r ∷ [])) ≡ cond (worst (sums_of rows) (entry_of r)) r.season (worst_season rows)
unfolding worst_season worst_mesh worst sums_of entry_of highest
season_more [] r = refl
season_more (x ∷ rows) r =
    ap (λ (y : Row). y.season) (highest_more x rows r) ∙ higher_number (λ y. y.season) (highest x rows) r
    ∙ ap (λ (b : Bool). cond b r.season (highest x rows).season)
    (sym (some_worst (length rows) (lt_z (highest x rows).mesh.upper r.mesh.upper)))

mesh_more : (rows : List Row) (r : Row)
    → worst_mesh (rows ++ (r ∷ [])) ≡ cond (worst (sums_of rows) (entry_of r)) r.mesh.upper (worst_mesh rows)
unfolding worst_mesh worst sums_of entry_of highest
mesh_more [] r = refl
mesh_more (x ∷ rows) r =
    ap (λ (y : Row). y.mesh.upper) (highest_more x rows r) ∙ higher_number (λ y. y.mesh.upper) (highest x rows) r
    ∙ ap (λ (b : Bool). cond b r.mesh.upper (highest x rows).mesh.upper)
    (sym (some_worst (length rows) (lt_z (highest x rows).mesh.upper r.mesh.upper)))

-- ---- the sums

pub sums_more : (rows : List Row) (r : Row) → sums_of (rows ++ (r ∷ [])) ≡ add_to (sums_of rows) (entry_of r)
unfolding sums_of add_to entry_of same_z verdict_number
sums_more rows r =
    cong_sums (length-append rows (r ∷ [])) (count_more Safe rows r) (count_more Unsafe rows r) (count_more Undecided rows r)
    (season_more rows r) (mesh_more rows r)
