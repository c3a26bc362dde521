-- A case in which the checks find no fault is within its bounds.
use Prim.Native.{Nat.{ℕ, zero, suc, ◌+◌, ◌≤◌, ◌<◌}, String.{String}}
use mathlib.Core.{Path.{◌≡◌, refl, ap}, Bool.{Bool, true, false, cond, ◌&&◌, ◌||◌}, Logic.{◌⊎◌, inl, inr, ⊎_elim}, List.{List}}
use native.Mathlib.Omega.{arith}
use lib.{ListN.{length, get_or}, Dec.{T, leb, eqb, leb→le, eqb→eq}}
use mir.Facts.{and_yes, or_yes}
use Rattle.text.{specs.Text.{bytes, same}, proofs.Clash.{clash}}
use Rattle.case.specs.declared.{Case.{Case}, Finding.{Finding, TheVariants.{Sound, OutOfRange, Disagreement}}}
use Rattle.case.specs.{Columns.{columns, in_range, name_index, named}, Case.{values}}
use Rattle.case.specs.Check.{out_of_range, disagreement, finding, case_finding, count_from, own_places, record_finding, judged_by}
use Rattle.case.specs.{Check.{record_judged}, Parts.{range_at}, Bounds.{Placed, Between, Bare, Layered, Rodless, Rodded, Bounds}}
use Rattle.case.proofs.{Ranges.{InRange, in_range_lem, in_range_at, some_columns}, Agreement.{Agree, Agreed, agreements}}
use Rattle.std.specs.Prelude.{Ok}

-- ---- the two tests of a sound case

record Tests (at : List ℕ) (c : Case) : Type 0 where
  ranges : out_of_range columns at (values c) ≡ 0
  agrees : disagreement columns at (values c) ≡ Sound

tests : (at : List ℕ) (c : Case) → case_finding at c ≡ Sound → Tests at c
unfolding case_finding finding
tests at c h = go (eqb (out_of_range columns at (values c)) 0) refl h
  where
    go : (b : Bool) → eqb (out_of_range columns at (values c)) 0 ≡ b
        → cond b (disagreement columns at (values c)) (OutOfRange (out_of_range columns at (values c))) ≡ Sound → Tests at c
    go true t k = record { ranges = eqb→eq _ 0 (rw t tt); agrees = k }
    go false t k = clash cc

-- ---- the bounds

-- what the three kinds of range say
between : (a b x : ℕ) → T (leb a x && leb x b) → Between a x b
between a b x h = let t = and_yes (leb a x) (leb x b) h in record { low = leb→le a x t.0; high = leb→le x b t.1 }

zero_or_lem : (a b x : ℕ) → T (eqb x 0 || leb a x && leb x b) → (x ≡ 0) ⊎ Between a x b
zero_or_lem a b x h = ⊎_elim (λ t. inl (eqb→eq x 0 t)) (λ t. inr (between a b x t)) (or_yes (eqb x 0) (leb a x && leb x b) h)

either_of : (a b x : ℕ) → T (eqb x a || eqb x b) → (x ≡ a) ⊎ (x ≡ b)
either_of a b x h = ⊎_elim (λ t. inl (eqb→eq x a t)) (λ t. inr (eqb→eq x b t)) (or_yes (eqb x a) (eqb x b) h)

surface : (c : Case) → (c.layer ≡ 0) ⊎ Between 100 c.layer 10000 → (c.thick ≡ 0) ⊎ Between 20 c.thick 300
    → Agree c.layer c.thick → Bare c ⊎ Layered c
surface c l t (inl z) = inl (record { layer = z.0; thick = z.1 })
surface c (inl e) t (inr n) = absurd (omega arith)
surface c (inr l) (inl e) (inr n) = absurd (omega arith)
surface c (inr l) (inr t) (inr n) = inr (record { layer = l; thick = t })

rods : (c : Case) → c.rods ≤ 200 → (c.rodlen ≡ 0) ⊎ Between 1000 c.rodlen 10000 → c.place ≤ 2
    → Agree c.rods c.rodlen → Agree c.rods c.place → Rodless c ⊎ Rodded c
rods c n l p (inl z) (inl y) = inl (record { rods = z.0; rodlen = z.1; place = y.1 })
rods c n l p (inl z) (inr y) = absurd (omega arith)
rods c n l p (inr z) (inl y) = absurd (omega arith)
rods c n (inl e) p (inr z) (inr y) = absurd (omega arith)
rods c n (inr l) p (inr z) (inr y) =
    inr (record { rods = record { low = z.0; high = n }; rodlen = l; place = record { low = y.1; high = p } })

bounded : (c : Case) → InRange columns (values c) → Agreed c → Bounds c
unfolding columns in_range range_at named name_index same
bounded c r g =
    let at : (name : String) → T (in_range (range_at columns (name_index columns (bytes name))) (named columns (values c) name))
    = λ name. in_range_at columns (values c) refl r (name_index columns (bytes name)) in
    record {
      station = between 1 65535 c.station (at "station");
      season = between 1 4 c.season (at "season");
      soil = between 10 5000 c.soil (at "soil");
      surface = surface c (zero_or_lem 100 10000 c.layer (at "layer")) (zero_or_lem 20 300 c.thick (at "thick")) g.layer;
      shock = between 9 3000 c.shock (at "shock");
      clear = between 9 3000 c.clear (at "clear");
      wire = between 9 3000 c.wire (at "wire");
      body = either_of 50 70 c.body (at "body");
      fault = between 100 80000 c.fault (at "fault");
      split = between 1 1000 c.split (at "split");
      xr = between 1 40 c.xr (at "xr");
      across = between 2 25 c.across (at "across");
      along = between 2 25 c.along (at "along");
      space = between 2500 30000 c.space (at "space");
      depth = between 250 2500 c.depth (at "depth");
      dia = between 50 300 c.dia (at "dia");
      rods =
          rods c (between 0 200 c.rods (at "rods")).high (zero_or_lem 1000 10000 c.rodlen (at "rodlen"))
          (between 0 2 c.place (at "place")).high g.rodlen g.place;
      metal = between 1 11 c.metal (at "metal");
      hz = either_of 50 60 c.hz (at "hz");
    }

pub bounds : {at : List ℕ} {c : Case} → Placed (length columns) at → case_finding at c ≡ Sound → Bounds c
bounds {at} {c} p h =
    bounded c (in_range_lem columns at (values c) p.count (some_columns at (length columns) p.count p.some) (tests at c h).ranges)
    (agreements at c (tests at c h).agrees)

-- ---- the columns of a record

count_length : (first n : ℕ) → length (count_from first n) ≡ n
unfolding count_from
count_length first zero = refl
count_length first (suc n) = ap suc (count_length (suc first) n)

count_some : (first n i : ℕ) → 1 ≤ first → i < n → 1 ≤ get_or (count_from first n) i 0
unfolding count_from
count_some first zero i h l = absurd (omega arith)
count_some first (suc n) zero h l = h
count_some first (suc n) (suc i) h l = count_some (suc first) n i (omega arith) (omega arith)

count_within : (first n i : ℕ) → 1 ≤ first → get_or (count_from first n) i 0 < first + n
unfolding count_from
count_within first zero i h = omega arith
count_within first (suc n) zero h = omega arith
count_within first (suc n) (suc i) h = omega (arith, count_within (suc first) n i (omega arith))

own_placed : Placed (length columns) own_places
unfolding own_places
own_placed =
    record {
      count = count_length 1 (length columns);
      some = λ i l. count_some 1 (length columns) i (omega arith) l;
      within = λ i. omega (arith, count_within 1 (length columns) i (omega arith));
    }

pub record_bounds : {c : Case} → record_judged c ≡ Ok tt → Bounds c
unfolding record_finding record_judged judged_by
record_bounds {c} h = bounds own_placed (found (record_finding c) h)
  where
    found : (f : Finding) → judged_by f ≡ Ok tt → f ≡ Sound
    found Sound e = refl
    found (OutOfRange k) e = clash cc
    found (Disagreement k) e = clash cc
