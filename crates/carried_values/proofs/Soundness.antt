-- Values that the checks of a form find sound: every value in its range, and those that must agree do. The columns of the names do not
-- matter.
use Prim.Native.Nat.{ℕ, ◌≤◌}
use mathlib.Core.{Path.{◌≡◌, refl}, Logic.{◌⊎◌, inl, inr}, Bool.{Bool, true, false, cond, ◌&&◌}, List.{List, [], ◌∷◌, ◌++◌, map}}
use native.Mathlib.Omega.{arith}
use lib.{Dec.{T, leb, eqb, leb→le, eqb→eq}, ListN.{length, get_or, take, drop}}
use borrow.Author.Tests.{le-leb, eqb-true}
use mir.Facts.{and_yes, or_yes}
use Rattle.text.{specs.Text.{same}, proofs.Clash.{clash}}
use Rattle.writing.specs.Text.{all_values}
use Rattle.case.specs.declared.Form.{Form as CodeForm, TheVariants.{Present, Former}}
use Rattle.case.specs.Columns.{Range, from, zero_or, either, Form, in_range, columns, former_columns, name_index, named}
use Rattle.case.specs.{Check.{left_of, out_of_range, agree, disagreement, finding}, Bounds.{Placed}, Parts.{range_at, form_of}}
use Rattle.case.proofs.Ranges.{InRange, in_range_lem, in_range_at, some_columns}
use Rattle.case.specs.declared.Finding.TheVariants as found
use Rattle.carried_values.specs.{Values.{other, present_values, former_values, carried}, Parts.{places_in}}

-- which values must agree
unfoldable pub agreeing : Form → List ℕ → Bool
agreeing form v =
    agree (named form v "layer") (named form v "thick") &&
    (agree (named form v "rods") (named form v "rodlen") && agree (named form v "rods") (named form v "place"))

pub record Sound (form : Form) (v : List ℕ) : Type 0 where
  pub count : length v ≡ length form
  pub ranges : InRange form v
  pub agrees : agreeing form v ≡ true

-- ---- from the checks, and to them

pub sound_values : {form : Form} {at v : List ℕ} → Placed (length form) at → length v ≡ length form → finding form at v ≡ found.Sound
    → Sound form v
unfolding finding disagreement agreeing
sound_values {form} {at} {v} p n e = ranged (eqb (out_of_range form at v) 0) refl e
  where
    agreed : (a b c : Bool) (x y : ℕ) → cond a (cond (b && c) found.Sound (found.Disagreement x)) (found.Disagreement y) ≡ found.Sound
        → (a && (b && c)) ≡ true
    agreed true true true x y h = refl
    agreed true true false x y h = clash cc
    agreed true false c x y h = clash cc
    agreed false b c x y h = clash cc

    ranged : (b : Bool) → eqb (out_of_range form at v) 0 ≡ b
        → cond b (disagreement form at v) (found.OutOfRange (out_of_range form at v)) ≡ found.Sound → Sound form v
    ranged true q h =
        record {
          count = n;
          ranges = in_range_lem form at v p.count (some_columns at (length form) p.count p.some) (eqb-true (out_of_range form at v) 0 q);
          agrees =
              agreed (agree (named form v "layer") (named form v "thick")) (agree (named form v "rods") (named form v "rodlen"))
              (agree (named form v "rods") (named form v "place")) _ _ h;
        }
    ranged false q h = clash cc

none_outside : (form : Form) (at v : List ℕ) → InRange form v → out_of_range form at v ≡ 0
unfolding out_of_range
none_outside [] at v r = refl
none_outside (k ∷ ks) [] v r = refl
none_outside (k ∷ ks) (c ∷ at) [] r = refl
none_outside (k ∷ ks) (c ∷ at) (x ∷ v) r = go (in_range k.range x) r.0 (none_outside ks at v r.1)
  where
    go : (b : Bool) → T b → out_of_range ks at v ≡ 0 → cond b (out_of_range ks at v) (left_of c (out_of_range ks at v)) ≡ 0
    go true t h = h
    go false t h = absurd t

pub values_sound : {form : Form} {v : List ℕ} (at : List ℕ) → Sound form v → finding form at v ≡ found.Sound
unfolding finding disagreement agreeing
values_sound {form} {v} at s =
    rw (none_outside form at v s.ranges)
    (agreed (agree (named form v "layer") (named form v "thick")) (agree (named form v "rods") (named form v "rodlen"))
    (agree (named form v "rods") (named form v "place")) _ _ s.agrees)
  where
    agreed : (a b c : Bool) (x y : ℕ) → (a && (b && c)) ≡ true
        → cond a (cond (b && c) found.Sound (found.Disagreement x)) (found.Disagreement y) ≡ found.Sound
    agreed true true true x y h = refl
    agreed true true false x y h = clash cc
    agreed true false c x y h = clash cc
    agreed false b c x y h = clash cc

-- ---- values in range have at most six digits

small_range : Range → Bool
small_range (from low high) = leb high 999999
small_range (zero_or low high) = leb high 999999
small_range (either a b) = leb a 999999 && leb b 999999

small_value : (r : Range) (x : ℕ) → T (small_range r) → T (in_range r x) → x ≤ 999999
unfolding small_range in_range
small_value (from low high) x s t = omega (arith, leb→le high 999999 s, leb→le x high (and_yes (leb low x) (leb x high) t).1)
small_value (zero_or low high) x s t = go (or_yes (eqb x 0) (leb low x && leb x high) t)
  where
    go : T (eqb x 0) ⊎ T (leb low x && leb x high) → x ≤ 999999
    go (inl z) = omega (arith, eqb→eq x 0 z)
    go (inr t) = omega (arith, leb→le high 999999 s, leb→le x high (and_yes (leb low x) (leb x high) t).1)
small_value (either a b) x s t = go (or_yes (eqb x a) (eqb x b) t)
  where
    go : T (eqb x a) ⊎ T (eqb x b) → x ≤ 999999
    go (inl z) = omega (arith, eqb→eq x a z, leb→le a 999999 (and_yes (leb a 999999) (leb b 999999) s).0)
    go (inr z) = omega (arith, eqb→eq x b z, leb→le b 999999 (and_yes (leb a 999999) (leb b 999999) s).1)

all_small : Form → Bool
all_small [] = true
all_small (k ∷ ks) = small_range k.range && all_small ks

small_values : (form : Form) (v : List ℕ) → T (all_small form) → length v ≡ length form → InRange form v → all_values v ≡ true
unfolding all_small all_values
small_values [] [] s n r = refl
small_values [] (x ∷ v) s n r = absurd (omega arith)
small_values (k ∷ ks) [] s n r = refl
small_values (k ∷ ks) (x ∷ v) s n r =
    let t = and_yes (small_range k.range) (all_small ks) s in
    rw (le-leb x 999999 (small_value k.range x t.0 r.0), small_values ks v t.1 (omega arith) r.1)

form_small : (form : CodeForm) → T (all_small (form_of form))
unfolding form_of columns former_columns all_small small_range
form_small Present = tt
form_small Former = tt

pub sound_small : {v : List ℕ} (form : CodeForm) → Sound (form_of form) v → all_values v ≡ true
sound_small {v} form s = small_values (form_of form) v (form_small form) s.count s.ranges

-- ---- sound values are sound in the other form

-- values at some places of sound ones, each in the range of its column, and more that are in theirs
picked_in_range : (source : Form) (v : List ℕ) → ((i : ℕ) → T (in_range (range_at source i) (get_or v i 0)))
    → (form more : Form) (places w : List ℕ) → map (range_at source) places ≡ map (λ c. c.range) form → InRange more w
    → InRange (form ++ more) (map (λ i. get_or v i 0) places ++ w)
picked_in_range source v at [] more [] w e r = r
picked_in_range source v at [] more (p ∷ places) w e r = clash cc
picked_in_range source v at (c ∷ form) more [] w e r = clash cc
picked_in_range source v at (c ∷ form) more (p ∷ places) w e r =
    let q : range_at source p ≡ c.range = cc in
    (rw (← q) (at p), picked_in_range source v at form more places w (cc) r)

pub carried_sound : (form : CodeForm) (v : List ℕ) → Sound (form_of (other form)) v → Sound (form_of form) (carried form v)
unfolding form_of other carried present_values former_values columns former_columns agreeing named name_index same range_at in_range places_in
carried_sound Present v s =
    let at = in_range_at former_columns v s.count s.ranges in
    record {
      count = refl;
      ranges =
          picked_in_range former_columns v at (take 21 columns) (drop 21 columns) (take 21 (places_in Present))
          (drop 21 (carried Present v)) refl (tt, tt);
      agrees = s.agrees;
    }
carried_sound Former v s =
    let at = in_range_at columns v s.count s.ranges in
    record { count = refl; ranges = picked_in_range columns v at former_columns [] (places_in Former) [] refl tt; agrees = s.agrees }
