-- The fields of a value line: where no column is wrong, each is a value; else what is wrong.
use Prim.Native.Nat.{ℕ, suc, ◌+◌, ◌-◌, ◌≤◌, ◌<◌}
use mathlib.Core.{Path.{◌≡◌, refl, sym, ap, ◌∙◌}, Bool.{Bool, true, false, cond, ◌&&◌}, List.{List, [], ◌∷◌}}
use native.Mathlib.{Numerals.{add-one}, Decide.{ℕ_discrete}, Omega.{arith}}
use lib.{ListN.{length, get_or, drop}, Seq.{get_or-drop, drop-drop}, Dec.{leb}}
use borrow.Author.Tests.{leb-true, leb-false}
use Rattle.text.{specs.Value.{is_value}, proofs.Clash.{clash}}
use Rattle.header.specs.Names.{field_at, Leftmost, None}
use Rattle.line.specs.Line.{wrong_form}
use Rattle.judgement.specs.Wrong.{RightValues, WrongValues, wrong_form_lem, too_few, too_many}

-- while the fields fs are left, those left of column c are values
record ValuesLeft (n : ℕ) (all fs : List (List ℕ)) (c : ℕ) : Type 0 where
  first : 1 ≤ c
  most : c ≤ n + 1
  rest : drop (c - 1) all ≡ fs
  size : c + length fs ≡ length all + 1
  values : (i : ℕ) → 1 ≤ i → i < c → is_value (field_at all i) ≡ true

values_start : (n : ℕ) (all : List (List ℕ)) → ValuesLeft n all all 1
values_start n all =
    record { first = omega arith; most = omega arith; rest = refl; size = omega arith; values = λ i l m. absurd (omega arith) }

module _ {n c : ℕ} {all fs : List (List ℕ)} {t : List ℕ} (a : ValuesLeft n all (t ∷ fs) c) where
  field_here : field_at all c ≡ t
  field_here =
      let z : c - 1 + 0 ≡ c - 1 = omega arith in
      sym (rw z at (get_or-drop (c - 1) all 0 [])) ∙ ap (λ (l : List (List ℕ)). get_or l 0 []) a.rest

  values_step : c ≤ n → is_value t ≡ true → ValuesLeft n all fs (c + 1)
  values_step h e =
      record {
        first = omega arith;
        most = omega arith;
        rest = later;
        size = omega (arith, a.size);
        values = λ i l m. values i (ℕ_discrete i c) l m;
      }
    where
      later : drop (c + 1 - 1) all ≡ fs
      later = let q : c + 1 - 1 ≡ c - 1 + 1 = omega (arith, a.first) in rw (q, ← drop-drop 1 (c - 1) all, a.rest)

      values : (i : ℕ) → Dec (i ≡ c) → 1 ≤ i → i < c + 1 → is_value (field_at all i) ≡ true
      values i (yes p) l m = rw (p, field_here) e
      values i (no p) l m = a.values i l (omega (arith, p))

-- what becomes of the next field
data Next (n : ℕ) (t : List ℕ) (r c : ℕ) : ℕ → Type 0 where
  value : c ≤ n → is_value t ≡ true → Next n t r c r
  surplus : n < c → Next n t r c c
  no_value : c ≤ n → is_value t ≡ false → Next n t r c c

next : (n : ℕ) (t : List ℕ) (r c : ℕ) → Next n t r c (cond (leb c n && is_value t) r c)
next n t r c = go (leb c n) refl (is_value t) refl
  where
    go : (p : Bool) → leb c n ≡ p → (q : Bool) → is_value t ≡ q → Next n t r c (cond (p && q) r c)
    go true e true f = value (leb-true c n e) f
    go true e false f = no_value (leb-true c n e) f
    go false e q f = surplus (leb-false c n e)

right_from : (n : ℕ) (all fs : List (List ℕ)) (c : ℕ) → ValuesLeft n all fs c → wrong_form n c fs ≡ 0 → RightValues n all
unfolding wrong_form
right_from n all [] c a e = go (leb c n) refl e
  where
    go : (b : Bool) → leb c n ≡ b → cond b c 0 ≡ 0 → RightValues n all
    go true f z = absurd (omega (arith, a.first))
    go false f z =
        let l = leb-false c n f in
        record { all = omega (arith, a.size, a.most); each = λ i h m. a.values i h (omega arith) }
right_from n all (t ∷ fs) c a e =
    go (next n t (wrong_form n (suc c) fs) c) e (λ b z. right_from n all fs (suc c) (rw (add-one c) at b) z)
  where
    go : {w : ℕ} → Next n t (wrong_form n (suc c) fs) c w → w ≡ 0
        → (ValuesLeft n all fs (c + 1) → wrong_form n (suc c) fs ≡ 0 → RightValues n all) → RightValues n all
    go (value h f) z then = then (values_step a h f) z
    go (surplus h) z then = absurd (omega (arith, a.first))
    go (no_value h f) z then = absurd (omega (arith, a.first))

pub right_values : (n : ℕ) (all : List (List ℕ)) → wrong_form n 1 all ≡ 0 → RightValues n all
right_values n all e = right_from n all all 1 (values_start n all) e

-- where each is a value, no column is wrong
pub no_wrong_value : {n : ℕ} {all : List (List ℕ)} → RightValues n all → None (WrongValues n all)
no_wrong_value r c (wrong_form_lem l m o e) = let z : ◌≡◌ {A = Bool} true false = sym (r.each c l m) ∙ e in clash cc
no_wrong_value r c (too_few l e) = omega (arith, r.all)
no_wrong_value r c (too_many l e) = omega (arith, r.all)

-- no column further left is wrong
left_right : {n c : ℕ} {all fs : List (List ℕ)} → ValuesLeft n all fs c → (left : ℕ) → left < c → ¬ WrongValues n all left
left_right a left h (wrong_form_lem l m o e) = let z : ◌≡◌ {A = Bool} true false = sym (a.values left l h) ∙ e in clash cc
left_right a left h (too_few l e) = omega (arith, a.size)
left_right a left h (too_many l e) = omega (arith, a.most)

wrong_from : (n : ℕ) (all fs : List (List ℕ)) (c : ℕ) → ValuesLeft n all fs c → (wrong_form n c fs ≡ 0 → ⊥)
    → Leftmost (WrongValues n all) (wrong_form n c fs)
unfolding wrong_form
wrong_from n all [] c a e = go (leb c n) refl e
  where
    go : (b : Bool) → leb c n ≡ b → (cond b c 0 ≡ 0 → ⊥) → Leftmost (WrongValues n all) (cond b c 0)
    go true f z =
        let l = leb-true c n f in
        record { here = too_few (omega (arith, a.size)) (omega (arith, a.size)); first = left_right a }
    go false f z = absurd (z refl)
wrong_from n all (t ∷ fs) c a e =
    go (next n t (wrong_form n (suc c) fs) c) e (λ b z. wrong_from n all fs (suc c) (rw (add-one c) at b) z)
  where
    go : {w : ℕ} → Next n t (wrong_form n (suc c) fs) c w → (w ≡ 0 → ⊥)
        → (ValuesLeft n all fs (c + 1) → (wrong_form n (suc c) fs ≡ 0 → ⊥) → Leftmost (WrongValues n all) (wrong_form n (suc c) fs))
        → Leftmost (WrongValues n all) w
    go (value h f) z then = then (values_step a h f) z
    go (surplus h) z then =
        record { here = too_many (omega (arith, a.size, a.most)) (omega (arith, a.most)); first = left_right a }
    go (no_value h f) z then =
        record { here = wrong_form_lem a.first h (omega (arith, a.size)) (rw (field_here a) f); first = left_right a }

-- the leftmost wrong column
pub wrong_values : (n : ℕ) (all : List (List ℕ)) → (wrong_form n 1 all ≡ 0 → ⊥) → Leftmost (WrongValues n all) (wrong_form n 1 all)
wrong_values n all e = wrong_from n all all 1 (values_start n all) e
