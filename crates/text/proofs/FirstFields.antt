-- The first field of a line by the digits at its front.
use Rattle.std.proofs.Common.{Some, ℕ, ◌+◌, ◌-◌, ◌*◌, ◌%◌, ◌^◌, ◌<◌, ◌≤◌, le-leb}
use mathlib.Core.{Path.{◌≡◌, refl, sym, ap, ◌∙◌}, Bool.{Bool, true, false, ◌&&◌}, List.{List, [], ◌∷◌, ◌++◌}}
use native.Mathlib.{Numerals.{add-one}, Nat.{pow-suc, pow-le-pow_right}, Decide.{dec_lt, dec_le}, Omega.{arith}}
use lib.{ListN.{length, get_or, take}, Seq.{take-suc, take-take, length-take-le, get_or-take}}
use Rattle.text.specs.{Text.{index_of}, Value.{digit, digits, number_from, value_of, field_value}, Parts.{Passed, digits_value, IsFront}, declared.FrontValue.{FrontValue}}
use Rattle.text.proofs.Searching.{searching_start, searching_found, searching_step, searching_end, index_part}
use Rattle.text.proofs.Form.{form_one, form_more}

-- one digit more
number_next : (n : ℕ) (t : List ℕ) (b : ℕ) → number_from n (t ++ (b ∷ [])) ≡ number_from n t * 10 + (b - 48)
unfolding number_from
number_next n [] b = refl
number_next n (x ∷ t) b = number_next (n * 10 + (x - 48)) t b

digits_next : (t : List ℕ) (b : ℕ) → digits t ≡ true → 48 ≤ b → b ≤ 57 → digits (t ++ (b ∷ [])) ≡ true
unfolding digits digit
digits_next [] b e l k = rw (le-leb 48 b l, le-leb b 57 k)
digits_next (x ∷ t) b e l k = go (digit x) (λ p. digits_next t b p l k) e
  where
    go : (d : Bool) → (digits t ≡ true → digits (t ++ (b ∷ [])) ≡ true) → d && digits t ≡ true → d && digits (t ++ (b ∷ [])) ≡ true
    go true next p = next p
    go false next p = p

-- i digits at the front of a text stand for n, and no 0 leads
pub record Front (s : List ℕ) (n i : ℕ) : Type 0 where
  pub few : i ≤ 6
  pub all : digits (take i s) ≡ true
  pub number : value_of (take i s) ≡ n
  pub small : n < 10 ^ i
  pub no_comma : Passed 44 s i
  pub no_zero : 1 < i → get_or s 0 0 ≡ 48 → ⊥

pub front_start : (s : List ℕ) → Front s 0 0
unfolding digits number_from value_of
front_start s =
    record {
      few = omega arith;
      all = refl;
      number = refl;
      small = omega arith;
      no_comma = searching_start 44 s;
      no_zero = λ h. absurd (omega arith);
    }

-- a difference of at most 9 is that of a digit
pub difference_back : (d b : ℕ) → (d + 48) % 2 ^ 32 ≡ b → d ≤ 9 → b ≡ d + 48
difference_back d b e h = omega arith

module _ {s : List ℕ} {n i : ℕ} (a : Front s n i) where
  -- six digits and one more fit
  pub front_fits : n ≤ 999999
  front_fits = omega (arith, a.small, pow-le-pow_right {n = 10} (omega arith) a.few)

  pub front_step : {d : ℕ} → i < length s → i < 6 → d ≤ 9 → get_or s i 0 ≡ d + 48 → (i ≡ 1 → get_or s 0 0 ≡ 48 → ⊥)
      → Front s (n * 10 + d) (i + 1)
  unfolding value_of
  front_step {d} h few l e z =
      let b = get_or s i 0 in
      let k : b - 48 ≡ d = omega arith in
      record {
        few = omega arith;
        all = rw (add-one, take-suc s i 0 h) (digits_next (take i s) b a.all (omega arith) (omega arith));
        number = rw (add-one, take-suc s i 0 h, number_next 0 (take i s) b, k) (ap (λ m. m * 10 + d) a.number);
        small = rw (add-one, pow-suc 10 i) (omega (arith, a.small));
        no_comma = searching_step a.no_comma h (λ q. omega arith);
        no_zero = λ m. lead m (dec_lt 1 i);
      }
    where
      lead : 1 < i + 1 → Dec (1 < i) → get_or s 0 0 ≡ 48 → ⊥
      lead m (yes k) = a.no_zero k
      lead m (no k) = z (omega arith)

  -- where a comma follows or the line ends, the digits are the first field
  pub front_value : 1 ≤ i → (i < length s → get_or s i 0 ≡ 44) → IsFront s (record { end = i; value = n })
  unfolding digits_value
  front_value k h = record { some = k; few = a.few; ends = ends (dec_lt i (length s)); held = value ∙ form k (dec_le i 1) }
    where
      ends : Dec (i < length s) → i ≡ index_of 44 s
      ends (yes k) = searching_found a.no_comma k (h k)
      ends (no k) = searching_end a.no_comma (omega arith)

      value : Some n ≡ digits_value (take i s)
      value = rw (a.all, a.number)

      long : length (take i s) ≡ i
      long = length-take-le i s a.no_comma.within

      form : 1 ≤ i → Dec (i ≤ 1) → digits_value (take i s) ≡ field_value (take i s)
      form k (yes l) = form_one (take i s) (omega (arith, long)) (omega (arith, long))
      form k (no l) =
          form_more (take i s) (omega (arith, long)) (omega (arith, long, a.few))
          (λ q. a.no_zero (omega arith) (sym (get_or-take i s 0 0 (omega arith)) ∙ q))

-- a value at the front of the first k bytes of a line, which are more than a value's, is at the front of the line
pub front_whole : (k : ℕ) (line : List ℕ) {v : FrontValue} → IsFront (take k line) v → 6 < k → k ≤ length line → IsFront line v
front_whole k line {v} f h l =
    record {
      some = f.some;
      few = f.few;
      ends = f.ends ∙ sym (index_part 44 k line l (omega (arith, f.few, f.ends)));
      held = f.held ∙ ap field_value (take-take v.end k line (omega (arith, f.few)));
    }
