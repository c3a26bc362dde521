-- The place of a station among some: what its answer says, and which answer it is.
use Rattle.std.proofs.Common.{ℕ, ◌≡◌, ◌≤◌, ◌<◌, ◌∙◌, sym, refl, Bool, true, false, cond, ltb, List, length, get_or, take, ℤ, pos, Some, None, arith}
use Rattle.std.specs.List.{position, position_or_len}
use Rattle.std.proofs.lemmas.List.{Quantifiers.{position-Some}, Sums.{position_or_len_is, fails_before_first}}
use borrow.Author.Tests.{ltb-false, le-ltb, lt-ltb}
use lib.Seq.{get_or-take, length-take-le}
use Rattle.station_sums.{specs.Summary.{same_z}, proofs.Same.{same_eq, same_refl, same_apart, not_same}}
use Rattle.appearance.specs.Places.{place_of}

-- none of the first count of some is a station
pub record NotAmong (known : List ℤ) (count : ℕ) (station : ℤ) : Type 0 where
  pub none : (k : ℕ) → k < count → get_or known k (pos 0) ≡ station → ⊥

-- it stands at a place
pub record StandsAt (known : List ℤ) (count : ℕ) (station : ℤ) (place : ℕ) : Type 0 where
  pub within : place < count
  pub here : get_or known place (pos 0) ≡ station

-- where no place is found, none passes
fails : (p : ℤ → Bool) (l : List ℤ) → position p l ≡ None → (k : ℕ) → k < length l → p (get_or l k (pos 0)) ≡ false
fails p l e k h = fails_before_first p l k (pos 0) (omega (arith, past (ltb (position_or_len p l) (length l)) refl e))
  where
    past : (b : Bool) → ltb (position_or_len p l) (length l) ≡ b → cond b (Some (position_or_len p l)) None ≡ None → length l ≤ position_or_len p l
    past true t e = absurd (cc)
    past false t e = ltb-false _ _ t

-- where none passes, no place is found
none_found : (p : ℤ → Bool) (l : List ℤ) → ((k : ℕ) → k < length l → p (get_or l k (pos 0)) ≡ false) → position p l ≡ None
none_found p l f =
    let e : position_or_len p l ≡ length l = position_or_len_is p l (length l) (pos 0) (omega arith) f (λ h. absurd (omega arith)) in
    rw (e, le-ltb (length l) (length l) (omega arith))

pub not_among : {known : List ℤ} {x : ℤ} → NotAmong known (length known) x → None ≡ place_of x known
unfolding place_of
not_among {known} {x} n = sym (none_found (same_z x) known (λ k h. not_same x (get_or known k (pos 0)) (λ e. n.none k h (sym e))))

-- ---- the first count

module _ {known : List ℤ} {count : ℕ} {x : ℤ} (fits : count ≤ length known) where
  pub place_known : {p : ℕ} → place_of x (take count known) ≡ Some p → StandsAt known count x p
  unfolding place_of
  place_known {p} e =
      let q = position-Some (same_z x) (take count known) p (pos 0) e in
      let l : p < count = omega (arith, q.0, length-take-le count known fits) in
      record { within = l; here = sym (get_or-take count known p (pos 0) l) ∙ sym (same_eq x _ q.1) }

  pub place_new : place_of x (take count known) ≡ None → NotAmong known count x
  unfolding place_of
  place_new e =
      record {
        none = λ k h q.
            same_apart (fails (same_z x) (take count known) e k (omega (arith, length-take-le count known fits))) (sym (get_or-take count known k (pos 0) h ∙ q));
      }

  -- the first place at which it stands
  pub stands_at : {p : ℕ} → StandsAt known count x p → NotAmong known p x → Some p ≡ place_of x (take count known)
  unfolding place_of
  stands_at {p} s n =
      let size = length-take-le count known fits in
      let here : get_or (take count known) p (pos 0) ≡ x = get_or-take count known p (pos 0) s.within ∙ s.here in
      let e : position_or_len (same_z x) (take count known) ≡ p =
      position_or_len_is (same_z x) (take count known) p (pos 0) (omega (arith, size, s.within))
      (λ k h. not_same x _ (λ q. n.none k h (sym (get_or-take count known k (pos 0) (omega (arith, s.within))) ∙ sym q)))
      (λ h. rw here (same_refl x))
      in
      let l : p < length (take count known) = omega (arith, size, s.within) in
      rw (e, lt-ltb p (length (take count known)) l) refl

  -- none of the first ones
  pub none_among : NotAmong known count x → None ≡ place_of x (take count known)
  none_among n =
      not_among (record {
        none = λ j g q. let h : j < count = omega (arith, g, length-take-le count known fits) in n.none j h (sym (get_or-take count known j (pos 0) h) ∙ q);
      })
