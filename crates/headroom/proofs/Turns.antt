-- How many turns the search takes: a guess is one less of the guesses, and a middle halves what is left.
use Prim.Native.Nat.{ℕ, zero, suc, ◌+◌, ◌-◌, ◌*◌, ◌^◌, ◌≤◌, ◌<◌}
use mathlib.Core.{Path.{◌≡◌, refl}, Bool.{Bool, true, false, cond}}
use native.Mathlib.{Omega.{arith}, Nat.{pow-suc}}
use lib.Dec.{leb}
use borrow.Author.Tests.{leb-true, leb-false, le-leb}

-- how many halvings, of at most n, leave one of w
unfoldable pub halvings : ℕ → ℕ → ℕ
halvings zero w = 0
halvings (suc n) w = cond (leb w (2 ^ n)) (halvings n w) (suc n)

-- the guesses and the halvings; at most 6 and 17, by `halvings-most`, for what lies between 99 and 80,001
abbrev pub turns_left : ℕ → ℕ → ℕ
turns_left guesses w = guesses + halvings 17 w

halvings_most : (n w : ℕ) → halvings n w ≤ n
unfolding halvings
halvings_most zero w = omega arith
halvings_most (suc n) w = go (leb w (2 ^ n)) (halvings_most n w)
  where
    go : (t : Bool) → halvings n w ≤ n → cond t (halvings n w) (suc n) ≤ suc n
    go true h = omega arith
    go false h = omega arith

-- half of what is left, rounded up, needs one halving less
halved : (n w v : ℕ) → 1 < w → w ≤ 2 ^ n → 2 * v ≤ w + 1 → halvings n v < halvings n w
unfolding halvings
halved zero w v l h k = absurd (omega arith)
halved (suc n) w v l h k = go (leb w (2 ^ n)) refl (λ m. halved n w v l m k)
  where
    small : v ≤ 2 ^ n
    small = omega (arith, pow-suc 2 n)

    go : (t : Bool) → leb w (2 ^ n) ≡ t → (w ≤ 2 ^ n → halvings n v < halvings n w)
        → cond (leb v (2 ^ n)) (halvings n v) (suc n) < cond t (halvings n w) (suc n)
    go true e sooner = rw (le-leb _ _ small) (sooner (leb-true _ _ e))
    go false e sooner = rw (le-leb _ _ small) (omega (arith, halvings_most n v))

-- what is left of less needs no more
fewer_left : (n w v : ℕ) → v ≤ w → halvings n v ≤ halvings n w
unfolding halvings
fewer_left zero w v l = omega arith
fewer_left (suc n) w v l = go (leb w (2 ^ n)) refl (leb v (2 ^ n)) refl (fewer_left n w v l)
  where
    go : (t : Bool) → leb w (2 ^ n) ≡ t → (s : Bool) → leb v (2 ^ n) ≡ s → halvings n v ≤ halvings n w
        → cond s (halvings n v) (suc n) ≤ cond t (halvings n w) (suc n)
    go true e true f h = h
    go true e false f h = absurd (omega (arith, leb-true w (2 ^ n) e, leb-false v (2 ^ n) f))
    go false e true f h = omega (arith, halvings_most n v)
    go false e false f h = omega arith

-- one turn: what is left gets no more, and without a guess is halved
pub turn_less : (guesses w v : ℕ) → 1 < w → w ≤ 2 ^ 17 → v ≤ w → (guesses ≡ 0 → 2 * v ≤ w + 1)
    → turns_left (guesses - 1) v < turns_left guesses w
turn_less zero w v l h m k = omega (arith, halved 17 w v l h (k refl))
turn_less (suc g) w v l h m k = omega (arith, fewer_left 17 w v m)
