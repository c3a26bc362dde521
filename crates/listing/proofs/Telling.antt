-- A text put at the start of a buffer, or none: specs/Told.antt.
use Prim.Native.Nat.{ℕ, ◌≤◌, ◌<◌}
use mathlib.Core.{Path.{◌≡◌, refl, sym, ap, ◌∙◌}, Bool.{Bool, true, false, cond}, List.{List, ◌++◌}}
use native.Mathlib.Omega.{arith}
use lib.{ListN.{length, take, drop, length-append}, Seq.{length-take-le}, Dec.{leb}}
use borrow.Author.Tests.{le-leb, lt-leb}
use Rattle.writing.specs.Put.{Put}
use Rattle.listing.specs.Told.{Told}

module _ {room : ℕ} {t b : List ℕ} (fits : length t ≤ room) where
  pub told_short : length b < room → Told room t b b 0
  told_short h = record { fits = fits; answer = rw (lt-leb room (length b) h); holds = rw (lt-leb room (length b) h) }

  pub told_put : {after : List ℕ} {r : ℕ} → room ≤ length b → Put b 0 t after r → Told room t b after r
  told_put {after} {r} h p =
      let e : r ≡ length t = omega (arith, p.next) in
      record { fits = fits; answer = rw (le-leb room (length b) h) e; holds = rw (le-leb room (length b) h) (p.holds ∙ rw e) }

-- in every case the answer counts bytes of the buffer: what a caller shows to lend those bytes
module _ {room : ℕ} {t b after : List ℕ} {r : ℕ} (p : Told room t b after r) where
  pub told_within : r ≤ length after
  told_within = go (leb room (length b)) refl p.answer p.holds
    where
      go : (c : Bool) → leb room (length b) ≡ c → r ≡ cond c (length t) 0 → after ≡ cond c (t ++ drop (length t) b) b → r ≤ length after
      go true e q w = omega (arith, ap length w ∙ length-append t (drop (length t) b))
      go false e q w = omega arith

  pub told_count : r ≡ length (take r after)
  told_count = sym (length-take-le r after told_within)
