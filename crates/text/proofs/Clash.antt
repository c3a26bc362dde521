-- Zero is not one: what remains of a case in which two different answers are equal.
use Rattle.std.proofs.Common.{◌≡◌, ℕ, arith}

pub clash : {A : Type 0} → ◌≡◌ {A = ℕ} 0 1 → A
clash h = absurd (omega (arith, h))
