-- What the answer about the columns of a line says of its leftmost wrong column, and back.
use Rattle.std.proofs.Common.{◌≡◌, ℕ, zero, suc, ◌≤◌, Ok, Err, refl, arith}
use Rattle.text.specs.Columns.{columns_by}
use Rattle.text.proofs.Clash.{clash}

pub none_wrong : (w : ℕ) → w ≡ 0 → columns_by w ≡ Ok tt
unfolding columns_by
none_wrong zero e = refl
none_wrong (suc w) e = absurd (omega (arith, e))

pub one_wrong : (w : ℕ) → 1 ≤ w → columns_by w ≡ Err w
unfolding columns_by
one_wrong zero h = absurd (omega (arith, h))
one_wrong (suc w) h = refl

pub right_columns : (w : ℕ) → columns_by w ≡ Ok tt → w ≡ 0
unfolding columns_by
right_columns zero e = refl
right_columns (suc w) e = clash cc

-- the column that is named is one
pub record WrongAt (w c : ℕ) : Type 0 where
  pub is : w ≡ c
  pub some : c ≡ 0 → ⊥

pub wrong_column_lem : (w : ℕ) {c : ℕ} → columns_by w ≡ Err c → WrongAt w c
unfolding columns_by
wrong_column_lem zero e = clash cc
wrong_column_lem (suc w) e = record { is = cc; some = λ z. clash cc }
