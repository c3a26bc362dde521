-- Several rules a ≤ b between numbers that compute, by one test of all of them.
use Prim.Native.Nat.{ℕ, zero, suc, ◌≤◌}
use mathlib.Core.{Bool.{Bool, true, ◌&&◌}, List.{List, [], ◌∷◌}}
use lib.Dec.{T, leb, leb→le, lit≤}
use mir.Facts.{and_yes}

pub record Rule : Type 0 where
  pub less : ℕ
  pub more : ℕ

infix 52 ◌≼◌
abbrev pub ◌≼◌ : ℕ → ℕ → Rule
a ≼ b = record { less = a; more = b }

abbrev pub kept : List Rule → Bool
kept [] = true
kept (r ∷ rs) = leb r.less r.more && kept rs

-- the rule at a place; past the end one that always holds
abbrev pub rule_at : List Rule → ℕ → Rule
rule_at [] i = 0 ≼ 0
rule_at (r ∷ rs) zero = r
rule_at (r ∷ rs) (suc i) = rule_at rs i

pub record Kept (rs : List Rule) : Type 0 where
  pub at : (i : ℕ) → (rule_at rs i).less ≤ (rule_at rs i).more

rule_holds : (rs : List Rule) → T (kept rs) → (i : ℕ) → (rule_at rs i).less ≤ (rule_at rs i).more
rule_holds [] t i = lit≤ tt
rule_holds (r ∷ rs) t zero = leb→le r.less r.more (and_yes (leb r.less r.more) (kept rs) t).0
rule_holds (r ∷ rs) t (suc i) = rule_holds rs (and_yes (leb r.less r.more) (kept rs) t).1 i

-- the rules by their test, which computes: `lits tt` for rules between numerals
pub lits : {rs : List Rule} → T (kept rs) → Kept rs
lits {rs} t = record { at = rule_holds rs t }
