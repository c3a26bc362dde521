-- §2.2: a sheet has at most one first broken rule, and none where it breaks none: by the conditions alone.
use Prim.Native.{Nat.{ℕ, ◌+◌, ◌<◌}, String.{String}}
use mathlib.Core.{Path.{◌≡◌, refl, sym, ◌∙◌}, Bool.{Bool, true, false}, List.{List}}
use native.Mathlib.Omega.{arith}
use Rattle.text.proofs.Clash.{clash}
use Rattle.case.specs.Columns.{Form}
use Rattle.header.specs.Names.{StandsAt, WrongName, again, Leftmost, None}
use Rattle.judgement.specs.Sheet.{names}
use Rattle.claims.specs.{Rules.{Under}, Order.{WrongCount, LineKept, LineBroken, Reached, FirstBroken, NoneBroken}}
use Rattle.claims.specs.Order.{none, many, value, range, layer, rods, repeated, text, name, count, line}

-- two numbers neither of which is less are equal
pub neither_less : {c d : ℕ} → (c < d → ⊥) → (d < c → ⊥) → c ≡ d
neither_less {c} {d} p q = omega (arith, p, q)

pub yes_or_no : {b : Bool} → b ≡ true → b ≡ false → ⊥
yes_or_no p q = clash cc

leftmost_same : {Wrong : ℕ → Type 0} {c d : ℕ} → Leftmost Wrong c → Leftmost Wrong d → c ≡ d
leftmost_same {c = c} {d} a b = neither_less (λ h. b.first c h a.here) (λ h. a.first d h b.here)

-- ---- names that are all right: a name stands in one column, and a line has one number under it

pub one_column : {form : Form} {fields : List (List ℕ)} {t : List ℕ} {c d : ℕ} → None (WrongName form fields) → StandsAt fields t c
    → StandsAt fields t d → c ≡ d
one_column {fields = fields} {t} right a b = neither_less (λ h. later a b h) (λ h. later b a h)
  where
    later : {c d : ℕ} → StandsAt fields t c → StandsAt fields t d → c < d → ⊥
    later {c} {d} a b h = right d (again b.last c h (record { first = a.first; last = a.last; is = a.is ∙ sym b.is }))

module _ {form : Form} {s : List ℕ} (right : None (WrongName form (names s))) where
  pub one_number : {i v w : ℕ} {name : String} → Under s i name v → Under s i name w → v ≡ w
  one_number a b = let e = one_column right a.named b.named in a.number ∙ rw e (sym b.number)

  -- ---- one first broken rule of a line

  one_of_line : {i k c l d : ℕ} → LineBroken form s i k c → LineBroken form s i l d → (k ≡ l) × (c ≡ d)
  one_of_line (value a) (value b) = (refl, leftmost_same a b)
  one_of_line (value a) (range v b) = absurd (v _ a.here)
  one_of_line (value a) (layer r n t) = absurd (r.values _ a.here)
  one_of_line (value a) (rods r l n t) = absurd (r.values _ a.here)
  one_of_line (value a) (repeated g r) = absurd (g.in_range_lem.values _ a.here)
  one_of_line (range v a) (value b) = absurd (v _ b.here)
  one_of_line (range v a) (range w b) = (refl, leftmost_same a b)
  one_of_line (range v a) (layer r n t) = absurd (r.ranges _ a.here)
  one_of_line (range v a) (rods r l n t) = absurd (r.ranges _ a.here)
  one_of_line (range v a) (repeated g r) = absurd (g.in_range_lem.ranges _ a.here)
  one_of_line (layer r n t) (value b) = absurd (r.values _ b.here)
  one_of_line (layer r n t) (range w b) = absurd (r.ranges _ b.here)
  one_of_line (layer r n t) (layer q m u) = (refl, one_column right t u)
  one_of_line (layer r n t) (rods q l m u) = absurd (n l)
  one_of_line (layer r n t) (repeated g q) = absurd (n g.layer)
  one_of_line (rods r l n t) (value b) = absurd (r.values _ b.here)
  one_of_line (rods r l n t) (range w b) = absurd (r.ranges _ b.here)
  one_of_line (rods r l n t) (layer q m u) = absurd (m l)
  one_of_line (rods r l n t) (rods q k m u) = (refl, one_column right t u)
  one_of_line (rods r l n t) (repeated g q) = absurd (n g.rods)
  one_of_line (repeated g r) (value b) = absurd (g.in_range_lem.values _ b.here)
  one_of_line (repeated g r) (range w b) = absurd (g.in_range_lem.ranges _ b.here)
  one_of_line (repeated g r) (layer q m u) = absurd (m g.layer)
  one_of_line (repeated g r) (rods q l m u) = absurd (m g.rods)
  one_of_line (repeated g r) (repeated h q) = (refl, refl)

kept_or_broken : {form : Form} {s : List ℕ} {i k c : ℕ} → LineKept form s i → LineBroken form s i k c → ⊥
kept_or_broken a (value b) = a.agrees.in_range_lem.values _ b.here
kept_or_broken a (range v b) = a.agrees.in_range_lem.ranges _ b.here
kept_or_broken a (layer r n t) = n a.agrees.layer
kept_or_broken a (rods r l n t) = n a.agrees.rods
kept_or_broken a (repeated g r) = a.new r

-- ---- one first broken rule of a sheet

one_count : {s : List ℕ} {l m : ℕ} → WrongCount s l → WrongCount s m → l ≡ m
one_count (none e) (none f) = refl
one_count (none e) (many h) = absurd (omega arith)
one_count (many h) (none e) = absurd (omega arith)
one_count (many h) (many g) = refl

module _ {form : Form} {s : List ℕ} where
  one_line : {i j k c l d : ℕ} → Reached form s i → Reached form s j → LineBroken form s i k c → LineBroken form s j l d
      → (k ≡ l) × (i + 2 ≡ j + 2) × (c ≡ d)
  one_line {i} {j} p q a b =
      let e : i ≡ j = neither_less (λ h. kept_or_broken (q.lines i h) a) (λ h. kept_or_broken (p.lines j h) b) in
      let t = one_of_line p.name a (rw (← e) at b) in
      (t.0, rw e, t.1)

  pub one_place : {k l c k' l' c' : ℕ} → FirstBroken form s k l c → FirstBroken form s k' l' c' → (k ≡ k') × (l ≡ l') × (c ≡ c')
  one_place (text a) (text b) = (refl, refl, refl)
  one_place (text a) (name t b) = absurd (t a)
  one_place (text a) (count t n b) = absurd (t a)
  one_place (text a) (line i h r b) = absurd (r.text a)
  one_place (name t a) (text b) = absurd (t b)
  one_place (name t a) (name u b) = (refl, refl, leftmost_same a b)
  one_place (name t a) (count u n b) = absurd (n _ a.here)
  one_place (name t a) (line i h r b) = absurd (r.name _ a.here)
  one_place (count t n a) (text b) = absurd (t b)
  one_place (count t n a) (name u b) = absurd (n _ b.here)
  one_place (count t n a) (count u m b) = (refl, one_count a b, refl)
  one_place (count t n a) (line i h r b) = absurd (r.count _ a)
  one_place (line i h r a) (text b) = absurd (r.text b)
  one_place (line i h r a) (name u b) = absurd (r.name _ b.here)
  one_place (line i h r a) (count u m b) = absurd (r.count _ b)
  one_place (line i h r a) (line j g q b) = one_line r q a b

  pub none_or_first : {n k l c : ℕ} → NoneBroken form s n → FirstBroken form s k l c → ⊥
  none_or_first a (text b) = a.reached.text b
  none_or_first a (name t b) = a.reached.name _ b.here
  none_or_first a (count t n b) = a.reached.count _ b
  none_or_first a (line i h r b) = kept_or_broken (a.reached.lines i (omega (arith, a.count))) b
