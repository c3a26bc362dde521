-- The value lines in turn: which line a refusal is of, and what the lines before it leave.
use Prim.Native.Nat.{ℕ, zero, suc, ◌+◌, ◌<◌}
use mathlib.Core.{Path.{◌≡◌, refl, sym, ap}, Bool.{Bool, true, false, ◌||◌}, Logic.{◌⊎◌, inl, inr}, List.{List, [], ◌∷◌}}
use native.Mathlib.Omega.{arith}
use lib.ListN.{length, get_or}
use Rattle.text.{specs.Text.{fields_of}, proofs.Clash.{clash}}
use Rattle.case.specs.Columns.{Form}
use Rattle.line.specs.Line.{line_values}
use Rattle.line_finding.specs.declared.LineFinding.{LineFinding}
use Rattle.line_finding.specs.declared.LineFinding.TheVariants.{Sound, Form as WrongForm, OutOfRange, Disagreement, Repeated}
use Rattle.line_finding.specs.Findings.{same_key, repeats, line_finding}
use Rattle.judgement.specs.Refusal.{line_judgement}
use Rattle.judgement.specs.Sheet.{lines_judgement}
use Rattle.judgement.proofs.LineJudged.{sound_line}
use Rattle.std.specs.Prelude.{Result, Ok, Err}
use Rattle.refusal.proofs.Same.{same_refused, same_place}
use Rattle.refusal.specs.{declared.Refused.{Refused}, Refused.{refuse}}

module _ (form : Form) (at : List ℕ) where
  -- the values of a line, and of line i
  abbrev values_of : List ℕ → List ℕ
  values_of line = line_values at (fields_of line)

  abbrev pub values_in : List (List ℕ) → ℕ → List ℕ
  values_in ls i = values_of (get_or ls i [])

  -- what the checks find of a line
  abbrev found_of : List (List ℕ) → List ℕ → LineFinding
  found_of earlier line = line_finding form at earlier (fields_of line)

  -- the values of the lines before line i, the latest first, in front of still earlier ones
  unfoldable pub before : List (List ℕ) → List (List ℕ) → ℕ → List (List ℕ)
  before earlier ls zero = earlier
  before earlier [] (suc i) = earlier
  before earlier (l ∷ ls) (suc i) = before (values_of l ∷ earlier) ls i

  -- what they find of line i
  abbrev pub finding_at : List (List ℕ) → List (List ℕ) → ℕ → LineFinding
  finding_at earlier ls i = found_of (before earlier ls i) (get_or ls i [])

  -- a refusal is that of the first line that is not sound
  pub record RefusedAt (earlier : List (List ℕ)) (n : ℕ) (ls : List (List ℕ)) (k l c : ℕ) : Type 0 where
    pub index : ℕ
    pub within : index < length ls
    pub line : l ≡ index + n
    pub sound_before : (j : ℕ) → j < index → finding_at earlier ls j ≡ Sound
    pub judged : line_judgement {A = Unit {0}} l (Ok tt) (finding_at earlier ls index) ≡ refuse k l c

  pub refused_at_lem : {k l c : ℕ} (m : ℕ) (earlier : List (List ℕ)) (n : ℕ) (ls : List (List ℕ))
      → lines_judgement form at earlier n (Ok m) ls ≡ refuse k l c → RefusedAt earlier n ls k l c
  unfolding lines_judgement line_judgement before
  refused_at_lem m earlier n [] e = clash cc
  refused_at_lem {k} {l} {c} m earlier n (x ∷ ls) e =
      go (found_of earlier x) refl e (λ h. refused_at_lem m (values_of x ∷ earlier) (suc n) ls h)
    where
      cons : {i : ℕ} → found_of earlier x ≡ Sound → ((j : ℕ) → j < i → finding_at (values_of x ∷ earlier) ls j ≡ Sound)
          → (j : ℕ) → j < suc i → finding_at earlier (x ∷ ls) j ≡ Sound
      cons q r zero h = q
      cons q r (suc j) h = r j (omega arith)

      later : found_of earlier x ≡ Sound → RefusedAt (values_of x ∷ earlier) (suc n) ls k l c → RefusedAt earlier n (x ∷ ls) k l c
      later q r =
          record {
            index = suc r.index;
            within = omega (arith, r.within);
            line = omega (arith, r.line);
            sound_before = cons q r.sound_before;
            judged = r.judged;
          }

      here : (f : LineFinding) → found_of earlier x ≡ f → l ≡ n → line_judgement {A = Unit {0}} n (Ok tt) f ≡ refuse k l c
          → RefusedAt earlier n (x ∷ ls) k l c
      here f q p j =
          record {
            index = 0;
            within = omega arith;
            line = omega arith;
            sound_before = λ i h. absurd (omega arith);
            judged = rw (q, p) (rw p at j);
          }

      go : (f : LineFinding) → found_of earlier x ≡ f
          → line_judgement n (lines_judgement form at (values_of x ∷ earlier) (suc n) (Ok m) ls) f ≡ refuse k l c
          → (lines_judgement form at (values_of x ∷ earlier) (suc n) (Ok m) ls ≡ refuse k l c
          → RefusedAt (values_of x ∷ earlier) (suc n) ls k l c) → RefusedAt earlier n (x ∷ ls) k l c
      go Sound q h then = later q (then h)
      go (WrongForm column) q h then = here (WrongForm column) q (sym (same_place h).1) (ap Err (same_refused h))
      go (OutOfRange column) q h then = here (OutOfRange column) q (sym (same_place h).1) (ap Err (same_refused h))
      go (Disagreement column) q h then = here (Disagreement column) q (sym (same_place h).1) (ap Err (same_refused h))
      go Repeated q h then = here Repeated q (sym (same_place h).1) (ap Err (same_refused h))

  -- where no line is refused, each is sound
  pub sound_at : {m : ℕ} (earlier : List (List ℕ)) (n : ℕ) (sound : Result ℕ Refused) (ls : List (List ℕ))
      → lines_judgement form at earlier n sound ls ≡ Ok m → (i : ℕ) → i < length ls → finding_at earlier ls i ≡ Sound
  unfolding lines_judgement before
  sound_at earlier n sound [] e i h = absurd (omega arith)
  sound_at earlier n sound (x ∷ ls) e zero h = (sound_line n _ (found_of earlier x) refl e).0
  sound_at earlier n sound (x ∷ ls) e (suc i) h =
      sound_at (values_of x ∷ earlier) (suc n) sound ls (sound_line n _ (found_of earlier x) refl e).1 i (omega arith)

  -- ---- equal keys

  -- an earlier line has the station and season of v
  pub record SeenBefore (v : List ℕ) (ls : List (List ℕ)) (i : ℕ) : Type 0 where
    pub index : ℕ
    pub earlier : index < i
    pub same : same_key form v (values_in ls index) ≡ true

  -- where v repeats a key, it is that of an earlier line, or a still earlier one
  pub repeats_line : (v : List ℕ) (earlier ls : List (List ℕ)) (i : ℕ) → i < length ls → repeats form v (before earlier ls i) ≡ true
      → SeenBefore v ls i ⊎ (repeats form v earlier ≡ true)
  unfolding before repeats
  repeats_line v earlier ls zero h e = inr e
  repeats_line v earlier [] (suc i) h e = absurd (omega arith)
  repeats_line v earlier (x ∷ ls) (suc i) h e = go (repeats_line v (values_of x ∷ earlier) ls i (omega arith) e)
    where
      either : (a b : Bool) → (a || b) ≡ true → (a ≡ true) ⊎ (b ≡ true)
      either true b q = inl refl
      either false b q = inr q

      first : ((same_key form v (values_of x) ≡ true) ⊎ (repeats form v earlier ≡ true))
          → SeenBefore v (x ∷ ls) (suc i) ⊎ (repeats form v earlier ≡ true)
      first (inl q) = inl (record { index = 0; earlier = omega arith; same = q })
      first (inr q) = inr q

      go : (SeenBefore v ls i ⊎ ((same_key form v (values_of x) || repeats form v earlier) ≡ true))
          → SeenBefore v (x ∷ ls) (suc i) ⊎ (repeats form v earlier ≡ true)
      go (inl s) = inl (record { index = suc s.index; earlier = omega (arith, s.earlier); same = s.same })
      go (inr q) = first (either _ _ q)

  -- where v repeats no key, it has that of no earlier line
  pub none_before : (v : List ℕ) (earlier ls : List (List ℕ)) (i : ℕ) → i < length ls → repeats form v (before earlier ls i) ≡ false
      → (repeats form v earlier ≡ false) × ((j : ℕ) → j < i → same_key form v (values_in ls j) ≡ false)
  unfolding before repeats
  none_before v earlier ls zero h e = (e, λ j l. absurd (omega arith))
  none_before v earlier [] (suc i) h e = absurd (omega arith)
  none_before v earlier (x ∷ ls) (suc i) h e =
      let r = none_before v (values_of x ∷ earlier) ls i (omega arith) e in
      let q = neither _ _ r.0 in
      (q.1, each q.0 r.1)
    where
      neither : (a b : Bool) → (a || b) ≡ false → (a ≡ false) × (b ≡ false)
      neither true b p = clash cc
      neither false b p = (refl, p)

      each : same_key form v (values_of x) ≡ false → ((j : ℕ) → j < i → same_key form v (values_in ls j) ≡ false)
          → (j : ℕ) → j < suc i → same_key form v (values_in (x ∷ ls) j) ≡ false
      each p r zero l = p
      each p r (suc j) l = r j (omega arith)
