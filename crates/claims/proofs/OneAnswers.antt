-- §2.3: the refusals of each question exclude one another and its other answers: by their conditions alone.
use Prim.Native.Nat.{ℕ, suc, ◌+◌}
use mathlib.Core.{Path.{◌≡◌, refl, sym, ap, ◌∙◌}, Logic.{◌⊎◌, inl, inr}, List.{List}}
use native.Mathlib.Omega.{arith}
use lib.IntN.{ℤ}
use Rattle.text.proofs.Clash.{clash}
use Rattle.interval.specs.declared.Interval.{Interval}
use Rattle.exact.specs.{Fraction.{Fraction}, Ends.{Ends}, Exact.{Exact}, Reported.{Scale}}
use Rattle.readings.specs.declared.Report.{Report}
use Rattle.case.specs.{declared.{Case.{Case}, Form.{Form}}, Columns.{name_count_lem}}
use Rattle.carried_values.specs.Values.{other}
use Rattle.row.specs.declared.Row.{Row}
use Rattle.working.specs.declared.Quantities.{Quantities}
use Rattle.claims.specs.Record.{RecordRefused, RecordSound, FirstOutside, out_of_range, surface, rods}
use Rattle.claims.specs.{Carried.{AcceptedIn, Held, FirstHeld}, Measured.{FirstPair}, Answers.{OneAnswer, OneAnswers}}
use Rattle.claims.specs.Releases.{InEntries, EntryWrong, EntrySound, at_station, at_seasons, at_area}
use Rattle.claims.specs.Record as record'
use Rattle.claims.specs.Workings as workings
use Rattle.claims.specs.Later as later
use Rattle.claims.specs.Measured as measured
use Rattle.claims.specs.Carried as carrying
use Rattle.claims.specs.Releases as releases
use Rattle.claims.proofs.OnePlace.{neither_less, yes_or_no}
use Rattle.std.specs.Prelude.{Some, None, Result, Ok}
use Rattle.tolerable.specs.declared.TouchAndStep.{TouchAndStep}
use Rattle.refusal.proofs.Same.{same_place}
use Rattle.refusal.specs.{declared.Refused.{Refused}, Refused.{refuse}}
use Rattle.staged.specs.declared.GridShare.{GridShare}

abbrev Same : ℕ → ℕ → ℕ → ℕ → ℕ → ℕ → Type 0
Same n l k n' l' k' = (n ≡ n') × (l ≡ l') × (k ≡ k')

-- ---- a case as a record

one_outside : {c : Case} {i j : ℕ} → FirstOutside c i → FirstOutside c j → i ≡ j
one_outside {i = i} {j} a b = neither_less (λ h. yes_or_no (b.before i h) a.outside) (λ h. yes_or_no (a.before j h) b.outside)

none_outside : {c : Case} {i : ℕ} → record'.AllInside c → FirstOutside c i → ⊥
none_outside {i = i} a b = yes_or_no (a.each i (omega (arith, b.within, name_count_lem))) b.outside

one_record : {c : Case} {n l k n' l' k' : ℕ} → RecordRefused c n l k → RecordRefused c n' l' k' → Same n l k n' l' k'
one_record (out_of_range a) (out_of_range b) = (refl, refl, ap suc (one_outside a b))
one_record (out_of_range a) (surface i s) = absurd (none_outside i a)
one_record (out_of_range a) (rods i s r) = absurd (none_outside i a)
one_record (surface i s) (out_of_range b) = absurd (none_outside i b)
one_record (surface i s) (surface j t) = (refl, refl, refl)
one_record (surface i s) (rods j t r) = absurd (s t)
one_record (rods i s r) (out_of_range b) = absurd (none_outside i b)
one_record (rods i s r) (surface j t) = absurd (t s)
one_record (rods i s r) (rods j t q) = (refl, refl, refl)

refused_sound : {c : Case} {n l k : ℕ} → RecordRefused c n l k → RecordSound c → ⊥
refused_sound (out_of_range a) s = none_outside s.inside a
refused_sound (surface i t) s = t s.surface
refused_sound (rods i t r) s = r s.rods

-- ---- numbers

module _ {numbers : List ℕ} where
  one_pair : {P : ℕ → Type 0} {i j : ℕ} → FirstPair numbers P i → FirstPair numbers P j → i ≡ j
  one_pair {i = i} {j} a b = neither_less (λ h. a.not_so (b.before i h)) (λ h. b.not_so (a.before j h))

  one_soil : {n l k n' l' k' : ℕ} → measured.SoilOutcome numbers (refuse n l k)
      → measured.SoilOutcome numbers (refuse n' l' k') → Same n l k n' l' k'
  one_soil (measured.count a) (measured.count b) = (refl, refl, refl)
  one_soil (measured.count a) (measured.distance b f) = absurd (b a)
  one_soil (measured.count a) (measured.resistance b d f) = absurd (b a)
  one_soil (measured.distance a f) (measured.count b) = absurd (a b)
  one_soil (measured.distance a f) (measured.distance b g) = (refl, ap suc (one_pair f g), refl)
  one_soil (measured.distance a f) (measured.resistance b d g) = absurd (f.not_so (d _ f.within))
  one_soil (measured.resistance a d f) (measured.count b) = absurd (a b)
  one_soil (measured.resistance a d f) (measured.distance b g) = absurd (g.not_so (d _ g.within))
  one_soil (measured.resistance a d f) (measured.resistance b e g) = (refl, ap suc (one_pair f g), refl)

module _ {s : List ℤ} where
  one_split : {n l k n' l' k' : ℕ} → measured.SplitOutcome s (refuse n l k) → measured.SplitOutcome s (refuse n' l' k')
      → Same n l k n' l' k'
  one_split (measured.count a) (measured.count b) = (refl, refl, refl)
  one_split (measured.count a) (measured.part i b h p) = absurd (b a)
  one_split (measured.count a) (measured.none b p z) = absurd (b a)
  one_split (measured.part i a h p) (measured.count b) = absurd (a b)
  one_split (measured.part i a h p) (measured.part j b g q) = (refl, refl, refl)
  one_split (measured.part i a h p) (measured.none b q z) = absurd (p (q i h))
  one_split (measured.none a p z) (measured.count b) = absurd (a b)
  one_split (measured.none a p z) (measured.part i b h q) = absurd (q (p i h))
  one_split (measured.none a p z) (measured.none b q y) = (refl, refl, refl)

-- ---- a sheet carried over

module _ {j : Result ℕ Refused} where
  accepted_refused : {m n l k : ℕ} → j ≡ Ok m → j ≡ refuse n l k → ⊥
  accepted_refused {m} {n} {l} {k} a r = let q : Ok m ≡ refuse n l k = sym a ∙ r in clash cc

  one_judged : {n l k n' l' k' : ℕ} → j ≡ refuse n l k → j ≡ refuse n' l' k' → Same n l k n' l' k'
  one_judged a b = same_place (sym a ∙ b)

one_held : {s : List ℕ} {i n m : ℕ} → Held s i n → Held s i m → n ≡ m
one_held (carrying.times a) (carrying.times b) = refl
one_held (carrying.times a) (carrying.counts b d) = absurd (a b)
one_held (carrying.times a) (carrying.hertz b d e) = absurd (a b)
one_held (carrying.counts a c) (carrying.times b) = absurd (b a)
one_held (carrying.counts a c) (carrying.counts b d) = refl
one_held (carrying.counts a c) (carrying.hertz b d e) = absurd (c d)
one_held (carrying.hertz a c f) (carrying.times b) = absurd (b a)
one_held (carrying.hertz a c f) (carrying.counts b d) = absurd (d c)
one_held (carrying.hertz a c f) (carrying.hertz b d e) = refl

held_returns : {s : List ℕ} {i n : ℕ} → Held s i n → carrying.Returns s i → ⊥
held_returns (carrying.times a) r = a r.0
held_returns (carrying.counts a c) r = c r.1
held_returns (carrying.hertz a c h) r = h r.2

module _ {form : Form} {s : List ℕ} where
  held_accepted : {i : ℕ} → (f : FirstHeld form s i) → AcceptedIn (other form) s f.lines
  unfolding other
  held_accepted f = rw f.back f.accepted

  held_goes : {i n m : ℕ} → FirstHeld form s i → Held s i n → carrying.Goes form s m → ⊥
  held_goes {i} {m = m} f h g =
      let q : Ok f.lines ≡ Ok m = sym (held_accepted f) ∙ g.accepted in
      let e : f.lines ≡ m = cc in
      held_returns h (g.returns f.back i (omega (arith, f.within, e)))

  module _ {before after : List ℕ} where
    one_carry : {n l k n' l' k' : ℕ} → carrying.CarryOutcome form s before after (refuse n l k)
        → carrying.CarryOutcome form s before after (refuse n' l' k') → Same n l k n' l' k'
    one_carry (carrying.rule a u) (carrying.rule b v) = one_judged a b
    one_carry (carrying.rule a u) (carrying.held f h v) = absurd (accepted_refused (held_accepted f) a)
    one_carry (carrying.rule a u) (carrying.short g h v) = absurd (accepted_refused g.accepted a)
    one_carry (carrying.held f h u) (carrying.rule b v) = absurd (accepted_refused (held_accepted f) b)
    one_carry (carrying.held {i = i} f h u) (carrying.held {i = j} g k v) =
        let e : i ≡ j = neither_less (λ m. held_returns h (g.before i m)) (λ m. held_returns k (f.before j m)) in
        (one_held (rw e at h) k, ap (λ n. n + 2) e, refl)
    one_carry (carrying.held f h u) (carrying.short g l v) = absurd (held_goes f h g)
    one_carry (carrying.short g h u) (carrying.rule b v) = absurd (accepted_refused g.accepted b)
    one_carry (carrying.short g h u) (carrying.held f k v) = absurd (held_goes f k g)
    one_carry (carrying.short g h u) (carrying.short f l v) = (refl, refl, refl)

    refused_carried : {n l k count : ℕ} → carrying.CarryOutcome form s before after (refuse n l k)
        → carrying.CarryOutcome form s before after (Ok count) → ⊥
    refused_carried (carrying.rule a u) (carrying.carried g t w) = accepted_refused g.accepted a
    refused_carried (carrying.held f h u) (carrying.carried g t w) = held_goes f h g
    refused_carried (carrying.short f h u) (carrying.carried g t w) = omega (arith, h, w.fits, w.count_is)

-- ---- release

module _ {licence : List ℕ} where
  one_column : {k c d : ℕ} → EntryWrong licence k c → EntryWrong licence k d → c ≡ d
  one_column (at_station a) (at_station b) = refl
  one_column (at_station a) (at_seasons b c) = absurd (a b)
  one_column (at_station a) (at_area b c d) = absurd (a b)
  one_column (at_seasons a c) (at_station b) = absurd (b a)
  one_column (at_seasons a c) (at_seasons b d) = refl
  one_column (at_seasons a c) (at_area b d e) = absurd (c d)
  one_column (at_area a c d) (at_station b) = absurd (b a)
  one_column (at_area a c d) (at_seasons b e) = absurd (e c)
  one_column (at_area a c d) (at_area b e f) = refl

  wrong_sound : {k c : ℕ} → EntryWrong licence k c → EntrySound licence k → ⊥
  wrong_sound (at_station a) s = a s.0
  wrong_sound (at_seasons a c) s = c s.1
  wrong_sound (at_area a c d) s = d s.2

  one_count : {m n : ℕ} → InEntries licence m → InEntries licence n → m ≡ n
  one_count a b = omega (arith, a.three_each, b.three_each)

  module _ {s : List ℕ} {before after : List ℤ} where
    one_release : {n l k n' l' k' : ℕ} → releases.ReleaseOutcome s licence before after (refuse n l k)
        → releases.ReleaseOutcome s licence before after (refuse n' l' k') → Same n l k n' l' k'
    one_release (releases.rule a u) (releases.rule b v) = one_judged a b
    one_release (releases.rule a u) (releases.count b c v) = absurd (accepted_refused b a)
    one_release (releases.rule a u) (releases.entry b p h w f v) = absurd (accepted_refused b a)
    one_release (releases.rule a u) (releases.table b p f h v) = absurd (accepted_refused b a)
    one_release (releases.count a c u) (releases.rule b v) = absurd (accepted_refused a b)
    one_release (releases.count a c u) (releases.count b d v) = (refl, refl, refl)
    one_release (releases.count a c u) (releases.entry b p h w f v) = absurd (c _ p)
    one_release (releases.count a c u) (releases.table b p f h v) = absurd (c _ p)
    one_release (releases.entry a p h w f u) (releases.rule b v) = absurd (accepted_refused a b)
    one_release (releases.entry a p h w f u) (releases.count b c v) = absurd (c _ p)
    one_release (releases.entry {k = i} a p h w f u) (releases.entry {k = j} b q g x e v) =
        let same : i ≡ j = neither_less (λ m. wrong_sound w (e i m)) (λ m. wrong_sound x (f j m)) in
        (refl, ap (λ n. n + 1) same, one_column (rw same at w) x)
    one_release (releases.entry {k = i} a p h w f u) (releases.table b q g l v) =
        absurd (wrong_sound w (g i (omega (arith, h, one_count p q))))
    one_release (releases.table a p f h u) (releases.rule b v) = absurd (accepted_refused a b)
    one_release (releases.table a p f h u) (releases.count b c v) = absurd (c _ p)
    one_release (releases.table a p f h u) (releases.entry {k = i} b q g w e v) =
        absurd (wrong_sound w (f i (omega (arith, g, one_count p q))))
    one_release (releases.table a p f h u) (releases.table b q g l v) = (refl, refl, refl)

    refused_entries : {n l k m : ℕ} → releases.ReleaseOutcome s licence before after (refuse n l k)
        → releases.ReleaseOutcome s licence before after (Ok m) → ⊥
    refused_entries (releases.rule a u) (releases.entries b p f h t r z) = accepted_refused b a
    refused_entries (releases.count a c u) (releases.entries b p f h t r z) = c _ p
    refused_entries (releases.entry {k = i} a p h w f u) (releases.entries b q g l t r z) =
        wrong_sound w (g i (omega (arith, h, one_count p q)))
    refused_entries (releases.table a p f h u) (releases.entries b q g l t r z) = omega (arith, h, l, one_count p q)

-- ---- the questions: each of a record is refused by the checks, or answered of a sound case

module _ {c : Case} where
  row_refused : {n l k : ℕ} → record'.RowOutcome c (refuse n l k) → RecordRefused c n l k
  row_refused (record'.refused a) = a

  row_sound : {r : Row} → record'.RowOutcome c (Ok r) → RecordSound c
  row_sound (record'.row s o) = s

  size_refused : {n l k : ℕ} → record'.SizeOutcome c (refuse n l k) → RecordRefused c n l k
  size_refused (record'.refused a) = a

  size_sound : {kcmil : ℕ} → record'.SizeOutcome c (Ok kcmil) → RecordSound c
  size_sound (record'.size f s r z) = s

  voltages_refused : {n l k : ℕ} → record'.TolerableOutcome c (refuse n l k) → RecordRefused c n l k
  voltages_refused (record'.refused a) = a

  voltages_sound : {limits : TouchAndStep} → record'.TolerableOutcome c (Ok limits) → RecordSound c
  voltages_sound (record'.ends s n t r) = s

  working_refused : {n l k : ℕ} → workings.WorkingOutcome c (refuse n l k) → RecordRefused c n l k
  working_refused (workings.refused a) = a

  working_sound : {w : Quantities} → workings.WorkingOutcome c (Ok w) → RecordSound c
  working_sound (workings.working s r f) = s

  headroom_refused : {n l k : ℕ} → later.HeadroomOutcome c (refuse n l k) → RecordRefused c n l k
  headroom_refused (later.refused a) = a

  headroom_sound : ((F : ℕ) × later.HeadroomOutcome c (Ok (Some F))) ⊎ later.HeadroomOutcome c (Ok None) → RecordSound c
  headroom_sound (inl (F, later.up_to s i e)) = s
  headroom_sound (inr (later.none s e)) = s

  module _ {x : Exact} {unit : Scale} {width : Ends → Fraction} where
    ends_refused : {n l k : ℕ} → record'.PairOutcome c x unit width (refuse n l k) → RecordRefused c n l k
    ends_refused (record'.refused a) = a

    ends_sound : {i : Interval} → record'.PairOutcome c x unit width (Ok i) → RecordSound c
    ends_sound (record'.ends s n r) = s

-- a question of a record
of_record : {c : Case} {Broken : ℕ → ℕ → ℕ → Type 0} {Answered : Type 0}
    → ((n l k : ℕ) → Broken n l k → RecordRefused c n l k) → (Answered → RecordSound c) → OneAnswer Broken Answered
of_record refused sound =
    record {
      one_refusal = λ a b. one_record (refused _ _ _ a) (refused _ _ _ b);
      not_both = λ a b. refused_sound (refused _ _ _ a) (sound b);
    }

module _ {p q : ℕ} where
  one_logarithm : {n l k n' l' k' : ℕ} → measured.LogarithmOutcome p q (refuse n l k)
      → measured.LogarithmOutcome p q (refuse n' l' k') → Same n l k n' l' k'
  one_logarithm (measured.upper a) (measured.upper b) = (refl, refl, refl)
  one_logarithm (measured.upper a) (measured.lower b c) = absurd (a b)
  one_logarithm (measured.lower a c) (measured.upper b) = absurd (b a)
  one_logarithm (measured.lower a c) (measured.lower b d) = (refl, refl, refl)

  refused_ends : {n l k : ℕ} {i : Interval} → measured.LogarithmOutcome p q (refuse n l k)
      → measured.LogarithmOutcome p q (Ok i) → ⊥
  refused_ends (measured.upper a) (measured.ends b c n r) = a b
  refused_ends (measured.lower a d) (measured.ends b c n r) = d c

refused_soil : {numbers : List ℕ} {n l k : ℕ} {report : Report} → measured.SoilOutcome numbers (refuse n l k)
    → measured.SoilOutcome numbers (Ok report) → ⊥
refused_soil (measured.count a) (measured.soil b d r s) = b a
refused_soil (measured.distance a f) (measured.soil b d r s) = f.not_so (d _ f.within)
refused_soil (measured.resistance a e f) (measured.soil b d r s) = f.not_so (r _ f.within)

refused_grid : {s : List ℤ} {n l k : ℕ} {g : GridShare} → measured.SplitOutcome s (refuse n l k)
    → measured.SplitOutcome s (Ok g) → ⊥
refused_grid (measured.count a) (measured.grid b p z t) = b a
refused_grid (measured.part i a h q) (measured.grid b p z t) = q (p i h)
refused_grid (measured.none a q y) (measured.grid b p z t) = z y

pub one_answers : OneAnswers
one_answers =
    record {
      row = λ c. of_record (λ n l k. row_refused) (λ a. row_sound a.1);
      ends = λ c x unit width. of_record (λ n l k. ends_refused) (λ a. ends_sound a.1);
      size = λ c. of_record (λ n l k. size_refused) (λ a. size_sound a.1);
      touch_and_step_lem = λ c. of_record (λ n l k. voltages_refused) (λ a. voltages_sound a.1);
      working = λ c. of_record (λ n l k. working_refused) (λ a. working_sound a.1);
      headroom = λ c. of_record (λ n l k. headroom_refused) headroom_sound;
      logarithm = λ p q. record { one_refusal = one_logarithm; not_both = λ a b. refused_ends a b.1 };
      soil = λ numbers. record { one_refusal = one_soil; not_both = λ a b. refused_soil a b.1 };
      split = λ s. record { one_refusal = one_split; not_both = λ a b. refused_grid a b.1 };
      carry = λ form s before after. record { one_refusal = one_carry; not_both = λ a b. refused_carried a b.1 };
      release = λ s licence before after. record { one_refusal = one_release; not_both = λ a b. refused_entries a b.1 };
    }
