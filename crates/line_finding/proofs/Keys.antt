-- Stations and seasons of earlier lines, kept as one number each.
use Prim.Native.Nat.{ℕ, zero, suc, ◌+◌, ◌*◌, ◌/◌, ◌%◌, ◌≤◌, ◌<◌}
use mathlib.Core.{Path.{◌≡◌, refl, sym, ap, ◌∙◌}, Bool.{Bool, true, false, cond, ◌&&◌, ◌||◌, or_comm}, List.{List, [], ◌∷◌, map}}
use native.Mathlib.{Numerals.{add-one}, Decide.{ℕ_discrete}, Omega.{arith}}
use lib.{ListN.{length, get_or, set, take}, Seq.{get_or-set_same, get_or-set_other}, Dec.{T, eqb, leb, leb→le}}
use borrow.Author.Tests.{eq-eqb, ne_eqb, eqb-true}
use Rattle.std.specs.{Prelude.{◌==◌}, List.{list_any}}
use Rattle.std.proofs.lemmas.List.Folds.{list_any_more}
use mir.Facts.{and_yes}
use Rattle.text.{specs.Text.{bytes, same}, proofs.Clash.{clash}}
use Rattle.case.specs.declared.Form.{Form as CodeForm, TheVariants.{Present, Former}}
use Rattle.case.specs.{Columns.{Form, columns, former_columns, name_index, named, in_range}, Check.{out_of_range, disagreement, finding}}
use Rattle.case.{specs.{Bounds.{Placed}, Parts.{form_of, range_at}}, proofs.Ranges.{in_range_lem, in_range_at, some_columns}}
use Rattle.case.specs.declared.Finding.TheVariants as found
use Rattle.line_finding.specs.{Findings.{same_key, repeats, line_finding}, Parts.{key_of, Keyable, packed, keys_of, seen_in, AtMost}}

-- a form whose first two names are station and season
pub record Keyed (form : Form) : Type 0 where
  pub first : name_index form (bytes "station") ≡ 0
  pub second : name_index form (bytes "season") ≡ 1

pub form_keyed : (form : CodeForm) → Keyed (form_of form)
unfolding columns former_columns name_index same form_of
form_keyed Present = record { first = refl; second = refl }
form_keyed Former = record { first = refl; second = refl }

module _ {form : Form} (keyed : Keyed form) (a b : ℕ) where
  key_station : named form (key_of a b) "station" ≡ a
  unfolding named key_of
  key_station = rw keyed.first

  key_season : named form (key_of a b) "season" ≡ b
  unfolding named key_of
  key_season = rw keyed.second

turned : (a b : ℕ) → eqb a b ≡ eqb b a
turned a b = go (ℕ_discrete a b)
  where
    go : Dec (a ≡ b) → eqb a b ≡ eqb b a
    go (yes e) = rw e
    go (no e) = rw (ne_eqb a b e, ne_eqb b a (λ p. e (sym p)))

-- the library's search of the first n keys
pub seen_any : (key : ℕ) (keys : List ℕ) (n : ℕ) → n ≤ length keys → list_any (λ k. k == key) (take n keys) ≡ seen_in key keys n
unfolding seen_in
seen_any key keys zero h = refl
seen_any key keys (suc n) h =
    let more = list_any_more (λ k. k == key) keys n 0 (omega arith) in
    let one : take (n + 1) keys ≡ take (suc n) keys = ap (λ m. take m keys) (add-one n) in
    sym (ap (list_any (λ k. k == key)) one) ∙ more ∙ or_comm (list_any (λ k. k == key) (take n keys)) (eqb (get_or keys n 0) key)
    ∙ ap (λ b. b || list_any (λ k. k == key) (take n keys)) (turned (get_or keys n 0) key)
    ∙ ap (λ b. eqb key (get_or keys n 0) || b) (seen_any key keys n (omega arith))

-- a number above them all is none of them
pub not_seen : {key most : ℕ} {keys : List ℕ} (n : ℕ) → AtMost keys n most → most < key → seen_in key keys n ≡ false
unfolding seen_in
not_seen zero a h = refl
not_seen {key} {keys = keys} (suc n) a h =
    rw (
      ne_eqb key (get_or keys n 0) (λ e. omega (arith, e, a.above n (omega arith))),
      not_seen n (record { above = λ j l. a.above j (omega arith) }) h,
    )

-- one key more
pub at_most_more : {keys : List ℕ} {n most k m : ℕ} → n < length keys → AtMost keys n most → most ≤ m → k ≤ m
    → AtMost (set keys n k) (n + 1) m
at_most_more {keys} {n} {most} {k} {m} room a h l = record { above = λ j s. go j s (ℕ_discrete j n) }
  where
    go : (j : ℕ) → j < n + 1 → Dec (j ≡ n) → get_or (set keys n k) j 0 ≤ m
    go j s (yes e) = rw (e, get_or-set_same keys n k 0 room) l
    go j s (no e) = rw (get_or-set_other keys n j k 0 e) (omega (arith, a.above j (omega arith)))

-- two keys are one number where stations and seasons agree
key_same : (a b k : ℕ) → b < 8 → eqb (packed a b) k ≡ (eqb a (k / 8) && eqb b (k % 8))
unfolding packed
key_same a b k h = go (ℕ_discrete (a * 8 + b) k) (ℕ_discrete a (k / 8))
  where
    go : Dec (a * 8 + b ≡ k) → Dec (a ≡ k / 8) → eqb (a * 8 + b) k ≡ (eqb a (k / 8) && eqb b (k % 8))
    go (yes e) q = rw (eq-eqb _ _ e, eq-eqb a (k / 8) (omega arith), eq-eqb b (k % 8) (omega arith))
    go (no e) (yes q) = rw (ne_eqb _ _ e, eq-eqb a (k / 8) q, ne_eqb b (k % 8) (λ r. e (omega arith)))
    go (no e) (no q) = rw (ne_eqb _ _ e, ne_eqb a (k / 8) q)

-- what the search finds is whether the key repeats
pub seen_repeats : {form : Form} (keyed : Keyed form) (v keys : List ℕ) (n : ℕ) → get_or v 1 0 < 8
    → seen_in (packed (get_or v 0 0) (get_or v 1 0)) keys n ≡ repeats form v (keys_of keys n)
unfolding seen_in repeats keys_of same_key named
seen_repeats keyed v keys zero h = refl
seen_repeats keyed v keys (suc n) h =
    let k = get_or keys n 0 in
    rw (
      seen_repeats keyed v keys n h,
      key_same (get_or v 0 0) (get_or v 1 0) k h,
      key_station keyed (k / 8) (k % 8),
      key_season keyed (k / 8)
          (k % 8),
      keyed.first,
      keyed.second,
    )

-- ---- keys and the values that they were kept of

-- what is kept of some values
unfoldable pub kept : Form → List ℕ → List ℕ
kept form v = key_of (named form v "station") (named form v "season")

module _ {form : Form} (keyed : Keyed form) where
  repeats_kept : (v : List ℕ) (earlier : List (List ℕ)) → repeats form v (map (kept form) earlier) ≡ repeats form v earlier
  unfolding repeats same_key kept
  repeats_kept v [] = refl
  repeats_kept v (e ∷ earlier) =
      rw (
        repeats_kept v earlier,
        key_station keyed (named form e "station") (named form e "season"),
        key_season keyed
            (named form e "station") (named form e "season"),
      )

  pub finding_kept : (at : List ℕ) (earlier fields : List (List ℕ))
      → line_finding form at (map (kept form) earlier) fields ≡ line_finding form at earlier fields
  unfolding line_finding
  finding_kept at earlier fields = rw (repeats_kept _ earlier)

-- a store past the first m keys leaves them
keys_past : (keys : List ℕ) (n x m : ℕ) → m ≤ n → keys_of (set keys n x) m ≡ keys_of keys m
unfolding keys_of
keys_past keys n x zero h = refl
keys_past keys n x (suc m) h = rw (get_or-set_other keys n m x 0 (λ e. omega (arith, e)), keys_past keys n x m (omega arith))

pub keys_more : (keys : List ℕ) (n a b : ℕ) → b < 8 → n < length keys → keys_of (set keys n (packed a b)) (n + 1) ≡ key_of a b ∷ keys_of keys n
unfolding keys_of packed
keys_more keys n a b few h =
    let s : (a * 8 + b) / 8 ≡ a = omega arith in
    let t : (a * 8 + b) % 8 ≡ b = omega arith in
    rw (add-one, get_or-set_same keys n (a * 8 + b) 0 h, s, t, keys_past keys n (a * 8 + b) n (omega arith))

-- ---- a sound line's key

in_ranges : (form : Form) (at v : List ℕ) → finding form at v ≡ found.Sound → out_of_range form at v ≡ 0
unfolding finding
in_ranges form at v h = go (eqb (out_of_range form at v) 0) refl h
  where
    go : (b : Bool) → eqb (out_of_range form at v) 0 ≡ b
        → cond b (disagreement form at v) (found.OutOfRange (out_of_range form at v)) ≡ found.Sound → out_of_range form at v ≡ 0
    go true t k = eqb-true _ 0 t
    go false t k = clash cc

pub key_fits : (form : CodeForm) {at : List ℕ} (v : List ℕ) → Placed (length (form_of form)) at → length v ≡ length (form_of form)
    → finding (form_of form) at v ≡ found.Sound → Keyable (get_or v 0 0) (get_or v 1 0)
unfolding form_of columns former_columns in_range range_at
key_fits form {at} v p l h =
    go form (in_range_at (form_of form) v l (in_range_lem (form_of form) at v p.count (some_columns at _ p.count p.some)
    (in_ranges (form_of form) at v h)))
  where
    few : (a b x : ℕ) → T (leb a x && leb x b) → x ≤ b
    few a b x t = leb→le x b (and_yes (leb a x) (leb x b) t).1

    go : (f : CodeForm) → ((i : ℕ) → T (in_range (range_at (form_of f) i) (get_or v i 0))) → Keyable (get_or v 0 0) (get_or v 1 0)
    go Present at =
        record { station_few = omega (arith, few _ _ (get_or v 0 0) (at 0)); season_few = omega (arith, few _ _ (get_or v 1 0) (at 1)) }
    go Former at =
        record { station_few = omega (arith, few _ _ (get_or v 0 0) (at 0)); season_few = omega (arith, few _ _ (get_or v 1 0) (at 1)) }
