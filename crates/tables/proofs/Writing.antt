-- Writing part i of a table changes only its own part.
use Prim.Native.Nat.{ℕ, zero, suc, ◌+◌, ◌*◌, ◌-◌, ◌≤◌, ◌<◌}
use mathlib.Core.{Path.{◌≡◌, refl, sym, ap, subst, ◌∙◌}, List.{List, [], ◌∷◌, ◌++◌}}
use native.Mathlib.{Nat.{mul-le-mul_left}, Omega.{arith}}
use lib.{ListN.{length, take, drop}, Seq.{take_at, drop_at, length-take-le, take-take, drop-drop}}
use borrow.Rule.Slice.PartMut.{put_mid, post_of, same_len_mid, mid_len, take_put, drop_put}
use Rattle.tables.specs.Parts.{part_at, Written}

-- as many numbers put in the place of part i
pub put_written : {A : Type 0} (width i : ℕ) (t part : List A) → width * i + width ≤ length t → length part ≡ width
    → Written width i part t (put_mid (width * i) (width * i + width - width * i) t part)
put_written width i t part h r =
    let a = width * i in
    let e = a + width in
    record {
      size = same_len_mid a (e - a) t part (r ∙ sym (mid_len a e t h ∙ omega arith));
      part_is =
          ap (take width) (drop_at (take a t) (part ++ post_of a (e - a) t) a (length-take-le a t (omega arith)))
          ∙ take_at part (post_of a (e - a) t) width r;
      front = take_put a (e - a) t part (omega arith);
      back = drop_put a e t part (omega arith) h (r ∙ omega arith);
    }

-- the same, where the width has another name
pub put_written_as : {A : Type 0} {width : ℕ} (w i : ℕ) (t part : List A) → w ≡ width → w * i + w ≤ length t → length part ≡ width
    → Written width i part t (put_mid (w * i) (w * i + w - w * i) t part)
put_written_as w i t part e h r =
    subst (λ (k : ℕ). Written k i part t (put_mid (w * i) (w * i + w - w * i) t part)) e (put_written w i t part h (r ∙ sym e))

pub part_of_front : {A : Type 0} (k a m : ℕ) (l : List A) → a + k ≤ m → take k (drop a (take m l)) ≡ take k (drop a l)
part_of_front k zero m l h = take-take k m l (omega arith)
part_of_front k (suc a) zero l h = absurd (omega arith)
part_of_front k (suc a) (suc m) [] h = refl
part_of_front k (suc a) (suc m) (x ∷ l) h = part_of_front k a m l (omega arith)

-- a part before part i ends where part i begins, or before
pub part_before : (width i j : ℕ) → j < i → width * j + width ≤ width * i
part_before width i j h = omega (arith, mul-le-mul_left width h)

-- the parts before part i are kept
pub part_kept : {A : Type 0} {width i : ℕ} {part t u : List A} (j : ℕ) → Written width i part t u → j < i
    → part_at width u j ≡ part_at width t j
part_kept {A} {width} {i} {t = t} {u} j w h =
    let l = part_before width i j h in
    sym (part_of_front width (width * j) (width * i) u l) ∙ ap (λ (s : List A). take width (drop (width * j) s)) w.front
    ∙ part_of_front width (width * j) (width * i) t l

-- what lies past part i is kept, where what lies past the parts before it was
pub rest_kept : {A : Type 0} {width n : ℕ} {part u w : List A} (t : List A) → Written width n part u w
    → drop (width * n) u ≡ drop (width * n) t → drop (width * (n + 1)) w ≡ drop (width * (n + 1)) t
rest_kept {width = width} {n} {u = u} {w} t r f =
    ap (λ (k : ℕ). drop k w) next ∙ r.back ∙ sym (drop-drop width (width * n) u) ∙ ap (drop width) f ∙ drop-drop width (width * n) t
    ∙ ap (λ (k : ℕ). drop k t) (sym next)
  where
    next : width * (n + 1) ≡ width * n + width
    next = omega arith
