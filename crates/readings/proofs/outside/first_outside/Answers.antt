-- `first_outside` takes the place of the first pair that fails the test.
use Prim.Native.Nat.{ℕ, ◌+◌}
use mathlib.Core.{Path.{◌≡◌, refl, ◌∙◌}, List.{map}}
use Rattle.std.proofs.Common.{rules, tests, position}
use Rattle.std.proofs.lemmas.Iterator.{YieldsList-from_slice, Search.{position_from_yields_List}}
use Rattle.std.specs.{Option.{option_map}}
use Rattle.readings.specs.Reading.{pairs_of}
use Rattle.readings.proofs.{Pairs.{numbers, chunks_are}, Searching.{outside, found_at}}
use Rattle.readings.proofs.outside.first_outside.Goals as goal

pub returns : goal.returns
returns c =
    let s = c.args.readings.now in
    let ps = pairs_of s in
    let test = outside c.args.range c.args.column in
    let pairs = YieldsList-from_slice (map numbers ps) (c.iter.ensures.rest ∙ c.as_chunks.ensures.front ∙ chunks_are s _ refl) in
    let e : c.position.result ≡ position test (map numbers ps)
    = position_from_yields_List test _ _ _ c.position.ensures.ran pairs (λ x b q k. search (rules, tests)) in
    let f : c.map.result ≡ option_map (λ (k : ℕ). k + 1) c.position.result = search (rules, tests) in
    f ∙ rw e (found_at c.args.range c.args.column c.requires.0 c.requires.1 ps 1)
