-- `put_entries` puts entry after entry.
use mathlib.Core.{Path.{◌≡◌}, List.{[]}}
use lib.ListN.{get_or}
use Rattle.tables.{specs.Parts.{Filled}}
use Rattle.table_rows.specs.Rows.{stored_cases}
use Rattle.release.specs.{Licence.{entries_of}, Entry.{entry_length, release_of}}
use Rattle.release.proofs.put.put_entries.Given as goal

abbrev pub invariant-loop-i : goal.invariant-loop-i
invariant-loop-i l =
    Filled entry_length (λ k part. part ≡ get_or (release_of (entries_of l.licence) (stored_cases l.values l.n)) k []) l.i l.initial.table l.table
