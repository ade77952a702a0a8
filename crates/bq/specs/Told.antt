-- What is written for the entries of a schedule, from where a listing stands on: their lines until none is left, and the last line.
use Rattle.std.specs.Prelude.{◌≡◌, ℕ, false, List, ◌++◌, Option}
use Rattle.std.specs.Io.KnownBytes.{Appends}
use Rattle.listing.specs.declared.Listing.{Listing}
use Rattle.listing.specs.Pieces.{lines, last_line}

-- by a writer that held these bytes, where they are known, and holds those
abbrev pub TellsAll : List ℕ → Listing → Option (List ℕ) → Option (List ℕ) → Type 0
TellsAll s l held holds =
    (n : ℕ) × ((lines n s l).after.going ≡ false) × Appends held holds ((lines n s l).text ++ last_line (lines n s l).after)
