-- An announcement that is met is run, and then the call goes back; past a plain head the call goes on to a place that the head determines.
use Rattle.std.specs.Prelude.{◌≡◌}
use Rattle.cells.specs.declared.Front.{Front}
use Rattle.cells.specs.declared.Head.{Head}
use Rattle.cells.specs.declared.Head.TheVariants.{Plain, Announced}
use Rattle.place.specs.declared.Place.{Place}
use Rattle.place.specs.declared.Place.TheVariants.{Running}
use Rattle.place.specs.declared.Resume.{Resume}
use Rattle.place.specs.declared.RunStep.TheVariants.{A1}
use Rattle.place.specs.declared.After.{After}
use Rattle.place.specs.declared.After.TheVariants as afterwards

abbrev pub Met : (Front → Place → Type 0) → Resume → Head → After → Type 0
Met goes_to k (Plain f) r = (p : Place) × goes_to f p × (r ≡ afterwards.On p)
Met goes_to k (Announced a) r = r ≡ afterwards.On (Running a A1 k)
