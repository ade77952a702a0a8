-- What a node's link and an announcement's old tail hold.
use Rattle.std.specs.Prelude.{ℕ, Option}
use Rattle.cells.specs.declared.Tail.{Tail}

-- the node that is linked behind, where there is one
abbrev pub Link : Type 0
Link = Option ℕ

-- the tail at which a batch was linked, once it is written
abbrev pub OldTail : Type 0
OldTail = Option Tail
