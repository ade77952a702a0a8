-- What an entry may hand out. 01, "What the machine is": nodes, futures and announcements are handed out in number order, each once.
use Rattle.std.specs.Prelude.{ℕ, ◌≡◌, ◌⊎◌}
use Rattle.tally.specs.Tally.{up}
use Rattle.next.specs.declared.Used.{Used}

-- a count as it was, or one handed out
abbrev pub AtMostOne : ℕ → ℕ → Type 0
AtMostOne a b = (b ≡ a) ⊎ (b ≡ up a)

pub record HandsOut (u v : Used) : Type 0 where
  pub nodes : AtMostOne u.nodes v.nodes
  pub futures : AtMostOne u.futures v.futures
  pub announcements : AtMostOne u.announcements v.announcements
