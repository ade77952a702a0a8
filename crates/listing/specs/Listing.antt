-- 01, "Schedule bytes and listing": what the listing program prints for the bytes that it is given.
use Rattle.std.specs.Prelude.{ℕ, ◌+◌, List, [], ◌∷◌, ◌++◌, take, Err, Ok}
use Rattle.entry.specs.declared.Entry.{Entry}
use Rattle.schedule.specs.Read.{set_up_of, SetUpReading}
use Rattle.schedule.specs.Schedule.{Ending, ended, refused, Entries, entries_from}
use Rattle.machine.specs.declared.Machine.{Machine}
use Rattle.machine.specs.declared.Told.{Told}
use Rattle.machine.specs.State.{fresh_machine}
use Rattle.machine.specs.Entries.{apply}
use Rattle.contents.specs.Contents.{contents, depth}
use Rattle.line.specs.Text.{entry_text, set_up_text, refused_text, queue_text}

-- the line of the entry at a place, which gave this
abbrev pub entry_line : ℕ → Told → List ℕ
entry_line place told = entry_text place told.answer told.steps (depth told.machine)

-- refusals 10 to 12 get such a line too and end the entries; the depth as it stands
abbrev pub ending_line : Machine → ℕ → Ending → List ℕ
ending_line m place ended = []
ending_line m place (refused r) = entry_text place (Err r) 0 (depth m)

-- one line per entry, then the `queue` line
unfoldable pub entry_lines : Machine → ℕ → List Entry → Ending → List ℕ
entry_lines m place [] ending = ending_line m place ending ++ queue_text (contents m)
entry_lines m place (e ∷ es) ending = entry_line place (apply m e) ++ entry_lines (apply m e).machine (place + 1) es ending

abbrev pub all_lines : Machine → Entries → List ℕ
all_lines m es = entry_lines m 0 es.entries es.ending

abbrev pub after_set_up : List ℕ → SetUpReading → List ℕ
after_set_up s (Err r) = refused_text r
after_set_up s (Ok up) = set_up_text up.threads up.nodes ++ all_lines (fresh_machine up.threads up.nodes) (entries_from s up.next)

-- of longer input only the first 65,536 bytes count
abbrev pub counted : List ℕ → List ℕ
counted s = take 65536 s

unfoldable pub listing : List ℕ → List ℕ
listing s = after_set_up (counted s) (set_up_of (counted s))
