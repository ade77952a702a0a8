-- 01, "Refusal numbers", 9: the numbers that a set-up may have.
use Rattle.std.specs.Prelude.{ℕ, cond, ◌||◌, ltb, Err}
use Rattle.refusal.specs.declared.Refusal.TheVariants.{SetupOutOfRange}
use Rattle.refusal.specs.Verdicts.{Verdict, accepted}

-- thread or node number at set-up out of range; 1 to 8 threads, 2 to 512 nodes, the dummy among them
abbrev pub in_range : ℕ → ℕ → Verdict
in_range threads nodes = cond (ltb threads 1 || ltb 8 threads || ltb nodes 2 || ltb 512 nodes) (Err SetupOutOfRange) accepted
