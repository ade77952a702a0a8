-- The number of groups that may still follow falls with each call.
use Rattle.numbers.proofs.+read_following.Given as goal

abbrev pub decreases-read_following : goal.decreases-read_following
decreases-read_following l = l.left
